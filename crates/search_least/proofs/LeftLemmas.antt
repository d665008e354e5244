-- What a log tells after an error in a search for least values.
use Rattle.std.proofs.Common.{◌≡◌, ◌≤◌, ℕ, Bool, true, false, List, [], ◌∷◌, ◌++◌, refl, sym, ◌∙◌, ap, subst, arith, append-nil, append_assoc}
use Rattle.std.specs.Prelude.{Option, Some, None, cond, length, flat_map, min, slice_get}
use Rattle.plan_core.specs.declared.criterion.Criterion.{Criterion}
use Rattle.plan_core.specs.Drawing.{Drawing}
use Rattle.plan_core.specs.Values.{values_of}
use Rattle.plan_core.specs.Order.{IsOrder}
use Rattle.refute_log.specs.declared.line.LogLine.TheVariants.{Model}
use Rattle.refute_log.specs.declared.stop.Stop.{Stop}
use Rattle.refute_log.specs.Told.{Lines}
use Rattle.refute_log.specs.Log.{learnt, Derives, clause_lines}
use Rattle.refute_log.specs.Expected.{same_criterion, bound_vars, caps, expected_lines, sum_lines, with_cap}
use Rattle.refute_log.specs.Steps.{ToldBehind, Continues, IsLeft, Leaves}
use Rattle.refute_log.proofs.ExpectedLemmas.{same_tells, with_cap_here}
use Rattle.refute_log.proofs.StepLemmas.{becomes, leaves_later, few_left, counted_within}
use Rattle.search_least.specs.declared.oracle.Below.{Below}
use Rattle.search_least.specs.declared.oracle.Built.{Built}
use Rattle.search_least.specs.declared.oracle.Built.TheVariants.{Whole}
use Rattle.search_least.specs.declared.oracle.Reply.{Reply}
use Rattle.search_least.specs.declared.oracle.Reply.TheVariants.{Found}
use Rattle.search_least.specs.Task.{Task, IsLawful, greatest_of}
use Rattle.search_least.specs.Asked.{IsAsked, IsReply, IsRightReply, AreMet}
use Rattle.search_least.specs.Built.{IsBuild}
use Rattle.search_least.specs.Outcome.{IsLeastLeft, first_lines}
use Rattle.search_least.specs.State.{Counted, IsCapOf, SearchState, BoundedTo, LeavesSearch}
use Rattle.search_least.proofs.BuildLemmas.{expected_built, formulas_are_clauses, sum_is_clauses}
use Rattle.search_least.proofs.OutcomeLemmas.{zero_told, first_state}

-- the caps of a log are at most the greatest values
caps_within : (p : Task) (lines : Lines) (c : Criterion) (n : ℕ) → caps (greatest_of p) lines c ≡ n → n ≤ greatest_of p c
caps_within p lines c n is = let e : min (length (bound_vars c lines)) (greatest_of p c) ≡ n = is in omega (arith, e)

-- with one more they still are
cap_within : (greatest cap : Criterion → ℕ) (c : Criterion) (n : ℕ) → n ≤ greatest c → ((d : Criterion) → cap d ≤ greatest d) → (d : Criterion) →
    with_cap cap c n d ≤ greatest d
cap_within greatest cap c n le each d = by (same_criterion c d) refl
  where
    by : (b : Bool) → same_criterion c d ≡ b → with_cap cap c n d ≤ greatest d
    by true e = subst (λ (m : Criterion). with_cap cap c n m ≤ greatest m) (same_tells c d e) (let h = with_cap_here cap c n in omega (arith, h, le))
    by false e = let h : with_cap cap c n d ≡ cap d = ap (λ b. cond b n (cap d)) e in let l = each d in omega (arith, h, l)

-- behind the lines that were expected with one cap the first of those that are expected with the next
left_over : (p : Task) (order : List Criterion) (cap now : Criterion → ℕ) (xs lines told : Lines) → ((c : Criterion) → now c ≤ greatest_of p c) →
    clause_lines lines ≡ expected_lines p.encoding order cap → expected_lines p.encoding order now ≡ expected_lines p.encoding order cap ++ xs →
    length (flat_map learnt lines) ≤ p.budget → IsLeft p.budget xs lines told → IsLeastLeft p order told
left_over p order cap now xs lines told within before is spent left =
    let rest = left.begins.0 in
    record {
      derives = left.derives;
      cap = now;
      capped = within;
      begins = (
        rest,
        is ∙ ap (λ (ls : Lines). ls ++ xs) (sym before) ∙ ap (λ (ls : Lines). clause_lines lines ++ ls) left.begins.1
            ∙ sym (append_assoc (clause_lines lines) left.front rest) ∙ ap (λ (ls : Lines). ls ++ rest) (sym left.gives),
      );
      within = few_left p.budget p.budget lines told (omega arith) spent left.few;
    }

-- the lines that are known have no more Learnt lines than the budget allows
abbrev pub IsSpentWithin : Task → (Lines → Type 0) → Type 0
IsSpentWithin p known = (lines : Lines) → known lines → length (flat_map learnt lines) ≤ p.budget

-- the lines that are known have these caps
abbrev pub HasCaps : Task → (Criterion → ℕ) → (Lines → Type 0) → Type 0
HasCaps p cap known = (lines : Lines) (c : Criterion) → known lines → caps (greatest_of p) lines c ≡ cap c

-- an error in the bounds of the criterion at place i
pub built_left : (p : Task) (order : List Criterion) (i : ℕ) (c : Criterion) (n : ℕ) (held : List Below) (d : Drawing) (cap : Criterion → ℕ) (vars : ℕ)
    (known old new : Lines → Type 0) → IsOrder order → slice_get order i ≡ Some c → IsCapOf p c (values_of d) n → HasCaps p cap known →
    IsSpentWithin p known → Counted p order i cap vars →
    Leaves p.budget (sum_lines p.encoding vars c n) known old new → LeavesSearch p order (SearchState p order i held d cap) known old new
built_left p order i c n held d cap vars known old new is at capped counted spent k h = λ lines knows was told tells.
    let le : n ≤ greatest_of p c = (let e = capped.is in omega (arith, e)) in
    let left = h lines knows was told tells in (
      left.derives,
      λ state. left_over p order cap (with_cap cap c n) (sum_lines p.encoding vars c n) lines told
          (cap_within (greatest_of p) cap c n le (λ m. caps_within p lines m (cap m) (counted lines m knows))) state.told
          (expected_built p order i c n cap vars is at k) (spent lines knows) left,
    )

-- an error behind them
pub asked_left : {S : Type 0} (knows log : S → Lines → Type 0) (count : S → ℕ) (a b e : S) (q p : Task) (order : List Criterion) (i : ℕ) (c : Criterion) (n : ℕ)
    (held : List Below) (d : Drawing) (cap : Criterion → ℕ) (vars : ℕ) (built : Built) →
    IsOrder order → slice_get order i ≡ Some c → IsCapOf p c (values_of d) n → HasCaps p cap (knows a) → IsSpentWithin p (knows a) →
    Counted p order i cap vars → built ≡ Whole → Continues knows log count a b (λ lines more. IsBuild p vars c n built lines more) →
    IsSpentWithin q (knows b) → q ≡ p → Leaves q.budget [] (knows b) (log b) (log e) →
    LeavesSearch p order (SearchState p order i held d cap) (knows a) (log a) (log e)
asked_left knows log count a b e q p order i c n held d cap vars built is at capped counted spent k was run within same h =
    let xs = sum_lines p.encoding vars c n in
    built_left p order i c n held d cap vars (knows a) (log a) (log e) is at capped counted spent k
    (subst (λ (ls : Lines). Leaves p.budget ls (knows a) (log a) (log e)) (append-nil xs)
    (leaves_later knows log count a b e (λ lines more. IsBuild p vars c n built lines more) xs [] run
    (λ lines more r. ap clause_lines (subst (λ (x : Built). IsBuild p vars c n x lines more) was r) ∙ sum_is_clauses p.encoding vars c n) within
    (ap (λ (x : Task). x.budget) same) h))

-- the whole of what is expected, with nothing behind it
left_whole : (p : Task) (order : List Criterion) (cap : Criterion → ℕ) (lines : Lines) → Derives lines → ((c : Criterion) → cap c ≤ greatest_of p c) →
    clause_lines lines ≡ expected_lines p.encoding order cap → length (flat_map learnt lines) ≤ p.budget → IsLeastLeft p order lines
left_whole p order cap lines derives within is spent = record {
  derives = derives;
  cap = cap;
  capped = within;
  begins = ([], sym is ∙ sym (append-nil (clause_lines lines)));
  within = counted_within p.budget lines spent;
}

-- an error that tells nothing, once the place's least value is found or the search stopped
pub bounded_left : {S : Type 0} (knows log : S → Lines → Type 0) (count : S → ℕ) (a e : S) (p : Task) (order : List Criterion) (i : ℕ) (held : List Below)
    (stop : Option Stop) (s : ℕ) (first d : Drawing) (cap now : Criterion → ℕ) →
    ((lines : Lines) → knows e lines → Derives lines) → ((x y : Lines) → log e x → log e y → x ≡ y) → HasCaps p now (knows e) →
    IsSpentWithin p (knows e) → Continues knows log count a e (λ lines more. SearchState p order i held first cap lines → BoundedTo p order i held stop s d
    now (lines ++ more)) →
    LeavesSearch p order (SearchState p order i held first cap) (knows a) (log a) (log e)
bounded_left knows log count a e p order i held stop s first d cap now derives one counted spent run = λ lines k was told is.
    let t : ToldBehind (knows e) (log a) (log e) (count a) (count e) lines (λ more. SearchState p order i held first cap lines → BoundedTo p order i held stop s
    d now (lines ++ more)) = run lines k in
    let all = lines ++ t.more in
    let same : all ≡ told = one all told (t.told lines was) is in
    (subst Derives same (derives all t.knows), λ state. subst (IsLeastLeft p order) same (by stop all t.knows (t.does state)))
  where
    by : (stop : Option Stop) (lines : Lines) → knows e lines → BoundedTo p order i held stop s d now lines → IsLeastLeft p order lines
    by None lines k b = left_whole p order now lines (derives lines k) (λ c. caps_within p lines c (now c) (counted lines c k)) b.1 (spent lines k)
    by (Some x) lines k b = left_whole p order (caps (greatest_of p) lines) lines (derives lines k) (λ c. caps_within p lines c _ refl) b.told (spent lines k)

-- an error in a later call
pub search_later : {S : Type 0} (knows log : S → Lines → Type 0) (count : S → ℕ) (a b e : S) (q p : Task) (order : List Criterion) (P : Lines → Type 0)
    (Q : Task → Lines → Type 0) → q ≡ p →
    Continues knows log count a b (λ lines more. P lines → Q p (lines ++ more)) → LeavesSearch q order (Q q) (knows b) (log b) (log e) →
    LeavesSearch p order P (knows a) (log a) (log e)
search_later knows log count a b e q p order P Q same run h = λ lines k was told is.
    let t : ToldBehind (knows b) (log a) (log b) (count a) (count b) lines (λ more. P lines → Q p (lines ++ more)) = run lines k in
    let after : LeavesSearch p order (Q p) (knows b) (log b) (log e) = subst (λ (x : Task). LeavesSearch x order (Q x) (knows b) (log b) (log e)) same h in
    let left = after (lines ++ t.more) t.knows (t.told lines was) told is in
    (left.0, λ so. left.1 (t.does so))

-- an error in the first question
pub first_left : (p : Task) (order : List Criterion) (cap : Criterion → ℕ) (known old new : Lines → Type 0) → ((c : Criterion) → cap c ≡ 0) →
    IsSpentWithin p known → Leaves p.budget [] known old new → LeavesSearch p order (λ lines. lines ≡ first_lines p) known old new
first_left p order cap known old new z spent h = λ lines k was told tells.
    let left = h lines k was told tells in (
      left.derives,
      λ is. left_over p order cap cap [] lines told (λ c. let e = z c in omega (arith, e))
          (ap clause_lines is ∙ formulas_are_clauses p.encoding.clauses ∙ sym (zero_told p order cap z))
          (sym (append-nil (expected_lines p.encoding order cap))) (spent lines k) left,
    )

-- a first drawing was found
pub first_goes : {S : Type 0} (knows log : S → Lines → Type 0) (count : S → ℕ) (a b : S) (p : Task) (order : List Criterion) (d : Drawing) (reply : Reply)
    (f : Criterion → ℕ) → ((c : Criterion) → f c ≡ 0) → reply ≡ Found d → IsRightReply p [] reply →
    Continues knows log count a b (λ lines more. IsReply p lines [] reply more) →
    Continues knows log count a b (λ lines more. lines ≡ first_lines p → SearchState p order 0 [] d f (lines ++ more))
first_goes knows log count a b p order d reply f z was fact asked =
    becomes knows log count a b (λ lines more. IsReply p lines [] reply more) (λ lines more. lines ≡ first_lines p → SearchState p order 0 [] d f
    (lines ++ more)) asked
    (λ lines xs ka kb answer start.
    let got : IsLawful p d × AreMet (values_of d) [] = subst (IsRightReply p []) was fact in
    let question : IsAsked (first_lines p) [] (Model ∷ []) xs = subst (λ (ls : Lines). IsAsked ls [] (Model ∷ []) xs) start
    (subst (λ r. IsReply p lines [] r xs) was answer) in
    subst (λ (ls : Lines). SearchState p order 0 [] d f (ls ++ xs)) (sym start) (first_state p order d f xs z got.0 question))
