-- What a log tells after an error in a search for the front.
use Rattle.std.proofs.Common.{◌≡◌, ℕ, ◌+◌, List, [], ◌∷◌, ◌++◌, refl, sym, ◌∙◌, ap, subst, arith, append-nil, append_assoc}
use Rattle.plan_core.specs.declared.criterion.Criterion.{Criterion}
use Rattle.refute_log.specs.Told.{Lines}
use Rattle.refute_log.specs.Log.{Derives, clause_lines}
use Rattle.refute_log.specs.Steps.{ToldBehind, Continues, Leaves}
use Rattle.refute_log.proofs.StepLemmas.{leaves_later, leaves_most, leaves_same, few_left}
use Rattle.refute_log.specs.Expected.{sum_lines, sum_vars_of, sums}
use Rattle.search_least.specs.declared.oracle.Below.{Below}
use Rattle.search_least.specs.declared.oracle.Reply.{Reply}
use Rattle.search_least.specs.declared.oracle.Built.{Built}
use Rattle.search_least.specs.declared.oracle.Built.TheVariants.{Whole as AllOfThem}
use Rattle.search_least.specs.Task.{Task, greatest_of}
use Rattle.search_least.specs.Asked.{IsReply}
use Rattle.search_least.specs.Built.{IsBuild}
use Rattle.search_least.specs.Outcome.{first_lines}
use Rattle.search_least.proofs.LeftLemmas.{IsSpentWithin}
use Rattle.search_least.proofs.BuildLemmas.{formulas_are_clauses, sum_is_clauses}
use Rattle.trade_off.specs.Least.{AreAsked}
use Rattle.trade_off.specs.Outcome.{front_lines, IsFrontLeft, IsBuiltFront}
use Rattle.trade_off.proofs.AskLemmas.{reply_clauses}

-- what is spent is within the same budget
spent_still : (q p : Task) (known : Lines → Type 0) → q ≡ p → IsSpentWithin q known → IsSpentWithin p known
spent_still q p known same within = subst (λ (x : Task). IsSpentWithin x known) same within

-- ---- questions tell no clauses

-- an error behind questions: in a later call, or in one that tells nothing
pub asked_later : {S : Type 0} (knows log : S → Lines → Type 0) (count : S → ℕ) (a b e : S) (q p : Task) (BeginsSo EndsSo : Lines → Type 0) →
    Continues knows log count a b (AreAsked p BeginsSo EndsSo) → IsSpentWithin q (knows b) → q ≡ p → Leaves q.budget [] (knows b) (log b) (log e) →
    Leaves p.budget [] (knows a) (log a) (log e)
asked_later knows log count a b e q p BeginsSo EndsSo run within same after =
    leaves_later knows log count a b e (AreAsked p BeginsSo EndsSo) [] [] run (λ lines more h. h.none) within (ap (λ (x : Task). x.budget) same) after

pub asked_here : {S : Type 0} (knows log : S → Lines → Type 0) (count : S → ℕ) (a b : S) (q p : Task) (BeginsSo EndsSo : Lines → Type 0) →
    Continues knows log count a b (AreAsked p BeginsSo EndsSo) → IsSpentWithin q (knows b) → q ≡ p → ((lines : Lines) → knows b lines → Derives lines) →
    ((x y : Lines) → log b x → log b y → x ≡ y) → Leaves p.budget [] (knows a) (log a) (log b)
asked_here knows log count a b q p BeginsSo EndsSo run within same derives one =
    asked_later knows log count a b b q p BeginsSo EndsSo run within same (leaves_same (knows b) (log b) derives one)

pub replied_later : {S : Type 0} (knows log : S → Lines → Type 0) (count : S → ℕ) (a b e : S) (q p : Task) (bounds : List Below) (reply : Reply) →
    Continues knows log count a b (λ lines more. IsReply p lines bounds reply more) → IsSpentWithin q (knows b) → q ≡ p →
    Leaves q.budget [] (knows b) (log b) (log e) → Leaves p.budget [] (knows a) (log a) (log e)
replied_later knows log count a b e q p bounds reply run within same after =
    leaves_later knows log count a b e (λ lines more. IsReply p lines bounds reply more) [] [] run (λ lines more h. reply_clauses p lines bounds reply more h)
    within (ap (λ (x : Task). x.budget) same) after

-- ---- the bounds of both criteria

pub both_left : {S : Type 0} (knows log : S → Lines → Type 0) (count : S → ℕ) (s t e : S) (q p : Task) (a b : Criterion) (vars many : ℕ) (first : Built) →
    q ≡ p → first ≡ AllOfThem →
    many ≡ vars + sum_vars_of p.encoding vars a (greatest_of p a) →
    Continues knows log count s t (λ lines more. IsBuild p vars a (greatest_of p a) first lines more) →
    IsSpentWithin q (knows t) → Leaves 0 (sum_lines q.encoding many b (greatest_of q b)) (knows t) (log t) (log e) →
    Leaves p.budget (sums p.encoding vars (a ∷ b ∷ []) (greatest_of p)) (knows s) (log s) (log e)
both_left knows log count s t e q p a b vars many first same was size f within h =
    let xs = sum_lines p.encoding vars a (greatest_of p a) in
    let ys = sum_lines p.encoding (vars + sum_vars_of p.encoding vars a (greatest_of p a)) b (greatest_of p b) in
    let second : Leaves p.budget ys (knows t) (log t) (log e) =
    subst (λ v. Leaves p.budget (sum_lines p.encoding v b (greatest_of p b)) (knows t) (log t) (log e)) size
    (subst (λ (x : Task). Leaves x.budget (sum_lines x.encoding many b (greatest_of x b)) (knows t) (log t) (log e)) same
    (leaves_most 0 q.budget (sum_lines q.encoding many b (greatest_of q b)) (knows t) (log t) (log e) (omega arith) h)) in
    subst (λ (zs : Lines). Leaves p.budget (xs ++ zs) (knows s) (log s) (log e)) (sym (append-nil ys))
    (leaves_later knows log count s t e (λ lines more. IsBuild p vars a (greatest_of p a) first lines more) xs ys f
    (λ lines more r. ap clause_lines (subst (λ (x : Built). IsBuild p vars a (greatest_of p a) x lines more) was r)
    ∙ sum_is_clauses p.encoding vars a (greatest_of p a)) (spent_still q p (knows t) same within) refl second)

-- ---- the whole search

pub build_left : {S : Type 0} (knows log : S → Lines → Type 0) (s e : S) (p : Task) (a b : Criterion) (vars : ℕ) → vars ≡ p.encoding.vars →
    knows s (first_lines p) → IsSpentWithin p (knows s) →
    Leaves p.budget (sums p.encoding vars (a ∷ b ∷ []) (greatest_of p)) (knows s) (log s) (log e) → log s (first_lines p) → (lines : Lines) → log e lines →
    IsFrontLeft p a b lines
build_left knows log s e p a b vars start known spent h = λ told lines is.
    let left = h (first_lines p) known told lines is in
    let rest = left.begins.0 in
    record {
      derives = left.derives;
      begins = (
        rest,
        ap (λ v. first_lines p ++ sums p.encoding v (a ∷ b ∷ []) (greatest_of p)) (sym start)
            ∙ ap (λ (ls : Lines). first_lines p ++ ls) left.begins.1
            ∙ sym (append_assoc (first_lines p) left.front rest)
            ∙ ap (λ (ls : Lines). ls ++ rest) (ap (λ (ls : Lines). ls ++ left.front) (sym (formulas_are_clauses p.encoding.clauses)) ∙ sym left.gives),
      );
      within = few_left p.budget p.budget (first_lines p) lines (omega arith) (spent (first_lines p) known) left.few;
    }

pub collect_left : {S : Type 0} (knows log : S → Lines → Type 0) (count : S → ℕ) (s t e : S) (p : Task) (a b : Criterion) (r : Built) → r ≡ AllOfThem →
    knows s (first_lines p) →
    Continues knows log count s t (λ lines more. lines ≡ first_lines p → IsBuiltFront p a b r (lines ++ more)) →
    IsSpentWithin p (knows t) → Leaves p.budget [] (knows t) (log t) (log e) → log s (first_lines p) → (lines : Lines) → log e lines → IsFrontLeft p a b lines
collect_left knows log count s t e p a b r was known run spent h = λ told lines is.
    let first : ToldBehind (knows t) (log s) (log t) (count s) (count t) (first_lines p)
    (λ more. first_lines p ≡ first_lines p → IsBuiltFront p a b r (first_lines p ++ more)) = run (first_lines p) known in
    let now = first_lines p ++ first.more in
    let built : IsBuiltFront p a b AllOfThem now = subst (λ (x : Built). IsBuiltFront p a b x now) was (first.does refl) in
    let whole : clause_lines now ≡ front_lines p a b = built.1 in
    let left = h now first.knows (first.told (first_lines p) told) lines is in
    let rest = left.begins.0 in
    record {
      derives = left.derives;
      begins = (
        rest,
        sym (append-nil (front_lines p a b)) ∙ ap (λ (ls : Lines). front_lines p a b ++ ls) left.begins.1
            ∙ sym (append_assoc (front_lines p a b) left.front rest)
            ∙ ap (λ (ls : Lines). ls ++ rest) (ap (λ (ls : Lines). ls ++ left.front) (sym whole) ∙ sym left.gives),
      );
      within = few_left p.budget p.budget now lines (omega arith) (spent now first.knows) left.few;
    }
