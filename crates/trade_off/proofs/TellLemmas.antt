-- The lines of a search for the front.
use Rattle.std.proofs.Common.{◌≡◌, ◌≢◌, ℕ, ◌+◌, ◌<◌, ◌≤◌, Bool, true, false, cond, List, [], ◌∷◌, ◌++◌, length, refl, sym, ◌∙◌, ap, subst, inl, inr, arith}
use Rattle.std.proofs.Common.{append-nil, append_assoc}
use Rattle.std.specs.Prelude.{flat_map}
use Rattle.std.proofs.lemmas.Grind.{flat_map-append}
use Rattle.plan_core.specs.declared.criterion.Criterion.{Criterion}
use Rattle.cnf_core.specs.Clause.{Clauses, words_of}
use Rattle.refute_log.specs.Lines.{MayAllBeTold}
use Rattle.refute_log.specs.declared.line.LogLine.{LogLine}
use Rattle.refute_log.specs.Told.{Lines}
use Rattle.refute_log.specs.Log.{added, given, learnt, Derives, Due, BeginsLines, clause_lines}
use Rattle.refute_log.specs.Bounds.{CoversDrawings}
use Rattle.refute_log.specs.Expected.{sum_lines, sum_vars_of, with_cap, same_criterion}
use Rattle.refute_log.specs.Full.{CapsPass}
use Rattle.refute_log.proofs.ExpectedLemmas.{same_tells, with_cap_here, with_cap_other}
use Rattle.search_least.specs.declared.oracle.Below.{Below}
use Rattle.search_least.specs.declared.oracle.Built.{Built}
use Rattle.search_least.specs.declared.oracle.Built.TheVariants.{Whole as AllOfThem, NoRoom}
use Rattle.search_least.specs.Task.{Task, greatest_of}
use Rattle.search_least.specs.Built.{SumPasses, IsBuild, AreBuiltTo}
use Rattle.search_least.specs.Outcome.{first_lines}
use Rattle.refute_log.specs.Steps.{ToldBehind, Continues}
use Rattle.refute_log.proofs.StepLemmas.{stays, goes_on, becomes, clause_lines_append}
use Rattle.search_least.proofs.BuildLemmas.{formulas_are_clauses, sum_is_clauses}
use Rattle.trade_off.specs.declared.outcome.FrontEnd.{FrontEnd}
use Rattle.trade_off.specs.declared.outcome.FrontEnd.TheVariants.{Whole, Empty, Conflicts, Room}
use Rattle.search_least.specs.Placed.{EachBehind, IsUnderBounds, AreUnderBounds}
use Rattle.search_least.proofs.PlacedLemmas.{TakesClauses, sums_anywhere, first_anywhere, clauses_under_bounds}
use Rattle.trade_off.specs.Least.{IsNoLess, MayComeBehind, IsFoundBeside, HaveComeTo, AreAsked}
use Rattle.trade_off.specs.Outcome.{front_lines, HasNoRoomToAsk, IsFrontCause, IsFrontLog, IsBuiltFront, EndsFront}
use Rattle.trade_off.specs.Front.{Pairs}

-- ---- the lines of both criteria

-- the first criterion's lines, and then the second's
abbrev first_sum : Task → Criterion → Lines
first_sum p a = sum_lines p.encoding p.encoding.vars a (greatest_of p a)

abbrev second_vars : Task → Criterion → ℕ
second_vars p a = p.encoding.vars + sum_vars_of p.encoding p.encoding.vars a (greatest_of p a)

abbrev second_sum : Task → Criterion → Criterion → Lines
second_sum p a b = sum_lines p.encoding (second_vars p a) b (greatest_of p b)

pub front_is : (p : Task) (a b : Criterion) → front_lines p a b ≡ first_lines p ++ (first_sum p a ++ second_sum p a b)
front_is p a b = ap (λ (ls : Lines). first_lines p ++ (first_sum p a ++ ls)) (append-nil (second_sum p a b))

clauses_of_first : (p : Task) → clause_lines (first_lines p) ≡ first_lines p
clauses_of_first p = formulas_are_clauses p.encoding.clauses

told_first : (p : Task) (a : Criterion) → clause_lines (first_lines p ++ first_sum p a) ≡ first_lines p ++ first_sum p a
told_first p a = clause_lines_append (first_lines p) (first_sum p a)
    ∙ ap (λ (ls : Lines). ls ++ clause_lines (first_sum p a)) (clauses_of_first p)
    ∙ ap (λ (ls : Lines). first_lines p ++ ls) (sum_is_clauses p.encoding p.encoding.vars a (greatest_of p a))

told_both : (p : Task) (a b : Criterion) → clause_lines (first_lines p ++ (first_sum p a ++ second_sum p a b)) ≡ front_lines p a b
told_both p a b =
    ap clause_lines (sym (append_assoc (first_lines p) (first_sum p a) (second_sum p a b)))
    ∙ clause_lines_append (first_lines p ++ first_sum p a) (second_sum p a b)
    ∙ ap (λ (ls : Lines). ls ++ clause_lines (second_sum p a b)) (told_first p a)
    ∙ ap (λ (ls : Lines). (first_lines p ++ first_sum p a) ++ ls) (sum_is_clauses p.encoding (second_vars p a) b (greatest_of p b))
    ∙ append_assoc (first_lines p) (first_sum p a) (second_sum p a b)
    ∙ sym (front_is p a b)

pub words_front : (xs ys : Lines) → words_of (flat_map given xs) ≤ words_of (flat_map given (xs ++ ys))
words_front xs ys = subst (λ (cs : Clauses). words_of (flat_map given xs) ≤ words_of cs) (sym (flat_map-append given xs ys))
    (by (flat_map given xs) (flat_map given ys))
  where
    by : (cs ds : Clauses) → words_of cs ≤ words_of (cs ++ ds)
    by [] ds = omega arith
    by (c ∷ cs) ds = let h = by cs ds in omega (arith, h)

-- no room for the first criterion's lines, or for the second's
first_passes : (p : Task) (a b : Criterion) (lines : Lines) → lines ≡ first_lines p → SumPasses p p.encoding.vars a (greatest_of p a) lines →
    CapsPass p.encoding (a ∷ b ∷ []) lines p.room (greatest_of p)
first_passes p a b lines is (inl h) = inl (let x = second_vars p a in let y = sum_vars_of p.encoding x b (greatest_of p b) in omega (arith, h))
first_passes p a b lines is (inr h) =
    let told : clause_lines lines ≡ first_lines p = ap clause_lines is ∙ clauses_of_first p in
    let one : clause_lines lines ++ first_sum p a ≡ first_lines p ++ first_sum p a = ap (λ (ls : Lines). ls ++ first_sum p a) told in
    let le : words_of (flat_map given (first_lines p ++ first_sum p a)) ≤ words_of (flat_map given (front_lines p a b)) =
    subst (λ (ls : Lines). words_of (flat_map given (first_lines p ++ first_sum p a)) ≤ words_of (flat_map given ls))
    (append_assoc (first_lines p) (first_sum p a) (second_sum p a b) ∙ sym (front_is p a b))
    (words_front (first_lines p ++ first_sum p a) (second_sum p a b)) in
    let g : p.room < words_of (flat_map given (first_lines p ++ first_sum p a)) + words_of (flat_map learnt lines) = subst
    (λ (ls : Lines). p.room < words_of (flat_map given ls) + words_of (flat_map learnt lines)) one h in
    inr (omega (arith, le, g))

second_passes : (p : Task) (a b : Criterion) (lines : Lines) → lines ≡ first_lines p ++ first_sum p a →
    SumPasses p (second_vars p a) b (greatest_of p b) lines → CapsPass p.encoding (a ∷ b ∷ []) lines p.room (greatest_of p)
second_passes p a b lines is (inl h) = inl h
second_passes p a b lines is (inr h) =
    let told : clause_lines lines ≡ first_lines p ++ first_sum p a = ap clause_lines is ∙ told_first p a in
    let one : clause_lines lines ++ second_sum p a b ≡ front_lines p a b = ap (λ (ls : Lines). ls ++ second_sum p a b) told
    ∙ append_assoc (first_lines p) (first_sum p a) (second_sum p a b) ∙ sym (front_is p a b) in
    inr (subst (λ (ls : Lines). p.room < words_of (flat_map given ls) + words_of (flat_map learnt lines)) one h)

-- they may stand in a search under bounds, and are no queries
first_placed : (IsSo : Lines → LogLine → Type 0) (p : Task) (a : Criterion) → TakesClauses IsSo → EachBehind IsSo (first_lines p ++ first_sum p a)
first_placed IsSo p a takes = sums_anywhere IsSo (first_lines p) p.encoding p.encoding.vars a (greatest_of p a) takes (first_anywhere IsSo p takes)

second_placed : (IsSo : Lines → LogLine → Type 0) (p : Task) (a b : Criterion) → TakesClauses IsSo →
    EachBehind IsSo ((first_lines p ++ first_sum p a) ++ second_sum p a b)
second_placed IsSo p a b takes = sums_anywhere IsSo (first_lines p ++ first_sum p a) p.encoding (second_vars p a) b (greatest_of p b) takes
    (first_placed IsSo p a takes)

no_queries : (c : Criterion) → TakesClauses (IsNoLess c [])
no_queries c = record { formula = λ before k. tt; bound = λ before d n x. tt }

no_models : (Such : List Below → Type 0) → TakesClauses (IsFoundBeside Such)
no_models Such = record { formula = λ before k. tt; bound = λ before d n x. tt }

-- ---- both are told, or a front of them

begins_first : (p : Task) (a b : Criterion) (lines : Lines) → lines ≡ first_lines p → BeginsLines (clause_lines lines) (front_lines p a b)
begins_first p a b lines is = (
  first_sum p a ++ second_sum p a b,
  front_is p a b ∙ ap (λ (ls : Lines). ls ++ (first_sum p a ++ second_sum p a b))
      (sym (ap clause_lines is ∙ clauses_of_first p)),
)

begins_second : (p : Task) (a b : Criterion) (lines : Lines) → lines ≡ first_lines p ++ first_sum p a → BeginsLines (clause_lines lines) (front_lines p a b)
begins_second p a b lines is = (
  second_sum p a b,
  front_is p a b ∙ sym (append_assoc (first_lines p) (first_sum p a) (second_sum p a b))
      ∙ ap (λ (ls : Lines). ls ++ second_sum p a b) (sym (ap clause_lines is ∙ told_first p a)),
)

abbrev BuiltBehind : Task → Criterion → Criterion → Built → Lines → Lines → Type 0
BuiltBehind p a b r lines more = lines ≡ first_lines p → IsBuiltFront p a b r (lines ++ more)

pub no_room_for_first : {S : Type 0} (knows log : S → Lines → Type 0) (count : S → ℕ) (s e : S) (p : Task) (a b : Criterion) (vars : ℕ) (r : Built) →
    r ≡ NoRoom → vars ≡ p.encoding.vars →
    Continues knows log count s e (λ lines more. IsBuild p vars a (greatest_of p a) r lines more) →
    Continues knows log count s e (λ lines more. lines ≡ first_lines p → IsBuiltFront p a b NoRoom (lines ++ more))
no_room_for_first knows log count s e p a b vars r was start goes =
    becomes knows log count s e (λ lines more. IsBuild p vars a (greatest_of p a) r lines more) (BuiltBehind p a b NoRoom) goes
    (λ lines xs ks ke h is.
    let got : (xs ≡ []) × SumPasses p p.encoding.vars a (greatest_of p a) lines = subst (λ v. IsBuild p v a (greatest_of p a) NoRoom lines xs) start
    (subst (λ (x : Built). IsBuild p vars a (greatest_of p a) x lines xs) was h) in
    let same : lines ++ xs ≡ lines = ap (λ (ls : Lines). lines ++ ls) got.0 ∙ append-nil lines in
    let whole : lines ++ xs ≡ first_lines p = same ∙ is in (
      subst (AreUnderBounds p) (sym whole) (first_anywhere (IsUnderBounds p) p (clauses_under_bounds p)),
      begins_first p a b (lines ++ xs) whole,
      (
        first_passes p a b (lines ++ xs) whole (subst (SumPasses p p.encoding.vars a (greatest_of p a)) (sym same) got.1),
        refl,
        ap clause_lines whole ∙ clauses_of_first p ∙ sym whole,
      ),
    ))

second_built : (p : Task) (a b : Criterion) (r : Built) (lines xs ys : Lines) → lines ≡ first_lines p → xs ≡ first_sum p a →
    IsBuild p (second_vars p a) b (greatest_of p b) r (lines ++ xs) ys → IsBuiltFront p a b r (lines ++ (xs ++ ys))
second_built p a b AllOfThem lines xs ys is one two =
    let whole : lines ++ (xs ++ ys) ≡ first_lines p ++ (first_sum p a ++ second_sum p a b) =
    ap (λ (ls : Lines). ls ++ (xs ++ ys)) is ∙ ap (λ (ls : Lines). first_lines p ++ (ls ++ ys)) one
    ∙ ap (λ (ls : Lines). first_lines p ++ (first_sum p a ++ ls)) two in (
      subst (AreUnderBounds p) (append_assoc (first_lines p) (first_sum p a) (second_sum p a b) ∙ sym whole)
          (second_placed (IsUnderBounds p) p a b (clauses_under_bounds p)),
      ap clause_lines whole ∙ told_both p a b,
      subst (HaveComeTo b b []) (append_assoc (first_lines p) (first_sum p a) (second_sum p a b) ∙ sym whole) (record {
        down = second_placed (IsNoLess b []) p a b (no_queries b);
        fresh = second_placed (IsFoundBeside (MayComeBehind b b [])) p a b (no_models (MayComeBehind b b []));
      }),
    )
second_built p a b NoRoom lines xs ys is one two =
    let same : lines ++ (xs ++ ys) ≡ lines ++ xs = ap (λ (ls : Lines). lines ++ (xs ++ ls)) two.0 ∙ ap (λ (ls : Lines). lines ++ ls) (append-nil xs) in
    let whole : lines ++ (xs ++ ys) ≡ first_lines p ++ first_sum p a = same ∙ ap (λ (ls : Lines). ls ++ xs) is
    ∙ ap (λ (ls : Lines). first_lines p ++ ls) one in (
      subst (AreUnderBounds p) (sym whole) (first_placed (IsUnderBounds p) p a (clauses_under_bounds p)),
      begins_second p a b (lines ++ (xs ++ ys)) whole,
      (
        second_passes p a b (lines ++ (xs ++ ys)) whole (subst (SumPasses p (second_vars p a) b (greatest_of p b)) (sym same) two.1),
        refl,
        ap clause_lines whole ∙ told_first p a ∙ sym whole,
      ),
    )

pub both_built : {S : Type 0} (knows log : S → Lines → Type 0) (count : S → ℕ) (s t e : S) (q p : Task) (a b : Criterion) (vars many : ℕ) (first r : Built) →
    q ≡ p → first ≡ AllOfThem → vars ≡ p.encoding.vars →
    many ≡ vars + sum_vars_of p.encoding vars a (greatest_of p a) →
    Continues knows log count s t (λ lines more. IsBuild p vars a (greatest_of p a) first lines more) →
    Continues knows log count t e (λ lines more. IsBuild q many b (greatest_of q b) r lines more) →
    Continues knows log count s e (λ lines more. lines ≡ first_lines p → IsBuiltFront p a b r (lines ++ more))
both_built knows log count s t e q p a b vars many first r same was start size f g =
    let last : many ≡ second_vars p a = size ∙ ap (λ v. v + sum_vars_of p.encoding v a (greatest_of p a)) start in
    let h : Continues knows log count t e (λ lines more. IsBuild p (second_vars p a) b (greatest_of p b) r lines more) =
    subst (λ v. Continues knows log count t e (λ lines more. IsBuild p v b (greatest_of p b) r lines more)) last
    (subst (λ (x : Task). Continues knows log count t e (λ lines more. IsBuild x many b (greatest_of x b) r lines more)) same g) in
    goes_on knows log count s t e (λ lines more. IsBuild p vars a (greatest_of p a) first lines more)
    (λ lines more. IsBuild p (second_vars p a) b (greatest_of p b) r lines more) (BuiltBehind p a b r) f h
    (λ lines xs ys ks kt ke one two is.
    let got : xs ≡ first_sum p a = subst (λ v. IsBuild p v a (greatest_of p a) AllOfThem lines xs) start
    (subst (λ (x : Built). IsBuild p vars a (greatest_of p a) x lines xs) was one) in
    second_built p a b r lines xs ys is got two)

-- ---- the whole search

-- what is known of the lines
pub record FrontLaws {S : Type 0} (knows : S → Lines → Type 0) (s : S) (p : Task) : Type 0 where
  pub covers : (lines : Lines) → knows s lines → CoversDrawings p.graph p.above p.grid lines
  pub formed : (lines : Lines) → knows s lines → MayAllBeTold lines
  pub derives : (lines : Lines) → knows s lines → Derives lines
  pub due : (lines : Lines) → knows s lines → Due lines
  pub fits : (lines : Lines) → knows s lines → words_of (flat_map added lines) ≤ p.room
  pub within : (lines : Lines) → knows s lines → length (flat_map learnt lines) ≤ p.budget

pub laws_at : {S : Type 0} (knows : S → Lines → Type 0) (s : S) (q p : Task) → q ≡ p → FrontLaws knows s q → FrontLaws knows s p
laws_at knows s q p same laws = subst (FrontLaws knows s) same laws

front_log : {S : Type 0} (knows : S → Lines → Type 0) (s : S) (p : Task) (a b : Criterion) (pairs : Pairs) (ending : FrontEnd) (lines : Lines) →
    FrontLaws knows s p → knows s lines → BeginsLines (clause_lines lines) (front_lines p a b) →
    AreUnderBounds p lines → IsFrontCause p a b pairs ending lines → IsFrontLog p a b pairs ending lines
front_log knows s p a b pairs ending lines laws k begins placed cause = record {
  formed = laws.formed lines k;
  derives = laws.derives lines k;
  due = laws.due lines k;
  covers = laws.covers lines k;
  begins = begins;
  fits = laws.fits lines k;
  within = laws.within lines k;
  placed = placed;
  cause = cause;
}

pub tells_no_room : {S : Type 0} (knows log : S → Lines → Type 0) (count : S → ℕ) (s e : S) (p : Task) (a b : Criterion) (pairs : Pairs) (r : Built) →
    r ≡ NoRoom → pairs ≡ [] → FrontLaws knows e p → knows s (first_lines p) →
    Continues knows log count s e (λ lines more. lines ≡ first_lines p → IsBuiltFront p a b r (lines ++ more)) →
    ToldBehind (knows e) (log s) (log e) (count s) (count e) (first_lines p) (λ more. IsFrontLog p a b pairs Room (first_lines p ++ more))
tells_no_room knows log count s e p a b pairs r was none laws start goes =
    let t : ToldBehind (knows e) (log s) (log e) (count s) (count e) (first_lines p)
    (λ more. first_lines p ≡ first_lines p → IsBuiltFront p a b r (first_lines p ++ more)) = goes (first_lines p) start in
    let got : IsBuiltFront p a b NoRoom (first_lines p ++ t.more) = subst (λ (x : Built). IsBuiltFront p a b x (first_lines p ++ t.more)) was (t.does refl) in
    record {
      more = t.more;
      knows = t.knows;
      told = t.told;
      counted = t.counted;
      does = front_log knows e p a b pairs Room (first_lines p ++ t.more) laws t.knows
          got.1 got.0 (inl (subst (λ (ps : Pairs). HasNoRoomToAsk p a b ps (first_lines p ++ t.more)) (sym none) got.2));
    }

told_still : (lines xs ys : Lines) → clause_lines ys ≡ [] → clause_lines (lines ++ (xs ++ ys)) ≡ clause_lines (lines ++ xs)
told_still lines xs ys none = ap clause_lines (sym (append_assoc lines xs ys)) ∙ clause_lines_append (lines ++ xs) ys
    ∙ ap (λ (ls : Lines). clause_lines (lines ++ xs) ++ ls) none ∙ append-nil (clause_lines (lines ++ xs))

cause_of : (p : Task) (a b : Criterion) (pairs : Pairs) (ending : FrontEnd) (lines : Lines) → clause_lines lines ≡ front_lines p a b →
    EndsFront p a b pairs ending lines → IsFrontCause p a b pairs ending lines
cause_of p a b pairs Whole lines told h = told
cause_of p a b pairs Empty lines told h = told
cause_of p a b pairs Conflicts lines told h = (told, h.0, h.1)
cause_of p a b pairs Room lines told h = inr (told, h.0, h.1)

pub tells_front : {S : Type 0} (knows log : S → Lines → Type 0) (count : S → ℕ) (s t e : S) (q p : Task) (a b : Criterion) (pairs : Pairs) (r : Built)
    (ending : FrontEnd) → q ≡ p → r ≡ AllOfThem → FrontLaws knows e p → knows s (first_lines p) →
    Continues knows log count s t (λ lines more. lines ≡ first_lines p → IsBuiltFront p a b r (lines ++ more)) →
    Continues knows log count t e (AreAsked q (HaveComeTo b b []) (EndsFront q a b pairs ending)) →
    ToldBehind (knows e) (log s) (log e) (count s) (count e) (first_lines p) (λ more. IsFrontLog p a b pairs ending (first_lines p ++ more))
tells_front knows log count s t e q p a b pairs r ending same was laws start f g =
    let from = first_lines p in
    let h : Continues knows log count t e (AreAsked p (HaveComeTo b b []) (EndsFront p a b pairs ending)) = subst
    (λ (x : Task). Continues knows log count t e (AreAsked x (HaveComeTo b b []) (EndsFront x a b pairs ending))) same g in
    let both : Continues knows log count s e (λ lines more. lines ≡ from → IsFrontLog p a b pairs ending (lines ++ more)) =
    goes_on knows log count s t e (λ lines more. lines ≡ from → IsBuiltFront p a b r (lines ++ more))
    (AreAsked p (HaveComeTo b b []) (EndsFront p a b pairs ending))
    (λ lines more. lines ≡ from → IsFrontLog p a b pairs ending (lines ++ more)) f h
    (λ lines xs ys ks kt ke one two is.
    let built : IsBuiltFront p a b AllOfThem (lines ++ xs) = subst (λ (x : Built). IsBuiltFront p a b x (lines ++ xs)) was (one is) in
    let told : clause_lines (lines ++ xs) ≡ front_lines p a b = built.1 in
    let whole : clause_lines (lines ++ (xs ++ ys)) ≡ front_lines p a b = told_still lines xs ys two.none ∙ told in
    front_log knows e p a b pairs ending (lines ++ (xs ++ ys)) laws (subst (knows e) (append_assoc lines xs ys) ke)
    ([], sym whole ∙ sym (append-nil (clause_lines (lines ++ (xs ++ ys))))) (subst (AreUnderBounds p) (append_assoc lines xs ys) (two.placed built.0))
    (cause_of p a b pairs ending (lines ++ (xs ++ ys)) whole (subst (EndsFront p a b pairs ending) (append_assoc lines xs ys) (two.ends built.2)))) in
    let all : ToldBehind (knows e) (log s) (log e) (count s) (count e) from (λ more. from ≡ from → IsFrontLog p a b pairs ending (from ++ more)) = both from
    start in
    record { more = all.more; knows = all.knows; told = all.told; counted = all.counted; does = all.does refl }

-- ---- the bounds of one criterion, and of none where its greatest value is 0

pub zero_caps : (f : Criterion → ℕ) (c d : Criterion) (n : ℕ) → n ≡ 0 → f c ≡ 0 → f d ≡ with_cap f c n d
zero_caps f c d n nil none = by (same_criterion c d) refl
  where
    by : (b : Bool) → same_criterion c d ≡ b → f d ≡ cond (same_criterion c d) n (f d)
    by true e = (ap f (sym (same_tells c d e)) ∙ none ∙ sym nil) ∙ sym (ap (λ b. cond b n (f d)) e)
    by false e = sym (ap (λ b. cond b n (f d)) e)

pub zero_vars : (p : Task) (vars : ℕ) (c : Criterion) → greatest_of p c ≡ 0 → vars ≡ vars + sum_vars_of p.encoding vars c (greatest_of p c)
zero_vars p vars c nil = (let e : vars ≡ vars + 0 = omega arith in e) ∙ ap (λ n. vars + sum_vars_of p.encoding vars c n) (sym nil)

pub zero_lines : {S : Type 0} (knows log : S → Lines → Type 0) (count : S → ℕ) (s : S) (p : Task) (vars : ℕ) (c : Criterion) → greatest_of p c ≡ 0 →
    Continues knows log count s s (λ lines more. IsBuild p vars c (greatest_of p c) AllOfThem lines more)
zero_lines knows log count s p vars c nil =
    stays knows log count s (λ lines more. IsBuild p vars c (greatest_of p c) AllOfThem lines more) (λ lines k. ap (sum_lines p.encoding vars c) (sym nil))

pub whole_caps : (p : Task) (f : Criterion → ℕ) (vars : ℕ) (c : Criterion) (most : ℕ) (r : Built) (h : Criterion → ℕ) (many : ℕ) (d : Criterion) →
    r ≡ AllOfThem → most ≡ greatest_of p c → AreBuiltTo p f vars c most r h many → h d ≡ with_cap f c (greatest_of p c) d
whole_caps p f vars c most r h many d whole is built =
    let state : AreBuiltTo p f vars c most AllOfThem h many = subst (λ (x : Built). AreBuiltTo p f vars c most x h many) whole built in
    ap (λ (k : Criterion → ℕ). k d) state.0 ∙ ap (λ n. with_cap f c n d) is

pub whole_vars : (p : Task) (f : Criterion → ℕ) (vars : ℕ) (c : Criterion) (most : ℕ) (r : Built) (h : Criterion → ℕ) (many : ℕ) → r ≡ AllOfThem →
    most ≡ greatest_of p c → AreBuiltTo p f vars c most r h many → many ≡ vars + sum_vars_of p.encoding vars c (greatest_of p c)
whole_vars p f vars c most r h many whole is built =
    let state : AreBuiltTo p f vars c most AllOfThem h many = subst (λ (x : Built). AreBuiltTo p f vars c most x h many) whole built in
    state.1 ∙ ap (λ n. vars + sum_vars_of p.encoding vars c n) is

pub lines_whole : {S : Type 0} (knows log : S → Lines → Type 0) (count : S → ℕ) (s e : S) (p : Task) (vars : ℕ) (c : Criterion) (most : ℕ) (r : Built) →
    most ≡ greatest_of p c →
    Continues knows log count s e (λ lines more. IsBuild p vars c most r lines more) →
    Continues knows log count s e (λ lines more. IsBuild p vars c (greatest_of p c) r lines more)
lines_whole knows log count s e p vars c most r is goes = subst (λ n. Continues knows log count s e (λ lines more. IsBuild p vars c n r lines more)) is goes

pub unbuilt_still : (f h : Criterion → ℕ) (a b : Criterion) (n : ℕ) → a ≢ b → f b ≡ 0 → ((d : Criterion) → h d ≡ with_cap f a n d) → h b ≡ 0
unbuilt_still f h a b n apart none is = is b ∙ with_cap_other f a n b apart ∙ none

pub first_still : (f h k : Criterion → ℕ) (a b : Criterion) (n m : ℕ) → a ≢ b → ((d : Criterion) → h d ≡ with_cap f a n d) →
    ((d : Criterion) → k d ≡ with_cap h b m d) → k a ≡ n
first_still f h k a b n m apart one two = two a ∙ with_cap_other h b m a (λ e. apart (sym e)) ∙ one a ∙ with_cap_here f a n

pub second_here : (f h : Criterion → ℕ) (b : Criterion) (n : ℕ) → ((d : Criterion) → h d ≡ with_cap f b n d) → h b ≡ n
second_here f h b n is = is b ∙ with_cap_here f b n
