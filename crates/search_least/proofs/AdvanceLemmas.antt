-- From one place of the order to the next.
use Rattle.std.proofs.Common.{◌≡◌, ℕ, ◌+◌, ◌-◌, ◌<◌, ◌≤◌, ◌⊎◌, Bool, true, false, cond, List, [], ◌∷◌, ◌++◌, take, get_or, refl, sym, ◌∙◌, ap, subst, inl, inr}
use Rattle.std.proofs.Common.{arith, append-nil, append_assoc}
use Rattle.std.specs.Prelude.{All, Some, None, Option, slice_get, nat_lt}
use Rattle.std.proofs.lemmas.List.Elements.{All-push, All-weaker}
use Rattle.std.proofs.lemmas.Option.{slice_get_within, slice_get-get_or, same_Some}
use Rattle.plan_core.proofs.LimitLemmas.{value-le-limit}
use Rattle.std.proofs.lemmas.Bool.{le-ltb, ltb-true}
use Rattle.plan_core.specs.declared.criterion.Values.{Values}
use Rattle.plan_core.specs.declared.criterion.Criterion.{Criterion}
use Rattle.plan_core.specs.declared.criterion.Criterion.TheVariants.{Height}
use Rattle.plan_core.specs.Values.{values_of, value_of}
use Rattle.plan_core.specs.Drawing.{Drawing}
use Rattle.plan_core.specs.Order.{IsOrder}
use Rattle.refute_log.specs.Told.{Lines}
use Rattle.refute_log.specs.Log.{clause_lines}
use Rattle.refute_log.specs.Expected.{caps, same_criterion, expected_lines, with_cap}
use Rattle.refute_log.proofs.ExpectedLemmas.{with_cap_here, with_cap_other, expected_same}
use Rattle.search_least.specs.declared.oracle.Below.{Below}
use Rattle.search_least.specs.declared.oracle.Built.TheVariants.{Whole, NoRoom}
use Rattle.refute_log.specs.declared.stop.Stop.{Stop}
use Rattle.refute_log.specs.declared.stop.Stop.TheVariants.{RoomFull}
use Rattle.search_least.specs.Task.{Task, IsLawful, greatest_of}
use Rattle.refute_log.specs.Steps.{Continues}
use Rattle.search_least.specs.Asked.{below_limit, IsWithinCap}
use Rattle.search_least.specs.Built.{IsBuild}
use Rattle.search_least.specs.Reached.{Reached, Holds, HasSameValues, IsLowered, RunTo}
use Rattle.search_least.specs.Caps.{AllZero, IsCapAt, IsTurn, AreCapped}
use Rattle.search_least.specs.State.{IsFirstPositive, hold, Counted, OnlyZeroSkipped, SearchState, StoppedAt, IsCapOf, BoundedTo, Advances}
use Rattle.refute_log.proofs.StepLemmas.{goes_on, becomes, stays, clause_lines_append}
use Rattle.search_least.proofs.LowerLemmas.{holds_same, zero_reached}
use Rattle.search_least.proofs.BuildLemmas.{reached_built, told_built, next_passes, reached_zeros, holds_next, take_next}
use Rattle.search_least.proofs.CapLemmas.{capped_same, capped_next, capped_zeros, capped_only_zero}

with_cap_zero : (f : Criterion → ℕ) (c : Criterion) (n : ℕ) (d : Criterion) → 1 ≤ n → with_cap f c n d ≡ 0 → f d ≡ 0
with_cap_zero f c n d le e = by (same_criterion c d) refl
  where
    by : (b : Bool) → same_criterion c d ≡ b → f d ≡ 0
    by true t = let h : n ≡ 0 = sym (ap (λ b. cond b n (f d)) t) ∙ e in absurd (omega arith)
    by false t = sym (ap (λ b. cond b n (f d)) t) ∙ e

-- the value is at most the cap
pub value_bounded : (p : Task) (order : List Criterion) (i : ℕ) (c m : Criterion) (n : ℕ) (d : Drawing) (f h : Criterion → ℕ) → IsLawful p d →
    slice_get order i ≡ Some c → IsCapOf p c (values_of d) n → h ≡ with_cap f c n → slice_get order i ≡ Some m → value_of (values_of d) m ≤ h m
value_bounded p order i c m n d f h lawful at capped is there =
    let within : value_of (values_of d) c ≤ greatest_of p c = value-le-limit p.graph p.above p.grid d lawful c in
    let size = capped.is in
    let cap : h c ≡ n = ap (λ (x : Criterion → ℕ). x c) is ∙ with_cap_here f c n in
    let same : c ≡ m = same_Some c m (sym at ∙ there) in
    let le : value_of (values_of d) c ≤ h c = (let g = greatest_of p c in omega (arith, within, size, cap)) in
    subst (λ x. value_of (values_of d) x ≤ h x) same le

cap_positive : (p : Task) (c : Criterion) (v : Values) (n : ℕ) → IsCapOf p c v n → 1 ≤ n
cap_positive p c v n k = let e = k.is in let l = k.positive in omega arith

skipped_next : (p : Task) (order : List Criterion) (i : ℕ) (c : Criterion) (n : ℕ) (f : Criterion → ℕ) → slice_get order i ≡ Some c → 1 ≤ n →
    OnlyZeroSkipped p order i f → OnlyZeroSkipped p order (i + 1) (with_cap f c n)
skipped_next p order i c n f at le h =
    let P : Criterion → Type 0 = λ d. with_cap f c n d ≡ 0 → greatest_of p d ≡ 0 in
    subst (All P) (sym (take_next order i c at)) (All-push P (take i order) c
    (All-weaker (λ d. f d ≡ 0 → greatest_of p d ≡ 0) P (λ d k e. k (with_cap_zero f c n d le e)) (take i order) h)
    (λ e. let z : n ≡ 0 = sym (with_cap_here f c n) ∙ e in absurd (omega arith)))

not_all_zero : (order : List Criterion) (i j : ℕ) (v : Values) → IsFirstPositive order i j v → AllZero order i v → ⊥
not_all_zero order i j v f z =
    let c : Criterion = get_or order j Height in
    let at : slice_get order j ≡ Some c = slice_get-get_or order j Height f.within in
    let a = z j c f.from at in
    let b = f.positive c at in
    omega arith

holding : (p : Task) (order : List Criterion) (i j : ℕ) (held : List Below) (d : Drawing) (f : Criterion → ℕ) (lines : Lines) →
    IsFirstPositive order i j (values_of d) → SearchState p order i held d f lines → Holds p order i held (values_of d) × OnlyZeroSkipped p order i f
holding p order i j held d f lines first s = elim s.holds [ inl h ↦ h | inr z ↦ absurd (not_all_zero order i j (values_of d) first z) ]

-- its bounds are as many as are built
cap_here : (p : Task) (order : List Criterion) (i j : ℕ) (c : Criterion) (v : Values) (n : ℕ) → IsFirstPositive order i j v → IsCapOf p c v n →
    IsCapAt (greatest_of p) order i c v n
cap_here p order i j c v n first k = record { none = λ all. absurd (not_all_zero order i j v first all); some = λ not_all. k.is }

-- the bounds are told, and the least value was looked for
pub bounded_whole : {S : Type 0} (knows log : S → Lines → Type 0) (count : S → ℕ) (a b e : S) (q p : Task) (order : List Criterion) (i j : ℕ)
    (held : List Below) (c : Criterion) (n : ℕ) (first d : Drawing) (stop : Option Stop) (f h : Criterion → ℕ) (vars : ℕ) →
    IsOrder order → slice_get order i ≡ Some c → Counted p order i f vars → IsCapOf p c (values_of first) n → IsFirstPositive order i j (values_of first) →
    (d ≡ first) ⊎ (value_of (values_of d) c < value_of (values_of first) c) →
    q ≡ p → h ≡ with_cap f c n → ((lines : Lines) (m : Criterion) → knows e lines → caps (greatest_of p) lines m ≡ h m) →
    Continues knows log count a b (λ lines more. IsBuild p vars c n Whole lines more) → Continues knows log count b e (RunTo q order i held first stop d) →
    Continues knows log count a e (λ lines more. SearchState p order i held first f lines → BoundedTo p order i held stop i d h (lines ++ more))
bounded_whole knows log count a b e q p order i j held c n first d stop f h vars is at k capped positive less same caps_are told_caps built run =
    goes_on knows log count a b e (λ lines more. IsBuild p vars c n Whole lines more) (RunTo p order i held first stop d)
    (λ lines more. SearchState p order i held first f lines → BoundedTo p order i held stop i d h (lines ++ more))
    built (subst (λ (x : Task). Continues knows log count b e (RunTo x order i held first stop d)) same run)
    (λ lines xs ys ka kb ke told_built_lines ran state.
    let now = lines ++ xs in
    let holds = holding p order i j held first f lines positive state in
    let reached : Reached p order i first now = subst (λ (ls : Lines). Reached p order i first (lines ++ ls)) (sym told_built_lines)
    (reached_built p order i first lines p.encoding vars c n at state.reached) in
    let told_now : clause_lines now ≡ expected_lines p.encoding order (with_cap f c n) =
    subst (λ (ls : Lines). clause_lines (lines ++ ls) ≡ expected_lines p.encoding order (with_cap f c n)) (sym told_built_lines)
    (told_built p order i c n f vars lines is at k state.told) in
    let told_then : clause_lines (now ++ ys) ≡ expected_lines p.encoding order h =
    clause_lines_append now ys ∙ ap (λ (ls : Lines). clause_lines now ++ ls) ran.0 ∙ append-nil (clause_lines now) ∙ told_now
    ∙ ap (expected_lines p.encoding order) (sym caps_are) in
    let end = ran.1 reached holds.0 in
    let turn : IsTurn p order i first d (with_cap f c n) = record {
      lawful = state.reached.lawful;
      criterion = c;
      at = at;
      built = subst (IsCapAt (greatest_of p) order i c (values_of first)) (sym (with_cap_here f c n))
          (cap_here p order i j c (values_of first) n positive capped);
      left = elim less [ inl same_drawing ↦ inl same_drawing | inr lt ↦ inr (lt, end.0) ];
    } in
    let built_now : AreCapped p order (i + 1) d (with_cap f c n) = capped_next p order i first d f (with_cap f c n) turn is
    (λ m apart. with_cap_other f c n m apart) state.capped in
    subst (BoundedTo p order i held stop i d h) (append_assoc lines xs ys)
    (finish stop (now ++ ys) told_then holds.1 holds.0 (subst (AreCapped p order (i + 1) d) (sym caps_are) built_now) end.0 end.1
    (λ m. told_caps (now ++ ys) m ke)))
  where
    finish : (stop : Option Stop) (lines : Lines) → clause_lines lines ≡ expected_lines p.encoding order h → OnlyZeroSkipped p order i f →
        Holds p order i held (values_of first) → AreCapped p order (i + 1) d h → HasSameValues order i (values_of first) (values_of d) →
        IsLowered p order i stop d lines →
        ((m : Criterion) → caps (greatest_of p) lines m ≡ h m) → BoundedTo p order i held stop i d h lines
    finish None lines told skipped holds built_now alike low counted = (
      low,
      told,
      subst (OnlyZeroSkipped p order (i + 1)) (sym caps_are)
          (skipped_next p order i c n f at (cap_positive p c (values_of first) n capped) skipped),
      holds_same p order i held (values_of first) (values_of d) alike
          holds,
      built_now,
    )
    finish (Some stop) lines told skipped holds built_now alike low counted = record {
      reached = low.0;
      within = slice_get_within order i c at;
      positive = low.1;
      told = told ∙ sym (expected_same p.encoding order (caps (greatest_of p) lines) h counted);
      cause = inl (low.2, capped_same p order (i + 1) d h (caps (greatest_of p) lines) counted built_now);
    }

-- there was no room for the bounds
pub bounded_no_room : {S : Type 0} (knows log : S → Lines → Type 0) (count : S → ℕ) (a b : S) (p : Task) (order : List Criterion) (i j : ℕ) (held : List Below)
    (c : Criterion) (n : ℕ) (first : Drawing) (f h : Criterion → ℕ) (vars : ℕ) →
    IsOrder order → slice_get order i ≡ Some c → Counted p order i f vars → IsCapOf p c (values_of first) n → IsFirstPositive order i j (values_of first) →
    ((lines : Lines) (m : Criterion) → knows a lines → caps (greatest_of p) lines m ≡ f m) →
    Continues knows log count a b (λ lines more. IsBuild p vars c n NoRoom lines more) →
    Continues knows log count a b (λ lines more. SearchState p order i held first f lines → BoundedTo p order i held (Some RoomFull) j first h (lines ++ more))
bounded_no_room knows log count a b p order i j held c n first f h vars is at k capped positive told_caps built =
    becomes knows log count a b (λ lines more. IsBuild p vars c n NoRoom lines more)
    (λ lines more. SearchState p order i held first f lines → BoundedTo p order i held (Some RoomFull) j first h (lines ++ more)) built
    (λ lines xs ka kb none state.
    let v = values_of first in
    let holds = holding p order i j held first f lines positive state in
    let next = next_passes p order i c n f vars lines v is at k state.told (λ m. told_caps lines m ka) capped.is capped.positive holds.1 state.reached.certified
    none.1 in
    let size : i + (j - i) ≡ j = (let l = positive.from in omega arith) in
    let end : StoppedAt p order j RoomFull first lines = record {
      reached = subst (λ m. Reached p order m first lines) size (reached_zeros p order i (j - i) first lines
          (let l = positive.from in let w = positive.within in omega arith)
          (λ m c from to there. positive.zeros m c from (omega (arith, size, to)) there) state.reached);
      within = positive.within;
      positive = positive.positive;
      told = state.told ∙ sym (expected_same p.encoding order (caps (greatest_of p) lines) f (λ m. told_caps lines m ka));
      cause = inr (
        refl,
        next.0,
        subst (λ m. AreCapped p order m first (caps (greatest_of p) lines)) (sym next.1)
            (capped_same p order i first f (caps (greatest_of p) lines) (λ m. told_caps lines m ka) state.capped),
      );
    } in
    subst (StoppedAt p order j RoomFull first) (sym (append-nil lines) ∙ ap (λ (ls : Lines). lines ++ ls) (sym none.0)) end)

-- ---- the next place

zeros_later : (order : List Criterion) (i : ℕ) (v : Values) → AllZero order i v → AllZero order (i + 1) v
zeros_later order i v z = λ k c le at. z k c (omega arith) at

-- all values are 0 from here on
pub pass_zeros : (p : Task) (order : List Criterion) (i : ℕ) (held : List Below) (c : Criterion) (d : Drawing) (f : Criterion → ℕ) (lines : Lines) →
    IsOrder order → slice_get order i ≡ Some c → AllZero order i (values_of d) → SearchState p order i held d f lines →
    SearchState p order (i + 1) held d f lines
pass_zeros p order i held c d f lines is at z s = record {
  reached = zero_reached p order i c d lines at (z i c (omega arith) at) s.reached;
  told = s.told;
  holds = inr (zeros_later order i (values_of d) z);
  capped = capped_zeros p order i c d f is at s.reached.lawful z s.capped;
}

-- the criterion can only be 0
pub pass_only_zero : (p : Task) (order : List Criterion) (i : ℕ) (held : List Below) (c : Criterion) (d : Drawing) (f : Criterion → ℕ) (lines : Lines) →
    IsOrder order → slice_get order i ≡ Some c → greatest_of p c ≡ 0 → value_of (values_of d) c ≤ greatest_of p c → SearchState p order i held d f lines →
    SearchState p order (i + 1) held d f lines
pass_only_zero p order i held c d f lines is at only le s = record {
  reached = zero_reached p order i c d lines at (omega arith) s.reached;
  told = s.told;
  holds = by s.holds;
  capped = capped_only_zero p order i c d f is at s.reached.lawful only s.capped;
}
  where
    by : (Holds p order i held (values_of d) × OnlyZeroSkipped p order i f) ⊎ AllZero order i (values_of d) →
        (Holds p order (i + 1) held (values_of d) × OnlyZeroSkipped p order (i + 1) f) ⊎ AllZero order (i + 1) (values_of d)
    by (inr z) = inr (zeros_later order i (values_of d) z)
    by (inl h) =
        let none : hold c (value_of (values_of d) c) 0 ≡ [] = ap (λ b. cond b (below_limit c (value_of (values_of d) c + 1) ∷ []) [])
        (le-ltb (value_of (values_of d) c) 0 (omega arith)) in
        let next = holds_next p order i held c 0 (value_of (values_of d) c) (values_of d) at (omega arith) (omega arith) h.0 in
        let P : Criterion → Type 0 = λ d. f d ≡ 0 → greatest_of p d ≡ 0 in
        inl (
          subst (λ (bs : List Below). Holds p order (i + 1) bs (values_of d)) (ap (λ (bs : List Below). held ++ bs) none ∙ append-nil held) next,
          subst (All P) (sym (take_next order i c at)) (All-push P (take i order) c h.1 (λ e. only)),
        )

-- its bounds are told
pub pass_bounded : (p : Task) (order : List Criterion) (i : ℕ) (held : List Below) (c : Criterion) (n least : ℕ) (stop : Option Stop) (s : ℕ)
    (first d : Drawing) (h : Criterion → ℕ) (lines : Lines) → slice_get order i ≡ Some c →
    IsCapOf p c (values_of first) n → value_of (values_of d) c ≤ value_of (values_of first) c → least ≡ value_of (values_of d) c →
    BoundedTo p order i held stop s d h lines → Advances p order i (held ++ hold c least n) stop s d h lines
pass_bounded p order i held c n least None s first d h lines at capped le is b = record {
  reached = b.0;
  told = b.1;
  holds = inl (
    subst (λ m. Holds p order (i + 1) (held ++ hold c m n) (values_of d)) (sym is)
        (holds_next p order i held c n (value_of (values_of first) c) (values_of d) at capped.is le b.3),
    b.2,
  );
  capped = b.4;
}
pass_bounded p order i held c n least (Some stop) s first d h lines at capped le is b = b

pub go_zeros : {S : Type 0} (knows log : S → Lines → Type 0) (count : S → ℕ) (s : S) (p : Task) (order : List Criterion) (i : ℕ) (held : List Below)
    (c : Criterion) (d : Drawing) (f : Criterion → ℕ) → IsOrder order → slice_get order i ≡ Some c → AllZero order i (values_of d) →
    Continues knows log count s s (λ lines more. SearchState p order i held d f lines → SearchState p order (i + 1) held d f (lines ++ more))
go_zeros knows log count s p order i held c d f is at z = stays knows log count s
    (λ lines more. SearchState p order i held d f lines → SearchState p order (i + 1) held d f (lines ++ more))
    (λ lines k st. subst (SearchState p order (i + 1) held d f) (sym (append-nil lines)) (pass_zeros p order i held c d f lines is at z st))

pub go_only_zero : {S : Type 0} (knows log : S → Lines → Type 0) (count : S → ℕ) (s : S) (p : Task) (order : List Criterion) (i : ℕ) (held : List Below)
    (c : Criterion) (d : Drawing) (f : Criterion → ℕ) → IsOrder order → slice_get order i ≡ Some c → greatest_of p c ≡ 0 →
    value_of (values_of d) c ≤ greatest_of p c →
    Continues knows log count s s (λ lines more. SearchState p order i held d f lines → SearchState p order (i + 1) held d f (lines ++ more))
go_only_zero knows log count s p order i held c d f is at only le = stays knows log count s
    (λ lines more. SearchState p order i held d f lines → SearchState p order (i + 1) held d f (lines ++ more))
    (λ lines k st. subst (SearchState p order (i + 1) held d f) (sym (append-nil lines)) (pass_only_zero p order i held c d f lines is at only le st))

pub go_bounded : {S : Type 0} (knows log : S → Lines → Type 0) (count : S → ℕ) (a e : S) (p : Task) (order : List Criterion) (i : ℕ) (held then : List Below)
    (c : Criterion) (n least : ℕ) (stop : Option Stop) (s : ℕ) (first d : Drawing) (f h : Criterion → ℕ) → slice_get order i ≡ Some c →
    IsCapOf p c (values_of first) n → value_of (values_of d) c ≤ value_of (values_of first) c → least ≡ value_of (values_of d) c →
    then ≡ held ++ hold c least n →
    Continues knows log count a e (λ lines more. SearchState p order i held first f lines → BoundedTo p order i held stop s d h (lines ++ more)) →
    Continues knows log count a e (λ lines more. SearchState p order i held first f lines → Advances p order i then stop s d h (lines ++ more))
go_bounded knows log count a e p order i held then c n least stop s first d f h at capped le is held_is run =
    becomes knows log count a e (λ lines more. SearchState p order i held first f lines → BoundedTo p order i held stop s d h (lines ++ more))
    (λ lines more. SearchState p order i held first f lines → Advances p order i then stop s d h (lines ++ more)) run
    (λ lines xs ka ke so_far st. subst (λ (bs : List Below). Advances p order i bs stop s d h (lines ++ xs)) (sym held_is)
    (pass_bounded p order i held c n least stop s first d h (lines ++ xs) at capped le is (so_far st)))

pub all_held : (f : Criterion → ℕ) (held then : List Below) (c : Criterion) (n least : ℕ) → then ≡ held ++ hold c least n → f c ≡ n → All (IsWithinCap f) held →
    All (IsWithinCap f) then
all_held f held then c n least is cap all = subst (All (IsWithinCap f)) (sym is) (by (nat_lt least n) refl)
  where
    by : (t : Bool) → nat_lt least n ≡ t → All (IsWithinCap f) (held ++ cond t (below_limit c (least + 1) ∷ []) [])
    by true e = All-push (IsWithinCap f) held (below_limit c (least + 1)) all (omega arith, (let lt : least < n = ltb-true least n e in omega arith))
    by false e = subst (All (IsWithinCap f)) (sym (append-nil held)) all
