-- The bounds of a question are of different criteria.
use Rattle.std.proofs.Common.{◌≡◌, ◌≢◌, ℕ, ◌+◌, ◌<◌, ◌⊎◌, Bool, true, false, cond, List, [], ◌∷◌, ◌++◌, length, take, get_or, sym, ◌∙◌, ap, subst, inl, inr}
use Rattle.std.proofs.Common.{arith, append-nil, length-append}
use Rattle.std.specs.Prelude.{All, Contains, Some, slice_get, nat_lt}
use Rattle.std.proofs.lemmas.List.{get_or_append_left, get_or_push, length-take, get_or-take}
use Rattle.std.proofs.lemmas.List.Elements.{All-nil, All-push, All-weaker, Contains-append_left, Contains-push}
use Rattle.std.proofs.lemmas.Option.{slice_get-get_or}
use Rattle.plan_core.specs.declared.criterion.Criterion.{Criterion}
use Rattle.plan_core.specs.Order.{IsOrder}
use Rattle.search_least.specs.declared.oracle.Below.{Below}
use Rattle.search_least.specs.Asked.{below_limit, AreOnce}
use Rattle.search_least.specs.State.{AreBefore, hold}
use Rattle.search_least.proofs.BuildLemmas.{places_apart, take_next}

once_push : (held : List Below) (b : Below) → AreOnce held → All (λ a. a.criterion ≢ b.criterion) held → AreOnce (held ++ b ∷ [])
once_push held b once other = λ i j d lt low. by i j d lt (low_or_last j low)
  where
    low_or_last : (j : ℕ) → j < length (held ++ b ∷ []) → (j < length held) ⊎ (j ≡ length held)
    low_or_last j low = let size = length-append held (b ∷ []) in grind (arith, size, low)

    by : (i j : ℕ) (d : Below) → i < j → (j < length held) ⊎ (j ≡ length held) →
        (get_or (held ++ b ∷ []) i d).criterion ≢ (get_or (held ++ b ∷ []) j d).criterion
    by i j d lt (inl low) =
        let ei : get_or (held ++ b ∷ []) i d ≡ get_or held i d = get_or_append_left held (b ∷ []) d i (omega arith) in
        let ej : get_or (held ++ b ∷ []) j d ≡ get_or held j d = get_or_append_left held (b ∷ []) d j low in
        λ e. once i j d lt low (sym (ap (λ (x : Below). x.criterion) ei) ∙ e ∙ ap (λ (x : Below). x.criterion) ej)
    by i j d lt (inr last) =
        let ei : get_or (held ++ b ∷ []) i d ≡ get_or held i d = get_or_append_left held (b ∷ []) d i (omega arith) in
        let ej : get_or (held ++ b ∷ []) j d ≡ b = get_or_push held b d j (sym last) in
        λ e. other i d (omega arith) (sym (ap (λ (x : Below). x.criterion) ei) ∙ e ∙ ap (λ (x : Below). x.criterion) ej)

pub before_other : (order : List Criterion) (i : ℕ) (c d : Criterion) → IsOrder order → slice_get order i ≡ Some c → Contains (take i order) d → d ≢ c
before_other order i c d is at there =
    let size = length-take i order in
    let lt = there.1 in
    let less : there.0 < i = omega (arith, size, lt) in
    let low : there.0 < length order = omega (arith, size, lt) in
    let read : get_or order there.0 d ≡ d = sym (get_or-take i order there.0 d less) ∙ there.2 in
    places_apart order there.0 i d c is less (slice_get-get_or order there.0 d low ∙ ap (λ (x : Criterion). Some x) read) at

pub once_with : (order : List Criterion) (i : ℕ) (c : Criterion) (u : ℕ) (held : List Below) → IsOrder order → slice_get order i ≡ Some c →
    AreBefore order i held → AreOnce (held ++ below_limit c u ∷ [])
once_with order i c u held is at h = once_push held (below_limit c u) h.once (All-weaker (λ b. Contains (take i order) b.criterion) (λ b. b.criterion ≢ c)
    (λ b k. before_other order i c b.criterion is at k) held h.before)

pub once_asked : (order : List Criterion) (i : ℕ) (c : Criterion) (u : ℕ) (held bounds : List Below) → IsOrder order → slice_get order i ≡ Some c →
    AreBefore order i held → bounds ≡ held ++ below_limit c u ∷ [] → AreOnce bounds
once_asked order i c u held bounds is at h e = subst AreOnce (sym e) (once_with order i c u held is at h)

pub in_next : (order : List Criterion) (i : ℕ) (c d : Criterion) → slice_get order i ≡ Some c → Contains (take i order) d → Contains (take (i + 1) order) d
in_next order i c d at k = subst (λ (cs : List Criterion). Contains cs d) (sym (take_next order i c at)) (Contains-append_left (take i order) (c ∷ []) d k)

pub before_next : (order : List Criterion) (i : ℕ) (c : Criterion) (least cap : ℕ) (held then : List Below) → IsOrder order → slice_get order i ≡ Some c →
    AreBefore order i held → then ≡ held ++ hold c least cap → AreBefore order (i + 1) then
before_next order i c least cap held then is at h e = subst (AreBefore order (i + 1)) (sym e) (by (nat_lt least cap))
  where
    wider : All (λ b. Contains (take (i + 1) order) b.criterion) held
    wider = All-weaker (λ b. Contains (take i order) b.criterion) (λ b. Contains (take (i + 1) order) b.criterion) (λ b k. in_next order i c b.criterion at k)
        held h.before

    by : (t : Bool) → AreBefore order (i + 1) (held ++ cond t (below_limit c (least + 1) ∷ []) [])
    by true = record {
      once = once_with order i c (least + 1) held is at h;
      before = All-push (λ b. Contains (take (i + 1) order) b.criterion) held (below_limit c (least + 1)) wider
          (subst (λ (cs : List Criterion). Contains cs c) (sym (take_next order i c at)) (Contains-push (take i order) c));
    }
    by false = subst (AreBefore order (i + 1)) (sym (append-nil held)) (record { once = h.once; before = wider })

pub before_later : (order : List Criterion) (i : ℕ) (c : Criterion) (held : List Below) → slice_get order i ≡ Some c → AreBefore order i held →
    AreBefore order (i + 1) held
before_later order i c held at h = record {
  once = h.once;
  before = All-weaker (λ b. Contains (take i order) b.criterion) (λ b. Contains (take (i + 1) order) b.criterion)
      (λ b k. in_next order i c b.criterion at k) held h.before;
}

pub no_bounds : (order : List Criterion) (i : ℕ) (held : List Below) → held ≡ [] → AreBefore order i held
no_bounds order i held e = subst (AreBefore order i) (sym e) (record {
  once = λ i j d lt low. absurd (omega arith);
  before = All-nil (λ b. Contains (take i order) b.criterion);
})
