-- What the end of a search says of drawings.
use Rattle.std.proofs.Common.{◌≡◌, ◌≢◌, ℕ, zero, suc, ◌<◌, Bool, List, [], ◌∷◌, ◌++◌, length, get_or, refl, sym, ◌∙◌, subst, inl, inr, arith, append-nil}
use Rattle.std.specs.Prelude.{slice_get, slice_index_or, Some}
use Rattle.std.specs.List.{All, AllPairs, Contains, remove}
use Rattle.std.proofs.lemmas.List.{length-map, get_or-map as at_map}
use Rattle.std.proofs.lemmas.Option.{slice_get-get_or}
use Rattle.std.proofs.lemmas.Bool.Decides.{eqb_tells}
use Rattle.std.proofs.lemmas.List.Elements.{All-map, All-weaker, All-contains, Contains-get_or}
use Rattle.plan_core.proofs.ListFacts.{all_mapped}
use Rattle.plan_core.specs.Grid.{GridSize}
use Rattle.plan_core.specs.Graph.{Graph}
use Rattle.plan_core.specs.Drawing.{Drawing}
use Rattle.plan_core.specs.Lawful.{Instance, NodeOnGrid, LineOnGrid, Ordered, Joined, Aligned, Apart, Over, Parted, IsInstance, Meets, Lawful}
use Rattle.search_why.specs.Explained.{IsLoose, IsChoiceOf, IsExplanation, AreWithout, IsIrreducible}
use Rattle.search_why.specs.Task.{Task, law_at, MeetsAt, HasAllLaws}
use Rattle.search_why.specs.Narrowed.{countdown, IsNarrowed, TellsNarrowed}
use Rattle.refute_log.specs.Told.{Lines}
use Rattle.search_why.specs.declared.outcome.Outcome.{Outcome}
use Rattle.search_why.specs.declared.outcome.Outcome.TheVariants.{Exists, Laws, Stopped}
use Rattle.search_why.specs.declared.oracle.Reply.{Reply}
use Rattle.search_why.specs.declared.oracle.Reply.TheVariants.{Found}
use Rattle.search_why.specs.Asked.{AreLawPlaces, IsRightReply, NoneMeetsLaws, NoneMeetsAll}
use Rattle.search_why.specs.Outcome.{laws_at, TellsOutcome}
use Rattle.search_why.proofs.PlaceLemmas.{countdown_below, countdown_once, countdown_has, remove_map}

same_default : {X : Type 0} (xs : List X) (k : ℕ) (d e : X) → k < length xs → slice_index_or xs k d ≡ slice_index_or xs k e
same_default [] k d e lt = absurd (omega (arith, lt))
same_default (x ∷ xs) zero d e lt = refl
same_default (x ∷ xs) (suc k) d e lt = same_default xs k d e (omega (arith, lt))

-- a loose drawing that meets all laws is lawful
met_all : (p : Task) (d : Drawing) → HasAllLaws p → All (MeetsAt p d) (countdown (length p.laws)) → (i : Instance) → Contains p.laws i →
    Meets p.graph p.grid d i
met_all p d h met i c =
    let at : MeetsAt p d c.0 = All-contains (MeetsAt p d) (countdown (length p.laws)) c.0 met (countdown_has (length p.laws) c.0 c.1) in
    subst (Meets p.graph p.grid d) (same_default p.laws c.0 (NodeOnGrid 0) i c.1 ∙ c.2) at

meets_each : (p : Task) (d : Drawing) → HasAllLaws p → IsLoose p.graph p.grid d → All (MeetsAt p d) (countdown (length p.laws)) → (i : Instance) →
    IsInstance p.graph p.above i → Meets p.graph p.grid d i
meets_each p d h loose met (NodeOnGrid n) is = loose.nodes_on_grid n is
meets_each p d h loose met (LineOnGrid e) is = loose.lines_on_grid e is
meets_each p d h loose met (Joined e) is = loose.joined e is
meets_each p d h loose met (Ordered u v) is = met_all p d h met (Ordered u v) (h.all (Ordered u v) is tt)
meets_each p d h loose met (Aligned n) is = met_all p d h met (Aligned n) (h.all (Aligned n) is tt)
meets_each p d h loose met (Apart u v) is = met_all p d h met (Apart u v) (h.all (Apart u v) is tt)
meets_each p d h loose met (Over e f) is = met_all p d h met (Over e f) (h.all (Over e f) is tt)
meets_each p d h loose met (Parted e f) is = met_all p d h met (Parted e f) (h.all (Parted e f) is tt)

pub all_met : (p : Task) (d : Drawing) → HasAllLaws p → IsLoose p.graph p.grid d → All (MeetsAt p d) (countdown (length p.laws)) →
    Lawful p.graph p.above p.grid d
all_met p d h loose met = record { fits = loose.fits; laws = meets_each p d h loose met }

pub all_places_are : (p : Task) → AreLawPlaces p (countdown (length p.laws))
all_places_are p = record { there = countdown_below (length p.laws); once = countdown_once (length p.laws) }

-- nothing is left to take away
-- one of a list, but not the one at a place, is among the others
remove_other : {X : Type 0} (xs : List X) (i : ℕ) (x y : X) → i < length xs → get_or xs i x ≡ x → Contains xs y → y ≢ x → Contains (remove xs i) y
remove_other [] i x y lt is there ne = absurd (omega (arith, lt))
remove_other (z ∷ xs) zero x y lt is (zero, w, e) ne = absurd (ne (sym e ∙ is))
remove_other (z ∷ xs) zero x y lt is (suc j, w, e) ne = (j, omega (arith, w), e)
remove_other (z ∷ xs) (suc i) x y lt is (zero, w, e) ne = (zero, omega arith, e)
remove_other (z ∷ xs) (suc i) x y lt is (suc j, w, e) ne =
    let rest = remove_other xs i x y (omega (arith, lt)) is (j, omega (arith, w), e) ne in
    (suc rest.0, (let m = rest.1 in omega arith), rest.2)

-- the laws are distinct: where the same law stood at two places, the drawing without the first would meet it
laws_once : (p : Task) (kept : List ℕ) (without : List Drawing) → IsNarrowed p kept [] without → AllPairs (λ i j. i ≢ j) (laws_at p kept)
laws_once p kept without n = λ i j d lt within e.
    let len = length-map kept (law_at p) in
    let count = n.count in
    let a = get_or kept i 0 in
    let b = get_or kept j 0 in
    let i_within : i < length kept = omega arith in
    let j_within : j < length kept = omega arith in
    let ea : get_or (laws_at p kept) i d ≡ law_at p a = at_map (law_at p) kept i 0 d i_within in
    let eb : get_or (laws_at p kept) j d ≡ law_at p b = at_map (law_at p) kept j 0 d j_within in
    let same : law_at p a ≡ law_at p b = sym ea ∙ e ∙ eb in
    let none : Drawing = record { places = []; lines = [] } in
    let w = get_or without i none in
    let got = n.each i w (slice_get-get_or without i none (omega arith)) in
    let others : All (MeetsAt p w) (remove kept i) = subst (All (MeetsAt p w)) (append-nil (remove kept i)) got.1 in
    let at_a : get_or kept i a ≡ a = same_default kept i a 0 i_within in
    let apart : a ≢ b = n.kept_places.once i j 0 lt j_within in
    let met_b : MeetsAt p w b = All-contains (MeetsAt p w) (remove kept i) b others
    (remove_other kept i a b i_within at_a (Contains-get_or kept j 0 j_within) (λ z. apart (sym z))) in
    let met_a : MeetsAt p w a = subst (Meets p.graph p.grid w) (sym same) met_b in
    n.none w got.0 (subst (All (MeetsAt p w)) (sym (append-nil kept)) (λ k c inside. elim (eqb_tells (get_or kept k c) a) [
      | inl is ↦ subst (MeetsAt p w) (sym is.1) met_a
      | inr other ↦ All-contains (MeetsAt p w) (remove kept i) (get_or kept k c) others
          (remove_other kept i a (get_or kept k c) i_within at_a (Contains-get_or kept k c inside) other.1)
    ]))

pub narrowed_explains : (p : Task) (kept : List ℕ) (without : List Drawing) → HasAllLaws p → IsNarrowed p kept [] without →
    IsExplanation p.graph p.above p.grid (laws_at p kept)
narrowed_explains p kept without h n = record {
  each = All-map (IsChoiceOf p.graph p.above) (law_at p) kept (All-weaker (λ k. k < length p.laws) (λ k. IsChoiceOf p.graph p.above (law_at p k))
      (λ k lt. h.each k (NodeOnGrid 0) lt) kept n.kept_places.there);
  once = laws_once p kept without n;
  explain = λ d loose all. n.none d loose (subst (All (MeetsAt p d)) (sym (append-nil kept)) (all_mapped (Meets p.graph p.grid d) (law_at p) kept all));
}

pub narrowed_without : (p : Task) (kept : List ℕ) (without : List Drawing) → IsNarrowed p kept [] without → AreWithout p.graph p.grid (laws_at p kept) without
narrowed_without p kept without n = record {
  count = n.count ∙ sym (length-map kept (law_at p));
  each = λ i d is.
      let got = n.each i d is in
      record {
        loose = got.0;
        others = subst (All (Meets p.graph p.grid d)) (sym (remove_map (law_at p) kept i))
            (All-map (Meets p.graph p.grid d) (law_at p) (remove kept i) (subst (All (MeetsAt p d)) (append-nil (remove kept i)) got.1));
      };
}

-- the laws of explanations
-- a lawful drawing is loose
lawful_is_loose : (g : Graph) (above : ℕ → ℕ → Bool) (grid : GridSize) (d : Drawing) → Lawful g above grid d → IsLoose g grid d
lawful_is_loose g above grid d l = record {
  fits = l.fits;
  nodes_on_grid = λ n lt. l.laws (NodeOnGrid n) lt;
  lines_on_grid = λ e lt. l.laws (LineOnGrid e) lt;
  joined = λ e lt. l.laws (Joined e) lt;
}

-- where no loose drawing meets all laws none is lawful
pub none_meets_none_lawful : (p : Task) → HasAllLaws p → NoneMeetsAll p → (d : Drawing) → Lawful p.graph p.above p.grid d → ⊥
none_meets_none_lawful p all none d l = none d (lawful_is_loose p.graph p.above p.grid d l) (λ n lt. l.laws (law_at p n) (all.each n (NodeOnGrid 0) lt).is)

pub none_lawful : (g : Graph) (above : ℕ → ℕ → Bool) (grid : GridSize) (laws : List Instance) → IsExplanation g above grid laws → (d : Drawing) →
    Lawful g above grid d → ⊥
none_lawful g above grid laws h d l = h.explain d (lawful_is_loose g above grid d l) (λ k e lt. l.laws (get_or laws k e) (h.each k e lt).is)

pub irreducible : (g : Graph) (grid : GridSize) (laws : List Instance) (drawings : List Drawing) → AreWithout g grid laws drawings → IsIrreducible g grid laws
irreducible g grid laws drawings h = λ k there.
    let i = there.0 in
    let lt : i < length drawings = (let c = h.count in let w = there.1 in omega arith) in
    let d = get_or drawings i (record { places = []; lines = [] }) in
    let is : slice_get drawings i ≡ Some d = slice_get-get_or drawings i (record { places = []; lines = [] }) lt in
    let w = h.each i d is in
    (d, w.loose, λ j c ne. All-contains (Meets g grid d) (remove laws i) j w.others (remove_other laws i k j there.1 there.2 c ne))

-- ---- the first question

pub found_all : (p : Task) (all : List ℕ) (d : Drawing) (reply : Reply) → all ≡ countdown (length p.laws) → reply ≡ Found d → IsRightReply p all reply →
    HasAllLaws p → Lawful p.graph p.above p.grid d
found_all p all d reply every is right h =
    let got : IsRightReply p (countdown (length p.laws)) (Found d) = subst (λ (r : Reply). IsRightReply p (countdown (length p.laws)) r) is
    (subst (λ (w : List ℕ). IsRightReply p w reply) every right) in
    all_met p d h got.0 got.1

-- ---- a search that stopped while it narrowed

-- where no loose drawing meets some of the laws, none meets them all
pub none_at_all : (p : Task) (places : List ℕ) → AreLawPlaces p places → NoneMeetsLaws p places → NoneMeetsAll p
none_at_all p places are none = λ d loose all. none d loose (All-weaker (λ n. n < length p.laws) (MeetsAt p d) (λ n lt. all n lt) places are.there)

pub narrowed_tells : (p : Task) (o : Outcome) (lines more : Lines) → NoneMeetsAll p → TellsNarrowed p o (lines ++ more) → TellsOutcome p o lines more
narrowed_tells p (Exists d) lines more none tells = tt
narrowed_tells p (Laws places without) lines more none tells = tt
narrowed_tells p (Stopped stop) lines more none tells = (tells, inr none)
