-- One broken law is the least.
use Rattle.std.proofs.Common.{◌≡◌, ◌⊎◌, inl, inr, ℕ, ◌<◌, Bool, sym, ◌∙◌, ap, arith}
use Rattle.std.proofs.lemmas.Bool.{cases_order}
use Rattle.plan_core.specs.Grid.{GridSize}
use Rattle.plan_core.specs.Graph.{Graph}
use Rattle.plan_core.specs.Drawing.{Drawing}
use Rattle.plan_core.specs.Lawful.{Instance, NodeOnGrid, LineOnGrid, Ordered, Joined, Aligned, Apart, Over, Parted, Lawful}
use Rattle.lawful_check.specs.declared.law_break.LawBreak.{LawBreak}
use Rattle.lawful_check.specs.Breaks.{law_rank, first_of, second_of, IsBefore, break_of, IsLeastBroken, IsLeastBreak}

pub lawful_breaks_none : (g : Graph) (above : ℕ → ℕ → Bool) (grid : GridSize) (d : Drawing) (b : LawBreak) → Lawful g above grid d →
    IsLeastBreak g above grid d b → ⊥
lawful_breaks_none g above grid d b lawful broken = broken.least.broken (lawful.laws broken.instance broken.least.is)

same_instance : (i j : Instance) → law_rank i ≡ law_rank j → first_of i ≡ first_of j → second_of i ≡ second_of j → i ≡ j
same_instance (NodeOnGrid n) (NodeOnGrid m) r f s = ap NodeOnGrid f
same_instance (LineOnGrid n) (LineOnGrid m) r f s = ap LineOnGrid f
same_instance (Ordered u v) (Ordered n m) r f s = ap (λ (a : ℕ). Ordered a v) f ∙ ap (λ (b : ℕ). Ordered n b) s
same_instance (Joined n) (Joined m) r f s = ap Joined f
same_instance (Aligned n) (Aligned m) r f s = ap Aligned f
same_instance (Apart u v) (Apart n m) r f s = ap (λ (a : ℕ). Apart a v) f ∙ ap (λ (b : ℕ). Apart n b) s
same_instance (Over u v) (Over n m) r f s = ap (λ (a : ℕ). Over a v) f ∙ ap (λ (b : ℕ). Over n b) s
same_instance (Parted u v) (Parted n m) r f s = ap (λ (a : ℕ). Parted a v) f ∙ ap (λ (b : ℕ). Parted n b) s
same_instance i j r f s = absurd (omega (arith, r))

pub data Compared (i j : Instance) : Type 0 where
  First : IsBefore i j → Compared i j
  Second : IsBefore j i → Compared i j
  Same : i ≡ j → Compared i j

by_second : (i j : Instance) → law_rank i ≡ law_rank j → first_of i ≡ first_of j →
    (second_of i ≡ second_of j) ⊎ ((second_of i < second_of j) ⊎ (second_of j < second_of i)) → Compared i j
by_second i j r f (inl s) = Same (same_instance i j r f s)
by_second i j r f (inr (inl less)) = First (inr (r, inr (f, less)))
by_second i j r f (inr (inr less)) = Second (inr (sym r, inr (sym f, less)))

by_first : (i j : Instance) → law_rank i ≡ law_rank j → (first_of i ≡ first_of j) ⊎ ((first_of i < first_of j) ⊎ (first_of j < first_of i)) → Compared i j
by_first i j r (inr (inl less)) = First (inr (r, inl less))
by_first i j r (inr (inr less)) = Second (inr (sym r, inl less))
by_first i j r (inl f) = by_second i j r f (cases_order (second_of i) (second_of j))

by_rank : (i j : Instance) → (law_rank i ≡ law_rank j) ⊎ ((law_rank i < law_rank j) ⊎ (law_rank j < law_rank i)) → Compared i j
by_rank i j (inr (inl less)) = First (inl less)
by_rank i j (inr (inr less)) = Second (inl less)
by_rank i j (inl r) = by_first i j r (cases_order (first_of i) (first_of j))

one_instance : (g : Graph) (above : ℕ → ℕ → Bool) (grid : GridSize) (d : Drawing) (i j : Instance) → IsLeastBroken g above grid d i →
    IsLeastBroken g above grid d j → Compared i j → i ≡ j
one_instance g above grid d i j h k (First before) = absurd (h.broken (k.least i h.is before))
one_instance g above grid d i j h k (Second before) = absurd (k.broken (h.least j k.is before))
one_instance g above grid d i j h k (Same same) = same

pub one_least : (g : Graph) (above : ℕ → ℕ → Bool) (grid : GridSize) (d : Drawing) (b c : LawBreak) → IsLeastBreak g above grid d b →
    IsLeastBreak g above grid d c → b ≡ c
one_least g above grid d b c h k =
    let i = h.instance in
    let j = k.instance in
    h.named ∙ ap break_of (one_instance g above grid d i j h.least k.least (by_rank i j (cases_order (law_rank i) (law_rank j)))) ∙ sym k.named
