-- Walks that go on, and what they keep.
use Rattle.std.specs.Prelude.{◌≡◌, ℕ, Bool, true, ◌<◌, List, [], ◌∷◌, ◌++◌, length}
use Rattle.std.proofs.Common.{refl, sym, subst}
use Rattle.plan_core.specs.Graph.{Graph}
use Rattle.plan_core.specs.declared.sides.Compass.{Compass}
use Rattle.track_order.specs.Reach.{EdgeFollows, IsWalk, Reaches, IsOnward}

-- a walk and one edge more
pub walk_on : (g : Graph) (way : Compass) (e f h : ℕ) (edges : List ℕ) → IsWalk g way e edges f → h < length g.edges → EdgeFollows g way f h →
    IsWalk g way e (edges ++ h ∷ []) h
walk_on g way e f h [] w lt follows = (lt, subst (λ (x : ℕ). EdgeFollows g way x h) (sym w) follows, refl)
walk_on g way e f h (next ∷ rest) w lt follows = (w.0, w.1, walk_on g way next f h rest w.2 lt follows)

pub reaches_self : (g : Graph) (way : Compass) (e : ℕ) → Reaches g way e e
reaches_self g way e = record { edges = []; walk = refl }

pub reaches_on : (g : Graph) (way : Compass) (e f h : ℕ) → Reaches g way e f → h < length g.edges → EdgeFollows g way f h → Reaches g way e h
reaches_on g way e f h r lt follows = record { edges = r.edges ++ h ∷ []; walk = walk_on g way e f h r.edges r.walk lt follows }

-- what goes on holds along a walk
pub kept_along : (g : Graph) (way : Compass) (e f : ℕ) (held : ℕ → Bool) (edges : List ℕ) → IsOnward g way (λ h. held h ≡ true) → held e ≡ true →
    IsWalk g way e edges f → held f ≡ true
kept_along g way e f held [] onward here w = subst (λ (x : ℕ). held x ≡ true) w here
kept_along g way e f held (next ∷ rest) onward here w = kept_along g way next f held rest onward (onward e next here w.0 w.1) w.2

pub is_kept : (g : Graph) (way : Compass) (e : ℕ) (held : ℕ → Bool) → IsOnward g way (λ h. held h ≡ true) → held e ≡ true → (f : ℕ) → Reaches g way e f →
    held f ≡ true
is_kept g way e held onward here f r = kept_along g way e f held r.edges onward here r.walk

-- the least set that is kept from an edge on
pub ruleset reaching = (reaches_self, reaches_on, is_kept)
