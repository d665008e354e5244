-- Places of a topology.
use Rattle.std.proofs.Common.{◌≡◌, ℕ, ap, ◌∙◌}
use Rattle.plan_core.specs.declared.topology.Place.{Place}
use Rattle.plan_core.specs.declared.topology.Part.{Part}

-- a place is its track and its part
pub same_place : (p q : Place) → p.track ≡ q.track → p.part ≡ q.part → p ≡ q
same_place p q e f =
    let F : ℕ → Part → Place = λ k part. record { track = k; part = part } in
    ap (λ (k : ℕ). F k p.part) e ∙ ap (λ (part : Part). F q.track part) f
