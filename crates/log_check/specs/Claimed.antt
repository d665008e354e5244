-- What is claimed of drawings, when a log certifies it, and what it lacks.
use Rattle.std.specs.Prelude.{◌≡◌, ◌≤◌, ◌+◌, ℕ, ⊤, List, Some, length, take}
use Rattle.plan_core.specs.declared.criterion.Criterion.{Criterion}
use Rattle.plan_core.specs.Drawing.{Drawing}
use Rattle.plan_core.specs.Values.{values_of, Better}
use Rattle.refute_log.specs.Told.{Lines}
use Rattle.refute_log.specs.Certified.{Certifies, CertifiesNone}
use Rattle.refute_check.specs.Lacking.{IsFirstLacking}
use Rattle.log_check.specs.declared.claim.Claim.{Claim}
use Rattle.log_check.specs.declared.claim.Claim.TheVariants.{Least, NoDrawing, Nothing}

-- the order has as many places as are claimed
abbrev pub IsClaimOf : List Criterion → Claim → Type 0
IsClaimOf order (Least v places) = places ≤ length order
IsClaimOf order NoDrawing = ⊤
IsClaimOf order Nothing = ⊤

-- the lines certify it
abbrev pub CertifiesClaim : (Criterion → ℕ) → Lines → List Criterion → Claim → Type 0
CertifiesClaim greatest lines order (Least v places) = Certifies greatest lines order v places
CertifiesClaim greatest lines order NoDrawing = CertifiesNone lines
CertifiesClaim greatest lines order Nothing = ⊤

-- they don't, first at this place, counted from 1; at place 0 where they don't certify that there is none
abbrev pub LacksAt : (Criterion → ℕ) → Lines → List Criterion → Claim → ℕ → Type 0
LacksAt greatest lines order (Least v places) place =
    (i : ℕ) × (place ≡ i + 1) × IsFirstLacking greatest lines order v places (Some i)
LacksAt greatest lines order NoDrawing place = (place ≡ 0) × (CertifiesNone lines → ⊥)
LacksAt greatest lines order Nothing place = ⊥

-- it is so: no lawful drawing is better on the claimed places, or none is lawful
abbrev pub IsTrueClaim : (IsLawfulOne : Drawing → Type 0) → List Criterion → Claim → Type 0
IsTrueClaim IsLawfulOne order (Least v places) =
    (d : Drawing) → IsLawfulOne d → Better (take places order) (values_of d) v → ⊥
IsTrueClaim IsLawfulOne order NoDrawing = (d : Drawing) → IsLawfulOne d → ⊥
IsTrueClaim IsLawfulOne order Nothing = ⊤
