-- Which pair comes next, and what is so before each.
use Rattle.std.specs.Prelude.{◌≡◌, ◌≤◌, ◌<◌, ◌⊎◌, ⊤, ℕ, List, [], ◌∷◌, All, Contains, Option, None, Some, fold}
use Rattle.plan_core.specs.declared.criterion.Criterion.{Criterion}
use Rattle.plan_core.specs.Drawing.{Drawing}
use Rattle.plan_core.specs.Values.{values_of, value_of}
use Rattle.search_least.specs.declared.oracle.Below.{Below}
use Rattle.refute_log.specs.Told.{Lines}
use Rattle.search_least.specs.Task.{Task, IsLawful, greatest_of}
use Rattle.search_least.specs.Asked.{below_limit, AreMet}
use Rattle.search_least.specs.State.{hold}
use Rattle.trade_off.specs.declared.collecting.Next.{Next}
use Rattle.trade_off.specs.declared.collecting.Next.TheVariants.{Pair, NoMore, Stopped}
use Rattle.trade_off.specs.Front.{Pairs, IsAttained, AreOnFront}
use Rattle.trade_off.specs.Least.{IsLeastUnder, LowersUnder, HaveComeTo, StopsUnder}

-- the number is below the limit, where there is one
abbrev pub IsUnder : Option ℕ → ℕ → Type 0
IsUnder None m = ⊤
IsUnder (Some limit) m = m < limit

-- as a question's bounds
abbrev pub under : Criterion → Option ℕ → List Below
under c None = []
under c (Some limit) = below_limit c limit ∷ []

-- of the attained pairs whose second number is below the limit it has the least first number, and of those with no
-- greater first number the least second one
pub record IsNextPair (IsOne : Drawing → Type 0) (a b : Criterion) (limit : Option ℕ) (n m : ℕ) : Type 0 where
  pub attained : IsAttained IsOne a b n m
  pub below : IsUnder limit m
  pub least_first : (k l : ℕ) → IsAttained IsOne a b k l → IsUnder limit l → n ≤ k
  pub least_second : (k l : ℕ) → IsAttained IsOne a b k l → k ≤ n → m ≤ l

-- this pair comes next below the limit on the second number, or there is none; where the search stopped
-- nothing is said
abbrev pub IsNext : (Drawing → Type 0) → Criterion → Criterion → Option ℕ → Next → Type 0
IsNext IsOne a b limit (Pair n m) = IsNextPair IsOne a b limit n m
IsNext IsOne a b limit NoMore = (k l : ℕ) → IsAttained IsOne a b k l → IsUnder limit l → ⊥
IsNext IsOne a b limit (Stopped stop) = ⊤

-- behind a drawing with the least first number: the least second number with it
pub record IsSecond (p : Task) (a b : Criterion) (before : Drawing) (n m : ℕ) : Type 0 where
  pub drawing : Drawing
  pub lawful : IsLawful p drawing
  pub first_is : n ≡ value_of (values_of before) a
  pub first : value_of (values_of drawing) a ≤ n
  pub second : value_of (values_of drawing) b ≡ m
  pub no_more : m ≤ value_of (values_of before) b
  pub least : (e : Drawing) → IsLawful p e → value_of (values_of e) a ≤ n → m ≤ value_of (values_of e) b

-- the same once the first number is found: there is such a second number, unless the search stopped
abbrev pub IsSecondOf : Task → Criterion → Criterion → Drawing → Next → Type 0
IsSecondOf p a b before (Pair n m) = IsSecond p a b before n m
IsSecondOf p a b before NoMore = ⊥
IsSecondOf p a b before (Stopped stop) = ⊤

-- the pairs so far: of the attained pairs those whose second number is below the limit come behind all of them, and for
-- each other one there is a pair that is at most it in both numbers
pub record IsSoFar (IsOne : Drawing → Type 0) (a b : Criterion) (limit : ℕ) (pairs : Pairs) : Type 0 where
  pub listed : AreOnFront IsOne a b pairs
  pub behind : (n m : ℕ) → IsAttained IsOne a b n m → m < limit → All (λ x. x.0 < n) pairs
  pub before : (n m : ℕ) → IsAttained IsOne a b n m → limit ≤ m → (x : ℕ × ℕ) × Contains pairs x × (x.0 ≤ n) × (x.1 ≤ m)
  pub some : (d : Drawing) × IsOne d

-- ---- what is asked

-- of the lawful drawings whose second number is below the limit it has the least first number
pub record HasLeastFirst (p : Task) (a b : Criterion) (limit : Option ℕ) (d : Drawing) : Type 0 where
  pub lawful : IsLawful p d
  pub met : AreMet (values_of d) (under b limit)
  pub least : IsLeastUnder p (under b limit) a d

-- with the drawing's first number held: less of the second
abbrev pub AsksSecond : Criterion → Criterion → Drawing → Task → List Below → Type 0
AsksSecond a b d p bounds = LowersUnder (hold a (value_of (values_of d) a) (greatest_of p a)) b p bounds

-- for the next pair below the limit on the second number: any drawing below it, one with less of the first number, or
-- with the least first number held, one with less of the second
abbrev pub AsksNext : Criterion → Criterion → Option ℕ → Task → List Below → Type 0
AsksNext a b limit p bounds = (bounds ≡ under b limit) ⊎ LowersUnder (under b limit) a p bounds
    ⊎ ((d : Drawing) × HasLeastFirst p a b limit d × AsksSecond a b d p bounds)

-- how it is asked for: with a pair the questions have come to its second number; or the search stopped in such a
-- question
abbrev pub EndsNext : Task → (List Below → Type 0) → Criterion → Next → Lines → Type 0
EndsNext p Such b (Pair n m) lines = HaveComeTo b b (under b (Some m)) lines
EndsNext p Such b NoMore lines = ⊤
EndsNext p Such b (Stopped stop) lines = StopsUnder p Such b stop lines

-- the limit behind one more pair: its second number
abbrev pub limit_after : Option ℕ → ℕ × ℕ → Option ℕ
limit_after limit x = Some x.1

-- the limit behind these pairs: the second number of the last, or none where there is no pair
abbrev pub limit_behind : Pairs → Option ℕ
limit_behind pairs = fold limit_after None pairs
