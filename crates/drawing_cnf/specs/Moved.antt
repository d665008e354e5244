-- How many nodes moved.
use Rattle.std.specs.Prelude.{ℕ, Bool, true, false, not, ◌&&◌, nat_eq, List, length, Option, None, Some, slice_index_or}
use Rattle.plan_core.specs.declared.point.Point.{Point}
use Rattle.cnf_laws.specs.Rank.{count_below}

-- the former point of each node, where it has one
abbrev pub Former : Type 0
Former = List (Option Point)

abbrev pub former_at : Former → ℕ → Option Point
former_at former n = slice_index_or former n None

abbrev pub is_point : Point → Point → Bool
is_point p q = nat_eq p.x q.x && nat_eq p.y q.y

abbrev pub is_matched : Option Point → Bool
is_matched None = false
is_matched (Some q) = true

-- it has a former point, and the point isn't that one
abbrev pub is_moved : Option Point → Point → Bool
is_moved None p = false
is_moved (Some q) p = not (is_point p q)

-- how many of the first n nodes have a former point
abbrev pub matched_before : Former → ℕ → ℕ
matched_before former n = count_below (λ k. is_matched (former_at former k)) n

-- how many nodes have a former point
abbrev pub matched : Former → ℕ
matched former = matched_before former (length former)

-- how many nodes moved, where the points are these
abbrev pub moved : Former → (ℕ → Point) → ℕ
moved former place = count_below (λ k. is_moved (former_at former k) (place k)) (length former)
