-- How many words the laws' clauses have.
use Rattle.std.proofs.Common.{◌≡◌, ℕ, zero, suc, ◌+◌, ◌-◌, ◌*◌, ◌≤◌, List, [], ◌∷◌, ◌++◌, length, ap, arith}
use Rattle.std.specs.declared.cmp.Ordering.{Ordering}
use Rattle.std.specs.declared.cmp.Ordering.TheVariants.{Less, Equal, Greater}
use Rattle.std.proofs.Math.Nat.{mul-le-mul_right}
use Rattle.plan_core.specs.Graph.{Graph}
use Rattle.plan_core.specs.Lawful.{Instance}
use Rattle.cnf_core.specs.declared.literal.LitOrTruth.{LitOrTruth}
use Rattle.cnf_core.specs.declared.literal.LitOrTruth.TheVariants.{False}
use Rattle.cnf_core.specs.Lit.{Literal}
use Rattle.cnf_core.specs.Clause.{words_of}
use Rattle.cnf_core.specs.LitOrTruth.{yes, flip}
use Rattle.cnf_core.proofs.ClauseLemmas.{words_append, words_each}
use Rattle.cnf_core.proofs.GatherLemmas.{clause_words}
use Rattle.order_int.specs.IntVars.{IntVars, size}
use Rattle.order_int.specs.OrderInt.{int_at_least}
use Rattle.edge_shape.specs.EdgeVars.{NodeInts, EdgeLits}
use Rattle.cnf_laws.specs.Guards.{Guards, no_guards, one_guard, two_guards, guarded_clause, guarded_order}
use Rattle.cnf_laws.specs.Stands.{DrawingVars}
use Rattle.cnf_laws.specs.LawClauses.{ordered_clauses, apart_rows_clauses, west_clauses, apart_clauses, SharingEdge, higher_guards, higher_column}
use Rattle.cnf_laws.specs.LawClauses.{higher_clauses, laws_clauses, laws_size}
use Rattle.cnf_laws.specs.Expected.{instances_from, pairs_from, instance_pairs}
use Rattle.cnf_laws.proofs.LawCode.{laws_append}

-- clauses unless one literal at most is true
pub guarded_words : (a b : IntVars) (plus : ℕ) (g : Guards) (unless : List Literal) → length unless ≤ 1 →
    words_of (guarded_order a b plus g unless) ≤ (size a + 1) * 11
guarded_words a b plus g unless few = words_each 11 (guarded_clause a b plus g unless) a.low (size a + 1)
    (λ k from to. omega (
      arith,
      few,
      clause_words unless (g.first ∷ g.second ∷ g.third ∷ g.fourth ∷ g.fifth ∷ flip (int_at_least a k) ∷ int_at_least b
          (k + plus) ∷ []),
    ))

pub ordered_words : (o : Ordering) (a b : IntVars) (unless : List Literal) (w : ℕ) → length unless ≤ 1 → size a ≤ w → size b ≤ w →
    words_of (ordered_clauses o a b unless) ≤ (w + 1) * 22
ordered_words Less a b unless w few la lb = omega (arith, guarded_words a b 0 no_guards unless few)
ordered_words Equal a b unless w few la lb = omega (
  arith,
  guarded_words a b 0 no_guards unless few,
  guarded_words b a 0 no_guards unless few,
  words_append
      (guarded_order a b 0 no_guards unless) (guarded_order b a 0 no_guards unless),
)
ordered_words Greater a b unless w few la lb = omega (arith, guarded_words b a 0 no_guards unless few)

pub rows_words : (below : ℕ) (guard : LitOrTruth) (a b : IntVars) (unless : List Literal) (h : ℕ) → length unless ≤ 1 → size a ≤ h → size b ≤ h →
    words_of (apart_rows_clauses below guard a b unless) ≤ (h + 1) * 22
rows_words below guard a b unless h few la lb = omega (
  arith,
  guarded_words a b 1 (two_guards guard (flip (yes below))) unless few,
  guarded_words b a 1
      (two_guards guard (yes below)) unless few,
  words_append (guarded_order a b 1 (two_guards guard (flip (yes below))) unless)
      (guarded_order b a 1 (two_guards guard (yes below)) unless),
)

west_words : (first : ℕ) (a b : NodeInts) (unless : List Literal) (w h : ℕ) → length unless ≤ 1 → size a.x ≤ w → size a.y ≤ h → size b.y ≤ h →
    words_of (west_clauses first a b unless) ≤ (w + 1) * 11 + (h + 1) * 22
west_words first a b unless w h few lx la lb = omega (
  arith,
  guarded_words a.x b.x 1 (one_guard (yes first)) unless few,
  rows_words (first + 1)
      (flip (yes first)) a.y b.y unless h few la lb,
  words_append (guarded_order a.x b.x 1 (one_guard (yes first)) unless)
      (apart_rows_clauses (first + 1) (flip (yes first)) a.y b.y unless),
)

pub apart_words : (o : Ordering) (first : ℕ) (a b : NodeInts) (unless : List Literal) (w h : ℕ) → length unless ≤ 1 → size a.x ≤ w → size b.x ≤ w →
    size a.y ≤ h → size b.y ≤ h → words_of (apart_clauses o first a b unless) ≤ (w + 1) * 11 + (h + 1) * 22
apart_words Less first a b unless w h few ax bx ay by = west_words first a b unless w h few ax ay by
apart_words Equal first a b unless w h few ax bx ay by = omega (arith, rows_words first False a.y b.y unless h few ay by)
apart_words Greater first a b unless w h few ax bx ay by = west_words first b a unless w h few bx by ay

pub higher_words : (e : SharingEdge) (f : EdgeLits) (width : ℕ) (guard : LitOrTruth) (unless : List Literal) (h : ℕ) → length unless ≤ 1 →
    ((c : ℕ) → c ≤ width → size (f.height c) ≤ h) → words_of (higher_clauses e f width guard unless) ≤ (width + 1) * ((h + 1) * 11)
higher_words e f width guard unless h few low = words_each ((h + 1) * 11) (higher_column e f guard unless) 0 (width + 1)
    (λ c from to. let s = low c (omega arith) in omega (arith, guarded_words (f.height c) (e.edge.height c) 1 (higher_guards e f guard c) unless few))

-- lists of instances, by rows
pub listed_words : (g : Graph) (x : DrawingVars) (width most : ℕ) (f : ℕ → List Instance) →
    ((k first : ℕ) → words_of (laws_clauses g x width first (f k)) ≤ most) → (a n first : ℕ) →
    words_of (laws_clauses g x width first (instances_from f a n)) ≤ n * most
listed_words g x width most f h a zero first = omega arith
listed_words g x width most f h a (suc n) first =
    let split : words_of (laws_clauses g x width first (instances_from f a (suc n))) ≡ words_of
    (laws_clauses g x width first (f a) ++ laws_clauses g x width (first + laws_size g (f a)) (instances_from f (a + 1) n)) = ap words_of
    (laws_append g x width first (f a) (instances_from f (a + 1) n)) in
    let both = words_append (laws_clauses g x width first (f a)) (laws_clauses g x width (first + laws_size g (f a)) (instances_from f (a + 1) n)) in
    let rest = listed_words g x width most f h (a + 1) n (first + laws_size g (f a)) in
    let here = h a first in
    let one : suc n * most ≡ n * most + most = omega arith in
    omega arith

pub all_pairs_words : (g : Graph) (x : DrawingVars) (width most n : ℕ) (f : ℕ → ℕ → List Instance) →
    ((a b first : ℕ) → words_of (laws_clauses g x width first (f a b)) ≤ most) → (first : ℕ) →
    words_of (laws_clauses g x width first (instance_pairs n f)) ≤ n * (n * most)
all_pairs_words g x width most n f h first = listed_words g x width (n * most) (pairs_from n f) (λ a start.
    let here = listed_words g x width most (f a) (λ b k. h a b k) (a + 1) (n - (a + 1)) start in
    let fewer : (n - (a + 1)) * most ≤ n * most = mul-le-mul_right most (omega arith) in
    omega arith) 0 n first
