-- Quiet watches, and what contracts say of the first two literals of each clause.
use Rattle.std.proofs.Common.{◌≡◌, ℕ, ◌+◌, ◌*◌, ◌/◌, ◌%◌, List, refl, sym, subst, inl, inr, arith}
use Rattle.std.proofs.lemmas.Bool.{cases_eq}
use Rattle.std.specs.Prelude.{Contains}
use Rattle.cnf_core.specs.Lit.{Literal, negate}
use Rattle.cnf_core.specs.Propagation.{LiteralSet, IsIn}
use Rattle.watch_arena.specs.Words.{lit_of}
use Rattle.watch_arena.specs.Trail.{Marks, IsMarks, IsLonger}
use Rattle.watch_arena.specs.Walk.{lit_at, lits_at, past_of, HasLit, IsTrueNoLater, IsQuiet, AreGuarded, AreRight, KeepsClauses}
use Rattle.watch_arena.specs.Arena.{IsKept}
use Rattle.watch_arena.proofs.TextLemmas.{is_clause}
use Rattle.watch_arena.proofs.WalkLemmas.{held_longer}

pub quiet_from : (m : Marks) (ws : List ℕ) (p : ℕ) (a : Literal) → IsKept m (lits_at ws p) a → IsQuiet ws (past_of m) m p a
quiet_from m ws p a k = record { held = λ f. let h = k.kept f in let is = is_clause ws p h.0 in (h.0, is.0 h.1, h.2) }

pub kept_from : (m : Marks) (ws : List ℕ) (p : ℕ) (a : Literal) → IsQuiet ws (past_of m) m p a → IsKept m (lits_at ws p) a
kept_from m ws p a q = record { kept = λ f. let h = q.held f in let is = is_clause ws p h.0 in (h.0, is.1 h.1, h.2) }

-- each watch is the first or the second one of its clause
pub guarded_from : (m : Marks) (ws places : List ℕ) (done : LiteralSet) → ((p : ℕ) → Contains places p → IsQuiet ws done m p (lit_at ws (p + 3 + 0))) →
    ((p : ℕ) → Contains places p → IsQuiet ws done m p (lit_at ws (p + 3 + 1))) → AreGuarded ws places done m
guarded_from m ws places done first second = λ s c. elim (cases_eq (s % 2) 0) [
  | inl e ↦ let lit : lit_of s ≡ s / 2 + 3 + 0 = omega arith in subst (λ n. IsQuiet ws done m (s / 2) (lit_at ws n)) (sym lit) (first (s / 2) c)
  | inr ne ↦ let lit : lit_of s ≡ s / 2 + 3 + 1 = omega arith in subst (λ n. IsQuiet ws done m (s / 2) (lit_at ws n)) (sym lit) (second (s / 2) c)
]

pub first_quiet : (m : Marks) (ws places : List ℕ) (done : LiteralSet) → AreGuarded ws places done m → (p : ℕ) → Contains places p →
    IsQuiet ws done m p (lit_at ws (p + 3 + 0))
first_quiet m ws places done q p c =
    let half : (2 * p) / 2 ≡ p = omega arith in
    let lit : lit_of (2 * p) ≡ p + 3 + 0 = omega arith in
    subst (λ n. IsQuiet ws done m n (lit_at ws (p + 3 + 0))) half (subst (λ n. IsQuiet ws done m ((2 * p) / 2) (lit_at ws n)) lit
    (q (2 * p) (subst (λ n. Contains places n) (sym half) c)))

pub second_quiet : (m : Marks) (ws places : List ℕ) (done : LiteralSet) → AreGuarded ws places done m → (p : ℕ) → Contains places p →
    IsQuiet ws done m p (lit_at ws (p + 3 + 1))
second_quiet m ws places done q p c =
    let half : (2 * p + 1) / 2 ≡ p = omega arith in
    let lit : lit_of (2 * p + 1) ≡ p + 3 + 1 = omega arith in
    subst (λ n. IsQuiet ws done m n (lit_at ws (p + 3 + 1))) half (subst (λ n. IsQuiet ws done m ((2 * p + 1) / 2) (lit_at ws n)) lit
    (q (2 * p + 1) (subst (λ n. Contains places n) (sym half) c)))

-- of two literals that may be watched each is kept by the other
pub right_kept : (m : Marks) (c : List Literal) (a b : Literal) → AreRight m a b → Contains c a → Contains c b → IsKept m c a × IsKept m c b
right_kept m c a b r at_a at_b = (record { kept = λ f. (b, at_b, r.first f) }, record { kept = λ f. (a, at_a, r.second f) })

-- a quiet clause on a longer trail, where fewer literals are done, and where its literals change places
pub quiet_longer : (m n : Marks) (ws : List ℕ) (done : LiteralSet) (p : ℕ) (a : Literal) → IsMarks m → IsLonger m n → IsQuiet ws done m p a →
    IsQuiet ws done n p a
quiet_longer m n ws done p a marks longer q = record {
  held = λ f. let h = q.held f in (h.0, h.1, held_longer m n (negate a) h.0 marks longer h.2);
}

pub quiet_fewer : (m : Marks) (ws : List ℕ) (done less : LiteralSet) (p : ℕ) (a : Literal) → (IsIn less (negate a) → IsIn done (negate a)) →
    IsQuiet ws done m p a → IsQuiet ws less m p a
quiet_fewer m ws done less p a within q = record { held = λ f. q.held (within f) }

pub lit_kept : (ws new places : List ℕ) (p : ℕ) (l : Literal) → KeepsClauses places ws new → Contains places p → HasLit ws p l → HasLit new p l
lit_kept ws new places p l k c x = let now = k p (lits_at ws p) c (is_clause ws p) l in let was = is_clause ws p l in now.0 (was.1 x)

pub quiet_text : (m : Marks) (ws new places : List ℕ) (done : LiteralSet) (p : ℕ) (a : Literal) → KeepsClauses places ws new → Contains places p →
    IsQuiet ws done m p a → IsQuiet new done m p a
quiet_text m ws new places done p a k c q = record { held = λ f. let h = q.held f in (h.0, lit_kept ws new places p h.0 k c h.1, h.2) }
