-- A look at one clause, literal by literal.
use Rattle.std.proofs.Common.{◌≡◌, ℕ, ◌+◌, ◌<◌, ◌≤◌, ◌⊎◌, false, List, [], ◌∷◌, None, Some, length, take, get_or, refl, sym, ◌∙◌, subst, inl, inr, arith}
use Rattle.std.proofs.Common.{length-take-le}
use Rattle.std.specs.Prelude.{All, Contains}
use Rattle.std.proofs.lemmas.Bool.{both_ways}
use Rattle.std.proofs.lemmas.List.Elements.{All-contains, All-more, All-weaker, Contains-push, Contains-append_left}
use Rattle.std.proofs.lemmas.List.{take_more, take_all, get_or-take}
use Rattle.std.specs.declared.option.Option.{Option}
use Rattle.cnf_core.specs.Lit.{Literal, negate}
use Rattle.cnf_core.specs.Clause.{AreDistinct}
use Rattle.cnf_core.specs.Propagation.{LiteralSet, IsIn}
use Rattle.cnf_core.proofs.TrailLemmas.{front_differs}
use Rattle.refute_check.specs.Tables.{IsQuiet}

abbrev pub IsFalse : LiteralSet → Literal → Type 0
IsFalse set k = IsIn set (negate k)

abbrev pub IsLastOr : LiteralSet → Literal → Literal → Type 0
IsLastOr set u k = (k ≡ u) ⊎ IsFalse set k

-- what the literals so far leave
pub record SeenOne (set : LiteralSet) (front : List Literal) (u : Literal) : Type 0 where
  pub among : Contains front u
  pub others : All (IsLastOr set u) front
  pub not_true : set u ≡ false
  pub not_false : set (negate u) ≡ false

abbrev pub Seen : LiteralSet → List Literal → Option Literal → Type 0
Seen set front None = All (IsFalse set) front
Seen set front (Some u) = SeenOne set front u

pub seen_false : (set : LiteralSet) (c : List Literal) (i : ℕ) (d : Literal) (o : Option Literal) → i < length c → Seen set (take i c) o →
    IsFalse set (get_or c i d) → Seen set (take (i + 1) c) o
seen_false set c i d None within s h = All-more (IsFalse set) c i d within s h
seen_false set c i d (Some u) within s h = record {
  among = subst (λ (front : List Literal). Contains front u) (sym (take_more c i d within)) (Contains-append_left (take i c) (get_or c i d ∷ []) u s.among);
  others = All-more (IsLastOr set u) c i d within s.others (inr h);
  not_true = s.not_true;
  not_false = s.not_false;
}

pub seen_unset : (set : LiteralSet) (c : List Literal) (i : ℕ) (d : Literal) → i < length c → Seen set (take i c) None → set (get_or c i d) ≡ false →
    set (negate (get_or c i d)) ≡ false → SeenOne set (take (i + 1) c) (get_or c i d)
seen_unset set c i d within s h k = record {
  among = subst (λ (front : List Literal). Contains front (get_or c i d)) (sym (take_more c i d within)) (Contains-push (take i c) (get_or c i d));
  others = All-more (IsLastOr set (get_or c i d)) c i d within (All-weaker (IsFalse set) (IsLastOr set (get_or c i d)) (λ x e. inr e) (take i c) s) (inl refl);
  not_true = h;
  not_false = k;
}

-- two literals that aren't false
pub quiet_two : (set : LiteralSet) (c : List Literal) (i : ℕ) (u d : Literal) → AreDistinct c → i < length c → SeenOne set (take i c) u →
    set (negate (get_or c i d)) ≡ false → IsQuiet set set c
quiet_two set c i u d distinct within s not_false =
    let one : Contains c u = (s.among.0, low, at_u) in
    record {
      closed = λ l unit. elim (All-contains (λ k. (k ≡ l) ⊎ IsIn set (negate k)) c u unit.others one) [
        | inl e ↦ elim (unit.others i d within) [
          | inl f ↦ absurd (front_differs c i u d distinct within s.among (f ∙ sym e))
          | inr t ↦ absurd (both_ways (set (negate (get_or c i d))) not_false t)
        ]
        | inr t ↦ absurd (both_ways (set (negate u)) s.not_false t)
      ];
      unfalsified = λ all. both_ways (set (negate (get_or c i d))) not_false (all i d within);
    }
  where
    size : length (take i c) ≡ i
    size = length-take-le i c (omega arith)

    below : s.among.0 < i
    below = let lt = s.among.1 in omega (arith, size, lt)

    low : s.among.0 < length c
    low = omega (arith, below)

    at_u : get_or c s.among.0 u ≡ u
    at_u = sym (get_or-take i c s.among.0 u below) ∙ s.among.2

-- at the end of the clause
pub seen_all : (set : LiteralSet) (c : List Literal) (i : ℕ) → length c ≤ i → Seen set (take i c) None → All (IsFalse set) c
seen_all set c i end s = subst (λ (front : List Literal). All (IsFalse set) front) (take_all i c end) s
