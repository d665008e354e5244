-- What follows of assumptions.
use Rattle.std.proofs.Common.{◌≡◌, ℕ, ◌⊎◌, Bool, List, [], ◌++◌, length, take, sym, ◌∙◌, ap, subst, inl, inr, arith}
use Rattle.std.specs.Prelude.{All}
use Rattle.std.proofs.lemmas.List.{take_all, take_at}
use Rattle.std.proofs.lemmas.List.Elements.{All-contains, All-weaker}
use Rattle.cnf_core.specs.Lit.{Literal, negate, has}
use Rattle.cnf_core.specs.Clause.{Clauses}
use Rattle.cnf_core.specs.Propagation.{IsIn, Includes, IsUnit, IsClosed, Closure, Falsifies, negations, HasReason, Falsified, IsClosure, nothing}
use Rattle.cnf_core.proofs.PropagationLemmas.{negate-negate, has_from_contains, closure_start, closure_again, closure_any}
use Rattle.refute_check.specs.declared.tables.Tables.{Tables}
use Rattle.cnf_core.specs.Trail.{IsTrail, Grows}
use Rattle.refute_check.specs.Tables.{IsCountedTo, AreCounts, AreQuiet, IsQuiet, Assumes, HasTrueLiteral, CountedUp, NotesMore}
use Rattle.refute_check.specs.Settled.{AreSettled}
use Rattle.refute_check.proofs.ScanLemmas.{IsFalse}
use Rattle.refute_check.proofs.GrowthLemmas.{quiet_more}
use Rattle.refute_check.proofs.AdvanceLemmas.{same_front}
use Rattle.refute_check.proofs.NotedLemmas.{noted_before, given_back}

-- with the assumptions, and before propagation
pub assumed_counted : (vars : ℕ) (clauses : Clauses) (truth then : List Bool) (old mid : List Literal) (counts : List ℕ) (lits : List Literal) →
    IsCountedTo vars clauses truth old counts (length old) → Assumes lits old mid → IsTrail vars then mid →
    IsCountedTo vars clauses then mid counts (length old)
assumed_counted vars clauses truth then old mid counts lits c a t = record {
  table = t;
  within = a.longer;
  right = subst (λ (ls : List Literal). AreCounts clauses (has ls) counts) (take_all (length old) old (omega arith) ∙ sym a.front) c.right;
}

pub assumed_quiet : (clauses : Clauses) (old mid lits : List Literal) → AreQuiet clauses old (length old) → Assumes lits old mid →
    AreQuiet clauses mid (length old)
assumed_quiet clauses old mid lits q a =
    subst (λ (ls : List Literal). All (IsQuiet (has ls) (has mid)) clauses) (take_all (length old) old (omega arith) ∙ sym a.front)
    (All-weaker (IsQuiet (has (take (length old) old)) (has old)) (IsQuiet (has (take (length old) old)) (has mid))
    (λ c h. quiet_more (has (take (length old) old)) (has old) (has mid) c a.keeps h) clauses q)

-- an assumption is false already
pub clash_falsifies : (clauses : Clauses) (trail lits : List Literal) → ((l : Literal) → IsIn (has trail) l → Closure clauses nothing l) →
    ((l : Literal) → IsIn (has trail) l → HasReason clauses (has trail) l) → HasTrueLiteral lits trail → Falsifies clauses (negations lits)
clash_falsifies clauses trail lits within reasoned clash =
    let r = reasoned clash.literal clash.true_now in
    record {
      clause = r.reason;
      among = r.among;
      each = All-weaker (λ k. (k ≡ clash.literal) ⊎ IsIn (has trail) (negate k)) (λ k. Closure clauses (negations lits) (negate k)) (λ k h. elim h [
        | inl e ↦ closure_start clauses (negations lits) (negate k) (ap (has lits) (negate-negate k ∙ e) ∙ has_from_contains lits clash.literal clash.among)
        | inr f ↦ closure_any clauses (negations lits) (negate k) (within (negate k) f)
      ]) r.reason (let u = r.unit in u.others);
    }

-- what is on the trail after propagation follows of the assumptions
pub supposed_within : (clauses : Clauses) (old mid new lits : List Literal) → ((l : Literal) → IsIn (has old) l → Closure clauses nothing l) →
    Assumes lits old mid → Grows clauses mid new → (l : Literal) → IsIn (has new) l → Closure clauses (negations lits) l
supposed_within clauses old mid new lits within a g l h = closure_again clauses (negations lits) (has mid) l
    (λ k m. elim (a.only k m) [ inl o ↦ closure_any clauses (negations lits) k (within k o) | inr n ↦ closure_start clauses (negations lits) k n ])
    (g.within l h)

pub supposed_falsifies : (clauses : Clauses) (old mid new lits : List Literal) → ((l : Literal) → IsIn (has old) l → Closure clauses nothing l) →
    Assumes lits old mid → Grows clauses mid new → Falsified clauses (has new) → Falsifies clauses (negations lits)
supposed_falsifies clauses old mid new lits within a g f = record {
  clause = f.clause;
  among = f.among;
  each = All-weaker (IsFalse (has new)) (λ k. Closure clauses (negations lits) (negate k))
      (λ k h. supposed_within clauses old mid new lits within a g (negate k) h) f.clause f.each;
}

-- quiet clauses make a closed set that falsifies none
pub closed_when_quiet : (clauses : Clauses) (trail : List Literal) → AreQuiet clauses trail (length trail) → IsClosed clauses (has trail)
closed_when_quiet clauses trail q = λ c among l unit.
    let here : IsQuiet (has (take (length trail) trail)) (has trail) c = All-contains (IsQuiet (has (take (length trail) trail)) (has trail)) clauses c q
    among in
    here.closed l (subst (λ (ls : List Literal). IsUnit (has ls) c l) (sym (take_all (length trail) trail (omega arith))) unit)

pub unfalsified_when_quiet : (clauses : Clauses) (trail : List Literal) → AreQuiet clauses trail (length trail) → Falsified clauses (has trail) → ⊥
unfalsified_when_quiet clauses trail q f =
    let here : IsQuiet (has (take (length trail) trail)) (has trail) f.clause = All-contains (IsQuiet (has (take (length trail) trail)) (has trail)) clauses
    f.clause q f.among in
    here.unfalsified (subst (λ (ls : List Literal). All (IsFalse (has ls)) f.clause) (sym (take_all (length trail) trail (omega arith))) f.each)

pub supposed_closure : (clauses : Clauses) (old mid new lits : List Literal) → ((l : Literal) → IsIn (has old) l → Closure clauses nothing l) →
    Assumes lits old mid → Includes (has mid) (negations lits) → Grows clauses mid new → AreQuiet clauses new (length new) →
    IsClosure clauses (negations lits) (has new)
supposed_closure clauses old mid new lits within a all g q = record {
  closed = closed_when_quiet clauses new q;
  includes = λ l h. g.keeps l (all l h);
  within = supposed_within clauses old mid new lits within a g;
  unfalsified = unfalsified_when_quiet clauses new q;
}

pub supposed_front : (clauses : Clauses) (old mid new lits : List Literal) → Assumes lits old mid → Grows clauses mid new → take (length old) new ≡ old
supposed_front clauses old mid new lits a g = let longer = a.longer in same_front clauses mid new (length old) g longer ∙ a.front

-- a vector whose slice was written
pub written_back : (n : ℕ) (xs : List Bool) (ys : List Bool) → length xs ≡ n → take n (xs ++ ys) ≡ xs
written_back n xs ys e = take_at xs ys n e

-- the tables after assumptions were taken back
pub settled_again : (vars : ℕ) (clauses : Clauses) (old new : Tables) (mid : List Literal) (counts noted : List ℕ) (level : ℕ) →
    level ≡ length old.trail.items → AreSettled vars clauses old → new.occurrences.items ≡ old.occurrences.items →
    IsTrail vars new.truth.items new.trail.items → NotesMore clauses old.noted.items old.counts.items noted counts → length counts ≡ length clauses →
    CountedUp noted counts new.counts.items → length new.counts.items ≡ length counts → new.noted.items ≡ [] → new.trail.items ≡ take level mid →
    take (length old.trail.items) mid ≡ old.trail.items → AreSettled vars clauses new
settled_again vars clauses old new mid counts noted level e s same table more size up long unnoted rest front =
    let is : old.trail.items ≡ new.trail.items = sym (rest ∙ ap (λ n. take n mid) e ∙ front) in
    let k = s.counted in
    let right = given_back clauses (has (take (length old.trail.items) old.trail.items)) noted counts old.counts.items new.counts.items
    (noted_before clauses old.noted.items old.counts.items noted counts s.unnoted more) k.right up long size in
    record {
      occurrences = rw same s.occurrences;
      counted = record {
        table = table;
        within = omega arith;
        right = subst (λ (ls : List Literal). AreCounts clauses (has (take (length ls) ls)) new.counts.items) is right;
      };
      within = subst (λ (ls : List Literal). (l : Literal) → IsIn (has ls) l → Closure clauses nothing l) is s.within;
      reasoned = subst (λ (ls : List Literal). (l : Literal) → IsIn (has ls) l → HasReason clauses (has ls) l) is s.reasoned;
      quiet = subst (λ (ls : List Literal). AreQuiet clauses ls (length ls)) is s.quiet;
      unnoted = unnoted;
    }
