-- Keeping a clause that makes its first literal true.
use Rattle.std.proofs.Common.{◌≡◌, ◌≢◌, ℕ, ◌<◌, ◌≤◌, Bool, List, [], ◌∷◌, ◌++◌, length, refl, sym, ◌∙◌, ap, subst, arith}
use Rattle.std.specs.Prelude.{Some, slice_get}
use Rattle.cnf_core.specs.Lit.{Literal}
use Rattle.cnf_core.specs.Clause.{Clauses, AreDistinct, AreThere, IsThere}
use Rattle.cnf_core.proofs.TrailLemmas.{push_keeps}
use Rattle.watch_arena.specs.Trail.{Marks, IsMarks, IsUnset, with_lit}
use Rattle.watch_arena.specs.Arena.{Attached, AreWatched, AreReasoned, IsReasonOf}
use Rattle.pick_heap.specs.Heap.{Ranked}
use Rattle.cdcl_learn.specs.Sight.{sight}
use Rattle.cdcl_core.specs.Roots.{IsGrounded, IsSolving, IsAssuming, AreOffered}
use Rattle.cdcl_core.specs.Search.{IsAssertedClause}
use Rattle.cdcl_core.proofs.AskLemmas.{asking_set}
use Rattle.cdcl_core.proofs.HeapLemmas.{heap_more}
use Rattle.cdcl_core.proofs.LearnLemmas.{IsPut, may_be_set, solving_long, solving_single}

-- the literal at place 0
pub head_is : (x l : Literal) (ls : List Literal) → slice_get (x ∷ ls) 0 ≡ Some l → x ≡ l
head_is x l ls e = cc

pub asserted_some : (a : Attached) (m : Marks) (c : List Literal) → IsAssertedClause a m c → 0 < length c
asserted_some a m [] h = absurd h
asserted_some a m (x ∷ ls) h = omega arith

pub asserted_unset : (a : Attached) (m : Marks) (c : List Literal) (l : Literal) → IsAssertedClause a m c → slice_get c 0 ≡ Some l → IsUnset m.lits l
asserted_unset a m [] l h e = absurd h
asserted_unset a m (x ∷ ls) l h e = subst (IsUnset m.lits) (head_is x l ls e) h.unset

pub asserted_there : (a : Attached) (m : Marks) (c : List Literal) → IsAssertedClause a m c → AreThere m.vars c
asserted_there a m [] h = absurd h
asserted_there a m (x ∷ ls) h = h.there

pub asserted_first : (a : Attached) (m : Marks) (c : List Literal) (l : Literal) → IsAssertedClause a m c → slice_get c 0 ≡ Some l → IsThere m.vars l
asserted_first a m [] l h e = absurd h
asserted_first a m (x ∷ ls) l h e = subst (IsThere m.vars) (head_is x l ls e) h.there.0

pub asserted_distinct : (a : Attached) (m : Marks) (c : List Literal) → IsAssertedClause a m c → AreDistinct c
asserted_distinct a m [] h = absurd h
asserted_distinct a m (x ∷ ls) h = h.distinct

pub asserted_two : (a : Attached) (m : Marks) (c : List Literal) → IsAssertedClause a m c → length c ≢ 1 → 2 ≤ length c
asserted_two a m c h ne = let some = asserted_some a m c h in omega arith

pub asserted_alone : (a : Attached) (m : Marks) (c : List Literal) → IsAssertedClause a m c → length c ≡ 1 → length m.cuts ≡ 0
asserted_alone a m [] h e = absurd h
asserted_alone a m (x ∷ []) h e = h.alone refl
asserted_alone a m (x ∷ (y ∷ ls)) h e = absurd (omega arith)

pub asserted_reason : (a b : Attached) (m : Marks) (p : ℕ) (c : List Literal) (l : Literal) → IsAssertedClause a m c → slice_get c 0 ≡ Some l →
    IsPut a b m p c → IsReasonOf b m l p
asserted_reason a b m p [] l h e put = absurd h
asserted_reason a b m p (x ∷ ls) l h e put = subst (λ (k : Literal). IsReasonOf b m k p) (head_is x l ls e) (may_be_set a b m p x ls put h.others)

pub kept_long : (a b : Attached) (m t : Marks) (own : Clauses) (refuted : Bool) (p : ℕ) (c : List Literal) (l : Literal) → IsAssertedClause a m c →
    length c ≢ 1 → slice_get c 0 ≡ Some l → IsPut a b m p c → t ≡ with_lit m l p → IsMarks t → AreReasoned b t → IsSolving a m own refuted →
    IsSolving b t own refuted
kept_long a b m t own refuted p [] l h ne e put is marks reasoned g = absurd h
kept_long a b m t own refuted p (x ∷ []) l h ne e put is marks reasoned g = absurd (ne refl)
kept_long a b m t own refuted p (x ∷ (y ∷ ls)) l h ne e put is marks reasoned g = solving_long a b m t own refuted p x y ls put h
    (is ∙ ap (λ (k : Literal). with_lit m k p) (sym (head_is x l (y ∷ ls) e))) marks reasoned g

pub kept_single : (a : Attached) (m t : Marks) (own now : Clauses) (refuted : Bool) (c : List Literal) (l : Literal) → IsAssertedClause a m c → length c ≡ 1 →
    slice_get c 0 ≡ Some l → now ≡ own ++ c ∷ [] → t ≡ with_lit m l 0 → IsMarks t → AreWatched a t → AreReasoned a t → IsGrounded a m own refuted →
    IsSolving a t now refuted
kept_single a m t own now refuted [] l h one e is at marks watched reasoned g = absurd h
kept_single a m t own now refuted (x ∷ []) l h one e is at marks watched reasoned g = solving_single a m t own now refuted x is h
    (at ∙ ap (λ (k : Literal). with_lit m k 0) (sym (head_is x l [] e))) marks watched reasoned g
kept_single a m t own now refuted (x ∷ (y ∷ ls)) l h one e is at marks watched reasoned g = absurd (omega arith)

-- the same of what is offered and asked
pub set_offered : (h : Ranked) (m t : Marks) (l : Literal) (reason : ℕ) → t ≡ with_lit m l reason → AreOffered h m → AreOffered h t
set_offered h m t l reason e offered = subst (AreOffered h) (sym e) (heap_more h m (with_lit m l reason) refl (push_keeps m.lits l) offered)

pub set_asking : (a b : Attached) (m t : Marks) (l : Literal) (reason : ℕ) (query : List Literal) (q n : ℕ) → t ≡ with_lit m l reason → IsMarks m → IsMarks t →
    IsUnset m.lits l → IsThere m.vars l → (reason ≡ 0 → length m.cuts ≡ 0) → IsAssuming query (sight a m) q n → IsAssuming query (sight b t) q n
set_asking a b m t l reason query q n e before after un there root h = subst (λ (x : Marks). IsAssuming query (sight b x) q n) (sym e)
    (asking_set a b m l reason query q n before (subst IsMarks e after) un (let size = before.reasons in let high = there.1 in omega arith) root h)
