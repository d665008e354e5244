-- Each step of a search keeps what the solver keeps of its trail and its clauses.
use Rattle.std.proofs.Common.{◌≡◌, ℕ, ◌+◌, ◌<◌, ◌≤◌, Bool, true, false, List, [], ◌∷◌, ◌++◌, length, take, refl, sym, ◌∙◌, ap, subst, inl, inr, arith}
use Rattle.std.proofs.Common.{length-append, length-take-le}
use Rattle.std.specs.Prelude.{All, Contains}
use Rattle.std.proofs.lemmas.List.{get_or_push, take_at}
use Rattle.std.proofs.lemmas.List.Elements.{All-weaker, All-push, Contains-push_cases, Contains-append_left}
use Rattle.cnf_core.specs.Lit.{Literal, literal, has}
use Rattle.cnf_core.specs.Clause.{Clauses, AreThere, IsThere}
use Rattle.cnf_core.specs.Propagation.{HasReason, Rup, AreAmong, SameLiterals}
use Rattle.cnf_core.proofs.PropagationLemmas.{contains_first, contains_later, rup_more, among_left}
use Rattle.cnf_core.proofs.TrailLemmas.{there_get}
use Rattle.watch_arena.specs.Trail.{Marks, IsMarks, IsLonger, undone, opened, with_lit}
use Rattle.cnf_core.specs.Trail.{Grows}
use Rattle.watch_arena.specs.Arena.{Attached, AreWatched, AreReasoned, attached_at, attached_clauses, IsSameText, IsMoreText}
use Rattle.cdcl_learn.specs.Sight.{Sight, sight, nth, level_of, IsSound}
use Rattle.cdcl_learn.specs.Levels.{upto, IsStable, HasClosedLevels, SameUpto}
use Rattle.cdcl_learn.proofs.LevelLemmas.{levels_same, levels_open, quiet_same}
use Rattle.cdcl_learn.proofs.SoundLemmas.{sound_texts}
use Rattle.cdcl_core.specs.Kept.{AreSameClauses}
use Rattle.cdcl_core.specs.Search.{AreFitted}
use Rattle.cdcl_core.specs.Roots.{IsTrueAtRoot, all_of, IsGrounded, IsSolving, HasPropagated}
use Rattle.cdcl_core.proofs.SetLemmas.{quiet_among, quiet_both, same_text, same_kept, among_append, among_itself}
use Rattle.cdcl_core.proofs.MoveLemmas.{IsFurther, further_longer, further_lit, further_decided, further_undone, further_same, back_same, further_later}
use Rattle.cdcl_core.proofs.MoveLemmas.{upto_all}
use Rattle.cdcl_core.proofs.RootLemmas.{reason_among, roots_further, roots_back, true_further, true_back, quiet_kept}

pub grounded_sound : (a : Attached) (m : Marks) (own : Clauses) (refuted : Bool) → IsGrounded a m own refuted → IsSound (sight a m)
grounded_sound a m own refuted g = sound_texts a m g.texts g.marks g.reasoned

levels_among : (s : Sight) (clauses more : Clauses) → AreAmong more clauses → HasClosedLevels s clauses → HasClosedLevels s more
levels_among s clauses more there levels = λ q lt. quiet_among clauses more (upto s q) there (levels q lt)

-- what is quiet for the arena is so for all kept clauses
pub quiet_all : (a : Attached) (m : Marks) (own : Clauses) (q : ℕ) → IsGrounded a m own false → IsStable (attached_clauses a) (upto (sight a m) q) →
    IsStable (all_of a own) (upto (sight a m) q)
quiet_all a m own q g quiet = quiet_both (attached_clauses a) own (upto (sight a m) q) quiet
    (quiet_kept (sight a m) (attached_clauses a) own q (grounded_sound a m own false g) (g.own_true refl) quiet)

pub levels_kept : (a : Attached) (m : Marks) (own : Clauses) → IsGrounded a m own false → HasClosedLevels (sight a m) (all_of a own)
levels_kept a m own g = λ q lt. quiet_all a m own q g (g.levels q lt)

pub settled_all : (a : Attached) (m : Marks) (own : Clauses) → IsGrounded a m own false → HasPropagated a m → IsStable (all_of a own) (has m.lits)
settled_all a m own g settled =
    quiet_same (all_of a own) (upto (sight a m) (length m.cuts)) (has m.lits) (λ l. sym (upto_all a m g.marks l))
    (quiet_all a m own (length m.cuts) g (quiet_same (attached_clauses a) (has m.lits) (upto (sight a m) (length m.cuts)) (λ l. upto_all a m g.marks l)
    settled.quiet))

-- propagation
pub solving_propagated : (a b : Attached) (m n : Marks) (own : Clauses) (refuted : Bool) → IsMarks n → AreWatched b n → AreReasoned b n → IsSameText a b →
    IsLonger m n → Grows (attached_clauses a) m.lits n.lits → IsGrounded a m own refuted → IsSolving b n own refuted
solving_propagated a b m n own refuted after watched reasoned same longer grows g = record {
  watched = watched;
  grounded = record {
    vars = longer.vars ∙ g.vars ∙ sym same.vars;
    texts = λ p c. let old : Contains a.places p = subst (λ (ps : List ℕ). Contains ps p) same.places c in
        there_again m.vars n.vars (attached_at a p) (attached_at b p) (sym longer.vars) (same.lits p old) (g.texts p old);
    marks = after;
    reasoned = reasoned;
    levels = levels_among (sight b n) (attached_clauses a) (attached_clauses b) texts.back
        (levels_same (sight a m) (sight b n) (attached_clauses a) (let e = size in omega arith)
        (subst (λ q. SameUpto (sight a m) (sight b n) q) (sym size) (further_same a b m n (length m.cuts) f)) g.levels);
    rooted = roots_further a b m n (length m.cuts) f (all_of a own) (all_of b own) kept.there g.rooted
        (λ i le lt z. reason_among (attached_clauses a) (all_of b own) (has (take i n.lits)) (nth (sight b n) i) among (grows.reason i (literal 0 true) le lt));
    there = All-weaker (AreThere m.vars) (AreThere n.vars) (λ c h. subst (λ v. AreThere v c) (sym longer.vars) h) own g.there;
    own_true = λ r. All-weaker (IsTrueAtRoot (sight a m)) (IsTrueAtRoot (sight b n)) (λ c h. true_further a b m n (length m.cuts) f c h) own (g.own_true r);
    falsified = λ r. rup_more (all_of a own) (all_of b own) [] kept.there (g.falsified r);
  };
}
  where
    f : IsFurther m n (length m.cuts)
    f = further_longer m n g.marks after longer

    size : length n.cuts ≡ length m.cuts
    size = ap length longer.cuts

    texts : AreSameClauses (attached_clauses a) (attached_clauses b)
    texts = same_text a b same

    kept : AreSameClauses (all_of a own) (all_of b own)
    kept = same_kept a b own same

    among : AreAmong (attached_clauses a) (all_of b own)
    among = λ c h. let d = texts.there c h in (d.0, Contains-append_left (attached_clauses b) own d.0 d.1, d.2)

    there_again : (v w : ℕ) (c d : List Literal) → v ≡ w → SameLiterals c d → AreThere v c → AreThere w d
    there_again v w c d e s h = there_from (λ l k. subst (λ x. IsThere x l) e (there_of v c l h ((s l).1 k)))
      where
        there_of : (v : ℕ) (c : List Literal) (l : Literal) → AreThere v c → Contains c l → IsThere v l
        there_of v c l h k = subst (IsThere v) k.2 (there_get v c k.0 l k.1 h)

        there_from : ((l : Literal) → Contains d l → IsThere w l) → AreThere w d
        there_from f = by_list d f
          where
            by_list : (ls : List Literal) → ((l : Literal) → Contains ls l → IsThere w l) → AreThere w ls
            by_list [] f = tt
            by_list (l ∷ ls) f = (f l (contains_first l ls), by_list ls (λ k c. f k (contains_later l k ls c)))

-- undoing
pub grounded_undone : (a : Attached) (m : Marks) (own : Clauses) (refuted : Bool) (level : ℕ) → IsMarks (undone m level) → AreReasoned a (undone m level) →
    level ≤ length m.cuts → IsGrounded a m own refuted → IsGrounded a (undone m level) own refuted
grounded_undone a m own refuted level after reasoned le g = record {
  vars = g.vars;
  texts = g.texts;
  marks = after;
  reasoned = reasoned;
  levels = levels_same (sight a m) (sight a (undone m level)) (attached_clauses a) (let e = size in omega arith)
      (back_same a a (undone m level) m (level + 1) f (length (take level m.cuts)) (let e = size in omega arith)) g.levels;
  rooted = roots_back a a (undone m level) m (level + 1) f (all_of a own) g.rooted;
  there = g.there;
  own_true = λ r. All-weaker (IsTrueAtRoot (sight a m)) (IsTrueAtRoot (sight a (undone m level)))
      (λ c h. true_back a a (undone m level) m (level + 1) f c (omega arith) h) own (g.own_true r);
  falsified = g.falsified;
}
  where
    f : IsFurther (undone m level) m (level + 1)
    f = further_undone m level g.marks after le

    size : length (take level m.cuts) ≡ level
    size = length-take-le level m.cuts le

-- a decision, where all is propagated
pub grounded_decided : (a : Attached) (m : Marks) (own : Clauses) (refuted : Bool) (l : Literal) → IsMarks (with_lit (opened m) l 0) →
    AreReasoned a (with_lit (opened m) l 0) → HasPropagated a m → IsGrounded a m own refuted → IsGrounded a (with_lit (opened m) l 0) own refuted
grounded_decided a m own refuted l after reasoned settled g = record {
  vars = g.vars;
  texts = g.texts;
  marks = after;
  reasoned = reasoned;
  levels = levels_open (sight a m) (sight a (with_lit (opened m) l 0)) (attached_clauses a) size
      (subst (λ q. SameUpto (sight a m) (sight a (with_lit (opened m) l 0)) q) (sym size) (further_same a a m (with_lit (opened m) l 0) (length m.cuts + 1) f))
      (quiet_same (attached_clauses a) (has m.lits) (upto (sight a m) (length m.cuts)) (λ k. upto_all a m g.marks k) settled.quiet) g.levels;
  rooted = roots_further a a m (with_lit (opened m) l 0) (length m.cuts + 1) f (all_of a own) (all_of a own) (among_itself (all_of a own)) g.rooted
      (λ i le lt z. let later = further_later a a m (with_lit (opened m) l 0) (length m.cuts + 1) f i le lt in absurd (omega arith));
  there = g.there;
  own_true = λ r. All-weaker (IsTrueAtRoot (sight a m)) (IsTrueAtRoot (sight a (with_lit (opened m) l 0)))
      (λ c h. true_further a a m (with_lit (opened m) l 0) (length m.cuts + 1) f c h) own (g.own_true r);
  falsified = g.falsified;
}
  where
    f : IsFurther m (with_lit (opened m) l 0) (length m.cuts + 1)
    f = further_decided m l g.marks after

    size : length (m.cuts ++ length m.lits ∷ []) ≡ length m.cuts + 1
    size = length-append m.cuts (length m.lits ∷ [])

-- a literal that a kept clause makes true
pub grounded_lit : (a : Attached) (m : Marks) (own : Clauses) (refuted : Bool) (l : Literal) (reason : ℕ) → IsMarks (with_lit m l reason) →
    AreReasoned a (with_lit m l reason) → HasReason (all_of a own) (has m.lits) l → IsGrounded a m own refuted → IsGrounded a (with_lit m l reason) own refuted
grounded_lit a m own refuted l reason after reasoned by g = record {
  vars = g.vars;
  texts = g.texts;
  marks = after;
  reasoned = reasoned;
  levels = levels_same (sight a m) (sight a (with_lit m l reason)) (attached_clauses a) (omega arith)
      (further_same a a m (with_lit m l reason) (length m.cuts) f) g.levels;
  rooted = roots_further a a m (with_lit m l reason) (length m.cuts) f (all_of a own) (all_of a own) (among_itself (all_of a own)) g.rooted new;
  there = g.there;
  own_true = λ r. All-weaker (IsTrueAtRoot (sight a m)) (IsTrueAtRoot (sight a (with_lit m l reason)))
      (λ c h. true_further a a m (with_lit m l reason) (length m.cuts) f c h) own (g.own_true r);
  falsified = g.falsified;
}
  where
    f : IsFurther m (with_lit m l reason) (length m.cuts)
    f = further_lit m l reason g.marks after

    new : (i : ℕ) → length m.lits ≤ i → i < length (m.lits ++ l ∷ []) → level_of (sight a (with_lit m l reason)) (nth (sight a (with_lit m l reason)) i) ≡ 0 →
        HasReason (all_of a own) (has (take i (m.lits ++ l ∷ []))) (nth (sight a (with_lit m l reason)) i)
    new i le lt z =
        let last : length m.lits ≡ i = omega (arith, length-append m.lits (l ∷ [])) in
        subst (λ (ls : List Literal). HasReason (all_of a own) (has ls) (nth (sight a (with_lit m l reason)) i)) (sym (take_at m.lits (l ∷ []) i last))
        (subst (λ (k : Literal). HasReason (all_of a own) (has m.lits) k) (sym (get_or_push m.lits l (literal 0 true) i last)) by)

-- one more clause in the arena, where the levels stay closed
pub grounded_attached : (a b : Attached) (m : Marks) (own : Clauses) (refuted : Bool) (p : ℕ) (c : List Literal) → IsMoreText a b →
    b.places ≡ a.places ++ p ∷ [] → attached_at b p ≡ c → attached_clauses b ≡ attached_clauses a ++ c ∷ [] → AreReasoned b m → AreThere m.vars c →
    HasClosedLevels (sight b m) (attached_clauses b) → IsGrounded a m own refuted → IsGrounded b m own refuted
grounded_attached a b m own refuted p c more places is text reasoned there levels g = record {
  vars = g.vars ∙ sym more.vars;
  texts = λ r h. elim (Contains-push_cases a.places p r (subst (λ (ps : List ℕ). Contains ps r) places h)) [
    | inl old ↦ subst (AreThere m.vars) (sym (more.lits r old)) (g.texts r old)
    | inr e ↦ subst (λ k. AreThere m.vars (attached_at b k)) e (subst (AreThere m.vars) (sym is) there)
  ];
  marks = g.marks;
  reasoned = reasoned;
  levels = levels;
  rooted = λ i lt z. reason_among (all_of a own) (all_of b own) (has (take i m.lits)) (nth (sight a m) i) among (g.rooted i lt z);
  there = g.there;
  own_true = λ r. All-weaker (IsTrueAtRoot (sight a m)) (IsTrueAtRoot (sight b m)) (λ d t. record {
    lit = t.lit;
    inside = t.inside;
    true_ = t.true_;
    root = t.root;
  }) own (g.own_true r);
  falsified = λ r. rup_more (all_of a own) (all_of b own) [] among (g.falsified r);
}
  where
    among : AreAmong (all_of a own) (all_of b own)
    among = among_append (attached_clauses a) own (attached_clauses b) own (subst (λ (cs : Clauses). AreAmong (attached_clauses a) cs) (sym text)
        (among_left (attached_clauses a) (c ∷ []))) (among_itself own)

-- one more clause in the solver's own list: true at level 0, or refuting
pub grounded_owned : (a : Attached) (m : Marks) (own now : Clauses) (refuted after : Bool) (c : List Literal) → now ≡ own ++ c ∷ [] → AreThere m.vars c →
    (after ≡ false → (refuted ≡ false) × IsTrueAtRoot (sight a m) c) → (after ≡ true → Rup (all_of a now) []) → IsGrounded a m own refuted →
    IsGrounded a m now after
grounded_owned a m own now refuted after c is there holds fails g = record {
  vars = g.vars;
  texts = g.texts;
  marks = g.marks;
  reasoned = g.reasoned;
  levels = g.levels;
  rooted = λ i lt z. reason_among (all_of a own) (all_of a now) (has (take i m.lits)) (nth (sight a m) i) among (g.rooted i lt z);
  there = subst (All (AreThere m.vars)) (sym is) (All-push (AreThere m.vars) own c g.there there);
  own_true = λ r. let h = holds r in subst (All (IsTrueAtRoot (sight a m))) (sym is) (All-push (IsTrueAtRoot (sight a m)) own c (g.own_true h.0) h.1);
  falsified = fails;
}
  where
    among : AreAmong (all_of a own) (all_of a now)
    among = among_append (attached_clauses a) own (attached_clauses a) now (among_itself (attached_clauses a))
        (subst (λ (cs : Clauses). AreAmong own cs) (sym is) (among_left own (c ∷ [])))

-- the same of the trail that a call leaves
pub solving_decided : (a : Attached) (m n : Marks) (own : Clauses) (refuted : Bool) (l : Literal) → n ≡ with_lit (opened m) l 0 → IsMarks n → AreWatched a n →
    AreReasoned a n → HasPropagated a m → IsGrounded a m own refuted → IsSolving a n own refuted
solving_decided a m n own refuted l e marks watched reasoned settled g =
    subst (λ (x : Marks). IsSolving a x own refuted) (sym e)
    (record {
      watched = subst (AreWatched a) e watched;
      grounded = grounded_decided a m own refuted l (subst IsMarks e marks) (subst (AreReasoned a) e reasoned)
          settled g;
    })

pub solving_undone : (a : Attached) (m n : Marks) (own : Clauses) (refuted : Bool) (level : ℕ) → n ≡ undone m level → IsMarks n → AreWatched a n →
    AreReasoned a n → level ≤ length m.cuts → IsGrounded a m own refuted → IsSolving a n own refuted
solving_undone a m n own refuted level e marks watched reasoned le g =
    subst (λ (x : Marks). IsSolving a x own refuted) (sym e)
    (record {
      watched = subst (AreWatched a) e watched;
      grounded = grounded_undone a m own refuted level (subst IsMarks e marks) (subst (AreReasoned a) e reasoned) le
          g;
    })

-- the trail may have other literals
pub fitted_vars : {room vars heap analyser phases arena_room arena_words own_words words : ℕ} (more : ℕ) → more ≡ vars →
    AreFitted room vars heap analyser phases arena_room arena_words own_words words →
    AreFitted room more heap analyser phases arena_room arena_words own_words words
fitted_vars more e f = record {
  room_limit = f.room_limit;
  heap_size = f.heap_size ∙ sym e;
  analyser_size = f.analyser_size ∙ sym e;
  phases_size = f.phases_size ∙ ap (λ n. n + 1) (sym e);
  arena_limit = f.arena_limit;
  sum = f.sum;
  within = f.within;
}
