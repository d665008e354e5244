-- What a checker answers, by what its tables are good for.
use Rattle.std.proofs.Common.{◌≡◌, ℕ, ◌+◌, ◌-◌, ◌<◌, ◌≤◌, ◌⊎◌, max, List, [], ◌∷◌, ◌++◌, length, take, drop, get_or, refl, sym, ◌∙◌, ap, subst, inl, inr}
use Rattle.std.proofs.Common.{arith, append-nil}
use Rattle.std.specs.Prelude.{Bool, All, Contains, Option, MatchOption, Result, Ok, Err, OnOk, IfErr}
use Rattle.std.proofs.lemmas.List.{take_all}
use Rattle.std.proofs.lemmas.List.Elements.{All-weaker, All-nil}
use Rattle.cnf_core.specs.Lit.{Literal, negate}
use Rattle.cnf_core.specs.Clause.{Clauses, IsThere, AreThere, words_of}
use Rattle.cnf_core.specs.Formula.{Cnf}
use Rattle.cnf_core.specs.Propagation.{LiteralSet, Closure, Falsifies, Rup, negations, greatest_in, greatest_var, nothing}
use Rattle.cnf_core.proofs.PropagationLemmas.{falsifies_again}
use Rattle.cnf_core.proofs.ClauseLemmas.{words_append}
use Rattle.cnf_core.proofs.TrailLemmas.{there_all}
use Rattle.refute_log.specs.declared.line.LogLine.{LogLine}
use Rattle.refute_log.specs.declared.line.LogLine.TheVariants.{Formula, Learnt, Bound, Query, Refuted, Model}
use Rattle.refute_log.proofs.LogLemmas.{there_below, new_includes_nothing}
use Rattle.refute_check.specs.declared.fault.LineFault.{LineFault}
use Rattle.refute_check.specs.declared.fault.LineFault.TheVariants.{NewVar, WrongQuery, Room, NotImplied, NotNew, Memory}
use Rattle.refute_log.specs.Log.{Answers, IsNewClause, SaysMore}
use Rattle.refute_check.specs.Standing.{IsContradicted}
use Rattle.refute_check.specs.Kept.{CheckedFacts, checked_facts, kept_after, with_clause, IsKnownClause, Accepts, AnswersWrongly, PassesRoom, IsUnproved}
use Rattle.refute_check.specs.Kept.{IsOld, NamesNew, IsAnswer, IncludesNone}

-- what is falsified without assumptions is so with any
pub falsified_any : (clauses : Clauses) (start : LiteralSet) → Falsifies clauses nothing → Falsifies clauses start
falsified_any clauses start f = falsifies_again clauses start nothing (λ k m. cc) f

pub contradicted_any : (room : ℕ) (f : Cnf) (q : Option (List Literal)) (rs : Clauses) (lost : Bool) (kept : CheckedFacts) (start : LiteralSet) →
    IsContradicted f → checked_facts room f q rs lost ≡ kept → Falsifies kept.facts.clauses start
contradicted_any room f q rs lost kept start h e = subst (λ (cs : Clauses). Falsifies cs start) (ap (λ (k : CheckedFacts). k.facts.clauses) e)
    (falsified_any f.clauses start h.falsified)

-- the parts of a clause with a first literal
pub split_first : (lits : List Literal) (first : Literal) → 1 ≤ length lits → first ≡ get_or lits 0 first → lits ≡ first ∷ take (length lits - 1) (drop 1 lits)
split_first [] first some at = absurd (omega arith)
split_first (x ∷ xs) first some at =
    let n : length (x ∷ xs) - 1 ≡ length xs = omega arith in
    ap (λ (k : Literal). k ∷ xs) (sym at) ∙ ap (λ (ls : List Literal). first ∷ ls) (sym (ap (λ m. take m xs) n ∙ take_all (length xs) xs (omega arith)))

pub known_first : (clauses : Clauses) (lits : List Literal) (first : Literal) (others : List Literal) → lits ≡ first ∷ others →
    Falsifies clauses (negations others) ⊎ Closure clauses (negations others) first → IsKnownClause clauses lits
known_first clauses lits first others e h = subst (λ (ls : List Literal). IsKnownClause clauses ls) (sym e) h

pub new_first : (clauses : Clauses) (lits : List Literal) (first : Literal) (others : List Literal) (greatest : ℕ) → lits ≡ first ∷ others →
    greatest ≤ greatest_var clauses → AreThere greatest lits → (Falsifies clauses (negations others) → ⊥) → (Closure clauses (negations others) first → ⊥) →
    IsNewClause clauses lits
new_first clauses lits first others greatest e le there f u = subst (λ (ls : List Literal). IsNewClause clauses ls) (sym e) (record {
  named = subst (λ (ls : List Literal). All (λ l. l.var ≤ greatest_var clauses) ls) e
      (All-weaker (IsThere greatest) (λ l. l.var ≤ greatest_var clauses) (λ l h. omega (arith, h.1)) lits (there_all greatest lits there));
  unfalsified = f;
  unknown = u;
})

-- what is asked of a line's literals, of the checker's value
pub named_line : (c lits : List Literal) (vars room : ℕ) (f : Cnf) (q : Option (List Literal)) (rs : Clauses) (lost : Bool) (kept : CheckedFacts) → lits ≡ c →
    vars ≡ f.vars → checked_facts room f q rs lost ≡ kept → All (λ l. l.var ≤ vars) lits → All (λ l. l.var ≤ kept.facts.greatest) c
named_line c lits vars room f q rs lost kept e v k all =
    let n : vars ≡ kept.facts.greatest = v ∙ ap (λ (m : CheckedFacts). m.facts.greatest) k in
    subst (λ (ls : List Literal). All (λ l. l.var ≤ kept.facts.greatest) ls) e (subst (λ m. All (λ (l : Literal). l.var ≤ m) lits) n all)

pub there_named : (m n : ℕ) (c lits : List Literal) → AreThere m c → lits ≡ c → All (λ l. l.var ≤ n) c → AreThere n lits
there_named m n c lits h e all = subst (λ (ls : List Literal). AreThere n ls) (sym e) (there_below m n c h all)

there_greatest : (m n : ℕ) (c : List Literal) → AreThere m c → greatest_in c ≤ n → AreThere n c
there_greatest m n [] h le = tt
there_greatest m n (l ∷ c) h le = ((h.0.0, omega arith), there_greatest m n c h.1 (omega arith))

pub there_up : (m n most : ℕ) (c lits : List Literal) → AreThere m c → lits ≡ c → most ≡ greatest_in lits → AreThere (max n most) lits
there_up m n most c lits h e g = there_greatest m (max n most) lits (subst (λ (ls : List Literal). AreThere m ls) (sym e) h) (omega (arith, g))

words_push : (cs : Clauses) (c lits : List Literal) → lits ≡ c → words_of (cs ++ c ∷ []) ≡ words_of cs + length lits + 3
words_push cs c lits e = omega (arith, words_append cs (c ∷ []), ap length e)

lacks_words : (room : ℕ) (cs : Clauses) (c lits : List Literal) → lits ≡ c → room < words_of cs + length lits + 3 → room < words_of (cs ++ c ∷ [])
lacks_words room cs c lits e h = omega (arith, words_push cs c lits e)

has_words : (room : ℕ) (cs : Clauses) (c lits : List Literal) → lits ≡ c → words_of cs + length lits + 3 ≤ room → room < words_of (cs ++ c ∷ []) → ⊥
has_words room cs c lits e h k = omega (arith, words_push cs c lits e)

-- Formula lines
pub formula_lacks : (kept : CheckedFacts) (c lits : List Literal) → lits ≡ c → kept.room < words_of kept.facts.clauses + length lits + 3 →
    PassesRoom kept (Formula c)
formula_lacks kept c lits e h = record {
  named = All-nil (λ (l : Literal). l.var ≤ kept.facts.greatest);
  answers = tt;
  passes = inl (lacks_words kept.room kept.facts.clauses c lits e h);
}

pub formula_accepts : (old new : CheckedFacts) (c lits : List Literal) (most : ℕ) → lits ≡ c → most ≡ greatest_in lits → most ≤ 16777216 →
    words_of old.facts.clauses + length lits + 3 ≤ old.room → new ≡ with_clause old lits most → Accepts old new (Formula c)
formula_accepts old new c lits most e g le fits k = record {
  stands = record { named = All-nil (λ (l : Literal). l.var ≤ old.facts.greatest); answers = tt; implied = tt; says_more = tt };
  fits = λ h. elim h [
    | inl w ↦ has_words old.room old.facts.clauses c lits e fits w
    | inr v ↦ let same : most ≡ greatest_in c = g ∙ ap greatest_in e in omega (arith, same, le, v)
  ];
  kept =
      let same : most ≡ max (greatest_in c) 0 = let n : most ≡ greatest_in c = g ∙ ap greatest_in e in omega arith in
      k ∙ ap (λ (ls : List Literal). with_clause old ls most) e ∙ ap (λ n. with_clause old c n) same
      ∙ ap (λ (rs : Clauses). with_refuted old c (max (greatest_in c) 0) rs) (sym (append-nil old.facts.refuted));
}
  where
    with_refuted : CheckedFacts → List Literal → ℕ → Clauses → CheckedFacts
    with_refuted kept c vars rs = record {
      room = kept.room;
      facts = record { greatest = max kept.facts.greatest vars; clauses = kept.facts.clauses ++ c ∷ []; query = kept.facts.query; refuted = rs };
      lost = kept.lost;
    }

-- Learnt lines
pub learnt_lacks : (kept : CheckedFacts) (c lits : List Literal) → lits ≡ c → All (λ l. l.var ≤ kept.facts.greatest) c →
    kept.room < words_of kept.facts.clauses + length lits + 3 → PassesRoom kept (Learnt c)
learnt_lacks kept c lits e named h = record { named = named; answers = tt; passes = lacks_words kept.room kept.facts.clauses c lits e h }

pub learnt_unproved : (kept : CheckedFacts) (c lits : List Literal) → lits ≡ c → All (λ l. l.var ≤ kept.facts.greatest) c →
    words_of kept.facts.clauses + length lits + 3 ≤ kept.room → (Rup kept.facts.clauses lits → ⊥) → IsUnproved kept (Learnt c)
learnt_unproved kept c lits e named fits refutes = record {
  named = named;
  answers = tt;
  fits = has_words kept.room kept.facts.clauses c lits e fits;
  unproved = λ rup. refutes (subst (λ (ls : List Literal). Rup kept.facts.clauses ls) (sym e) rup);
}

pub learnt_old : (kept mid : CheckedFacts) (c lits : List Literal) → lits ≡ c → mid ≡ kept → All (λ l. l.var ≤ kept.facts.greatest) c →
    words_of kept.facts.clauses + length lits + 3 ≤ kept.room → Rup kept.facts.clauses lits → IsKnownClause mid.facts.clauses lits → IsOld kept (Learnt c)
learnt_old kept mid c lits e same named fits rup known = record {
  named = named;
  answers = tt;
  fits = has_words kept.room kept.facts.clauses c lits e fits;
  implied = subst (λ (ls : List Literal). Rup kept.facts.clauses ls) e rup;
  known = subst (λ (ls : List Literal). IsKnownClause kept.facts.clauses ls) e (subst (λ (k : CheckedFacts). IsKnownClause k.facts.clauses lits) same known);
}

pub learnt_accepts : (old mid last new : CheckedFacts) (c lits : List Literal) → lits ≡ c → mid ≡ old → last ≡ mid → All (λ l. l.var ≤ old.facts.greatest) c →
    words_of old.facts.clauses + length lits + 3 ≤ old.room → Rup old.facts.clauses lits → IsNewClause mid.facts.clauses lits → new ≡ with_clause last lits 0 →
    Accepts old new (Learnt c)
learnt_accepts old mid last new c lits e same again named fits rup fresh k = record {
  stands = record {
    named = named;
    answers = tt;
    implied = subst (λ (ls : List Literal). Rup old.facts.clauses ls) e rup;
    says_more = subst (λ (ls : List Literal). IsNewClause old.facts.clauses ls) e (subst (λ (m : CheckedFacts). IsNewClause m.facts.clauses lits) same fresh);
  };
  fits = has_words old.room old.facts.clauses c lits e fits;
  kept = k ∙ ap (λ (m : CheckedFacts). with_clause m lits 0) (again ∙ same) ∙ ap (λ (ls : List Literal). with_clause old ls 0) e
      ∙ ap (λ (rs : Clauses). with_refuted old c rs) (sym (append-nil old.facts.refuted));
}
  where
    with_refuted : CheckedFacts → List Literal → Clauses → CheckedFacts
    with_refuted kept c rs = record {
      room = kept.room;
      facts = record { greatest = max kept.facts.greatest 0; clauses = kept.facts.clauses ++ c ∷ []; query = kept.facts.query; refuted = rs };
      lost = kept.lost;
    }

-- Refuted lines
pub refuted_wrong : (kept : CheckedFacts) (room : ℕ) (f : Cnf) (q : Option (List Literal)) (rs : Clauses) (lost : Bool) (c lits : List Literal) → lits ≡ c →
    checked_facts room f q rs lost ≡ kept → All (λ l. l.var ≤ kept.facts.greatest) c → (MatchOption q ⊥ (λ p. All (λ l. Contains p (negate l)) lits) → ⊥) →
    AnswersWrongly kept (Refuted c)
refuted_wrong kept room f q rs lost c lits e k named refutes = record {
  named = named;
  wrong = λ h. refutes (subst (λ (p : Option (List Literal)). Answers p (Refuted lits)) (sym (ap (λ (m : CheckedFacts). m.facts.query) k))
      (subst (λ (ls : List Literal). Answers kept.facts.query (Refuted ls)) (sym e) h));
}

pub refuted_answers : (kept : CheckedFacts) (room : ℕ) (f : Cnf) (q : Option (List Literal)) (rs : Clauses) (lost : Bool) (c lits : List Literal) → lits ≡ c →
    checked_facts room f q rs lost ≡ kept → MatchOption q ⊥ (λ p. All (λ l. Contains p (negate l)) lits) → Answers kept.facts.query (Refuted c)
refuted_answers kept room f q rs lost c lits e k h = subst (λ (ls : List Literal). Answers kept.facts.query (Refuted ls)) e
    (subst (λ (p : Option (List Literal)). Answers p (Refuted lits)) (ap (λ (m : CheckedFacts). m.facts.query) k) h)

pub refuted_unproved : (kept : CheckedFacts) (c lits : List Literal) → lits ≡ c → All (λ l. l.var ≤ kept.facts.greatest) c →
    Answers kept.facts.query (Refuted c) → (Rup kept.facts.clauses lits → ⊥) → IsUnproved kept (Refuted c)
refuted_unproved kept c lits e named answers refutes = record {
  named = named;
  answers = answers;
  fits = λ h. h;
  unproved = λ rup. refutes (subst (λ (ls : List Literal). Rup kept.facts.clauses ls) (sym e) rup);
}

pub refuted_accepts : (old mid new : CheckedFacts) (room : ℕ) (f : Cnf) (q : Option (List Literal)) (rs : Clauses) (lost : Bool) (now : Clauses)
    (c lits d : List Literal) → lits ≡ c → d ≡ lits → mid ≡ old → checked_facts room f q rs lost ≡ mid → now ≡ rs ++ d ∷ [] →
    new ≡ checked_facts room f q now lost → All (λ l. l.var ≤ old.facts.greatest) c → Answers old.facts.query (Refuted c) → Rup old.facts.clauses lits →
    Accepts old new (Refuted c)
refuted_accepts old mid new room f q rs lost now c lits d e de same k push is named answers rup = record {
  stands = record { named = named; answers = answers; implied = subst (λ (ls : List Literal). Rup old.facts.clauses ls) e rup; says_more = tt };
  fits = λ h. h;
  kept = is ∙ ap (λ (xs : Clauses). checked_facts room f q xs lost) push ∙ ap (λ (ls : List Literal). checked_facts room f q (rs ++ ls ∷ []) lost) (de ∙ e)
      ∙ ap (λ (m : CheckedFacts). with_refuted m c) (k ∙ same) ∙ whole;
}
  where
    with_refuted : CheckedFacts → List Literal → CheckedFacts
    with_refuted m c = record {
      room = m.room;
      facts = record {
        greatest = m.facts.greatest;
        clauses = m.facts.clauses;
        query = m.facts.query;
        refuted = m.facts.refuted ++ c ∷ [];
      };
      lost = m.lost;
    }

    with_both : ℕ → Clauses → CheckedFacts
    with_both n cs = record {
      room = old.room;
      facts = record { greatest = n; clauses = cs; query = old.facts.query; refuted = old.facts.refuted ++ c ∷ [] };
      lost = old.lost;
    }

    whole : with_refuted old c ≡ kept_after old (Refuted c)
    whole = let zero : old.facts.greatest ≡ max old.facts.greatest 0 = omega arith in ap (λ n. with_both n old.facts.clauses) zero
        ∙ ap (λ (cs : Clauses). with_both (max old.facts.greatest 0) cs) (sym (append-nil old.facts.clauses))

-- the same of a checker that kept its value
pub there_same : (old mid : CheckedFacts) (lits : List Literal) → mid ≡ old → AreThere old.facts.greatest lits → AreThere mid.facts.greatest lits
there_same old mid lits e h = subst (λ (k : CheckedFacts). AreThere k.facts.greatest lits) (sym e) h

pub there_zero : (old mid : CheckedFacts) (lits : List Literal) → mid ≡ old → AreThere old.facts.greatest lits → AreThere (max mid.facts.greatest 0) lits
there_zero old mid lits e h = let zero : mid.facts.greatest ≡ max mid.facts.greatest 0 = omega arith in subst (λ n. AreThere n lits) zero
    (there_same old mid lits e h)

-- the answer that is due, taken apart
pub answer_ok : (old new : CheckedFacts) (line : LogLine) (r : Result Unit LineFault) → IsAnswer old new line r → OnOk r (Accepts old new line)
answer_ok old new line (Ok u) a = a
answer_ok old new line (Err e) a = tt

pub answer_new_var : (old new : CheckedFacts) (line : LogLine) (r : Result Unit LineFault) → IsAnswer old new line r → r ≡ Err NewVar → NamesNew old.facts line
answer_new_var old new line r a e = let h : NamesNew old.facts line × (new ≡ old) = subst (λ (x : Result Unit LineFault). IsAnswer old new line x) e a in h.0

pub answer_wrong_query : (old new : CheckedFacts) (line : LogLine) (r : Result Unit LineFault) → IsAnswer old new line r → r ≡ Err WrongQuery →
    AnswersWrongly old line
answer_wrong_query old new line r a e = let h : AnswersWrongly old line × (new ≡ old) = subst (λ (x : Result Unit LineFault). IsAnswer old new line x) e a in
    h.0

pub answer_room : (old new : CheckedFacts) (line : LogLine) (r : Result Unit LineFault) → IsAnswer old new line r → r ≡ Err Room → PassesRoom old line
answer_room old new line r a e = let h : PassesRoom old line × (new ≡ old) = subst (λ (x : Result Unit LineFault). IsAnswer old new line x) e a in h.0

pub answer_not_implied : (old new : CheckedFacts) (line : LogLine) (r : Result Unit LineFault) → IsAnswer old new line r → r ≡ Err NotImplied →
    IsUnproved old line
answer_not_implied old new line r a e = let h : IsUnproved old line × (new ≡ old) = subst (λ (x : Result Unit LineFault). IsAnswer old new line x) e a in h.0

pub answer_not_new : (old new : CheckedFacts) (line : LogLine) (r : Result Unit LineFault) → IsAnswer old new line r → r ≡ Err NotNew → IsOld old line
answer_not_new old new line r a e = let h : IsOld old line × (new ≡ old) = subst (λ (x : Result Unit LineFault). IsAnswer old new line x) e a in h.0

pub answer_refused : (old new : CheckedFacts) (line : LogLine) (r : Result Unit LineFault) → IsAnswer old new line r →
    IfErr r (λ e. (e ≡ Memory → ⊥) → new ≡ old)
answer_refused old new line (Ok u) a = tt
answer_refused old new line (Err NewVar) a = λ _. a.1
answer_refused old new line (Err WrongQuery) a = λ _. a.1
answer_refused old new line (Err Room) a = λ _. a.1
answer_refused old new line (Err NotImplied) a = λ _. a.1
answer_refused old new line (Err NotNew) a = λ _. a.1
answer_refused old new line (Err Memory) a = λ ne. absurd (ne refl)

pub answer_stays : (old new : CheckedFacts) (line : LogLine) (r : Result Unit LineFault) → IsAnswer old new line r → r ≡ Err Memory →
    new.facts.refuted ≡ old.facts.refuted
answer_stays old new line r a e = subst (λ (x : Result Unit LineFault). IsAnswer old new line x) e a

-- an accepted Learnt line has all literals of no clause that was there
finite_line : (clauses : Clauses) (line : LogLine) → SaysMore clauses line → IncludesNone clauses line
finite_line clauses (Formula c) h = tt
finite_line clauses (Learnt c) h = λ d among within. new_includes_nothing clauses c d h among within
finite_line clauses (Bound criterion k x) h = tt
finite_line clauses (Query c) h = tt
finite_line clauses (Refuted c) h = tt
finite_line clauses Model h = tt

pub answer_finite : (old new : CheckedFacts) (line : LogLine) (r : Result Unit LineFault) → IsAnswer old new line r →
    OnOk r (IncludesNone old.facts.clauses line)
answer_finite old new line (Ok u) a = let s = a.stands in finite_line old.facts.clauses line s.says_more
answer_finite old new line (Err e) a = tt
