-- What a finder keeps.
use Rattle.std.proofs.Common.{◌≡◌, ℕ, ◌+◌, ◌≤◌, true, false, cond, nat_eq, eqb, zero, suc, List, [], ◌∷◌, ◌++◌, length, refl, sym, ◌∙◌, ap, subst, inl, inr}
use Rattle.std.proofs.Common.{arith, length-append}
use Rattle.std.specs.Prelude.{Contains}
use Rattle.std.proofs.lemmas.Bool.Decides.{eqb_tells}
use Rattle.std.proofs.lemmas.List.{get_or_append_left, get_or_push}
use Rattle.std.proofs.lemmas.List.Elements.{Contains-push, Contains-push_cases, Contains-append_left}
use Rattle.cnf_core.specs.Lit.{Literal}
use Rattle.cnf_core.specs.Clause.{Clauses, AreThere, AreDistinct}
use Rattle.cnf_core.specs.Propagation.{SameLiterals}
use Rattle.watch_arena.specs.Arena.{Attached, AreAttached, IsMoreText, IsSameText, attached_at}
use Rattle.hint_log.specs.Hint.{numbered, NamesClause}
use Rattle.log_trim.specs.Found.{IsPadded, IsNumberedPlace, StandsInArena, AreClauses, IsFinder, number_of_place}
use Rattle.log_trim.specs.declared.finder.Finder.{Finder}

-- one more clause has a number
pub names_more : (cs : Clauses) (c : List Literal) (n : ℕ) → NamesClause cs n → NamesClause (cs ++ c ∷ []) n
names_more cs c n h = record { from = h.from; to = let to = h.to in let size = length-append cs (c ∷ []) in omega arith }

pub numbered_front : (cs : Clauses) (c : List Literal) (n : ℕ) → NamesClause cs n → numbered (cs ++ c ∷ []) n ≡ numbered cs n
numbered_front cs c zero h = let from = h.from in absurd (omega arith)
numbered_front cs c (suc n) h = let to = h.to in get_or_append_left cs (c ∷ []) [] n (omega arith)

pub clauses_named : (vars : ℕ) (all taken : Clauses) (a : Attached) (numbers : List ℕ) (c : List Literal) → AreClauses vars all taken a numbers →
    AreClauses vars (all ++ c ∷ []) taken a numbers
clauses_named vars all taken a numbers c old = record {
  vars_are = old.vars_are;
  limit = old.limit;
  known = λ q among.
      let k = old.known q among in
      let n = number_of_place numbers q in
      let same : numbered (all ++ c ∷ []) n ≡ numbered all n = numbered_front all c n k.valid in
      record {
        from = k.from;
        valid = names_more all c n k.valid;
        among = subst (Contains taken) (sym same) k.among;
        padded = subst (λ (e : List Literal). IsPadded vars e (attached_at a q)) (sym same) k.padded;
      };
  held = old.held;
}

pub finder_more : (all taken : Clauses) (c : List Literal) (f : Finder) → IsFinder all taken f → IsFinder (all ++ c ∷ []) taken f
finder_more all taken c f h = record {
  clauses = clauses_named f.vars all taken f.arena f.numbers.items c h.clauses;
  idle = h.idle;
  size = h.size;
  unneeded = h.unneeded;
}

-- one more clause is taken, which has a number
module _ (vars : ℕ) (all taken : Clauses) (a b : Attached) (numbers now : List ℕ) (c d : List Literal) (p n : ℕ) (old : AreClauses vars all taken a numbers)
    (places : b.places ≡ a.places ++ p ∷ []) (clause : attached_at b p ≡ d) (more : IsMoreText a b) (attached : AreAttached b) (padded : IsPadded vars c d)
    (there : AreThere vars c) (distinct : AreDistinct c) (valid : NamesClause all n) (is : numbered all n ≡ c)
    (number : (q : ℕ) → number_of_place now q ≡ cond (nat_eq q p) n (number_of_place numbers q)) where
  known_here : (q : ℕ) → Contains b.places q → q ≡ p → eqb q p ≡ true → IsNumberedPlace vars all (taken ++ c ∷ []) b now q
  known_here q among same test =
      let at = attached q among in
      let here : number_of_place now q ≡ n = number q ∙ rw test refl in
      let at_q : attached_at b q ≡ d = ap (attached_at b) same ∙ clause in
      let mine : numbered all (number_of_place now q) ≡ c = ap (numbered all) here ∙ is in
      record {
        from = at.from;
        valid = subst (NamesClause all) (sym here) valid;
        among = subst (Contains (taken ++ c ∷ [])) (sym mine) (Contains-push taken c);
        padded = subst (λ (e : List Literal). IsPadded vars e (attached_at b q)) (sym mine) (subst (λ (e : List Literal). IsPadded vars c e) (sym at_q) padded);
      }

  known_there : (q : ℕ) → Contains b.places q → Contains a.places q → eqb q p ≡ false → IsNumberedPlace vars all (taken ++ c ∷ []) b now q
  known_there q among before test =
      let k = old.known q before in
      let same : number_of_place now q ≡ number_of_place numbers q = number q ∙ rw test refl in
      record {
        from = k.from;
        valid = subst (NamesClause all) (sym same) k.valid;
        among = subst (λ m. Contains (taken ++ c ∷ []) (numbered all m)) (sym same)
            (Contains-append_left taken (c ∷ []) (numbered all (number_of_place numbers q)) k.among);
        padded = subst (λ m. IsPadded vars (numbered all m) (attached_at b q)) (sym same)
            (subst (λ (e : List Literal). IsPadded vars (numbered all (number_of_place numbers q)) e) (sym (more.lits q before)) k.padded);
      }

  was_there : (q : ℕ) → Contains b.places q → (q ≡ p → ⊥) → Contains a.places q
  was_there q among ne = elim (Contains-push_cases a.places p q (subst (λ (ps : List ℕ). Contains ps q) places among)) [
    | inl before ↦ before
    | inr e ↦ absurd (ne (sym e))
  ]

  held_at : (e : List Literal) → Contains (taken ++ c ∷ []) e → StandsInArena vars b e
  held_at e among = elim (Contains-push_cases taken c e among) [
    | inl before ↦
        let h = old.held e before in
        record {
          place = h.place;
          among = subst (λ (ps : List ℕ). Contains ps h.place) (sym places) (Contains-append_left a.places (p ∷ []) h.place h.among);
          padded = subst (λ (x : List Literal). IsPadded vars e x) (sym (more.lits h.place h.among)) h.padded;
          there = h.there;
          distinct = h.distinct;
        }
    | inr same ↦ record {
      place = p;
      among = subst (λ (ps : List ℕ). Contains ps p) (sym places) (Contains-push a.places p);
      padded = subst (λ (x : List Literal). IsPadded vars e x) (sym clause) (subst (λ (x : List Literal). IsPadded vars x d) same padded);
      there = subst (AreThere vars) same there;
      distinct = subst AreDistinct same distinct;
    }
  ]

  pub clauses_more : AreClauses vars all (taken ++ c ∷ []) b now
  clauses_more = record {
    vars_are = let v = old.vars_are in let w = more.vars in omega (arith, v, w);
    limit = old.limit;
    known = λ q among. elim (eqb_tells q p) [
      | inl e ↦ known_here q among e.1 e.0
      | inr e ↦ known_there q among (was_there q among e.1) e.0
    ];
    held = held_at;
  }

-- clauses in another order of literals
pub clauses_same : (vars : ℕ) (all taken : Clauses) (a b : Attached) (numbers : List ℕ) → AreClauses vars all taken a numbers → IsSameText a b →
    AreClauses vars all taken b numbers
clauses_same vars all taken a b numbers old same = record {
  vars_are = let v = old.vars_are in let w = same.vars in omega (arith, v, w);
  limit = old.limit;
  known = λ q among.
      let before : Contains a.places q = subst (λ (ps : List ℕ). Contains ps q) same.places among in
      let k = old.known q before in
      record { from = k.from; valid = k.valid; among = k.among; padded = padded_same (numbered all (number_of_place numbers q)) q before k.padded };
  held = λ c among.
      let h = old.held c among in
      record {
        place = h.place;
        among = subst (λ (ps : List ℕ). Contains ps h.place) (sym same.places) h.among;
        padded = padded_same c h.place h.among h.padded;
        there = h.there;
        distinct = h.distinct;
      };
}
  where
    padded_same : (c : List Literal) (q : ℕ) → Contains a.places q → IsPadded vars c (attached_at a q) → IsPadded vars c (attached_at b q)
    padded_same c q before padded =
        let turn : SameLiterals (attached_at a q) (attached_at b q) = same.lits q before in
        record {
          whole = λ k m. (turn k).0 (padded.whole k m);
          only = λ k m. padded.only k ((turn k).1 m);
        }
