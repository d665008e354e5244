-- Clauses that stand one after another in one list of literals, cut at the places where they end.
use Rattle.std.proofs.Common.{◌≡◌, ℕ, ◌+◌, ◌*◌, ◌<◌, ◌≤◌, zero, suc, List, [], ◌∷◌, ◌++◌, length, take, drop, get_or, refl, sym, ◌∙◌, ap, subst, arith}
use Rattle.std.proofs.Common.{length-append, length-take, length-drop}
use Rattle.std.proofs.Math.Seq.{drop-append_seam}
use Rattle.std.proofs.lemmas.List.{take-append-le, drop-append-le, take_all}
use Rattle.std.specs.Prelude.{◌-◌}
use Rattle.cnf_core.specs.Lit.{Literal}
use Rattle.cnf_core.specs.Clause.{Clauses, AreThere, AreDistinct, AllThere, AllDistinct, words_of}
use Rattle.cnf_core.specs.Formula.{Cnf, IsFormula, clause_at, cuts, cnf_of, AreEnds, IsStored}
use Rattle.cnf_core.proofs.ClauseLemmas.{all_there_more, all_there_append, all_distinct_append, words_append, words_at}

-- the places lie before the last one
pub start_to : (start : ℕ) (ends : List ℕ) (last : ℕ) → AreEnds start ends last → start ≤ last
start_to start [] last h = omega arith
start_to start (end ∷ rest) last h = omega (arith, h.0, start_to end rest last h.1)

pub ends_more : (start : ℕ) (ends : List ℕ) (last more : ℕ) → AreEnds start ends last → last ≤ more → AreEnds start (ends ++ more ∷ []) more
ends_more start [] last more h le = (omega arith, refl)
ends_more start (end ∷ rest) last more h le = (h.0, ends_more end rest last more h.1 le)

-- where a clause starts and ends
pub end_after : (start : ℕ) (ends : List ℕ) (last c : ℕ) → AreEnds start ends last → c < length ends → get_or (start ∷ ends) c 0 ≤ get_or ends c 0
end_after start [] last c h within = absurd (omega arith)
end_after start (end ∷ rest) last zero h within = h.0
end_after start (end ∷ rest) last (suc c) h within = end_after end rest last c h.1 (omega arith)

pub end_to : (start : ℕ) (ends : List ℕ) (last c : ℕ) → AreEnds start ends last → c < length ends → get_or ends c 0 ≤ last
end_to start [] last c h within = absurd (omega arith)
end_to start (end ∷ rest) last zero h within = start_to end rest last h.1
end_to start (end ∷ rest) last (suc c) h within = end_to end rest last c h.1 (omega arith)

-- how many clauses there are, and how many words they have
pub length-cuts : (lits : List Literal) (start : ℕ) (ends : List ℕ) → length (cuts lits start ends) ≡ length ends
length-cuts lits start [] = refl
length-cuts lits start (end ∷ rest) = omega (arith, length-cuts lits end rest)

words_from : (lits : List Literal) (start : ℕ) (ends : List ℕ) → AreEnds start ends (length lits) →
    words_of (cuts lits start ends) + start ≡ length lits + 3 * length ends
words_from lits start [] h = omega arith
words_from lits start (end ∷ rest) h =
    let to = start_to end rest (length lits) h.1 in
    omega (arith, h.0, words_from lits end rest h.1, length-take (end - start) (drop start lits), length-drop start lits)

pub words_of-cuts : (lits : List Literal) (ends : List ℕ) → AreEnds 0 ends (length lits) → words_of (cuts lits 0 ends) ≡ length lits + 3 * length ends
words_of-cuts lits ends h = omega (arith, words_from lits 0 ends h)

-- one more clause behind the others
pub cuts-append : (lits new : List Literal) (start : ℕ) (ends : List ℕ) → AreEnds start ends (length lits) →
    cuts (lits ++ new) start (ends ++ (length lits + length new) ∷ []) ≡ cuts lits start ends ++ new ∷ []
cuts-append lits new start [] h =
    let z : length lits + length new - start ≡ length new = omega arith in
    let d : drop start (lits ++ new) ≡ new = ap (λ n. drop n (lits ++ new)) h ∙ drop-append_seam lits new in
    ap (λ n. take n (drop start (lits ++ new)) ∷ []) z ∙ ap (λ (ls : List Literal). take (length new) ls ∷ []) d
    ∙ ap (λ (ls : List Literal). ls ∷ []) (take_all (length new) new (omega arith))
cuts-append lits new start (end ∷ rest) h =
    let to = start_to end rest (length lits) h.1 in
    let d : drop start (lits ++ new) ≡ drop start lits ++ new = drop-append-le start lits new (omega (arith, h.0)) in
    let t : take (end - start) (drop start lits ++ new) ≡ take (end - start) (drop start lits) = take-append-le (end - start) (drop start lits) new
    (omega (arith, h.0, length-drop start lits)) in
    ap (λ (c : List Literal). c ∷ cuts (lits ++ new) end (rest ++ (length lits + length new) ∷ [])) (ap (λ (ls : List Literal). take (end - start) ls) d ∙ t)
    ∙ ap (λ (cs : Clauses). take (end - start) (drop start lits) ∷ cs) (cuts-append lits new end rest h.1)

-- the clause of a number is read from its start to its end
pub get_or-cuts : (lits : List Literal) (start : ℕ) (ends : List ℕ) (last c : ℕ) → AreEnds start ends last → c < length ends →
    get_or (cuts lits start ends) c [] ≡ take (get_or ends c 0 - get_or (start ∷ ends) c 0) (drop (get_or (start ∷ ends) c 0) lits)
get_or-cuts lits start [] last c h within = absurd (omega arith)
get_or-cuts lits start (end ∷ rest) last zero h within = refl
get_or-cuts lits start (end ∷ rest) last (suc c) h within = get_or-cuts lits end rest last c h.1 (omega arith)

-- what is stored is a formula: its numbers
pub stored_small : (room vars : ℕ) (lits : List Literal) (ends : List ℕ) → IsStored room vars lits ends → length lits + 3 * length ends ≤ 268435456
stored_small room vars lits ends s =
    let words = words_of-cuts lits ends s.ends_rise in
    let within = s.formula.within_room in
    let limit = s.formula.room_limit in
    omega arith

pub stored_words : (room vars : ℕ) (lits : List Literal) (ends : List ℕ) (f : Cnf) → IsStored room vars lits ends → cnf_of room vars lits ends ≡ f →
    length lits + 3 * length ends ≡ words_of f.clauses
stored_words room vars lits ends f s e = sym (words_of-cuts lits ends s.ends_rise) ∙ ap (λ (g : Cnf). words_of g.clauses) e

pub stored_count : (room vars : ℕ) (lits : List Literal) (ends : List ℕ) (f : Cnf) → cnf_of room vars lits ends ≡ f → length ends ≡ length f.clauses
stored_count room vars lits ends f e = sym (length-cuts lits 0 ends) ∙ ap (λ (g : Cnf). length g.clauses) e

-- further variables
pub stored_vars : (room vars more : ℕ) (lits : List Literal) (ends : List ℕ) → vars + more ≤ 16777216 → IsStored room vars lits ends →
    IsStored room (vars + more) lits ends
stored_vars room vars more lits ends limit s = record {
  ends_rise = s.ends_rise;
  formula = record {
    room_limit = s.formula.room_limit;
    vars_limit = limit;
    within_room = s.formula.within_room;
    distinct = s.formula.distinct;
    there = all_there_more vars (vars + more) (cuts lits 0 ends) (omega arith) s.formula.there;
  };
}

-- a further clause
cuts_now : (lits new now : List Literal) (ends then : List ℕ) → AreEnds 0 ends (length lits) → now ≡ lits ++ new →
    then ≡ ends ++ (length lits + length new) ∷ [] → cuts now 0 then ≡ cuts lits 0 ends ++ new ∷ []
cuts_now lits new now ends then h e d = ap (λ (ls : List Literal). cuts ls 0 then) e ∙ ap (λ (ns : List ℕ). cuts (lits ++ new) 0 ns) d
    ∙ cuts-append lits new 0 ends h

pub stored_more : (room vars : ℕ) (lits new now : List Literal) (ends then : List ℕ) → length lits + 3 * length ends + length new + 3 ≤ room → AreDistinct new →
    AreThere vars new → IsStored room vars lits ends → now ≡ lits ++ new → then ≡ ends ++ (length lits + length new) ∷ [] → IsStored room vars now then
stored_more room vars lits new now ends then fits distinct there s e d =
    let is = cuts_now lits new now ends then s.ends_rise e d in
    let words : words_of (cuts now 0 then) ≡ words_of (cuts lits 0 ends ++ new ∷ []) = ap words_of is in
    let size : length now ≡ length lits + length new = ap length e ∙ length-append lits new in
    record {
      ends_rise = subst (λ (ns : List ℕ). AreEnds 0 ns (length now)) (sym d) (subst (λ n. AreEnds 0 (ends ++ (length lits + length new) ∷ []) n) (sym size)
          (ends_more 0 ends (length lits) (length lits + length new) s.ends_rise (omega arith)));
      formula = record {
        room_limit = s.formula.room_limit;
        vars_limit = s.formula.vars_limit;
        within_room = omega (arith, words, words_append (cuts lits 0 ends) (new ∷ []), words_of-cuts lits ends s.ends_rise);
        distinct = subst (λ (cs : Clauses). AllDistinct cs) (sym is) (all_distinct_append (cuts lits 0 ends) (new ∷ []) s.formula.distinct (distinct, tt));
        there = subst (λ (cs : Clauses). AllThere vars cs) (sym is) (all_there_append vars (cuts lits 0 ends) (new ∷ []) s.formula.there (there, tt));
      };
    }

pub view_more : (room vars : ℕ) (lits new now : List Literal) (ends then : List ℕ) (f : Cnf) → IsStored room vars lits ends → now ≡ lits ++ new →
    then ≡ ends ++ (length lits + length new) ∷ [] → cnf_of room vars lits ends ≡ f → cnf_of room vars now then ≡ record f { clauses = f.clauses ++ new ∷ [] }
view_more room vars lits new now ends then f s e d is =
    ap (λ (cs : Clauses). clauses_in room vars cs) (cuts_now lits new now ends then s.ends_rise e d)
    ∙ ap (λ (g : Cnf). clauses_in g.room g.vars (g.clauses ++ new ∷ [])) is
  where
    clauses_in : ℕ → ℕ → Clauses → Cnf
    clauses_in r v cs = record { room = r; vars = v; clauses = cs }

-- the clause of a number
pub clause_stored : (room vars c : ℕ) (lits : List Literal) (ends : List ℕ) (f : Cnf) → IsStored room vars lits ends → cnf_of room vars lits ends ≡ f →
    c < length f.clauses → take (get_or ends c 0 - get_or (0 ∷ ends) c 0) (drop (get_or (0 ∷ ends) c 0) lits) ≡ clause_at f c
clause_stored room vars c lits ends f s e within =
    let count : length ends ≡ length f.clauses = stored_count room vars lits ends f e in
    sym (get_or-cuts lits 0 ends (length lits) c s.ends_rise (omega arith)) ∙ ap (λ (g : Cnf). get_or g.clauses c []) e

pub formula_stored : (room vars : ℕ) (lits : List Literal) (ends : List ℕ) (f : Cnf) → IsStored room vars lits ends → cnf_of room vars lits ends ≡ f →
    IsFormula f
formula_stored room vars lits ends f s e = subst (λ (g : Cnf). IsFormula g) e s.formula

pub clause_small : (f : Cnf) (c : ℕ) → IsFormula f → length (clause_at f c) ≤ 268435456
clause_small f c h = let within = h.within_room in let limit = h.room_limit in omega (arith, words_at f.clauses c)
