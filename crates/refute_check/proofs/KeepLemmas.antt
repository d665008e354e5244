-- A clause is kept.
use Rattle.std.proofs.Common.{◌≡◌, ℕ, ◌+◌, ◌<◌, ◌≤◌, max, List, [], ◌∷◌, ◌++◌, length, take, get_or, refl, sym, ◌∙◌, ap, subst, arith}
use Rattle.std.proofs.lemmas.List.{take_more}
use Rattle.cnf_core.specs.Lit.{Literal}
use Rattle.cnf_core.specs.Clause.{Clauses}
use Rattle.cnf_core.specs.Formula.{Cnf}
use Rattle.cnf_core.specs.Propagation.{greatest_in, greatest_var, nothing}
use Rattle.cnf_core.proofs.PropagationLemmas.{falsifies_more, among_left}
use Rattle.cnf_core.proofs.GreatestLemmas.{greatest_in-append, greatest_var-append}
use Rattle.refute_check.specs.declared.tables.Tables.{Tables}
use Rattle.refute_check.specs.Settled.{AreSettled}
use Rattle.refute_check.specs.Standing.{IsContradicted}

pub greatest_step : (ls : List Literal) (i : ℕ) (l : Literal) (n v : ℕ) → i < length ls → l ≡ get_or ls i l → v ≡ l.var → n ≡ greatest_in (take i ls) →
    max n v ≡ greatest_in (take (i + 1) ls)
greatest_step ls i l n v within at e h =
    let next : take (i + 1) ls ≡ take i ls ++ l ∷ [] = take_more ls i l within ∙ ap (λ (k : Literal). take i ls ++ k ∷ []) (sym at) in
    omega (arith, greatest_in-append (take i ls) (l ∷ []), ap greatest_in next, h, e)

-- a formula with further variables
abbrev with_vars : Cnf → ℕ → Cnf
with_vars f n = record f { vars = n }

pub record Grown (old new : Cnf) (t : Tables) (vars : ℕ) : Type 0 where
  pub settled : AreSettled new.vars new.clauses t
  pub same : new ≡ record old { vars = new.vars }
  pub from : old.vars ≤ new.vars
  pub to : new.vars ≤ max old.vars vars

pub grown_none : (f : Cnf) (t : Tables) (vars : ℕ) → AreSettled f.vars f.clauses t → Grown f f t vars
grown_none f t vars s = record { settled = s; same = refl; from = omega arith; to = omega arith }

pub grown_one : (old mid new : Cnf) (t u : Tables) (vars : ℕ) → mid.vars < vars → Grown old mid t vars → AreSettled (mid.vars + 1) mid.clauses u →
    new ≡ record mid { vars = mid.vars + 1 } → Grown old new u vars
grown_one old mid new t u vars low g s e =
    let n : new.vars ≡ mid.vars + 1 = ap (λ (f : Cnf). f.vars) e in
    let cs : new.clauses ≡ mid.clauses = ap (λ (f : Cnf). f.clauses) e in
    record {
      settled = rw (n, cs) s;
      same = e ∙ ap (λ (f : Cnf). record f { vars = mid.vars + 1 }) g.same ∙ ap (λ k. with_vars old k) (sym n);
      from = let from = g.from in omega (arith, from, n);
      to = let to = g.to in omega (arith, to, n, low);
    }

pub grown_all : (old new : Cnf) (t : Tables) (vars : ℕ) → vars ≤ new.vars → Grown old new t vars → new ≡ record old { vars = max old.vars vars }
grown_all old new t vars le g =
    let n : new.vars ≡ max old.vars vars = let from = g.from in let to = g.to in omega (arith, from, to, le) in
    g.same ∙ ap (λ k. with_vars old k) n

-- a contradiction stays one
pub contradicted_more : (old new : Cnf) (c : List Literal) (vars : ℕ) → IsContradicted old → new ≡ record old { vars = vars; clauses = old.clauses ++ c ∷ [] } →
    vars ≤ greatest_var (old.clauses ++ c ∷ []) → IsContradicted new
contradicted_more old new c vars h e le = subst (λ (f : Cnf). IsContradicted f) (sym e) (record {
  falsified = falsifies_more old.clauses (old.clauses ++ c ∷ []) nothing (among_left old.clauses (c ∷ [])) h.falsified;
  greatest = le;
})

pub kept_both : (old mid new : Cnf) (c : List Literal) (vars : ℕ) → mid ≡ record old { vars = vars } → new ≡ record mid { clauses = mid.clauses ++ c ∷ [] } →
    new ≡ record old { vars = vars; clauses = old.clauses ++ c ∷ [] }
kept_both old mid new c vars e d = d ∙ ap (λ (f : Cnf). with_clause f c) e
  where
    with_clause : Cnf → List Literal → Cnf
    with_clause f c = record f { clauses = f.clauses ++ c ∷ [] }

pub greatest_kept : (cs : Clauses) (c : List Literal) (vars more : ℕ) → vars ≤ greatest_var cs → more ≤ max vars (greatest_in c) →
    max vars more ≤ greatest_var (cs ++ c ∷ [])
greatest_kept cs c vars more le named = omega (arith, greatest_var-append cs (c ∷ []))
