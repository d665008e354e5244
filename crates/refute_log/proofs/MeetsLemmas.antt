-- What meets a list of Formula and Bound lines meets a log whose own ones begin it.
use Rattle.std.proofs.Common.{◌≡◌, ◌≤◌, ℕ, [], ◌∷◌, ◌++◌, refl, sym, ◌∙◌, ap, subst, arith}
use Rattle.std.specs.Prelude.{Contains, flat_map}
use Rattle.std.proofs.lemmas.Grind.{flat_map-append}
use Rattle.std.proofs.lemmas.List.Elements.{Contains-append_left}
use Rattle.plan_core.specs.declared.criterion.Criterion.{Criterion}
use Rattle.plan_core.specs.declared.criterion.Values.{Values}
use Rattle.plan_core.proofs.Listing.{Contains-flat_map}
use Rattle.cnf_core.specs.Clause.{Clauses}
use Rattle.cnf_core.specs.Assignment.{SatisfiesAll}
use Rattle.refute_log.specs.declared.line.LogLine.TheVariants.{Formula, Learnt, Bound, Query, Refuted, Model}
use Rattle.refute_log.specs.Told.{Lines}
use Rattle.refute_log.specs.Log.{given, clause_line, clause_lines, BeginsLines}
use Rattle.refute_log.specs.Bounds.{MeetsLog}
use Rattle.refute_log.specs.Expected.{caps}
use Rattle.cnf_core.proofs.ClauseLemmas.{satisfies_left}

pub given_of_clauses : (lines : Lines) → flat_map given (clause_lines lines) ≡ flat_map given lines
given_of_clauses [] = refl
given_of_clauses (Formula c ∷ lines) = ap (λ (cs : Clauses). c ∷ cs) (given_of_clauses lines)
given_of_clauses (Bound c k x ∷ lines) = given_of_clauses lines
given_of_clauses (Learnt c ∷ lines) = given_of_clauses lines
given_of_clauses (Query c ∷ lines) = given_of_clauses lines
given_of_clauses (Refuted c ∷ lines) = given_of_clauses lines
given_of_clauses (Model ∷ lines) = given_of_clauses lines

pub meets_front : (whole lines : Lines) (v : Values) → BeginsLines (clause_lines lines) whole → MeetsLog whole v → MeetsLog lines v
meets_front whole lines v front m = record {
  assignment = m.assignment;
  formula =
      let split : flat_map given whole ≡ flat_map given lines ++ flat_map given front.0 =
      ap (flat_map given) front.1 ∙ flat_map-append given (clause_lines lines) front.0
      ∙ ap (λ (cs : Clauses). cs ++ flat_map given front.0) (given_of_clauses lines) in
      satisfies_left m.assignment (flat_map given lines) (flat_map given front.0) (subst (SatisfiesAll m.assignment) split m.formula);
  bounds = λ c k x there. m.bounds c k x (subst (λ (ls : Lines). Contains ls (Bound c k x)) (sym front.1)
      (Contains-append_left (clause_lines lines) front.0 (Bound c k x) (Contains-flat_map clause_line lines (Bound c k x) (Bound c k x) there
      (0, omega arith, refl))));
}

pub caps_within : (greatest : Criterion → ℕ) (lines : Lines) (c : Criterion) → caps greatest lines c ≤ greatest c
caps_within greatest lines c = omega arith
