use Rattle.std.proofs.Common.{List, subst}
use Rattle.std.specs.Prelude.{All, slice_index_or}
use Rattle.std.proofs.lemmas.List.Elements.{All-contains_itself}
use Rattle.cnf_core.specs.Lit.{Literal}
use Rattle.cnf_core.specs.Clause.{IsNamed}
use Rattle.cdcl_core.specs.Kept.{Kept, IsGivenOne}
use Rattle.cdcl_core.proofs.ViewLemmas.{named_given}
use Rattle.cases_solver.proofs.queries.add.Goals as goal

all_named : (old new : Kept) (c : List Literal) → IsGivenOne old new c → All (λ (l : Literal). IsNamed new.clauses l.var) c
all_named old new c given = λ k d lt. named_given old new c (slice_index_or c k d) given (All-contains_itself c k d lt)

pub returns : goal.returns
returns c = all_named c.args.solver.now c.add_clause.new.self c.in_ok-lits.lits.items
    (subst (λ (ls : List Literal). IsGivenOne c.args.solver.now c.add_clause.new.self ls) c.deref.ensures.value c.in_ok-add_clause.ensures.more)
