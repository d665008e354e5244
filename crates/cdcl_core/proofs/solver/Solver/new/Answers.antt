use Rattle.cdcl_core.proofs.ViewLemmas.{new_given, new_belongs}
use Rattle.cdcl_core.specs.Search.{kept_of}
use Rattle.std.proofs.Common.{◌≡◌, List, None, [], false, sym, subst}
use Rattle.cnf_core.specs.Lit.{Literal}
use Rattle.cdcl_core.specs.Kept.{blank}
use Rattle.cdcl_core.proofs.solver.Solver.new.Goals as goal

pub invariant_of-result : goal.invariant_of-result
invariant_of-result c = λ _. c.in_ok-new.ensures.idle

pub returns-clause-blank : goal.returns-clause-blank
returns-clause-blank c = subst (λ (ls : List Literal). kept_of c.in_ok-new.field-0 None ls false ≡ blank c.args.room) (sym c.new-2.ensures.items)
    c.in_ok-new.ensures.blank

pub returns-clause-given : goal.returns-clause-given
returns-clause-given c = new_given (kept_of c.in_ok-new.field-0 None [] false) c.args.room c.in_ok-new.ensures.blank

pub returns-clause-belongs : goal.returns-clause-belongs
returns-clause-belongs c = new_belongs (kept_of c.in_ok-new.field-0 None [] false) c.args.room c.in_ok-new.ensures.blank
