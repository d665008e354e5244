use Rattle.std.proofs.Common.{◌≡◌, ◌∙◌, ap}
use Rattle.hint_log.specs.Slots.{clauses_in}
use Rattle.hint_log.proofs.SlotLemmas.{own_clauses}
use Rattle.hint_log.proofs.checker.HintChecker.new.Goals as goal

pub returns-clause-clauses : goal.returns-clause-clauses
returns-clause-clauses c =
    let f = c.vars.ensures.formula in
    let own : clauses_in c.in_ok-slots.slots c.args.f.clauses ≡ c.args.f.clauses =
    own_clauses c.args.f.vars c.in_ok-slots.slots c.args.f.clauses (rw c.vars.ensures.value at c.in_ok-slots.ensures) f.there in
    ap (clauses_in _) c.in_ok-kept.ensures.clauses ∙ own
