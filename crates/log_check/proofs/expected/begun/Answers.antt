use Rattle.std.proofs.Common.{length, rules, ◌∙◌, ap}
use Rattle.cnf_core.specs.Formula.{Cnf}
use Rattle.log_check.proofs.ExpectingLemmas.{expecting_none, passes_none, first_part}
use Rattle.log_check.proofs.expected.begun.Goals as goal

pub returns-in_err-encoded-clause-full : goal.returns-in_err-encoded-clause-full
returns-in_err-encoded-clause-full c = λ is cap. passes_none c.args.g.now c.args.t.now c.args.grid.now cap (c.in_err-encoded.ensures.full (search rules))

pub returns-clause-so_far : goal.returns-clause-so_far
returns-clause-so_far c = λ cap.
    let e = c.in_ok-encoded.encoded in
    let k = c.in_ok-encoded.ensures in
    expecting_none c.args.g.now c.args.t.now c.args.grid.now e c.push.new.self.items cap k.graph k.order k.grid k.kept k.clauses k.vars k.whole
    (first_part e.formula.clauses c.new-parts.result.items c.push.new.self.items c.clauses.result c.new-parts.ensures.items c.in_ok-push.ensures.items
    (c.clauses.ensures.value ∙ ap (λ (f : Cnf). length f.clauses) c.formula.ensures))
