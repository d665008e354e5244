use Rattle.std.proofs.Common.{◌+◌}
use Rattle.unary_sum.proofs.JoinLemmas.{up_within}
use Rattle.unary_sum.proofs.joins.add_up.Goals as goal

pub add_clause-requires-clause-within : goal.add_clause-requires-clause-within
add_clause-requires-clause-within c =
    let ready = c.requires.ready in
    rw (c.negated.ensures, c.at.ensures, c.negated-2.ensures, c.at-2.ensures, c.at-3.ensures)
    (up_within c.args.f.now.vars c.args.m.now c.args.i c.args.j (c.args.i + c.args.j) ready.left ready.right ready.there)
