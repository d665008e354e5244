use Rattle.std.proofs.Common.{◌+◌, List, take, sym, subst}
use Rattle.cnf_core.specs.Lit.{Literal}
use Rattle.lex_minimise.specs.Asking.{AreAssumed}
use Rattle.lex_minimise.proofs.AskLemmas.{assumed_next}
use Rattle.lex_minimise.proofs.asking.assumptions.Goals as goal

pub loop-bound-preserved : goal.loop-bound-preserved
loop-bound-preserved c =
    let i = c.loop-bound.bound-index in
    subst (λ (ls : List Literal). AreAssumed c.args.told.now (take (i + 1) c.args.bounds.now) ls) (sym c.in_ok-push.ensures.items)
    (assumed_next c.args.told.now c.args.bounds.now i _ c.loop-bound.assume.items c.limit_of-x.result c.new.result c.loop-bound-test.true c.loop-bound.invariant
    c.limit_of-x.ensures c.new.ensures)
