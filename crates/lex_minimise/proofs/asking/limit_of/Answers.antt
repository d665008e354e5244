use Rattle.lex_minimise.proofs.AskLemmas.{none_has_limit}
use Rattle.lex_minimise.proofs.asking.limit_of.Goals as goal

pub unreachable-requires : goal.unreachable-requires
unreachable-requires c = none_has_limit c.args.told.now c.args.bound.now c.loop-bounds.bounds-index c.loop-bounds-test.false c.requires.there
    c.loop-bounds.invariant
