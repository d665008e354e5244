use Rattle.watch_arena.proofs.LookLemmas.{first_watch, second_watch}
use Rattle.watch_arena.proofs.visits.watch_of.Goals as goal

pub returns-then-words-p-clause-lit : goal.returns-then-words-p-clause-lit
returns-then-words-p-clause-lit c = second_watch c.args.words.now c.args.p c.args.w c.if-words-p.true

pub returns-clause-lit : goal.returns-clause-lit
returns-clause-lit c = first_watch c.args.words.now c.args.p c.args.w c.requires.one c.if-words-p.false
