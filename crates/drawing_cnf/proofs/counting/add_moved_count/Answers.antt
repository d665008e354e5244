use Rattle.drawing_cnf.specs.Nodes.{node_at}
use Rattle.drawing_cnf.proofs.CountLemmas.{count_exact, count_extends}
use Rattle.drawing_cnf.proofs.SizeLemmas.{count_words, count_vars}
use Rattle.drawing_cnf.proofs.VariableLemmas.{moved_named, moved_within}
use Rattle.drawing_cnf.proofs.counting.add_moved_count.Goals as goal

pub returns-clause-words_bounded : goal.returns-clause-words_bounded
returns-clause-words_bounded c = count_words (node_at c.args.nodes.now) c.args.former.now c.args.f.now.vars

pub returns-clause-vars_bounded : goal.returns-clause-vars_bounded
returns-clause-vars_bounded c = count_vars c.args.former.now c.args.f.now.vars

pub returns-clause-within : goal.returns-clause-within
returns-clause-within c = λ place. moved_within c.args.former.now place

pub returns-clause-exact : goal.returns-clause-exact
returns-clause-exact c = λ v place reads h. count_exact v (node_at c.args.nodes.now) c.args.former.now place c.args.f.now.vars reads h

pub returns-clause-extends : goal.returns-clause-extends
returns-clause-extends c = λ v place reads. count_extends v (node_at c.args.nodes.now) c.args.former.now place c.args.f.now.vars c.requires.there reads

pub returns-clause-named : goal.returns-clause-named
returns-clause-named c = λ j from to. moved_named (node_at c.args.nodes.now) c.args.former.now c.args.f.now.vars j from to
