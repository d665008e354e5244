use Rattle.cnf_core.specs.Truths.{assignment}
use Rattle.drawing_cnf.proofs.PutLaws.{apart_puts}
use Rattle.drawing_cnf.proofs.put_laws.put_apart_pair.Goals as goal

pub returns-clause-puts : goal.returns-clause-puts
returns-clause-puts c =
    let s = c.args.s.now in
    apart_puts s.graph.now s.grid.now s.drawing.now c.args.u c.args.v c.args.first (assignment c.args.m.now) (assignment c.put_apart.new.m) c.compared.result
    c.place.result c.place-2.result c.requires.pair c.requires.put c.requires.ordered c.requires.apart
    c.compared.ensures c.place.ensures c.place-2.ensures c.put_apart.ensures.bits c.put_apart.ensures.same
