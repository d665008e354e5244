use Rattle.std.proofs.Common.{ap, rules}
use Rattle.port_graph.specs.Sites.{edge_no}
use Rattle.port_graph.proofs.NumberLemmas.{piece_from}
use Rattle.port_graph.proofs.numbers.piece_number.Goals as goal

pub overflow_add-result : goal.overflow_add-result
overflow_add-result c =
    let e = piece_from c.args.t.now c.args.numbering.now c.requires.numbering c.args.track c.args.piece _ _ c.index.result.now c.min-track.ensures c.len.ensures
    c.index.ensures in
    search rules

pub returns : goal.returns
returns c = ap edge_no (piece_from c.args.t.now c.args.numbering.now c.requires.numbering c.args.track c.args.piece _ _ c.index.result.now c.min-track.ensures
    c.len.ensures c.index.ensures)
