use Rattle.cnf_laws.proofs.FormulaWords.{base_few}
use Rattle.cnf_laws.proofs.JoinedLemmas.{base_sound, base_covers}
use Rattle.cnf_laws.proofs.MainLemmas.{few_variables}
use Rattle.cnf_laws.proofs.nodes.add_base.Goals as goal

pub returns-clause-words : goal.returns-clause-words
returns-clause-words c =
    let s = c.nodes.ensures.station in
    let size = c.width.ensures.is_grid in
    base_few c.args.g.now c.args.grid.now s.track_graph size (few_variables c.args.g.now c.args.grid.now size s.few_nodes s.few_edges)

pub returns-clause-few : goal.returns-clause-few
returns-clause-few c =
    let s = c.nodes.ensures.station in
    few_variables c.args.g.now c.args.grid.now c.width.ensures.is_grid s.few_nodes s.few_edges

pub returns-clause-sound : goal.returns-clause-sound
returns-clause-sound c = base_sound c.args.g.now c.args.grid.now c.nodes.ensures.station.track_graph c.width.ensures.is_grid

pub returns-clause-covers : goal.returns-clause-covers
returns-clause-covers c =
    let s = c.nodes.ensures.station in
    let size = c.width.ensures.is_grid in
    base_covers c.args.g.now c.args.grid.now s.track_graph size (few_variables c.args.g.now c.args.grid.now size s.few_nodes s.few_edges)
