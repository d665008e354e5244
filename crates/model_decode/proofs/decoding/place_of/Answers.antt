use Rattle.std.proofs.Common.{length}
use Rattle.cnf_core.specs.Truths.{assignment}
use Rattle.plan_core.specs.Drawing.{place}
use Rattle.drawing_cnf.specs.Expected.{drawing_vars}
use Rattle.model_decode.proofs.DecodeLemmas.{node_x_in, node_y_in, int_model, small_x, small_y, place_read}
use Rattle.model_decode.proofs.decoding.place_of.Goals as goal

pub point_of-requires-clause-x_there : goal.point_of-requires-clause-x_there
point_of-requires-clause-x_there c = node_x_in c.args.g.now c.args.grid.now c.args.n (length c.args.m.now) c.node_vars.result.x c.requires.n c.requires.there
    c.node_vars.ensures.x

pub point_of-requires-clause-x_model : goal.point_of-requires-clause-x_model
point_of-requires-clause-x_model c =
    let d = c.requires.read.drawing in
    int_model (assignment c.args.m.now) c.node_vars.result.x ((drawing_vars c.args.g.now c.args.grid.now).node c.args.n).x (place d c.args.n).x
    c.node_vars.ensures.x (c.requires.read.is.reads.points c.args.n c.requires.n).x

pub point_of-requires-clause-x_small : goal.point_of-requires-clause-x_small
point_of-requires-clause-x_small c = small_x c.args.g.now c.args.grid.now c.args.n c.node_vars.result.x c.requires.read.size c.node_vars.ensures.x

pub point_of-requires-clause-y_there : goal.point_of-requires-clause-y_there
point_of-requires-clause-y_there c = node_y_in c.args.g.now c.args.grid.now c.args.n (length c.args.m.now) c.node_vars.result.y c.requires.n c.requires.there
    c.node_vars.ensures.y

pub point_of-requires-clause-y_model : goal.point_of-requires-clause-y_model
point_of-requires-clause-y_model c =
    let d = c.requires.read.drawing in
    int_model (assignment c.args.m.now) c.node_vars.result.y ((drawing_vars c.args.g.now c.args.grid.now).node c.args.n).y (place d c.args.n).y
    c.node_vars.ensures.y (c.requires.read.is.reads.points c.args.n c.requires.n).y

pub point_of-requires-clause-y_small : goal.point_of-requires-clause-y_small
point_of-requires-clause-y_small c = small_y c.args.g.now c.args.grid.now c.args.n c.node_vars.result.y c.requires.read.size c.node_vars.ensures.y

pub returns : goal.returns
returns c = λ d is. place_read c.args.g.now c.args.grid.now (assignment c.args.m.now) c.args.n c.node_vars.result.x c.node_vars.result.y c.point_of.result d
    c.requires.n c.node_vars.ensures.x c.node_vars.ensures.y c.point_of.ensures.x c.point_of.ensures.y is
