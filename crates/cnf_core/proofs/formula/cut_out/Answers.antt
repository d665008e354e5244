use Rattle.std.proofs.Common.{arith, length}
use Rattle.cnf_core.proofs.StoreLemmas.{end_after, end_to}
use Rattle.cnf_core.proofs.formula.cut_out.Goals as goal

pub slice_bounds-result-count : goal.slice_bounds-result-count
slice_bounds-result-count c =
    let rises = end_after 0 c.args.ends.now (length c.args.lits.now) c.args.c c.requires.rise c.requires.there in
    omega (arith, rises, c.start_of-start.ensures)

pub slice_bounds-result-start : goal.slice_bounds-result-start
slice_bounds-result-start c =
    let rises = end_after 0 c.args.ends.now (length c.args.lits.now) c.args.c c.requires.rise c.requires.there in
    omega (arith, rises, c.start_of-start.ensures)

pub slice_bounds-result-end : goal.slice_bounds-result-end
slice_bounds-result-end c =
    let rises = end_after 0 c.args.ends.now (length c.args.lits.now) c.args.c c.requires.rise c.requires.there in
    let within = end_to 0 c.args.ends.now (length c.args.lits.now) c.args.c c.requires.rise c.requires.there in
    omega (arith, rises, within, c.start_of-start.ensures)
