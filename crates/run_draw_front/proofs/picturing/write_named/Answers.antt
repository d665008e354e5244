use Rattle.run_draw_front.specs.Drawn.{found_by}
use Rattle.run_draw_front.proofs.PictureLemmas.{leaves_either}
use Rattle.run_draw_front.proofs.picturing.write_named.Goals as goal

pub returns-in-Some-clause-leaves : goal.returns-in-Some-clause-leaves
returns-in-Some-clause-leaves g c =
    leaves_either c.write_picture.result (g.F.Files.at c.args.files.now).contents (g.F.Files.at c.write_picture.new.files).contents c.args.name.now
    c.args.graph.now (found_by c.args.outcome.now) c.in-Some.drawing.now c.in-Some.ensures
    c.write_picture.ensures.ok c.write_picture.ensures.err
