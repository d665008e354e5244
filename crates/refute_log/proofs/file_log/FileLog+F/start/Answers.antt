use Rattle.refute_log.proofs.FrontLemmas.{started_keeps}
use Rattle.refute_log.proofs.StartLemmas.{started}
use Rattle.refute_log.proofs.file_log.FileLog+F.start.Goals as goal

pub returns-in-Ok-clause-tells : goal.returns-in-Ok-clause-tells
returns-in-Ok-clause-tells g c =
    λ told. (
      started (g.F.Files.at c.args.files.now).contents (g.F.Files.at c.prepare.new.files).contents c.args.name.now c.in-Ok.kept.name.bytes.items
          c.in-Ok.kept.bytes.items c.in-Ok.kept.failed c.in-Ok.ensures.kept.0 c.in-Ok.ensures.kept.2 c.in-Ok.ensures.kept.3 c.in-Ok.ensures.created told,
      c.in-Ok.ensures.kept.1,
    )

pub returns-in-Ok-clause-keeps : goal.returns-in-Ok-clause-keeps
returns-in-Ok-clause-keeps g c =
    started_keeps (g.F.Files.at c.args.files.now).contents (g.F.Files.at c.prepare.new.files).contents c.args.name.now c.in-Ok.kept.name.bytes.items
    c.in-Ok.kept.bytes.items c.in-Ok.kept.failed c.in-Ok.ensures.kept.0 c.in-Ok.ensures.kept.2 c.in-Ok.ensures.kept.3 c.in-Ok.ensures.created
