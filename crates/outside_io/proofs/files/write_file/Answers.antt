use Rattle.std.proofs.lemmas.Result.{on_ok_weaker, on_err_weaker}
use Rattle.outside_io.proofs.Results.{on_err_anyway}
use Rattle.outside_io.proofs.WholeFileLemmas.{whole, not_created, not_whole}
use Rattle.outside_io.proofs.files.write_file.Goals as goal

pub returns-in_err-create-clause-err : goal.returns-in_err-create-clause-err
returns-in_err-create-clause-err g c =
    on_err_anyway c.from_residual.result _ (not_created (g.F.Files.at c.args.files.now).contents (g.F.Files.at c.create.new.self).contents c.args.name.now
    c.args.bytes.now c.in_err-create.ensures.err)

pub returns-clause-ok : goal.returns-clause-ok
returns-clause-ok g c =
    on_ok_weaker c.append.result (λ w. whole (g.F.Files.at c.args.files.now).contents (g.F.Files.at c.create.new.self).contents
    (g.F.Files.at c.append.new.self).contents c.args.name.now c.args.bytes.now c.in_ok-create.ensures.ok w) c.append.ensures.ok

pub returns-clause-err : goal.returns-clause-err
returns-clause-err g c =
    on_err_weaker c.append.result (λ w. not_whole (g.F.Files.at c.args.files.now).contents (g.F.Files.at c.create.new.self).contents
    (g.F.Files.at c.append.new.self).contents c.args.name.now c.args.bytes.now c.in_ok-create.ensures.ok w) c.append.ensures.err
