use Rattle.refute_log.proofs.FrontLemmas.{rest_begins, rest_cut}
use Rattle.refute_log.proofs.file_log.FileLog+F.finish.Goals as goal

pub returns-in-Ok-clause-begins : goal.returns-in-Ok-clause-begins
returns-in-Ok-clause-begins g c =
    rest_begins (g.F.Files.at c.args.self.files.now).contents (g.F.Files.at c.append.new.self).contents c.args.self.kept.failed
    c.args.self.kept.name.bytes.items c.args.self.kept.bytes.items c.if-kept.false (rw (c.as_str.ensures.value, c.deref.ensures.value) at c.in-Ok.ensures.ok)

pub returns-clause-begins : goal.returns-clause-begins
returns-clause-begins g c =
    rest_cut (g.F.Files.at c.args.self.files.now).contents (g.F.Files.at c.append.new.self).contents c.args.self.kept.failed c.args.self.kept.name.bytes.items
    c.args.self.kept.bytes.items c.if-kept.false (rw (c.as_str.ensures.value, c.deref.ensures.value) at c.in-Err.ensures.err)
