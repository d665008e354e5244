use Rattle.std.proofs.Common.{None, Some}
use Rattle.refute_log.specs.ToldTo.{told_to}
use Rattle.refute_log.specs.FileLog.{BeginsLog}
use Rattle.run_input.specs.Met.{between}
use Rattle.run_input.proofs.FiledLemmas.{told_named}
use Rattle.run_input.proofs.LeavesLemmas.{leaves_named}
use Rattle.run_input.proofs.DerivesLemmas.{tells_unchanged}
use Rattle.run_input.proofs.searching.search_logged.Goals as goal

pub returns-in-Some-clause-searched : goal.returns-in-Some-clause-searched
returns-in-Some-clause-searched g c =
    let met = between (g.F.Files.at c.args.files.now) (g.F.Files.at c.search_filed.new.files) in
    let traced = told_to {Self = g.row.T.Denot} g.T.LogSink.tells g.T.LogSink.learnt c.args.trace.now c.args.trace.now in
    told_named (g.S.Searching.ended c.args.question.now) met traced c.args.log.now (Some c.in-Some.name) c.search_filed.result c.in-Some.is
    c.search_filed.ensures.searched

pub returns-in-Some-clause-left : goal.returns-in-Some-clause-left
returns-in-Some-clause-left g c =
    tells_unchanged (g.S.Searching.left c.args.question.now) (g.T.LogSink.tells c.args.trace.now) (g.met.T.LogSink.one_reading c.args.trace.now)
    (g.met.S.Searching.left_none c.args.question.now)

pub returns-in-Some-clause-leaves : goal.returns-in-Some-clause-leaves
returns-in-Some-clause-leaves g c =
    leaves_named BeginsLog (g.F.Files.at c.args.files.now).contents (g.F.Files.at c.search_filed.new.files).contents c.args.log.now c.in-Some.name c.in-Some.is
    c.search_filed.ensures.others c.search_filed.ensures.begun

pub returns-in-None-clause-searched : goal.returns-in-None-clause-searched
returns-in-None-clause-searched g c =
    let met = between (g.F.Files.at c.args.files.now) (g.F.Files.at c.args.files.now) in
    let traced = told_to {Self = g.row.T.Denot} g.T.LogSink.tells g.T.LogSink.learnt c.args.trace.now c.search.new.log in
    told_named (g.S.Searching.ended c.args.question.now) met traced c.args.log.now None c.search.result c.in-None.is c.search.ensures.searched
