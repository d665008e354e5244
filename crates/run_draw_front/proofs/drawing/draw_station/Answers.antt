use Rattle.std.proofs.Common.{ℕ, List, subst, ap, inl}
use Rattle.std.specs.declared.option.Option.{Option}
use Rattle.outside_io.specs.Contents.{WhereTold}
use Rattle.refute_log.specs.ToldTo.{told_to}
use Rattle.refute_log.specs.FileLog.{BeginsLog}
use Rattle.run_input.specs.Met.{between, LeftSo}
use Rattle.run_draw_front.specs.Pictured.{BeginsPicture, IsPictured}
use Rattle.run_input.specs.SearchLog.{IsRunLog}
use Rattle.run_draw_front.specs.Drawn.{Job, found_by, HasBegunPicture, DrawMayLeave}
use Rattle.run_draw_front.proofs.DrawnLemmas.{found_draws}
use Rattle.run_input.proofs.LeavesLemmas.{leaves_weaker, NamedMay}
use Rattle.run_draw_front.proofs.PictureLemmas.{leaves_pictured, drawn_answer}
use Rattle.run_draw_front.proofs.drawing.draw_station.Goals as goal

pub write_found-requires : goal.write_found-requires
write_found-requires g c =
    let searched = c.in_ok-outcome.ensures.searched in
    found_draws c.args.station.now.graph c.args.station.now.order c.args.asked.now c.in_ok-outcome.outcome searched.lines searched.ended

pub returns-in_err-outcome-clause-leaves : goal.returns-in_err-outcome-clause-leaves
returns-in_err-outcome-clause-leaves g c =
    let at = g.F.Files.at in
    let old = at c.args.files.now in
    let new = at c.search_told.new.files in
    let traced = told_to {Self = g.row.T.Denot} g.T.LogSink.tells g.T.LogSink.learnt c.args.trace.now c.search_told.new.trace in
    let asked = c.args.asked.now in
    let IsPicture = HasBegunPicture c.args.station.now.graph c.args.station.now.order asked (IsRunLog asked.log (between old new) traced) in
    leaves_weaker (NamedMay asked.log BeginsLog) (DrawMayLeave asked IsPicture) old.contents new.contents (λ name bytes log. inl log)
    c.search_told.ensures.leaves

pub returns-in_err-write_found-clause-leaves : goal.returns-in_err-write_found-clause-leaves
returns-in_err-write_found-clause-leaves g c =
    let at = g.F.Files.at in
    let traced = told_to {Self = g.row.T.Denot} g.T.LogSink.tells g.T.LogSink.learnt c.args.trace.now c.search_told.new.trace in
    leaves_pictured c.args.station.now.graph c.args.station.now.order c.args.asked.now (at c.args.files.now) (at c.search_told.new.files)
    (at c.write_found.new.files) traced c.in_ok-outcome.outcome c.asked.inside.svg.now
    (ap (λ (j : Job). j.svg) c.asked.view_is) c.requires.apart c.in_ok-outcome.ensures.searched c.search_told.ensures.leaves c.write_found.ensures.leaves

pub returns-in_err-sheet_reply-clause-leaves : goal.returns-in_err-sheet_reply-clause-leaves
returns-in_err-sheet_reply-clause-leaves g c =
    let at = g.F.Files.at in
    let traced = told_to {Self = g.row.T.Denot} g.T.LogSink.tells g.T.LogSink.learnt c.args.trace.now c.search_told.new.trace in
    leaves_pictured c.args.station.now.graph c.args.station.now.order c.args.asked.now (at c.args.files.now) (at c.search_told.new.files)
    (at c.write_found.new.files) traced c.in_ok-outcome.outcome c.asked.inside.svg.now
    (ap (λ (j : Job). j.svg) c.asked.view_is) c.requires.apart c.in_ok-outcome.ensures.searched c.search_told.ensures.leaves c.write_found.ensures.leaves

pub returns-clause-leaves : goal.returns-clause-leaves
returns-clause-leaves g c =
    let at = g.F.Files.at in
    let traced = told_to {Self = g.row.T.Denot} g.T.LogSink.tells g.T.LogSink.learnt c.args.trace.now c.search_told.new.trace in
    leaves_pictured c.args.station.now.graph c.args.station.now.order c.args.asked.now (at c.args.files.now) (at c.search_told.new.files)
    (at c.write_found.new.files) traced c.in_ok-outcome.outcome c.asked.inside.svg.now
    (ap (λ (j : Job). j.svg) c.asked.view_is) c.requires.apart c.in_ok-outcome.ensures.searched c.search_told.ensures.leaves c.write_found.ensures.leaves

pub returns-clause-answer : goal.returns-clause-answer
returns-clause-answer g c =
    let at = g.F.Files.at in
    let traced = told_to {Self = g.row.T.Denot} g.T.LogSink.tells g.T.LogSink.learnt c.args.trace.now c.search_told.new.trace in
    let old = at c.args.files.now in
    let mid = at c.search_told.new.files in
    let new = at c.write_found.new.files in
    let graph = c.args.station.now.graph in
    let asked = c.args.asked.now in
    let outcome = c.in_ok-outcome.outcome in
    let reply = c.in_ok-sheet_reply.ensures in
    let is_svg = ap (λ (j : Job). j.svg) c.asked.view_is in
    drawn_answer graph c.args.station.now.order asked old mid new traced outcome _ _ c.requires.apart c.in_ok-outcome.ensures.searched
    c.search_told.ensures.leaves
    (subst (λ (named : Option (List ℕ)). WhereTold mid.contents new.contents (LeftSo (NamedMay named (BeginsPicture graph (found_by outcome))))) is_svg
    c.write_found.ensures.leaves)
    (subst (λ (named : Option (List ℕ)). IsPictured named (between mid new) graph (found_by outcome)) is_svg c.in_ok-write_found.ensures.pictured) reply.read
    reply.short reply.status_is reply.spelled
