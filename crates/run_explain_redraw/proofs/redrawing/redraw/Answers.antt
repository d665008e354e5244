use Rattle.std.proofs.Common.{refl, ◌∙◌, arith, inl}
use Rattle.std.specs.Prelude.{IsOkAnd}
use Rattle.std.specs.declared.option.Option.{Option}
use Rattle.std.proofs.lemmas.Result.{IfOk-weaker}
use Rattle.outside_io.specs.Contents.{WhereTold}
use Rattle.refute_log.specs.FileLog.{BeginsLog}
use Rattle.refute_log.specs.ToldTo.{told_to}
use Rattle.refute_log.specs.Log.{Derives}
use Rattle.run_input.specs.Status.{IsRefused}
use Rattle.run_input.specs.Met.{between, LeftSo}
use Rattle.run_input.proofs.LeavesLemmas.{NamedMay}
use Rattle.run_explain_redraw.specs.Answer.{HasReadFormer, RedrawMayTell}
use Rattle.run_explain_redraw.specs.Redrawn.{IsLeftOfRedraw}
use Rattle.run_explain_redraw.proofs.RedrawnLemmas.{redrawn_on, rejected_on, redraw_leaves, redraw_unwritten, redraw_untold, redraw_tells}
use Rattle.run_input.proofs.DerivesLemmas.{new_unchanged, tells_unchanged, tells_weaker}
use Rattle.run_explain_redraw.proofs.redrawing.redraw.Goals as goal

pub redraw_known-requires : goal.redraw_known-requires
redraw_known-requires g c = let have = c.in-Ok.ensures.have in record { order = have.have.has_station.order; same = have.have.gives.are_former.same }

pub returns-in-Ok-clause-answer : goal.returns-in-Ok-clause-answer
returns-in-Ok-clause-answer g c =
    let at = g.F.Files.at in
    let traced = told_to {Self = g.row.T.Denot} g.T.LogSink.tells g.T.LogSink.learnt c.args.trace.now c.redraw_known.new.trace in
    let known = c.in-Ok.known in
    IfOk-weaker c.redraw_known.result _ _ (λ r answer.
    redrawn_on c.args.input.now c.args.former.now c.args.sheet.now c.args.asked.now (at c.args.files.now) (at c.known_of.new.files)
    (at c.redraw_known.new.files) traced known.station.graph known.station.order known.former.items
    r.status r.text.items c.in-Ok.ensures.have c.in-Ok.ensures.same (c.redraw_known.ensures.reads ∙ c.in-Ok.ensures.reads) answer)
    c.redraw_known.ensures.answer

pub returns-in-Ok-clause-reads : goal.returns-in-Ok-clause-reads
returns-in-Ok-clause-reads g c = record { number = 3; within = omega arith; once = c.redraw_known.ensures.reads ∙ c.in-Ok.ensures.reads; all = λ _. refl }

pub returns-in-Ok-clause-leaves : goal.returns-in-Ok-clause-leaves
returns-in-Ok-clause-leaves g c =
    let at = g.F.Files.at in
    let old = at c.args.files.now in
    let mid = at c.known_of.new.files in
    let new = at c.redraw_known.new.files in
    let known = c.in-Ok.known in
    let Refused : Type 0 = IsOkAnd c.redraw_known.result (λ r. IsRefused r.status) in
    let has : HasReadFormer c.args.input.now c.args.former.now c.args.sheet.now (between old new) = record {
      read = c.redraw_known.ensures.reads ∙ c.in-Ok.ensures.reads;
      graph = known.station.graph;
      order = known.station.order;
      points = known.former.items;
      have = c.in-Ok.ensures.have;
    } in
    redraw_leaves c.args.input.now c.args.former.now c.args.sheet.now c.args.asked.now old mid new Refused has c.in-Ok.ensures.same
    c.redraw_known.ensures.unrefused c.redraw_known.ensures.leaves

pub returns-in-Ok-clause-unwritten : goal.returns-in-Ok-clause-unwritten
returns-in-Ok-clause-unwritten g c =
    let at = g.F.Files.at in
    let old = at c.args.files.now in
    let mid = at c.known_of.new.files in
    let new = at c.redraw_known.new.files in
    let known = c.in-Ok.known in
    let Refused : Type 0 = IsOkAnd c.redraw_known.result (λ r. IsRefused r.status) in
    let has : HasReadFormer c.args.input.now c.args.former.now c.args.sheet.now (between old new) = record {
      read = c.redraw_known.ensures.reads ∙ c.in-Ok.ensures.reads;
      graph = known.station.graph;
      order = known.station.order;
      points = known.former.items;
      have = c.in-Ok.ensures.have;
    } in
    redraw_unwritten c.args.asked.now.log c.args.input.now c.args.former.now c.args.sheet.now old mid new Refused has c.redraw_known.ensures.unrefused
    c.in-Ok.ensures.unwritten c.redraw_known.ensures.unwritten

pub returns-in-Ok-clause-untold : goal.returns-in-Ok-clause-untold
returns-in-Ok-clause-untold g c =
    let at = g.F.Files.at in
    let old = at c.args.files.now in
    let new = at c.redraw_known.new.files in
    let known = c.in-Ok.known in
    let Refused : Type 0 = IsOkAnd c.redraw_known.result (λ r. IsRefused r.status) in
    let has : HasReadFormer c.args.input.now c.args.former.now c.args.sheet.now (between old new) = record {
      read = c.redraw_known.ensures.reads ∙ c.in-Ok.ensures.reads;
      graph = known.station.graph;
      order = known.station.order;
      points = known.former.items;
      have = c.in-Ok.ensures.have;
    } in
    redraw_untold c.args.asked.now.log c.args.input.now c.args.former.now c.args.sheet.now old new Refused c.args.trace.now c.redraw_known.new.trace has
    c.redraw_known.ensures.unrefused c.redraw_known.ensures.untold

pub returns-in-Err-With-clause-answer : goal.returns-in-Err-With-clause-answer
returns-in-Err-With-clause-answer g c =
    let met = between (g.F.Files.at c.args.files.now) (g.F.Files.at c.known_of.new.files) in
    let traced = told_to {Self = g.row.T.Denot} g.T.LogSink.tells g.T.LogSink.learnt c.args.trace.now c.args.trace.now in
    let reply = c.in-Err-With.reply in
    let told =
    rejected_on c.args.input.now c.args.former.now c.args.sheet.now c.args.asked.now met traced reply.status reply.text.items
    (rw c.in-Err-With.field-0-is at c.in-Err-With.ensures.rejected) in
    rw (c.in-Err-With.field-0-is) told

pub returns-in-Err-With-clause-derives : goal.returns-in-Err-With-clause-derives
returns-in-Err-With-clause-derives g c = new_unchanged (g.T.LogSink.tells c.args.trace.now) (g.met.T.LogSink.one_reading c.args.trace.now)

pub returns-in-Err-Memory-clause-derives : goal.returns-in-Err-Memory-clause-derives
returns-in-Err-Memory-clause-derives g c = new_unchanged (g.T.LogSink.tells c.args.trace.now) (g.met.T.LogSink.one_reading c.args.trace.now)

pub returns-in-Ok-clause-derives : goal.returns-in-Ok-clause-derives
returns-in-Ok-clause-derives g c =
    let known = c.in-Ok.known in
    tells_weaker (IsLeftOfRedraw c.args.asked.now known.station.graph known.station.order known.former.items) Derives
    (g.T.LogSink.tells c.args.trace.now) (g.T.LogSink.tells c.redraw_known.new.trace) (λ lines left. left.derives) c.redraw_known.ensures.left

pub returns-in-Ok-clause-left : goal.returns-in-Ok-clause-left
returns-in-Ok-clause-left g c =
    let at = g.F.Files.at in
    let old = at c.args.files.now in
    let new = at c.redraw_known.new.files in
    let known = c.in-Ok.known in
    let has : HasReadFormer c.args.input.now c.args.former.now c.args.sheet.now (between old new) = record {
      read = c.redraw_known.ensures.reads ∙ c.in-Ok.ensures.reads;
      graph = known.station.graph;
      order = known.station.order;
      points = known.former.items;
      have = c.in-Ok.ensures.have;
    } in
    redraw_tells c.args.input.now c.args.former.now c.args.sheet.now c.args.asked.now (between old new) has (g.T.LogSink.tells c.args.trace.now)
    (g.T.LogSink.tells c.redraw_known.new.trace) c.redraw_known.ensures.left

pub returns-in-Err-With-clause-left : goal.returns-in-Err-With-clause-left
returns-in-Err-With-clause-left g c =
    let met = between (g.F.Files.at c.args.files.now) (g.F.Files.at c.known_of.new.files) in
    tells_unchanged (RedrawMayTell c.args.input.now c.args.former.now c.args.sheet.now c.args.asked.now met) (g.T.LogSink.tells c.args.trace.now)
    (g.met.T.LogSink.one_reading c.args.trace.now) (inl refl)

pub returns-in-Err-Memory-clause-left : goal.returns-in-Err-Memory-clause-left
returns-in-Err-Memory-clause-left g c =
    let met = between (g.F.Files.at c.args.files.now) (g.F.Files.at c.known_of.new.files) in
    tells_unchanged (RedrawMayTell c.args.input.now c.args.former.now c.args.sheet.now c.args.asked.now met) (g.T.LogSink.tells c.args.trace.now)
    (g.met.T.LogSink.one_reading c.args.trace.now) (inl refl)
