use Rattle.std.proofs.Common.{ℕ, List, refl, ◌∙◌, subst, inl, inr}
use Rattle.refute_log.specs.Log.{Derives}
use Rattle.run_input.specs.Input.{HasStation}
use Rattle.run_input.proofs.DerivesLemmas.{new_unchanged, tells_unchanged, tells_weaker}
use Rattle.run_draw_front.specs.Drawn.{IsLeftOfDraw}
use Rattle.run_draw_front.specs.Tried.{trial_job, TrialMayTell}
use Rattle.run_draw_front.proofs.trialling.trial.Goals as goal

pub returns-in_err-file-clause-derives : goal.returns-in_err-file-clause-derives
returns-in_err-file-clause-derives g c = new_unchanged (g.L.LogSink.tells c.args.log.now) (g.met.L.LogSink.one_reading c.args.log.now)

pub returns-in_err-fault_reply-in-Err-Fault-clause-derives : goal.returns-in_err-fault_reply-in-Err-Fault-clause-derives
returns-in_err-fault_reply-in-Err-Fault-clause-derives g c = new_unchanged (g.L.LogSink.tells c.args.log.now) (g.met.L.LogSink.one_reading c.args.log.now)

pub returns-in-Err-Fault-clause-derives : goal.returns-in-Err-Fault-clause-derives
returns-in-Err-Fault-clause-derives g c = new_unchanged (g.L.LogSink.tells c.args.log.now) (g.met.L.LogSink.one_reading c.args.log.now)

pub returns-clause-derives : goal.returns-clause-derives
returns-clause-derives g c = new_unchanged (g.L.LogSink.tells c.args.log.now) (g.met.L.LogSink.one_reading c.args.log.now)

pub returns-in-Ok-clause-derives : goal.returns-in-Ok-clause-derives
returns-in-Ok-clause-derives g c =
    let station = c.in-Ok.station in
    tells_weaker (IsLeftOfDraw trial_job station.graph station.order) Derives (g.L.LogSink.tells c.args.log.now) (g.L.LogSink.tells c.try_station.new.log)
    (λ lines left. left.derives) c.try_station.ensures.left

pub returns-in-Ok-clause-left : goal.returns-in-Ok-clause-left
returns-in-Ok-clause-left g c =
    let station = c.in-Ok.station in
    let has = subst (λ (bytes : List ℕ). HasStation bytes station.graph station.order) (c.deref.ensures.value ∙ c.in_ok-file.ensures.text)
    c.in-Ok.ensures.station in
    tells_weaker (IsLeftOfDraw trial_job station.graph station.order) (TrialMayTell c.args.n) (g.L.LogSink.tells c.args.log.now)
    (g.L.LogSink.tells c.try_station.new.log) (λ lines left. inr (station.graph, station.order, has, left)) c.try_station.ensures.left

pub returns-in_err-file-clause-left : goal.returns-in_err-file-clause-left
returns-in_err-file-clause-left g c =
    tells_unchanged (TrialMayTell c.args.n) (g.L.LogSink.tells c.args.log.now) (g.met.L.LogSink.one_reading c.args.log.now) (inl refl)

pub returns-in_err-fault_reply-in-Err-Fault-clause-left : goal.returns-in_err-fault_reply-in-Err-Fault-clause-left
returns-in_err-fault_reply-in-Err-Fault-clause-left g c =
    tells_unchanged (TrialMayTell c.args.n) (g.L.LogSink.tells c.args.log.now) (g.met.L.LogSink.one_reading c.args.log.now) (inl refl)

pub returns-in-Err-Fault-clause-left : goal.returns-in-Err-Fault-clause-left
returns-in-Err-Fault-clause-left g c =
    tells_unchanged (TrialMayTell c.args.n) (g.L.LogSink.tells c.args.log.now) (g.met.L.LogSink.one_reading c.args.log.now) (inl refl)

pub returns-clause-left : goal.returns-clause-left
returns-clause-left g c =
    tells_unchanged (TrialMayTell c.args.n) (g.L.LogSink.tells c.args.log.now) (g.met.L.LogSink.one_reading c.args.log.now) (inl refl)
