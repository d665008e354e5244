use Rattle.std.proofs.Common.{◌≡◌, ◌⊎◌, inl, inr, length}
use Rattle.std.specs.Prelude.{flat_map}
use Rattle.std.specs.declared.option.Option.{Option}
use Rattle.plan_core.specs.declared.criterion.Values.{Values}
use Rattle.plan_core.specs.Graph.{Graph}
use Rattle.plan_core.specs.Values.{limit_of}
use Rattle.track_order.specs.Order.{EdgeOrder}
use Rattle.cnf_core.specs.declared.limits.TheConstants.{ROOM}
use Rattle.refute_log.specs.Told.{Lines}
use Rattle.refute_log.specs.Log.{learnt, Open}
use Rattle.refute_log.specs.Full.{IsFullLog}
use Rattle.search_least.specs.declared.outcome.Outcome.{Outcome}
use Rattle.search_least.specs.declared.outcome.Outcome.TheVariants as outcomes
use Rattle.search_least.specs.Outcome.{IsOutcome, values_found}
use Rattle.search_least.proofs.FinalLemmas.{full_from, count_from, open_from}
use Rattle.drawing_cnf.specs.Layout.{layout, problem_of}
use Rattle.run_input.specs.declared.status.Status.TheVariants.{Unfinished}
use Rattle.run_draw_front.specs.Drawn.{Job, search_of, status_of}
use Rattle.run_draw_front.proofs.laws.how_searches_end.Goals as goal

pub returns-clause-full : goal.returns-clause-full
returns-clause-full c = λ g o asked lines found s ended. full_from (search_of g o asked) asked.order s found lines ended

unfinished : (g : Graph) (o : EdgeOrder) (asked : Job) (outcome : Outcome) (lines : Lines) → IsOutcome (search_of g o asked) asked.order outcome lines →
    status_of outcome ≡ Unfinished →
    ((length (flat_map learnt lines) ≡ asked.budget) × Open lines)
    ⊎ ((found : Option Values) × IsFullLog (problem_of (layout g o asked.grid)) (limit_of g asked.grid) asked.order lines found ROOM)
unfinished g o asked (outcomes.Best d) lines ended is = absurd (cc)
unfinished g o asked outcomes.NoDrawing lines ended is = absurd (cc)
unfinished g o asked (outcomes.Spent found s) lines ended is =
    inl (count_from (search_of g o asked) asked.order s found lines ended, open_from (search_of g o asked) asked.order s found lines ended)
unfinished g o asked (outcomes.Room found s) lines ended is = inr (values_found found, full_from (search_of g o asked) asked.order s found lines ended)

pub returns-clause-unfinished : goal.returns-clause-unfinished
returns-clause-unfinished c = unfinished
