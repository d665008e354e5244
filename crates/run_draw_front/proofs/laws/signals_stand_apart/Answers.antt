use Rattle.std.proofs.Common.{refl}
use Rattle.plan_objects.specs.Rows.{station}
use Rattle.plan_objects.proofs.ExactLemmas.{edges_there}
use Rattle.run_draw_front.specs.Signalled.{job_for}
use Rattle.run_draw_front.specs.Drawn.{found_by}
use Rattle.run_draw_front.proofs.SignalledLemmas.{least_is_need, found_has_room, apart}
use Rattle.run_draw_front.proofs.laws.signals_stand_apart.Goals as goal

pub returns : goal.returns
returns c = λ bytes g o signals places has asked outcome lines ended.
    let found = has.has_signals in
    let longer = job_for places asked in
    let there = edges_there (station found.rows found.topology g) signals places found.beside.built found.placed.are in
    apart places (found_by outcome) (found_has_room g o longer places outcome lines ended (least_is_need places longer refl) there)
