-- How a whole run of redraw ends.
use Rattle.std.proofs.Common.{◌≡◌, ◌≢◌, ℕ, List, None, inl, inr, lit<}
use Rattle.std.specs.Prelude.{⊤}
use Rattle.std.specs.declared.option.Option.{Option}
use Rattle.plan_core.specs.Grid.{GridSize}
use Rattle.plan_core.specs.Graph.{Graph}
use Rattle.track_order.specs.Order.{EdgeOrder}
use Rattle.plan_words.specs.declared.command.Command.TheVariants.{Redraw}
use Rattle.refute_log.specs.Told.{Lines}
use Rattle.drawing_cnf.specs.Moved.{Former}
use Rattle.search_least.specs.declared.fewest.Fewest.{Fewest}
use Rattle.search_least.specs.declared.fewest.Fewest.TheVariants as fewest
use Rattle.search_least.specs.Fewest.{IsRightFewest}
use Rattle.run_input.specs.declared.status.Status.{Status}
use Rattle.run_input.specs.Met.{Met}
use Rattle.run_input.specs.Answer.{text_input, IsAnswerAfter, IsAnswerOn}
use Rattle.run_input.specs.SearchLog.{IsRunLog}
use Rattle.run_explain_redraw.specs.Redrawn.{RedrawJob, redraw_job, moved_in, status_of_moved}
use Rattle.run_explain_redraw.specs.Judged.{IsFormerJudged, AreJudged, HaveFormer}
use Rattle.run_explain_redraw.specs.Answer.{HaveFormerIn}
use Rattle.run_explain_redraw.proofs.JudgedLemmas.{former_or_fault}
use Rattle.schematic_main.specs.Commands.{Owes}
use Rattle.schematic_main.specs.Run.{FailsIn}
use Rattle.schematic_main.specs.SearchedRuns.{EndsExactly}
use Rattle.schematic_main.proofs.CertifiedRuns.{bytes_answered}
use Rattle.schematic_main.proofs.SoLemmas.{Redrawn}
use Rattle.schematic_main.proofs.SearchEnds.{ends_found, ends_without, ends_open, answered_at}

fewest_ends : (g : Graph) (o : EdgeOrder) (asked : RedrawJob) (points : Former) (outcome : Fewest) (status : Status) →
    IsRightFewest (moved_in g o asked points) outcome → status ≡ status_of_moved outcome → EndsExactly g o asked.grid status
fewest_ends g o asked points (fewest.Best d) status right is = ends_found g o asked.grid status is (d, right.0)
fewest_ends g o asked points fewest.NoDrawing status right is = ends_without g o asked.grid status is right
fewest_ends g o asked points (fewest.Spent found) status right is = ends_open g o asked.grid status is
fewest_ends g o asked points (fewest.Room found) status right is = ends_open g o asked.grid status is

redrawn_ends : (bytes old said : List ℕ) (asked : RedrawJob) (told : Lines → Type 0) (g : Graph) (o : EdgeOrder) (points : Former) (status : Status)
    (text : List ℕ) → HaveFormer bytes old said g o points →
    IsFormerJudged (Redrawn asked told g o) g old said status text → EndsExactly g o asked.grid status
redrawn_ends bytes old said asked told g o points status text have (inl (h, q, has, inl (given, gives, redrawn))) = fewest_ends g o asked given redrawn.outcome
    status redrawn.searched.right redrawn.status_is
redrawn_ends bytes old said asked told g o points status text have (inl (h, q, has, inr refused)) =
    absurd (former_or_fault bytes old said g o points status text have (inl (g, o, have.has_station, inl (h, q, has, inr refused))))
redrawn_ends bytes old said asked told g o points status text have (inr refused) = absurd
    (former_or_fault bytes old said g o points status text have (inl (g, o, have.has_station, inr refused)))

pub redrawn_run : (input former sheet : List ℕ) (grid : GridSize) (budget : ℕ) (log : Option (List ℕ)) (met : Met) (g : Graph) (o : EdgeOrder) (points : Former)
    (status : Status) (text : List ℕ) → met.before.contents ≢ None →
    HaveFormerIn input former sheet met.before.contents g o points → (FailsIn (Redraw input former sheet grid budget log) met → ⊥) →
    Owes (Redraw input former sheet grid budget log) met (λ lines. ⊤) status text →
    EndsExactly g o grid status
redrawn_run input former sheet grid budget log met g o points status text told have read owes =
    let asked = redraw_job grid budget log in
    let R = Redrawn asked (IsRunLog log met (λ lines. ⊤)) in
    let ins = have.inputs in
    let first =
    bytes_answered (text_input 1 input) 0 met have.bytes (λ bytes. IsAnswerOn (text_input 2 former) 1 met
    (λ old. IsAnswerOn (text_input 3 sheet) 2 met (IsAnswerAfter 3 met (AreJudged R bytes old)))) status text told ins.is_first.is_file ins.is_first.short
    (λ fails. read (0, lit< tt, fails)) owes in
    let second =
    bytes_answered (text_input 2 former) 1 met have.old (λ old. IsAnswerOn (text_input 3 sheet) 2 met (IsAnswerAfter 3 met (AreJudged R have.bytes old))) status
    text told ins.is_second.is_file ins.is_second.short (λ fails. read (1, lit< tt, fails)) first in
    let third = bytes_answered (text_input 3 sheet) 2 met have.said (IsAnswerAfter 3 met (AreJudged R have.bytes have.old)) status text
    told ins.is_third.is_file ins.is_third.short (λ fails. read (2, lit< tt, fails)) second in
    redrawn_ends have.bytes have.old have.said asked (IsRunLog log met (λ lines. ⊤)) g o points status text have.have
    (answered_at (λ x y. IsFormerJudged (R x y) x have.old have.said) have.bytes g o status text have.have.has_station third.1)
