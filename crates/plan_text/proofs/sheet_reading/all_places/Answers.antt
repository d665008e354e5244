use Rattle.std.proofs.Common.{length, [], ◌∷◌, ◌++◌, refl}
use Rattle.std.proofs.lemmas.Result.{MatchResult-weaker}
use Rattle.plan_write.specs.SheetLine.{NodesLine}
use Rattle.plan_text.specs.SheetFaults.{BodyDue}
use Rattle.std.proofs.Common.{true}
use Rattle.plan_text.specs.SheetReading.{placed_lines}
use Rattle.plan_text.proofs.ReadingLemmas.{fails, first_here, first_later, read_append}
use Rattle.plan_text.proofs.SheetAgain.{read_nodes}
use Rattle.plan_text.proofs.sheet_reading.all_places.Goals as goal

pub returns-in_err-rest : goal.returns-in_err-rest
returns-in_err-rest c =
    fails c.from_residual.result _ _ c.in_err-rest.field-0.0 c.from_residual.ensures.1
    (λ before. first_here c.args.g.now before (BodyDue c.args.edition true) c.args.text.now 4 4 c.in_err-rest.field-0.0 refl
    (c.in_err-rest.ensures c.args.edition before))

pub returns : goal.returns
returns c =
    let g = c.args.g.now in
    let count = NodesLine (length g.nodes) in
    MatchResult-weaker c.places.result c.places.ensures
    (λ p h. (
      h.0,
      h.1,
      λ before. read_append g before (BodyDue c.args.edition true) c.args.text.now c.in_ok-rest.rest.now p.1.now (count ∷ [])
          (placed_lines c.args.edition g 0 p.0.items) (read_nodes c.args.edition g before c.args.text.now c.in_ok-rest.rest.now c.in_ok-rest.ensures)
          (h.2 (before ++ count ∷ [])),
    ))
    (λ fault h before. first_later g before (BodyDue c.args.edition true) c.args.text.now c.in_ok-rest.rest.now (count ∷ []) 4 5 fault
    (read_nodes c.args.edition g before c.args.text.now c.in_ok-rest.rest.now c.in_ok-rest.ensures) refl (h (before ++ count ∷ [])))
