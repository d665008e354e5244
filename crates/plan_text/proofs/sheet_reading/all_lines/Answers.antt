use Rattle.std.proofs.Common.{length, ◌+◌, [], ◌∷◌, ◌++◌, arith}
use Rattle.std.proofs.lemmas.Result.{MatchResult-weaker}
use Rattle.plan_write.specs.SheetLine.{EdgesLine}
use Rattle.plan_text.specs.SheetFaults.{EdgesDue}
use Rattle.plan_text.specs.SheetReading.{drawn_lines}
use Rattle.plan_text.proofs.ReadingLemmas.{fails, first_here, first_later, read_append}
use Rattle.plan_text.proofs.SheetAgain.{read_edges}
use Rattle.plan_text.proofs.sheet_reading.all_lines.Goals as goal

pub returns-in_err-rest : goal.returns-in_err-rest
returns-in_err-rest c =
    let n = c.nodes.ensures.value in
    let f = c.from.ensures in
    fails c.from_residual.result _ _ c.in_err-rest.field-0.0 c.from_residual.ensures.1
    (λ before. first_here c.args.g.now before (EdgesDue c.args.edition) c.args.text.now _ _ c.in_err-rest.field-0.0 (omega (arith, n, f))
    (c.in_err-rest.ensures c.args.edition before))

pub returns : goal.returns
returns c =
    let g = c.args.g.now in
    let count = EdgesLine (length g.edges) in
    MatchResult-weaker c.lines.result c.lines.ensures
    (λ p h. let same = h.0 in let few = h.1 in (
      h.0,
      omega (arith, same, few),
      λ before. read_append g before (EdgesDue c.args.edition) c.args.text.now
          c.in_ok-rest.rest.now p.1.now (count ∷ []) (drawn_lines c.args.edition g 0 p.0.items)
          (read_edges c.args.edition g before c.args.text.now c.in_ok-rest.rest.now c.in_ok-rest.ensures) (h.2 (before ++ count ∷ [])),
    ))
    (λ fault h before. first_later g before (EdgesDue c.args.edition) c.args.text.now c.in_ok-rest.rest.now (count ∷ []) (length g.nodes + 5)
    (length g.nodes + 6) fault (read_edges c.args.edition g before c.args.text.now c.in_ok-rest.rest.now c.in_ok-rest.ensures) (omega arith)
    (h (before ++ count ∷ [])))
