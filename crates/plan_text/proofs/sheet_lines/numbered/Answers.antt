use Rattle.std.proofs.Common.{map}
use Rattle.std.specs.Fmt.{decimal}
use Rattle.plan_text.proofs.FormLemmas.{option_both, fields_behind, line_behind}
use Rattle.plan_text.proofs.sheet_lines.numbered.Goals as goal

pub returns : goal.returns
returns c =
    let text = c.args.text.now in
    let front = c.args.front.now in
    let behind = c.in_ok-behind.field-0.now in
    option_both c.numbers.result _ _ _ _
    (λ none ns rest small few e. none ns rest small few (fields_behind text front behind (map decimal ns) rest c.in_ok-behind.ensures e))
    (λ p h. (h.0, line_behind text front behind (map decimal p.0.items) p.1.now c.in_ok-behind.ensures h.1))
    c.numbers.ensures
