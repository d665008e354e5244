use Rattle.std.proofs.Common.{sym, ap, ◌∙◌}
use Rattle.std.specs.Str.{bytes_eq}
use Rattle.plan_words.proofs.WordLemmas.{option_found, option_absent}
use Rattle.plan_words.proofs.leftmost.has_option.Goals as goal

pub returns-then-eq : goal.returns-then-eq
returns-then-eq c =
    option_found c.args.arguments.now c.loop-argument.argument-index c.argument-item.result c.in-Setting.position c.in-Setting.word c.in-Setting.value
    c.args.option.now c.loop-argument-test.true c.argument-item.is c.in-Setting.is
    (ap (λ word. bytes_eq word c.args.option.now) (sym c.as_str.ensures) ∙ sym c.eq.ensures ∙ c.if-eq.true)

pub returns : goal.returns
returns c = option_absent c.args.arguments.now c.loop-argument.argument-index c.args.option.now c.loop-argument-test.false c.loop-argument.invariant
