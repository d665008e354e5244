use Rattle.std.proofs.Common.{◌≡◌, drop}
use Rattle.std.specs.List.{list_any}
use Rattle.std.specs.Str.{bytes_eq}
use Rattle.plan_words.specs.Arguments.{options_in}
use Rattle.plan_words.proofs.leftmost.has_option.Given as goal

abbrev pub invariant-loop-argument : goal.invariant-loop-argument
invariant-loop-argument l = list_any (λ word. bytes_eq word l.option) (options_in (drop l.argument-index l.arguments)) ≡ list_any
    (λ word. bytes_eq word l.option) (options_in l.arguments)
