use Rattle.std.proofs.Common.{length, ap, sym, subst, ◌∙◌, arith}
use Rattle.std.proofs.lemmas.List.{length-map}
use Rattle.std.specs.Prelude.{string_bytes}
use Rattle.plan_words.specs.declared.arguments.Argument.{Argument}
use Rattle.plan_words.specs.Arguments.{texts_of}
use Rattle.plan_words.specs.Soundness.{StandFrom}
use Rattle.plan_words.proofs.ArgumentLemmas.{words_few}
use Rattle.plan_words.proofs.PlaceLemmas.{arguments_stand}
use Rattle.plan_words.proofs.reading.read_arguments.Goals as goal

pub fault_that_counts-requires-clause-stand : goal.fault_that_counts-requires-clause-stand
fault_that_counts-requires-clause-stand c = subst (StandFrom 2) (sym (c.deref.ensures.value ∙ c.in_ok-arguments.ensures)) (arguments_stand 2
    (texts_of c.args.words.now))

pub fault_that_counts-requires-clause-near : goal.fault_that_counts-requires-clause-near
fault_that_counts-requires-clause-near c =
    let few = words_few 2 (texts_of c.args.words.now) in
    let n = length-map c.args.words.now string_bytes in
    let cut = ap (length {A = Argument}) (c.deref.ensures.value ∙ c.in_ok-arguments.ensures) in
    omega (arith, few, n, cut)
