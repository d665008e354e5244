use Rattle.std.proofs.Common.{inr, refl, arith}
use Rattle.plan_words.proofs.SoundLemmas.{few_arguments, sound_have_no_fault, all_near}
use Rattle.plan_words.proofs.judging.fault_that_counts.Goals as goal

pub overflow_cast-result : goal.overflow_cast-result
overflow_cast-result c =
    let few = few_arguments c.args.command c.args.arguments.now c.in_default.ensures in
    let near = c.requires.near in
    omega (arith, few, near)

pub returns-then-count_names-name_count-clause-fault : goal.returns-then-count_names-name_count-clause-fault
returns-then-count_names-name_count-clause-fault c = record {
  sound = sound_have_no_fault c.args.command c.args.arguments.now c.in_default.ensures;
  few = omega (arith, c.count_names.ensures, c.name_count.ensures);
  place = refl;
}

pub repeated_file-requires : goal.repeated_file-requires
repeated_file-requires c = all_near c.args.command c.args.arguments.now c.in_default.ensures c.requires.stand

pub returns-in-Some-2-clause-fault : goal.returns-in-Some-2-clause-fault
returns-in-Some-2-clause-fault c =
    inr (record {
      sound = sound_have_no_fault c.args.command c.args.arguments.now c.in_default.ensures;
      enough = omega (arith, c.count_names.ensures, c.name_count.ensures);
      repeat = rw c.in-Some-2.is at c.in_ok-position.ensures;
    })

pub returns-in-None-clause-fault : goal.returns-in-None-clause-fault
returns-in-None-clause-fault c = record {
  sound = sound_have_no_fault c.args.command c.args.arguments.now c.in_default.ensures;
  enough = omega (arith, c.count_names.ensures, c.name_count.ensures);
  apart = rw c.in-None.is at c.in_ok-position.ensures;
}
