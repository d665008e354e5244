use Rattle.std.specs.Prelude.{IsOkAnd}
use Rattle.std.proofs.Common.{[], subst, length, inl, inr}
use Rattle.std.proofs.lemmas.Result.{IfOk-weaker}
use Rattle.plan_words.specs.declared.command.Command.{Command}
use Rattle.plan_words.specs.Arguments.{texts_of}
use Rattle.plan_words.proofs.AnswerLemmas.{command_same}
use Rattle.run_input.specs.Status.{IsAnswered}
use Rattle.run_input.specs.Met.{between, ReadsInputs}
use Rattle.schematic_main.specs.Commands.{inputs_of}
use Rattle.run_input.proofs.LeavesLemmas.{leaves_weaker}
use Rattle.schematic_main.proofs.AloneLemmas.{reply_alone}
use Rattle.schematic_main.proofs.ApartLemmas.{asked_apart, pair_apart}
use Rattle.run_input.proofs.DerivesLemmas.{new_unchanged}
use Rattle.schematic_main.proofs.running.reply_to.Goals as goal

pub answer_to-requires : goal.answer_to-requires
answer_to-requires g c = record {
  apart = asked_apart (texts_of c.args.words.now) c.in-Ok.command c.in-Ok.ensures.value;
  pair = pair_apart (texts_of c.args.words.now) c.in-Ok.command c.in-Ok.ensures.value;
}

pub returns-in-Ok-clause-answer : goal.returns-in-Ok-clause-answer
returns-in-Ok-clause-answer g c = IfOk-weaker c.answer_to.result _ _ (λ r owes. inl (c.in-Ok.command, c.in-Ok.ensures.value, owes)) c.answer_to.ensures.answer

pub returns-in-Ok-clause-reads : goal.returns-in-Ok-clause-reads
returns-in-Ok-clause-reads g c = λ command asked.
    let met = between (g.F.Files.at c.args.files.now) (g.F.Files.at c.answer_to.new.files) in
    subst (λ (found : Command). ReadsInputs (length (inputs_of found)) (IsOkAnd c.answer_to.result (λ r. IsAnswered r.status)) met)
    (command_same (texts_of c.args.words.now) c.in-Ok.command command c.in-Ok.ensures.value asked) c.answer_to.ensures.reads

pub returns-in-Ok-clause-unread : goal.returns-in-Ok-clause-unread
returns-in-Ok-clause-unread g c = λ nothing. c.answer_to.ensures.unread (nothing c.in-Ok.command c.in-Ok.ensures.value)

pub returns-in-Ok-clause-unwritten : goal.returns-in-Ok-clause-unwritten
returns-in-Ok-clause-unwritten g c = λ none.
    c.answer_to.ensures.unwritten (elim none [
      | inl ends ↦ inl (reply_alone (texts_of c.args.words.now) c.in-Ok.command c.answer_to.result c.in-Ok.ensures.value ends)
      | inr nothing ↦ inr (nothing c.in-Ok.command c.in-Ok.ensures.value)
    ])

pub returns-in-Ok-clause-leaves : goal.returns-in-Ok-clause-leaves
returns-in-Ok-clause-leaves g c =
    leaves_weaker _ _ (g.F.Files.at c.args.files.now).contents (g.F.Files.at c.answer_to.new.files).contents
    (λ name bytes may. (may.0, (c.in-Ok.command, c.in-Ok.ensures.value, may.1))) c.answer_to.ensures.leaves

pub returns-in-Ok-clause-cause : goal.returns-in-Ok-clause-cause
returns-in-Ok-clause-cause g c = λ cut. (c.in-Ok.command, c.in-Ok.ensures.value, c.answer_to.ensures.cause cut)

pub returns-in-Ok-clause-untold : goal.returns-in-Ok-clause-untold
returns-in-Ok-clause-untold g c = λ none. c.answer_to.ensures.untold (elim none [
  | inl refused ↦ inl refused
  | inr nothing ↦ inr
      (nothing c.in-Ok.command c.in-Ok.ensures.value)
])

pub returns-in_err-fault_reply-in-Err-Words-clause-derives : goal.returns-in_err-fault_reply-in-Err-Words-clause-derives
returns-in_err-fault_reply-in-Err-Words-clause-derives g c = new_unchanged (g.T.LogSink.tells c.args.trace.now) (g.met.T.LogSink.one_reading c.args.trace.now)

pub returns-in_ok-fault_reply-in-Err-Words-clause-derives : goal.returns-in_ok-fault_reply-in-Err-Words-clause-derives
returns-in_ok-fault_reply-in-Err-Words-clause-derives g c = new_unchanged (g.T.LogSink.tells c.args.trace.now) (g.met.T.LogSink.one_reading c.args.trace.now)

pub returns-in-Err-Memory-clause-derives : goal.returns-in-Err-Memory-clause-derives
returns-in-Err-Memory-clause-derives g c = new_unchanged (g.T.LogSink.tells c.args.trace.now) (g.met.T.LogSink.one_reading c.args.trace.now)

pub returns-in-Ok-clause-begins : goal.returns-in-Ok-clause-begins
returns-in-Ok-clause-begins g c = λ none lines is. inr (c.in-Ok.command, c.in-Ok.ensures.value, c.answer_to.ensures.begins none lines is)

pub returns-in_err-fault_reply-in-Err-Words-clause-begins : goal.returns-in_err-fault_reply-in-Err-Words-clause-begins
returns-in_err-fault_reply-in-Err-Words-clause-begins g c = λ none lines is. inl (g.met.T.LogSink.one_reading c.args.trace.now lines [] is none)

pub returns-in_ok-fault_reply-in-Err-Words-clause-begins : goal.returns-in_ok-fault_reply-in-Err-Words-clause-begins
returns-in_ok-fault_reply-in-Err-Words-clause-begins g c = λ none lines is. inl (g.met.T.LogSink.one_reading c.args.trace.now lines [] is none)

pub returns-in-Err-Memory-clause-begins : goal.returns-in-Err-Memory-clause-begins
returns-in-Err-Memory-clause-begins g c = λ none lines is. inl (g.met.T.LogSink.one_reading c.args.trace.now lines [] is none)
