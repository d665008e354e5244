use Rattle.std.proofs.Common.{List, ℕ, ◌+◌, subst, inl, refl, arith}
use Rattle.run_input.specs.Input.{IsLong, IsShort}
use Rattle.run_input.specs.Answer.{input_file}
use Rattle.run_input.specs.Input.{IsOfFile}
use Rattle.run_input.specs.Reading.{IsInput}
use Rattle.run_input.proofs.AnswerLemmas.{input_of_front, long_of_front}
use Rattle.run_input.proofs.MetLemmas.{reads_none, reads_one}
use Rattle.run_input.proofs.reading.bytes_of.Goals as goal

pub returns-then-is_long-clause-refusal : goal.returns-then-is_long-clause-refusal
returns-then-is_long-clause-refusal g c =
    let contents = (g.F.Files.at c.args.files.now).contents in
    let bytes = c.read_front.new.into.items in
    let long : IsLong c.args.limit bytes = subst (IsLong c.args.limit) c.deref.ensures.value c.if-is_long.ensures in
    inl (
      subst (λ (name : List ℕ). IsOfFile (IsLong c.args.limit) name contents) c.as_str.ensures
          (long_of_front (input_file c.args.number c.as_str.result.now c.args.limit) contents c.new-bytes.result.items bytes (c.args.limit + 1)
          c.new-bytes.ensures.items c.in-Ok.ensures.ok long),
      c.in-Ok.ensures.reads_ok,
      refl,
    )

pub returns-in-Ok-clause-bytes : goal.returns-in-Ok-clause-bytes
returns-in-Ok-clause-bytes g c =
    let contents = (g.F.Files.at c.args.files.now).contents in
    let bytes = c.read_front.new.into.items in
    let short : IsShort c.args.limit bytes = subst (IsShort c.args.limit) c.deref.ensures.value c.if-is_long.ensures in
    subst (λ (name : List ℕ). IsInput (input_file c.args.number name c.args.limit) contents bytes) c.as_str.ensures
    (input_of_front (input_file c.args.number c.as_str.result.now c.args.limit) contents c.new-bytes.result.items bytes (c.args.limit + 1) (omega arith)
    c.new-bytes.ensures.items c.in-Ok.ensures.ok short)

pub returns-then-is_long-clause-reads_err : goal.returns-then-is_long-clause-reads_err
returns-then-is_long-clause-reads_err g c = reads_one _ _ c.in-Ok.ensures.reads_ok

pub returns-in-Err-Failed-clause-reads_err : goal.returns-in-Err-Failed-clause-reads_err
returns-in-Err-Failed-clause-reads_err g c = reads_none _ _ _ (λ h. absurd h) c.in-Err-Failed.ensures.reads_err

pub returns-clause-reads_err : goal.returns-clause-reads_err
returns-clause-reads_err g c = reads_none _ _ _ (λ h. absurd h) c.in-Err-Memory.ensures.reads_err
