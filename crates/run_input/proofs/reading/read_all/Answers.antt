use Rattle.std.proofs.Common.{rules, arith}
use Rattle.outside_io.proofs.Results.{on_err_anyway}
use Rattle.run_input.specs.Answer.{input_file}
use Rattle.run_input.proofs.AnswerLemmas.{IsRead}
use Rattle.run_input.proofs.MetLemmas.{reads_more, reads_some}
use Rattle.run_input.proofs.ThreeFilesLemmas.{third_unread}
use Rattle.run_input.proofs.reading.read_all.Goals as goal

pub returns-in_err-next-clause-reads_err : goal.returns-in_err-next-clause-reads_err
returns-in_err-next-clause-reads_err g c =
    let at = g.F.Files.at in
    on_err_anyway c.from_residual-in_err-next.result _
    (reads_some 2 3 _ _ (omega arith) (λ h. h) (reads_more 1 _ (at c.args.files.now) (at c.bytes_of.new.files) (at c.bytes_of-2.new.files)
    c.in_ok-bytes.ensures.reads c.in_err-next.ensures.reads_err))

pub returns-in_err-last-clause-refusal : goal.returns-in_err-last-clause-refusal
returns-in_err-last-clause-refusal g c =
    let at = g.F.Files.at in
    let old = at c.args.files.now in
    let mid = at c.bytes_of.new.files in
    let late = at c.bytes_of-2.new.files in
    let new = at c.bytes_of-3.new.files in
    let read : IsRead old mid = record { same = c.in_ok-bytes.ensures.same; later = c.in_ok-bytes.ensures.later; one = c.in_ok-bytes.ensures.reads } in
    let again : IsRead mid late = record { same = c.in_ok-next.ensures.same; later = c.in_ok-next.ensures.later; one = c.in_ok-next.ensures.reads } in
    let unread =
    third_unread c.args.input.now c.args.second.now (input_file 3 c.args.third.now c.args.limit) c.in_ok-bytes.bytes.items c.in_ok-next.next.items old mid late
    new c.in_err-last.field-0.0 c.in_ok-bytes.ensures.bytes c.in_ok-next.ensures.bytes read again c.in_err-last.ensures.refusal in
    search (rules, unread)

pub returns-in_err-last-clause-reads_err : goal.returns-in_err-last-clause-reads_err
returns-in_err-last-clause-reads_err g c =
    let at = g.F.Files.at in
    let old = at c.args.files.now in
    let mid = at c.bytes_of.new.files in
    let late = at c.bytes_of-2.new.files in
    let new = at c.bytes_of-3.new.files in
    on_err_anyway c.from_residual-in_err-last.result _ (reads_more 2 _ old mid new c.in_ok-bytes.ensures.reads
    (reads_more 1 _ mid late new c.in_ok-next.ensures.reads c.in_err-last.ensures.reads_err))
