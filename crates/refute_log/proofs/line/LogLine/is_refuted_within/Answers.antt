use Rattle.refute_log.proofs.ListLemmas.{refuted_tells}
use Rattle.refute_log.proofs.line.LogLine.is_refuted_within.Goals as goal

pub returns-in-Refuted : goal.returns-in-Refuted
returns-in-Refuted c = refuted_tells c.are_among.result c.args.allowed.now c.as_slice.result.now c.in-Refuted.c c.args.self.now c.as_slice.ensures.value
    c.in-Refuted.is c.are_among.ensures.yes c.are_among.ensures.no
