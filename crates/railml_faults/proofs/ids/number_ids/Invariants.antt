use Rattle.railml_faults.specs.Ids.{KeepsIds}
use Rattle.railml_faults.proofs.IdLemmas.{FirstRepeated}
use Rattle.railml_faults.proofs.ids.number_ids.Given as goal

abbrev pub invariant-loop-i : goal.invariant-loop-i
invariant-loop-i l = record {
  kept : KeepsIds l.rows l.i l.numbers;
  first : FirstRepeated l.rows l.i l.repeated;
}
