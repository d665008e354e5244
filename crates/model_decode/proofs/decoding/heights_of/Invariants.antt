use Rattle.cnf_core.specs.Truths.{assignment}
use Rattle.edge_shape.specs.EdgeVars.{lits_of}
use Rattle.model_decode.proofs.DecodeLemmas.{HeightsTo}
use Rattle.model_decode.proofs.decoding.heights_of.Given as goal

abbrev pub invariant-loop-c : goal.invariant-loop-c
invariant-loop-c l = HeightsTo (assignment l.m) (lits_of l.vars).height l.heights.items l.c
