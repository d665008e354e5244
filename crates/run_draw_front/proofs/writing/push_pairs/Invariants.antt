use Rattle.std.specs.Prelude.{◌≡◌, ◌++◌, flat_map, take}
use Rattle.run_draw_front.specs.FrontText.{pair_line}
use Rattle.run_draw_front.proofs.writing.push_pairs.Given as goal

abbrev pub invariant-loop-i : goal.invariant-loop-i
invariant-loop-i l = l.into.items ≡ l.fn.into.items ++ flat_map pair_line (take l.i l.pairs)
