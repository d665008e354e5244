use Rattle.std.proofs.Common.{◌≡◌, ℕ, List, take}
use Rattle.std.specs.Prelude.{is_some, map}
use Rattle.std.specs.Ordering.{nat_cmp}
use Rattle.std.specs.Cmp.Lexicographic.{slice_cmp}
use Rattle.std.specs.BTreeMap as tree
use Rattle.railml_text.specs.Faults.{HasRepeat}
use Rattle.railml_text.specs.Reading.{written_of}
use Rattle.railml_text.proofs.AttrLemmas.{has_name}
use Rattle.railml_text.proofs.repeats.has_repeat_of_many.Given as goal

abbrev pub invariant-loop-attr : goal.invariant-loop-attr
invariant-loop-attr l = record {
  seen : (name : List ℕ) → is_some (tree.get_by (λ k. slice_cmp nat_cmp name k.now) l.seen) ≡ has_name name (take l.attr-index l.attrs);
  none : ¬ (HasRepeat (map written_of (take l.attr-index l.attrs)));
}
