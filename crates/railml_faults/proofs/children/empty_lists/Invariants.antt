use Rattle.std.proofs.Common.{◌≡◌, ℕ, [], Some, slice_get, vec_len}
use Rattle.railml_faults.proofs.children.empty_lists.Given as goal

abbrev pub invariant-loop : goal.invariant-loop
invariant-loop l = record {
  counted : vec_len l.table ≡ l.counter;
  empty : (i : ℕ) (list : _) → slice_get l.table.items i ≡ Some list → list.items ≡ [];
}
