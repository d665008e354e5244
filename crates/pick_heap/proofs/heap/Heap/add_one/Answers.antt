use Rattle.std.proofs.Common.{rules, arith, ◌≡◌, ◌∙◌, ◌≤◌, ◌<◌, ◌+◌, length, drop, sym, subst, vec_len}
use Rattle.std.proofs.lemmas.List.{take_at, get_or_default}
use Rattle.std.specs.Vec.{with_items}
use Rattle.pick_heap.specs.declared.heap.TheConstants.{HALVED_AT}
use Rattle.pick_heap.specs.Heap.{Ranked, ranked_of, activity}
use Rattle.pick_heap.specs.Tree.{entry_at, leaf_word}
use Rattle.pick_heap.proofs.HeapLemmas.{mid_won, heap_raised_at}
use Rattle.pick_heap.proofs.heap.Heap.add_one.Goals as goal

pub set_leaf-requires-2-clause-won : goal.set_leaf-requires-2-clause-won
set_leaf-requires-2-clause-won c =
    let to : c.args.v ≤ c.self.inside.vars = subst (λ (h : Ranked). c.args.v ≤ h.vars) (sym c.self.view_is) c.requires.to in
    let same : length c.set_leaf.new.tree ≡ length c.deref_mut.result.now = c.set_leaf.auto.tree in
    let len : length c.deref_mut.result.now ≡ vec_len c.self.inside.tree = search rules in
    let tree = with_items c.self.inside.tree c.set_leaf.new.tree in
    let items : tree.items ≡ c.set_leaf.new.tree = take_at c.set_leaf.new.tree (drop (length c.set_leaf.new.tree) c.self.inside.tree.items)
    (vec_len c.self.inside.tree) (same ∙ len) in
    mid_won c.self.inside.vars c.self.inside.leaves c.self.inside.held.items c.self.inside.activities.items c.self.inside.tree.items c.deref-2.result.now
    c.deref_mut.result.now c.set_leaf.new.tree c.args.v c.self.invariant c.deref-2.ensures.value c.deref_mut.ensures.value c.requires.from to same
    c.set_leaf.ensures.won c.set_leaf.ensures.leaf c.set_leaf.ensures.others
    (c.index_mut.result.now + 1) c.deref-3.result.now c.deref_mut-2.result.now c.deref-3.ensures.value (c.deref_mut-2.ensures.value ∙ items)

pub invariant_of-self : goal.invariant_of-self
invariant_of-self c =
    let to : c.args.v ≤ c.self.inside.vars = subst (λ (h : Ranked). c.args.v ≤ h.vars) (sym c.self.view_is) c.requires.to in
    let same : length c.set_leaf.new.tree ≡ length c.deref_mut.result.now = c.set_leaf.auto.tree in
    let len : length c.deref_mut.result.now ≡ vec_len c.self.inside.tree = search rules in
    let tree = with_items c.self.inside.tree c.set_leaf.new.tree in
    let items : tree.items ≡ c.set_leaf.new.tree = take_at c.set_leaf.new.tree (drop (length c.set_leaf.new.tree) c.self.inside.tree.items)
    (vec_len c.self.inside.tree) (same ∙ len) in
    let same2 : length c.set_leaf-2.new.tree ≡ length c.deref_mut-2.result.now = c.set_leaf-2.auto.tree in
    let len2 : length c.deref_mut-2.result.now ≡ vec_len c.self.inside.tree = search rules in
    let last = with_items tree c.set_leaf-2.new.tree in
    let large = c.self.invariant.activities_size in
    let lt : c.args.v < length c.self.inside.activities.items = omega arith in
    let value : entry_at c.self.inside.activities.items c.args.v ≡ c.index_mut.result.now = get_or_default c.self.inside.activities.items c.args.v 0
    c.index_mut.result.now lt ∙ sym c.index_mut.ensures.value in
    let below : activity (ranked_of c.self.inside.vars c.self.inside.held.items c.self.inside.activities.items) c.args.v < HALVED_AT = subst
    (λ (h : Ranked). activity h c.args.v < HALVED_AT) (sym c.self.view_is) c.requires.room in
    let room : c.index_mut.result.now + 1 ≤ HALVED_AT = omega arith in
    let items2 : last.items ≡ c.set_leaf-2.new.tree = take_at c.set_leaf-2.new.tree (drop (length c.set_leaf-2.new.tree) tree.items)
    (vec_len c.self.inside.tree) (same2 ∙ len2) in
    heap_raised_at c.self.inside.vars c.self.inside.leaves c.self.inside.held.items c.self.inside.activities.items c.self.inside.tree.items c.deref-2.result.now
    c.deref_mut.result.now c.set_leaf.new.tree c.args.v c.self.invariant c.deref-2.ensures.value c.deref_mut.ensures.value c.requires.from to same
    c.set_leaf.ensures.won c.set_leaf.ensures.leaf c.set_leaf.ensures.others
    (c.index_mut.result.now + 1) c.leaf_word-word.result c.deref-3.result.now c.deref_mut-2.result.now c.set_leaf-2.new.tree last.items room
    c.deref-3.ensures.value (c.deref_mut-2.ensures.value ∙ items) items2 same2 c.set_leaf-2.ensures.named c.set_leaf-2.ensures.won c.set_leaf-2.ensures.leaf
    (subst (λ h. c.leaf_word-word.result ≡ leaf_word h c.args.v) c.deref.ensures.value c.leaf_word-word.ensures) c.set_leaf-2.ensures.others
