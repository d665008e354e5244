use Rattle.std.proofs.Common.{rules, arith, ◌≡◌, ◌∙◌, ◌<◌, ◌≤◌, length, drop, sym, subst, vec_len, false}
use Rattle.std.proofs.lemmas.List.{take_at, get_or_default}
use Rattle.std.specs.Vec.{with_items}
use Rattle.pick_heap.specs.Heap.{Ranked, IsGreatest}
use Rattle.pick_heap.specs.Tree.{entry_at}
use Rattle.pick_heap.proofs.MatchLemmas.{set_free}
use Rattle.pick_heap.proofs.HeapLemmas.{greatest_at, none_at, heap_set_at}
use Rattle.pick_heap.proofs.heap.Heap.pop.Goals as goal

pub returns-then-v-eq0-clause-greatest : goal.returns-then-v-eq0-clause-greatest
returns-then-v-eq0-clause-greatest c =
    let some = c.self.invariant.some in
    let size = c.self.invariant.size in
    let lt : 1 < length c.self.inside.tree.items = omega arith in
    let root : entry_at c.self.inside.tree.items 1 ≡ c.index-v.result.now = get_or_default c.self.inside.tree.items 1 0 c.index-v.result.now lt
    ∙ sym c.index-v.ensures in
    none_at _ _ _ _ _ c.args.self.now c.self.invariant c.self.view_is (root ∙ c.if-v-eq0.true)

pub returns-clause-greatest : goal.returns-clause-greatest
returns-clause-greatest c =
    let some = c.self.invariant.some in
    let size = c.self.invariant.size in
    let lt : 1 < length c.self.inside.tree.items = omega arith in
    let root : entry_at c.self.inside.tree.items 1 ≡ c.index-v.result.now = get_or_default c.self.inside.tree.items 1 0 c.index-v.result.now lt
    ∙ sym c.index-v.ensures in
    greatest_at _ _ _ _ _ c.args.self.now c.index-v.result.now c.self.invariant c.self.view_is root c.if-v-eq0.false

pub invariant_of-self : goal.invariant_of-self
invariant_of-self c =
    let some = c.self.invariant.some in
    let size = c.self.invariant.size in
    let lt : 1 < length c.self.inside.tree.items = omega arith in
    let root : entry_at c.self.inside.tree.items 1 ≡ c.index-v.result.now = get_or_default c.self.inside.tree.items 1 0 c.index-v.result.now lt
    ∙ sym c.index-v.ensures in
    let g : IsGreatest c.args.self.now c.index-v.result.now = greatest_at _ _ _ _ _ c.args.self.now c.index-v.result.now c.self.invariant c.self.view_is root
    c.if-v-eq0.false in
    let vars : c.index-v.result.now ≤ c.self.inside.vars = subst (λ (h : Ranked). c.index-v.result.now ≤ h.vars) (sym c.self.view_is) g.to in
    let held = c.self.invariant.held_size in
    let same : length c.set_leaf.new.tree ≡ length c.deref_mut.result.now = c.set_leaf.auto.tree in
    let len : length c.deref_mut.result.now ≡ vec_len c.self.inside.tree = search rules in
    let tree = with_items c.self.inside.tree c.set_leaf.new.tree in
    let items : tree.items ≡ c.set_leaf.new.tree = take_at c.set_leaf.new.tree (drop (length c.set_leaf.new.tree) c.self.inside.tree.items)
    (vec_len c.self.inside.tree) (same ∙ len) in
    heap_set_at _ _ _ _ c.self.inside.tree.items c.deref.result.now c.deref_mut.result.now c.set_leaf.new.tree tree.items c.index-v.result.now false
    c.self.invariant c.deref.ensures.value c.deref_mut.ensures.value items g.from vars same c.set_leaf.ensures.named c.set_leaf.ensures.won
    (c.set_leaf.ensures.leaf ∙ sym (set_free c.self.inside.held.items c.index-v.result.now (omega arith))) c.set_leaf.ensures.others
