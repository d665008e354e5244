use Rattle.std.proofs.Common.{rules, arith, ◌≡◌, ◌∙◌, ◌/◌, ◌<◌, ◌≤◌, List, ℕ, length, drop, map, sym, ap, subst, vec_len}
use Rattle.std.proofs.lemmas.List.{take_at}
use Rattle.std.specs.Vec.{with_items}
use Rattle.pick_heap.specs.declared.heap.TheConstants.{HALVED_AT}
use Rattle.pick_heap.specs.Heap.{Ranked}
use Rattle.pick_heap.specs.Tree.{entry_at}
use Rattle.pick_heap.proofs.HeapLemmas.{heap_halved_at, half_below}
use Rattle.pick_heap.proofs.heap.Heap.make_room.Goals as goal

pub invariant_of-self : goal.invariant_of-self
invariant_of-self c =
    let same : length c.halve.new.activities ≡ length c.deref_mut.result.now = c.halve.auto.activities in
    let len : length c.deref_mut.result.now ≡ vec_len c.self.inside.activities = search rules in
    let acts = with_items c.self.inside.activities c.halve.new.activities in
    let items : acts.items ≡ c.halve.new.activities = take_at c.halve.new.activities (drop (length c.halve.new.activities) c.self.inside.activities.items)
    (vec_len c.self.inside.activities) (same ∙ len) in
    let same2 : length c.play_all.new.tree ≡ length c.deref_mut-2.result.now = c.play_all.auto.tree in
    let len2 : length c.deref_mut-2.result.now ≡ vec_len c.self.inside.tree = search rules in
    let tree = with_items c.self.inside.tree c.play_all.new.tree in
    let items2 : tree.items ≡ c.play_all.new.tree = take_at c.play_all.new.tree (drop (length c.play_all.new.tree) c.self.inside.tree.items)
    (vec_len c.self.inside.tree) (same2 ∙ len2) in
    heap_halved_at _ _ _ c.self.inside.activities.items c.self.inside.tree.items c.halve.new.activities c.deref.result.now c.deref_mut-2.result.now
    c.play_all.new.tree acts.items tree.items c.self.invariant (c.halve.ensures ∙ ap (map (λ a. a / 2)) c.deref_mut.ensures.value) items
    (c.deref.ensures.value ∙ items) c.deref_mut-2.ensures.value items2 same2 c.play_all.ensures.named c.play_all.ensures.won c.play_all.ensures.kept

pub returns-clause-room : goal.returns-clause-room
returns-clause-room c =
    let to : c.args.v ≤ c.self.inside.vars = subst (λ (h : Ranked). c.args.v ≤ h.vars) (sym c.self.view_is) c.requires in
    let large = c.self.invariant.activities_size in
    let same : length c.halve.new.activities ≡ length c.deref_mut.result.now = c.halve.auto.activities in
    let len : length c.deref_mut.result.now ≡ vec_len c.self.inside.activities = search rules in
    let acts = with_items c.self.inside.activities c.halve.new.activities in
    let items : acts.items ≡ c.halve.new.activities = take_at c.halve.new.activities (drop (length c.halve.new.activities) c.self.inside.activities.items)
    (vec_len c.self.inside.activities) (same ∙ len) in
    let halves : acts.items ≡ map (λ a. a / 2) c.self.inside.activities.items = items ∙ c.halve.ensures ∙ ap (map (λ a. a / 2)) c.deref_mut.ensures.value in
    subst (λ (xs : List ℕ). entry_at xs c.args.v < HALVED_AT) (sym halves) (half_below c.self.inside.activities.items c.args.v (omega arith)
    (c.self.invariant.within c.args.v))
