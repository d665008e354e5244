use Rattle.std.proofs.Common.{◌≡◌, ◌<◌, List, ℕ, length, slice_get, Some, map, filter, refl, subst, sym, ap, ◌∙◌}
use Rattle.std.proofs.lemmas.Option.{slice_get_read}
use Rattle.std.proofs.lemmas.Result.{IfOk-weaker}
use Rattle.railml_faults.specs.Rows.{all_children}
use Rattle.railml_topology.specs.declared.order.Standing.{Standing as Placed}
use Rattle.railml_topology.specs.Plans.{is_inner as passes_inner}
use Rattle.railml_topology.specs.Resolved.{AreInner}
use Rattle.railml_topology.proofs.OrderLemmas.{inner_sorted}
use Rattle.railml_topology.proofs.order.inner_rows.Goals as goal

pub returns : goal.returns
returns c =
    let within : c.args.topology < length c.args.children.now = subst (λ n. c.args.topology < n) (sym c.requires.table.whole) c.requires.within in
    let at : slice_get c.args.children.now c.args.topology ≡ Some c.index-children-topology.result = slice_get_read c.args.children.now
    (length c.args.children.now) c.args.topology c.index-children-topology.result refl within c.index-children-topology.is in
    let numbers : c.deref.result.now ≡ all_children c.args.rows.now c.args.topology = c.deref.ensures.value
    ∙ c.requires.table.entry c.args.topology c.index-children-topology.result at in
    let list : map (λ (s : Placed). s.row) c.in_ok-list.list.items ≡ filter (passes_inner c.args.rows.now) (all_children c.args.rows.now c.args.topology) =
    c.in_ok-list.ensures.rows ∙ ap (filter (passes_inner c.args.rows.now)) numbers in
    let inner : AreInner c.args.rows.now c.args.topology (map (λ (s : Placed). s.row) c.sort_unstable.new.self.items) =
    inner_sorted c.args.rows.now c.args.topology c.in_ok-list.list.items c.sort_unstable.new.self.items list c.in_ok-list.ensures.standing
    c.sort_unstable.ensures.permutation c.sort_unstable.ensures.sorted in
    IfOk-weaker c.numbers_of.result (λ numbers. numbers ≡ map (λ (s : Placed). s.row) c.deref-2.result.now)
    (λ inner. AreInner c.args.rows.now c.args.topology inner)
    (λ numbers e. subst (λ (v : List ℕ). AreInner c.args.rows.now c.args.topology v) (sym (e ∙ ap (map (λ (s : Placed). s.row)) c.deref-2.ensures.value)) inner)
    c.numbers_of.ensures
