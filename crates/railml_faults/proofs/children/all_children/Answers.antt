use Rattle.std.proofs.Common.{◌≡◌, ◌+◌, ◌∙◌, ℕ, Vec, Global, sym, refl, subst, length, slice_get, Some, arith}
use Rattle.std.proofs.lemmas.Option.{slice_get_read}
use Rattle.railml_faults.proofs.ChildLemmas.{Listed, listed_start, listed_child, listed_none, listed_all, parent_earlier}
use Rattle.railml_faults.proofs.children.all_children.Goals as goal
use Rattle.railml_faults.proofs.children.all_children.Goals.{in-Some+in_ok-add_child, in_default}

pub add_child-requires : goal.add_child-requires
add_child-requires c =
    let rows = c.args.rows.now in
    let row = c.index-rows-i.result in
    let at : slice_get rows c.loop-i.i ≡ Some row = slice_get_read rows (length rows) c.loop-i.i row refl c.loop-i-test.true c.index-rows-i.is in
    let earlier = parent_earlier rows c.loop-i.i row c.in-Some.parent c.requires at c.in-Some.is in
    omega (arith, earlier, c.loop-i.invariant.whole, c.loop-i.table.ok.0)

pub loop-i-init : goal.loop-i-init
loop-i-init c = listed_start c.args.rows.now c.in_ok-table.table.items (sym c.in_ok-table.table.ok.0 ∙ c.in_ok-table.ensures.len) c.in_ok-table.ensures.empty

pub loop-i-preserved : goal.loop-i-preserved
loop-i-preserved c =
    let rows = c.args.rows.now in
    let row = c.index-rows-i.result in
    let old = c.loop-i.table in
    elim c.match-row.branch [
      | in-Some+in_ok-add_child w ↦
          let added = w.add_child.new.table in
          let same : length added.items ≡ length old.items = omega (arith, w.in_ok-add_child.ensures.len, added.ok.0, old.ok.0) in
          subst (λ (v : Vec (Vec ℕ Global) Global). Listed rows (c.loop-i.i + 1) v.items) (sym w.table-is)
          (listed_child rows c.loop-i.i row w.in-Some.parent old.items added.items c.loop-i.invariant c.loop-i-test.true c.index-rows-i.is w.in-Some.is
          w.in_ok-add_child.ensures.added same)
      | in_default w ↦
          subst (λ (v : Vec (Vec ℕ Global) Global). Listed rows (c.loop-i.i + 1) v.items) (sym w.table-is)
          (listed_none rows c.loop-i.i row old.items c.loop-i.invariant c.loop-i-test.true c.index-rows-i.is w.in_default.is)
    ]

pub returns : goal.returns
returns c = listed_all c.args.rows.now c.loop-i.i c.loop-i.table.items c.loop-i.invariant c.loop-i-test.false
