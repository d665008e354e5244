use Rattle.std.proofs.Common.{◌≡◌, ℕ, List, Some, None, sym, ap, ◌∙◌}
use Rattle.std.specs.Prelude.{find}
use Rattle.railml_read.specs.declared.rows.ElemKind.TheVariants.{Crossing}
use Rattle.railml_faults.specs.Rows.{all_children}
use Rattle.railml_faults.proofs.Family.{within_of_kind}
use Rattle.railml_topology.specs.Resolved.{way_word as word_of_way}
use Rattle.railml_topology.specs.Places.{goes_by}
use Rattle.railml_topology.proofs.PlaceLemmas.{way_found, way_not_missing, read_children}
use Rattle.railml_topology.proofs.places.way_of.Goals as goal

pub unreachable-requires : goal.unreachable-requires
unreachable-requires c =
    let list : c.deref.result.now ≡ all_children c.args.rows.now c.args.crossing = c.deref.ensures.value
    ∙ read_children c.args.rows.now c.args.tables.now c.requires.tables c.args.crossing c.index-children.result.now
    (within_of_kind c.args.rows.now Crossing c.args.crossing c.requires.a_crossing) c.index-children.ensures in
    let found : find (goes_by c.args.rows.now (word_of_way c.args.outgoing)) (all_children c.args.rows.now c.args.crossing) ≡ None =
    ap (λ (v : List ℕ). find (goes_by c.args.rows.now (word_of_way c.args.outgoing)) v) (sym list)
    ∙ (ap (λ (v : List ℕ). find (goes_by c.args.rows.now v) c.deref.result.now) (sym c.way_word.ensures) ∙ (sym c.first_going.ensures ∙ c.in-None.is)) in
    way_not_missing c.args.rows.now c.requires.sound c.args.crossing c.args.outgoing c.requires.a_crossing found

pub returns : goal.returns
returns c =
    let list : c.deref.result.now ≡ all_children c.args.rows.now c.args.crossing = c.deref.ensures.value
    ∙ read_children c.args.rows.now c.args.tables.now c.requires.tables c.args.crossing c.index-children.result.now
    (within_of_kind c.args.rows.now Crossing c.args.crossing c.requires.a_crossing) c.index-children.ensures in
    let found : find (goes_by c.args.rows.now (word_of_way c.args.outgoing)) (all_children c.args.rows.now c.args.crossing) ≡ Some c.in-Some.number =
    ap (λ (v : List ℕ). find (goes_by c.args.rows.now (word_of_way c.args.outgoing)) v) (sym list)
    ∙ (ap (λ (v : List ℕ). find (goes_by c.args.rows.now v) c.deref.result.now) (sym c.way_word.ensures) ∙ (sym c.first_going.ensures ∙ c.in-Some.is)) in
    way_found c.args.rows.now c.args.crossing c.in-Some.number c.args.outgoing c.requires.a_crossing found
