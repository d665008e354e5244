use Rattle.std.proofs.Common.{◌≡◌, Some, true, is_some, sym, ap, ◌∙◌}
use Rattle.railml_faults.specs.Tables.{entry_in}
use Rattle.railml_faults.proofs.PartLemmas.{whole_by}
use Rattle.railml_faults.proofs.parts.is_whole_track.Goals as goal

pub returns-then-is_some : goal.returns-then-is_some
returns-then-is_some c =
    let t = c.args.tables.now in
    let i = c.args.i in
    let topology = c.in-Some.topology in
    let at : entry_in t.topologies.items i ≡ Some topology = sym (c.in-Some.ensures ∙ ap (λ l. entry_in l i) c.deref.ensures.value) in
    let has_begin : is_some (entry_in t.begins.items topology) ≡ true = sym (ap is_some
    (c.entry-in-Some.ensures ∙ ap (λ l. entry_in l topology) c.deref-in-Some.ensures.value)) ∙ (sym c.is_some.ensures ∙ c.if-is_some.true) in
    whole_by t i topology c.is_some-then-is_some.result at has_begin (c.is_some-then-is_some.ensures
    ∙ ap is_some (c.entry-then-is_some.ensures ∙ ap (λ l. entry_in l topology) c.deref-then-is_some.ensures.value))
