use Rattle.std.proofs.Common.{◌∙◌, [], get_or, sym, ap}
use Rattle.std.specs.Prelude.{is_some}
use Rattle.std.proofs.lemmas.Map.Text.{btree_map_updates_str}
use Rattle.std.proofs.lemmas.List.Folds.{list_any_more}
use Rattle.std.specs.Str.{bytes_eq}
use Rattle.railml_text.specs.declared.written.WrittenAttr.{WrittenAttr}
use Rattle.railml_text.proofs.AttrLemmas.{seen_more, no_repeat_more, repeat_found}
use Rattle.railml_text.proofs.repeats.has_repeat_of_many.Goals as goal

pub returns-then-is_some-clause-yes : goal.returns-then-is_some-clause-yes
returns-then-is_some-clause-yes c =
    let d : WrittenAttr = record { name = record { ref_ptr = (0, 0); now = [] }; value = record { ref_ptr = (0, 0); now = [] } } in
    let attrs = c.args.attrs.now in
    let i = c.loop-attr.attr-index in
    λ h. repeat_found attrs i d c.loop-attr-test.true (sym (c.loop-attr.invariant.seen (get_or attrs i d).name.now)
    ∙ (ap is_some (sym c.in_ok-earlier.ensures.old) ∙ (sym c.is_some.ensures ∙ c.if-is_some.true)))

pub loop-attr-preserved : goal.loop-attr-preserved
loop-attr-preserved c =
    let d : WrittenAttr = record { name = record { ref_ptr = (0, 0); now = [] }; value = record { ref_ptr = (0, 0); now = [] } } in
    let attrs = c.args.attrs.now in
    let i = c.loop-attr.attr-index in
    record {
      seen = λ q. seen_more q (get_or attrs i d).name.now _ _ _ (btree_map_updates_str _ c.loop-attr.seen c.insert.new.self _ c.in_ok-earlier.ensures.updates q)
          (c.loop-attr.invariant.seen q)
          ∙ sym (list_any_more (λ a. bytes_eq q a.name.now) attrs i d c.loop-attr-test.true);
      none = no_repeat_more attrs i d c.loop-attr-test.true c.loop-attr.invariant.none
          (sym (c.loop-attr.invariant.seen (get_or attrs i d).name.now) ∙ (ap is_some (sym c.in_ok-earlier.ensures.old)
          ∙ (sym c.is_some.ensures ∙ c.if-is_some.false)));
    }
