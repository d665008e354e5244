-- The sheet whose text was read claims no more places than its order has.
use Rattle.std.proofs.Common.{◌≡◌, ℕ, ◌≤◌, List, [], ◌∷◌, ◌++◌, length, None, Some, refl, sym, ◌∙◌, ap, subst, arith, append_assoc}
use Rattle.std.specs.Prelude.{Bool, true, false, IfSome}
use Rattle.std.specs.declared.option.Option.{Option}
use Rattle.std.proofs.lemmas.List.{append-nil}
use Rattle.std.proofs.lemmas.List.Concat.{flat_map-append}
use Rattle.plan_core.specs.declared.criterion.Criterion.{Criterion}
use Rattle.plan_core.specs.Graph.{Graph}
use Rattle.plan_core.specs.Drawing.{Drawing}
use Rattle.plan_core.specs.Lawful.{HasSizeOf}
use Rattle.plan_core.specs.Values.{values_of}
use Rattle.plan_write.specs.declared.edition.Edition.{Edition}
use Rattle.plan_write.specs.declared.ending.Ending.{Ending}
use Rattle.plan_write.specs.declared.ending.Ending.TheVariants as endings
use Rattle.plan_text.specs.SheetLine.{SheetLine, Title, GridLine, OrderLine, NodesLine, ValuesLine, EndLine}
use Rattle.plan_text.specs.SheetText.{Sheet, picture_lines, found_lines, StatesSettled}
use Rattle.plan_text.specs.SheetFaults.{LineDue, TitleDue, GridDue, OrderDue, BodyDue, NodeDue, EdgesDue, EdgeDue, ValuesDue, EndDue, NoneDue, due_behind}
use Rattle.plan_text.specs.SheetFaults.{due_after, criteria_told, order_told, IsInRange, AreRightLines, IsSheetText}
use Rattle.plan_text.proofs.SheetAgain.{parts_are, no_criteria}
use Rattle.log_check.specs.Claimed.{IsClaimOf}
use Rattle.run_check.specs.CheckLine.{claimed, claim_of}

-- of right lines the last is in range, behind the others
last_right : (g : Graph) (before : List SheetLine) (due : LineDue) (lines : List SheetLine) (last : SheetLine) →
    AreRightLines g before due (lines ++ last ∷ []) → IsInRange (before ++ lines) (due_after g due lines) last
last_right g before due [] last right = subst (λ (b : List SheetLine). IsInRange b due last) (sym (append-nil before)) right.0.range
last_right g before due (line ∷ lines) last right =
    subst (λ (b : List SheetLine). IsInRange b (due_after g (due_behind g due line) lines) last) (append_assoc before (line ∷ []) lines)
    (last_right g (before ++ line ∷ []) (due_behind g due line) lines last right.1)

-- a drawing's lines tell no criterion
no_more_criteria : (edition : Edition) (g : Graph) (found : Option Drawing) → IfSome found (HasSizeOf g) → order_told (found_lines edition g found) ≡ []
no_more_criteria edition g None size = refl
no_more_criteria edition g (Some d) size =
    flat_map-append criteria_told (NodesLine (length g.nodes) ∷ picture_lines edition g d) (ValuesLine (values_of d) ∷ [])
    ∙ ap (λ (cs : List Criterion). cs ++ []) (ap order_told (sym (parts_are edition g d size)) ∙ no_criteria edition g d)

settles : (order : List Criterion) (is_drawn : Bool) (e : Ending) → StatesSettled order is_drawn e → claimed order e ≤ length order
settles order is_drawn endings.Best settled = omega arith
settles order is_drawn endings.NoDrawing settled = omega arith
settles order is_drawn (endings.Conflicts s) settled = let some = settled.some_left in omega (arith, some)
settles order is_drawn (endings.Room s) settled = let some = settled.some_left in omega (arith, some)

end_settles : (before : List SheetLine) (due : LineDue) (e : Ending) → IsInRange before due (EndLine e) →
    claimed (order_told before) e ≤ length (order_told before)
end_settles before EndDue e range = settles (order_told before) true e range
end_settles before (TitleDue needs) e range = settles (order_told before) false e range
end_settles before (GridDue edition needs) e range = settles (order_told before) false e range
end_settles before (OrderDue edition needs) e range = settles (order_told before) false e range
end_settles before (BodyDue edition needs) e range = settles (order_told before) false e range
end_settles before (NodeDue edition n) e range = settles (order_told before) false e range
end_settles before (EdgesDue edition) e range = settles (order_told before) false e range
end_settles before (EdgeDue edition n) e range = settles (order_told before) false e range
end_settles before ValuesDue e range = settles (order_told before) false e range
end_settles before NoneDue e range = settles (order_told before) false e range

claimed_few : (g : Graph) (needs_drawing : Bool) (text : List ℕ) (s : Sheet) → IsSheetText g needs_drawing text s → claimed s.order s.ending ≤ length s.order
claimed_few g needs_drawing text s is =
    let lines = Title is.edition ∷ GridLine is.edition s.grid ∷ OrderLine s.order ∷ found_lines is.edition g s.found in
    let told : order_told lines ≡ s.order = ap (λ (cs : List Criterion). s.order ++ cs) (no_more_criteria is.edition g s.found is.draws_all)
    ∙ append-nil s.order in
    subst (λ (order : List Criterion). claimed order s.ending ≤ length order) told
    (end_settles lines (due_after g (TitleDue needs_drawing) lines) s.ending (last_right g [] (TitleDue needs_drawing) lines (EndLine s.ending) is.right))

claims : (order : List Criterion) (found : Option Drawing) (e : Ending) → claimed order e ≤ length order → IsClaimOf order (claim_of order found e)
claims order (Some d) e few = few
claims order None endings.Best few = tt
claims order None endings.NoDrawing few = tt
claims order None (endings.Conflicts s) few = tt
claims order None (endings.Room s) few = tt

-- so it claims what a log may certify
pub sheet_claims : (g : Graph) (needs_drawing : Bool) (text : List ℕ) (s : Sheet) → IsSheetText g needs_drawing text s →
    IsClaimOf s.order (claim_of s.order s.found s.ending)
sheet_claims g needs_drawing text s is = claims s.order s.found s.ending (claimed_few g needs_drawing text s is)
