use Rattle.std.proofs.Common.{◌≡◌, ◌∙◌, ◌∷◌, drop, sym, arith, length-drop}
use Rattle.std.proofs.lemmas.List.{take_all}
use Rattle.hint_log.proofs.CutLemmas.{cut_found}
use Rattle.hint_log.proofs.cutting.cut_literals.Goals as goal

pub returns-in-Some : goal.returns-in-Some
returns-in-Some c =
    let text = c.args.text.now in
    let place = c.loop-place.place in
    let size = length-drop place text in
    let here : drop place text ≡ 32 ∷ 48 ∷ 32 ∷ c.in-Some.rest.now = sym (take_all _ (drop place text) (omega arith)) ∙ c.in-Some.ensures in
    cut_found text c.in-Some.rest.now place (omega arith) c.loop-place.invariant here
