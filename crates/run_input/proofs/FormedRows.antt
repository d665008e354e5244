-- The rows of a file are formed: their places rise.
use Rattle.std.proofs.Common.{◌≡◌, ℕ, ◌+◌, ◌<◌, ◌≤◌, Bool, true, false, List, [], ◌∷◌, length, drop, sym, ap, ◌∙◌, subst, arith}
use Rattle.std.specs.Prelude.{fold}
use Rattle.std.proofs.lemmas.List.{length-drop, append-nil}
use Rattle.std.proofs.lemmas.List.Sums.{fold-append}
use Rattle.railml_text.specs.Cutting.{Placed, Cuts, start_of}
use Rattle.railml_text.proofs.CutLemmas.{start_within}
use Rattle.railml_text.proofs.PartLemmas.{item_some}
use Rattle.railml_read.specs.declared.rows.Elem.{Elem}
use Rattle.railml_read.specs.Tree.{Tag, tags_of, root_of}
use Rattle.railml_read.specs.Places.{tags_at, tags_in}
use Rattle.railml_read.specs.Progress.{State, after_tag, start}
use Rattle.railml_read.specs.Formed.{AreFormed}
use Rattle.railml_read.proofs.RowLemmas.{gone_by}
use Rattle.railml_read.proofs.FormedLemmas.{IsFormedUpTo, formed_start, formed_later, formed_item, all_formed}
use Rattle.plan_core.specs.declared.limits.TheConstants.{MAX_FILE_BYTES}
use Rattle.run_input.specs.Input.{HasRows}

-- the rows of items are formed up to where the items end
formed_through : (first : Bool) (at : ℕ) (bytes : List ℕ) (items : List Placed) (rest : List ℕ) (s : State) → Cuts first at bytes items rest →
    IsFormedUpTo s at → IsFormedUpTo (fold after_tag s (tags_in items)) (at + length bytes)
formed_through first at bytes [] rest s cut formed = formed_later s at (at + length bytes) (omega arith) formed
formed_through first at bytes (item ∷ items) rest s cut formed =
    let some = item_some first bytes cut.3.shape cut.1 cut.3.item in
    let on = cut.4 in
    let same = cut.2 in
    let below : item.at < cut.0 = omega (arith, some, on, same) in
    let P : ℕ → Type 0 = λ n. IsFormedUpTo s n in
    let after = formed_item s item.at cut.0 item.kind below (subst P (sym same) formed) in
    let all = formed_through false cut.0 cut.1 items rest (fold after_tag s (tags_at item.at item.kind)) cut.5 after in
    let Q : ℕ → Type 0 = λ n. IsFormedUpTo (fold after_tag (fold after_tag s (tags_at item.at item.kind)) (tags_in items)) n in
    let R : State → Type 0 = λ t. IsFormedUpTo t (at + length bytes) in
    subst R (sym (fold-append after_tag s (tags_at item.at item.kind) (tags_in items))) (subst Q on all)

pub rows_formed : (bytes : List ℕ) (rows : List Elem) → HasRows bytes rows → AreFormed rows
rows_formed bytes rows has =
    let spells = has.gives.are_rows.spells in
    let root = root_of has.gives.are_rows.tree in
    let begins = start_of bytes in
    let behind = drop begins bytes in
    let few = has.few in
    let within = start_within bytes in
    let long : begins + length behind ≤ MAX_FILE_BYTES = omega (arith, length-drop begins bytes, within, few) in
    let formed = formed_through true begins behind spells.items [] start spells.cut.cut (formed_start begins) in
    let all = all_formed (fold after_tag start (tags_in spells.items)) (begins + length behind) long formed in
    let made : (fold after_tag start (tags_in spells.items)).rows ≡ rows =
    ap (λ (tags : List Tag). (fold after_tag start tags).rows) (spells.tags ∙ sym (append-nil (tags_of root)))
    ∙ ap (λ (s : State). s.rows) (gone_by root start [])
    ∙ sym has.gives.are_rows.found in
    subst AreFormed made all
