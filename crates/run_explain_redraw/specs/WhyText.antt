-- The text of an answer to `explain`: that a drawing exists; or laws, a line for each, and for each a drawing that
-- meets the others; or why the search gave up.
use Rattle.std.specs.Prelude.{ℕ, ◌+◌, List, [], ◌∷◌, ◌++◌, codes, flat_map, length}
use Rattle.std.specs.Fmt.{decimal}
use Rattle.plan_core.specs.Graph.{Graph}
use Rattle.plan_core.specs.Drawing.{Drawing}
use Rattle.lawful_check.specs.declared.law_break.LawBreak.{LawBreak}
use Rattle.outside_io.specs.Fields.{line_text}
use Rattle.plan_text.specs.SheetText.{drawn_text}
use Rattle.run_input.specs.Law.{law_fields}
use Rattle.law_core.specs.declared.ending.Why.{Why}
use Rattle.law_core.specs.declared.ending.Why.TheVariants.{Exists, Laws, Spent, Room}

-- the line of a law and its parties
abbrev pub law_line : LawBreak → List ℕ
law_line law = line_text (codes "law") (law_fields law)

-- a drawing that meets all the other laws of the text but the one with this number, counted from 1
abbrev pub without_text : Graph → ℕ → Drawing → List ℕ
without_text g number d = line_text (codes "without") (decimal number ∷ []) ++ drawn_text g d

-- those of a list, the first of which has this number
abbrev pub without_texts : Graph → ℕ → List Drawing → List ℕ
without_texts g number [] = []
without_texts g number (d ∷ rest) = without_text g number d ++ without_texts g (number + 1) rest

-- the text of an explanation: how many laws there are, the laws, and for each a drawing that meets the
-- others
abbrev pub laws_text : Graph → List LawBreak → List Drawing → List ℕ
laws_text g names without =
    codes "railplan-why 1\n"
    ++ line_text (codes "laws") (decimal (length names) ∷ [])
    ++ flat_map law_line names
    ++ without_texts g 1 without
    ++ codes "end why\n"

-- the text of each answer: that a drawing exists; the laws; or why the search gave up
abbrev pub why_text : Graph → Why → List ℕ
why_text g (Exists d) = codes "drawing exists\n"
why_text g (Laws names without) = laws_text g names without
why_text g Spent = codes "why conflicts\n"
why_text g Room = codes "why room\n"
