-- The faults of a sheet's lines by their numbers and words.
use Rattle.std.specs.Prelude.{ℕ, List, codes}
use Rattle.plan_text.specs.declared.sheet_fault.SheetWhat.{SheetWhat}
use Rattle.plan_text.specs.declared.sheet_fault.SheetWhat.TheVariants.{Form, Range, Graph, Shape, Values}

-- the number of a fault of a sheet's line
abbrev pub number_of : SheetWhat → ℕ
number_of Form = 1
number_of Range = 2
number_of Graph = 3
number_of Shape = 4
number_of Values = 5

-- the word of a fault of a sheet's line
abbrev pub word_of : SheetWhat → List ℕ
word_of Form = codes "Form"
word_of Range = codes "Range"
word_of Graph = codes "Graph"
word_of Shape = codes "Shape"
word_of Values = codes "Values"
