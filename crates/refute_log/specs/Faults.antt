-- The numbers and the words of the faults of a log's text.
use Rattle.std.specs.Prelude.{ℕ, List, codes}
use Rattle.refute_log.specs.declared.fault.LogWhat.{LogWhat}
use Rattle.refute_log.specs.declared.fault.LogWhat.TheVariants.{Header, Form, Number, Twice}

-- the number of a fault
abbrev pub number_of : LogWhat → ℕ
number_of Header = 1
number_of Form = 2
number_of Number = 3
number_of Twice = 4

-- the word of a fault
abbrev pub word_of : LogWhat → List ℕ
word_of Header = codes "Header"
word_of Form = codes "Form"
word_of Number = codes "Number"
word_of Twice = codes "Twice"
