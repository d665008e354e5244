-- Why a graph has no order, and the number and the word by which a fault is told.
use Rattle.std.specs.Prelude.{ℕ, List, [], codes}
use Rattle.plan_core.specs.Graph.{Graph}
use Rattle.track_order.specs.declared.fault.OrderFault.{OrderFault}
use Rattle.track_order.specs.declared.fault.OrderFault.TheVariants.{Contradicts, Memory}
use Rattle.track_order.specs.Order.{IsFirstContradiction}

-- want of memory is no fault of the graph
abbrev pub IsOrderFault : Graph → OrderFault → Type 0
IsOrderFault g (Contradicts e f) = IsFirstContradiction g e.0 f.0
IsOrderFault g Memory = ⊥

-- the number of a fault; want of memory has none, and so 0
abbrev pub number_of : OrderFault → ℕ
number_of (Contradicts e f) = 1
number_of Memory = 0

-- the word of a fault; want of memory has none, and so an empty text
abbrev pub word_of : OrderFault → List ℕ
word_of (Contradicts e f) = codes "Contradicts"
word_of Memory = []
