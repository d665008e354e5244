-- What the reader knows of a document while its items go by, and once they all have.
use Rattle.std.specs.Prelude.{◌≡◌, ℕ, Bool, List, []}
use Rattle.railml_text.specs.declared.fault.ItemFault.{ItemFault}
use Rattle.railml_text.specs.declared.fault.ItemFault.TheVariants as items
use Rattle.railml_text.specs.Cutting.{Placed, IsCutInto}
use Rattle.railml_read.specs.declared.faults.ReadFault.{ReadFault}
use Rattle.railml_read.specs.declared.faults.ReadFault.TheVariants as answers
use Rattle.railml_read.specs.Places.{has_root, AreInPlace}
use Rattle.railml_read.specs.Progress.{State, state_after, Marks, marks_after}
use Rattle.railml_read.specs.Signals.{AreRising}
use Rattle.railml_read.specs.Formed.{AreFormed}

-- all items have gone by without a fault
pub record IsReadThrough (bytes : List ℕ) (state : State) (rooted : Bool) : Type 0 where
  pub items : List Placed
  pub cut : IsCutInto bytes items
  pub sound : AreInPlace [] items
  pub state_is : state ≡ state_after items
  pub root_is : rooted ≡ has_root items
  pub formed : AreFormed state.rows

-- and this is what was kept of signals
pub record HasMarks (bytes : List ℕ) (state : State) (rooted : Bool) (marks : Marks) : Type 0 where
  pub through : IsReadThrough bytes state rooted
  pub marks_are : marks ≡ marks_after through.items
  pub rising : AreRising marks.signals

-- what an item's own fault at this place is answered as
abbrev pub fault_at : ItemFault → ℕ → ReadFault
fault_at (items.Item what) at = answers.Text what at
fault_at items.Memory at = answers.Memory
