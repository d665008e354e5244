-- Ids: which row's number an id is kept with.
-- Private contracts alone cite this module.
use Rattle.std.specs.Prelude.{◌≡◌, ◌<◌, ℕ, true, if◌then◌else◌, List, Option, Some, None, bytes_eq, ⊤}
use Rattle.std.specs.Borrow.{Bor}
use Rattle.std.specs.Option.{option_and_then}
use Rattle.indexmap.specs.IndexMap.{IndexMap, get_by}
use Rattle.railml_read.specs.declared.rows.Elem.{Elem}
use Rattle.railml_read.specs.declared.rows.ElemKind.TheVariants.{Connection}
use Rattle.railml_faults.specs.declared.hashes.IdHashes.{IdHashes}
use Rattle.railml_faults.specs.Rows.{same_kind, bears_id, is_of_kind, BearsId, IsConnectionNamed}

-- numbers of rows by their ids
abbrev pub IdNumbers : Type 0
IdNumbers = IndexMap (Bor (List ℕ)) ℕ IdHashes

-- the number that an id is kept with
abbrev pub number_in : IdNumbers → List ℕ → Option ℕ
number_in numbers id = get_by (λ k. bytes_eq id k.now) numbers

-- the number of the connection of this name, if the number that the name is kept with is a connection's
abbrev pub connection_in : List Elem → IdNumbers → List ℕ → Option ℕ
connection_in rows numbers name =
    option_and_then (λ j. if is_of_kind rows Connection j then Some j else None) (number_in numbers name)

-- one id has this number from now on, and each other the number that it had
abbrev pub KeepsNumber : IdNumbers → IdNumbers → List ℕ → ℕ → Type 0
KeepsNumber old new id number = (q : List ℕ) → number_in new q
    ≡ (if bytes_eq id q then Some number else number_in old q)

-- a row's id, if it has one that counts
abbrev pub own_id : Elem → Option (List ℕ)
own_id row = if bears_id row.kind then row.attrs.id else None

-- the name that a connection refers to, if it has a reference
abbrev pub reference_of : Elem → Option (List ℕ)
reference_of row = if same_kind row.kind Connection then row.attrs.reference else None

-- the number that a row's id is kept with once the row is seen: a connection's own, and of another row the one that
-- the id had, if it had one
abbrev pub next_number : Elem → Option ℕ → ℕ → ℕ
next_number row None number = number
next_number row (Some had) number = if same_kind row.kind Connection then number else had

-- a row's id, if it has one, is kept once the row is seen
abbrev pub AddsId : IdNumbers → IdNumbers → Elem → ℕ → Option (List ℕ) → Type 0
AddsId old new row number None = (q : List ℕ) → number_in new q ≡ number_in old q
AddsId old new row number (Some id) = KeepsNumber old new id (next_number row (number_in old id) number)

-- there is an id, and it is kept; where there is one, it isn't
abbrev pub IsKnownId : IdNumbers → Option (List ℕ) → Type 0
IsKnownId numbers None = ⊥
IsKnownId numbers (Some id) = (j : ℕ) × (number_in numbers id ≡ Some j)

abbrev pub IsNewId : IdNumbers → Option (List ℕ) → Type 0
IsNewId numbers None = ⊤
IsNewId numbers (Some id) = number_in numbers id ≡ None

-- ids of the first n rows are kept with the number of a row that bears them, a connection's where one of these
-- connections bears them, and no id is left out
pub record KeepsIds (rows : List Elem) (n : ℕ) (numbers : IdNumbers) : Type 0 where
  pub found : (id : List ℕ) (j : ℕ) → number_in numbers id ≡ Some j → (j < n) × BearsId rows j id
  pub connection : (id : List ℕ) (j k : ℕ) (other : Elem) → number_in numbers id ≡ Some j → k < n →
      IsConnectionNamed rows k id other → is_of_kind rows Connection j ≡ true
  pub missed : (id : List ℕ) (j : ℕ) → number_in numbers id ≡ None → j < n → BearsId rows j id → ⊥
