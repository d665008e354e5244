-- Slots of variables: numbers of a checker's own, counted from 1, under which tables find them. A literal by slot is
-- one whose variable is a slot.
use Rattle.std.specs.Prelude.{◌≡◌, ◌≤◌, ◌<◌, ℕ, List, ◌∷◌, length, map, slice_index_or, Some}
use Rattle.std.specs.Ordering.{nat_cmp}
use Rattle.std.specs.BTreeMap.{BTreeMap, get}
use Rattle.cnf_core.specs.Lit.{Literal, literal}
use Rattle.cnf_core.specs.Clause.{Clauses, AreThere}
use Rattle.cnf_core.specs.declared.limits.TheConstants.{LAST_VAR}

-- the variable in a slot, where these are in the slots 1, 2 and so on
abbrev pub var_in : List ℕ → ℕ → ℕ
var_in slots n = slice_index_or (0 ∷ slots) n 0

-- the literal that a literal by slot stands for
abbrev pub lit_in : List ℕ → Literal → Literal
lit_in slots l = literal (var_in slots l.var) l.positive

abbrev pub lits_in : List ℕ → List Literal → List Literal
lits_in slots lits = map (lit_in slots) lits

abbrev pub clauses_in : List ℕ → Clauses → Clauses
clauses_in slots clauses = map (lits_in slots) clauses

-- there is such a slot
abbrev pub IsSlot : List ℕ → ℕ → Type 0
IsSlot slots n = (1 ≤ n) × (n ≤ length slots)

-- no variable is in two slots
abbrev pub IsInOneSlot : List ℕ → Type 0
IsInOneSlot slots = (m n : ℕ) → IsSlot slots m → IsSlot slots n → var_in slots m ≡ var_in slots n → m ≡ n

-- the variable is in this slot
pub record IsSlotOf (slots : List ℕ) (v n : ℕ) : Type 0 where
  pub slot : IsSlot slots n
  pub is : var_in slots n ≡ v

-- these are the literals by slot
pub record AreBySlot (slots : List ℕ) (lits by_slot : List Literal) : Type 0 where
  pub there : AreThere (length slots) by_slot
  pub are : lits_in slots by_slot ≡ lits

-- each variable up to the last one is in its own slot, and there are no further slots
pub record AreOwnSlots (vars : ℕ) (slots : List ℕ) : Type 0 where
  pub size : length slots ≡ vars
  pub own : (n : ℕ) → IsSlot slots n → var_in slots n ≡ n

-- a variable that the formula lacks is in this slot
pub record IsSlotBeyond (vars : ℕ) (slots : List ℕ) (v n : ℕ) : Type 0 where
  pub above : vars < n
  pub within : n ≤ length slots
  pub is : var_in slots n ≡ v

-- each variable of the formula is in its own slot. The others are greater, and a map has the slot of each
pub record AreSlots (vars : ℕ) (slots : List ℕ) (beyond : BTreeMap ℕ ℕ) : Type 0 where
  pub own : (n : ℕ) → 1 ≤ n → n ≤ vars → var_in slots n ≡ n
  pub all : vars ≤ length slots
  pub few : length slots ≤ LAST_VAR
  pub greater : (n : ℕ) → vars < n → n ≤ length slots → vars < var_in slots n
  pub put : (n : ℕ) → vars < n → n ≤ length slots → get nat_cmp beyond (var_in slots n) ≡ Some n
  pub found : (v n : ℕ) → get nat_cmp beyond v ≡ Some n → IsSlotBeyond vars slots v n
