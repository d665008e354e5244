-- The tree of matches. Node k has the children 2 * k and 2 * k + 1; the nodes from leaves on are the
-- leaves, one for each variable.
use Rattle.std.specs.Prelude.{◌≡◌, ◌≢◌, ◌≤◌, ◌<◌, ◌⊎◌, ℕ, ◌+◌, ◌*◌, Bool, false, cond, nat_eq, List, length}
use Rattle.std.specs.Prelude.{slice_index, slice_index_or}
use Rattle.cnf_core.specs.declared.limits.TheConstants.{VARS}
use Rattle.pick_heap.specs.declared.heap.TheConstants.{HALVED_AT}

abbrev pub entry_at : List ℕ → ℕ → ℕ
entry_at xs i = slice_index xs i

-- how high a variable ranks: no variable, which is 0, is below all
abbrev pub rank_of : List ℕ → ℕ → ℕ
rank_of activities v = cond (nat_eq v 0) 0 (entry_at activities v + 1)

-- w is one of the two, and ranks no lower than either
pub record IsWinner (activities : List ℕ) (a b w : ℕ) : Type 0 where
  pub one : (w ≡ a) ⊎ (w ≡ b)
  pub first : rank_of activities a ≤ rank_of activities w
  pub second : rank_of activities b ≤ rank_of activities w

-- each entry of the tree has an activity
abbrev pub HaveActivities : List ℕ → List ℕ → Type 0
HaveActivities activities tree = (k : ℕ) → entry_at tree k < length activities

-- node k has the winner of the nodes 2k and 2k + 1
abbrev pub IsWonAt : List ℕ → List ℕ → ℕ → Type 0
IsWonAt activities tree k = IsWinner activities (entry_at tree (2 * k)) (entry_at tree (2 * k + 1)) (entry_at tree k)

-- each node has the winner of its children
pub record IsWon (activities tree : List ℕ) (leaves : ℕ) : Type 0 where
  pub won : (k : ℕ) → 1 ≤ k → k < leaves → IsWonAt activities tree k

-- each but one
pub record IsWonBut (activities tree : List ℕ) (leaves but : ℕ) : Type 0 where
  pub won : (k : ℕ) → 1 ≤ k → k < leaves → k ≢ but → IsWonAt activities tree k

abbrev pub leaf_word : List Bool → ℕ → ℕ
leaf_word held v = cond (slice_index_or held v false) v 0

-- the leaf of each variable has it, where it is held
abbrev pub HasLeaves : ℕ → List Bool → List ℕ → Type 0
HasLeaves leaves held tree = (i : ℕ) → i < leaves → entry_at tree (leaves + i) ≡ leaf_word held (i + 1)

abbrev pub KeepsLeaves : ℕ → List ℕ → List ℕ → Type 0
KeepsLeaves leaves old new = (j : ℕ) → leaves ≤ j → entry_at new j ≡ entry_at old j

abbrev pub KeepsOthers : ℕ → List ℕ → List ℕ → ℕ → Type 0
KeepsOthers leaves old new leaf = (j : ℕ) → leaves ≤ j → j ≢ leaf → entry_at new j ≡ entry_at old j

-- no activity is above the one at which all are halved
abbrev pub AreActivities : List ℕ → Type 0
AreActivities activities = (k : ℕ) → entry_at activities k ≤ HALVED_AT

-- what each heap keeps
pub record IsHeap (vars leaves : ℕ) (held : List Bool) (activities tree : List ℕ) : Type 0 where
  pub limit : vars ≤ VARS
  pub some : 1 ≤ leaves
  pub fits : vars ≤ leaves
  pub leaves_limit : leaves ≤ 2 * VARS
  pub held_size : length held ≡ vars + 1
  pub activities_size : length activities ≡ vars + 1
  pub within : AreActivities activities
  pub none : slice_index_or held 0 false ≡ false
  pub size : 2 * leaves ≤ length tree
  pub named : HaveActivities activities tree
  pub won : IsWon activities tree leaves
  pub leaf : HasLeaves leaves held tree
