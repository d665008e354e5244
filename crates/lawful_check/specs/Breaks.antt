-- Which broken law is named: the least by law, then by the first party, then by the second.
use Rattle.std.specs.Prelude.{◌≡◌, ◌⊎◌, ℕ, ◌<◌, Bool, Option, Some, None}
use Rattle.plan_core.specs.Grid.{GridSize}
use Rattle.plan_core.specs.Graph.{Graph}
use Rattle.plan_core.specs.Drawing.{Drawing}
use Rattle.plan_core.specs.Lawful.{Instance, NodeOnGrid, LineOnGrid, Ordered, Joined, Aligned, Apart, Over, Parted}
use Rattle.plan_core.specs.Lawful.{IsInstance, Meets}
use Rattle.track_order.specs.Order.{IsEarlier}
use Rattle.lawful_check.specs.declared.law_break.LawBreak.{LawBreak}
use Rattle.lawful_check.specs.declared.law_break.Party.{Party}
use Rattle.lawful_check.specs.declared.law_break.Party.TheVariants as party

-- a place for each law; law 1 has two, for it is of nodes first and then of lines
abbrev pub law_rank : Instance → ℕ
law_rank (NodeOnGrid n) = 0
law_rank (LineOnGrid e) = 1
law_rank (Ordered u v) = 2
law_rank (Joined e) = 3
law_rank (Aligned n) = 4
law_rank (Apart u v) = 5
law_rank (Over e f) = 6
law_rank (Parted e f) = 7

abbrev pub first_of : Instance → ℕ
first_of (NodeOnGrid n) = n
first_of (LineOnGrid e) = e
first_of (Ordered u v) = u
first_of (Joined e) = e
first_of (Aligned n) = n
first_of (Apart u v) = u
first_of (Over e f) = e
first_of (Parted e f) = e

-- 0 where there is no second party
abbrev pub second_of : Instance → ℕ
second_of (NodeOnGrid n) = 0
second_of (LineOnGrid e) = 0
second_of (Ordered u v) = v
second_of (Joined e) = 0
second_of (Aligned n) = 0
second_of (Apart u v) = v
second_of (Over e f) = f
second_of (Parted e f) = f

-- by law, then by the first party, then by the second
abbrev pub IsBefore : Instance → Instance → Type 0
IsBefore i j = (law_rank i < law_rank j) ⊎ ((law_rank i ≡ law_rank j)
    × IsEarlier (first_of i) (second_of i) (first_of j) (second_of j))

abbrev pub node_party : ℕ → Party
node_party n = party.Node (record { 0 = n })

abbrev pub edge_party : ℕ → Party
edge_party e = party.Edge (record { 0 = e })

abbrev pub law_break : ℕ → Party → Option Party → LawBreak
law_break law first second = record { law = law; first = first; second = second }

-- how a broken instance is named
abbrev pub break_of : Instance → LawBreak
break_of (NodeOnGrid n) = law_break 1 (node_party n) None
break_of (LineOnGrid e) = law_break 1 (edge_party e) None
break_of (Ordered u v) = law_break 2 (node_party u) (Some (node_party v))
break_of (Joined e) = law_break 3 (edge_party e) None
break_of (Aligned n) = law_break 4 (node_party n) None
break_of (Apart u v) = law_break 5 (node_party u) (Some (node_party v))
break_of (Over e f) = law_break 6 (edge_party e) (Some (edge_party f))
break_of (Parted e f) = law_break 7 (edge_party e) (Some (edge_party f))

-- the law is broken for these parties, and met for all that come before
pub record IsLeastBroken (g : Graph) (above : ℕ → ℕ → Bool) (grid : GridSize) (d : Drawing) (i : Instance) : Type 0
  where
    pub is : IsInstance g above i
    pub broken : Meets g grid d i → ⊥
    pub least : (j : Instance) → IsInstance g above j → IsBefore j i → Meets g grid d j

-- this names the least broken instance
pub record IsLeastBreak (g : Graph) (above : ℕ → ℕ → Bool) (grid : GridSize) (d : Drawing) (b : LawBreak) : Type 0 where
  pub instance : Instance
  pub least : IsLeastBroken g above grid d instance
  pub named : b ≡ break_of instance
