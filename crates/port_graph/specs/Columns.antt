-- The columns of a track graph: the distinct mileages of its nodes, in rising order.
use Rattle.std.specs.Prelude.{ℤ, ◌<ℤ◌, List, [], ◌∷◌, map, All, AllPairs, Contains}
use Rattle.std.specs.Ordering.{int_cmp}
use Rattle.std.specs.BTreeSet.{insert_key}
use Rattle.plan_core.specs.Graph.{Graph, Node}

abbrev pub mileages : Graph → List ℤ
mileages g = map (λ (n : Node). n.mileage) g.nodes

-- the numbers of a list, each once, in rising order: each is put where it belongs, unless it is there
unfoldable pub rising : List ℤ → List ℤ
rising [] = []
rising (m ∷ ms) = insert_key int_cmp (rising ms) m

-- the distinct mileages of the nodes, in rising order
unfoldable pub columns_of : Graph → List ℤ
columns_of g = rising (mileages g)

-- the list rises, and just the mileages of the nodes stand in it; only `columns_of g` is so
pub record AreColumns (g : Graph) (columns : List ℤ) : Type 0 where
  pub rise : AllPairs (λ (x y : ℤ). x <ℤ y) columns
  pub every : All (Contains columns) (mileages g)
  pub no_other : All (Contains (mileages g)) columns
