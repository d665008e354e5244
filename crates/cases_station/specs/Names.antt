-- The names of the nodes, and of the track of each edge, in two of the worked topologies.
use Rattle.std.specs.Prelude.{ℕ, List, [], ◌∷◌, codes}

abbrev pub scissors_nodes : List (List ℕ)
scissors_nodes =
    codes "pb" ∷ codes "pe" ∷ codes "a1" ∷ codes "b1" ∷ codes "qb" ∷ codes "qe" ∷ codes "a2" ∷ codes "b2"
    ∷ codes "k" ∷ []

abbrev pub scissors_tracks : List (List ℕ)
scissors_tracks =
    codes "p" ∷ codes "p" ∷ codes "p" ∷ codes "q" ∷ codes "q" ∷ codes "q" ∷ codes "x" ∷ codes "x" ∷ codes "cb1"
    ∷ codes "ca2" ∷ []

abbrev pub station_nodes : List (List ℕ)
station_nodes =
    codes "pb" ∷ codes "pe" ∷ codes "a" ∷ codes "qb" ∷ codes "qe" ∷ codes "b" ∷ codes "c" ∷ codes "d" ∷ []

abbrev pub station_tracks : List (List ℕ)
station_tracks =
    codes "p" ∷ codes "p" ∷ codes "q" ∷ codes "q" ∷ codes "q" ∷ codes "q" ∷ codes "x" ∷ codes "l" ∷ []
