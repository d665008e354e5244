-- Lists of truth values by variable, the first for variable 1.
use Rattle.std.specs.Prelude.{Bool, false, List, ◌∷◌, slice_index_or}
use Rattle.cnf_core.specs.Assignment.{Assignment}

-- a variable past the list is false
abbrev pub assignment : List Bool → Assignment
assignment values x = slice_index_or (false ∷ values) x false
