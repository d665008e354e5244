-- A law and the nodes or edges for which it holds or is broken, as fields of a line.
use Rattle.std.specs.Prelude.{ℕ, List, [], ◌∷◌, ◌++◌, None, Some, codes}
use Rattle.std.specs.declared.option.Option.{Option}
use Rattle.std.specs.Fmt.{decimal}
use Rattle.lawful_check.specs.declared.law_break.LawBreak.{LawBreak}
use Rattle.lawful_check.specs.declared.law_break.Party.{Party}
use Rattle.lawful_check.specs.declared.law_break.Party.TheVariants as party

-- a node or an edge: the word and its number
abbrev pub party_fields : Party → List (List ℕ)
party_fields (party.Node n) = codes "node" ∷ decimal n.0 ∷ []
party_fields (party.Edge e) = codes "edge" ∷ decimal e.0 ∷ []

-- those of the second party, where there is one
abbrev pub second_fields : Option Party → List (List ℕ)
second_fields None = []
second_fields (Some party) = party_fields party

-- a law and its parties
abbrev pub law_fields : LawBreak → List (List ℕ)
law_fields b = decimal b.law ∷ party_fields b.first ++ second_fields b.second
