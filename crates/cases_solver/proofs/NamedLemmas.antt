-- Literals whose variables have clauses.
use Rattle.std.proofs.Common.{List, ◌++◌, ◌∷◌, []}
use Rattle.std.specs.Prelude.{All}
use Rattle.std.proofs.lemmas.List.Elements.{All-push}
use Rattle.cnf_core.specs.Lit.{Literal}
use Rattle.cnf_core.specs.Clause.{Clauses, IsNamed}

pub named_push : (cs : Clauses) (ls : List Literal) (l : Literal) → All (λ (k : Literal). IsNamed cs k.var) ls → IsNamed cs l.var →
    All (λ (k : Literal). IsNamed cs k.var) (ls ++ l ∷ [])
named_push cs ls l = All-push (λ (k : Literal). IsNamed cs k.var) ls l
