use Rattle.std.proofs.Common.{rules, ◌≡◌, List, [], ◌∷◌, subst}
use Rattle.std.specs.Prelude.{map}
use Rattle.cnf_core.specs.declared.literal.LitOrTruth.{LitOrTruth}
use Rattle.cnf_core.specs.declared.literal.LitOrTruth.TheVariants.{False}
use Rattle.edge_shape.specs.EdgeVars.{lits_of}
use Rattle.cnf_laws.specs.Guards.{pair_literals, PairsWithin}
use Rattle.cnf_laws.specs.Stands.{end_slope}
use Rattle.cnf_laws.specs.LawClauses.{greater_rules}
use Rattle.cnf_laws.proofs.ThereLemmas.{end_there, greater_within}
use Rattle.cnf_laws.proofs.BaseLemmas.{edge_whole}
use Rattle.cnf_laws.proofs.PairCode.{adds_pairs}
use Rattle.cnf_laws.proofs.aligned.add_greater.Goals as goal

pub add_pairs-requires-clause-within : goal.add_pairs-requires-clause-within
add_pairs-requires-clause-within c =
    let vars = c.args.f.now.vars in
    let a = end_slope c.args.a.now.west (lits_of c.args.a.now.edge.now) in
    let b = end_slope c.args.b.now.west (lits_of c.args.b.now.edge.now) in
    let e : map pair_literals (greater_rules a b) ≡ (c.negated.result ∷ False ∷ []) ∷ (c.negated-2.result ∷ False ∷ [])
    ∷ (c.rises-2.result ∷ c.falls-2.result ∷ []) ∷ [] = search rules in
    subst (λ (l : List (List LitOrTruth)). PairsWithin vars l) e (greater_within vars a b
    (end_there vars (lits_of c.args.a.now.edge.now) c.args.a.now.west (edge_whole c.args.a.now.edge.now vars c.rises.ensures.placed c.requires.a_there))
    (end_there vars (lits_of c.args.b.now.edge.now) c.args.b.now.west (edge_whole c.args.b.now.edge.now vars c.falls.ensures.placed c.requires.b_there)))

pub returns : goal.returns
returns c =
    let a = end_slope c.args.a.now.west (lits_of c.args.a.now.edge.now) in
    let b = end_slope c.args.b.now.west (lits_of c.args.b.now.edge.now) in
    let e : map pair_literals (greater_rules a b) ≡ (c.negated.result ∷ False ∷ []) ∷ (c.negated-2.result ∷ False ∷ [])
    ∷ (c.rises-2.result ∷ c.falls-2.result ∷ []) ∷ [] = search rules in
    adds_pairs c.add_pairs.result _ _ c.args.unless.now _ _ _ e c.add_pairs.ensures
