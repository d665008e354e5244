use Rattle.std.proofs.Common.{rules, sym, ◌++◌}
use Rattle.cnf_core.proofs.StepLemmas.{adds_refused, adds_after}
use Rattle.edge_shape.specs.EdgeVars.{lits_of}
use Rattle.cnf_laws.specs.Guards.{unless_rules}
use Rattle.cnf_laws.specs.Stands.{end_slope}
use Rattle.cnf_laws.specs.LawClauses.{same_rules, falling_rules}
use Rattle.cnf_laws.proofs.PairCode.{rules_append}
use Rattle.cnf_laws.proofs.CodeLemmas.{adds_same_clauses}
use Rattle.cnf_laws.proofs.aligned.add_crossing.Goals as goal

pub returns-in_err-add_same : goal.returns-in_err-add_same
returns-in_err-add_same c =
    let wu = end_slope c.args.west_upper.now.west (lits_of c.args.west_upper.now.edge.now) in
    let wl = end_slope c.args.west_lower.now.west (lits_of c.args.west_lower.now.edge.now) in
    let eu = end_slope c.args.east_upper.now.west (lits_of c.args.east_upper.now.edge.now) in
    let el = end_slope c.args.east_lower.now.west (lits_of c.args.east_lower.now.edge.now) in
    let one = same_rules wl eu in
    let two = falling_rules wu wl el in
    let u = c.args.unless.now in
    adds_same_clauses c.from_residual.result _ _ (unless_rules u one ++ unless_rules u two) _ _ (sym (rules_append u one two))
    (adds_refused c.add_same.result c.from_residual.result _ _ _ _ _ c.from_residual.ensures.0 (λ k. search (rules, k)) c.add_same.ensures)

pub returns : goal.returns
returns c =
    let wu = end_slope c.args.west_upper.now.west (lits_of c.args.west_upper.now.edge.now) in
    let wl = end_slope c.args.west_lower.now.west (lits_of c.args.west_lower.now.edge.now) in
    let eu = end_slope c.args.east_upper.now.west (lits_of c.args.east_upper.now.edge.now) in
    let el = end_slope c.args.east_lower.now.west (lits_of c.args.east_lower.now.edge.now) in
    let one = same_rules wl eu in
    let two = falling_rules wu wl el in
    let u = c.args.unless.now in
    adds_same_clauses c.add_falling.result _ _ (unless_rules u one ++ unless_rules u two) _ _ (sym (rules_append u one two))
    (adds_after _ c.add_falling.result _ _ _ _ _ _ c.in_ok-add_same.ensures c.add_falling.ensures)
