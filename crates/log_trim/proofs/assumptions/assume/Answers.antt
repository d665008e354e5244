use Rattle.std.proofs.Common.{◌∙◌, ◌+◌, ◌++◌, [], List, map, sym, ap, subst, arith}
use Rattle.cnf_core.specs.Lit.{Literal, negate}
use Rattle.cnf_core.specs.Clause.{AreThere}
use Rattle.std.specs.Prelude.{All}
use Rattle.cnf_core.proofs.ClauseLemmas.{there_more}
use Rattle.watch_arena.specs.Trail.{Marks, IsUnset}
use Rattle.log_trim.specs.Found.{assumed}
use Rattle.log_trim.proofs.AssumingLemmas.{assuming_above, assuming_anew, bare_none, further_unset, reasons_wider, has_left, has_right}
use Rattle.log_trim.proofs.assumptions.assume.Goals as goal

pub are_unset-requires : goal.are_unset-requires
are_unset-requires c = subst (λ n. AreThere n c.args.lits.now) (sym c.requires.vars)
    (there_more c.args.vars (c.args.vars + 2) c.args.lits.now (omega arith) c.requires.there)

pub deny_above-requires-clause-there : goal.deny_above-requires-clause-there
deny_above-requires-clause-there c = subst (λ n. AreThere n c.args.lits.now) (sym c.requires.vars)
    (there_more c.args.vars (c.args.vars + 2) c.args.lits.now (omega arith) c.requires.there)

pub deny-requires-clause-there : goal.deny-requires-clause-there
deny-requires-clause-there c =
    let vars = c.open.ensures.vars ∙ ap (λ (x : Marks). x.vars) c.undo_to.ensures.value ∙ c.requires.vars in
    subst (λ n. AreThere n c.args.lits.now) (sym vars) (there_more c.args.vars (c.args.vars + 2) c.args.lits.now (omega arith) c.requires.there)

pub deny-requires-clause-unset : goal.deny-requires-clause-unset
deny-requires-clause-unset c = subst (λ (ls : List Literal). All (λ l. IsUnset ls l) c.args.lits.now) (sym c.open.ensures.lits)
    (further_unset c.args.vars c.args.lits.now c.requires.there)

pub returns-then-are_unset : goal.returns-then-are_unset
returns-then-are_unset c = λ a idle.
    let d = c.deny_above.ensures in
    assuming_above a c.args.vars c.args.lits.now c.args.trail.now c.deny_above.new.trail idle
    (sym c.level.ensures.value ∙ c.if-level-eq1.true) (c.are_unset.ensures c.if-are_unset.true)
    d.vars d.lits d.cuts d.front (d.reasons a) d.bare (d.watched a idle.watched)

pub returns-else-level-eq1 : goal.returns-else-level-eq1
returns-else-level-eq1 c = λ a idle.
    let vars = c.args.vars in
    let lits = c.args.lits.now in
    let u = c.undo_to.ensures in
    let o = c.open.ensures in
    let d = c.deny.ensures in
    assuming_anew a vars lits c.deny.new.trail (d.vars ∙ o.vars ∙ ap (λ (x : Marks). x.vars) u.value
    ∙ idle.all_vars) (d.watched a (o.watched a (u.watched a idle.watched)))
    (d.lits ∙ ap (λ (ls : List Literal). ls ++ map negate lits) o.lits) (d.cuts ∙ o.cuts)
    (d.reasons a (assumed vars lits) (has_right (assumed vars []) (map negate lits))
    (reasons_wider a c.open.new.trail (assumed vars []) (assumed vars lits) (has_left (assumed vars []) (map negate lits)) (o.reasons a)))
    (d.bare [] (bare_none c.open.new.trail))
