use Rattle.std.proofs.Common.{◌∙◌, ◌∷◌, ◌-◌, [], List, length, take, drop, map, ap, sym, subst}
use Rattle.cnf_core.specs.Lit.{Literal, negate}
use Rattle.refute_check.proofs.CheckerLemmas.{split_first}
use Rattle.watch_arena.specs.Trail.{Marks, IsUnset}
use Rattle.log_trim.specs.Found.{HaveNoReason}
use Rattle.log_trim.proofs.AssumingLemmas.{rest_unset, rest_wider, unset_turned, negation_in, reasons_with, bare_with, bare_none}
use Rattle.log_trim.proofs.assumptions.deny_above.Goals as goal

pub deny-requires-clause-unset : goal.deny-requires-clause-unset
deny-requires-clause-unset c =
    rw (ap (λ (x : Marks). x.lits) c.decide.ensures.value) (rest_unset c.args.trail.now.lits c.args.lits.now c.index-lits-0.result c.negated.result
    c.requires.some c.index-lits-0.is c.negated.ensures c.requires.distinct c.requires.unset)

pub returns-clause-reasons : goal.returns-clause-reasons
returns-clause-reasons c = λ a given wider h.
    let lits = c.args.lits.now in
    let k = c.negated.result in
    let value = c.decide.ensures.value in
    let is = c.negated.ensures ∙ ap negate c.index-lits-0.is in
    let unset : IsUnset c.args.trail.now.lits k = unset_turned c.args.trail.now.lits _ k (c.requires.unset 0 c.index-lits-0.result c.requires.some) is in
    c.deny.ensures.reasons a given (rest_wider given lits c.requires.some wider)
    (reasons_with a c.args.trail.now c.decide.new.self k given unset (ap (λ (x : Marks). x.lits) value) (ap (λ (x : Marks). x.reasons) value)
    (wider k (negation_in lits 0 c.index-lits-0.result k c.requires.some is)) h)

pub returns-clause-bare : goal.returns-clause-bare
returns-clause-bare c =
    let lits = c.args.lits.now in
    let first = c.index-lits-0.result in
    let k = c.negated.result in
    let rest = take (length lits - 1) (drop 1 lits) in
    let split = ap (map negate) (split_first lits first c.requires.some c.index-lits-0.is) in
    subst (λ (ls : List Literal). HaveNoReason c.deny.new.trail ls) (sym split)
    (subst (λ (x : Literal). HaveNoReason c.deny.new.trail (x ∷ map negate rest)) c.negated.ensures
    (c.deny.ensures.bare (k ∷ []) (bare_with c.args.trail.now c.decide.new.self k [] (ap (λ (x : Marks). x.reasons) c.decide.ensures.value)
    (bare_none c.args.trail.now))))
