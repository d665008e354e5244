use Rattle.std.proofs.Common.{◌≡◌, ◌+◌, ◌∙◌, ◌≤◌, ℕ, List, Bool, true, length, get_or, sym, ap, subst, arith}
use Rattle.watch_arena.specs.Arena.{attached_at}
use Rattle.hint_log.specs.Hint.{numbered}
use Rattle.log_trim.specs.Found.{IsFoundFromFront, is_needed, number_of_place}
use Rattle.log_trim.proofs.LeanLemmas.{needed_within, on_trail_more, reason_on_trail}
use Rattle.log_trim.proofs.FoundLemmas.{reason_at, needs_clause, go_on, past_unneeded, past_bare}
use Rattle.log_trim.proofs.needs.name_reason.Goals as goal

-- a variable that is needed is no further one
mine_is : (needed : List Bool) (v x : ℕ) (result : Bool) → v ≡ x → result ≡ is_needed needed v → result ≡ true → is_needed needed x ≡ true
mine_is needed v x result e is t = ap (is_needed needed) (sym e) ∙ sym is ∙ t

is_low : (needed : List Bool) (x vars : ℕ) → length needed ≡ vars + 1 → is_needed needed x ≡ true → x ≤ vars
is_low needed x vars size mine = let below = needed_within needed x mine in omega (arith, size, below)

pub returns-then-not-is_needed-clause-goes_on : goal.returns-then-not-is_needed-clause-goes_on
returns-then-not-is_needed-clause-goes_on c = λ vars all taken clauses size h.
    let lit = c.lit.ensures in
    let var = c.var-v.ensures in
    let unneeded = ap (is_needed c.args.needed.now) (sym var.value) ∙ sym c.is_needed.ensures ∙ c.if-not-is_needed.true in
    past_unneeded all vars c.args.trail.now c.args.i c.lit.result c.args.needed.now c.args.hints.now.items c.requires.within lit.value unneeded h

pub returns-in-None-clause-goes_on : goal.returns-in-None-clause-goes_on
returns-in-None-clause-goes_on c = λ vars all taken clauses size h.
    let lit = c.lit.ensures in
    let var = c.var-v.ensures in
    let bare = subst (λ v. get_or c.args.trail.now.reasons v 0 ≡ 0) var.value c.in-None.ensures.value in
    past_bare all vars c.args.trail.now c.args.i c.lit.result c.args.needed.now c.args.hints.now.items c.requires.within lit.value bare size h

pub returns-in_ok-name-in-Some-clause-goes_on : goal.returns-in_ok-name-in-Some-clause-goes_on
returns-in_ok-name-in-Some-clause-goes_on c = λ vars all taken clauses size h.
    let a = c.args.arena.now in
    let m = c.args.trail.now in
    let v = c.var-v.ensures in
    let lit = c.lit.ensures in
    let p = c.in-Some.c.0 in
    let reason = c.in-Some.ensures.value in
    let marks = c.in-Some.ensures.marks in
    let here = reason_at a m c.requires.reasons.0 c.args.i c.lit.result c.var-v.result.0 p c.requires.reasons.1 c.requires.within lit.value v.value reason.0
    reason.1 in
    let known = clauses.known p here.place in
    let n = number_of_place c.args.numbers.now p in
    let held = clauses.held (numbered all n) known.among in
    let mine = mine_is c.args.needed.now c.var-v.result.0 c.lit.result.var c.is_needed.result v.value c.is_needed.ensures c.if-not-is_needed.false in
    let low = is_low c.args.needed.now c.lit.result.var vars size mine in
    let need = c.name.ensures.needs in
    let each = needs_clause vars (numbered all n) (attached_at a p) c.args.needed.now c.name.new.needed known.padded held.there (need.size ∙ size) need in
    let some = subst (λ x. 1 ≤ get_or m.reasons x 0) v.value reason.1 in
    let on = go_on all vars m c.args.i c.lit.result n (attached_at a p) c.args.needed.now c.name.new.needed c.args.hints.now.items c.requires.within lit.value
    marks.distinct known.valid held.distinct known.padded here.unit low each need (need.size ∙ size) mine some h in
    subst (λ (ns : List ℕ). IsFoundFromFront all vars m c.args.i c.name.new.needed ns) (sym c.in_ok-name-in-Some.ensures.hints) on

pub returns-in_ok-name-in-Some-clause-on_trail : goal.returns-in_ok-name-in-Some-clause-on_trail
returns-in_ok-name-in-Some-clause-on_trail c = λ h.
    let a = c.args.arena.now in
    let m = c.args.trail.now in
    let v = c.var-v.ensures in
    let lit = c.lit.ensures in
    let p = c.in-Some.c.0 in
    let reason = c.in-Some.ensures.value in
    let here = reason_at a m c.requires.reasons.0 c.args.i c.lit.result c.var-v.result.0 p c.requires.reasons.1 c.requires.within lit.value v.value reason.0
    reason.1 in
    on_trail_more (attached_at a p) m.lits c.args.needed.now c.name.new.needed (reason_on_trail m.lits c.args.i c.lit.result (attached_at a p) c.requires.within
    lit.value here.unit.others) c.name.ensures.needs h
