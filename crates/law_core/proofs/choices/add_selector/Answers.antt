use Rattle.std.proofs.Common.{◌+◌, ◌∷◌, [], List, subst, arith, rules, Ok}
use Rattle.cnf_core.specs.Lit.{Literal, positive_of, negative_of}
use Rattle.cnf_core.specs.Added.{AddsBlock}
use Rattle.law_core.proofs.ChoiceCode.{selector_ok, selector_no_vars, selector_no_room, same_pair}
use Rattle.law_core.proofs.choices.add_selector.Goals as goal

pub returns-in_err-first-clause-adds : goal.returns-in_err-first-clause-adds
returns-in_err-first-clause-adds c =
    let n = c.args.f.now.vars in
    selector_no_vars c.from_residual.result c.args.f.now c.new_vars.new.self (negative_of (n + 1) ∷ positive_of (n + 1 + 1) ∷ []) 8 c.from_residual.ensures.0
    (λ k. c.in_err-first.ensures.room.0 (search (rules, k))) c.in_err-first.ensures.err

pub returns-in_err-add-clause-adds : goal.returns-in_err-add-clause-adds
returns-in_err-add-clause-adds c =
    let is = same_pair c.args.f.now.vars c.in_ok-first.first.0 c.new-off.result c.new.result c.in_ok-first.ensures.var c.new-off.ensures c.new.ensures in
    subst (λ (ls : List Literal). AddsBlock c.from_residual-in_err-add.result c.args.f.now c.add.new.self 2 (ls ∷ []) 8) is
    (selector_no_room c.from_residual-in_err-add.result c.args.f.now c.new_vars.new.self c.add.new.self (c.new-off.result ∷ c.new.result ∷ []) 8 (omega arith)
    c.from_residual-in_err-add.ensures.0
    (λ k. c.in_err-add.ensures.room.0 (search (rules, k))) c.in_ok-first.ensures.ok c.in_err-add.ensures.err)

pub returns-clause-adds : goal.returns-clause-adds
returns-clause-adds c =
    let is = same_pair c.args.f.now.vars c.in_ok-first.first.0 c.new-off.result c.new.result c.in_ok-first.ensures.var c.new-off.ensures c.new.ensures in
    subst (λ (ls : List Literal). AddsBlock (Ok c.new-off.result) c.args.f.now c.add.new.self 2 (ls ∷ []) 8) is
    (selector_ok c.new-off.result c.args.f.now c.new_vars.new.self c.add.new.self (c.new-off.result ∷ c.new.result ∷ []) 8 c.in_ok-first.ensures.ok
    c.in_ok-add.ensures.ok)
