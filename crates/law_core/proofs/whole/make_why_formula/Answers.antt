use Rattle.std.proofs.Common.{◌<◌, ◌≤◌, ◌⊎◌, List, map, ◌∙◌, ap, subst, rules}
use Rattle.plan_core.specs.Lawful.{Instance}
use Rattle.cnf_core.specs.declared.limits.TheConstants.{VARS}
use Rattle.cnf_core.specs.Clause.{words_of}
use Rattle.law_core.specs.declared.parties.Law.{Law}
use Rattle.law_core.specs.Law.{instance_of}
use Rattle.law_core.specs.Choices.{loose_clauses, loose_size}
use Rattle.law_core.proofs.ListLemmas.{listed_parties}
use Rattle.law_core.proofs.whole.make_why_formula.Goals as goal

pub loose_formula-requires-clause-parties : goal.loose_formula-requires-clause-parties
loose_formula-requires-clause-parties c =
    listed_parties c.args.g.now c.args.t.now c.deref.result.now c.requires.order (ap (λ (ls : List Law). map instance_of ls) c.deref.ensures.value
    ∙ c.in_ok-laws.ensures)

pub returns-clause-clauses : goal.returns-clause-clauses
returns-clause-clauses c =
    c.in_ok-formula.ensures.clauses ∙ ap (λ (is : List Instance). loose_clauses c.args.g.now c.args.grid.now is)
    (ap (λ (ls : List Law). map instance_of ls) c.deref.ensures.value ∙ c.in_ok-laws.ensures)

pub returns-clause-vars : goal.returns-clause-vars
returns-clause-vars c =
    c.in_ok-formula.ensures.vars ∙ ap (λ (is : List Instance). loose_size c.args.g.now c.args.grid.now is)
    (ap (λ (ls : List Law). map instance_of ls) c.deref.ensures.value ∙ c.in_ok-laws.ensures)

pub returns-clause-words_fit : goal.returns-clause-words_fit
returns-clause-words_fit c = λ ok.
    subst (λ (is : List Instance). words_of (loose_clauses c.args.g.now c.args.grid.now is) ≤ c.args.room)
    (ap (λ (ls : List Law). map instance_of ls) c.deref.ensures.value ∙ c.in_ok-laws.ensures) (c.in_ok-formula.ensures.words_fit (search (rules, ok)))

pub returns-clause-vars_fit : goal.returns-clause-vars_fit
returns-clause-vars_fit c = λ ok.
    subst (λ (is : List Instance). loose_size c.args.g.now c.args.grid.now is ≤ VARS)
    (ap (λ (ls : List Law). map instance_of ls) c.deref.ensures.value ∙ c.in_ok-laws.ensures) (c.in_ok-formula.ensures.vars_fit (search (rules, ok)))

pub returns-in_err-formula-clause-full : goal.returns-in_err-formula-clause-full
returns-in_err-formula-clause-full c = λ k.
    subst (λ (is : List Instance). (VARS < loose_size c.args.g.now c.args.grid.now is) ⊎
    (c.args.room < words_of (loose_clauses c.args.g.now c.args.grid.now is)))
    (ap (λ (ls : List Law). map instance_of ls) c.deref.ensures.value ∙ c.in_ok-laws.ensures) (c.in_err-formula.ensures.full (search (rules, k)))
