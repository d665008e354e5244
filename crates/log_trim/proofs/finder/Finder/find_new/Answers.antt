use Rattle.std.proofs.Common.{◌≡◌, ◌-◌, ◌∷◌, List, length, take, drop, inl, sym, subst}
use Rattle.cnf_core.specs.Lit.{Literal}
use Rattle.refute_check.specs.Kept.{IsKnownClause}
use Rattle.refute_check.proofs.CheckerLemmas.{split_first}
use Rattle.log_trim.specs.Found.{ShowsNewOrNone}
use Rattle.log_trim.proofs.FoundLemmas.{clash_falsifies}
use Rattle.log_trim.proofs.finder.Finder.find_new.Goals as goal

pub take_back-requires : goal.take_back-requires
take_back-requires c = let f = c.requires.finder in (
  f.0,
  f.1,
  take (length c.args.lits.now - 1) (drop 1 c.args.lits.now),
  c.suppose.ensures.supposing f.0 f.1
      f.2,
)

pub find_first-requires-clause-supposing : goal.find_first-requires-clause-supposing
find_first-requires-clause-supposing c = let f = c.requires.finder in (
  f.0,
  f.1,
  take (length c.args.lits.now - 1) (drop 1 c.args.lits.now),
  c.suppose.ensures.supposing f.0 f.1 f.2,
)

pub returns-in-Some-clause-finder : goal.returns-in-Some-clause-finder
returns-in-Some-clause-finder c = λ all taken h. c.take_back.ensures.finder all taken (take (length c.args.lits.now - 1) (drop 1 c.args.lits.now))
    (c.suppose.ensures.supposing all taken h)

pub returns-in-Some-clause-found : goal.returns-in-Some-clause-found
returns-in-Some-clause-found c = λ all taken h rup.
    let lits = c.args.lits.now in
    let others = take (length lits - 1) (drop 1 lits) in
    let n = c.suppose.new.self in
    let s = c.suppose.ensures.supposing all taken h in
    subst (IsKnownClause taken) (sym (split_first lits c.index-lits-0.result c.requires.some c.index-lits-0.is))
    (inl (clash_falsifies n.vars all taken n.arena n.numbers.items others n.trail s.clauses s.denying.reasons c.in-Some.field-0.0 c.in-Some.ensures.clash))

pub returns-in_ok-found-in-None-clause-finder : goal.returns-in_ok-found-in-None-clause-finder
returns-in_ok-found-in-None-clause-finder c = λ all taken h. c.in_ok-found-in-None.ensures.finder all taken
    (take (length c.args.lits.now - 1) (drop 1 c.args.lits.now)) (c.suppose.ensures.supposing all taken h)

pub returns-in_ok-found-in-None-clause-found : goal.returns-in_ok-found-in-None-clause-found
returns-in_ok-found-in-None-clause-found c = λ all taken h.
    let lits = c.args.lits.now in
    let others = take (length lits - 1) (drop 1 lits) in
    subst (λ (ls : List Literal). ShowsNewOrNone all taken ls c.in_ok-found-in-None.found)
    (sym (split_first lits c.index-lits-0.result c.requires.some c.index-lits-0.is))
    (c.in_ok-found-in-None.ensures.found all taken others (c.suppose.ensures.supposing all taken h) (c.suppose.ensures.ends c.in-None.is all taken h))
