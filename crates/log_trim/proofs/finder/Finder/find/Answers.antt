use Rattle.cnf_core.specs.Lit.{has}
use Rattle.log_trim.proofs.FoundLemmas.{never_follows}
use Rattle.log_trim.proofs.finder.Finder.find.Goals as goal

pub take_back-requires : goal.take_back-requires
take_back-requires c = let f = c.requires.finder in (f.0, f.1, c.args.lits.now, c.suppose.ensures.supposing f.0 f.1 f.2)

pub hints_to-requires-clause-supposing : goal.hints_to-requires-clause-supposing
hints_to-requires-clause-supposing c = let f = c.requires.finder in (f.0, f.1, c.args.lits.now, c.suppose.ensures.supposing f.0 f.1 f.2)

pub returns-in-None-clause-finder : goal.returns-in-None-clause-finder
returns-in-None-clause-finder c = λ all taken h. c.take_back.ensures.finder all taken c.args.lits.now (c.suppose.ensures.supposing all taken h)

pub returns-in-None-clause-found : goal.returns-in-None-clause-found
returns-in-None-clause-found c = λ all taken h rup. never_follows taken c.args.lits.now (has c.suppose.new.self.trail.lits)
    (c.suppose.ensures.ends c.in-None.is all taken h) rup

pub returns-in_ok-hints-in-Some-clause-finder : goal.returns-in_ok-hints-in-Some-clause-finder
returns-in_ok-hints-in-Some-clause-finder c = λ all taken h. c.in_ok-hints-in-Some.ensures.finder all taken c.args.lits.now
    (c.suppose.ensures.supposing all taken h)

pub returns-in_ok-hints-in-Some-clause-found : goal.returns-in_ok-hints-in-Some-clause-found
returns-in_ok-hints-in-Some-clause-found c = λ all taken h.
    let s = c.suppose.ensures.supposing all taken h in
    (c.in_ok-hints-in-Some.ensures.follows all taken c.args.lits.now s, c.in_ok-hints-in-Some.ensures.good all taken c.args.lits.now s)
