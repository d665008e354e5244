use Rattle.log_trim.proofs.FoundLemmas.{ends_unfalsified}
use Rattle.log_trim.proofs.FinderLemmas.{clauses_same}
use Rattle.log_trim.proofs.AssumingLemmas.{assuming_grown}
use Rattle.log_trim.proofs.finder.Finder.suppose.Goals as goal

pub returns-clause-supposing : goal.returns-clause-supposing
returns-clause-supposing c = λ all taken h.
    let old = c.args.self.now in
    let lits = c.args.lits.now in
    let p = c.propagate.ensures in
    let first = clauses_same old.vars all taken old.arena c.follow.new.arena old.numbers.items h.clauses c.follow.ensures.text in
    record {
      clauses = clauses_same old.vars all taken c.follow.new.arena c.propagate.new.self old.numbers.items first p.text;
      denying = assuming_grown c.follow.new.arena c.propagate.new.self old.vars lits c.assume.new.trail c.propagate.new.trail
          (c.assume.ensures c.follow.new.arena c.follow.ensures.idle) p.text p.longer p.reasons p.because p.front p.watched;
      size = h.size;
      unneeded = h.unneeded;
    }

pub returns-clause-ends : goal.returns-clause-ends
returns-clause-ends c = λ none all taken h.
    let old = c.args.self.now in
    let start = c.assume.ensures c.follow.new.arena c.follow.ensures.idle in
    ends_unfalsified old.vars all taken c.follow.new.arena old.numbers.items c.args.lits.now c.assume.new.trail.lits c.propagate.new.trail.lits
    (clauses_same old.vars all taken old.arena c.follow.new.arena old.numbers.items h.clauses c.follow.ensures.text) start.whole
    (c.propagate.ensures.closes none)
