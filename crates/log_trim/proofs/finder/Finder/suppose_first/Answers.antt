use Rattle.std.proofs.Common.{◌∷◌}
use Rattle.log_trim.proofs.FoundLemmas.{ends_unfalsified}
use Rattle.log_trim.proofs.FinderLemmas.{clauses_same}
use Rattle.log_trim.proofs.AssumingLemmas.{assuming_grown}
use Rattle.log_trim.proofs.finder.Finder.suppose_first.Goals as goal

pub propagate-requires-clause-vars : goal.propagate-requires-clause-vars
propagate-requires-clause-vars c =
    let old = c.args.self.now in
    let s = c.requires.supposing in
    let start = c.assume_first.ensures old.arena old.vars s.2 s.3.denying in
    start.all_vars

pub propagate-requires-clause-watched : goal.propagate-requires-clause-watched
propagate-requires-clause-watched c =
    let old = c.args.self.now in
    let s = c.requires.supposing in
    let start = c.assume_first.ensures old.arena old.vars s.2 s.3.denying in
    start.watched

pub returns-clause-supposing : goal.returns-clause-supposing
returns-clause-supposing c = λ all taken others h.
    let old = c.args.self.now in
    let p = c.propagate.ensures in
    record {
      clauses = clauses_same old.vars all taken old.arena c.propagate.new.self old.numbers.items h.clauses p.text;
      denying = assuming_grown old.arena c.propagate.new.self old.vars (c.args.first ∷ others) c.assume_first.new.trail c.propagate.new.trail
          (c.assume_first.ensures old.arena old.vars others h.denying) p.text p.longer p.reasons p.because p.front p.watched;
      size = h.size;
      unneeded = h.unneeded;
    }

pub returns-clause-ends : goal.returns-clause-ends
returns-clause-ends c = λ none all taken others h.
    let old = c.args.self.now in
    let start = c.assume_first.ensures old.arena old.vars others h.denying in
    ends_unfalsified old.vars all taken old.arena old.numbers.items (c.args.first ∷ others) c.assume_first.new.trail.lits c.propagate.new.trail.lits h.clauses
    start.whole (c.propagate.ensures.closes none)
