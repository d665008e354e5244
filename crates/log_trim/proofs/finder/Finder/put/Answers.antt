use Rattle.std.proofs.Common.{ℕ}
use Rattle.watch_arena.specs.Trail.{Marks}
use Rattle.watch_arena.specs.Arena.{Attached, AreWatched}
use Rattle.log_trim.specs.Found.{IsAtRest}
use Rattle.log_trim.proofs.FinderLemmas.{clauses_more}
use Rattle.log_trim.proofs.AssumingLemmas.{idle_more}
use Rattle.log_trim.proofs.finder.Finder.put.Goals as goal

left_watched : (a : Attached) (vars : ℕ) (m : Marks) → IsAtRest a vars m → AreWatched a m
left_watched a vars m h = h.watched

pub returns-clause-finder : goal.returns-clause-finder
returns-clause-finder c = λ all taken clause h this.
    let old = c.args.self.now in
    let d = c.args.lits.now in
    let p = c.in_ok-c.c.0 in
    let text = c.in_ok-c.ensures in
    let left = c.make_way.ensures.idle old.arena old.vars h.idle in
    record {
      clauses = clauses_more old.vars all taken old.arena c.attach.new.arena old.numbers.items c.number.new.numbers.items clause d p c.args.n h.clauses
          text.places text.clause text.others text.attached this.padded this.there this.distinct this.valid this.is c.in_ok-number.ensures;
      idle = idle_more old.arena c.attach.new.arena old.vars p c.make_way.new.trail left text.others text.places
          (text.watched c.make_way.new.trail (left_watched old.arena old.vars c.make_way.new.trail left) c.make_way.ensures.open_);
      size = h.size;
      unneeded = h.unneeded;
    }
