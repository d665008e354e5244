use Rattle.std.proofs.Common.{arith}
use Rattle.hint_log.proofs.CheckerLemmas.{kept_more}
use Rattle.hint_log.proofs.kept.KeptClauses.keep.Goals as goal

pub invariant_of-self-2 : goal.invariant_of-self-2
invariant_of-self-2 c = kept_more c.self.inside.given.clauses c.self.inside.learnt.items c.push.new.self.items c.self.inside.words c.self.inside.marks
    c.args.lits.items c.len-length.result c.self.invariant (rw c.from_vec.ensures at c.in_ok-push.ensures.items)
    (omega (arith, c.len-length.ensures, c.args.lits.ok.0))
