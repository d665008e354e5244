use Rattle.std.proofs.Common.{◌≡◌, ◌+◌, ◌-◌, ◌∷◌, [], take, drop, map, refl, sym, ◌∙◌, ap, subst, arith}
use Rattle.std.proofs.lemmas.List.{map-append}
use Rattle.cnf_core.specs.Formula.{clause_at}
use Rattle.refute_log.specs.declared.line.LogLine.TheVariants.{Formula}
use Rattle.refute_log.specs.Steps.{GoesOn}
use Rattle.cdcl_core.specs.Belongs.{Belongs}
use Rattle.lex_minimise.specs.Told.{HasTaken}
use Rattle.lex_minimise.proofs.TellLemmas.{taken_none, taken_more, goes_nothing, goes_then, told_none, told_next, next_fits}
use Rattle.lex_minimise.proofs.LeftLemmas.{clauses_left}
use Rattle.lex_minimise.proofs.telling.tell_clauses.Goals as goal
use Rattle.outside_io.proofs.Results.{on_err_anyway}

pub loop-number-init : goal.loop-number-init
loop-number-init g c =
    let k = g.L.LogSink in
    let cs = c.args.formula.now.clauses in
    let old = c.args.solver.now in
    let none = told_none cs c.args.from c.args.from refl in
    let same = sym c.expect_clauses.ensures in
    record {
      from = omega arith;
      taken = subst (λ s. HasTaken old s (take (c.args.from - c.args.from) (drop c.args.from cs))) same
          (taken_none old (take (c.args.from - c.args.from) (drop c.args.from cs)) c.requires.working none);
      lines = subst (λ s. GoesOn (λ ls. Belongs ls old) (λ ls. Belongs ls s) (k.tells c.args.log.now) (k.tells c.args.log.now) (k.learnt c.args.log.now)
          (k.learnt c.args.log.now) (λ lines more. more ≡ map Formula (take (c.args.from - c.args.from) (drop c.args.from cs)))) same
          (goes_nothing (λ ls. Belongs ls old) (k.tells c.args.log.now) (k.learnt c.args.log.now)
          (map Formula (take (c.args.from - c.args.from) (drop c.args.from cs))) (ap (map Formula) none));
      later = g.met.L.LogSink.later_same c.args.log.now;
      faults = omega arith;
    }

pub loop-number-preserved : goal.loop-number-preserved
loop-number-preserved g c =
    let k = g.L.LogSink in
    let cs = c.args.formula.now.clauses in
    let n = c.loop-number.number in
    let next = told_next cs c.args.from n c.loop-number.invariant.from (omega arith) in
    record {
      from = (let le = c.loop-number.invariant.from in omega arith);
      taken = taken_more c.args.solver.now c.loop-number.solver c.tell_clause.new.solver (take (n - c.args.from) (drop c.args.from cs))
          (clause_at c.args.formula.now n ∷ []) (take ((n + 1) - c.args.from) (drop c.args.from cs)) c.loop-number.invariant.taken
          c.in_ok-tell_clause.ensures.taken next;
      lines = goes_then (λ ls. Belongs ls c.args.solver.now) (λ ls. Belongs ls c.loop-number.solver) (λ ls. Belongs ls c.tell_clause.new.solver)
          (k.tells c.args.log.now) (k.tells c.loop-number.log) (k.tells c.tell_clause.new.log)
          (k.learnt c.args.log.now) (k.learnt c.loop-number.log) (k.learnt c.tell_clause.new.log) (map Formula (take (n - c.args.from) (drop c.args.from cs)))
          (Formula (clause_at c.args.formula.now n) ∷ []) (map Formula (take ((n + 1) - c.args.from) (drop c.args.from cs)))
          c.loop-number.invariant.lines c.in_ok-tell_clause.ensures.lines (sym (map-append Formula (take (n - c.args.from) (drop c.args.from cs))
          (clause_at c.args.formula.now n ∷ [])) ∙ ap (map Formula) next);
      later = g.met.L.LogSink.later_more c.args.log.now c.loop-number.log c.tell_clause.new.log c.loop-number.invariant.later c.tell_clause.ensures.later;
      faults = (let a = c.loop-number.invariant.faults in let b = c.tell_clause.ensures.faults in omega arith);
    }

pub tell_clause-requires-clause-fits : goal.tell_clause-requires-clause-fits
tell_clause-requires-clause-fits g c =
    let cs = c.args.formula.now.clauses in
    let n = c.loop-number.number in
    let fits = next_fits cs c.args.from n c.args.solver.now.words c.args.solver.now.room c.loop-number.invariant.from (omega arith) c.requires.fits in
    let words = c.loop-number.invariant.taken.words in
    let room = c.loop-number.invariant.taken.room in
    omega (arith, fits, words, room)

pub returns-in_err-tell_clause-clause-leaves : goal.returns-in_err-tell_clause-clause-leaves
returns-in_err-tell_clause-clause-leaves g c =
    let k = g.L.LogSink in
    on_err_anyway _ _ (clauses_left (λ ls. Belongs ls c.args.solver.now) (λ ls. Belongs ls c.loop-number.solver) (k.tells c.args.log.now)
    (k.tells c.loop-number.log) (k.tells c.tell_clause.new.log) (k.learnt c.args.log.now) (k.learnt c.loop-number.log)
    c.args.formula.now.clauses c.args.from c.loop-number.number c.loop-number.invariant.from (omega arith) c.loop-number.invariant.lines
    c.in_err-tell_clause.ensures.leaves)
