use Rattle.std.proofs.Common.{sym, ◌∙◌, subst}
use Rattle.search_least.specs.Task.{greatest_of}
use Rattle.trade_off.proofs.TellLemmas.{zero_caps, zero_vars, zero_lines, whole_caps, whole_vars, lines_whole}
use Rattle.refute_log.specs.Expected.{sum_lines}
use Rattle.refute_log.specs.Steps.{Leaves}
use Rattle.trade_off.proofs.building.build_whole.Goals as goal
use Rattle.outside_io.proofs.Results.{on_err_anyway}

pub returns-then-most-eq0-clause-caps : goal.returns-then-most-eq0-clause-caps
returns-then-most-eq0-clause-caps g c = let o = g.O.Oracle in
    λ whole d. zero_caps (o.caps c.args.oracle.now) c.args.c d (greatest_of (o.task c.args.oracle.now) c.args.c)
    (sym c.greatest-most.ensures ∙ c.if-most-eq0.true) c.requires.none

pub returns-then-most-eq0-clause-vars : goal.returns-then-most-eq0-clause-vars
returns-then-most-eq0-clause-vars g c = let o = g.O.Oracle in
    λ whole. zero_vars (o.task c.args.oracle.now) (o.vars c.args.oracle.now) c.args.c (sym c.greatest-most.ensures ∙ c.if-most-eq0.true)

pub returns-then-most-eq0-clause-lines : goal.returns-then-most-eq0-clause-lines
returns-then-most-eq0-clause-lines g c = let o = g.O.Oracle in let t = g.O.LogTeller in
    zero_lines t.knows t.log t.learnt c.args.oracle.now (o.task c.args.oracle.now) (o.vars c.args.oracle.now) c.args.c
    (sym c.greatest-most.ensures ∙ c.if-most-eq0.true)

pub returns-clause-caps : goal.returns-clause-caps
returns-clause-caps g c = let o = g.O.Oracle in
    let a = c.args.oracle.now in
    let e = c.build.new.self in
    λ whole d. whole_caps (o.task a) (o.caps a) (o.vars a) c.args.c c.greatest-most.result c.in_ok-built.built (o.caps e) (o.vars e) d whole
    c.greatest-most.ensures c.in_ok-built.ensures.built

pub returns-clause-vars : goal.returns-clause-vars
returns-clause-vars g c = let o = g.O.Oracle in
    let a = c.args.oracle.now in
    let e = c.build.new.self in
    λ whole. whole_vars (o.task a) (o.caps a) (o.vars a) c.args.c c.greatest-most.result c.in_ok-built.built (o.caps e) (o.vars e) whole c.greatest-most.ensures
    c.in_ok-built.ensures.built

pub returns-clause-lines : goal.returns-clause-lines
returns-clause-lines g c = let o = g.O.Oracle in let t = g.O.LogTeller in
    let a = c.args.oracle.now in
    lines_whole t.knows t.log t.learnt a c.build.new.self (o.task a) (o.vars a) c.args.c c.greatest-most.result c.in_ok-built.built c.greatest-most.ensures
    c.in_ok-built.ensures.lines

pub returns-in_err-built-clause-leaves : goal.returns-in_err-built-clause-leaves
returns-in_err-built-clause-leaves g c = let o = g.O.Oracle in let t = g.O.LogTeller in
    let a = c.args.oracle.now in
    on_err_anyway _ _ (subst (λ n. Leaves 0 (sum_lines (o.task a).encoding (o.vars a) c.args.c n) (t.knows a) (t.log a)
    (t.log c.build.new.self))
    c.greatest-most.ensures c.in_err-built.ensures.leaves)
