use Rattle.std.proofs.Common.{◌∙◌, List, length, sym, ap, subst, arith}
use Rattle.outside_io.proofs.Results.{on_err_anyway}
use Rattle.cnf_core.specs.Lit.{Literal}
use Rattle.cnf_core.specs.Clause.{AreThere}
use Rattle.refute_log.specs.declared.line.LogLine.TheVariants.{Formula}
use Rattle.refute_log.specs.Told.{Lines, AddsLine}
use Rattle.refute_log.specs.Lines.{MayBeTold}
use Rattle.cdcl_core.specs.Belongs.{BelongsTo}
use Rattle.cdcl_core.specs.Search.{clauses, IsKeptOne}
use Rattle.cdcl_core.proofs.ConflictLemmas.{formula_told}
use Rattle.cdcl_core.proofs.LeftLemmas.{most_same, most_refused, most_told}
use Rattle.cdcl_core.proofs.RoundLemmas.{given_err, still_same, still_refused}
use Rattle.cdcl_core.proofs.StepLemmas.{not_err}
use Rattle.cdcl_core.proofs.search.Search.add_fitting.Goals as goal

pub tell-requires : goal.tell-requires
tell-requires g c = subst (λ (q : List Literal). MayBeTold (Formula q)) (sym c.in_ok-filled.ensures)
    (formula_told c.args.self.now c.args.lits.now c.requires.idle.search c.requires.there c.requires.distinct)

pub keep_given-requires-clause-there : goal.keep_given-requires-clause-there
keep_given-requires-clause-there g c = subst (AreThere c.args.self.now.trail.vars) (sym (c.into_clause.ensures ∙ c.in_ok-filled.ensures)) c.requires.there

pub keep_given-requires-clause-room : goal.keep_given-requires-clause-room
keep_given-requires-clause-room g c = let e = ap length (c.into_clause.ensures ∙ c.in_ok-filled.ensures) in let r = c.requires.room in omega arith

pub returns-clause-kept : goal.returns-clause-kept
returns-clause-kept g c =
    let k = c.in_ok-keep_given.ensures.kept in
    subst (IsKeptOne c.args.self.now c.keep_given.new.self) (c.into_clause.ensures ∙ c.in_ok-filled.ensures)
    (record { clauses = k.clauses; words = k.words; room = k.room; vars = k.vars; visits = k.visits })

pub returns-clause-told : goal.returns-clause-told
returns-clause-told g c = subst (λ (q : List Literal). AddsLine (g.L.LogSink.tells c.args.log.now) (g.L.LogSink.tells c.tell.new.self) (Formula q))
    c.in_ok-filled.ensures c.in_ok-tell.ensures.ok

pub returns-in_err-filled-clause-derives : goal.returns-in_err-filled-clause-derives
returns-in_err-filled-clause-derives g c = on_err_anyway _ _ (still_same (g.L.LogSink.tells c.args.log.now)
    (λ (lines : Lines). BelongsTo lines (clauses c.args.self.now) c.args.self.now.words) (g.met.L.LogSink.one_reading c.args.log.now) (λ lines b. b.derives))

pub returns-in_err-tell-clause-derives : goal.returns-in_err-tell-clause-derives
returns-in_err-tell-clause-derives g c = on_err_anyway _ _ (still_refused (g.L.LogSink.tells c.args.log.now) (g.L.LogSink.tells c.tell.new.self)
    (λ (lines : Lines). BelongsTo lines (clauses c.args.self.now) c.args.self.now.words) (g.met.L.LogSink.one_reading c.args.log.now) c.in_err-tell.ensures.err
    (λ lines b. b.derives))

pub returns-in_err-keep_given-clause-derives : goal.returns-in_err-keep_given-clause-derives
returns-in_err-keep_given-clause-derives g c = on_err_anyway _ _ (given_err (g.L.LogSink.tells c.args.log.now) (g.L.LogSink.tells c.tell.new.self)
    c.args.self.now c.in_ok-filled.field-0
    (subst (λ (q : List Literal). MayBeTold (Formula q)) (sym c.in_ok-filled.ensures)
    (formula_told c.args.self.now c.args.lits.now c.requires.idle.search c.requires.there c.requires.distinct)) (g.met.L.LogSink.one_reading c.tell.new.self)
    c.in_ok-tell.ensures.ok)

pub returns-in_err-filled-clause-gives : goal.returns-in_err-filled-clause-gives
returns-in_err-filled-clause-gives g c = on_err_anyway _ _ (most_same (g.L.LogSink.tells c.args.log.now) c.args.lits.now
    (g.met.L.LogSink.one_reading c.args.log.now))

pub returns-in_err-tell-clause-gives : goal.returns-in_err-tell-clause-gives
returns-in_err-tell-clause-gives g c = on_err_anyway _ _ (most_refused (g.L.LogSink.tells c.args.log.now) (g.L.LogSink.tells c.tell.new.self) c.args.lits.now
    (g.met.L.LogSink.one_reading c.args.log.now) c.in_err-tell.ensures.err)

pub returns-in_err-keep_given-clause-gives : goal.returns-in_err-keep_given-clause-gives
returns-in_err-keep_given-clause-gives g c = on_err_anyway _ _ (most_told (g.L.LogSink.tells c.args.log.now) (g.L.LogSink.tells c.tell.new.self) c.args.lits.now
    (g.met.L.LogSink.one_reading c.tell.new.self)
    (subst (λ (q : List Literal). AddsLine (g.L.LogSink.tells c.args.log.now) (g.L.LogSink.tells c.tell.new.self) (Formula q)) c.in_ok-filled.ensures
    c.in_ok-tell.ensures.ok))

pub returns-clause-cause : goal.returns-clause-cause
returns-clause-cause g c = λ e. absurd (not_err _ _ e)

pub returns-clause-fits : goal.returns-clause-fits
returns-clause-fits g c = λ e. absurd (not_err _ _ e)
