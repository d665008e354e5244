use Rattle.std.proofs.Common.{◌∙◌, [], sym}
use Rattle.log_trim.specs.Found.{IsDenying}
use Rattle.log_trim.proofs.AssumingLemmas.{assuming_anew, bare_none, assuming_grown, idle_open, none_by}
use Rattle.log_trim.proofs.assumptions.follow.Goals as goal

pub returns-else-is_some-clause-idle : goal.returns-else-is_some-clause-idle
returns-else-is_some-clause-idle c =
    let old = c.args.arena.now in
    let m = c.open.new.trail in
    let n = c.propagate.new.trail in
    let vars = c.args.vars in
    let o = c.open.ensures in
    let p = c.propagate.ensures in
    let start : IsDenying old vars [] m = assuming_anew old vars [] m (o.vars ∙ c.requires.idle.all_vars) (o.watched old c.requires.idle.watched) o.lits o.cuts
    (o.reasons old) (bare_none m) in
    let grown : IsDenying c.propagate.new.self vars [] n = assuming_grown old c.propagate.new.self vars [] m n start p.text p.longer p.reasons p.because p.front
    p.watched in
    idle_open c.propagate.new.self vars n grown (p.longer.cuts ∙ o.cuts) (p.all (none_by c.propagate.result (sym c.is_some.ensures ∙ c.if-is_some.false)))
