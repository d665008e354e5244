use Rattle.std.proofs.Common.{◌≡◌, ◌<◌, ◌++◌, ◌∷◌, ◌∙◌, [], List, ℕ, length, take, sym, ap, arith}
use Rattle.std.proofs.lemmas.List.{take_all, take_more, take_more_set}
use Rattle.cdcl_learn.proofs.analyser.copy_met.Goals as goal

pub loop-i-preserved : goal.loop-i-preserved
loop-i-preserved c =
    let short = c.met_len-len.ensures.short in
    let len = c.met_len-len.ensures.value in
    let room = c.requires in
    let size = c.loop-i.auto.side in
    let lt : c.loop-i.i < length c.args.work.now.met = omega arith in
    take_more_set c.loop-i.side c.loop-i.i c.met.result (omega arith) ∙ ap (λ (ns : List ℕ). ns ++ c.met.result ∷ []) c.loop-i.invariant
    ∙ ap (λ v. take c.loop-i.i c.args.work.now.met ++ v ∷ []) c.met.ensures ∙ sym (take_more c.args.work.now.met c.loop-i.i 0 lt)

pub returns-clause-same : goal.returns-clause-same
returns-clause-same c =
    let len = c.met_len-len.ensures.value in
    let z : c.loop-i.i ≡ c.met_len-len.result = (let a = c.loop-i-test.false in let b = c.loop-i.auto.i-end in omega arith) in
    ap (λ n. take n c.loop-i.side) (sym z) ∙ c.loop-i.invariant ∙ take_all c.loop-i.i c.args.work.now.met (omega arith)
