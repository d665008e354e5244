use Rattle.std.proofs.Common.{◌++◌, ◌∷◌, [], List, take, sym, subst, arith}
use Rattle.std.proofs.lemmas.List.{take_more}
use Rattle.cnf_core.specs.Lit.{Literal}
use Rattle.cnf_core.specs.Clause.{AreThere, IsThere}
use Rattle.cnf_core.proofs.ClauseLemmas.{there_more}
use Rattle.cnf_core.proofs.GatherLemmas.{there_push}
use Rattle.cnf_core.proofs.TrailLemmas.{there_get}
use Rattle.log_trim.proofs.hint_trimming.greatest.Goals as goal

pub loop-l-preserved : goal.loop-l-preserved
loop-l-preserved c =
    let inv = c.loop-l.invariant in
    let v = c.var.ensures in
    let is = c.max-most.ensures in
    let here : IsThere c.max-most.result c.l-item.result = (omega (arith, v.from, v.value), omega (arith, v.value, is)) in
    let so_far : AreThere c.max-most.result (take c.loop-l.l-index c.args.lits.now) = there_more c.loop-l.most c.max-most.result
    (take c.loop-l.l-index c.args.lits.now) (omega (arith, is)) inv.there in
    let all : AreThere c.max-most.result (take c.loop-l.l-index c.args.lits.now ++ c.l-item.result ∷ []) = there_push c.max-most.result
    (take c.loop-l.l-index c.args.lits.now) c.l-item.result so_far here in
    record {
      there = subst (λ (ls : List Literal). AreThere c.max-most.result ls) (sym (take_more c.args.lits.now c.loop-l.l-index c.l-item.result c.loop-l-test.true))
          (subst (λ (k : Literal). AreThere c.max-most.result (take c.loop-l.l-index c.args.lits.now ++ k ∷ [])) c.l-item.is all);
      least = λ n h.
          let below : IsThere n c.l-item.result = subst (λ (k : Literal). IsThere n k) (sym c.l-item.is)
          (there_get n c.args.lits.now c.loop-l.l-index c.l-item.result c.loop-l-test.true h) in
          let low = inv.least n h in
          omega (arith, v.value, is, low, below.1);
      limit = let low = inv.limit in omega (arith, v.to, is, low);
    }
