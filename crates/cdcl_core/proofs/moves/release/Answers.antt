use Rattle.std.proofs.Common.{◌≡◌, ◌≤◌, ◌-◌, true, get_or, sym, ◌∙◌, ap, subst, inl, inr, arith, length-set}
use Rattle.std.proofs.lemmas.Bool.{cases_eq}
use Rattle.std.proofs.lemmas.List.{get_or_default}
use Rattle.cnf_core.specs.Lit.{Literal, literal}
use Rattle.pick_heap.specs.Heap.{Ranked}
use Rattle.cdcl_core.proofs.HeapLemmas.{put_held, put_more, offered_undone}
use Rattle.cdcl_core.proofs.moves.release.Goals as goal

pub loop-i-preserved : goal.loop-i-preserved
loop-i-preserved c =
    let inv = c.loop-i.invariant in
    let here : c.var-v.result.0 ≡ (get_or c.args.trail.now.lits (c.loop-i.i - 1) (literal 0 true)).var = c.var-v.ensures.value
    ∙ ap (λ (l : Literal). l.var) (sym (get_or_default c.args.trail.now.lits (c.loop-i.i - 1) (literal 0 true) c.lit-l.result
    (let w = inv.within in let t = c.loop-i-test.true in omega arith) ∙ c.lit-l.ensures.value)) in
    record {
      within = let w = inv.within in omega arith;
      vars = ap (λ (h : Ranked). h.vars) c.put_back.ensures.value ∙ inv.vars;
      size = length-set c.loop-i.phases c.var-v.result.0 c.positive.result ∙ inv.size;
      offered = λ l there un. put_more c.loop-i.heap c.put_back.new.self c.var-v.result.0 l.var c.put_back.ensures.value c.put_back.ensures.held
          (inv.offered l there un);
      back = λ j from lt. elim (cases_eq j (c.loop-i.i - 1)) [
        | inl same ↦ put_held c.put_back.new.self c.var-v.result.0 (get_or c.args.trail.now.lits j (literal 0 true)).var
            (here ∙ ap (λ n. (get_or c.args.trail.now.lits n (literal 0 true)).var) (sym same)) c.put_back.ensures.held
        | inr other ↦ put_more c.loop-i.heap c.put_back.new.self c.var-v.result.0 (get_or c.args.trail.now.lits j (literal 0 true)).var c.put_back.ensures.value
            c.put_back.ensures.held (inv.back j (omega arith) lt)
      ];
    }

pub returns-after-loop-i-clause-offered : goal.returns-after-loop-i-clause-offered
returns-after-loop-i-clause-offered c = offered_undone c.loop-i.heap c.args.trail.now c.args.level c.loop-i.i c.len-i.ensures.marks c.requires.level
    (inl (let f = c.loop-i-test.false in omega arith)) c.loop-i.invariant.offered c.loop-i.invariant.back

pub returns-then-level_of-level-clause-offered : goal.returns-then-level_of-level-clause-offered
returns-then-level_of-level-clause-offered c =
    let w = c.loop-i.invariant.within in
    let t = c.loop-i-test.true in
    let is : get_or c.args.trail.now.lits (c.loop-i.i - 1) (literal 0 true) ≡ c.lit-l.result = get_or_default c.args.trail.now.lits (c.loop-i.i - 1)
    (literal 0 true) c.lit-l.result (omega arith) ∙ c.lit-l.ensures.value in
    let low : get_or c.args.trail.now.levels (get_or c.args.trail.now.lits (c.loop-i.i - 1) (literal 0 true)).var 0 ≤ c.args.level =
    subst (λ n. n ≤ c.args.level) (c.level_of.ensures.value ∙ ap (λ v. get_or c.args.trail.now.levels v 0)
    (c.var-v.ensures.value ∙ ap (λ (l : Literal). l.var) (sym is))) c.if-level_of-level.true in
    offered_undone c.loop-i.heap c.args.trail.now c.args.level c.loop-i.i c.len-i.ensures.marks c.requires.level (inr (omega arith, w, low))
    c.loop-i.invariant.offered c.loop-i.invariant.back
