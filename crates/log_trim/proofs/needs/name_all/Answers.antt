use Rattle.std.proofs.Common.{◌≡◌, ◌++◌, ◌∷◌, [], ◌+◌, ◌-◌, ◌∙◌, ℕ, List, length, sym, ap, subst, arith}
use Rattle.watch_arena.specs.Arena.{attached_at}
use Rattle.hint_log.specs.Hint.{numbered}
use Rattle.log_trim.specs.Found.{IsFoundFromFront, number_of_place, is_needed}
use Rattle.std.proofs.lemmas.Bool.{both_ways}
use Rattle.log_trim.proofs.LeanLemmas.{on_trail_more, clash_on_trail}
use Rattle.log_trim.proofs.FoundLemmas.{needs_clause, go_first}
use Rattle.log_trim.proofs.needs.name_all.Goals as goal

pub loop-i-init : goal.loop-i-init
loop-i-init c =
    let a = c.args.arena.now in
    let m = c.args.trail.now in
    let p = c.args.clash.0 in
    let clash = c.requires.clash in
    let need = c.name.ensures.needs in
    let n = number_of_place c.args.numbers.now p in
    let end = c.len-i.ensures.value in
    record {
      size = need.size;
      within = omega (arith, end);
      goes_on = λ vars all taken clauses size.
          let known = clauses.known p clash.place in
          let held = clauses.held (numbered all n) known.among in
          let each = needs_clause vars (numbered all n) (attached_at a p) c.args.needed.now c.name.new.needed known.padded held.there (need.size ∙ size) need in
          let marks = c.len-i.ensures.marks in
          let first = go_first all vars m n (attached_at a p) c.args.needed.now c.name.new.needed marks.distinct known.valid known.padded clash.all_false each
          c.requires.unneeded (need.size ∙ size) need in
          let hints : c.name.new.hints.items ≡ n ∷ [] = c.in_ok-name.ensures.hints ∙ ap (λ (ns : List ℕ). ns ++ n ∷ []) c.requires.none in
          subst (λ (ns : List ℕ). IsFoundFromFront all vars m c.len-i.result c.name.new.needed ns) (sym hints)
          (subst (λ i. IsFoundFromFront all vars m i c.name.new.needed (n ∷ [])) (sym end) first);
      on_trail = on_trail_more (attached_at a p) m.lits c.args.needed.now c.name.new.needed (clash_on_trail m.lits (attached_at a p) clash.all_false) need
          (λ x mark. absurd (both_ways (is_needed c.args.needed.now x) (c.requires.unneeded x) mark));
    }

pub loop-i-preserved : goal.loop-i-preserved
loop-i-preserved c =
    let m = c.args.trail.now in
    let inv = c.loop-i.invariant in
    let one : c.loop-i.i ≡ c.loop-i.i - 1 + 1 = omega (arith, c.loop-i-test.true) in
    record {
      size = c.name_reason.ensures.size ∙ inv.size;
      within = let low = inv.within in omega (arith, low);
      goes_on = λ vars all taken clauses size. c.in_ok-name_reason.ensures.goes_on vars all taken clauses (inv.size ∙ size)
          (subst (λ i. IsFoundFromFront all vars m i c.loop-i.needed c.loop-i.hints.items) one (inv.goes_on vars all taken clauses size));
      on_trail = c.in_ok-name_reason.ensures.on_trail inv.on_trail;
    }

pub returns-clause-goes_on : goal.returns-clause-goes_on
returns-clause-goes_on c = λ vars all taken clauses size.
    let inv = c.loop-i.invariant in
    let end : c.loop-i.i ≡ 0 = omega (arith, c.loop-i-test.false) in
    subst (λ i. IsFoundFromFront all vars c.args.trail.now i c.loop-i.needed c.loop-i.hints.items) end (inv.goes_on vars all taken clauses size)
