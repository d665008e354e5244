use Rattle.std.proofs.Common.{◌≡◌, ◌≤◌, ◌+◌, ◌∙◌, ℕ, List, sym, ap, subst, rules, arith}
use Rattle.plan_core.specs.Values.{value_of}
use Rattle.refute_check.proofs.JudgeLemmas.{take_next}
use Rattle.log_trim.specs.Wanted.{AreOfLeast}
use Rattle.log_trim.proofs.WantedLemmas.{not_shown, of_shown, of_zero}
use Rattle.log_trim.proofs.wanting.least_lines.Goals.{then-of-gt0+in_ok-place+in-Some+in_ok-push-in-Some, else-of-gt0}
use Rattle.log_trim.proofs.wanting.least_lines.Goals as goal

pub returns-in-None : goal.returns-in-None
returns-in-None c =
    let is = c.of.ensures in
    let more = c.if-of-gt0.true in
    let positive : 1 ≤ value_of c.args.v.now c.get-c.result = omega (arith, more, is) in
    not_shown (value_of c.args.greatest.now) c.args.lines.now c.args.order.now c.deref.result.now c.args.v.now c.args.s c.loop-i.i c.get-c.result
    c.loop-i-test.true c.get-c.ensures (c.deref.ensures.value ∙ c.loop-i.invariant.held) positive
    (rw c.in-None.is at c.in_ok-place.ensures)

pub loop-i-preserved : goal.loop-i-preserved
loop-i-preserved c =
    let greatest = value_of c.args.greatest.now in
    let lines = c.args.lines.now in
    let order = c.args.order.now in
    let v = c.args.v.now in
    let i = c.loop-i.i in
    let old = c.loop-i.wanted.items in
    let is = c.of.ensures in
    record {
      held = take_next order i c.get-c.result c.loop-i.earlier.items c.push-in-loop-i.new.self.items c.get-c.ensures c.loop-i.invariant.held
          c.in_ok-push.ensures.items;
      wanted = elim c.if-of-gt0.branch [
        | then-of-gt0+in_ok-place+in-Some+in_ok-push-in-Some w ↦
            let more = w.if-of-gt0.true in
            let positive : 1 ≤ value_of v c.get-c.result = omega (arith, more, is) in
            of_shown greatest lines order w.deref.result.now v i w.in-Some.place c.get-c.result old c.if-of-gt0.wanted.items c.get-c.ensures
            (w.deref.ensures.value ∙ c.loop-i.invariant.held) positive
            (rw w.in-Some.is at w.in_ok-place.ensures) (ap (λ b. b.items) w.wanted-is ∙ w.in_ok-push-in-Some.ensures.items) c.loop-i.invariant.wanted
        | else-of-gt0 w ↦
            let none = w.if-of-gt0.false in
            let zero : value_of v c.get-c.result ≤ 0 = omega (arith, none, is) in
            subst (λ (ns : List ℕ). AreOfLeast greatest lines order v (i + 1) ns) (sym (ap (λ b. b.items) w.wanted-is))
            (of_zero greatest lines order v i c.get-c.result old c.get-c.ensures zero c.loop-i.invariant.wanted)
      ];
    }

pub returns : goal.returns
returns c =
    let done : c.loop-i.i ≡ c.args.s = search rules in
    subst (λ n. AreOfLeast (value_of c.args.greatest.now) c.args.lines.now c.args.order.now c.args.v.now n c.loop-i.wanted.items) done c.loop-i.invariant.wanted
