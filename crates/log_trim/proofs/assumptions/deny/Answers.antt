use Rattle.std.proofs.Common.{◌≡◌, ◌∙◌, ◌++◌, ◌∷◌, ◌+◌, [], List, take, get_or, map, sym, ap, subst, arith, append_assoc}
use Rattle.cnf_core.specs.Lit.{Literal, negate}
use Rattle.cnf_core.specs.Clause.{IsThere}
use Rattle.cnf_core.proofs.TrailLemmas.{there_get}
use Rattle.watch_arena.specs.Trail.{Marks, IsUnset}
use Rattle.log_trim.specs.Found.{HaveNoReason}
use Rattle.log_trim.proofs.AssumingLemmas.{next_unset, negation_in, reasons_with, bare_with}
use Rattle.hint_log.proofs.NegationLemmas.{negations_more}
use Rattle.log_trim.proofs.assumptions.deny.Goals as goal

pub set-requires-clause-there : goal.set-requires-clause-there
set-requires-clause-there c =
    let inv = c.loop-l.invariant in
    let there = there_get c.args.trail.now.vars c.args.lits.now c.loop-l.l-index c.l-item.result c.loop-l-test.true c.requires.there in
    let here : IsThere c.args.trail.now.vars c.negated.result = subst (λ (k : Literal). IsThere c.args.trail.now.vars k) (sym c.negated.ensures)
    (subst (λ (k : Literal). IsThere c.args.trail.now.vars k) (sym c.l-item.is) there) in
    (here.0, omega (arith, here.1, inv.vars))

pub set-requires-clause-unset : goal.set-requires-clause-unset
set-requires-clause-unset c =
    let inv = c.loop-l.invariant in
    subst (λ (ls : List Literal). IsUnset ls c.negated.result) (sym inv.so_far)
    (next_unset c.args.trail.now.lits c.args.lits.now c.loop-l.l-index c.l-item.result c.negated.result c.requires.distinct c.requires.unset c.loop-l-test.true
    (c.negated.ensures ∙ ap negate c.l-item.is))

pub loop-l-preserved : goal.loop-l-preserved
loop-l-preserved c =
    let inv = c.loop-l.invariant in
    let value = c.set.ensures.value in
    let front = c.args.trail.now.lits in
    let lits = c.args.lits.now in
    let i = c.loop-l.l-index in
    let k = c.negated.result in
    let is : k ≡ negate (get_or lits i c.l-item.result) = c.negated.ensures ∙ ap negate c.l-item.is in
    let pushed : c.set.new.self.lits ≡ c.loop-l.trail.lits ++ k ∷ [] = ap (λ (x : Marks). x.lits) value in
    let unset : IsUnset c.loop-l.trail.lits k = subst (λ (ls : List Literal). IsUnset ls k) (sym inv.so_far)
    (next_unset front lits i c.l-item.result k c.requires.distinct c.requires.unset c.loop-l-test.true is) in
    record {
      vars = ap (λ (x : Marks). x.vars) value ∙ inv.vars;
      so_far = pushed ∙ ap (λ (ls : List Literal). ls ++ k ∷ []) inv.so_far ∙ append_assoc front (map negate (take i lits)) (k ∷ [])
          ∙ ap (λ (x : Literal). front ++ (map negate (take i lits) ++ x ∷ [])) is
          ∙ ap (λ (ls : List Literal). front ++ ls) (sym (negations_more lits i c.l-item.result c.loop-l-test.true));
      cuts = ap (λ (x : Marks). x.cuts) value ∙ inv.cuts;
      front = ap (λ (x : Marks). x.front) value ∙ inv.front;
      reasons = λ a given wider h. reasons_with a c.loop-l.trail c.set.new.self k given unset pushed (ap (λ (x : Marks). x.reasons) value)
          (wider k (negation_in lits i c.l-item.result k c.loop-l-test.true is)) (inv.reasons a given wider h);
      bare = λ ls h.
          let more : map negate (take (i + 1) lits) ≡ map negate (take i lits) ++ k ∷ [] = negations_more lits i c.l-item.result c.loop-l-test.true
          ∙ ap (λ (x : Literal). map negate (take i lits) ++ x ∷ []) (sym is) in
          subst (λ (ks : List Literal). HaveNoReason c.set.new.self ks) (append_assoc ls (map negate (take i lits)) (k ∷ [])
          ∙ ap (λ (ks : List Literal). ls ++ ks) (sym more))
          (bare_with c.loop-l.trail c.set.new.self k (ls ++ map negate (take i lits)) (ap (λ (x : Marks). x.reasons) value) (inv.bare ls h));
      watched = λ a w. c.set.ensures.watched a (inv.watched a w);
    }
