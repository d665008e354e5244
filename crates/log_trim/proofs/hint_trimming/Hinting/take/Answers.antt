use Rattle.std.proofs.Common.{◌≡◌, ◌≤◌, ◌+◌, Some, ap, subst, refl, sym, ◌∙◌, List, length, take, arith}
use Rattle.std.proofs.lemmas.Bool.{both_ways}
use Rattle.std.specs.Prelude.{flat_map, slice_get}
use Rattle.cnf_core.specs.Lit.{Literal}
use Rattle.cnf_core.specs.Clause.{AreThere}
use Rattle.refute_log.specs.Lines.{MayBeTold}
use Rattle.refute_log.specs.Log.{added}
use Rattle.refute_log.specs.declared.line.LogLine.TheVariants.{Formula, Learnt, Refuted}
use Rattle.log_trim.specs.Hinting.{nameable}
use Rattle.log_trim.proofs.HintedLemmas.{within_at, hinted_refuted, hinted_past}
use Rattle.log_trim.proofs.HintingLemmas.{formula_fits, learnt_fits, took_formula, took_learnt, learnt_fails, took_refuted, refuted_fails, took_other}
use Rattle.log_trim.proofs.hint_trimming.Hinting.take.Goals as goal

pub overflow_add-self : goal.overflow_add-self
overflow_add-self c =
    let e : slice_get c.args.lines.now c.args.i ≡ Some (Formula c.in-Formula.c) = rw c.in-Formula.is at c.get.ensures.value in
    let fits = formula_fits c.args.lines.now c.args.i c.args.self.now.formula c.in-Formula.c e c.requires.hinting.formula c.requires.few in
    omega (arith, fits)

pub add-requires-clause-there : goal.add-requires-clause-there
add-requires-clause-there c =
    let e : slice_get c.args.lines.now c.args.i ≡ Some (Formula c.in-Formula.c) = rw c.in-Formula.is at c.get.ensures.value in
    let lits = c.as_slice.result.now in
    let f : slice_get c.args.lines.now c.args.i ≡ Some (Formula lits) = e ∙ ap (λ (k : List Literal). Some (Formula k)) (sym c.as_slice.ensures.value) in
    within_at c.args.self.now.finder.vars c.args.lines.now c.args.i (Formula lits) c.requires.hinting.within f

pub returns-in_ok-add-in-Formula : goal.returns-in_ok-add-in-Formula
returns-in_ok-add-in-Formula c =
    let e : slice_get c.args.lines.now c.args.i ≡ Some (Formula c.in-Formula.c) = rw c.in-Formula.is at c.get.ensures.value in
    let lits = c.as_slice.result.now in
    let f : slice_get c.args.lines.now c.args.i ≡ Some (Formula lits) = e ∙ ap (λ (k : List Literal). Some (Formula k)) (sym c.as_slice.ensures.value) in
    let t = c.in_ok-add-in-Formula.ensures in
    took_formula c.args.lines.now c.args.wanted.now c.args.i (c.args.self.now.formula + 1) lits c.args.self.now _ f c.requires.wanted c.requires.timely
    c.requires.hinting t.vars t.finder refl refl refl refl

pub find_new-requires-clause-there : goal.find_new-requires-clause-there
find_new-requires-clause-there c =
    let e : slice_get c.args.lines.now c.args.i ≡ Some (Learnt c.in-Learnt.c) = rw c.in-Learnt.is at c.get.ensures.value in
    let lits = c.as_slice-lits.result.now in
    let f : slice_get c.args.lines.now c.args.i ≡ Some (Learnt lits) = e ∙ ap (λ (k : List Literal). Some (Learnt k)) (sym c.as_slice-lits.ensures.value) in
    within_at c.args.self.now.finder.vars c.args.lines.now c.args.i (Learnt lits) c.requires.hinting.within f

pub returns-in-None : goal.returns-in-None
returns-in-None c =
    let e : slice_get c.args.lines.now c.args.i ≡ Some (Learnt c.in-Learnt.c) = rw c.in-Learnt.is at c.get.ensures.value in
    let lits = c.as_slice-lits.result.now in
    let f : slice_get c.args.lines.now c.args.i ≡ Some (Learnt lits) = e ∙ ap (λ (k : List Literal). Some (Learnt k)) (sym c.as_slice-lits.ensures.value) in
    learnt_fails c.args.lines.now c.args.wanted.now c.args.i lits c.in_ok-find_new-in-Learnt.field-0 c.args.self.now f c.requires.hinting
    c.in_ok-find_new-in-Learnt.ensures.found c.in-None.is

pub overflow_add-self-in-Some : goal.overflow_add-self-in-Some
overflow_add-self-in-Some c =
    let e : slice_get c.args.lines.now c.args.i ≡ Some (Learnt c.in-Learnt.c) = rw c.in-Learnt.is at c.get.ensures.value in
    let fits = learnt_fits c.args.lines.now c.args.i c.args.self.now.learnt c.in-Learnt.c e c.requires.hinting.learnt c.requires.few in
    omega (arith, fits)

pub add-requires-in-Some-clause-finder : goal.add-requires-in-Some-clause-finder
add-requires-in-Some-clause-finder c =
    let old = c.requires.hinting in
    let all = nameable c.args.lines.now c.args.i in
    let taken = flat_map added (take c.args.i c.args.lines.now) in
    (all, taken, c.in_ok-find_new-in-Learnt.ensures.finder all taken old.finder)

pub add-requires-in-Some-clause-there : goal.add-requires-in-Some-clause-there
add-requires-in-Some-clause-there c =
    let e : slice_get c.args.lines.now c.args.i ≡ Some (Learnt c.in-Learnt.c) = rw c.in-Learnt.is at c.get.ensures.value in
    let lits = c.as_slice-lits.result.now in
    let f : slice_get c.args.lines.now c.args.i ≡ Some (Learnt lits) = e ∙ ap (λ (k : List Literal). Some (Learnt k)) (sym c.as_slice-lits.ensures.value) in
    let vars = c.in_ok-find_new-in-Learnt.ensures.vars in
    subst (λ n. AreThere n lits) (sym vars) (within_at c.args.self.now.finder.vars c.args.lines.now c.args.i (Learnt lits) c.requires.hinting.within f)

pub find-requires-clause-there : goal.find-requires-clause-there
find-requires-clause-there c =
    let e : slice_get c.args.lines.now c.args.i ≡ Some (Refuted c.in-Refuted.c) = rw c.in-Refuted.is at c.get.ensures.value in
    let lits = c.as_slice-lits-in-Refuted.result.now in
    let f : slice_get c.args.lines.now c.args.i ≡ Some (Refuted lits) = e ∙ ap (λ (k : List Literal). Some (Refuted k))
    (sym c.as_slice-lits-in-Refuted.ensures.value) in
    within_at c.args.self.now.finder.vars c.args.lines.now c.args.i (Refuted lits) c.requires.hinting.within f

pub returns-in_ok-add_learnt-in-Some : goal.returns-in_ok-add_learnt-in-Some
returns-in_ok-add_learnt-in-Some c =
    let e : slice_get c.args.lines.now c.args.i ≡ Some (Learnt c.in-Learnt.c) = rw c.in-Learnt.is at c.get.ensures.value in
    let lits = c.as_slice-lits.result.now in
    let f : slice_get c.args.lines.now c.args.i ≡ Some (Learnt lits) = e ∙ ap (λ (k : List Literal). Some (Learnt k)) (sym c.as_slice-lits.ensures.value) in
    let some : 1 ≤ length lits = subst (λ (ls : List Literal). 1 ≤ length ls) (sym c.as_slice-lits.ensures.value)
    (let told : MayBeTold (Learnt c.in-Learnt.c) = rw c.in-Learnt.is at c.get.ensures.told in told.formed.1) in
    let t = c.in_ok-find_new-in-Learnt.ensures in
    let a = c.in_ok-add-in-Some.ensures in
    took_learnt c.args.lines.now c.args.wanted.now c.args.i (c.args.self.now.learnt + 1) lits c.in_ok-find_new-in-Learnt.field-0 c.in-Some.hints c.args.self.now
    _ c.find_new.new.self f some c.requires.timely c.requires.hinting t.found c.in-Some.is t.finder (a.vars ∙ t.vars) a.finder refl refl refl
    c.in_ok-add_learnt-in-Some.ensures

pub returns-in-None-2 : goal.returns-in-None-2
returns-in-None-2 c =
    let e : slice_get c.args.lines.now c.args.i ≡ Some (Refuted c.in-Refuted.c) = rw c.in-Refuted.is at c.get.ensures.value in
    let lits = c.as_slice-lits-in-Refuted.result.now in
    let f : slice_get c.args.lines.now c.args.i ≡ Some (Refuted lits) = e ∙ ap (λ (k : List Literal). Some (Refuted k))
    (sym c.as_slice-lits-in-Refuted.ensures.value) in
    refuted_fails c.args.lines.now c.args.wanted.now c.args.i lits c.in_ok-find-in-Refuted.field-0 c.args.self.now f c.requires.hinting
    c.in_ok-find-in-Refuted.ensures.found c.in-None-2.is

pub returns-in_ok-add_refuted-in-Some-2 : goal.returns-in_ok-add_refuted-in-Some-2
returns-in_ok-add_refuted-in-Some-2 c =
    let e : slice_get c.args.lines.now c.args.i ≡ Some (Refuted c.in-Refuted.c) = rw c.in-Refuted.is at c.get.ensures.value in
    let lits = c.as_slice-lits-in-Refuted.result.now in
    let f : slice_get c.args.lines.now c.args.i ≡ Some (Refuted lits) = e ∙ ap (λ (k : List Literal). Some (Refuted k))
    (sym c.as_slice-lits-in-Refuted.ensures.value) in
    let old = c.requires.hinting in
    let t = c.in_ok-find-in-Refuted.ensures in
    took_refuted c.args.lines.now c.args.wanted.now c.args.i lits c.in_ok-find-in-Refuted.field-0 c.in-Some-2.hints c.args.self.now _ f c.requires.timely
    c.requires.hinting t.found c.in-Some-2.is t.finder t.vars refl refl (λ good. hinted_refuted c.args.lines.now c.args.wanted.now c.args.i
    c.args.self.now.list c.add_refuted.new.list lits c.in-Some-2.hints (c.is_wanted.ensures.0 c.if-is_wanted.true) f old.hinted good
    c.in_ok-add_refuted-in-Some-2.ensures)

pub returns-else-is_wanted : goal.returns-else-is_wanted
returns-else-is_wanted c =
    let e : slice_get c.args.lines.now c.args.i ≡ Some (Refuted c.in-Refuted.c) = rw c.in-Refuted.is at c.get.ensures.value in
    let lits = c.as_slice-lits-in-Refuted.result.now in
    let f : slice_get c.args.lines.now c.args.i ≡ Some (Refuted lits) = e ∙ ap (λ (k : List Literal). Some (Refuted k))
    (sym c.as_slice-lits-in-Refuted.ensures.value) in
    let old = c.requires.hinting in
    let t = c.in_ok-find-in-Refuted.ensures in
    took_refuted c.args.lines.now c.args.wanted.now c.args.i lits c.in_ok-find-in-Refuted.field-0 c.in-Some-2.hints c.args.self.now _ f c.requires.timely
    c.requires.hinting t.found c.in-Some-2.is t.finder t.vars refl refl (λ good. hinted_past c.args.lines.now c.args.wanted.now c.args.i
    c.args.self.now.list (Refuted lits) f refl (λ m. both_ways c.is_wanted.result c.if-is_wanted.false (c.is_wanted.ensures.1 m)) old.hinted)

pub returns-in-Bound : goal.returns-in-Bound
returns-in-Bound c = took_other c.args.lines.now c.args.wanted.now c.args.i c.get.result.now c.args.self.now (rw c.in-Bound.is refl) c.get.ensures.value
    c.requires.wanted c.requires.timely c.requires.hinting

pub returns-in-Query : goal.returns-in-Query
returns-in-Query c = took_other c.args.lines.now c.args.wanted.now c.args.i c.get.result.now c.args.self.now (rw c.in-Query.is refl) c.get.ensures.value
    c.requires.wanted c.requires.timely c.requires.hinting

pub returns-in-Model : goal.returns-in-Model
returns-in-Model c = took_other c.args.lines.now c.args.wanted.now c.args.i c.get.result.now c.args.self.now (rw c.in-Model.is refl) c.get.ensures.value
    c.requires.wanted c.requires.timely c.requires.hinting
