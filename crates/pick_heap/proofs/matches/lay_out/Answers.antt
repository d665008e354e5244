use Rattle.std.proofs.Common.{arith, ◌+◌, ◌-◌, ◌<◌, ◌≤◌, ◌∙◌, ap, sym, length, set, subst, inl, inr}
use Rattle.std.proofs.lemmas.Bool.{cases_lt, cases_eq}
use Rattle.pick_heap.proofs.MatchLemmas.{named_set, zero_named, zero_all, zero_set, free_past, word_below, kept_set}
use Rattle.pick_heap.specs.Tree.{entry_at, leaf_word}
use Rattle.std.proofs.lemmas.List.{get_or-set_same}
use Rattle.pick_heap.proofs.matches.lay_out.Goals as goal

pub loop-k-preserved : goal.loop-k-preserved
loop-k-preserved c = λ k lt. zero_set c.loop-k.tree c.loop-k.k k (let same = c.loop-k.auto.tree in omega arith) c.loop-k.invariant lt

pub loop-v-init : goal.loop-v-init
loop-v-init c = record {
  named = zero_named c.args.activities.now c.loop-k.tree (let some = c.requires.some in let same = c.requires.tables in omega arith)
      (λ k lt. c.loop-k.invariant k (let same = c.loop-k.auto.tree in omega arith));
  laid = λ i lt. absurd (omega arith);
  rest = λ i le. zero_all c.loop-k.tree (c.args.leaves + i) (λ k lt. c.loop-k.invariant k (let same = c.loop-k.auto.tree in omega arith));
}

pub loop-v-preserved : goal.loop-v-preserved
loop-v-preserved c =
    let tree = c.loop-v.tree in
    let place = c.args.leaves + c.loop-v.v - 1 in
    let acts = c.args.activities.now in
    let within : c.args.leaves + c.loop-v.v - 1 < length c.loop-v.tree = let same = c.loop-k.auto.tree in let same2 = c.loop-v.auto.tree in let
    size = c.requires.size in let fits = c.requires.fits in let test = c.loop-v-test.true in let from = c.loop-v.auto.v in omega arith in
    let from : 1 ≤ c.loop-v.v = c.loop-v.auto.v in
    let word = c.leaf_word.ensures in
    record {
      named = named_set acts tree c.args.leaves place c.leaf_word.result within c.loop-v.invariant.named
          (subst (λ n. n < length acts) (sym word) (word_below c.args.held.now c.loop-v.v (length acts)
          (let test = c.loop-v-test.true in let same = c.requires.tables in omega arith)));
      laid = λ i lt. elim (cases_eq (i + 1) c.loop-v.v) [
        | inl e ↦ ap (entry_at (set tree place c.leaf_word.result)) (omega arith) ∙ get_or-set_same tree place c.leaf_word.result 0 within ∙ word
            ∙ ap (leaf_word c.args.held.now) (sym e)
        | inr ne ↦ kept_set acts tree c.args.leaves place c.leaf_word.result within (c.args.leaves + i) (omega arith) ∙ c.loop-v.invariant.laid i (omega arith)
      ];
      rest = λ i le. kept_set acts tree c.args.leaves place c.leaf_word.result within (c.args.leaves + i) (omega arith)
          ∙ c.loop-v.invariant.rest i (omega arith);
    }

pub returns-clause-leaves : goal.returns-clause-leaves
returns-clause-leaves c = λ i lt. c.play_all.ensures.kept (c.args.leaves + i) (omega arith) ∙ elim (cases_lt (i + 1) (length c.args.held.now)) [
  | inl inside ↦ c.loop-v.invariant.laid i (omega arith)
  | inr past ↦ c.loop-v.invariant.rest i (omega arith) ∙ sym (free_past c.args.held.now (i + 1) past)
]
