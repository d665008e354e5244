use Rattle.std.proofs.Common.{◌≡◌, ◌∙◌, [], ◌∷◌, ◌++◌, ◌-◌, ◌+◌, suc, take, drop, Bool, List, length, sym, ap, subst, arith}
use Rattle.std.proofs.lemmas.List.{take_at}
use Rattle.hint_log.specs.HintedLines.{HintLines}
use Rattle.log_trim.specs.Shortened.{learnt_among, IsMarkedFrom}
use Rattle.log_trim.proofs.UsedLemmas.{drop_here, count_within, count_before, below_here}
use Rattle.log_trim.proofs.shortening.used_of.Goals as goal

pub before-n-requires : goal.before-n-requires
before-n-requires c =
    let inv = c.loop-i.invariant in
    count_within c.args.list.now (c.loop-i.i - 1) c.loop-i.i c.get-line.result.now c.loop-i.n c.args.given c.args.total (omega (arith, c.loop-i-test.true))
    c.get-line.ensures inv.count c.requires.total

pub use_line-requires-clause-below : goal.use_line-requires-clause-below
use_line-requires-clause-below c =
    let inv = c.loop-i.invariant in
    let next : c.loop-i.i ≡ suc (c.loop-i.i - 1) = omega (arith, c.loop-i-test.true) in
    let count = count_before c.args.list.now (c.loop-i.i - 1) c.loop-i.i c.get-line.result.now c.before-n.result c.loop-i.n c.args.total next
    c.get-line.ensures inv.count c.before-n.ensures in
    below_here c.args.list.now (c.loop-i.i - 1) c.loop-i.i c.get-line.result.now c.before-n.result c.args.given next c.get-line.ensures
    (count ∙ c.requires.total) c.requires.below

pub loop-i-preserved : goal.loop-i-preserved
loop-i-preserved c =
    let inv = c.loop-i.invariant in
    let list = c.args.list.now in
    let line = c.get-line.result.now in
    let now = c.use_line.new.used in
    let next : c.loop-i.i ≡ suc (c.loop-i.i - 1) = omega (arith, c.loop-i-test.true) in
    let passed : length c.deref_mut.result.now ≡ length c.loop-i.used.items = ap (λ (bs : List Bool). length bs) c.deref_mut.ensures.value in
    let same : length now ≡ length c.deref_mut.result.now = c.use_line.ensures.size in
    let size : length now ≡ c.loop-i.used.len = omega (arith, c.deref_mut.ensures.len, passed, same) in
    let rest = drop (length now) c.loop-i.used.items in
    let whole : take c.loop-i.used.len (now ++ rest) ≡ now = take_at now rest c.loop-i.used.len size in
    let before : IsMarkedFrom c.loop-i.used.items c.loop-i.n (drop c.loop-i.i list) = inv.marked in
    let passed_on : IsMarkedFrom c.deref_mut.result.now (c.before-n.result + learnt_among (line ∷ [])) (drop c.loop-i.i list) =
    subst (λ (bs : List Bool). IsMarkedFrom bs (c.before-n.result + learnt_among (line ∷ [])) (drop c.loop-i.i list)) (sym c.deref_mut.ensures.value)
    (subst (λ n. IsMarkedFrom c.loop-i.used.items n (drop c.loop-i.i list)) (sym c.before-n.ensures) before) in
    let marked = c.use_line.ensures.marked (drop c.loop-i.i list) passed_on in
    record {
      size = let was = inv.size in ap (λ (bs : List Bool). length bs) whole ∙ same ∙ passed ∙ was;
      within = let was = inv.within in omega (arith, was);
      count = count_before list (c.loop-i.i - 1) c.loop-i.i line c.before-n.result c.loop-i.n c.args.total next c.get-line.ensures inv.count c.before-n.ensures;
      marked = subst (λ (bs : List Bool). IsMarkedFrom bs c.before-n.result (drop (c.loop-i.i - 1) list)) (sym whole)
          (subst (λ (ls : HintLines). IsMarkedFrom now c.before-n.result ls) (sym (drop_here list (c.loop-i.i - 1) c.loop-i.i line next c.get-line.ensures))
          marked);
    }
