use Rattle.std.proofs.Common.{ℕ, ◌<◌, subst}
use Rattle.plan_text.proofs.FieldLemmas.{full_is}
use Rattle.plan_text.proofs.FormLemmas.{too_many, not_in_pairs, too_few}
use Rattle.plan_text.proofs.sheet_lines.points_of.Goals as goal

pub returns-then-is_full : goal.returns-then-is_full
returns-then-is_full c =
    λ ps between e. too_many c.args.numbers.now c.loop-x.rest.now c.in-Some.left.now c.in-Some.x c.in-Some.y c.loop-x.points.items 4 c.loop-x.invariant
    c.in-Some.ensures (full_is _ 4 _ c.is_full.ensures.value c.if-is_full.true) ps between.to e

pub returns-then-not-is_empty : goal.returns-then-not-is_empty
returns-then-not-is_empty c =
    λ ps between e. not_in_pairs c.args.numbers.now c.loop-x.rest.now c.loop-x.points.items c.is_empty.result c.loop-x.invariant c.in_default.ensures
    c.is_empty.ensures c.if-not-is_empty.true ps e

pub returns-then-len-lt2 : goal.returns-then-len-lt2
returns-then-len-lt2 c =
    λ ps between e. too_few c.args.numbers.now c.loop-x.rest.now c.loop-x.points.items c.is_empty.result c.loop-x.invariant c.is_empty.ensures
    c.if-not-is_empty.false (subst (λ (n : ℕ). n < 2) c.len.ensures.value c.if-len-lt2.true) ps between.from e
