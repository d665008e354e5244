use Rattle.std.proofs.Common.{refl, arith}
use Rattle.plan_text.proofs.MileageLemmas.{never, too_short, no_point, no_whole, size_iff, cut_seven}
use Rattle.plan_text.proofs.mileage_text.is_size.Goals as goal

pub returns-then-text-lt7 : goal.returns-then-text-lt7
returns-then-text-lt7 c = never _ _ refl (too_short c.args.text.now c.if-text-lt7.true)

pub returns-in_default : goal.returns-in_default
returns-in_default c =
    let long = c.if-text-lt7.false in
    let parts = cut_seven c.args.text.now c.split_at.result.0.now c.split_at.result.1.now (omega (arith, long)) c.split_at.ensures.front
    c.split_at.ensures.back in
    never _ _ refl (no_point c.args.text.now c.split_at.result.0.now c.split_at.result.1.now parts.cut parts.seven c.in_default.ensures)

pub returns-then-not-is_whole : goal.returns-then-not-is_whole
returns-then-not-is_whole c =
    let long = c.if-text-lt7.false in
    let parts = cut_seven c.args.text.now c.split_at.result.0.now c.split_at.result.1.now (omega (arith, long)) c.split_at.ensures.front
    c.split_at.ensures.back in
    never _ _ refl (no_whole c.args.text.now c.split_at.result.0.now c.split_at.result.1.now c.is_whole.result parts.cut parts.seven c.is_whole.ensures
    c.if-not-is_whole.true)

pub returns : goal.returns
returns c =
    let long = c.if-text-lt7.false in
    let parts = cut_seven c.args.text.now c.split_at.result.0.now c.split_at.result.1.now (omega (arith, long)) c.split_at.ensures.front
    c.split_at.ensures.back in
    size_iff c.args.text.now c.split_at.result.0.now c.split_at.result.1.now c.in-Some.fraction.now c.is_whole.result c.is_fraction.result parts.cut parts.seven
    c.in-Some.ensures c.is_whole.ensures c.if-not-is_whole.false c.is_fraction.ensures
