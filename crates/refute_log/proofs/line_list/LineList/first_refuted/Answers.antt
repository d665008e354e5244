use Rattle.std.proofs.Common.{◌≡◌, ◌<◌, length, get_or, ap, subst, arith}
use Rattle.plan_core.proofs.SearchLemmas.{none_at_start, none_more_tested, found_first}
use Rattle.refute_log.specs.Told.{Lines}
use Rattle.refute_log.specs.Log.{IsRefutedWithin}
use Rattle.refute_log.proofs.line_list.LineList.first_refuted.Goals as goal

pub loop-i-init : goal.loop-i-init
loop-i-init c = none_at_start (λ _ line. IsRefutedWithin c.args.allowed.now line) c.args.self.now

pub returns-then-is_refuted_within : goal.returns-then-is_refuted_within
returns-then-is_refuted_within c =
    let view : c.self.inside.lines.items ≡ c.args.self.now = c.self.view_is in
    let lt : c.loop-i.i < length c.self.inside.lines.items = let t = c.loop-i-test.true in let e = c.len.ensures in omega arith in
    found_first c.loop-i.invariant (subst (λ (ls : Lines). c.loop-i.i < length ls) view lt)
    (subst (λ (ls : Lines). c.index.result.now ≡ get_or ls c.loop-i.i c.index.result.now) view c.index.ensures)
    (c.is_refuted_within.ensures.0 c.if-is_refuted_within.true)

pub loop-i-smaller : goal.loop-i-smaller
loop-i-smaller c = let t = c.loop-i-test.true in let e = c.len.ensures in omega arith

pub loop-i-preserved : goal.loop-i-preserved
loop-i-preserved c =
    let view : c.self.inside.lines.items ≡ c.args.self.now = c.self.view_is in
    let lt : c.loop-i.i < length c.self.inside.lines.items = let t = c.loop-i-test.true in let e = c.len.ensures in omega arith in
    none_more_tested c.is_refuted_within.result c.loop-i.invariant (subst (λ (ls : Lines). c.loop-i.i < length ls) view lt)
    (subst (λ (ls : Lines). c.index.result.now ≡ get_or ls c.loop-i.i c.index.result.now) view c.index.ensures) (λ had. c.is_refuted_within.ensures.1 had)
    c.if-is_refuted_within.false

pub returns : goal.returns
returns c =
    let view : c.self.inside.lines.items ≡ c.args.self.now = c.self.view_is in
    let inv = c.loop-i.invariant in
    let end : length c.args.self.now ≡ c.len.result = let e = c.len.ensures in let v = ap (λ (ls : Lines). length ls) view in omega arith in
    record { none = λ i line below at had. inv.none i line (let t = c.loop-i-test.false in omega arith) at had }
