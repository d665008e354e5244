use Rattle.std.proofs.Common.{◌≡◌, ◌+◌, ◌-◌, ◌*◌, ◌/◌, ◌%◌, ◌<◌, sym, ◌∙◌, arith}
use Rattle.std.proofs.Math.Nat.{div-lt_iff_lt-mul, mod-lt}
use Rattle.std.proofs.lemmas.Nat.{div-add-mod'}
use Rattle.edge_shape.specs.ReadsLine.{line_bits}
use Rattle.edge_shape.proofs.SettingLemmas.{whole_setting, first_setting, later_setting}
use Rattle.edge_shape.proofs.put.bit.Goals as goal

pub returns-then-k-lt6 : goal.returns-then-k-lt6
returns-then-k-lt6 c =
    let e = c.args.e.now in
    c.whole_bit.ensures ∙ whole_setting (line_bits c.args.line.now) e.first e.high e.width c.args.x c.requires.from (omega (arith, c.if-k-lt6.true))

pub returns-then-place-first : goal.returns-then-place-first
returns-then-place-first c =
    let e = c.args.e.now in
    c.column_bit.ensures ∙ first_setting (line_bits c.args.line.now) e.first e.high e.width c.args.x (omega (arith, c.if-k-lt6.false))
    (omega (arith, c.if-place-first.true))

pub returns : goal.returns
returns c =
    let e = c.args.e.now in
    let block = e.high + 5 in
    let past = c.args.x - e.first - 6 - (e.high + 4) in
    let some : 0 < block = omega arith in
    let small : past % block < block = mod-lt past some in
    let cut : past / block * block + past % block ≡ past = div-add-mod' past block in
    let low : past < e.width * block = (let to = c.requires.to in let from = c.requires.from in let k = c.if-k-lt6.false in let p = c.if-place-first.false in
    omega (arith, to, from, k, p)) in
    let few : past / block < e.width = (div-lt_iff_lt-mul some).1 low in
    c.column_bit-2.ensures ∙ later_setting (line_bits c.args.line.now) e.first e.high e.width c.args.x (past / block) (past % block)
    (omega (arith, c.if-k-lt6.false)) (omega (arith, c.if-place-first.false)) (sym cut) small (omega (arith, few))
