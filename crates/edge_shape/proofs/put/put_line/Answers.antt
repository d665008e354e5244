use Rattle.std.proofs.Common.{refl, sym, ◌∙◌, arith}
use Rattle.cnf_core.specs.Truths.{assignment}
use Rattle.edge_shape.specs.ReadsLine.{line_bits}
use Rattle.edge_shape.specs.Setting.{set_edge}
use Rattle.edge_shape.proofs.SettingLemmas.{set_at, set_same}
use Rattle.edge_shape.proofs.PutLemmas.{put_none, put_next, put_all}
use Rattle.edge_shape.proofs.put.put_line.Goals as goal

pub loop-x-init : goal.loop-x-init
loop-x-init c =
    let e = c.args.e.now in
    let b = line_bits c.args.line.now in
    let old = assignment c.args.m.now in
    record { put = put_none e.first old (set_edge b e.first e.high e.width old) (set_same b e.first e.high e.width old).below; vars = refl }

pub loop-x-preserved : goal.loop-x-preserved
loop-x-preserved c =
    let e = c.args.e.now in
    let b = line_bits c.args.line.now in
    let old = assignment c.args.m.now in
    let from = c.loop-x.auto.x in
    let to = c.loop-x-test.true in
    record {
      put = put_next c.loop-x.x old (set_edge b e.first e.high e.width old) (assignment c.loop-x.m) (assignment c.put_bit.new.m) c.loop-x.invariant.put
          (c.put_bit.ensures.value ∙ c.bit.ensures ∙ sym (set_at b e.first e.high e.width old c.loop-x.x from (omega (arith, to)))) c.put_bit.ensures.others;
      vars = c.put_bit.ensures.vars ∙ c.loop-x.invariant.vars;
    }

pub returns : goal.returns
returns c =
    let e = c.args.e.now in
    let b = line_bits c.args.line.now in
    let old = assignment c.args.m.now in
    let to = c.loop-x-test.false in
    record {
      set = put_all c.loop-x.x old (set_edge b e.first e.high e.width old) (assignment c.loop-x.m) c.loop-x.invariant.put
          (λ k le. (set_same b e.first e.high e.width old).above k (omega (arith, to, le)));
      vars = c.loop-x.invariant.vars;
    }
