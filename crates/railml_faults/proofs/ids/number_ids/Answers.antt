use Rattle.std.proofs.Common.{◌≡◌, ◌+◌, length, sym, subst, arith}
use Rattle.railml_faults.specs.Ids.{KeepsIds}
use Rattle.railml_faults.proofs.IdLemmas.{keeps_more, repeats_again, repeats_none, FirstRepeated, first_after, first_of_all}
use Rattle.railml_faults.proofs.ids.number_ids.Goals as goal

pub loop-i-preserved : goal.loop-i-preserved
loop-i-preserved c =
    let rows = c.args.rows.now in
    let i = c.loop-i.i in
    let row = c.index-rows-i.result in
    let within = c.loop-i-test.true in
    let seen = c.loop-i.invariant in
    let said = c.in_ok-again.ensures in
    record {
      kept = keeps_more rows i row c.loop-i.numbers c.keep_own.new.numbers seen.kept within c.index-rows-i.is said.added;
      first = subst (FirstRepeated rows (i + 1)) (sym c.first_again-repeated.ensures) (first_after rows i row within c.index-rows-i.is c.loop-i.repeated
          c.in_ok-again.again seen.first (λ again. repeats_again rows i row c.loop-i.numbers seen.kept within c.index-rows-i.is (said.again again))
          (λ new. repeats_none rows i row c.loop-i.numbers seen.kept within c.index-rows-i.is (said.first new)));
    }

pub returns-clause-numbers : goal.returns-clause-numbers
returns-clause-numbers c =
    let all : c.loop-i.i ≡ length c.args.rows.now = omega (arith, c.loop-i-test.false, c.loop-i.auto.i-end) in
    subst (λ n. KeepsIds c.args.rows.now n c.loop-i.numbers) all c.loop-i.invariant.kept

pub returns-clause-repeated : goal.returns-clause-repeated
returns-clause-repeated c =
    let all : c.loop-i.i ≡ length c.args.rows.now = omega (arith, c.loop-i-test.false, c.loop-i.auto.i-end) in
    first_of_all c.args.rows.now c.loop-i.repeated (subst (λ n. FirstRepeated c.args.rows.now n c.loop-i.repeated) all c.loop-i.invariant.first)
