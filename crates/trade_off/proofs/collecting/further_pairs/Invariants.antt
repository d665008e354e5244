use Rattle.std.proofs.Common.{◌≡◌, ◌≤◌}
use Rattle.std.specs.Prelude.{Some}
use Rattle.search_least.specs.Task.{IsLawful, greatest_of}
use Rattle.refute_log.specs.Steps.{Continues, KnowsSome}
use Rattle.trade_off.specs.Least.{HaveComeTo, AreAsked}
use Rattle.trade_off.specs.Next.{IsSoFar, under, limit_behind}
use Rattle.trade_off.proofs.collecting.further_pairs.Given as goal

abbrev pub invariant-loop-limit : goal.invariant-loop-limit
invariant-loop-limit g l = let o = g.O.Oracle in let t = g.O.LogTeller in record {
  task : o.task l.oracle ≡ o.task l.fn.oracle;
  caps : o.caps l.oracle ≡ o.caps l.fn.oracle;
  ready : t.ready l.oracle;
  known : KnowsSome t.knows l.oracle;
  so_far : IsSoFar (IsLawful (o.task l.fn.oracle)) l.a l.b l.limit l.pairs;
  behind : limit_behind l.pairs ≡ Some l.limit;
  within : l.limit ≤ greatest_of (o.task l.fn.oracle) l.b;
  later : t.is_later l.fn.oracle l.oracle;
  faults : t.faults l.fn.oracle ≤ t.faults l.oracle;
  lines : Continues t.knows t.log t.learnt l.fn.oracle l.oracle
      (AreAsked (o.task l.fn.oracle) (HaveComeTo l.b l.b (under l.b (Some l.fn.second))) (HaveComeTo l.b l.b (under l.b (Some l.limit))));
}

abbrev pub decreases-loop-limit : goal.decreases-loop-limit
decreases-loop-limit g l = l.limit
