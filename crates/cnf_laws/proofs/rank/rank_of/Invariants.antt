use Rattle.std.specs.Prelude.{◌≡◌}
use Rattle.cnf_laws.specs.Rank.{comes_before, count_below}
use Rattle.cnf_laws.proofs.rank.rank_of.Given as goal

abbrev pub invariant-loop-u : goal.invariant-loop-u
invariant-loop-u l = l.count ≡ count_below (λ u. comes_before l.g u l.n) l.u
