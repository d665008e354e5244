use Rattle.std.proofs.Common.{sym, subst}
use Rattle.cnf_core.specs.Clause.{Clauses}
use Rattle.cnf_core.specs.Added.{AddsClauses}
use Rattle.order_int.proofs.IntLemmas.{chain-links}
use Rattle.order_int.proofs.integer.add_chain.Goals as goal

pub returns : goal.returns
returns c = subst (λ (cs : Clauses). AddsClauses c.add_links.result c.args.f.now c.add_links.new.f cs 2)
    (sym (chain-links c.args.first c.args.n c.if-n-eq0.false)) c.add_links.ensures
