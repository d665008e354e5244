use Rattle.std.proofs.Common.{rules, ◌≡◌, subst, Ok}
use Rattle.cnf_core.specs.Added.{AddsClauses}
use Rattle.cnf_core.proofs.StepLemmas.{adds_refused, adds_after}
use Rattle.drawing_cnf.specs.MovedClauses.{unlike_clauses}
use Rattle.drawing_cnf.proofs.one_node.add_moved.Goals as goal

pub returns-in_err-add_unlike : goal.returns-in_err-add_unlike
returns-in_err-add_unlike c =
    let e : c.from.result ≡ c.args.q.x = search rules in
    adds_refused c.add_unlike.result c.from_residual.result _ _ (unlike_clauses c.args.n.now.x c.args.q.x c.args.m)
    (unlike_clauses c.args.n.now.y c.args.q.y c.args.m) 2 c.from_residual.ensures.0 (λ k. search (rules, k))
    (subst (λ k. AddsClauses c.add_unlike.result c.args.f.now c.add_unlike.new.f (unlike_clauses c.args.n.now.x k c.args.m) 2) e c.add_unlike.ensures)

pub returns : goal.returns
returns c =
    let e : c.from.result ≡ c.args.q.x = search rules in
    let h : c.from-2.result ≡ c.args.q.y = search rules in
    adds_after c.in_ok-add_unlike.field-0 c.add_unlike-2.result _ _ _ (unlike_clauses c.args.n.now.x c.args.q.x c.args.m)
    (unlike_clauses c.args.n.now.y c.args.q.y c.args.m) 2
    (subst (λ k. AddsClauses (Ok c.in_ok-add_unlike.field-0) c.args.f.now c.add_unlike.new.f (unlike_clauses c.args.n.now.x k c.args.m) 2) e
    c.in_ok-add_unlike.ensures)
    (subst (λ k. AddsClauses c.add_unlike-2.result c.add_unlike.new.f c.add_unlike-2.new.f (unlike_clauses c.args.n.now.y k c.args.m) 2) h
    c.add_unlike-2.ensures)
