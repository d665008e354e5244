use Rattle.std.proofs.Common.{◌+◌, List, sym, subst, arith}
use Rattle.cnf_core.specs.Lit.{Literal}
use Rattle.cnf_core.specs.Clause.{AreThere, IsThere}
use Rattle.cnf_core.proofs.ClauseLemmas.{there_more}
use Rattle.cnf_core.proofs.GatherLemmas.{there_push}
use Rattle.log_trim.proofs.finder.padded.Goals as goal
use Rattle.log_trim.proofs.finder.padded.Goals.{then-lits-lt2+in_ok-push, else-lits-lt2, then-is_empty+in_ok-push-2, else-is_empty}

pub returns-clause-there : goal.returns-clause-there
returns-clause-there c =
    let vars = c.args.vars in
    let start : AreThere (vars + 2) c.in_ok-all.all.items = subst (λ (ls : List Literal). AreThere (vars + 2) ls) (sym c.in_ok-all.ensures.items)
    (there_more vars (vars + 2) c.args.lits.now (omega arith) c.requires.there) in
    let mid : AreThere (vars + 2) c.if-lits-lt2.all.items = elim c.if-lits-lt2.branch [
      | then-lits-lt2+in_ok-push w ↦
          let here : IsThere (vars + 2) w.new.result = subst (λ (l : Literal). IsThere (vars + 2) l) (sym w.new.ensures) (omega arith, omega arith) in
          rw w.all-is (subst (λ (ls : List Literal). AreThere (vars + 2) ls) (sym w.in_ok-push.ensures.items)
          (there_push (vars + 2) c.in_ok-all.all.items w.new.result start here))
      | else-lits-lt2 w ↦ rw w.all-is start
    ] in
    elim c.if-is_empty.branch [
      | then-is_empty+in_ok-push-2 w ↦
          let here : IsThere (vars + 2) w.new-then-is_empty.result = subst (λ (l : Literal). IsThere (vars + 2) l) (sym w.new-then-is_empty.ensures)
          (omega arith, omega arith) in
          rw w.all-is (subst (λ (ls : List Literal). AreThere (vars + 2) ls) (sym w.in_ok-push-2.ensures.items)
          (there_push (vars + 2) c.if-lits-lt2.all.items w.new-then-is_empty.result mid here))
      | else-is_empty w ↦ rw w.all-is mid
    ]
