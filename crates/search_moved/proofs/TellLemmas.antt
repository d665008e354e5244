-- A solver that was given two lists of clauses.
use Rattle.std.proofs.Common.{◌≡◌, ℕ, ◌+◌, ◌++◌, drop, ◌∙◌, subst, arith, append_assoc}
use Rattle.cnf_core.specs.Clause.{Clauses}
use Rattle.cnf_core.proofs.ClauseLemmas.{words_append}
use Rattle.cdcl_core.specs.Kept.{Kept, AreGiven, with_more_vars}
use Rattle.lex_minimise.specs.Told.{HasTaken}

pub taken_both : (old mid new : Kept) (m n all : ℕ) (cs ds : Clauses) → m + n ≡ all → HasTaken (with_more_vars old m) mid (drop 0 cs) →
    HasTaken (with_more_vars mid n) new (drop 0 ds) → HasTaken (with_more_vars old all) new (cs ++ ds)
taken_both old mid new m n all cs ds sum h k = record {
  given = λ given g. subst (λ (xs : Clauses). AreGiven xs new.clauses) (append_assoc given cs ds) (k.given (given ++ cs) (h.given given g));
  words = (let x = h.words in let y = k.words in let s = words_append cs ds in omega (arith, x, y, s));
  room = k.room ∙ h.room;
  vars = (let x = h.vars in let y = k.vars in omega (arith, x, y, sum));
  learnt = k.learnt ∙ h.learnt;
  working = k.working;
}
