use Rattle.std.proofs.Common.{◌≡◌, ℕ, List, false, get_or, refl, sym, ◌∙◌, ap, subst, arith}
use Rattle.std.specs.Prelude.{Contains}
use Rattle.std.proofs.lemmas.List.{get_or_default}
use Rattle.std.proofs.lemmas.Option.{none-some}
use Rattle.cnf_core.specs.Lit.{Literal, has}
use Rattle.cnf_core.specs.Clause.{IsThere}
use Rattle.cnf_core.proofs.TrailLemmas.{there_get}
use Rattle.watch_arena.specs.Trail.{Marks}
use Rattle.cdcl_core.specs.Roots.{AreOffered}
use Rattle.cdcl_core.proofs.AskLemmas.{asking_implied, assumed_at}
use Rattle.cdcl_core.proofs.SolvingLemmas.{solving_decided, fitted_vars}
use Rattle.cdcl_core.proofs.HeapLemmas.{offered_decided}
use Rattle.cdcl_core.proofs.StoreLemmas.{store_itself}
use Rattle.cdcl_core.proofs.StepLemmas.{decided_longer}
use Rattle.cdcl_core.proofs.search.Search.assume.Goals as goal

pub is_false-requires : goal.is_false-requires
is_false-requires c = subst (IsThere c.args.self.now.trail.vars) (sym c.index-query-self.is)
    (there_get c.args.self.now.trail.vars c.args.query.now c.args.self.now.assumed c.index-query-self.result c.requires.left c.requires.there)

pub returns-then-is_false-clause-stop : goal.returns-then-is_false-clause-stop
returns-then-is_false-clause-stop c =
    let among : Contains c.args.query.now c.index-query-self.result = (c.args.self.now.assumed, c.requires.left, sym c.index-query-self.is) in
    record {
      among = among;
      low = let e = c.requires.asking.left c.requires.left in omega arith;
      implied = asking_implied c.args.self.now.arena c.args.self.now.trail c.args.query.now c.args.self.now.levels c.args.self.now.assumed
          c.index-query-self.result c.requires.search.solving.grounded.marks c.requires.distinct among
          (let e = c.requires.asking.left c.requires.left in omega arith)
          (sym c.is_false.ensures ∙ c.if-is_false.true) c.requires.asking;
    }

pub decide-requires-clause-there : goal.decide-requires-clause-there
decide-requires-clause-there c = subst (IsThere c.args.self.now.trail.vars) (sym c.index-query-self.is)
    (there_get c.args.self.now.trail.vars c.args.query.now c.args.self.now.assumed c.index-query-self.result c.requires.left c.requires.there)

untrue_here : (lits query : List Literal) (n : ℕ) (l : Literal) → l ≡ get_or query n l → ((d : Literal) → has lits (get_or query n d) ≡ false) →
    has lits l ≡ false
untrue_here lits query n l is h = ap (has lits) is ∙ h l

pub returns-clause-search : goal.returns-clause-search
returns-clause-search c =
    let vars : c.decide.new.self.vars ≡ c.args.self.now.trail.vars = ap (λ (m : Marks). m.vars) c.decide.ensures.value in
    record {
      fitted = fitted_vars c.decide.new.self.vars vars c.requires.search.fitted;
      solving = solving_decided c.args.self.now.arena c.args.self.now.trail c.decide.new.self c.args.self.now.own.items c.args.self.now.refuted
          c.index-query-self.result c.decide.ensures.value c.decide.ensures.marks
          (c.decide.ensures.watched c.args.self.now.arena c.requires.search.solving.watched)
          (c.decide.ensures.reasoned c.args.self.now.arena c.requires.search.solving.grounded.reasoned) c.requires.settled c.requires.search.solving.grounded;
      offered = subst (AreOffered c.args.self.now.heap) (sym c.decide.ensures.value)
          (offered_decided c.args.self.now.heap c.args.self.now.trail c.index-query-self.result (λ k there un ne. c.requires.search.offered k there un));
    }

pub returns-clause-asking : goal.returns-clause-asking
returns-clause-asking c = assumed_at c.args.self.now.arena c.args.self.now.trail c.decide.new.self c.index-query-self.result c.args.query.now
    c.args.self.now.levels c.args.self.now.assumed c.decide.ensures.value c.requires.search.solving.grounded.marks c.decide.ensures.marks (
      untrue_here c.args.self.now.trail.lits c.args.query.now c.args.self.now.assumed c.index-query-self.result c.index-query-self.is c.requires.untrue,
      sym
          c.is_false.ensures ∙ c.if-is_false.false,
    )
    c.requires.left (λ d. get_or_default c.args.query.now c.args.self.now.assumed d c.index-query-self.result c.requires.left ∙ sym c.index-query-self.is)
    c.requires.asking

pub returns-clause-store : goal.returns-clause-store
returns-clause-store c =
    let same = store_itself c.args.self.now in
    record {
      clauses = same.clauses;
      room = refl;
      words = refl;
      learnt = refl;
      refuted = refl;
      vars = ap (λ (m : Marks). m.vars) c.decide.ensures.value;
      visits = same.visits;
    }

pub returns-clause-more : goal.returns-clause-more
returns-clause-more c = λ _. decided_longer c.args.self.now.trail c.decide.new.self c.index-query-self.result c.decide.ensures.value

pub returns-then-is_false-clause-store : goal.returns-then-is_false-clause-store
returns-then-is_false-clause-store c = store_itself c.args.self.now

pub returns-then-is_false-clause-more : goal.returns-then-is_false-clause-more
returns-then-is_false-clause-more c = λ e. absurd (none-some _ (sym e))
