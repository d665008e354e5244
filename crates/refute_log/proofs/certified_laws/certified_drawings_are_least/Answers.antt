use Rattle.std.proofs.Common.{List, sym, subst, arith}
use Rattle.std.specs.Prelude.{length}
use Rattle.std.proofs.lemmas.List.{take_all}
use Rattle.plan_core.specs.declared.criterion.Criterion.{Criterion}
use Rattle.plan_core.specs.Values.{values_of, Better}
use Rattle.refute_log.proofs.CertifiedLemmas.{none_better, none_meets}
use Rattle.refute_log.proofs.certified_laws.certified_drawings_are_least.Goals as goal

pub returns : goal.returns
returns c = record {
  least = λ g above grid greatest lines order covers derives v s certified d lawful b. none_better greatest lines order v (values_of d) s (covers d lawful)
      derives certified b;
  none = λ g above grid lines covers derives none d lawful. none_meets lines (values_of d) (covers d lawful) derives none;
  best = λ g above grid greatest lines order covers derives d lawful certified. record {
    lawful = lawful;
    none_better = λ other also b.
        let whole = subst (λ (cs : List Criterion). Better cs (values_of other) (values_of d)) (sym (take_all (length order) order (omega arith))) b in
        none_better greatest lines order (values_of d) (values_of other) (length order) (covers other also) derives certified whole;
  };
}
