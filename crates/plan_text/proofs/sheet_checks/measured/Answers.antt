use Rattle.std.proofs.Common.{refl, sym, ◌∙◌, ap}
use Rattle.std.proofs.lemmas.Bool.{false≢true}
use Rattle.plan_core.specs.Values.{values_of}
use Rattle.plan_write.specs.SheetLine.{ValuesLine}
use Rattle.plan_text.specs.SheetFaults.{ValuesDue}
use Rattle.plan_text.proofs.CheckLemmas.{begins, same_values}
use Rattle.plan_text.proofs.sheet_checks.measured.Goals as goal

pub returns-else-eq : goal.returns-else-eq
returns-else-eq c = λ g before told. (
  refl,
  (
    ValuesLine c.in-Some.told,
    begins ValuesDue c.args.text.now c.in-Some.rest.now (ValuesLine c.in-Some.told) tt c.in-Some.ensures.0 c.in-Some.ensures.1,
    λ is. false≢true (sym c.if-eq.false ∙ c.eq.ensures ∙ same_values c.in-Some.told c.values.result (is ∙ ap values_of told ∙ sym c.values.ensures)),
  ),
)
