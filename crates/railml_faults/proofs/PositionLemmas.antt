-- A row has one position at most.
use Rattle.std.proofs.Common.{◌≡◌, ℕ, List, sym, ap, ◌∙◌, subst}
use Rattle.std.specs.Prelude.{ℤ}
use Rattle.std.proofs.lemmas.Option.{same_Some}
use Rattle.rail_mileage.specs.Metres.{MetresParts, mileage_told}
use Rattle.rail_mileage.proofs.PartsLemmas.{one_reading}
use Rattle.railml_read.specs.declared.rows.Elem.{Elem}
use Rattle.railml_faults.specs.Rows.{ReadsMetres, HasPosition}

pub one_number : (text : List ℕ) (z w : ℤ) → ReadsMetres text z → ReadsMetres text w → z ≡ w
one_number text z w a b = sym a.is ∙ (ap (λ (p : MetresParts). (mileage_told p).0) (one_reading text a.parts b.parts a.metres b.metres) ∙ b.is)

pub one_position : (row : Elem) (z w : ℤ) → HasPosition row z → HasPosition row w → z ≡ w
one_position row z w a b =
    let same : b.text ≡ a.text = same_Some b.text a.text (sym b.has ∙ a.has) in
    one_number a.text z w a.reads (subst (λ (v : List ℕ). ReadsMetres v w) same b.reads)
