-- Hinted lines one after another.
use Rattle.std.proofs.Common.{List, [], ◌∷◌, ◌++◌, sym, ◌∙◌, ap, subst, append-nil, append_assoc}
use Rattle.std.specs.Prelude.{flat_map}
use Rattle.std.proofs.lemmas.List.Concat.{flat_map-cons}
use Rattle.cnf_core.specs.Clause.{Clauses}
use Rattle.hint_log.specs.declared.hint_line.HintLine.{HintLine}
use Rattle.hint_log.specs.Hint.{IsGood}
use Rattle.hint_log.specs.Checked.{clauses_learnt}
use Rattle.hint_log.specs.HintedLines.{HintLines, AreGood}

-- one more line
pub good_more : (clauses : Clauses) (lines : HintLines) (line : HintLine) → AreGood clauses lines → IsGood (clauses ++ flat_map clauses_learnt lines) line →
    AreGood clauses (lines ++ line ∷ [])
good_more clauses [] line h g = (subst (λ (cs : Clauses). IsGood cs line) (append-nil clauses) g, tt)
good_more clauses (k ∷ lines) line h g = (
  h.0,
  good_more (clauses ++ clauses_learnt k) lines line h.1
      (subst (λ (cs : Clauses). IsGood cs line) (ap (λ (cs : Clauses). clauses ++ cs) (flat_map-cons clauses_learnt k lines)
      ∙ sym (append_assoc clauses (clauses_learnt k) (flat_map clauses_learnt lines))) g),
)
