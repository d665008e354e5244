-- How many of some hinted lines are Learnt ones.
use Rattle.std.proofs.Common.{◌≡◌, ℕ, ◌+◌, List, [], ◌∷◌, ◌++◌, length, take, Some, refl, sym, ◌∙◌, ap, length-append}
use Rattle.std.specs.Prelude.{flat_map, slice_get}
use Rattle.std.proofs.lemmas.List.{take_more}
use Rattle.std.proofs.lemmas.Option.{slice_get_within, get_or_from_slice_get}
use Rattle.cnf_core.specs.Lit.{Literal}
use Rattle.refute_log.proofs.LogLemmas.{flat_map_last}
use Rattle.hint_log.specs.declared.hint_line.HintLine.{HintLine}
use Rattle.hint_log.specs.declared.hint_line.HintLine.TheVariants.{Learnt, Refuted}
use Rattle.hint_log.specs.Checked.{clauses_learnt}
use Rattle.hint_log.specs.HintedLines.{HintLines}

pub counted_next : (lines : HintLines) (i n : ℕ) (line : HintLine) → slice_get lines i ≡ Some line → n ≡ length (flat_map clauses_learnt (take i lines)) →
    length (flat_map clauses_learnt (take (i + 1) lines)) ≡ n + length (clauses_learnt line)
counted_next lines i n line at is =
    let next : take (i + 1) lines ≡ take i lines ++ line ∷ [] =
    take_more lines i line (slice_get_within lines i line at) ∙ ap (λ (k : HintLine). take i lines ++ k ∷ []) (get_or_from_slice_get lines i line line at) in
    ap (λ (ls : HintLines). length (flat_map clauses_learnt ls)) next ∙ ap length (flat_map_last clauses_learnt (take i lines) line)
    ∙ length-append (flat_map clauses_learnt (take i lines)) (clauses_learnt line)
    ∙ ap (λ m. m + length (clauses_learnt line)) (sym is)

pub one_learnt : (line : HintLine) (lits : List Literal) (hints : List ℕ) → line ≡ Learnt lits hints → length (clauses_learnt line) ≡ 1
one_learnt line lits hints is = ap (λ (l : HintLine). length (clauses_learnt l)) is

pub no_learnt : (line : HintLine) → ((lits : List Literal) (hints : List ℕ) → line ≡ Learnt lits hints → ⊥) → length (clauses_learnt line) ≡ 0
no_learnt (Learnt lits hints) other = absurd (other lits hints refl)
no_learnt (Refuted lits hints) other = refl
