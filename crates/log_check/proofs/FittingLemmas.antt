-- Lines that fit, one after another.
use Rattle.std.proofs.Common.{◌≡◌, ℕ, suc, ◌+◌, ◌<◌, ◌≤◌, List, [], ◌∷◌, ◌++◌, length, take, drop, get_or, sym, ◌∙◌, ap, subst, arith, append_assoc, drop-cons}
use Rattle.std.proofs.Common.{Some}
use Rattle.std.specs.Prelude.{slice_get, flat_map}
use Rattle.std.proofs.lemmas.Grind.{flat_map-append}
use Rattle.std.proofs.lemmas.List.Concat.{flat_map-cons}
use Rattle.std.proofs.lemmas.List.{take_more, take_all, take-append-drop, append_cancel_left}
use Rattle.std.proofs.lemmas.Option.{slice_get_within, get_or_from_slice_get}
use Rattle.cnf_core.specs.Clause.{words_of}
use Rattle.cnf_core.proofs.ClauseLemmas.{words_append}
use Rattle.refute_log.specs.declared.line.LogLine.{LogLine}
use Rattle.refute_log.specs.Told.{Lines}
use Rattle.refute_log.specs.Log.{added, clause_line, clause_lines, BeginsLines}
use Rattle.refute_log.proofs.LogLemmas.{flat_map_last}

-- what holds of the lines before this one with it behind them
at_next : (P : Lines → Type 0) (lines : Lines) (i : ℕ) (line : LogLine) → slice_get lines i ≡ Some line → P (take i lines ++ line ∷ []) → P (take (i + 1) lines)
at_next P lines i line e =
    let last : get_or lines i line ≡ line = get_or_from_slice_get lines i line line e in
    subst P (sym (take_more lines i line (slice_get_within lines i line e) ∙ ap (λ (l : LogLine). take i lines ++ l ∷ []) last))

-- what all lines have, before a line and behind it
around : {A : Type 0} (f : LogLine → List A) (lines : Lines) (i : ℕ) (line : LogLine) → slice_get lines i ≡ Some line →
    flat_map f lines ≡ flat_map f (take i lines) ++ (f line ++ flat_map f (drop (suc i) lines))
around {A} f lines i line e =
    let behind = drop (suc i) lines in
    let rest : drop i lines ≡ line ∷ behind = drop-cons lines i line (slice_get_within lines i line e)
    ∙ ap (λ (l : LogLine). l ∷ behind) (get_or_from_slice_get lines i line line e) in
    ap (flat_map f) (sym (take-append-drop i lines)) ∙ flat_map-append f (take i lines) (drop i lines)
    ∙ ap (λ (xs : List A). flat_map f (take i lines) ++ xs) (ap (flat_map f) rest ∙ flat_map-cons f line behind)

-- ---- lines that are awaited

pub awaited_more : (all now next lines : Lines) (i : ℕ) (line : LogLine) → slice_get lines i ≡ Some line → all ≡ clause_lines (take i lines) ++ now →
    now ≡ clause_line line ++ next → all ≡ clause_lines (take (i + 1) lines) ++ next
awaited_more all now next lines i line e is more = at_next (λ ls. all ≡ clause_lines ls ++ next) lines i line e (
    is ∙ ap (λ (ls : Lines). clause_lines (take i lines) ++ ls) more ∙ sym (append_assoc (clause_lines (take i lines)) (clause_line line) next)
    ∙ ap (λ (ls : Lines). ls ++ next) (sym (flat_map_last clause_line (take i lines) line))
    )

pub awaited_other : (all now lines : Lines) (i : ℕ) (line : LogLine) → slice_get lines i ≡ Some line → all ≡ clause_lines (take i lines) ++ now →
    ((more : Lines) → now ≡ clause_line line ++ more → ⊥) → BeginsLines (clause_lines lines) all → ⊥
awaited_other all now lines i line e is other begins =
    let front = clause_lines (take i lines) in
    let behind = clause_lines (drop (suc i) lines) in
    let whole : front ++ now ≡ (front ++ (clause_line line ++ behind)) ++ begins.0 = sym is ∙ begins.1
    ∙ ap (λ (ls : Lines). ls ++ begins.0) (around clause_line lines i line e) in
    let cut : now ≡ (clause_line line ++ behind) ++ begins.0 = append_cancel_left front now ((clause_line line ++ behind) ++ begins.0)
    (whole ∙ append_assoc front (clause_line line ++ behind) begins.0) in
    other (behind ++ begins.0) (cut ∙ append_assoc (clause_line line) behind begins.0)

pub awaited_to_end : (all now lines : Lines) (i : ℕ) → length lines ≤ i → all ≡ clause_lines (take i lines) ++ now → BeginsLines (clause_lines lines) all
awaited_to_end all now lines i end is = (now, is ∙ ap (λ (ls : Lines). clause_lines ls ++ now) (take_all i lines end))

-- ---- room

pub room_more : (whole room left : ℕ) (lines : Lines) (i : ℕ) (line : LogLine) → slice_get lines i ≡ Some line →
    room + words_of (flat_map added (take i lines)) ≡ whole → left + words_of (added line) ≡ room →
    left + words_of (flat_map added (take (i + 1) lines)) ≡ whole
room_more whole room left lines i line e is more = at_next (λ ls. left + words_of (flat_map added ls) ≡ whole) lines i line e
    (omega (arith, ap words_of (flat_map_last added (take i lines) line), words_append (flat_map added (take i lines)) (added line)))

pub room_missed : (whole room : ℕ) (lines : Lines) (i : ℕ) (line : LogLine) → slice_get lines i ≡ Some line →
    room + words_of (flat_map added (take i lines)) ≡ whole → room < words_of (added line) → whole < words_of (flat_map added lines)
room_missed whole room lines i line e is over =
    let behind = flat_map added (drop (suc i) lines) in
    omega (
      arith,
      ap words_of (around added lines i line e),
      words_append (flat_map added (take i lines)) (added line ++ behind),
      words_append (added line)
          behind,
    )

pub no_line_next : (lines : Lines) (i : ℕ) (line : LogLine) → slice_get lines i ≡ Some line → clause_lines (take i lines) ≡ [] → clause_line line ≡ [] →
    clause_lines (take (i + 1) lines) ≡ []
no_line_next lines i line at none is = at_next (λ ls. clause_lines ls ≡ []) lines i line at
    (flat_map_last clause_line (take i lines) line ∙ ap (λ (ls : Lines). ls ++ clause_line line) none ∙ is)

pub some_line : (lines : Lines) (i : ℕ) (line : LogLine) → slice_get lines i ≡ Some line → clause_line line ≡ line ∷ [] → clause_lines lines ≡ [] → ⊥
some_line lines i line at is none =
    let front = clause_lines (take i lines) in
    let behind = clause_lines (drop (suc i) lines) in
    never front line behind (sym none ∙ around clause_line lines i line at ∙ ap (λ (ls : Lines). front ++ (ls ++ behind)) is)
  where
    never : (xs : Lines) (l : LogLine) (ys : Lines) → [] ≡ xs ++ l ∷ ys → ⊥
    never [] l ys e = cc
    never (x ∷ xs) l ys e = cc
