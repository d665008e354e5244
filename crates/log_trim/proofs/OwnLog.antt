-- The Bound lines of the text of lines that may be told are those of these lines.
use Rattle.std.proofs.Common.{◌≡◌, ℕ, ◌<◌, true, List, [], ◌∷◌, ◌++◌, map, refl, sym, ◌∙◌, ap, inl, inr, arith, append-nil}
use Rattle.std.specs.Prelude.{All, flat_map, codes, nat_lt}
use Rattle.std.specs.List.{list_all}
use Rattle.std.proofs.lemmas.Bool.{and_parts, ltb-true}
use Rattle.std.proofs.lemmas.List.Elements.{All-nil, All-cons}
use Rattle.outside_io.specs.Fields.{LacksByte}
use Rattle.refute_log.specs.declared.line.LogLine.{LogLine}
use Rattle.refute_log.specs.declared.line.LogLine.TheVariants.{Formula, Learnt, Bound, Query, Refuted, Model}
use Rattle.refute_log.specs.Lines.{ended_text, log_line_text, log_text, MayAllBeTold}
use Rattle.refute_log.specs.Told.{Lines}
use Rattle.refute_log.proofs.FeedLemmas.{line_lacks, told_is_read}
use Rattle.log_check.specs.TextLines.{IsBoundText, AreToldBounds, HasToldBounds, told_bound_line}
use Rattle.log_check.proofs.CountingLemmas.{no_other}

abbrev title : List ℕ
title = codes "railplan-log 1"

-- ---- the first line

lacks : (xs : List ℕ) → list_all (λ x. nat_lt 10 x) xs ≡ true → LacksByte 10 xs
lacks [] great = tt
lacks (x ∷ xs) great =
    let both = and_parts (nat_lt 10 x) (list_all (λ y. nat_lt 10 y) xs) great in
    let more : 10 < x = ltb-true 10 x both.0 in
    (λ e. omega (arith, more), lacks xs both.1)

-- a text's first byte
abbrev first_byte : List ℕ → ℕ
first_byte [] = 0
first_byte (b ∷ bs) = b

-- it is that of no Bound line
title_none : (line : LogLine) → IsBoundText title line → ⊥
title_none line is =
    let e : told_bound_line line ≡ line ∷ [] = is.0 in
    no_bound line e is.1.spells.spelled
  where
    no_bound : (l : LogLine) → told_bound_line l ≡ l ∷ [] → log_line_text l ≡ title → ⊥
    no_bound (Formula c) e same = cc
    no_bound (Learnt c) e same = cc
    no_bound (Bound criterion k x) e same = let f : 98 ≡ 114 = ap first_byte same in omega (arith, f)
    no_bound (Query c) e same = cc
    no_bound (Refuted c) e same = cc
    no_bound Model e same = cc

-- ---- the others

each_lacks : (lines : Lines) → MayAllBeTold lines → All (LacksByte 10) (map log_line_text lines)
each_lacks [] told = All-nil (LacksByte 10)
each_lacks (line ∷ lines) told = All-cons (LacksByte 10) (log_line_text line) (map log_line_text lines) (line_lacks line told.0.formed)
    (each_lacks lines told.1)

spelled : (lines : Lines) → flat_map ended_text lines ≡ flat_map (λ (line : List ℕ). line ++ codes "\n") (map log_line_text lines)
spelled [] = refl
spelled (line ∷ lines) = ap (λ (text : List ℕ). ended_text line ++ text) (spelled lines)

bounds : (lines : Lines) → MayAllBeTold lines → AreToldBounds (map log_line_text lines) (flat_map told_bound_line lines)
bounds [] told = tt
bounds (Formula c ∷ lines) told = inr (no_other (log_line_text (Formula c)) (Formula c) refl (told_is_read (Formula c) told.0), bounds lines told.1)
bounds (Learnt c ∷ lines) told = inr (no_other (log_line_text (Learnt c)) (Learnt c) refl (told_is_read (Learnt c) told.0), bounds lines told.1)
bounds (Bound d k x ∷ lines) told = inl (Bound d k x, flat_map told_bound_line lines, refl, (refl, told_is_read (Bound d k x) told.0), bounds lines told.1)
bounds (Query c ∷ lines) told = inr (no_other (log_line_text (Query c)) (Query c) refl (told_is_read (Query c) told.0), bounds lines told.1)
bounds (Refuted c ∷ lines) told = inr (no_other (log_line_text (Refuted c)) (Refuted c) refl (told_is_read (Refuted c) told.0), bounds lines told.1)
bounds (Model ∷ lines) told = inr (no_other (log_line_text Model) Model refl (told_is_read Model told.0), bounds lines told.1)

pub own_bounds : (lines : Lines) → MayAllBeTold lines → HasToldBounds (log_text lines) (flat_map told_bound_line lines)
own_bounds lines told = record {
  texts = title ∷ map log_line_text lines;
  cut = record {
    rest = [];
    each = All-cons (LacksByte 10) title (map log_line_text lines) (lacks title refl) (each_lacks lines told);
    unended = tt;
    spelled = ap (λ (text : List ℕ). codes "railplan-log 1\n" ++ text) (spelled lines)
        ∙ sym (append-nil (codes "railplan-log 1\n" ++ flat_map (λ (line : List ℕ). line ++ codes "\n") (map log_line_text lines)));
  };
  bounds = inr (title_none, bounds lines told);
}
