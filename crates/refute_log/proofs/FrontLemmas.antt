-- A log's file begins the text of some log, whatever fails.
use Rattle.std.proofs.Common.{◌≡◌, ℕ, Bool, true, false, List, [], ◌∷◌, ◌++◌, take, drop, None, Some, sym, ◌∙◌, ap, refl, subst, append_assoc}
use Rattle.std.proofs.lemmas.List.{take-append-drop}
use Rattle.std.specs.declared.option.Option.{Option}
use Rattle.outside_io.specs.Contents.{Told, WhereTold, SameElsewhere, Sets, AppendsTo, MayAppendTo}
use Rattle.refute_log.specs.declared.line.LogLine.{LogLine}
use Rattle.refute_log.specs.Lines.{header, ended_text, MayBeTold}
use Rattle.plan_core.proofs.ListFacts.{each_pushed}
use Rattle.refute_log.specs.Told.{Lines}
use Rattle.refute_log.specs.FileLog.{TellsText, FileBeginsLog, KeepsLogText}
use Rattle.refute_log.proofs.StartLemmas.{started}
use Rattle.refute_log.proofs.TextLemmas.{text_gathered, text_appended}

pub whole_begins : (told : Told) (name gathered : List ℕ) (lines : Lines) → TellsText false (Some told) name gathered lines → FileBeginsLog told name
whole_begins told name gathered lines h = (h.1.0, h.1.1, record { lines = lines; more = gathered; formed = h.2; spelled = h.1.2 })

pub kept_begins : (failed : Bool) (told : Told) (name gathered : List ℕ) → KeepsLogText failed told name gathered → FileBeginsLog told name
kept_begins true told name gathered k = k
kept_begins false told name gathered k = whole_begins told name gathered k.0 k.1

-- one more line was gathered
pub line_kept : (failed : Bool) (told : Told) (name gathered now : List ℕ) (line : LogLine) → failed ≡ false → MayBeTold line →
    now ≡ gathered ++ ended_text line → KeepsLogText failed told name gathered → KeepsLogText false told name now
line_kept failed told name gathered now line e f h kept =
    let P : Bool → Type 0 = λ (b : Bool). KeepsLogText b told name gathered in
    let k : KeepsLogText false told name gathered = subst P e kept in
    (k.0 ++ line ∷ [], (refl, text_gathered (Some told) name gathered now k.0 line h k.1.1, each_pushed MayBeTold k.0 line k.1.2 f))

-- what was gathered has gone into the file
pub piece_kept : (old new : Told) (name gathered now : List ℕ) → now ≡ [] → AppendsTo name gathered old new → KeepsLogText false old name gathered →
    KeepsLogText false new name now
piece_kept old new name gathered now e w k =
    (k.0, (refl, text_appended (Some old) (Some new) name gathered now k.0 e w k.1.1, k.1.2))

-- only some of what was gathered has
pub cut_begins : (old new : Told) (name gathered : List ℕ) → MayAppendTo name gathered old new → KeepsLogText false old name gathered → FileBeginsLog new name
cut_begins old new name gathered w k =
    let bytes = k.1.1.0 in
    let grown = w.grown bytes k.1.1.1 in (
      bytes ++ take grown.0 gathered,
      grown.1,
      record {
        lines = k.0;
        more = drop grown.0 gathered;
        formed = k.1.2;
        spelled = append_assoc bytes (take grown.0 gathered) (drop grown.0 gathered) ∙ ap (λ (xs : List ℕ). bytes ++ xs) (take-append-drop grown.0 gathered)
            ∙ k.1.1.2;
      },
    )

-- the same where contents are told, and with what is kept after a call

pub others_of_cut : (a b : Option Told) (name bytes : List ℕ) → WhereTold a b (MayAppendTo name bytes) → WhereTold a b (SameElsewhere name)
others_of_cut None b name bytes w = tt
others_of_cut (Some x) None name bytes w = absurd w
others_of_cut (Some x) (Some y) name bytes w = w.others

pub others_of_piece : (a b : Option Told) (name bytes : List ℕ) → WhereTold a b (AppendsTo name bytes) → WhereTold a b (SameElsewhere name)
others_of_piece None b name bytes w = tt
others_of_piece (Some x) None name bytes w = absurd w
others_of_piece (Some x) (Some y) name bytes w = w.others

-- the gathered text couldn't be appended, or not as a whole
pub cut_keeps : (a b : Option Told) (failed : Bool) (name gathered now : List ℕ) (line : LogLine) → failed ≡ false → MayBeTold line →
    now ≡ gathered ++ ended_text line → WhereTold a b (MayAppendTo name now) →
    WhereTold a b (λ x y. KeepsLogText failed x name gathered → KeepsLogText true y name now)
cut_keeps None b failed name gathered now line e f h w = tt
cut_keeps (Some x) None failed name gathered now line e f h w = absurd w
cut_keeps (Some x) (Some y) failed name gathered now line e f h w = λ k. cut_begins x y name now w (line_kept failed x name gathered now line e f h k)

-- the line was gathered
pub line_keeps : (c : Option Told) (failed : Bool) (name gathered now : List ℕ) (line : LogLine) → failed ≡ false → MayBeTold line →
    now ≡ gathered ++ ended_text line → WhereTold c c (λ x y. KeepsLogText failed x name gathered → KeepsLogText failed y name now)
line_keeps None failed name gathered now line e f h = tt
line_keeps (Some x) failed name gathered now line e f h = λ k. let P : Bool →
    Type 0 = λ (b : Bool). KeepsLogText b x name now in subst P (sym e) (line_kept failed x name gathered now line e f h k)

-- the gathered text was appended
pub piece_keeps : (a b : Option Told) (failed : Bool) (name gathered now after : List ℕ) (line : LogLine) → failed ≡ false → MayBeTold line →
    now ≡ gathered ++ ended_text line → after ≡ [] → WhereTold a b (AppendsTo name now) →
    WhereTold a b (λ x y. KeepsLogText failed x name gathered → KeepsLogText failed y name after)
piece_keeps None b failed name gathered now after line e f h z w = tt
piece_keeps (Some x) None failed name gathered now after line e f h z w = absurd w
piece_keeps (Some x) (Some y) failed name gathered now after line e f h z w = λ k. let P : Bool →
    Type 0 = λ (b : Bool). KeepsLogText b y name after in subst P (sym e) (piece_kept x y name now after z w
    (line_kept failed x name gathered now line e f h k))

-- a log that was just started keeps the text of a log without lines
pub started_keeps : (a b : Option Told) (name own gathered : List ℕ) (failed : Bool) → own ≡ name → failed ≡ false → gathered ≡ [] →
    WhereTold a b (Sets name header) → WhereTold a b (λ x y. KeepsLogText failed y own gathered)
started_keeps None b name own gathered failed e f g w = tt
started_keeps (Some x) None name own gathered failed e f g w = absurd w
started_keeps (Some x) (Some y) name own gathered failed e f g w =
    let t = started (Some x) (Some y) name own gathered failed e f g w tt in
    let P : Bool → Type 0 = λ (b : Bool). KeepsLogText b y own gathered in
    subst P (sym f) ([], (refl, t.1, t.2))

-- the rest was appended
pub rest_begins : (a b : Option Told) (failed : Bool) (name gathered : List ℕ) → failed ≡ false → WhereTold a b (AppendsTo name gathered) →
    WhereTold a b (λ x y. KeepsLogText failed x name gathered → FileBeginsLog y name)
rest_begins None b failed name gathered e w = tt
rest_begins (Some x) None failed name gathered e w = absurd w
rest_begins (Some x) (Some y) failed name gathered e w = λ k. let P : Bool →
    Type 0 = λ (b : Bool). KeepsLogText b x name gathered in kept_begins false y name [] (piece_kept x y name gathered [] refl w (subst P e k))

-- only some of the rest was
pub rest_cut : (a b : Option Told) (failed : Bool) (name gathered : List ℕ) → failed ≡ false → WhereTold a b (MayAppendTo name gathered) →
    WhereTold a b (λ x y. KeepsLogText failed x name gathered → FileBeginsLog y name)
rest_cut None b failed name gathered e w = tt
rest_cut (Some x) None failed name gathered e w = absurd w
rest_cut (Some x) (Some y) failed name gathered e w = λ k. let P : Bool →
    Type 0 = λ (b : Bool). KeepsLogText b x name gathered in cut_begins x y name gathered w (subst P e k)
