-- A text is cut at its line feeds in one way, and its lines are one list.
use Rattle.std.proofs.Common.{◌≡◌, ℕ, ◌⊎◌, List, [], ◌∷◌, ◌++◌, refl, sym, ◌∙◌, ap, subst, inl, inr, append_assoc}
use Rattle.std.specs.Prelude.{All, flat_map, codes}
use Rattle.std.proofs.lemmas.List.Elements.{All-head, All-tail}
use Rattle.outside_io.specs.Fields.{LacksByte}
use Rattle.refute_log.specs.declared.line.LogLine.{LogLine}
use Rattle.refute_log.specs.declared.fault.LogWhat.{LogWhat}
use Rattle.refute_log.specs.Lines.{header, ended_text, log_text, log_line_text, MayBeTold, MayAllBeTold}
use Rattle.refute_log.specs.LineText.{IsTextOf, HasLineFault}
use Rattle.refute_log.specs.Told.{Lines}
use Rattle.refute_log.proofs.LawLemmas.{line_once, line_no_fault, fault_once}
use Rattle.refute_log.proofs.FeedLemmas.{line_lacks, told_is_read}
use Rattle.log_check.specs.TextLines.{AreTextLines, AreToldBounds, HasToldBounds, HasNextFault}

-- ---- one cut

-- a text ends at its first line feed
pub record SameCut (xs ys r s : List ℕ) : Type 0 where
  pub front : xs ≡ ys
  pub rest : r ≡ s

pub same_cut : (xs ys r s : List ℕ) → LacksByte 10 xs → LacksByte 10 ys → xs ++ 10 ∷ r ≡ ys ++ 10 ∷ s → SameCut xs ys r s
same_cut [] [] r s h k e = record { front = refl; rest = cc }
same_cut [] (y ∷ ys) r s h k e = let f : y ≡ 10 = cc in absurd (k.0 f)
same_cut (x ∷ xs) [] r s h k e = let f : x ≡ 10 = cc in absurd (h.0 f)
same_cut (x ∷ xs) (y ∷ ys) r s h k e =
    let f : x ≡ y = cc in
    let g : xs ++ 10 ∷ r ≡ ys ++ 10 ∷ s = cc in
    let more = same_cut xs ys r s h.1 k.1 g in
    record { front = cc (f, more.front); rest = more.rest }

pub no_cut : (text xs r : List ℕ) → LacksByte 10 text → text ≡ xs ++ 10 ∷ r → ⊥
no_cut [] [] r h e = cc
no_cut [] (x ∷ xs) r h e = cc
no_cut (b ∷ text) [] r h e = let f : b ≡ 10 = cc in h.0 f
no_cut (b ∷ text) (x ∷ xs) r h e = let f : text ≡ xs ++ 10 ∷ r = cc in no_cut text xs r h.1 f

-- ---- the lines of a text

abbrev ended : List ℕ → List ℕ
ended line = line ++ codes "\n"

one_more : (x : List ℕ) (xs : List (List ℕ)) (r : List ℕ) → flat_map ended (x ∷ xs) ++ r ≡ x ++ 10 ∷ (flat_map ended xs ++ r)
one_more x xs r = append_assoc (ended x) (flat_map ended xs) r ∙ append_assoc x (10 ∷ []) (flat_map ended xs ++ r)

same_lines : (xs ys : List (List ℕ)) (r s : List ℕ) → All (LacksByte 10) xs → All (LacksByte 10) ys → LacksByte 10 r → LacksByte 10 s →
    flat_map ended xs ++ r ≡ flat_map ended ys ++ s → xs ≡ ys
same_lines [] [] r s h k a b e = refl
same_lines [] (y ∷ ys) r s h k a b e = absurd (no_cut r y (flat_map ended ys ++ s) a (e ∙ one_more y ys s))
same_lines (x ∷ xs) [] r s h k a b e = absurd (no_cut s x (flat_map ended xs ++ r) b (sym e ∙ one_more x xs r))
same_lines (x ∷ xs) (y ∷ ys) r s h k a b e =
    let cut = same_cut x y (flat_map ended xs ++ r) (flat_map ended ys ++ s) (All-head (LacksByte 10) x xs h) (All-head (LacksByte 10) y ys k)
    (sym (one_more x xs r) ∙ e ∙ one_more y ys s) in
    let more = same_lines xs ys r s (All-tail (LacksByte 10) x xs h) (All-tail (LacksByte 10) y ys k) a b cut.rest in
    cc (cut.front, more)

pub text_lines_once : (text : List ℕ) (xs ys : List (List ℕ)) → AreTextLines text xs → AreTextLines text ys → xs ≡ ys
text_lines_once text xs ys h k = same_lines xs ys h.rest k.rest h.each k.each h.unended k.unended (sym h.spelled ∙ k.spelled)

read_once : (text : List ℕ) (a b : LogLine) → IsTextOf text a → IsTextOf text b → a ≡ b
read_once text a b h k = line_once text a b h.spells k.spells

told_once : (texts : List (List ℕ)) (a b : Lines) → AreToldBounds texts a → AreToldBounds texts b → a ≡ b
told_once [] [] [] h k = refl
told_once [] [] (l ∷ b) h k = absurd k
told_once [] (l ∷ a) b h k = absurd h
told_once (t ∷ texts) a b (inl h) (inl k) =
    let line = read_once t h.0 k.0 h.3.1 k.3.1 in
    let more = told_once texts h.1 k.1 h.4 k.4 in
    h.2 ∙ ap (λ (l : LogLine). l ∷ h.1) line ∙ ap (λ (ls : Lines). k.0 ∷ ls) more ∙ sym k.2
told_once (t ∷ texts) a b (inl h) (inr k) = absurd (k.0 h.0 h.3)
told_once (t ∷ texts) a b (inr h) (inl k) = absurd (h.0 k.0 k.3)
told_once (t ∷ texts) a b (inr h) (inr k) = told_once texts a b h.1 k.1

pub bounds_once : (bytes : List ℕ) (a b : Lines) → HasToldBounds bytes a → HasToldBounds bytes b → a ≡ b
bounds_once bytes a b h k =
    told_once h.texts a b h.bounds (subst (λ (ts : List (List ℕ)). AreToldBounds ts b) (sym (text_lines_once bytes h.texts k.texts h.cut k.cut)) k.bounds)

-- ---- the text of lines

one_line_more : (l : LogLine) (r : List ℕ) → ended_text l ++ r ≡ log_line_text l ++ 10 ∷ r
one_line_more l r = append_assoc (log_line_text l) (10 ∷ []) r

-- the first line of a text is one
pub record SameLine (k l : LogLine) (r s : List ℕ) : Type 0 where
  pub line : k ≡ l
  pub rest : r ≡ s

pub same_line : (k l : LogLine) (r s : List ℕ) → MayBeTold k → MayBeTold l → ended_text k ++ r ≡ ended_text l ++ s → SameLine k l r s
same_line k l r s a b e =
    let cut = same_cut (log_line_text k) (log_line_text l) r s (line_lacks k a.formed) (line_lacks l b.formed)
    (sym (one_line_more k r) ∙ e ∙ one_line_more l s) in
    record { line = read_once (log_line_text l) k l (subst (λ (t : List ℕ). IsTextOf t k) cut.front (told_is_read k a)) (told_is_read l b); rest = cut.rest }

-- a text doesn't end where a line begins
pub line_goes_on : (l : LogLine) (r : List ℕ) → [] ≡ ended_text l ++ r → ⊥
line_goes_on l r e = no_cut [] (log_line_text l) r tt (e ∙ one_line_more l r)

-- nor has its next line a fault
pub line_has_no_fault : (l : LogLine) (rest r : List ℕ) (what : LogWhat) → MayBeTold l → rest ≡ ended_text l ++ r → HasNextFault rest what → ⊥
line_has_no_fault l rest r what told e (inl h) =
    let cut = same_cut (log_line_text l) h.0 r h.1 (line_lacks l told.formed) h.2.first (sym (one_line_more l r) ∙ sym e ∙ h.2.spelled) in
    line_no_fault h.0 l what (subst (λ (t : List ℕ). IsTextOf t l) cut.front (told_is_read l told)) h.3
line_has_no_fault l rest r what told e (inr h) = no_cut rest (log_line_text l) r h.2 (e ∙ one_line_more l r)

pub next_fault_once : (rest : List ℕ) (a b : LogWhat) → HasNextFault rest a → HasNextFault rest b → a ≡ b
next_fault_once rest a b (inl h) (inl k) =
    let cut = same_cut h.0 k.0 h.1 k.1 h.2.first k.2.first (sym h.2.spelled ∙ k.2.spelled) in
    fault_once k.0 a b (subst (λ (t : List ℕ). HasLineFault t a) cut.front h.3) k.3
next_fault_once rest a b (inl h) (inr k) = absurd (no_cut rest h.0 h.1 k.2 h.2.spelled)
next_fault_once rest a b (inr h) (inl k) = absurd (no_cut rest k.0 k.1 h.2 k.2.spelled)
next_fault_once rest a b (inr h) (inr k) = h.0 ∙ sym k.0

pub no_next_fault : (what : LogWhat) → HasNextFault [] what → ⊥
no_next_fault what (inl h) = no_cut [] h.0 h.1 tt h.2.spelled
no_next_fault what (inr h) = h.1 refl

-- ---- two fronts of one text

-- the first list begins the second, and its rest begins with the other lines
pub record Begins (xs ys : Lines) (r s : List ℕ) : Type 0 where
  pub more : Lines
  pub lines : ys ≡ xs ++ more
  pub rest : r ≡ flat_map ended_text more ++ s
  pub told : MayAllBeTold more

fronts : (xs ys : Lines) (r s : List ℕ) → MayAllBeTold xs → MayAllBeTold ys → flat_map ended_text xs ++ r ≡ flat_map ended_text ys ++ s →
    Begins xs ys r s ⊎ Begins ys xs s r
fronts [] ys r s h k e = inl (record { more = ys; lines = refl; rest = e; told = k })
fronts (x ∷ xs) [] r s h k e = inr (record { more = x ∷ xs; lines = refl; rest = sym e; told = h })
fronts (x ∷ xs) (y ∷ ys) r s h k e =
    let split : (l : LogLine) (ls : Lines) (t : List ℕ) → flat_map ended_text (l ∷ ls) ++ t ≡ ended_text l ++ (flat_map ended_text ls ++ t) = λ l ls
    t. append_assoc (ended_text l) (flat_map ended_text ls) t in
    let same = same_line x y (flat_map ended_text xs ++ r) (flat_map ended_text ys ++ s) h.0 k.0 (sym (split x xs r) ∙ e ∙ split y ys s) in
    elim (fronts xs ys r s h.1 k.1 same.rest) [
      | inl b ↦ inl (record { more = b.more; lines = cc (same.line, b.lines); rest = b.rest; told = b.told })
      | inr b ↦ inr (record { more = b.more; lines = cc (same.line, b.lines); rest = b.rest; told = b.told })
    ]

same_rest : (xs ys zs : List ℕ) → xs ++ ys ≡ xs ++ zs → ys ≡ zs
same_rest [] ys zs e = e
same_rest (x ∷ xs) ys zs e = same_rest xs ys zs (let t : xs ++ ys ≡ xs ++ zs = cc in t)

pub log_fronts : (bytes : List ℕ) (xs ys : Lines) (r s : List ℕ) → MayAllBeTold xs → MayAllBeTold ys → bytes ≡ log_text xs ++ r → bytes ≡ log_text ys ++ s →
    Begins xs ys r s ⊎ Begins ys xs s r
log_fronts bytes xs ys r s h k a b =
    let split : (ls : Lines) (t : List ℕ) → log_text ls ++ t ≡ header ++ (flat_map ended_text ls ++ t) = λ ls t. append_assoc header (flat_map ended_text ls)
    t in
    fronts xs ys r s h k (same_rest header (flat_map ended_text xs ++ r) (flat_map ended_text ys ++ s) (sym (split xs r) ∙ sym a ∙ b ∙ split ys s))
