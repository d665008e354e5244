-- Words have one answer.
use Rattle.std.proofs.Common.{◌≡◌, ◌≢◌, ℕ, zero, suc, ◌+◌, ◌^◌, ◌<◌, ◌⊎◌, inl, inr, None, Some, List, [], ◌∷◌, ◌++◌, length, get_or, refl, sym, ap, subst, ◌∙◌}
use Rattle.std.proofs.Common.{length-append, arith}
use Rattle.std.specs.Prelude.{Result, IfOk, IfErr, Option, if◌then◌else◌, ◌==◌}
use Rattle.std.proofs.Math.Seq.{get_or-append_seam}
use Rattle.std.proofs.lemmas.List.{get_or_append_left}
use Rattle.std.proofs.lemmas.Fmt.{decimal_injective}
use Rattle.plan_core.specs.Grid.{GridSize, grid_with}
use Rattle.plan_core.specs.declared.limits.TheConstants.{MAX_WIDTH, MAX_HEIGHT, MAX_LEAST, MAX_BUDGET}
use Rattle.plan_core.specs.Exactly.{AnswersExactly}
use Rattle.plan_core.proofs.ExactlyLemmas.{answers_exactly}
use Rattle.outside_io.specs.Numbers.{IsNumberIn}
use Rattle.plan_core.specs.declared.criterion.Criterion.{Criterion}
use Rattle.plan_words.specs.declared.command.CommandWord.{CommandWord}
use Rattle.plan_words.specs.declared.command.CommandWord.TheVariants as words
use Rattle.plan_words.specs.declared.command.Command.{Command}
use Rattle.plan_words.specs.declared.command.Command.TheVariants.{Draw, Verify, Check, Graph, Make, Trial, Signals, Front, Redraw, Explain, Trim, Recheck}
use Rattle.plan_words.specs.declared.arguments.Argument.{Argument}
use Rattle.plan_words.specs.declared.files.FileWord.{FileWord}
use Rattle.plan_words.specs.declared.fault.WordWhat.{WordWhat}
use Rattle.plan_words.specs.declared.fault.WordWhat.TheVariants.{NoCommand, UnknownCommand, MissingName, ExtraWord, UnknownOption, RepeatedOption, BadValue}
use Rattle.plan_words.specs.declared.fault.WordFault.{WordFault}
use Rattle.plan_words.specs.declared.fault.WordFault.TheVariants as answers
use Rattle.plan_words.specs.OptionValues.{IsOrderText, IsSeed}
use Rattle.plan_words.specs.Arguments.{arguments_from, argument_names, files_in}
use Rattle.plan_words.specs.WordFaults.{command_word, number_of, SomeHasWordFault, IsLeftmost, MayBothStand, AllMayStand, HasClash, IsFirstRepeat, IsMissing}
use Rattle.plan_words.specs.WordFaults.{HasOneNameTwice, IsFaultOfArguments, IsFaultBehind, IsFaultOfWords}
use Rattle.plan_words.specs.Words.{default_order, IsChosen, IsDrawCommand, IsFrontCommand, IsRedrawCommand, command_kind, HasParts, AreSoundArguments}
use Rattle.plan_words.specs.Words.{IsCommandOf, IsWordFault, IsExplainCommand}
use Rattle.plan_words.proofs.OrderTextLemmas.{criteria_text_injective}
use Rattle.plan_words.proofs.FileLemmas.{values_apart}

-- ---- words of commands and numbers of faults are distinct

abbrev command_at : List ℕ → CommandWord
command_at [] = words.Draw
command_at (b ∷ bytes) = if b == 118 then words.Verify else if b == 99 then words.Check else if b == 103 then words.Graph else if b == 109 then words.Make else
    if b == 116 then (if length bytes == 3 then words.Trim else words.Trial) else if b == 115 then words.Signals else if b == 102 then words.Front else if
    b == 114 then (if length bytes == 6 then words.Recheck else words.Redraw) else if b == 101 then words.Explain else words.Draw

command_at-word : (command : CommandWord) → command_at (command_word command) ≡ command
command_at-word words.Draw = refl
command_at-word words.Verify = refl
command_at-word words.Check = refl
command_at-word words.Graph = refl
command_at-word words.Make = refl
command_at-word words.Trial = refl
command_at-word words.Signals = refl
command_at-word words.Front = refl
command_at-word words.Redraw = refl
command_at-word words.Explain = refl
command_at-word words.Trim = refl
command_at-word words.Recheck = refl

command_word_injective : (a b : CommandWord) → command_word a ≡ command_word b → a ≡ b
command_word_injective a b is = sym (command_at-word a) ∙ ap command_at is ∙ command_at-word b

abbrev kind_at : ℕ → WordWhat
kind_at (suc zero) = NoCommand
kind_at (suc (suc zero)) = UnknownCommand
kind_at (suc (suc (suc zero))) = MissingName
kind_at (suc (suc (suc (suc zero)))) = ExtraWord
kind_at (suc (suc (suc (suc (suc zero))))) = UnknownOption
kind_at (suc (suc (suc (suc (suc (suc zero)))))) = RepeatedOption
kind_at other = BadValue

kind_at-number : (what : WordWhat) → kind_at (number_of what) ≡ what
kind_at-number NoCommand = refl
kind_at-number UnknownCommand = refl
kind_at-number MissingName = refl
kind_at-number ExtraWord = refl
kind_at-number UnknownOption = refl
kind_at-number RepeatedOption = refl
kind_at-number BadValue = refl

number_of_injective : (a b : WordWhat) → number_of a ≡ number_of b → a ≡ b
number_of_injective a b is = sym (kind_at-number a) ∙ ap kind_at is ∙ kind_at-number b

-- ---- a list is cut at two places

two_cuts : (before : List FileWord) (x : FileWord) (after front : List FileWord) (y : FileWord) (back : List FileWord) →
    before ++ x ∷ after ≡ front ++ y ∷ back → ((before ≡ front) × (x ≡ y)) ⊎ (((between : List FileWord) × (front ≡ before ++ x ∷ between)) ⊎
    ((between : List FileWord) × (before ≡ front ++ y ∷ between)))
two_cuts [] x after [] y back e = let same : x ≡ y = cc in inl (refl, same)
two_cuts [] x after (z ∷ front) y back e = let same : z ≡ x = cc in inr (inl (front, ap (λ (w : FileWord). w ∷ front) same))
two_cuts (w ∷ before) x after [] y back e = let same : w ≡ y = cc in inr (inr (before, ap (λ (v : FileWord). v ∷ before) same))
two_cuts (w ∷ before) x after (z ∷ front) y back e =
    let same : w ≡ z = cc in
    let tail : before ++ x ∷ after ≡ front ++ y ∷ back = cc in
    elim (two_cuts before x after front y back tail) [
      | inl h ↦ let begins = h.0 in inl (ap (λ (v : FileWord). v ∷ before) same ∙ ap (λ (vs : List FileWord). z ∷ vs) begins, h.1)
      | inr (inl h) ↦ let begins = h.1 in inr (inl (
        h.0,
        ap (λ (vs : List FileWord). z ∷ vs) begins
            ∙ ap (λ (v : FileWord). v ∷ (before ++ x ∷ h.0)) (sym same),
      ))
      | inr (inr h) ↦ let begins = h.1 in inr (inr (h.0, ap (λ (vs : List FileWord). w ∷ vs) begins ∙ ap (λ (v : FileWord). v ∷ (front ++ y ∷ h.0)) same))
    ]

apart_has_no_repeat : (files before : List FileWord) (file : FileWord) (after : List FileWord) → files ≡ before ++ file ∷ after → AllMayStand files →
    HasClash before file → ⊥
apart_has_no_repeat files before file after cut apart (other, (k, within, is), clash) =
    let whole = before ++ file ∷ after in
    let P : List FileWord → Type 0 = λ xs. AllMayStand xs in
    let left : get_or whole k other ≡ other = get_or_append_left before (file ∷ after) other k within ∙ is in
    let here : get_or whole (length before) other ≡ file = get_or-append_seam before file after other in
    let stand : MayBothStand (get_or whole k other) (get_or whole (length before) other) = subst P cut apart k (length before) other within
    (omega (arith, length-append before (file ∷ after))) in
    subst (λ (f : FileWord). MayBothStand other f) here (subst (λ (e : FileWord). MayBothStand e (get_or whole (length before) other)) left stand) clash

first_repeat_same : (files : List FileWord) (p q : ℕ) → IsFirstRepeat files p → IsFirstRepeat files q → p ≡ q
first_repeat_same files p q x y =
    elim (two_cuts x.before x.file x.after y.before y.file y.after (sym x.cut ∙ y.cut)) [
      | inl h ↦ let same = h.1 in x.place ∙ ap (λ (f : FileWord). f.position) same ∙ sym y.place
      | inr (inl h) ↦ absurd (apart_has_no_repeat y.before x.before x.file h.0 h.1 y.apart x.again)
      | inr (inr h) ↦ absurd (apart_has_no_repeat x.before y.before y.file h.0 h.1 x.apart y.again)
    ]

-- ---- one fault

leftmost_same : (command : CommandWord) (arguments : List Argument) (a b : WordWhat) (p q : ℕ) → IsLeftmost command arguments a p →
    IsLeftmost command arguments b q → (a ≡ b) × (p ≡ q)
leftmost_same command arguments a b p q x y =
    let at_most = x.leftmost b q y.fault in
    let at_least = y.leftmost a p x.fault in
    let same : p ≡ q = omega (arith, at_most, at_least) in
    let lower = x.lowest b (subst (λ (r : ℕ). SomeHasWordFault command arguments b r) (sym same) y.fault) in
    let higher = y.lowest a (subst (λ (r : ℕ). SomeHasWordFault command arguments a r) same x.fault) in
    (number_of_injective a b (omega (arith, lower, higher)), same)

abbrev Sorts : CommandWord → List Argument → ℕ → WordWhat → ℕ → Type 0
Sorts command arguments end what position =
    IsLeftmost command arguments what position
    ⊎ (((what ≡ MissingName) × IsMissing command arguments end position) ⊎ ((what ≡ BadValue) × HasOneNameTwice command arguments position))

sort_of : (command : CommandWord) (arguments : List Argument) (end : ℕ) (what : WordWhat) (position : ℕ) →
    IsFaultOfArguments command arguments end what position → Sorts command arguments end what position
sort_of command arguments end NoCommand position h = inl h
sort_of command arguments end UnknownCommand position h = inl h
sort_of command arguments end MissingName position h = inr (inl (refl, h))
sort_of command arguments end ExtraWord position h = inl h
sort_of command arguments end UnknownOption position h = inl h
sort_of command arguments end RepeatedOption position h = inl h
sort_of command arguments end BadValue position (inl h) = inl h
sort_of command arguments end BadValue position (inr h) = inr (inr (refl, h))

sorts_same : (command : CommandWord) (arguments : List Argument) (end : ℕ) (a b : WordWhat) (p q : ℕ) → Sorts command arguments end a p →
    Sorts command arguments end b q → (a ≡ b) × (p ≡ q)
sorts_same command arguments end a b p q (inl x) (inl y) = leftmost_same command arguments a b p q x y
sorts_same command arguments end a b p q (inl x) (inr (inl y)) = absurd (y.1.sound a p x.fault)
sorts_same command arguments end a b p q (inl x) (inr (inr y)) = absurd (y.1.sound a p x.fault)
sorts_same command arguments end a b p q (inr (inl x)) (inl y) = absurd (x.1.sound b q y.fault)
sorts_same command arguments end a b p q (inr (inr x)) (inl y) = absurd (x.1.sound b q y.fault)
sorts_same command arguments end a b p q (inr (inl x)) (inr (inl y)) = (x.0 ∙ sym y.0, x.1.place ∙ sym y.1.place)
sorts_same command arguments end a b p q (inr (inl x)) (inr (inr y)) = let few = x.1.few in let enough = y.1.enough in absurd (omega (arith, few, enough))
sorts_same command arguments end a b p q (inr (inr x)) (inr (inl y)) = let enough = x.1.enough in let few = y.1.few in absurd (omega (arith, few, enough))
sorts_same command arguments end a b p q (inr (inr x)) (inr (inr y)) = (x.0 ∙ sym y.0, first_repeat_same (files_in command arguments) p q x.1.repeat y.1.repeat)

behind_same : (first : List ℕ) (rest : List (List ℕ)) (a b : WordWhat) (p q : ℕ) → IsFaultBehind first rest a p → IsFaultBehind first rest b q →
    (a ≡ b) × (p ≡ q)
behind_same first rest a b p q x y =
    let command : x.command ≡ y.command = command_word_injective x.command y.command (sym x.named ∙ y.named) in
    let P : CommandWord → Type 0 = λ c. IsFaultOfArguments c (arguments_from 2 rest) (length rest + 2) a p in
    sorts_same y.command (arguments_from 2 rest) (length rest + 2) a b p q
    (sort_of y.command (arguments_from 2 rest) (length rest + 2) a p (subst P command x.fault))
    (sort_of y.command (arguments_from 2 rest) (length rest + 2) b q y.fault)

pub fault_same : (list : List (List ℕ)) (a b : WordWhat) (p q : ℕ) → IsFaultOfWords list a p → IsFaultOfWords list b q → (a ≡ b) × (p ≡ q)
fault_same [] a b p q x y = (x.0 ∙ sym y.0, x.1 ∙ sym y.1)
fault_same (first ∷ rest) a b p q (inl x) (inl y) = (x.kind ∙ sym y.kind, x.place ∙ sym y.place)
fault_same (first ∷ rest) a b p q (inl x) (inr y) = absurd (x.none y.command y.named)
fault_same (first ∷ rest) a b p q (inr x) (inl y) = absurd (y.none x.command x.named)
fault_same (first ∷ rest) a b p q (inr x) (inr y) = behind_same first rest a b p q x y

-- ---- a command or a fault

sound_or_fault : (command : CommandWord) (arguments : List Argument) (end : ℕ) (what : WordWhat) (position : ℕ) → AreSoundArguments command arguments →
    Sorts command arguments end what position → ⊥
sound_or_fault command arguments end what position sound (inl x) = sound.sound what position x.fault
sound_or_fault command arguments end what position sound (inr (inl x)) = let few = x.1.few in let enough = sound.enough in omega (arith, few, enough)
sound_or_fault command arguments end what position sound (inr (inr x)) =
    let repeat = x.1.repeat in
    apart_has_no_repeat (files_in command arguments) repeat.before repeat.file repeat.after repeat.cut sound.apart repeat.again

fault_of_command : (command : CommandWord) (rest : List (List ℕ)) (what : WordWhat) (position : ℕ) → AreSoundArguments command (arguments_from 2 rest) →
    IsFaultOfWords (command_word command ∷ rest) what position → ⊥
fault_of_command command rest what position sound (inl x) = x.none command refl
fault_of_command command rest what position sound (inr x) =
    let same : x.command ≡ command = command_word_injective x.command command (sym x.named) in
    let P : CommandWord → Type 0 = λ c. IsFaultOfArguments c (arguments_from 2 rest) (length rest + 2) what position in
    sound_or_fault command (arguments_from 2 rest) (length rest + 2) what position sound
    (sort_of command (arguments_from 2 rest) (length rest + 2) what position (subst P same x.fault))

pub command_or_fault : (list : List (List ℕ)) (command : Command) (what : WordWhat) (position : ℕ) → IsCommandOf list command →
    IsFaultOfWords list what position → ⊥
command_or_fault list command what position x fault =
    let P : List (List ℕ) → Type 0 = λ all. IsFaultOfWords all what position in
    fault_of_command (command_kind command) x.rest what position x.sound (subst P x.first fault)

-- ---- one command

chosen_number : (value : Option (List ℕ)) (low high default n m : ℕ) → high < 2 ^ 64 → IsChosen value (IsNumberIn low high) default n →
    IsChosen value (IsNumberIn low high) default m → n ≡ m
chosen_number None low high default n m small x y = x ∙ sym y
chosen_number (Some text) low high default n m small x y =
    let n_to = x.to in
    let m_to = y.to in
    decimal_injective n m (omega (arith, small, n_to)) (omega (arith, small, m_to)) (sym x.written ∙ y.written)

chosen_order : (value : Option (List ℕ)) (a b : List Criterion) → IsChosen value IsOrderText default_order a → IsChosen value IsOrderText default_order b →
    a ≡ b
chosen_order None a b x y = x ∙ sym y
chosen_order (Some text) a b x y = criteria_text_injective a b (sym x.written ∙ y.written)

same_seed : (arguments : List Argument) (n m : ℕ) → (name : List ℕ) × (argument_names arguments ≡ name ∷ []) × IsSeed name n →
    (name : List ℕ) × (argument_names arguments ≡ name ∷ []) × IsSeed name m → n ≡ m
same_seed arguments n m x y =
    let names : x.0 ∷ [] ≡ y.0 ∷ [] = sym x.1 ∙ y.1 in
    let name : x.0 ≡ y.0 = cc in
    let n_to = x.2.to in
    let m_to = y.2.to in
    decimal_injective n m (omega (arith, n_to)) (omega (arith, m_to)) (sym x.2.written ∙ name ∙ y.2.written)

same_drawing : (arguments : List Argument) (i j : List ℕ) (g h : GridSize) (o r : List Criterion) (n m : ℕ) (s t l k : Option (List ℕ)) →
    IsDrawCommand arguments i g o n s l → IsDrawCommand arguments j h r m t k → Draw i g o n s l ≡ Draw j h r m t k
same_drawing arguments i j g h o r n m s t l k x y =
    let names : i ∷ [] ≡ j ∷ [] = sym x.names ∙ y.names in
    let input : i ≡ j = cc in
    let width = chosen_number _ 1 MAX_WIDTH 40 g.width h.width (omega arith) x.width y.width in
    let height = chosen_number _ 0 MAX_HEIGHT 8 g.height h.height (omega arith) x.height y.height in
    let least = chosen_number _ 1 MAX_LEAST 1 g.least h.least (omega arith) x.least y.least in
    let grid : grid_with g.width g.height g.least ≡ grid_with h.width h.height h.least = cc in
    let order : o ≡ r = chosen_order _ o r x.criteria y.criteria in
    let budget : n ≡ m = chosen_number _ 1 MAX_BUDGET 50000 n m (omega arith) x.conflicts y.conflicts in
    let svg : s ≡ t = x.svg_name ∙ sym y.svg_name in
    let log : l ≡ k = x.log_name ∙ sym y.log_name in
    cc

same_front : (arguments : List Argument) (i j : List ℕ) (a b d e : Criterion) (g h : GridSize) (n m : ℕ) →
    IsFrontCommand arguments i a b g n → IsFrontCommand arguments j d e h m → Front i a b g n ≡ Front j d e h m
same_front arguments i j a b d e g h n m x y =
    let names : i ∷ x.pair ∷ [] ≡ j ∷ y.pair ∷ [] = sym x.names ∙ y.names in
    let input : i ≡ j = cc in
    let pair : x.pair ≡ y.pair = cc in
    let criteria : a ∷ b ∷ [] ≡ d ∷ e ∷ [] = criteria_text_injective (a ∷ b ∷ []) (d ∷ e ∷ []) (sym x.criteria.written ∙ pair ∙ y.criteria.written) in
    let first : a ≡ d = cc in
    let second : b ≡ e = cc in
    let width = chosen_number _ 1 MAX_WIDTH 40 g.width h.width (omega arith) x.width y.width in
    let height = chosen_number _ 0 MAX_HEIGHT 8 g.height h.height (omega arith) x.height y.height in
    let least = chosen_number _ 1 MAX_LEAST 1 g.least h.least (omega arith) x.least y.least in
    let grid : grid_with g.width g.height g.least ≡ grid_with h.width h.height h.least = cc in
    let budget : n ≡ m = chosen_number _ 1 MAX_BUDGET 50000 n m (omega arith) x.conflicts y.conflicts in
    cc

same_redraw : (arguments : List Argument) (i j f e s t : List ℕ) (g h : GridSize) (n m : ℕ) (l k : Option (List ℕ)) →
    IsRedrawCommand arguments i f s g n l → IsRedrawCommand arguments j e t h m k → Redraw i f s g n l ≡ Redraw j e t h m k
same_redraw arguments i j f e s t g h n m l k x y =
    let names : i ∷ f ∷ s ∷ [] ≡ j ∷ e ∷ t ∷ [] = sym x.names ∙ y.names in
    let input : i ≡ j = cc in
    let former : f ≡ e = cc in
    let sheet : s ≡ t = cc in
    let width = chosen_number _ 1 MAX_WIDTH 40 g.width h.width (omega arith) x.width y.width in
    let height = chosen_number _ 0 MAX_HEIGHT 8 g.height h.height (omega arith) x.height y.height in
    let least = chosen_number _ 1 MAX_LEAST 1 g.least h.least (omega arith) x.least y.least in
    let grid : grid_with g.width g.height g.least ≡ grid_with h.width h.height h.least = cc in
    let budget : n ≡ m = chosen_number _ 1 MAX_BUDGET 50000 n m (omega arith) x.conflicts y.conflicts in
    let log : l ≡ k = x.log_name ∙ sym y.log_name in
    cc

same_explain : (arguments : List Argument) (i j : List ℕ) (g h : GridSize) (n m : ℕ) → IsExplainCommand arguments i g n → IsExplainCommand arguments j h m →
    Explain i g n ≡ Explain j h m
same_explain arguments i j g h n m x y =
    let names : i ∷ [] ≡ j ∷ [] = sym x.names ∙ y.names in
    let input : i ≡ j = cc in
    let width = chosen_number _ 1 MAX_WIDTH 40 g.width h.width (omega arith) x.width y.width in
    let height = chosen_number _ 0 MAX_HEIGHT 8 g.height h.height (omega arith) x.height y.height in
    let least = chosen_number _ 1 MAX_LEAST 1 g.least h.least (omega arith) x.least y.least in
    let grid : grid_with g.width g.height g.least ≡ grid_with h.width h.height h.least = cc in
    let budget : n ≡ m = chosen_number _ 1 MAX_BUDGET 50000 n m (omega arith) x.conflicts y.conflicts in
    cc

same_parts : (arguments : List Argument) (a b : Command) → command_kind a ≡ command_kind b → HasParts arguments a → HasParts arguments b → a ≡ b
same_parts arguments (Draw i g o n s l) (Draw j h r m t k) word x y = same_drawing arguments i j g h o r n m s t l k x y
same_parts arguments (Verify i s) (Verify j t) word x y = let names : i ∷ s ∷ [] ≡ j ∷ t ∷ [] = sym x ∙ y in cc
same_parts arguments (Check i s l) (Check j t k) word x y = let names : i ∷ s ∷ l ∷ [] ≡ j ∷ t ∷ k ∷ [] = sym x ∙ y in cc
same_parts arguments (Graph i) (Graph j) word x y = let names : i ∷ [] ≡ j ∷ [] = sym x ∙ y in cc
same_parts arguments (Make n) (Make m) word x y = ap (λ (k : ℕ). Make k) (same_seed arguments n m x y)
same_parts arguments (Trial n) (Trial m) word x y = ap (λ (k : ℕ). Trial k) (same_seed arguments n m x y)
same_parts arguments (Signals i g o n l) (Signals j h r m k) word x y =
    let same : Draw i g o n None l ≡ Draw j h r m None k = same_drawing arguments i j g h o r n m None None l k x y in
    cc
same_parts arguments (Front i a b g n) (Front j d e h m) word x y = same_front arguments i j a b d e g h n m x y
same_parts arguments (Redraw i f s g n l) (Redraw j e t h m k) word x y = same_redraw arguments i j f e s t g h n m l k x y
same_parts arguments (Explain i g n) (Explain j h m) word x y = same_explain arguments i j g h n m x y
same_parts arguments (Trim i s l h) (Trim j t k g) word x y = let names : i ∷ s ∷ l ∷ h ∷ [] ≡ j ∷ t ∷ k ∷ g ∷ [] = sym x ∙ y in cc
same_parts arguments (Recheck i s h) (Recheck j t g) word x y = let names : i ∷ s ∷ h ∷ [] ≡ j ∷ t ∷ g ∷ [] = sym x ∙ y in cc
same_parts arguments a b word x y = cc word

pub command_same : (list : List (List ℕ)) (a b : Command) → IsCommandOf list a → IsCommandOf list b → a ≡ b
command_same list a b x y =
    let e : command_word (command_kind a) ∷ x.rest ≡ command_word (command_kind b) ∷ y.rest = sym x.first ∙ y.first in
    let word : command_word (command_kind a) ≡ command_word (command_kind b) = cc in
    let rest : x.rest ≡ y.rest = cc in
    let P : List (List ℕ) → Type 0 = λ r. HasParts (arguments_from 2 r) a in
    same_parts (arguments_from 2 y.rest) a b (command_word_injective (command_kind a) (command_kind b) word) (subst P rest x.parts) y.parts

-- ---- an answer

one_word_fault : (list : List (List ℕ)) (e f : WordFault) → IsWordFault list e → IsWordFault list f → e ≡ f
one_word_fault list (answers.Words what position) (answers.Words other place) x y =
    let same = fault_same list what other position place x y in
    ap (λ (w : WordWhat). answers.Words w position) same.0 ∙ ap (λ (p : ℕ). answers.Words other p) same.1
one_word_fault list answers.Memory f x y = absurd x
one_word_fault list e answers.Memory x y = absurd y

not_both : (list : List (List ℕ)) (command : Command) (e : WordFault) → IsCommandOf list command → IsWordFault list e → ⊥
not_both list command (answers.Words what position) x y = command_or_fault list command what position x y
not_both list command answers.Memory x y = y

pub words_exactly : (list : List (List ℕ)) (answer : Result Command WordFault) → IfOk answer (IsCommandOf list) →
    IfErr answer (λ e. (e ≡ answers.Memory) ⊎ IsWordFault list e) → AnswersExactly answer answers.Memory (IsCommandOf list) (IsWordFault list)
words_exactly list answer command fault = answers_exactly answer answers.Memory (IsCommandOf list) (IsWordFault list) command fault (command_same list)
    (one_word_fault list) (not_both list)

-- ---- the files that a drawing's command names

-- the picture's isn't the log's
pub outputs_apart : (list : List (List ℕ)) (input : List ℕ) (grid : GridSize) (order : List Criterion) (budget : ℕ) (svg log : Option (List ℕ))
    (picture name : List ℕ) →
    IsCommandOf list (Draw input grid order budget svg log) → svg ≡ Some picture → log ≡ Some name → picture ≢ name
outputs_apart list input grid order budget svg log picture name x is_picture is_log =
    values_apart words.Draw (arguments_from 2 x.rest) picture name (sym x.parts.svg_name ∙ is_picture) (sym x.parts.log_name ∙ is_log) x.sound.apart
