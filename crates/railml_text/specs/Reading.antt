-- Reading from left to right, as the code does it: what was read and the bytes after it, or a miss.
-- Private contracts alone cite this module; the grammar says what may be read.
use Rattle.std.specs.Prelude.{◌≡◌, ℕ, Bool, true, false, not, ◌&&◌, ◌||◌, ◌==◌, nat_le, if◌then◌else◌, MatchBool}
use Rattle.std.specs.Prelude.{codes, List, [], ◌∷◌, length, drop, map, Option, Some, None, Result, Ok, Err}
use Rattle.std.specs.Prelude.{encode_utf8, ⊤}
use Rattle.std.specs.Char.{is_digit}
use Rattle.std.specs.Str.Parse.{digits_value}
use lib.Utf8.{scalar}
use Rattle.railml_text.specs.declared.miss.Miss.{Miss}
use Rattle.railml_text.specs.declared.miss.Miss.TheVariants.{Cut, Bad}
use Rattle.railml_text.specs.declared.miss.Stop.{Stop}
use Rattle.railml_text.specs.declared.miss.Stop.TheVariants as stops
use Rattle.railml_text.specs.declared.written.WrittenAttr.{WrittenAttr}
use Rattle.railml_text.specs.declared.written.Closing.{Closing}
use Rattle.railml_text.specs.declared.written.Closing.TheVariants.{Tag, Declaration}
use Rattle.railml_text.specs.declared.written.TagStep.{TagStep}
use Rattle.railml_text.specs.declared.written.TagStep.TheVariants as steps
use Rattle.railml_text.specs.declared.written.Markup.{Markup}
use Rattle.railml_text.specs.declared.written.Markup.TheVariants as marks
use Rattle.railml_text.specs.declared.values.Meaning.{Meaning}
use Rattle.railml_text.specs.declared.values.Meaning.TheVariants as meanings
use Rattle.railml_text.specs.declared.fault.TextWhat.TheVariants.{Entity}
use Rattle.railml_text.specs.declared.fault.ItemFault.{ItemFault}
use Rattle.railml_text.specs.declared.fault.ItemFault.TheVariants as answers
use Rattle.railml_text.specs.Bytes.{is_blank, begins_name, goes_on_name, is_in_value, front, past}
use Rattle.railml_text.specs.References.{named_references}
use Rattle.railml_text.specs.Values.{HasLoose}
use Rattle.railml_text.specs.Grammar.{Written}
use Rattle.railml_text.specs.Items.{Shape, declaration, instruction, comment, cdata, start_tag, end_tag}

abbrev pub Read : Type 0 → Type 0
Read X = Result (X × List ℕ) Miss

-- ---- white space

abbrev pub begins_blank : List ℕ → Bool
begins_blank [] = false
begins_blank (b ∷ bytes) = is_blank b

-- ---- one reading after another

abbrev pub mapped : {X Y : Type 0} → (X → Y) → Read X → Read Y
mapped h (Ok x) = Ok (h x.0, x.1)
mapped h (Err miss) = Err miss

abbrev pub in_turn : {X Y Z : Type 0} → (X → Y → Z) → Read X → (List ℕ → Read Y) → Read Z
in_turn h (Ok x) g = mapped (h x.0) (g x.1)
in_turn h (Err miss) g = Err miss

-- the same where the second is a relation
abbrev pub InTurn : {X Y Z : Type 0} → (X → Y → Z) → Read X → (List ℕ → Read Y → Type 0) → Read Z → Type 0
InTurn h (Err miss) S r = r ≡ Err miss
InTurn h (Ok x) S (Err miss) = S x.1 (Err miss)
InTurn {Y = Y} h (Ok x) S (Ok z) = (y : Y) × S x.1 (Ok (y, z.1)) × (z.0 ≡ h x.0 y)

-- after white space, of which it may be told whether there is any
abbrev pub past_gap : {X : Type 0} → (Bool → List ℕ → Read X) → List ℕ → Read X
past_gap f bytes = f (begins_blank bytes) (past is_blank bytes)

abbrev pub skip : {X : Type 0} → (List ℕ → Read X) → List ℕ → Read X
skip f bytes = f (past is_blank bytes)

-- by the first byte: past this one the first reads, and else the second
abbrev pub by_first : {X : Type 0} → ℕ → (List ℕ → Read X) → (List ℕ → Read X) → List ℕ → Read X
by_first c f g [] = Err Cut
by_first c f g (b ∷ bytes) = if b == c then f bytes else g (b ∷ bytes)

-- the same with relations
abbrev pub ByFirst : {X : Type 0} → ℕ → (List ℕ → Read X → Type 0) → (List ℕ → Read X → Type 0) → List ℕ → Read X →
    Type 0
ByFirst c R S [] r = Err Cut ≡ r
ByFirst c R S (b ∷ bytes) r = MatchBool (b == c) (R bytes r) (S (b ∷ bytes) r)

-- by the class of the first byte
abbrev pub by_class : {X : Type 0} → (ℕ → Bool) → (List ℕ → Read X) → (List ℕ → Read X) → List ℕ → Read X
by_class class f g [] = Err Cut
by_class class f g (b ∷ bytes) = if class b then f (b ∷ bytes) else g (b ∷ bytes)

abbrev pub nothing_at : {X : Type 0} → List ℕ → Read X
nothing_at bytes = Err Bad

abbrev pub done : {X : Type 0} → X → List ℕ → Read X
done x rest = Ok (x, rest)

-- ---- words, names, values

abbrev pub word_at : List ℕ → List ℕ → Read ⊤
word_at [] bytes = Ok (tt, bytes)
word_at (c ∷ word) [] = Err Cut
word_at (c ∷ word) (b ∷ bytes) = if b == c then word_at word bytes else Err Bad

-- a name ends before the end of the bytes
abbrev pub ended : List ℕ → List ℕ → Read (List ℕ)
ended name [] = Err Cut
ended name (b ∷ bytes) = Ok (name, b ∷ bytes)

abbrev pub name_at : List ℕ → Read (List ℕ)
name_at [] = Err Cut
name_at (b ∷ bytes) = if begins_name b then ended (b ∷ front goes_on_name bytes) (past goes_on_name bytes) else Err Bad

abbrev pub closed_value : ℕ → List ℕ → List ℕ → Read (List ℕ)
closed_value quote value [] = Err Cut
closed_value quote value (b ∷ bytes) = if b == quote then Ok (value, bytes) else Err Bad

abbrev pub value_at : ℕ → List ℕ → Read (List ℕ)
value_at quote bytes = closed_value quote (front (is_in_value quote) bytes) (past (is_in_value quote) bytes)

abbrev pub quoted_at : List ℕ → Read (List ℕ)
quoted_at bytes = by_first 34 (value_at 34) (by_first 39 (value_at 39) nothing_at) bytes

abbrev pub written : List ℕ → List ℕ → Written
written name value = record { name = name; value = value }

abbrev pub last_of_two : {X Y : Type 0} → X → Y → Y
last_of_two x y = y

abbrev pub first_of_two : {X Y : Type 0} → X → Y → X
first_of_two x y = x

-- `=` and a value, each after white space or none
unfoldable pub equals_at : List ℕ → Read (List ℕ)
equals_at bytes = in_turn last_of_two (skip (word_at (codes "=")) bytes) (skip quoted_at)

unfoldable pub attr_at : List ℕ → Read Written
attr_at bytes = in_turn written (name_at bytes) equals_at

unfoldable pub end_tag_at : List ℕ → Read (List ℕ)
end_tag_at bytes = in_turn first_of_two (name_at bytes) (skip (word_at (codes ">")))

-- ---- the rest of a tag after its name

pub data Step : Type 0 where
  attribute : Written → Step
  ends : (empty : Bool) → Step

abbrev pub empty_closing_at : List ℕ → Read Bool
empty_closing_at bytes = mapped (λ _. true) (word_at (codes ">") bytes)

abbrev pub closing_at : Closing → List ℕ → Read Bool
closing_at Tag bytes = by_first 62 (done false) (by_first 47 empty_closing_at nothing_at) bytes
closing_at Declaration bytes = mapped (λ _. false) (word_at (codes "?>") bytes)

-- an attribute needs white space before it
abbrev pub spaced_attr_at : Bool → List ℕ → Read Step
spaced_attr_at true bytes = mapped attribute (attr_at bytes)
spaced_attr_at false bytes = nothing_at bytes

abbrev pub closing_step_at : Closing → List ℕ → Read Step
closing_step_at closing bytes = mapped ends (closing_at closing bytes)

abbrev pub spaced_step_at : Closing → Bool → List ℕ → Read Step
spaced_step_at closing spaced bytes = by_class begins_name (spaced_attr_at spaced) (closing_step_at closing) bytes

unfoldable pub step_at : Closing → List ℕ → Read Step
step_at closing bytes = past_gap (spaced_step_at closing) bytes

-- reading these attributes one after another comes to the rest
abbrev pub Attrs : Closing → List Written → List ℕ → List ℕ → Type 0
Attrs closing [] bytes rest = bytes ≡ rest
Attrs closing (attr ∷ attrs) bytes rest = (next : List ℕ) × (step_at closing bytes ≡ Ok (attribute attr, next))
    × Attrs closing attrs next rest

-- reading the attributes and the closing gives this
abbrev pub Tail : Closing → List ℕ → Read (List Written × Bool) → Type 0
Tail closing bytes (Ok x) = (last : List ℕ) × Attrs closing x.0.0 bytes last
    × (step_at closing last ≡ Ok (ends x.0.1, x.1))
Tail closing bytes (Err miss) = (attrs : List Written) × (last : List ℕ) × Attrs closing attrs bytes last
    × (step_at closing last ≡ Err miss)

-- ---- up to a closing

abbrev pub begins_with : List ℕ → List ℕ → Bool
begins_with [] bytes = true
begins_with (c ∷ text) [] = false
begins_with (c ∷ text) (b ∷ bytes) = (b == c) && begins_with text bytes

-- what follows the first closing
abbrev pub past_first : List ℕ → List ℕ → Option (List ℕ)
past_first closing [] = None
past_first closing (b ∷ bytes) = if begins_with closing (b ∷ bytes) then Some (drop (length closing) (b ∷ bytes)) else
    past_first closing bytes

abbrev pub cut_unless : Option (List ℕ) → Read ⊤
cut_unless None = Err Cut
cut_unless (Some rest) = Ok (tt, rest)

abbrev pub bracket_at : List ℕ → List ℕ → Read ⊤
bracket_at closing bytes = cut_unless (past_first closing bytes)

-- ---- what stands after `<`

-- an item, or a document type declaration
pub data Found : Type 0 where
  item : Shape → Found
  doctype : Found

unfoldable pub comment_at : List ℕ → Read Found
comment_at bytes = in_turn (λ _ _. item comment) (word_at (codes "-") bytes) (bracket_at (codes "-->"))

unfoldable pub cdata_at : List ℕ → Read Found
cdata_at bytes = in_turn (λ _ _. item cdata) (word_at (codes "CDATA[") bytes) (bracket_at (codes "]]>"))

unfoldable pub doctype_at : List ℕ → Read Found
doctype_at bytes = mapped (λ _. doctype) (word_at (codes "OCTYPE") bytes)

-- after `<!`
abbrev pub bang_at : List ℕ → Read Found
bang_at bytes = by_first 45 comment_at (by_first 91 cdata_at (by_first 68 doctype_at nothing_at)) bytes

abbrev pub blank_after : Read ⊤ → Bool
blank_after (Ok x) = begins_blank x.1
blank_after (Err miss) = false

-- whether the bytes after `<?` go on as a declaration does
abbrev pub goes_on_xml : List ℕ → Bool
goes_on_xml bytes = blank_after (word_at (codes "xml") bytes)

abbrev pub declared : Written → List Written × Bool → Found
declared attr tail = item (declaration (attr ∷ tail.0))

-- after `<?xml`
abbrev pub DeclarationRead : List ℕ → Read Found → Type 0
DeclarationRead bytes r = InTurn declared (skip attr_at bytes) (Tail Declaration) r

unfoldable pub instruction_at : List ℕ → Read Found
instruction_at bytes = mapped (λ _. item instruction) (bracket_at (codes "?>") bytes)

-- after `<?`
abbrev pub QuestionRead : Bool → List ℕ → Read Found → Type 0
QuestionRead first bytes r = MatchBool (first && goes_on_xml bytes) (DeclarationRead (drop 3 bytes) r)
    (instruction_at bytes ≡ r)

abbrev pub started : List ℕ → List Written × Bool → Found
started name tail = item (start_tag name tail.0 tail.1)

-- after `<` of a start tag
abbrev pub StartRead : List ℕ → Read Found → Type 0
StartRead bytes r = InTurn started (name_at bytes) (Tail Tag) r

unfoldable pub closing_tag_at : List ℕ → Read Found
closing_tag_at bytes = mapped (λ name. item (end_tag name)) (end_tag_at bytes)

-- after `<`
abbrev pub MarkupRead : Bool → List ℕ → Read Found → Type 0
MarkupRead first bytes r =
    ByFirst 63 (QuestionRead first) (ByFirst 47 (λ t q. closing_tag_at t ≡ q)
    (ByFirst 33 (λ t q. bang_at t ≡ q) StartRead)) bytes r

-- ---- references, from the `&` on

abbrev pub named_or : Read ⊤ → ℕ → Option (ℕ × List ℕ) → Option (ℕ × List ℕ)
named_or (Ok x) character other = Some (character, x.1)
named_or (Err miss) character other = other

-- the first word of the table that begins the bytes
abbrev pub find_named : List (List ℕ × ℕ) → List ℕ → Option (ℕ × List ℕ)
find_named [] bytes = None
find_named (entry ∷ table) bytes = named_or (word_at entry.0 bytes) entry.1 (find_named table bytes)

abbrev pub character_and : ℕ → List ℕ → Option (ℕ × List ℕ)
character_and n rest = if scalar n && not (n == 0) then Some (n, rest) else None

abbrev pub ended_number : ℕ → List ℕ → Option (ℕ × List ℕ)
ended_number n [] = None
ended_number n (b ∷ rest) = if b == 59 then character_and n rest else None

abbrev pub number_of_digits : ℕ → List ℕ → List ℕ → Option (ℕ × List ℕ)
number_of_digits base digits rest = if nat_le 1 (length digits) && nat_le (length digits) 8 then ended_number
    (digits_value base digits) rest else None

-- digits and `;`
abbrev pub number_at : ℕ → List ℕ → Option (ℕ × List ℕ)
number_at base bytes = number_of_digits base (front (λ b. is_digit b base) bytes) (past (λ b. is_digit b base) bytes)

abbrev pub number_or : Read ⊤ → ℕ → Option (ℕ × List ℕ) → Option (ℕ × List ℕ)
number_or (Ok x) base other = number_at base x.1
number_or (Err miss) base other = other

abbrev pub or_else : Option (ℕ × List ℕ) → Option (ℕ × List ℕ) → Option (ℕ × List ℕ)
or_else (Some x) other = Some x
or_else None other = other

unfoldable pub by_number_at : List ℕ → Option (ℕ × List ℕ)
by_number_at bytes = number_or (word_at (codes "&#x") bytes) 16 (number_or (word_at (codes "&#") bytes) 10 None)

unfoldable pub reference_at : List ℕ → Option (ℕ × List ℕ)
reference_at bytes = or_else (find_named named_references bytes) (by_number_at bytes)

-- ---- the pieces of a value

abbrev pub past_line_feed : List ℕ → List ℕ
past_line_feed [] = []
past_line_feed (b ∷ bytes) = if b == 10 then bytes else b ∷ bytes

abbrev pub encoded : Option (ℕ × List ℕ) → Option (List ℕ × List ℕ)
encoded None = None
encoded (Some x) = Some (encode_utf8 x.0, x.1)

-- what the first piece stands for, and what follows the piece; none where an `&` begins no reference
abbrev pub piece_at : List ℕ → Option (List ℕ × List ℕ)
piece_at [] = None
piece_at (b ∷ bytes) =
    if b == 38 then encoded (reference_at (b ∷ bytes)) else if b ==
    13 then Some (32 ∷ [], past_line_feed bytes) else if (b == 9) || (b == 10) then Some (32 ∷ [], bytes) else Some
    (b ∷ [], bytes)

-- ---- what the code calls them

abbrev pub written_of : WrittenAttr → Written
written_of a = record { name = a.name.now; value = a.value.now }

abbrev pub step_of : TagStep → Step
step_of (steps.Attribute a) = attribute (written_of a)
step_of (steps.Ends empty) = ends empty

abbrev pub found_of : Markup → Found
found_of (marks.Declaration attrs) = item (declaration (map written_of attrs.items))
found_of marks.Instruction = item instruction
found_of marks.Comment = item comment
found_of marks.Cdata = item cdata
found_of (marks.StartTag name attrs empty) = item (start_tag name.now (map written_of attrs.items) empty)
found_of (marks.EndTag name) = item (end_tag name.now)
found_of marks.Doctype = doctype

abbrev pub bytes_of : Meaning → List ℕ
bytes_of (meanings.Byte b) = b ∷ []
bytes_of meanings.Space = 32 ∷ []
bytes_of (meanings.Character character) = encode_utf8 character

-- why a value has no text
abbrev pub IsValueFault : List ℕ → ItemFault → Type 0
IsValueFault value (answers.Item what) = (what ≡ Entity) × HasLoose value
IsValueFault value answers.Memory = ⊤

-- what a call that takes no memory returned, seen by view
abbrev pub Returns : {X Y : Type 0} → (X → Y) → Result X Miss → Result Y Miss → Type 0
Returns view (Ok x) read = read ≡ Ok (view x)
Returns view (Err miss) read = read ≡ Err miss

-- what a call that takes memory returned
abbrev pub Stopped : {Y : Type 0} → (Read Y → Type 0) → Stop → Type 0
Stopped R stops.Memory = ⊤
Stopped R (stops.Miss miss) = R (Err miss)

abbrev pub AnswersReading : {X Y : Type 0} → (X → Y × List ℕ) → Result X Stop → (Read Y → Type 0) → Type 0
AnswersReading view (Ok x) R = R (Ok (view x))
AnswersReading view (Err stop) R = Stopped R stop
