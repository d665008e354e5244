-- Fields of a text, one after another.
use Rattle.std.proofs.Common.{◌≡◌, ◌≢◌, ◌⊎◌, inl, inr, ℕ, ◌+◌, ◌<◌, ◌≤◌, ◌^◌, List, [], ◌∷◌, ◌++◌, map, length, Bool, true, false, ◌==◌, refl, sym, ◌∙◌, ap}
use Rattle.std.proofs.Common.{subst, arith, append_assoc, length-append}
use Rattle.std.specs.Prelude.{⊤, None, Some, IfSome}
use Rattle.std.specs.declared.option.Option.{Option}
use Rattle.std.specs.Fmt.{decimal}
use Rattle.std.specs.List.{AllByRecursion}
use Rattle.std.proofs.lemmas.Fmt.{decimal_injective}
use Rattle.std.proofs.lemmas.Bool.{eqb-true, false≢true}
use Rattle.std.proofs.lemmas.List.{append-nil, append_cancel_left}
use Rattle.plan_core.specs.declared.criterion.Criterion.{Criterion}
use Rattle.outside_io.specs.Fields.{spaced, line_text, EndsField, IsOneField, Ends}
use Rattle.outside_io.specs.Criteria.{criterion_word}
use Rattle.outside_io.proofs.NumberLemmas.{decimal_is_one}
use Rattle.outside_io.proofs.CriterionLemmas.{word_is_one, word_once}
use Rattle.plan_write.specs.SheetLine.{field_told, IsName, IsSmall}

-- ---- one field

pub record SameField (xs ys r s : List ℕ) : Type 0 where
  pub field : xs ≡ ys
  pub rest : r ≡ s

-- a field isn't longer than another, where both end
no_longer : (y : ℕ) (ys r s : List ℕ) → IsOneField (y ∷ ys) → Ends r → r ≡ (y ∷ ys) ++ s → ⊥
no_longer y ys [] s one ends e = cc
no_longer y ys (b ∷ r) s one ends e = let f : b ≡ y = cc in one.0 (subst EndsField f ends)

pub same_field : (xs ys r s : List ℕ) → IsOneField xs → IsOneField ys → Ends r → Ends s → xs ++ r ≡ ys ++ s → SameField xs ys r s
same_field [] [] r s h k m n e = record { field = refl; rest = e }
same_field [] (y ∷ ys) r s h k m n e = absurd (no_longer y ys r s k m e)
same_field (x ∷ xs) [] r s h k m n e = absurd (no_longer x xs s r h n (sym e))
same_field (x ∷ xs) (y ∷ ys) r s h k m n e =
    let f : x ≡ y = cc in
    let g : xs ++ r ≡ ys ++ s = cc in
    let more = same_field xs ys r s h.1 k.1 m n g in
    record { field = cc (f, more.field); rest = more.rest }

no_feed_at_space : (x y : List ℕ) → 32 ∷ x ≡ 10 ∷ y → ⊥
no_feed_at_space x y e = cc

-- ---- words that stand for values

-- each value has a field of its own
pub record IsSpelling (A : Type 0) (P : A → Type 0) (word : A → List ℕ) : Type 0 where
  pub one : (a : A) → P a → IsOneField (word a)
  pub once : (a b : A) → P a → P b → word a ≡ word b → a ≡ b

abbrev pub words : {A : Type 0} → (A → List ℕ) → List A → List ℕ
words word values = spaced (map word values)

pub regroup : (a b r : List ℕ) → (32 ∷ (a ++ b)) ++ r ≡ 32 ∷ (a ++ (b ++ r))
regroup a b r = ap (λ (t : List ℕ). 32 ∷ t) (append_assoc a b r)

words_end : {A : Type 0} (word : A → List ℕ) (values : List A) (rest : List ℕ) → Ends rest → Ends (words word values ++ rest)
words_end word [] rest ends = ends
words_end word (a ∷ values) rest ends = inl refl

pub ends_of : {A : Type 0} (a : A) (values : List A) (rest : List ℕ) → (a ∷ values ≡ []) ⊎ Ends rest → Ends rest
ends_of a values rest (inl e) = cc
ends_of a values rest (inr ends) = ends

-- the values that were read are the first of any values that the text has
pub record Ahead (A : Type 0) (P : A → Type 0) (word : A → List ℕ) (read values : List A) (rest behind : List ℕ) : Type 0 where
  pub more : List A
  pub split : values ≡ read ++ more
  pub all : AllByRecursion P more
  pub left : rest ≡ words word more ++ 10 ∷ behind

pub ahead : {A : Type 0} {P : A → Type 0} {word : A → List ℕ} (s : IsSpelling A P word) (read values : List A) (rest behind : List ℕ) → AllByRecursion P read →
    AllByRecursion P values → (read ≡ []) ⊎ Ends rest →
    words word read ++ rest ≡ words word values ++ 10 ∷ behind → Ahead A P word read values rest behind
ahead s [] values rest behind h k ends e = record { more = values; split = refl; all = k; left = e }
ahead {A} {P} {word} s (a ∷ read) [] rest behind h k ends e = absurd (no_feed_at_space ((word a ++ words word read) ++ rest) behind e)
ahead {A} {P} {word} s (a ∷ read) (b ∷ values) rest behind h k ends e =
    let end = ends_of a read rest ends in
    let f : 32 ∷ (word a ++ (words word read ++ rest)) ≡ 32 ∷ (word b ++ (words word values ++ 10 ∷ behind)) =
    sym (regroup (word a) (words word read) rest) ∙ e ∙ regroup (word b) (words word values) (10 ∷ behind) in
    let g : word a ++ (words word read ++ rest) ≡ word b ++ (words word values ++ 10 ∷ behind) = cc in
    let same = same_field (word a) (word b) (words word read ++ rest) (words word values ++ 10 ∷ behind) (s.one a h.0) (s.one b k.0)
    (words_end word read rest end) (words_end word values (10 ∷ behind) (inr refl)) g in
    let later = ahead s read values rest behind h.1 k.1 (inr end) same.rest in
    let first : a ≡ b = s.once a b h.0 k.0 same.field in
    record { more = later.more; split = cc (first, later.split); all = later.all; left = later.left }

-- a list of values is known by its text, up to its line feed
pub record SameWords {A : Type 0} (xs ys : List A) (r s : List ℕ) : Type 0 where
  pub values : xs ≡ ys
  pub behind : r ≡ s

pub words_once : {A : Type 0} {P : A → Type 0} {word : A → List ℕ} (s : IsSpelling A P word) (xs ys : List A) (q r : List ℕ) → AllByRecursion P xs →
    AllByRecursion P ys →
    words word xs ++ 10 ∷ q ≡ words word ys ++ 10 ∷ r → SameWords xs ys q r
words_once {A} {P} {word} s xs ys q r h k e =
    let a = ahead s xs ys (10 ∷ q) r h k (inr (inr refl)) e in
    end a.more a.split a.left
  where
    end : (more : List A) → ys ≡ xs ++ more → 10 ∷ q ≡ words word more ++ 10 ∷ r → SameWords xs ys q r
    end [] split left = record { values = sym (split ∙ append-nil xs); behind = cc }
    end (m ∷ more) split left = absurd (no_feed_at_space ((word m ++ words word more) ++ 10 ∷ r) q (sym left))

-- ---- where reading stops

-- at a field that is no value's
pub no_value : {A : Type 0} {P : A → Type 0} {word : A → List ℕ} (s : IsSpelling A P word) (text : List ℕ) (read : List A) (rest after field left : List ℕ) →
    AllByRecursion P read → (read ≡ []) ⊎ Ends rest → text ≡ words word read ++ rest → rest ≡ 32 ∷ after → IsOneField field → Ends left →
    after ≡ field ++ left → ((a : A) → P a → field ≢ word a) →
    (values : List A) (behind : List ℕ) → AllByRecursion P values → text ≢ words word values ++ 10 ∷ behind
no_value {A} {P} {word} s text read rest after field left h ends so_far is one end cut none values behind k e =
    let a = ahead s read values rest behind h k ends (sym so_far ∙ e) in
    at a.more a.all a.left
  where
    at : (more : List A) → AllByRecursion P more → rest ≡ words word more ++ 10 ∷ behind → ⊥
    at [] all f = no_feed_at_space after behind (sym is ∙ f)
    at (b ∷ more) all f =
        let g : 32 ∷ (field ++ left) ≡ 32 ∷ (word b ++ (words word more ++ 10 ∷ behind)) = ap (λ (t : List ℕ). 32 ∷ t) (sym cut) ∙ sym is ∙ f
        ∙ regroup (word b) (words word more) (10 ∷ behind) in
        let i : field ++ left ≡ word b ++ (words word more ++ 10 ∷ behind) = cc in
        none b all.0 (same_field field (word b) left (words word more ++ 10 ∷ behind) one (s.one b all.0) end (words_end word more (10 ∷ behind) (inr refl))
        i).field

-- at one field too many
pub no_more : {A : Type 0} {P : A → Type 0} {word : A → List ℕ} (s : IsSpelling A P word) (text : List ℕ) (read : List A) (rest after : List ℕ) (most : ℕ) →
    AllByRecursion P read → (read ≡ []) ⊎ Ends rest → text ≡ words word read ++ rest → rest ≡ 32 ∷ after → most ≤ length read →
    (values : List A) (behind : List ℕ) → AllByRecursion P values → length values ≤ most → text ≢ words word values ++ 10 ∷ behind
no_more {A} {P} {word} s text read rest after most h ends so_far is full values behind k few e =
    let a = ahead s read values rest behind h k ends (sym so_far ∙ e) in
    at a.more a.split a.left
  where
    at : (more : List A) → values ≡ read ++ more → rest ≡ words word more ++ 10 ∷ behind → ⊥
    at [] split f = no_feed_at_space after behind (sym is ∙ f)
    at (b ∷ more) split f = let n : length values ≡ length read + length (b ∷ more) = ap length split ∙ length-append read (b ∷ more) in omega (arith, n)

pub full_is : (n most : ℕ) (b : Bool) → b ≡ (n == most) → b ≡ true → most ≤ n
full_is n most b e h = let f = eqb-true n most (sym e ∙ h) in omega (arith, f)

-- where neither a space nor a line feed comes
pub no_end : {A : Type 0} {P : A → Type 0} {word : A → List ℕ} (s : IsSpelling A P word) (text : List ℕ) (read : List A) (rest : List ℕ) →
    AllByRecursion P read → (read ≡ []) ⊎ Ends rest → text ≡ words word read ++ rest → ((after : List ℕ) → rest ≢ 32 ∷ after) →
    ((after : List ℕ) → rest ≢ 10 ∷ after) →
    (values : List A) (behind : List ℕ) → AllByRecursion P values → text ≢ words word values ++ 10 ∷ behind
no_end {A} {P} {word} s text read rest h ends so_far no_space no_feed values behind k e =
    let a = ahead s read values rest behind h k ends (sym so_far ∙ e) in
    at a.more a.left
  where
    at : (more : List A) → rest ≡ words word more ++ 10 ∷ behind → ⊥
    at [] f = no_feed behind f
    at (b ∷ more) f = no_space (word b ++ (words word more ++ 10 ∷ behind)) (f ∙ regroup (word b) (words word more) (10 ∷ behind))

pub of_numbers : IsSpelling ℕ IsSmall decimal
of_numbers = record {
  one = λ n small. let big : n < 2 ^ 64 = omega arith in decimal_is_one n big;
  once = λ m n h k e. let hm : m < 2 ^ 64 = omega arith in let hn : n < 2 ^ 64 = omega arith in decimal_injective m n hm hn e;
}

abbrev pub Any : Criterion → Type 0
Any c = ⊤

pub of_criteria : IsSpelling Criterion Any criterion_word
of_criteria = record { one = λ c h. word_is_one c; once = λ c d h k e. word_once c d e }

pub any_criteria : (cs : List Criterion) → AllByRecursion Any cs
any_criteria [] = tt
any_criteria (c ∷ cs) = (tt, any_criteria cs)

-- ---- any fields

of_fields : IsSpelling (List ℕ) IsOneField (λ field. field)
of_fields = record { one = λ field is. is; once = λ a b h k e. e }

map_same : (fields : List (List ℕ)) → map (λ field. field) fields ≡ fields
map_same [] = refl
map_same (f ∷ fields) = ap (λ (fs : List (List ℕ)). f ∷ fs) (map_same fields)

pub line_front : (front : List ℕ) (fields : List (List ℕ)) (behind : List ℕ) → line_text front fields ++ behind ≡ front ++ (spaced fields ++ 10 ∷ behind)
line_front front fields behind =
    append_assoc (front ++ spaced fields) (10 ∷ []) behind ∙ append_assoc front (spaced fields) (10 ∷ behind)

-- the fields of a line behind those that were read
pub record FieldsLeft (read fields : List (List ℕ)) (rest behind : List ℕ) : Type 0 where
  pub more : List (List ℕ)
  pub split : fields ≡ read ++ more
  pub left : rest ≡ spaced more ++ 10 ∷ behind

pub fields_left : (read fields : List (List ℕ)) (rest behind : List ℕ) → AllByRecursion IsOneField read → AllByRecursion IsOneField fields → Ends rest →
    spaced read ++ rest ≡ spaced fields ++ 10 ∷ behind → FieldsLeft read fields rest behind
fields_left read fields rest behind h k ends e =
    let a = ahead of_fields read fields rest behind h k (inr ends)
    (ap (λ (fs : List (List ℕ)). spaced fs ++ rest) (map_same read) ∙ e ∙ ap (λ (fs : List (List ℕ)). spaced fs ++ 10 ∷ behind) (sym (map_same fields))) in
    record { more = a.more; split = a.split; left = a.left ∙ ap (λ (fs : List (List ℕ)). spaced fs ++ 10 ∷ behind) (map_same a.more) }

-- a line is known by its text: its fields, and what stands behind it
pub record SameFields (fields others : List (List ℕ)) (q r : List ℕ) : Type 0 where
  pub fields_are : fields ≡ others
  pub behind : q ≡ r

pub fields_once : (front : List ℕ) (fields others : List (List ℕ)) (q r : List ℕ) → AllByRecursion IsOneField fields → AllByRecursion IsOneField others →
    line_text front fields ++ q ≡ line_text front others ++ r → SameFields fields others q r
fields_once front fields others q r h k e =
    let f : spaced fields ++ 10 ∷ q ≡ spaced others ++ 10 ∷ r =
    append_cancel_left front (spaced fields ++ 10 ∷ q) (spaced others ++ 10 ∷ r) (sym (line_front front fields q) ∙ e ∙ line_front front others r) in
    let same = words_once of_fields fields others q r h k
    (ap (λ (fs : List (List ℕ)). spaced fs ++ 10 ∷ q) (map_same fields) ∙ f ∙ ap (λ (fs : List (List ℕ)). spaced fs ++ 10 ∷ r) (sym (map_same others))) in
    record { fields_are = same.values; behind = same.behind }

-- numbers are one field each, and known by their decimals
pub decimals_are_one : (ns : List ℕ) → AllByRecursion IsSmall ns → AllByRecursion IsOneField (map decimal ns)
decimals_are_one [] h = tt
decimals_are_one (n ∷ ns) h = (of_numbers.one n h.0, decimals_are_one ns h.1)

pub decimals_once : (ns ms : List ℕ) → AllByRecursion IsSmall ns → AllByRecursion IsSmall ms → map decimal ns ≡ map decimal ms → ns ≡ ms
decimals_once [] [] h k e = refl
decimals_once [] (m ∷ ms) h k e = cc
decimals_once (n ∷ ns) [] h k e = cc
decimals_once (n ∷ ns) (m ∷ ms) h k e =
    let head : decimal n ≡ decimal m = cc in
    let tail : map decimal ns ≡ map decimal ms = cc in
    ap (λ (k : ℕ). k ∷ ns) (of_numbers.once n m h.0 k.0 head) ∙ ap (λ (ks : List ℕ). m ∷ ks) (decimals_once ns ms h.1 k.1 tail)

-- a name that is told is one field
pub name_is_one : (track : Option (List ℕ)) → IfSome track IsName → AllByRecursion IsOneField (field_told track)
name_is_one None h = tt
name_is_one (Some name) h = (h.one, tt)

pub both_one : (a b : List (List ℕ)) → AllByRecursion IsOneField a → AllByRecursion IsOneField b → AllByRecursion IsOneField (a ++ b)
both_one [] b h k = k
both_one (f ∷ a) b h k = (h.0, both_one a b h.1 k)

-- a text that isn't empty
pub some_there : (text : List ℕ) (b : Bool) → b ≡ (length text == 0) → b ≡ false → 1 ≤ length text
some_there [] b e f = absurd (false≢true (sym f ∙ e))
some_there (x ∷ text) b e f = omega arith
