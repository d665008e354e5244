-- Fields that were read so far, and what the text then has.
use Rattle.std.proofs.Common.{◌≡◌, ℕ, Bool, true, false, List, [], ◌∷◌, ◌++◌, map, refl, sym, ◌∙◌, ap, subst, arith, append_assoc}
use Rattle.std.specs.Char.{IsAsciiDigit}
use Rattle.std.specs.List.{AllByRecursion}
use Rattle.plan_core.proofs.ListFacts.{each_pushed, each_front}
use Rattle.cnf_core.specs.Lit.{Literal}
use Rattle.cnf_core.specs.Clause.{IsThere, AreThere}
use Rattle.outside_io.specs.Fields.{LacksByte, IsCutAt}
use Rattle.refute_log.specs.declared.fault.LogWhat.TheVariants.{Form}
use Rattle.cnf_core.specs.declared.limits.TheConstants.{LAST_VAR}
use Rattle.refute_log.specs.Lines.{literal_sign, literal_text}
use Rattle.refute_log.specs.LineForm.{Field, IsNumber, AreNumbers, IsLiteral}
use Rattle.refute_log.specs.FieldText.{trailed, fields_left, HasLiterals, AddsLiteral, AreRead, IsReadTo, HasFieldsFault}

-- a field ends at its first space
pub record SameCut (xs ys r s : List ℕ) : Type 0 where
  pub field : xs ≡ ys
  pub rest : r ≡ s

pub same_cut : (xs ys r s : List ℕ) → LacksByte 32 xs → LacksByte 32 ys → xs ++ 32 ∷ r ≡ ys ++ 32 ∷ s → SameCut xs ys r s
same_cut [] [] r s h k e = record { field = refl; rest = cc }
same_cut [] (y ∷ ys) r s h k e = let f : y ≡ 32 = cc in absurd (k.0 f)
same_cut (x ∷ xs) [] r s h k e = let f : x ≡ 32 = cc in absurd (h.0 f)
same_cut (x ∷ xs) (y ∷ ys) r s h k e =
    let f : x ≡ y = cc in
    let g : xs ++ 32 ∷ r ≡ ys ++ 32 ∷ s = cc in
    let more = same_cut xs ys r s h.1 k.1 g in
    record { field = cc (f, more.field); rest = more.rest }

pub no_cut : (text xs r : List ℕ) → LacksByte 32 text → text ≡ xs ++ 32 ∷ r → ⊥
no_cut [] [] r h e = cc
no_cut [] (x ∷ xs) r h e = cc
no_cut (b ∷ text) [] r h e = let f : b ≡ 32 = cc in h.0 f
no_cut (b ∷ text) (x ∷ xs) r h e = let f : text ≡ xs ++ 32 ∷ r = cc in no_cut text xs r h.1 f

digits_are_one : (ds : List ℕ) → AllByRecursion IsAsciiDigit ds → LacksByte 32 ds
digits_are_one [] h = tt
digits_are_one (d ∷ ds) h = ((λ e. omega (arith, h.0)), digits_are_one ds h.1)

signed_is_one : (p : Bool) (ds : List ℕ) → AllByRecursion IsAsciiDigit ds → LacksByte 32 (literal_sign p ++ ds)
signed_is_one true ds h = digits_are_one ds h
signed_is_one false ds h = ((λ e. omega arith), digits_are_one ds h)

pub number_is_one : (field : Field) → IsNumber field → LacksByte 32 field
number_is_one field h = subst (LacksByte 32) (sym h.spelled) (signed_is_one h.positive h.digits h.only)

-- how appended texts regroup
pub regroup : (a c r : List ℕ) → ((a ++ 32 ∷ []) ++ c) ++ r ≡ a ++ 32 ∷ (c ++ r)
regroup a c r = append_assoc (a ++ 32 ∷ []) c r ∙ append_assoc a (32 ∷ []) (c ++ r)

-- the fields that were read are the first of any fields that the text has
pub record Ahead (read fields : List Field) (rest : List ℕ) : Type 0 where
  pub more : List Field
  pub split : fields ≡ read ++ more
  pub numbers : AreNumbers more
  pub left : rest ≡ fields_left more

pub zero_is_one : LacksByte 32 (48 ∷ [])
zero_is_one = ((λ e. omega arith), tt)

pub ahead : (read fields : List Field) (rest : List ℕ) → AreNumbers read → AreNumbers fields → trailed read ++ rest ≡ fields_left fields →
    Ahead read fields rest
ahead [] fields rest h k e = record { more = fields; split = refl; numbers = k; left = e }
ahead (f ∷ read) [] rest h k e = absurd (no_cut (48 ∷ []) f (trailed read ++ rest) zero_is_one (sym e ∙ regroup f (trailed read) rest))
ahead (f ∷ read) (g ∷ fields) rest h k e =
    let cut = same_cut f g (trailed read ++ rest) (fields_left fields) (number_is_one f h.0) (number_is_one g k.0)
    (sym (regroup f (trailed read) rest) ∙ e ∙ regroup g (trailed fields) (48 ∷ [])) in
    let later = ahead read fields rest h.1 k.1 cut.rest in
    record { more = later.more; split = cc (cut.field, later.split); numbers = later.numbers; left = later.left }

-- what is left where no further field is read
pub no_form_at_end : (text rest : List ℕ) (right : Bool) (literals : List Literal) → IsReadTo text rest right literals → LacksByte 32 rest →
    (rest ≡ 48 ∷ [] → ⊥) → HasFieldsFault text Form
no_form_at_end text rest right literals h one not = λ fields k.
    let a = ahead h.fields fields rest h.numbers k.numbers (sym h.spelled ∙ k.spelled) in
    end a.more a.left
  where
    end : (more : List Field) → rest ≡ fields_left more → ⊥
    end [] e = not e
    end (f ∷ more) e = no_cut rest f (fields_left more) one (e ∙ regroup f (trailed more) (48 ∷ []))

pub no_form_at_field : (text rest field after : List ℕ) (right : Bool) (literals : List Literal) → IsReadTo text rest right literals →
    IsCutAt 32 rest field after → (IsNumber field → ⊥) → HasFieldsFault text Form
no_form_at_field text rest field after right literals h cut not = λ fields k.
    let a = ahead h.fields fields rest h.numbers k.numbers (sym h.spelled ∙ k.spelled) in
    at a.more a.numbers a.left
  where
    at : (more : List Field) → AreNumbers more → rest ≡ fields_left more → ⊥
    at [] n e = no_cut (48 ∷ []) field after zero_is_one (sym e ∙ cut.spelled)
    at (f ∷ more) n e =
        let same = same_cut field f after (fields_left more) cut.first (number_is_one f n.0) (sym cut.spelled ∙ e ∙ regroup f (trailed more) (48 ∷ [])) in
        not (subst IsNumber (sym same.field) n.0)

-- one more field
pub trailed_more : (fields : List Field) (f : Field) (r : List ℕ) → trailed fields ++ (f ++ 32 ∷ r) ≡ trailed (fields ++ f ∷ []) ++ r
trailed_more [] f r = sym (append_assoc (f ++ 32 ∷ []) [] r ∙ append_assoc f (32 ∷ []) r)
trailed_more (g ∷ fields) f r =
    append_assoc (g ++ 32 ∷ []) (trailed fields) (f ++ 32 ∷ r) ∙ ap (λ (t : List ℕ). (g ++ 32 ∷ []) ++ t) (trailed_more fields f r)
    ∙ sym (append_assoc (g ++ 32 ∷ []) (trailed (fields ++ f ∷ [])) r)

pub all_last : {A : Type 0} (P : A → Type 0) (xs : List A) (x : A) → AllByRecursion P (xs ++ x ∷ []) → P x
all_last P [] x h = h.0
all_last P (y ∷ xs) x h = all_last P xs x h.1

there_more : (ls : List Literal) (l : Literal) → AreThere LAST_VAR ls → IsThere LAST_VAR l → AreThere LAST_VAR (ls ++ l ∷ [])
there_more [] l h k = (k, tt)
there_more (m ∷ ls) l h k = (h.0, there_more ls l h.1 k)

map_more : (ls : List Literal) (l : Literal) → map literal_text (ls ++ l ∷ []) ≡ map literal_text ls ++ literal_text l ∷ []
map_more [] l = refl
map_more (m ∷ ls) l = ap (λ (t : List Field). literal_text m ∷ t) (map_more ls l)

read_right : (right : Bool) (fields : List Field) (literals new : List Literal) (field : Field) → AreRead right fields literals →
    AddsLiteral literals new field → AreRead right (fields ++ field ∷ []) new
read_right true fields literals new field h a = (
  ap (λ (t : List Field). t ++ field ∷ []) h.0 ∙ ap (λ (t : Field). map literal_text literals ++ t ∷ []) a.spelled ∙ sym (map_more literals a.literal)
      ∙ ap (λ (t : List Literal). map literal_text t) (sym a.added),
  subst (AreThere LAST_VAR) (sym a.added) (there_more literals a.literal h.1 a.there),
)
read_right false fields literals new field h a = λ all. h (each_front IsLiteral fields (field ∷ []) all)

pub read_more : (text rest field after : List ℕ) (right : Bool) (literals new : List Literal) → IsReadTo text rest right literals →
    IsCutAt 32 rest field after → IsNumber field → AddsLiteral literals new field → IsReadTo text after right new
read_more text rest field after right literals new h cut number a = record {
  fields = h.fields ++ field ∷ [];
  numbers = each_pushed IsNumber h.fields field h.numbers number;
  spelled = h.spelled ∙ ap (λ (t : List ℕ). trailed h.fields ++ t) cut.spelled ∙ trailed_more h.fields field after;
  read = read_right right h.fields literals new field h.read a;
}

pub read_wrong : (text rest field after : List ℕ) (right : Bool) (literals new : List Literal) → IsReadTo text rest right literals →
    IsCutAt 32 rest field after → IsNumber field → (IsLiteral field → ⊥) → IsReadTo text after false new
read_wrong text rest field after right literals new h cut number not = record {
  fields = h.fields ++ field ∷ [];
  numbers = each_pushed IsNumber h.fields field h.numbers number;
  spelled = h.spelled ∙ ap (λ (t : List ℕ). trailed h.fields ++ t) cut.spelled ∙ trailed_more h.fields field after;
  read = λ all. not (all_last IsLiteral h.fields field all);
}

pub all_right : (text rest : List ℕ) (right : Bool) (literals : List Literal) → IsReadTo text rest right literals → rest ≡ 48 ∷ [] → right ≡ true →
    HasLiterals text literals
all_right text rest right literals h e fine =
    let k : AreRead true h.fields literals = subst (λ (b : Bool). AreRead b h.fields literals) fine h.read in
    record {
      there = k.1;
      spelled = h.spelled ∙ ap (λ (t : List ℕ). trailed h.fields ++ t) e ∙ ap (λ (t : List Field). trailed t ++ 48 ∷ []) k.0;
    }
