-- The numbers of hints, read field by field.
use Rattle.std.proofs.Common.{◌≡◌, ℕ, ◌≤◌, Bool, true, false, List, [], ◌∷◌, ◌++◌, length, map, decimal, refl, sym, ◌∙◌, ap, subst, arith}
use Rattle.std.specs.List.{AllByRecursion}
use Rattle.plan_core.proofs.ListFacts.{each_pushed, each_front}
use Rattle.cnf_core.specs.declared.limits.TheConstants.{LAST_VAR}
use Rattle.outside_io.specs.Fields.{LacksByte, IsCutAt}
use Rattle.outside_io.specs.Numbers.{IsNumberField}
use Rattle.refute_log.specs.LineForm.{Field, IsNumber, AreNumbers}
use Rattle.refute_log.specs.FieldText.{trailed, fields_left}
use Rattle.refute_log.proofs.ReadingLemmas.{same_cut, no_cut, number_is_one, zero_is_one, regroup, ahead, trailed_more, all_last}
use Rattle.hint_log.specs.HintText.{IsClauseNumber}
use Rattle.hint_log.specs.Parts.{AddsNumber, LacksNumbers, AreNumbersRead, AreHintsReadTo}

map_more : (ns : List ℕ) (n : ℕ) → map decimal (ns ++ n ∷ []) ≡ map decimal ns ++ decimal n ∷ []
map_more [] n = refl
map_more (m ∷ ns) n = ap (λ (t : List Field). decimal m ∷ t) (map_more ns n)

read_right : (right : Bool) (fields : List Field) (ns new : List ℕ) (field : Field) → AreNumbersRead right fields ns → AddsNumber ns new field →
    AreNumbersRead right (fields ++ field ∷ []) new
read_right true fields ns new field h a = (
  ap (λ (t : List Field). t ++ field ∷ []) h.0 ∙ ap (λ (t : Field). map decimal ns ++ t ∷ []) a.is.written ∙ sym (map_more ns a.number)
      ∙ ap (λ (t : List ℕ). map decimal t) (sym a.added),
  subst (AllByRecursion IsClauseNumber) (sym a.added) (each_pushed IsClauseNumber ns a.number h.1 (record { from = a.is.from; to = a.is.to })),
)
read_right false fields ns new field h a = λ all. h (each_front (IsNumberField 1 LAST_VAR) fields (field ∷ []) all)

pub read_more : (text rest field after : List ℕ) (right : Bool) (ns new : List ℕ) → AreHintsReadTo text rest right ns → IsCutAt 32 rest field after →
    IsNumber field → AddsNumber ns new field → AreHintsReadTo text after right new
read_more text rest field after right ns new h cut number a = record {
  fields = h.fields ++ field ∷ [];
  numbers = each_pushed IsNumber h.fields field h.numbers number;
  spelled = h.spelled ∙ ap (λ (t : List ℕ). trailed h.fields ++ t) cut.spelled ∙ trailed_more h.fields field after;
  read = read_right right h.fields ns new field h.read a;
}

pub read_wrong : (text rest field after : List ℕ) (right : Bool) (ns new : List ℕ) → AreHintsReadTo text rest right ns → IsCutAt 32 rest field after →
    IsNumber field → (IsNumberField 1 LAST_VAR field → ⊥) → AreHintsReadTo text after false new
read_wrong text rest field after right ns new h cut number not = record {
  fields = h.fields ++ field ∷ [];
  numbers = each_pushed IsNumber h.fields field h.numbers number;
  spelled = h.spelled ∙ ap (λ (t : List ℕ). trailed h.fields ++ t) cut.spelled ∙ trailed_more h.fields field after;
  read = λ all. not (all_last (IsNumberField 1 LAST_VAR) h.fields field all);
}

-- ---- what is left

pub lacks_at_end : (text rest : List ℕ) (right : Bool) (ns : List ℕ) → AreHintsReadTo text rest right ns → LacksByte 32 rest → (rest ≡ 48 ∷ [] → ⊥) →
    LacksNumbers text
lacks_at_end text rest right ns h one not = λ fields k.
    let a = ahead h.fields fields rest h.numbers k.has.numbers (sym h.spelled ∙ k.has.spelled) in
    end a.more a.left
  where
    end : (more : List Field) → rest ≡ fields_left more → ⊥
    end [] e = not e
    end (f ∷ more) e = no_cut rest f (fields_left more) one (e ∙ regroup f (trailed more) (48 ∷ []))

pub lacks_at_field : (text rest field after : List ℕ) (right : Bool) (ns : List ℕ) → AreHintsReadTo text rest right ns → IsCutAt 32 rest field after →
    (IsNumber field → ⊥) → LacksNumbers text
lacks_at_field text rest field after right ns h cut not = λ fields k.
    let a = ahead h.fields fields rest h.numbers k.has.numbers (sym h.spelled ∙ k.has.spelled) in
    at a.more a.numbers a.left
  where
    at : (more : List Field) → AreNumbers more → rest ≡ fields_left more → ⊥
    at [] n e = no_cut (48 ∷ []) field after zero_is_one (sym e ∙ cut.spelled)
    at (f ∷ more) n e =
        let same = same_cut field f after (fields_left more) cut.first (number_is_one f n.0) (sym cut.spelled ∙ e ∙ regroup f (trailed more) (48 ∷ [])) in
        not (subst IsNumber (sym same.field) n.0)

-- ---- all fields were read

fields_of : (fields : List Field) (ns : List ℕ) → fields ≡ map decimal ns → 1 ≤ length fields → 1 ≤ length ns
fields_of fields [] e h = let z = ap length e in omega arith
fields_of fields (n ∷ ns) e h = omega arith

pub no_numbers : (text rest : List ℕ) (right : Bool) (ns : List ℕ) → AreHintsReadTo text rest right ns → rest ≡ 48 ∷ [] → right ≡ true → length ns ≡ 0 →
    LacksNumbers text
no_numbers text rest right ns h e fine none = λ fields k.
    let r : AreNumbersRead true h.fields ns = subst (λ (b : Bool). AreNumbersRead b h.fields ns) fine h.read in
    let a = ahead h.fields fields rest h.numbers k.has.numbers (sym h.spelled ∙ k.has.spelled) in
    end a.more a.split a.left r.0 k.some
  where
    end : {fields : List Field} (more : List Field) → fields ≡ h.fields ++ more → rest ≡ fields_left more → h.fields ≡ map decimal ns → 1 ≤ length fields → ⊥
    end [] s l m some = let n = fields_of h.fields ns m (front_some h.fields some s) in omega arith
      where
        front_some : {fields : List Field} (fs : List Field) → 1 ≤ length fields → fields ≡ fs ++ [] → 1 ≤ length fs
        front_some [] some s = let z = ap length s in omega arith
        front_some (f ∷ fs) some s = omega arith
    end (f ∷ more) s l m some = no_cut (48 ∷ []) f (fields_left more) zero_is_one (sym e ∙ l ∙ regroup f (trailed more) (48 ∷ []))
