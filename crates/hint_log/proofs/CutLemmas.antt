-- A text that is cut behind its first field `0`, and what stands before it.
use Rattle.std.proofs.Common.{◌≡◌, ◌≢◌, ℕ, suc, ◌+◌, ◌≤◌, List, [], ◌∷◌, ◌++◌, length, take, drop, refl, sym, ◌∙◌, ap, subst, arith, append_assoc}
use Rattle.std.proofs.Common.{length-append}
use Rattle.std.proofs.Math.Seq.{take-append-add}
use Rattle.std.proofs.lemmas.List.{length-take-le, take-append-drop}
use Rattle.outside_io.specs.Fields.{LacksByte, spaced}
use Rattle.refute_log.specs.LineForm.{Field, AreNumbers}
use Rattle.refute_log.proofs.ReadingLemmas.{same_cut, zero_is_one, number_is_one}
use Rattle.hint_log.specs.HintForm.{NoneIsZero}
use Rattle.hint_log.specs.Parts.{NoZeroBefore, IsCutBehindZero}

-- ---- the fields before it

-- a text that has a field in front, and something behind its space
record IsPast (f front t s : List ℕ) : Type 0 where
  more : List ℕ
  front_is : front ≡ f ++ more
  rest : t ≡ more ++ s

-- a field goes on up to its space
past_field : (f front t s : List ℕ) → LacksByte 32 f → f ++ t ≡ front ++ 32 ∷ s → IsPast f front t (32 ∷ s)
past_field [] front t s one e = record { more = front; front_is = refl; rest = e }
past_field (x ∷ f) [] t s one e = let b : x ≡ 32 = cc in absurd (one.0 b)
past_field (x ∷ f) (y ∷ front) t s one e =
    let b : x ≡ y = cc in
    let tail : f ++ t ≡ front ++ 32 ∷ s = cc in
    let p = past_field f front t s one.1 tail in
    record { more = p.more; front_is = cc (b, p.front_is); rest = p.rest }

-- what follows fields, where a further one follows them, begins with a space
record BeginsSpace (text : List ℕ) : Type 0 where
  rest : List ℕ
  is : text ≡ 32 ∷ rest

begins_space : (fields : List Field) (t : List ℕ) → BeginsSpace (spaced fields ++ 32 ∷ t)
begins_space [] t = record { rest = t; is = refl }
begins_space (f ∷ fields) t = record { rest = (f ++ spaced fields) ++ 32 ∷ t; is = refl }

-- no `0` ends before fields none of which is `0`
pub not_before : (fields : List Field) (a b t : List ℕ) → AreNumbers fields → NoneIsZero fields → spaced fields ++ 32 ∷ 48 ∷ 32 ∷ t ≡ a ++ 32 ∷ 48 ∷ 32 ∷ b →
    length (spaced fields) ≤ length a
not_before [] a b t numbers none e = omega arith
not_before (f ∷ fields) [] b t numbers none e =
    let next = begins_space fields (48 ∷ 32 ∷ t) in
    let tail : (f ++ spaced fields) ++ 32 ∷ 48 ∷ 32 ∷ t ≡ 48 ∷ 32 ∷ b = cc in
    let split : f ++ 32 ∷ next.rest ≡ 48 ∷ 32 ∷ b = ap (λ (s : List ℕ). f ++ s) (sym next.is) ∙ sym (append_assoc f (spaced fields) (32 ∷ 48 ∷ 32 ∷ t))
    ∙ tail in
    let cut = same_cut f (48 ∷ []) next.rest b (number_is_one f numbers.0) zero_is_one split in
    absurd (none.0 cut.field)
not_before (f ∷ fields) (x ∷ a) b t numbers none e =
    let tail : (f ++ spaced fields) ++ 32 ∷ 48 ∷ 32 ∷ t ≡ a ++ 32 ∷ 48 ∷ 32 ∷ b = cc in
    let split : f ++ (spaced fields ++ 32 ∷ 48 ∷ 32 ∷ t) ≡ a ++ 32 ∷ 48 ∷ 32 ∷ b = sym (append_assoc f (spaced fields) (32 ∷ 48 ∷ 32 ∷ t)) ∙ tail in
    let p = past_field f a (spaced fields ++ 32 ∷ 48 ∷ 32 ∷ t) (48 ∷ 32 ∷ b) (number_is_one f numbers.0) split in
    let later = not_before fields p.more b t numbers.1 none.1 p.rest in
    let size = ap length p.front_is ∙ length-append f p.more in
    let whole = length-append f (spaced fields) in
    omega arith

-- the same behind a letter
pub not_before_letter : (letter : ℕ) (fields : List Field) (a b t : List ℕ) → letter ≢ 32 → AreNumbers fields → NoneIsZero fields →
    (letter ∷ spaced fields) ++ 32 ∷ 48 ∷ 32 ∷ t ≡ a ++ 32 ∷ 48 ∷ 32 ∷ b → length (letter ∷ spaced fields) ≤ length a
not_before_letter letter fields [] b t other numbers none e = let same : letter ≡ 32 = cc in absurd (other same)
not_before_letter letter fields (x ∷ a) b t other numbers none e =
    let tail : spaced fields ++ 32 ∷ 48 ∷ 32 ∷ t ≡ a ++ 32 ∷ 48 ∷ 32 ∷ b = cc in
    let later = not_before fields a b t numbers none tail in
    omega arith

-- ---- fields before which no `0` ends

pub none_is_zero : (front : List ℕ) (fields : List Field) (t : List ℕ) →
    NoZeroBefore ((front ++ spaced fields) ++ 32 ∷ 48 ∷ 32 ∷ t) (length (front ++ spaced fields)) → NoneIsZero fields
none_is_zero front [] t none = tt
none_is_zero front (f ∷ fields) t none = (
  λ zero.
      let next = begins_space fields (48 ∷ 32 ∷ t) in
      let is : (front ++ spaced (f ∷ fields)) ++ 32 ∷ 48 ∷ 32 ∷ t ≡ front ++ 32 ∷ 48 ∷ 32 ∷ next.rest =
      append_assoc front (spaced (f ∷ fields)) (32 ∷ 48 ∷ 32 ∷ t)
      ∙ ap (λ (g : List ℕ). front ++ 32 ∷ ((g ++ spaced fields) ++ 32 ∷ 48 ∷ 32 ∷ t)) zero
      ∙ ap (λ (s : List ℕ). front ++ 32 ∷ 48 ∷ s) next.is in
      let least = none front next.rest is in
      let size = length-append front (spaced (f ∷ fields)) in
      let some : length (spaced (f ∷ fields)) ≡ suc (length (f ++ spaced fields)) = refl in
      omega arith,
  none_is_zero (front ++ 32 ∷ f) fields t
      (subst (λ (s : List ℕ). NoZeroBefore (s ++ 32 ∷ 48 ∷ 32 ∷ t) (length s)) (sym (append_assoc front (32 ∷ f) (spaced fields))) none),
)

-- ---- two cuts of one text

record SameParts (a b r s : List ℕ) : Type 0 where
  front : a ≡ b
  rest : r ≡ s

same_parts : (a b r s : List ℕ) → length a ≡ length b → a ++ r ≡ b ++ s → SameParts a b r s
same_parts [] [] r s size e = record { front = refl; rest = e }
same_parts [] (y ∷ b) r s size e = absurd (omega arith)
same_parts (x ∷ a) [] r s size e = absurd (omega arith)
same_parts (x ∷ a) (y ∷ b) r s size e =
    let h : x ≡ y = cc in
    let tail : a ++ r ≡ b ++ s = cc in
    let p = same_parts a b r s (omega arith) tail in
    record { front = cc (h, p.front); rest = p.rest }

pub record SameCuts (front other rest another : List ℕ) : Type 0 where
  pub front_is : front ≡ other
  pub rest_is : rest ≡ another

tail_of : (r s : List ℕ) → 32 ∷ 48 ∷ 32 ∷ r ≡ 32 ∷ 48 ∷ 32 ∷ s → r ≡ s
tail_of r s e = cc

pub cut_once : (text front other rest another : List ℕ) → IsCutBehindZero text front rest → IsCutBehindZero text other another →
    SameCuts front other rest another
cut_once text front other rest another h k =
    let low = h.first k.before another k.spelled in
    let high = k.first h.before rest h.spelled in
    let p = same_parts h.before k.before (32 ∷ 48 ∷ 32 ∷ rest) (32 ∷ 48 ∷ 32 ∷ another) (omega arith) (sym h.spelled ∙ k.spelled) in
    record { front_is = h.front_is ∙ ap (λ (t : List ℕ). t ++ 32 ∷ 48 ∷ []) p.front ∙ sym k.front_is; rest_is = tail_of rest another p.rest }

-- the cut that such a loop finds
pub cut_found : (text rest : List ℕ) (place : ℕ) → place ≤ length text → NoZeroBefore text place → drop place text ≡ 32 ∷ 48 ∷ 32 ∷ rest →
    IsCutBehindZero text (take (place + 2) text) rest
cut_found text rest place low none here =
    let a = take place text in
    let size : length a ≡ place = length-take-le place text low in
    let whole : text ≡ a ++ 32 ∷ 48 ∷ 32 ∷ rest = sym (take-append-drop place text) ∙ ap (λ (s : List ℕ). a ++ s) here in
    record {
      before = a;
      front_is =
          ap (take (place + 2)) whole ∙ ap (λ n. take (n + 2) (a ++ 32 ∷ 48 ∷ 32 ∷ rest)) (sym size) ∙ take-append-add a (32 ∷ 48 ∷ 32 ∷ rest) 2;
      spelled = whole;
      first = subst (NoZeroBefore text) (sym size) none;
    }
