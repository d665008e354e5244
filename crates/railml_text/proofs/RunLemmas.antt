-- Runs of a class of bytes, and tests of bytes.
use Rattle.std.proofs.Common.{◌≡◌, ◌⊎◌, ℕ, ◌-◌, ◌≤◌, Bool, true, false, cond, ◌==◌, List, [], ◌∷◌, ◌++◌, length, take, refl, sym, ap, ◌∙◌, length-append, arith}
use Rattle.std.proofs.lemmas.Bool.Decides.{nat_tests}
use Rattle.std.proofs.lemmas.List.{take_at}
use Rattle.railml_text.specs.Bytes.{is_blank, begins_name, goes_on_name, AllOfClass, front, past}
use Rattle.railml_text.specs.Reading.{begins_blank}

-- ---- tests

pub eq-same : (c : ℕ) → (c == c) ≡ true
eq-same c = grind (arith, nat_tests)

pub same_if_eq : (b c : ℕ) → (b == c) ≡ true → b ≡ c
same_if_eq b c e = grind (arith, nat_tests)

blank_is : (b : ℕ) → is_blank b ≡ true → (b ≡ 32) ⊎ (b ≡ 9) ⊎ (b ≡ 10) ⊎ (b ≡ 13)
blank_is b e = grind (arith, nat_tests)

pub blank_no_name : (b : ℕ) → is_blank b ≡ true → goes_on_name b ≡ false
blank_no_name b e = grind (arith, nat_tests, blank_is b e)

pub name_no_blank : (b : ℕ) → begins_name b ≡ true → is_blank b ≡ false
name_no_blank b e = grind (arith, nat_tests)

-- ---- a run and what follows it

pub front-past : (p : ℕ → Bool) (bytes : List ℕ) → front p bytes ++ past p bytes ≡ bytes
front-past p [] = refl
front-past p (b ∷ bytes) = elim (p b) as (λ v. cond v (b ∷ front p bytes) [] ++ cond v (past p bytes) (b ∷ bytes) ≡ b ∷ bytes) [
  | true ↦ ap (λ (t : List ℕ). b ∷ t) (front-past p bytes)
  | false ↦ refl
]

pub take_front : (p : ℕ → Bool) (bytes : List ℕ) → take (length bytes - length (past p bytes)) bytes ≡ front p bytes
take_front p bytes =
    let e = front-past p bytes in
    let n : length bytes - length (past p bytes) ≡ length (front p bytes) = omega (arith, length-append (front p bytes) (past p bytes), ap length e) in
    rw n (ap (λ (t : List ℕ). take (length (front p bytes)) t) (sym e) ∙ take_at (front p bytes) (past p bytes) (length (front p bytes)) refl)

pub past_no_longer : (p : ℕ → Bool) (bytes : List ℕ) → length (past p bytes) ≤ length bytes
past_no_longer p bytes = omega (arith, length-append (front p bytes) (past p bytes), ap length (front-past p bytes))

pub front_passes : (p : ℕ → Bool) (bytes : List ℕ) → AllOfClass p (front p bytes)
front_passes p [] = tt
front_passes p (b ∷ bytes) = elim (p b) as (λ v. p b ≡ v → AllOfClass p (cond v (b ∷ front p bytes) [])) [
  | true ↦ λ e. (e, front_passes p bytes)
  | false ↦ λ e. tt
] refl

-- a run, and a byte that ends it
pub front_run : (p : ℕ → Bool) (run : List ℕ) (c : ℕ) (rest : List ℕ) → AllOfClass p run → p c ≡ false → front p (run ++ c ∷ rest) ≡ run
front_run p [] c rest h n = rw n refl
front_run p (b ∷ run) c rest h n = rw h.0 (ap (λ (t : List ℕ). b ∷ t) (front_run p run c rest h.1 n))

pub past_run : (p : ℕ → Bool) (run : List ℕ) (c : ℕ) (rest : List ℕ) → AllOfClass p run → p c ≡ false → past p (run ++ c ∷ rest) ≡ c ∷ rest
past_run p [] c rest h n = rw n refl
past_run p (b ∷ run) c rest h n = rw h.0 (past_run p run c rest h.1 n)

-- ---- more bytes

-- a run that ended ends there again
pub past_more : (p : ℕ → Bool) (bytes : List ℕ) (c : ℕ) (rest more : List ℕ) → past p bytes ≡ c ∷ rest → past p (bytes ++ more) ≡ c ∷ (rest ++ more)
past_more p [] c rest more e = absurd cc
past_more p (b ∷ bytes) c rest more e = elim (p b) as (λ v. cond v (past p bytes) (b ∷ bytes) ≡ c ∷ rest → cond v (past p (bytes ++ more)) (b ∷ (bytes ++ more))
    ≡ c ∷ (rest ++ more)) [
      | true ↦ past_more p bytes c rest more
      | false ↦ λ h. ap (λ (t : List ℕ). t ++ more) h
    ] e

pub front_more : (p : ℕ → Bool) (bytes : List ℕ) (c : ℕ) (rest more : List ℕ) → past p bytes ≡ c ∷ rest → front p (bytes ++ more) ≡ front p bytes
front_more p [] c rest more e = absurd cc
front_more p (b ∷ bytes) c rest more e = elim (p b) as (λ v. cond v (past p bytes) (b ∷ bytes) ≡ c ∷ rest → cond v (b ∷ front p (bytes ++ more)) [] ≡ cond v
    (b ∷ front p bytes) []) [
      | true ↦ λ h. ap (λ (t : List ℕ). b ∷ t) (front_more p bytes c rest more h)
      | false ↦ λ h. refl
    ] e

-- a run to the end goes on
pub past_all : (p : ℕ → Bool) (bytes more : List ℕ) → past p bytes ≡ [] → past p (bytes ++ more) ≡ past p more
past_all p [] more e = refl
past_all p (b ∷ bytes) more e = elim (p b) as (λ v. cond v (past p bytes) (b ∷ bytes) ≡ [] → cond v (past p (bytes ++ more)) (b ∷ (bytes ++ more)) ≡ past p
    more) [
      | true ↦ past_all p bytes more
      | false ↦ λ h. absurd cc
    ] e

pub passes_all : (p : ℕ → Bool) (bytes : List ℕ) → past p bytes ≡ [] → AllOfClass p bytes
passes_all p [] e = tt
passes_all p (b ∷ bytes) e = elim (p b) as (λ v. p b ≡ v → cond v (past p bytes) (b ∷ bytes) ≡ [] → AllOfClass p (b ∷ bytes)) [
  | true ↦ λ h k. (h, passes_all p bytes k)
  | false ↦ λ h k. absurd cc
] refl e

-- what ends a run isn't of its class
pub past_ends : (p : ℕ → Bool) (bytes : List ℕ) (c : ℕ) (rest : List ℕ) → past p bytes ≡ c ∷ rest → p c ≡ false
past_ends p [] c rest e = absurd cc
past_ends p (b ∷ bytes) c rest e = elim (p b) as (λ v. p b ≡ v → cond v (past p bytes) (b ∷ bytes) ≡ c ∷ rest → p c ≡ false) [
  | true ↦ λ t h. past_ends p bytes c rest h
  | false ↦ λ t h. let same : b ≡ c = cc in ap p (sym same) ∙ t
] refl e

-- ---- white space

pub blank-front : (bytes : List ℕ) → begins_blank bytes ≡ begins_blank (front is_blank bytes)
blank-front [] = refl
blank-front (b ∷ bytes) = elim (is_blank b) as (λ v. is_blank b ≡ v → v ≡ begins_blank (cond v (b ∷ front is_blank bytes) [])) [
  | true ↦ λ e. sym e
  | false ↦ λ e. refl
] refl

-- white space, and then a byte that is none
pub blank-run : (blanks : List ℕ) (c : ℕ) (rest : List ℕ) → is_blank c ≡ false → begins_blank (blanks ++ c ∷ rest) ≡ begins_blank blanks
blank-run [] c rest n = n
blank-run (b ∷ blanks) c rest n = refl

pub blank-more : (bytes : List ℕ) (c : ℕ) (rest more : List ℕ) → past is_blank bytes ≡ c ∷ rest → begins_blank (bytes ++ more) ≡ begins_blank bytes
blank-more [] c rest more e = absurd cc
blank-more (b ∷ bytes) c rest more e = refl
