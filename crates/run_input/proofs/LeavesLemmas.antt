-- How a run leaves the files: what a step that changes none, a read before, or one file after the other has to do with it.
use Rattle.std.proofs.Common.{◌≡◌, ◌≢◌, ◌⊎◌, ℕ, zero, suc, List, [], ◌∷◌, ◌++◌, None, Some, refl, sym, ◌∙◌, subst, inl, inr, lit<, arith}
use Rattle.std.specs.declared.option.Option.{Option}
use Rattle.outside_io.specs.Contents.{Told, WhereTold, SameFiles, SameElsewhere}
use Rattle.railml_read.proofs.Ends.{same_or_not}
use Rattle.run_input.specs.Met.{LeftSo}
use Rattle.run_input.specs.Written.{file_named, AreFilesApart}

-- what holds of two steps in turn, where contents are told
pub told_then : (P Q R : Told → Told → Type 0) (old mid new : Option Told) → ((a b c : Told) → P a b → Q b c → R a c) → WhereTold old mid P →
    WhereTold mid new Q → WhereTold old new R
told_then P Q R None mid new both h k = tt
told_then P Q R (Some a) None new both h k = absurd h
told_then P Q R (Some a) (Some b) None both h k = absurd k
told_then P Q R (Some a) (Some b) (Some c) both h k = both a b c h k

-- and of one, where more is known
pub told_so : (P Q : Told → Told → Type 0) (old new : Option Told) → ((a b : Told) → P a b → Q a b) → WhereTold old new P → WhereTold old new Q
told_so P Q None new weaker h = tt
told_so P Q (Some a) None weaker h = absurd h
told_so P Q (Some a) (Some b) weaker h = weaker a b h

-- ---- nothing is written

pub left_alone : (May : (name bytes : List ℕ) → Type 0) (c : Option Told) → WhereTold c c (LeftSo May)
left_alone May None = tt
left_alone May (Some told) = λ name. inl refl

-- ---- one step after the other

-- more may be left than may be left
pub leaves_weaker : (May More : (name bytes : List ℕ) → Type 0) (old new : Option Told) → ((name bytes : List ℕ) → May name bytes → More name bytes) →
    WhereTold old new (LeftSo May) → WhereTold old new (LeftSo More)
leaves_weaker May More old new weaker =
    told_so (LeftSo May) (LeftSo More) old new (λ a b leaves name. elim (leaves name)
    [ inl stands ↦ inl stands | inr (bytes, there, may) ↦ inr (bytes, there, weaker name bytes may) ])

-- two steps leave what either may leave
pub leaves_both : (May Also : (name bytes : List ℕ) → Type 0) (old mid new : Option Told) → WhereTold old mid (LeftSo May) → WhereTold mid new (LeftSo Also) →
    WhereTold old new (LeftSo (λ name bytes. May name bytes ⊎ Also name bytes))
leaves_both May Also old mid new =
    told_then (LeftSo May) (LeftSo Also) (LeftSo (λ name bytes. May name bytes ⊎ Also name bytes)) old mid new
    (λ a b c first second name.
    elim (second name) as (λ _. (c name ≡ a name) ⊎ ((bytes : List ℕ) × (c name ≡ Some bytes) × (May name bytes ⊎ Also name bytes))) [
      | inl stands ↦ elim (first name) [ inl same ↦ inl (stands ∙ same) | inr (bytes, there, may) ↦ inr (bytes, stands ∙ there, inl may) ]
      | inr (bytes, there, also) ↦ inr (bytes, there, inr also)
    ])

-- a read before changes nothing of that
pub leaves_later : (May : (name bytes : List ℕ) → Type 0) (old mid new : Option Told) → WhereTold old mid SameFiles → WhereTold mid new (LeftSo May) →
    WhereTold old new (LeftSo May)
leaves_later May old mid new =
    told_then SameFiles (LeftSo May) (LeftSo May) old mid new
    (λ a b c same leaves name. elim (leaves name) [ inl stands ↦ inl (stands ∙ same name) | inr left ↦ inr left ])

-- ---- one file is written

-- the bytes with which a file may be left that is named, where one is
abbrev pub NamedMay : (named : Option (List ℕ)) → (P : List ℕ → Type 0) → (name bytes : List ℕ) → Type 0
NamedMay named P name bytes = (named ≡ Some name) × P bytes

-- a file has such bytes, or stands as it stood, and no other changed
pub left_alone_but : (P : List ℕ → Type 0) (name : List ℕ) (a b : Told) → SameElsewhere name a b →
    (b name ≡ a name) ⊎ ((bytes : List ℕ) × (b name ≡ Some bytes) × P bytes) → LeftSo (NamedMay (Some name) P) a b
left_alone_but P name a b others begun other = elim (same_or_not other name) [
  | inl same ↦
      subst (λ (n : List ℕ). (b n ≡ a n) ⊎ ((bytes : List ℕ) × (b n ≡ Some bytes) × NamedMay (Some name) P n bytes)) (sym same)
      (elim begun [ inl stands ↦ inl stands | inr (bytes, there, such) ↦ inr (bytes, there, (refl, such)) ])
  | inr different ↦ inl (others other different)
]

-- so it is where that is the name that was asked for
pub leaves_named : (P : List ℕ → Type 0) (old new : Option Told) (named : Option (List ℕ)) (name : List ℕ) → named ≡ Some name →
    WhereTold old new (SameElsewhere name) →
    WhereTold old new (λ before after. (after name ≡ before name) ⊎ ((bytes : List ℕ) × (after name ≡ Some bytes) × P bytes)) →
    WhereTold old new (LeftSo (NamedMay named P))
leaves_named P None new named name is others begun = tt
leaves_named P (Some a) None named name is others begun = absurd others
leaves_named P (Some a) (Some b) named name is others begun =
    subst (λ (n : Option (List ℕ)). LeftSo (NamedMay n P) a b) (sym is) (left_alone_but P name a b others begun)

-- a file of another name stands as it stood
pub other_stands : (P : List ℕ → Type 0) (named : Option (List ℕ)) (name : List ℕ) (a b : Told) → (named ≡ Some name → ⊥) → LeftSo (NamedMay named P) a b →
    b name ≡ a name
other_stands P named name a b other leaves = elim (leaves name) [ inl stands ↦ stands | inr (bytes, there, may) ↦ absurd (other may.0) ]

-- ---- the files of a log and of a picture have two names

pub names_apart : (log svg : Option (List ℕ)) (name : List ℕ) → AreFilesApart (file_named log ++ file_named svg) → log ≡ Some name → svg ≡ Some name → ⊥
names_apart None svg name apart is_log is_svg = absurd (cc)
names_apart (Some l) None name apart is_log is_svg = absurd (cc)
names_apart (Some l) (Some p) name apart is_log is_svg = let same : l ≡ p = cc in apart 0 1 l (lit< tt) (lit< tt) same

pub two_apart : (l p : List ℕ) → l ≢ p → AreFilesApart (l ∷ p ∷ [])
two_apart l p apart zero zero d before within = absurd (omega (arith, before))
two_apart l p apart zero (suc zero) d before within = apart
two_apart l p apart zero (suc (suc j)) d before within = absurd (omega (arith, within))
two_apart l p apart (suc i) j d before within = absurd (omega (arith, before, within))
