-- The lines of a list, one by one.
use Rattle.std.proofs.Common.{◌≡◌, ℕ, zero, suc, ◌<◌, Bool, true, false, true≢false, List, [], ◌∷◌, length, get_or, arith, refl, sym, subst}
use Rattle.std.specs.Prelude.{All, Contains, IsTrue, ◌↔◌}
use Rattle.std.specs.List.{AllByRecursion}
use Rattle.std.proofs.lemmas.List.Elements.{All-contains, All-contains_itself, All-weaker}
use Rattle.cnf_core.specs.Lit.{Literal}
use Rattle.cnf_core.specs.Clause.{HasAllOf}
use Rattle.refute_log.specs.declared.line.LogLine.{LogLine}
use Rattle.refute_log.specs.declared.line.LogLine.TheVariants.{Refuted}
use Rattle.refute_log.specs.Lines.{MayBeTold}
use Rattle.refute_log.specs.Log.{IsRefutedWithin}

pub told_at : (lines : List LogLine) (i : ℕ) (line : LogLine) → AllByRecursion MayBeTold lines → i < length lines → line ≡ get_or lines i line → MayBeTold line
told_at [] i line all lt e = absurd (omega arith)
told_at (l ∷ lines) zero line all lt e = subst MayBeTold (sym e) all.0
told_at (l ∷ lines) (suc i) line all lt e = told_at lines i line all.1 (omega arith) e

-- a test of each literal of a Refuted line tells whether all are allowed
pub refuted_tells : (b : Bool) (allowed slice c : List Literal) (line : LogLine) → slice ≡ c → line ≡ Refuted c →
    (b ≡ true → All (λ l. Contains allowed l) slice) → (b ≡ false → All (λ l. Contains allowed l) slice → ⊥) → IsTrue b ↔ IsRefutedWithin allowed line
refuted_tells b allowed slice c line e is does lacks = subst (λ (x : LogLine). IsTrue b ↔ IsRefutedWithin allowed x) (sym is) (by b does lacks)
  where
    by : (b : Bool) → (b ≡ true → All (λ l. Contains allowed l) slice) → (b ≡ false → All (λ l. Contains allowed l) slice → ⊥) → IsTrue b ↔ HasAllOf allowed c
    by true does lacks = (λ t l inside. All-contains (λ k. Contains allowed k) c l (subst (All (λ k. Contains allowed k)) e (does refl)) inside, λ h. refl)
    by false does lacks = (
      λ t. absurd (true≢false (sym t)),
      λ h. absurd (lacks refl
          (subst (All (λ k. Contains allowed k)) (sym e) (All-weaker (Contains c) (λ k. Contains allowed k) (λ k inside. h k inside) c
          (All-contains_itself c)))),
    )
