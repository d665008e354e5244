-- The walk down the trail, as the code makes it.
use Rattle.std.proofs.Common.{◌≡◌, ℕ, ◌+◌, ◌<◌, ◌≤◌, false, drop, List, ◌∷◌, length, get_or, sym, ◌∙◌, ap, subst, inl, inr, arith}
use Rattle.std.proofs.lemmas.Bool.{cases_lt, cases_eq}
use Rattle.std.proofs.lemmas.List.{drop_more}
use Rattle.cnf_core.specs.Lit.{Literal}
use Rattle.cnf_core.specs.Clause.{AreThere, IsThere}
use Rattle.cdcl_learn.specs.Sight.{Sight, nth, reason_of, IsReasonAt, IsSound}
use Rattle.cdcl_learn.specs.Cut.{Cut, is_seen, cut_with, cut_with_all, IsStage, IsResolving}
use Rattle.cdcl_learn.proofs.LiteralLemmas.{there_contains}
use Rattle.cdcl_learn.proofs.CountLemmas.{open_skip}
use Rattle.cdcl_learn.proofs.RupLemmas.{stage_reason}

pub clause_lit_there : (vars : ℕ) (c : List Literal) (i : ℕ) (k : Literal) → AreThere vars c → i < length c → get_or c i k ≡ k → IsThere vars k
clause_lit_there vars c i k there lt e = there_contains vars c k there (i, lt, e)

pub gathered_step : (s : Sight) (w : Cut) (c : List Literal) (i : ℕ) (k : Literal) → i < length c → get_or c i k ≡ k →
    cut_with_all s (cut_with s w k) (drop (i + 1) c) ≡ cut_with_all s w (drop i c)
gathered_step s w c i k lt e =
    let at : drop i c ≡ k ∷ drop (i + 1) c = drop_more c i k lt ∙ ap (λ (m : Literal). m ∷ drop (i + 1) c) (e) in
    sym (ap (cut_with_all s w) at)

pub more_left : (s : Sight) (w : Cut) (end i : ℕ) → IsResolving s w end → i < end → ((j : ℕ) → i < j → j < end → is_seen w.seen (nth s j).var ≡ false) →
    is_seen w.seen (nth s i).var ≡ false → 1 ≤ i
more_left s w end i ready lt none un = elim (cases_lt 0 i) [
  | inl some ↦ omega arith
  | inr first ↦
      let skip = open_skip s w.seen 0 end (omega arith) (λ j _ to. elim (cases_eq j i) [
        | inl e ↦ subst (λ n. is_seen w.seen (nth s n).var ≡ false) (sym e) un
        | inr ne ↦ none j (omega arith) to
      ]) in
      let cut = ready.cut in
      let count = cut.count in
      let some = ready.some in
      absurd (omega arith)
]

pub reason_at : (s : Sight) (i v p : ℕ) → IsSound s → i < length s.lits → v ≡ (nth s i).var → get_or s.reasons v 0 ≡ p → 1 ≤ get_or s.reasons v 0 →
    IsReasonAt s i p
reason_at s i v p r lt var e some = r.reason i p lt (ap (λ x. get_or s.reasons x 0) (sym var) ∙ e) (subst (λ n. 1 ≤ n) e some)

pub reason_none : (s : Sight) (w : Cut) (i v : ℕ) → IsSound s → 0 < s.level → IsStage s w i → 1 < w.pending → v ≡ (nth s i).var → get_or s.reasons v 0 ≡ 0 → ⊥
reason_none s w i v r above t more var e =
    let some = stage_reason s w i r above t more in
    let same : reason_of s (nth s i) ≡ 0 = ap (λ x. get_or s.reasons x 0) (sym var) ∙ e in
    absurd (omega arith)
