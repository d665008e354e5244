-- Lines that are appended one after another.
use Rattle.std.specs.Prelude.{◌≡◌, ℕ, zero, suc, ◌+◌, List, ◌++◌, flat_map}
use Rattle.std.specs.List.{range_with_len}
use Rattle.std.proofs.Common.{sym, ap, ◌∙◌, append_assoc, arith, add-one}
use Rattle.std.proofs.lemmas.List.{append-nil}

lines_more : (line : ℕ → List ℕ) (a n k : ℕ) → a + n ≡ k → flat_map line (range_with_len a (suc n)) ≡ flat_map line (range_with_len a n) ++ line k
lines_more line a zero k e = let same : a ≡ k = omega arith in append-nil (line a) ∙ ap line same
lines_more line a (suc n) k e =
    let f : (a + 1) + n ≡ k = omega arith in
    ap (λ (t : List ℕ). line a ++ t) (lines_more line (a + 1) n k f) ∙ sym (append_assoc (line a) (flat_map line (range_with_len (a + 1) n)) (line k))

-- a line for each number below n, and one more
pub line_more : (line : ℕ → List ℕ) (old into new : List ℕ) (n : ℕ) → into ≡ old ++ flat_map line (range_with_len 0 n) → new ≡ into ++ line n →
    new ≡ old ++ flat_map line (range_with_len 0 (n + 1))
line_more line old into new n so_far now =
    let e : 0 + n ≡ n = omega arith in
    now
    ∙ ap (λ (t : List ℕ). t ++ line n) so_far
    ∙ append_assoc old (flat_map line (range_with_len 0 n)) (line n)
    ∙ ap (λ (t : List ℕ). old ++ t) (sym (lines_more line 0 n n e))
    ∙ ap (λ (k : ℕ). old ++ flat_map line (range_with_len 0 k)) (sym (add-one n))
