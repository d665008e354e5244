-- What a step adds to a list or to the trail, and what an exit with a result isn't.
use Rattle.std.proofs.Common.{◌≡◌, ◌∙◌, ℕ, ◌<◌, ◌+◌, List, [], ◌∷◌, ◌++◌, length, get_or, map, take, sym, ap, arith}
use Rattle.std.specs.Prelude.{Ok, Err}
use Rattle.std.proofs.lemmas.List.{length_push, take_more, map_more}
use Rattle.cnf_core.specs.Lit.{Literal}
use Rattle.watch_arena.specs.Trail.{Marks, opened, with_lit}

pub not_err : {T E : Type 0} (x : T) (e : E) → Ok x ≡ Err e → ⊥
not_err x e h = cc

pub decided_longer : (m n : Marks) (l : Literal) → n ≡ with_lit (opened m) l 0 → length m.lits < length n.lits
decided_longer m n l e = omega (arith, ap (λ (k : Marks). length k.lits) e, length_push m.lits l)

-- a list that is copied, one literal after another
pub copied_more : (all there new : List Literal) (i : ℕ) (l : Literal) → i < length all → get_or all i l ≡ l → there ≡ take i all → new ≡ there ++ l ∷ [] →
    new ≡ take (i + 1) all
copied_more all there new i l within is so_far pushed =
    pushed ∙ ap (λ ls. ls ++ l ∷ []) so_far ∙ ap (λ k. take i all ++ k ∷ []) (sym is) ∙ sym (take_more all i l within)

-- the same where each literal is mapped
pub mapped_more : (f : Literal → Literal) (all there new : List Literal) (i : ℕ) (l k : Literal) → i < length all → l ≡ get_or all i l → k ≡ f l →
    there ≡ map f (take i all) → new ≡ there ++ k ∷ [] → new ≡ map f (take (i + 1) all)
mapped_more f all there new i l k within is maps so_far pushed =
    pushed ∙ ap (λ ls. ls ++ k ∷ []) so_far ∙ ap (λ x. map f (take i all) ++ x ∷ []) (maps ∙ ap f is) ∙ sym (map_more f all i l within)
