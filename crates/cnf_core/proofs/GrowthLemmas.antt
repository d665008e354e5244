-- Trails that grow by what follows.
use Rattle.std.proofs.Common.{◌≡◌, ◌⊎◌, List, [], ◌∷◌, ◌++◌, length, take, get_or, refl, sym, ◌∙◌, ap, subst, inl, inr, arith, length-append}
use Rattle.std.specs.Prelude.{Contains}
use Rattle.std.proofs.lemmas.List.{take_at, take-take, take_all, get_or-take, get_or_push}
use Rattle.std.proofs.lemmas.Bool.{cases_lt}
use Rattle.std.proofs.lemmas.List.Elements.{All-weaker}
use Rattle.cnf_core.specs.Lit.{Literal, negate, has}
use Rattle.cnf_core.specs.Clause.{Clauses}
use Rattle.cnf_core.specs.Propagation.{IsIn, IsUnit, Closure, HasReason}
use Rattle.cnf_core.specs.Trail.{Grows}
use Rattle.cnf_core.proofs.PropagationLemmas.{closure_start, closure_unit, closure_again, contains_from_has, has_from_contains, reason_more}
use Rattle.cnf_core.proofs.TrailLemmas.{has_front, same_literal_or, push_keeps, front_includes}

pub grows_none : (clauses : Clauses) (trail : List Literal) → Grows clauses trail trail
grows_none clauses trail = record {
  front = take_all (length trail) trail (omega arith);
  longer = omega arith;
  keeps = λ l h. h;
  within = λ l h. closure_start clauses (has trail) l h;
  reason = λ i d from below. absurd (omega arith);
}

pub grows_more : (clauses : Clauses) (old mid new : List Literal) → Grows clauses old mid → Grows clauses mid new → Grows clauses old new
grows_more clauses old mid new a b = record {
  front = let longer = a.longer in sym (take-take (length old) (length mid) new longer) ∙ ap (take (length old)) b.front ∙ a.front;
  longer = let x = a.longer in let y = b.longer in omega arith;
  keeps = λ l h. b.keeps l (a.keeps l h);
  within = λ l h. closure_again clauses (has old) (has mid) l a.within (b.within l h);
  reason = λ i d from below. elim (cases_lt i (length mid)) [
    | inl front ↦
        let at : get_or mid i d ≡ get_or new i d = ap (λ (ls : List Literal). get_or ls i d) (sym b.front) ∙ get_or-take (length mid) new i d front in
        let before : take i mid ≡ take i new = ap (take i) (sym b.front) ∙ take-take i (length mid) new (omega arith) in
        subst (λ (m : Literal). HasReason clauses (has (take i new)) m) at (subst (λ (ls : List Literal). HasReason clauses (has ls) (get_or mid i d)) before
        (a.reason i d from front))
    | inr behind ↦ b.reason i d behind below
  ];
}

pub grows_unit : (clauses : Clauses) (trail : List Literal) (c : List Literal) (l : Literal) → Contains clauses c → IsUnit (has trail) c l →
    Grows clauses trail (trail ++ l ∷ [])
grows_unit clauses trail c l among unit = record {
  front = take_at trail (l ∷ []) (length trail) refl;
  longer = omega (arith, length-append trail (l ∷ []));
  keeps = push_keeps trail l;
  within = λ k h. elim (same_literal_or k l) [
    | inl e ↦ subst (λ (m : Literal). Closure clauses (has trail) m) (sym e) (closure_unit clauses (has trail) c l among unit.among
        (All-weaker (λ m. (m ≡ l) ⊎ IsIn (has trail) (negate m)) (λ m. (m ≡ l) ⊎ Closure clauses (has trail) (negate m))
        (λ m o. elim o [ inl s ↦ inl s | inr f ↦ inr (closure_start clauses (has trail) (negate m) f) ]) c unit.others))
    | inr ne ↦ closure_start clauses (has trail) k (sym (has_front trail l k ne) ∙ h)
  ];
  reason = λ i d from below.
      let size = length-append trail (l ∷ []) in
      let is : length trail ≡ i = omega arith in
      subst (λ (m : Literal). HasReason clauses (has (take i (trail ++ l ∷ []))) m) (sym (get_or_push trail l d i is))
      (subst (λ (ls : List Literal). HasReason clauses (has ls) l) (sym (take_at trail (l ∷ []) i is)) (record { reason = c; among = among; unit = unit }));
}

-- a literal of the new trail is an old one, or some clause makes it true by the others
pub grows_reason : (clauses : Clauses) (old new : List Literal) → Grows clauses old new → (l : Literal) → IsIn (has new) l →
    IsIn (has old) l ⊎ HasReason clauses (has new) l
grows_reason clauses old new g l h =
    let c = contains_from_has new l h in
    elim (cases_lt c.0 (length old)) [
      | inl front ↦
          let same : get_or old c.0 l ≡ l = ap (λ (ls : List Literal). get_or ls c.0 l) (sym g.front) ∙ get_or-take (length old) new c.0 l front ∙ c.2 in
          inl (has_from_contains old l (c.0, front, same))
      | inr behind ↦ inr (reason_more clauses (has (take c.0 new)) (has new) l (front_includes new c.0)
          (subst (HasReason clauses (has (take c.0 new))) c.2 (g.reason c.0 l behind c.1)))
    ]
