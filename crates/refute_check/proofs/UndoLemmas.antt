-- Literals are taken off a trail again.
use Rattle.std.proofs.Common.{◌≡◌, ℕ, ◌+◌, ◌-◌, ◌<◌, ◌≤◌, Bool, List, ◌++◌, length, take, refl, sym, ◌∙◌, ap, arith}
use Rattle.std.proofs.Common.{length-append}
use Rattle.std.proofs.lemmas.List.{take-take, take_all, take_at}
use Rattle.cnf_core.specs.Lit.{Literal}
use Rattle.cnf_core.specs.Trail.{IsTrail}

pub record Dropped (vars : ℕ) (old : List Literal) (truth : List Bool) (new : List Literal) (front : ℕ) : Type 0 where
  pub table : IsTrail vars truth new
  pub rest : new ≡ take (length new) old
  pub same : take front new ≡ take front old

pub dropped_none : (vars : ℕ) (trail : List Literal) (truth : List Bool) (front : ℕ) → IsTrail vars truth trail → Dropped vars trail truth trail front
dropped_none vars trail truth front t = record { table = t; rest = sym (take_all (length trail) trail (omega arith)); same = refl }

pub dropped_one : (vars : ℕ) (old mid new : List Literal) (truth then : List Bool) (front : ℕ) (last : List Literal) → Dropped vars old truth mid front →
    front < length mid → IsTrail vars then new → mid ≡ new ++ last → length new ≡ length mid - 1 → Dropped vars old then new front
dropped_one vars old mid new truth then front last d within t e one =
    let size : length mid ≡ length new + length last = ap length e ∙ length-append new last in
    let prefix : take (length new) mid ≡ new = ap (take (length new)) e ∙ take_at new last (length new) refl in
    record {
      table = t;
      rest = sym prefix ∙ ap (take (length new)) d.rest ∙ take-take (length new) (length mid) old (omega arith);
      same = ap (take front) (sym prefix) ∙ take-take front (length new) mid (omega arith) ∙ d.same;
    }

-- what is left at the end
pub dropped_all : (vars : ℕ) (old new : List Literal) (truth : List Bool) (front : ℕ) → Dropped vars old truth new front → length new ≤ front →
    new ≡ take front old
dropped_all vars old new truth front d le = sym (take_all front new le) ∙ d.same
