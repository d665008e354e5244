-- The analyser's own tables.
use Rattle.std.proofs.Common.{◌≡◌, ℕ, ◌+◌, ◌<◌, ◌≤◌, ◌∙◌, Bool, true, List, length, take, get_or, sym, ap, subst, arith}
use Rattle.std.specs.Prelude.{All, Contains}
use Rattle.std.proofs.lemmas.List.{get_or_default, get_or-take}
use Rattle.std.proofs.lemmas.List.Elements.{All-weaker}
use Rattle.cnf_core.specs.Clause.{IsNamed}
use Rattle.cnf_core.specs.declared.limits.TheConstants.{VARS}
use Rattle.cnf_core.specs.Lit.{Literal}
use Rattle.watch_arena.specs.Trail.{Marks}
use Rattle.watch_arena.specs.Arena.{Attached}
use Rattle.watch_arena.proofs.TextLemmas.{map_contains}
use Rattle.cdcl_learn.specs.Sight.{Sight, sight, clauses_in, IsSetAbove, IsSound}
use Rattle.cdcl_learn.specs.Cut.{Cut, is_seen, IsSeen}
use Rattle.cdcl_learn.specs.Analysis.{IsAnalyser, AreSeen}
use Rattle.cdcl_learn.proofs.LiteralLemmas.{there_contains}

pub named_there : (s : Sight) (v : ℕ) → IsSound s → IsNamed (clauses_in s) v → (1 ≤ v) × (v ≤ s.vars)
named_there s v sound n =
    let t = map_contains s.text s.places n.clause n.among in
    subst (λ x. (1 ≤ x) × (x ≤ s.vars)) n.var (there_contains s.vars (s.text t.0) n.lit (sound.clauses t.0 t.1)
    (subst (λ (ls : List Literal). Contains ls n.lit) (sym t.2) n.inside))

-- the seen variables stand in the working clause's list
abbrev pub AreMet : Cut → Type 0
AreMet w = (i : ℕ) → i < length w.met → is_seen w.seen (get_or w.met i 0) ≡ true

abbrev pub AreNamed : Sight → Cut → Type 0
AreNamed s w = (v : ℕ) → IsSeen w v → IsNamed (clauses_in s) v

pub analyser_after : (s : Sight) (w : Cut) (implied : List Bool) (side : List ℕ) (n : ℕ) → IsSound s → w.vars ≡ s.vars → w.vars ≤ VARS →
    length w.rest ≤ w.vars + 1 → w.vars + 1 ≤ length side → w.vars + 1 ≤ length implied → n ≤ w.vars + 1 → n ≡ length w.met → take n side ≡ w.met →
    AreNamed s w → AreMet w → ((i j : ℕ) → i < j → j < length w.met → get_or w.met i 0 ≡ get_or w.met j 0 → ⊥) → IsAnalyser w implied side n
analyser_after s w implied side n sound vars limit short size tables within len same named met apart = record {
  limit = limit;
  short = short;
  size = size;
  tables = tables;
  within = within;
  there = λ i lt.
      let there : (1 ≤ get_or w.met i 0) × (get_or w.met i 0 ≤ s.vars) = named_there s (get_or w.met i 0) sound
      (named (get_or w.met i 0) (met i (omega arith))) in
      subst (λ v. (1 ≤ v) × (v ≤ w.vars)) (sym (read i lt)) (there.0, subst (λ m. get_or w.met i 0 ≤ m) (sym vars) there.1);
  apart = λ i j lt below e. apart i j lt (omega arith) (sym (read i (omega arith)) ∙ e ∙ read j below);
}
  where
    read : (i : ℕ) → i < n → get_or side i 0 ≡ get_or w.met i 0
    read i lt = sym (get_or-take n side i 0 lt) ∙ ap (λ (ns : List ℕ). get_or ns i 0) same

pub seen_after : (a : Attached) (m : Marks) (w : Cut) (clause : List Literal) → AreNamed (sight a m) w → ((v : ℕ) → IsSeen w v → IsSetAbove (sight a m) v) →
    AreMet w → ((v : ℕ) → IsSeen w v → Contains w.met v) → All (λ k. IsSeen w k.var) clause → AreSeen a m clause w.met
seen_after a m w clause named above met all seen = record {
  named = λ i d lt. subst (IsNamed (clauses_in (sight a m))) (get_or_default w.met i 0 d lt) (named (get_or w.met i 0) (met i lt));
  above = λ i d lt. subst (IsSetAbove (sight a m)) (get_or_default w.met i 0 d lt) (above (get_or w.met i 0) (met i lt));
  all = All-weaker (λ k. IsSeen w k.var) (λ k. Contains w.met k.var) (λ k h. all k.var h) clause seen;
}
