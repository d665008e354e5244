use Rattle.std.proofs.Common.{◌≡◌, ◌∙◌, ◌+◌, ◌++◌, ℕ, List, Bool, length, take, drop, sym, ap, subst, arith}
use Rattle.std.proofs.lemmas.List.{take_at}
use Rattle.cnf_core.specs.Clause.{Clauses}
use Rattle.log_trim.specs.Found.{AreClauses, AreOnTrail, IsLeanHint, NoneNeeded}
use Rattle.log_trim.proofs.FoundLemmas.{go_done, clash_falsifies}
use Rattle.log_trim.proofs.finder.Finder.hints_to.Goals as goal

pub returns-in_err-name_all-clause-follows : goal.returns-in_err-name_all-clause-follows
returns-in_err-name_all-clause-follows c = λ all taken lits h.
    let old = c.args.self.now in
    clash_falsifies old.vars all taken old.arena old.numbers.items lits old.trail h.clauses h.denying.reasons c.args.clash.0 c.requires.clash

pub returns-clause-follows : goal.returns-clause-follows
returns-clause-follows c = λ all taken lits h.
    let old = c.args.self.now in
    clash_falsifies old.vars all taken old.arena old.numbers.items lits old.trail h.clauses h.denying.reasons c.args.clash.0 c.requires.clash

pub returns-clause-finder : goal.returns-clause-finder
returns-clause-finder c = λ all taken lits h.
    let old = c.args.self.now in
    record {
      clauses = h.clauses;
      idle = c.leave.ensures old.arena old.vars lits h.denying;
      size =
          let a = ap (λ (bs : List Bool). length bs) c.deref_mut.ensures.value in
          let most = old.needed.len in
          let n : length c.clear.new.needed ≡ most = omega (arith, c.clear.ensures.size, c.deref_mut-2.ensures.len) in
          let rest = drop (length c.clear.new.needed) (take most (c.name_all.new.needed ++ drop (length c.name_all.new.needed) old.needed.items)) in
          let whole : length (take most (c.clear.new.needed ++ rest)) ≡ length c.clear.new.needed = ap (λ (bs : List Bool). length bs)
          (take_at c.clear.new.needed rest most n) in
          whole ∙ omega (arith, n, c.deref_mut.ensures.len, a, h.size);
      unneeded =
          let most = old.needed.len in
          let n : length c.clear.new.needed ≡ most = omega (arith, c.clear.ensures.size, c.deref_mut-2.ensures.len) in
          let rest = drop (length c.clear.new.needed) (take most (c.name_all.new.needed ++ drop (length c.name_all.new.needed) old.needed.items)) in
          let was = drop (length c.name_all.new.needed) old.needed.items in
          let m : length c.name_all.new.needed ≡ most = omega (arith, c.name_all.ensures.size, c.deref_mut.ensures.len) in
          let before = subst (λ (bs : List Bool). AreOnTrail bs old.trail.lits) (sym (c.deref_mut-2.ensures.value ∙ take_at c.name_all.new.needed was most m))
          c.in_ok-name_all.ensures.on_trail in
          subst NoneNeeded (sym (take_at c.clear.new.needed rest most n)) (c.clear.ensures.none before);
    }

pub returns-clause-good : goal.returns-clause-good
returns-clause-good c = λ all taken lits h.
    let old = c.args.self.now in
    let numbers : AreClauses old.vars all taken old.arena c.deref.result.now = subst (λ (ns : List ℕ). AreClauses old.vars all taken old.arena ns)
    (sym c.deref.ensures.value) h.clauses in
    let size : length c.deref_mut.result.now ≡ old.vars + 1 = ap (λ (bs : List Bool). length bs) c.deref_mut.ensures.value ∙ h.size in
    let done = go_done old.vars all taken old.arena old.numbers.items old.trail lits c.name_all.new.needed c.name_all.new.hints.items h.clauses h.denying
    (c.in_ok-name_all.ensures.goes_on old.vars all taken numbers size) in
    subst (λ (ns : List ℕ). IsLeanHint all lits ns) (sym (c.from_vec.ensures ∙ c.reverse.ensures.items)) done

pub name_all-requires-clause-unneeded : goal.name_all-requires-clause-unneeded
name_all-requires-clause-unneeded c = let s = c.requires.supposing in subst NoneNeeded (sym c.deref_mut.ensures.value) s.3.unneeded
