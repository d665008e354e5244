use Rattle.std.proofs.Common.{◌≡◌, ◌≤◌, ◌∙◌, ap, inl, inr, refl, length, rules}
use Rattle.std.specs.Prelude.{flat_map}
use Rattle.std.proofs.lemmas.List.{nil_from_length}
use Rattle.cnf_core.specs.Formula.{Cnf}
use Rattle.refute_log.specs.Log.{given}
use Rattle.log_check.specs.Expectation.{expectation}
use Rattle.log_trim.proofs.CompletingLemmas.{fewer, completed, not_none}
use Rattle.log_trim.proofs.completing.fit_by.Goals as goal

pub returns-then-not-begin_expected : goal.returns-then-not-begin_expected
returns-then-not-begin_expected c = λ y order cap is fits a. c.if-not-begin_expected.ensures y order cap is a.front

pub complete-requires : goal.complete-requires
complete-requires c =
    let (y, order, cap, is) = c.requires in
    let are : c.formula.result.now.clauses ≡ flat_map given (expectation y order cap).lines = ap (λ (f : Cnf). f.clauses) c.formula.ensures ∙ is.clauses in
    fewer (expectation y order cap) c.args.lines.now c.formula.result.now.clauses (c.if-not-begin_expected.ensures y order cap is) are

pub returns-in_ok-complete : goal.returns-in_ok-complete
returns-in_ok-complete c = λ y order cap is fits.
    let e = expectation y order cap in
    let begins = c.if-not-begin_expected.ensures y order cap is in
    let are : c.formula.result.now.clauses ≡ flat_map given e.lines = ap (λ (f : Cnf). f.clauses) c.formula.ensures ∙ is.clauses in
    let some : 1 ≤ length c.args.wanted.now = search rules in
    record {
      front = begins;
      within = λ some. fits;
      room = c.if-not-have_room.ensures;
      completed = inr (
        not_none c.args.wanted.now some,
        completed e c.args.lines.now c.complete.new.lines c.formula.result.now.clauses begins are c.in_ok-complete.ensures,
      );
    }

pub returns-else-not-is_empty : goal.returns-else-not-is_empty
returns-else-not-is_empty c = λ y order cap is fits.
    let none : length c.args.wanted.now ≡ 0 = search rules in
    record {
      front = c.if-not-begin_expected.ensures y order cap is;
      within = λ some. fits;
      room = c.if-not-have_room.ensures;
      completed = inl (nil_from_length c.args.wanted.now none, refl);
    }
