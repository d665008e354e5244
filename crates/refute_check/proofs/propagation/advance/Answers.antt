use Rattle.std.proofs.Common.{◌≡◌, ◌∙◌, ◌++◌, ◌≤◌, ◌<◌, ℕ, List, length, get_or, take, refl, sym, ap, subst, arith}
use Rattle.std.specs.Prelude.{All}
use Rattle.std.proofs.lemmas.Bool.{true≢false}
use Rattle.cnf_core.specs.Lit.{Literal, negate, word_of}
use Rattle.cnf_core.specs.Clause.{IsThere}
use Rattle.cnf_core.proofs.TrailLemmas.{word_below, front_lacks}
use Rattle.cnf_core.proofs.GrowthLemmas.{grows_more}
use Rattle.cnf_core.specs.Times.{times}
use Rattle.refute_check.specs.declared.places.Rest.{Rest}
use Rattle.refute_check.specs.Entries.{Entries, IsShort, shorts_from}
use Rattle.refute_check.specs.Tables.{CountedUp, AreQuietNow, IsRestQuiet}
use Rattle.refute_check.proofs.AdvanceLemmas.{counted_next, counted_still, quiet_next, advance_places, negated_there, false_at}
use Rattle.refute_check.proofs.FalseCountLemmas.{down_enough, places_there}
use Rattle.refute_check.proofs.NotedLemmas.{notes_none, notes_places}
use Rattle.refute_check.proofs.ShortLemmas.{shorts_are}
use Rattle.refute_check.proofs.propagation.advance.Goals as goal
use Rattle.refute_check.proofs.propagation.advance.Goals.{After-word}

negated : (c : After-word) → IsThere c.args.formula.now.vars (negate c.index.result.now)
negated c = negated_there c.args.formula.now.vars c.args.trail.now.items c.args.front c.index.result.now c.requires.counted.table.there c.requires.there
    (sym c.index.ensures)

pub bounds-occurrences-word : goal.bounds-occurrences-word
bounds-occurrences-word c =
    let is : c.word.result ≡ word_of (negate c.index.result.now) = c.word.ensures.value ∙ ap word_of c.negated-l.ensures in
    omega (arith, is, word_below c.args.formula.now.vars (negate c.index.result.now) (negated c), c.requires.occurrences.size)

pub look_beside_each-requires-clause-shorts : goal.look_beside_each-requires-clause-shorts
look_beside_each-requires-clause-shorts c =
    let clauses = c.args.formula.now.clauses in
    let is = c.shorts.ensures ∙ ap (λ (e : Entries). e.shorts) (advance_places c.args.formula.now.vars c.args.formula.now.clauses c.args.occurrences.now
    c.args.trail.now.items c.args.front c.index.result.now c.negated-l.result c.word.result c.index-occurrences-word.result c.requires.occurrences
    c.requires.counted.table.there c.requires.there c.index.ensures c.negated-l.ensures c.word.ensures.value c.index-occurrences-word.is) in
    subst (λ (k : Literal). All (IsShort clauses k) c.shorts.result.now) (sym c.negated-l.ensures)
    (subst (λ (rs : List Rest). All (IsShort clauses (negate c.index.result.now)) rs) (sym is) (shorts_are clauses (negate c.index.result.now)))

pub look_beside_each-requires-clause-false_now : goal.look_beside_each-requires-clause-false_now
look_beside_each-requires-clause-false_now c = false_at c.args.trail.now.items c.args.front c.index.result.now c.negated-l.result c.requires.there
    c.index.ensures c.negated-l.ensures

pub count_each-requires-clause-there : goal.count_each-requires-clause-there
count_each-requires-clause-there c =
    let is = c.counted-counted.ensures ∙ ap (λ (e : Entries). e.counted) (advance_places c.args.formula.now.vars c.args.formula.now.clauses
    c.args.occurrences.now
    c.args.trail.now.items c.args.front c.index.result.now c.negated-l.result c.word.result c.index-occurrences-word.result c.requires.occurrences
    c.requires.counted.table.there c.requires.there c.index.ensures c.negated-l.ensures c.word.ensures.value c.index-occurrences-word.is) in
    subst (λ (ns : List ℕ). All (λ n. n < length c.args.formula.now.clauses) ns) (sym is) (places_there c.args.formula.now.clauses (negate c.index.result.now))

pub count_each-requires-clause-enough : goal.count_each-requires-clause-enough
count_each-requires-clause-enough c =
    let is = c.counted-counted.ensures ∙ ap (λ (e : Entries). e.counted) (advance_places c.args.formula.now.vars c.args.formula.now.clauses
    c.args.occurrences.now
    c.args.trail.now.items c.args.front c.index.result.now c.negated-l.result c.word.result c.index-occurrences-word.result c.requires.occurrences
    c.requires.counted.table.there c.requires.there c.index.ensures c.negated-l.ensures c.word.ensures.value c.index-occurrences-word.is) in
    subst (λ (ns : List ℕ). All (λ n. times ns n ≤ get_or c.args.counts.now n 0) ns) (sym is)
    (down_enough c.args.formula.now.clauses (take c.args.front c.args.trail.now.items) c.index.result.now c.args.counts.now
    c.vars-formula.ensures.formula.distinct
    (front_lacks c.args.trail.now.items c.args.front c.index.result.now c.requires.counted.table.distinct c.requires.there (sym c.index.ensures))
    c.requires.counted.right)

pub returns-then-branch-clause-counted : goal.returns-then-branch-clause-counted
returns-then-branch-clause-counted c =
    counted_still c.args.formula.now.vars c.args.formula.now.clauses c.args.truth.now c.look_beside_each.new.truth c.args.trail.now.items
    c.look_beside_each.new.trail.items c.args.counts.now c.args.front c.requires.counted c.in_ok-look_beside_each.ensures.grows
    c.in_ok-look_beside_each.ensures.trail

pub returns-clause-grows : goal.returns-clause-grows
returns-clause-grows c = grows_more c.args.formula.now.clauses c.args.trail.now.items c.look_beside_each.new.trail.items c.count_each.new.trail.items
    c.in_ok-look_beside_each.ensures.grows c.in_ok-found.ensures.grows

pub returns-clause-counted : goal.returns-clause-counted
returns-clause-counted c =
    let is = c.counted-counted.ensures ∙ ap (λ (e : Entries). e.counted) (advance_places c.args.formula.now.vars c.args.formula.now.clauses
    c.args.occurrences.now
    c.args.trail.now.items c.args.front c.index.result.now c.negated-l.result c.word.result c.index-occurrences-word.result c.requires.occurrences
    c.requires.counted.table.there c.requires.there c.index.ensures c.negated-l.ensures c.word.ensures.value c.index-occurrences-word.is) in
    counted_next c.args.formula.now.vars c.args.formula.now.clauses c.args.truth.now c.count_each.new.truth c.args.trail.now.items c.count_each.new.trail.items
    c.args.counts.now c.count_each.new.counts c.args.front c.index.result.now
    c.requires.there (sym c.index.ensures) c.vars-formula.ensures.formula.distinct c.requires.counted (returns-clause-grows c) c.in_ok-found.ensures.trail
    c.count_each.auto.counts
    (subst (λ (ns : List ℕ). CountedUp ns c.count_each.new.counts c.args.counts.now) is c.in_ok-found.ensures.counted)

pub returns-clause-quiet : goal.returns-clause-quiet
returns-clause-quiet c = λ none.
    let clauses = c.args.formula.now.clauses in
    let old = c.args.trail.now.items in
    let mid = c.look_beside_each.new.trail.items in
    let new = c.count_each.new.trail.items in
    let shorts = c.shorts.ensures ∙ ap (λ (e : Entries). e.shorts) (advance_places c.args.formula.now.vars c.args.formula.now.clauses c.args.occurrences.now
    c.args.trail.now.items c.args.front c.index.result.now c.negated-l.result c.word.result c.index-occurrences-word.result c.requires.occurrences
    c.requires.counted.table.there c.requires.there c.index.ensures c.negated-l.ensures c.word.ensures.value c.index-occurrences-word.is) in
    let counted = c.counted-counted.ensures ∙ ap (λ (e : Entries). e.counted) (advance_places c.args.formula.now.vars c.args.formula.now.clauses
    c.args.occurrences.now
    c.args.trail.now.items c.args.front c.index.result.now c.negated-l.result c.word.result c.index-occurrences-word.result c.requires.occurrences
    c.requires.counted.table.there c.requires.there c.index.ensures c.negated-l.ensures c.word.ensures.value c.index-occurrences-word.is) in
    quiet_next clauses old mid new c.args.counts.now c.args.front c.index.result.now c.requires.there (sym c.index.ensures)
    c.vars-formula.ensures.formula.distinct c.requires.counted.table.distinct
    c.in_ok-look_beside_each.ensures.grows c.in_ok-found.ensures.grows c.requires.quiet c.requires.counted.right
    (subst (λ (k : Literal). All (IsRestQuiet k old mid) (shorts_from clauses (negate c.index.result.now))) c.negated-l.ensures
    (subst (λ (rs : List Rest). All (IsRestQuiet c.negated-l.result old mid) rs) shorts (c.in_ok-look_beside_each.ensures.quiet c.if-branch.false)))
    (subst (λ (ns : List ℕ). AreQuietNow clauses ns c.args.counts.now mid new) counted (c.in_ok-found.ensures.quiet none))

pub look_beside_each-requires-clause-trail : goal.look_beside_each-requires-clause-trail
look_beside_each-requires-clause-trail c = c.requires.counted.table

pub returns-then-branch-clause-grows : goal.returns-then-branch-clause-grows
returns-then-branch-clause-grows c = c.in_ok-look_beside_each.ensures.grows

pub returns-then-branch-clause-falsified : goal.returns-then-branch-clause-falsified
returns-then-branch-clause-falsified c = λ _. c.in_ok-look_beside_each.ensures.falsified c.if-branch.true

pub returns-then-branch-clause-next : goal.returns-then-branch-clause-next
returns-then-branch-clause-next c = λ e. absurd (true≢false e)

pub returns-then-branch-clause-quiet : goal.returns-then-branch-clause-quiet
returns-then-branch-clause-quiet c = λ e. absurd (true≢false e)

pub count_each-requires-clause-size : goal.count_each-requires-clause-size
count_each-requires-clause-size c = c.requires.counted.right.size

pub count_each-requires-clause-trail : goal.count_each-requires-clause-trail
count_each-requires-clause-trail c = c.in_ok-look_beside_each.ensures.trail

pub returns-clause-falsified : goal.returns-clause-falsified
returns-clause-falsified c = c.in_ok-found.ensures.falsified

pub returns-clause-next : goal.returns-clause-next
returns-clause-next c = λ _. refl

pub returns-then-branch-clause-noted : goal.returns-then-branch-clause-noted
returns-then-branch-clause-noted c = notes_none c.args.formula.now.clauses c.args.noted.now.items c.args.counts.now

pub returns-clause-noted : goal.returns-clause-noted
returns-clause-noted c =
    let is = c.counted-counted.ensures ∙ ap (λ (e : Entries). e.counted) (advance_places c.args.formula.now.vars c.args.formula.now.clauses
    c.args.occurrences.now
    c.args.trail.now.items c.args.front c.index.result.now c.negated-l.result c.word.result c.index-occurrences-word.result c.requires.occurrences
    c.requires.counted.table.there c.requires.there c.index.ensures c.negated-l.ensures c.word.ensures.value c.index-occurrences-word.is) in
    notes_places c.args.formula.now.clauses (negate c.index.result.now) c.args.noted.now.items c.extend_from_slice.new.self.items c.args.counts.now
    c.count_each.new.counts (c.in_ok-extend_from_slice.ensures.items ∙ ap (λ (ns : List ℕ). c.args.noted.now.items ++ ns) is)
    (subst (λ (ns : List ℕ). CountedUp ns c.count_each.new.counts c.args.counts.now) is c.in_ok-found.ensures.counted)
