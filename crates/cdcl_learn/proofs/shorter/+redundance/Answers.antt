use Rattle.std.proofs.Common.{◌<◌, ◌∙◌, Bool, true, List, length, get_or, set, sym, ap, subst, inl, inr, arith}
use Rattle.cdcl_learn.specs.Sight.{sight, clause_in}
use Rattle.cdcl_learn.specs.Cut.{is_seen}
use Rattle.cdcl_learn.specs.Shorter.{AreImplied}
use Rattle.cdcl_learn.proofs.CountLemmas.{seen_same}
use Rattle.cdcl_learn.proofs.TraceLemmas.{place_from_reason}
use Rattle.cdcl_learn.proofs.ShorterLemmas.{implied_one, false_there, reason_false, met_step, beside_wider, keeps_both, ne_differs, ne_same}
use Rattle.cdcl_learn.proofs.shorter.+redundance.Goals as goal
use Rattle.cdcl_learn.proofs.shorter.+redundance.Goals.{is_redundant-else-ne-via-then-ne+else-not-is_covered, is_redundant-else-ne-via-else-ne}

pub is_covered-is_founded-requires-clause-within : goal.is_covered-is_founded-requires-clause-within
is_covered-is_founded-requires-clause-within t c = false_there (sight c.args.arena.now c.args.trail.now) c.args.k c.var-v.result.0 c.requires.sound
    c.requires.falsified c.var-v.ensures.value

pub is_covered-is_refused-requires : goal.is_covered-is_refused-requires
is_covered-is_refused-requires t c =
    let le = false_there (sight c.args.arena.now c.args.trail.now) c.args.k c.var-v.result.0 c.requires.sound c.requires.falsified c.var-v.ensures.value in
    let tables = c.requires.tables in
    omega arith

pub is_covered-imply-requires : goal.is_covered-imply-requires
is_covered-imply-requires t c =
    let le = false_there (sight c.args.arena.now c.args.trail.now) c.args.k c.var-v.result.0 c.requires.sound c.requires.falsified c.var-v.ensures.value in
    let tables = c.requires.tables in
    let size = c.is_redundant.ensures.keeps.size in
    omega arith

pub is_covered-refuse-requires : goal.is_covered-refuse-requires
is_covered-refuse-requires t c =
    let le = false_there (sight c.args.arena.now c.args.trail.now) c.args.k c.var-v.result.0 c.requires.sound c.requires.falsified c.var-v.ensures.value in
    let tables = c.requires.tables in
    let size = c.is_redundant.ensures.keeps.size in
    omega arith

pub is_covered-returns-then-is_redundant-clause-implied : goal.is_covered-returns-then-is_redundant-clause-implied
is_covered-returns-then-is_redundant-clause-implied t c =
    let le = false_there (sight c.args.arena.now c.args.trail.now) c.args.k c.var-v.result.0 c.requires.sound c.requires.falsified c.var-v.ensures.value in
    let tables = c.requires.tables in
    let size = c.is_redundant.ensures.keeps.size in
    subst (λ (bs : List Bool). AreImplied (sight c.args.arena.now c.args.trail.now) c.args.seen.now bs) (sym c.imply.ensures)
    (implied_one (sight c.args.arena.now c.args.trail.now) c.args.seen.now c.is_redundant.new.found c.args.k c.var-v.result.0 c.var-v.ensures.value
    (omega arith) c.requires.sound.distinct c.requires.falsified (c.is_redundant.ensures.redundant c.if-is_redundant.true) c.is_redundant.ensures.implied)

pub is_covered-returns-then-is_redundant-clause-met : goal.is_covered-returns-then-is_redundant-clause-met
is_covered-returns-then-is_redundant-clause-met t c = λ _.
    let le = false_there (sight c.args.arena.now c.args.trail.now) c.args.k c.var-v.result.0 c.requires.sound c.requires.falsified c.var-v.ensures.value in
    let tables = c.requires.tables in
    let size = c.is_redundant.ensures.keeps.size in
    inr (inl (ap (λ (bs : List Bool). is_seen bs c.args.k.var) c.imply.ensures ∙ ap (is_seen (set c.is_redundant.new.found c.var-v.result.0 true))
    (sym c.var-v.ensures.value) ∙ seen_same c.is_redundant.new.found c.var-v.result.0 (omega arith)))

pub is_redundant-reason-requires : goal.is_redundant-reason-requires
is_redundant-reason-requires t c = false_there (sight c.args.arena.now c.args.trail.now) c.args.k c.var-v.result.0 c.requires.sound c.requires.falsified
    c.var-v.ensures.value

pub is_redundant-len_of-i-end-requires : goal.is_redundant-len_of-i-end-requires
is_redundant-len_of-i-end-requires t c = place_from_reason (sight c.args.arena.now c.args.trail.now) c.args.k c.var-v.result.0 c.in-Some.c.0 c.requires.sound
    c.requires.falsified.falsified c.var-v.ensures.value c.in-Some.ensures.value.0 c.in-Some.ensures.value.1

pub is_redundant-lit_of-m-requires-clause-clause : goal.is_redundant-lit_of-m-requires-clause-clause
is_redundant-lit_of-m-requires-clause-clause t c = place_from_reason (sight c.args.arena.now c.args.trail.now) c.args.k c.var-v.result.0 c.in-Some.c.0
    c.requires.sound c.requires.falsified.falsified c.var-v.ensures.value c.in-Some.ensures.value.0 c.in-Some.ensures.value.1

pub is_redundant-is_covered-requires : goal.is_redundant-is_covered-requires
is_redundant-is_covered-requires t c =
    let tables = c.requires.tables in
    let size = c.loop-i.invariant.keeps.size in
    let low = reason_false (sight c.args.arena.now c.args.trail.now) c.args.k c.lit_of-m.result c.var-v.result.0 c.in-Some.c.0 c.requires.sound
    c.requires.falsified c.var-v.ensures.value c.in-Some.ensures.value.0 c.in-Some.ensures.value.1
    (c.loop-i.i, omega arith, c.lit_of-m.ensures) (λ e. ne_differs c.var.result.0 c.var-v.result.0 c.ne.result c.ne.ensures c.if-ne.true
    (c.var.ensures.value ∙ e)) in
    (omega arith, (c.requires.sound, (c.requires.size, (omega arith, (low, c.loop-i.invariant.implied)))))

pub is_redundant-loop-i-preserved : goal.is_redundant-loop-i-preserved
is_redundant-loop-i-preserved t c =
    let s = sight c.args.arena.now c.args.trail.now in
    let within : c.loop-i.i < length (clause_in (sight c.args.arena.now c.args.trail.now) c.in-Some.c.0) = omega arith in
    elim c.else-ne.branch [
      | is_redundant-else-ne-via-then-ne+else-not-is_covered w ↦
          let keeps = w.is_covered.ensures.keeps in
          rw w.found-is (record {
            implied = w.is_covered.ensures.implied;
            keeps = keeps_both c.args.found.now c.loop-i.found w.is_covered.new.found c.loop-i.invariant.keeps keeps;
            met = met_step s c.args.seen.now w.is_covered.new.found (clause_in s c.in-Some.c.0) c.args.k.var c.loop-i.i c.lit_of-m.result within
                c.lit_of-m.ensures (inr (w.is_covered.ensures.met w.if-not-is_covered.false))
                (λ j d below. beside_wider s c.args.seen.now c.loop-i.found w.is_covered.new.found c.args.k.var (get_or (clause_in s c.in-Some.c.0) j d) keeps
                (c.loop-i.invariant.met j d below));
          })
      | is_redundant-else-ne-via-else-ne w ↦ rw w.found-is (record {
        implied = c.loop-i.invariant.implied;
        keeps = c.loop-i.invariant.keeps;
        met = met_step s c.args.seen.now c.loop-i.found (clause_in s c.in-Some.c.0) c.args.k.var c.loop-i.i c.lit_of-m.result within c.lit_of-m.ensures
            (inl (sym c.var.ensures.value ∙ ne_same c.var.result.0 c.var-v.result.0 c.ne.result c.ne.ensures w.if-ne.false
            ∙ c.var-v.ensures.value)) c.loop-i.invariant.met;
      })
    ]
