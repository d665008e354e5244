use Rattle.std.proofs.Common.{◌≡◌, refl, ◌∙◌, arith, take, get_or, sym, subst, List}
use Rattle.cnf_core.specs.Lit.{Literal}
use Rattle.cdcl_learn.specs.Sight.{sight}
use Rattle.cdcl_learn.specs.Shorter.{IsFalseBelow, IsShortenedBy}
use Rattle.cdcl_learn.proofs.ShorterLemmas.{keep_step, drop_step, keep_same, implied_none, shortened_none, shortened_wider}
use Rattle.cdcl_learn.proofs.shorter.keep_needed.Goals as goal
use Rattle.cdcl_learn.proofs.shorter.keep_needed.Goals.{then-not-is_redundant, else-not-is_redundant}

pub loop-i-init : goal.loop-i-init
loop-i-init c = record {
  fewer = omega arith;
  same = λ j d le. refl;
  tables = c.begin.ensures.size;
  implied = implied_none (sight c.args.arena.now c.args.trail.now) c.args.seen.now c.begin.new.self c.begin.ensures.none;
  shortened = shortened_none (sight c.args.arena.now c.args.trail.now) c.args.seen.now c.begin.new.self;
}

pub is_redundant-requires : goal.is_redundant-requires
is_redundant-requires c =
    let tables = c.requires.tables in
    let size = c.loop-i.invariant.tables in
    record {
      sound = c.requires.sound;
      size = c.requires.size;
      tables = omega arith;
      falsified = subst (IsFalseBelow (sight c.args.arena.now c.args.trail.now)) (sym
          (c.index-rest-i.is ∙ c.loop-i.invariant.same c.loop-i.i c.index-rest-i.result (omega arith)))
          (c.requires.falsified c.loop-i.i c.index-rest-i.result c.loop-i-test.true);
      implied = c.loop-i.invariant.implied;
    }

pub loop-i-preserved : goal.loop-i-preserved
loop-i-preserved c =
    let s = sight c.args.arena.now c.args.trail.now in
    let within = c.requires.within in
    let fewer = c.loop-i.invariant.fewer in
    let found = c.is_redundant.new.found in
    let before = shortened_wider s c.args.seen.now c.loop-i.found found _ _ c.is_redundant.ensures.keeps c.loop-i.invariant.shortened in
    let tables = c.is_redundant.ensures.keeps.size ∙ c.loop-i.invariant.tables in
    elim c.if-not-is_redundant.branch [
      | then-not-is_redundant w ↦ record {
        fewer = omega arith;
        same = λ j d le. subst (λ (ls : List Literal). get_or ls j d ≡ get_or c.args.rest.now j d) (sym w.rest-is)
            (keep_same c.args.rest.now c.loop-i.rest c.loop-i.i c.loop-i.left c.index-rest-i.result fewer c.loop-i.invariant.same j d le);
        tables = tables;
        implied = c.is_redundant.ensures.implied;
        shortened = rw (w.rest-is, w.left-is) (keep_step s c.args.seen.now found c.args.rest.now c.loop-i.rest c.loop-i.i c.loop-i.left c.args.len
            c.index-rest-i.result c.loop-i-test.true within c.loop-i.auto.rest fewer c.requires.distinct c.index-rest-i.is c.loop-i.invariant.same before);
      }
      | else-not-is_redundant w ↦ record {
        fewer = omega arith;
        same = λ j d le. subst (λ (ls : List Literal). get_or ls j d ≡ get_or c.args.rest.now j d) (sym w.rest-is) (c.loop-i.invariant.same j d (omega arith));
        tables = tables;
        implied = c.is_redundant.ensures.implied;
        shortened = rw (w.rest-is, w.left-is) (drop_step s c.args.seen.now found c.args.rest.now c.loop-i.rest c.loop-i.i c.loop-i.left c.index-rest-i.result
            (omega arith) c.index-rest-i.is c.loop-i.invariant.same (c.is_redundant.ensures.redundant w.if-not-is_redundant.false) before);
      }
    ]

pub returns-clause-shortened : goal.returns-clause-shortened
returns-clause-shortened c =
    let z : c.loop-i.i ≡ c.args.len = (let a = c.loop-i-test.false in let b = c.loop-i.auto.i-end in omega arith) in
    record {
      implied = c.loop-i.found;
      follow = c.loop-i.invariant.implied;
      short = subst (λ n. IsShortenedBy (sight c.args.arena.now c.args.trail.now) c.args.seen.now c.loop-i.found (take n c.args.rest.now)
          (take c.loop-i.left c.loop-i.rest)) z c.loop-i.invariant.shortened;
    }
