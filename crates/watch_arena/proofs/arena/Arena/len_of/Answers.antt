use Rattle.std.proofs.Common.{rules, arith, ◌<◌, length, subst}
use Rattle.watch_arena.specs.Arena.{Attached, AreAttached}
use Rattle.watch_arena.proofs.WordLemmas.{bounds}
use Rattle.watch_arena.proofs.ArenaLemmas.{place_in, len_is, are_attached}
use Rattle.watch_arena.proofs.arena.Arena.len_of.Goals as goal

pub index-requires : goal.index-requires
index-requires c =
    let b = bounds c.self.inside.vars c.self.inside.words.items c.self.inside.places.items c.args.clause.0 c.self.invariant.filed.store
    (place_in _ _ _ _ _ c.args.self.now c.args.clause.0 c.self.view_is c.requires) in
    let short : c.args.clause.0 < length c.self.inside.words.items = omega arith in
    search (rules, short)

pub returns-clause-value : goal.returns-clause-value
returns-clause-value c =
    let b = bounds c.self.inside.vars c.self.inside.words.items c.self.inside.places.items c.args.clause.0 c.self.invariant.filed.store
    (place_in _ _ _ _ _ c.args.self.now c.args.clause.0 c.self.view_is c.requires) in
    let short : c.args.clause.0 < length c.self.inside.words.items = omega arith in
    len_is _ _ _ _ _ c.args.self.now c.args.clause.0 c.index.result.now c.self.view_is short c.index.ensures

pub returns-clause-attached : goal.returns-clause-attached
returns-clause-attached c = subst (λ (a : Attached). AreAttached a) c.self.view_is (are_attached _ _ _ _ _ c.self.inside.visits c.self.invariant)
