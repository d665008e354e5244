use Rattle.std.proofs.Common.{subst}
use Rattle.std.specs.Prelude.{OnOk}
use Rattle.watch_arena.specs.Trail.{Marks}
use Rattle.watch_arena.specs.Arena.{Attached, attached_of, AreWatched, AreReasoned, MayBeWatched, IsMoreText}
use Rattle.watch_arena.proofs.ArenaLemmas.{arena_attached, answered, are_attached}
use Rattle.watch_arena.proofs.arena.Arena.attach.Goals as goal

pub returns-clause-others : goal.returns-clause-others
returns-clause-others c =
    let x = answered c.self.inside.vars c.self.inside.room c.self.inside.visits c.self.inside.words.items c.self.inside.places.items c.self.inside.rows
    c.attach.new.words.items c.attach.new.places.items c.args.lits.now c.attach.result
    c.self.invariant c.attach.ensures.others c.attach.ensures.places c.attach.ensures.clause c.attach.ensures.words c.attach.ensures.placed in
    subst (λ (a : Attached). IsMoreText a (attached_of c.self.inside.vars c.self.inside.room c.attach.new.words.items c.attach.new.places.items
    c.self.inside.visits)) c.self.view_is x.others

pub returns-clause-watched : goal.returns-clause-watched
returns-clause-watched c =
    let x = answered c.self.inside.vars c.self.inside.room c.self.inside.visits c.self.inside.words.items c.self.inside.places.items c.self.inside.rows
    c.attach.new.words.items c.attach.new.places.items c.args.lits.now c.attach.result
    c.self.invariant c.attach.ensures.others c.attach.ensures.places c.attach.ensures.clause c.attach.ensures.words c.attach.ensures.placed in
    subst (λ (a : Attached). OnOk c.attach.result ((m : Marks) → AreWatched a m → MayBeWatched m c.args.lits.now → AreWatched
    (attached_of c.self.inside.vars c.self.inside.room c.attach.new.words.items c.attach.new.places.items c.self.inside.visits) m)) c.self.view_is x.watched

pub returns-clause-reasoned : goal.returns-clause-reasoned
returns-clause-reasoned c =
    let x = answered c.self.inside.vars c.self.inside.room c.self.inside.visits c.self.inside.words.items c.self.inside.places.items c.self.inside.rows
    c.attach.new.words.items c.attach.new.places.items c.args.lits.now c.attach.result
    c.self.invariant c.attach.ensures.others c.attach.ensures.places c.attach.ensures.clause c.attach.ensures.words c.attach.ensures.placed in
    subst (λ (a : Attached). (m : Marks) → AreReasoned a m → AreReasoned (attached_of c.self.inside.vars c.self.inside.room c.attach.new.words.items
    c.attach.new.places.items c.self.inside.visits) m) c.self.view_is x.reasoned

pub returns-clause-attached : goal.returns-clause-attached
returns-clause-attached c =
    let a = c.self.inside in
    let new = c.attach.new in
    are_attached a.vars a.room new.words.items new.places.items new.rows a.visits
    (arena_attached a.vars a.room a.words.items a.places.items a.rows a.visits c.args.trail.now.vars c.args.self.now
    new.words.items new.places.items new.rows c.self.invariant c.self.view_is c.requires.vars c.attach.ensures.filed)
