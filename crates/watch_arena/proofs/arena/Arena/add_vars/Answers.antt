use Rattle.std.proofs.Common.{◌≤◌, ◌+◌, ◌*◌, sym, subst}
use Rattle.cnf_core.specs.declared.limits.TheConstants.{VARS}
use Rattle.watch_arena.specs.Rows.{Rowed}
use Rattle.watch_arena.specs.Arena.{Attached, AreWatched, IsArena}
use Rattle.watch_arena.proofs.ArenaLemmas.{arena_spread}
use Rattle.watch_arena.proofs.arena.Arena.add_vars.Goals as goal

pub invariant_of-self-2 : goal.invariant_of-self-2
invariant_of-self-2 c =
    let a = c.self.inside in
    subst (λ (r : Rowed). IsArena (a.vars + c.args.n) a.room a.words.items a.places.items r) (sym c.in_ok-add.ensures.more)
    (arena_spread a.vars a.room c.args.n a.words.items a.places.items a.rows c.self.invariant
    (subst (λ (x : Attached). x.vars + c.args.n ≤ VARS) (sym c.self.view_is) c.requires))

pub returns-clause-watched : goal.returns-clause-watched
returns-clause-watched c = λ m w. let v = subst (λ (a : Attached). AreWatched a m) (sym c.self.view_is) w in record { first = v.first; second = v.second }
