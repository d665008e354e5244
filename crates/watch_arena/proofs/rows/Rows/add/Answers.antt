use Rattle.std.proofs.Common.{◌++◌, ◌∙◌, List, replicate, sym, subst, ap}
use Rattle.watch_arena.specs.declared.rows.Row.{Row}
use Rattle.watch_arena.specs.declared.rows.Space.{Space}
use Rattle.watch_arena.specs.Rows.{Rowed, AreRows, no_row, no_space, rowed_of, more_rows}
use Rattle.watch_arena.proofs.RoomLemmas.{added_rows, added_view}
use Rattle.watch_arena.proofs.rows.Rows.add.Goals as goal

pub invariant_of-self-in-Ok : goal.invariant_of-self-in-Ok
invariant_of-self-in-Ok c =
    subst (λ (rs : List Row). AreRows rs c.lengthen-2.new.table.items c.self.inside.entries.items) (sym c.in_ok-lengthen.ensures.more)
    (subst (λ (ss : List Space). AreRows (c.self.inside.rows.items ++ replicate c.args.n no_row) ss c.self.inside.entries.items) (sym c.in-Ok.ensures.more)
    (added_rows c.self.inside.rows.items c.self.inside.spaces.items c.self.inside.entries.items c.args.n c.self.invariant))

pub returns-in-Ok-clause-more : goal.returns-in-Ok-clause-more
returns-in-Ok-clause-more c =
    ap (λ (rs : List Row). rowed_of rs c.lengthen-2.new.table.items c.self.inside.entries.items) c.in_ok-lengthen.ensures.more
    ∙ ap (λ (ss : List Space). rowed_of (c.self.inside.rows.items ++ replicate c.args.n no_row) ss c.self.inside.entries.items) c.in-Ok.ensures.more
    ∙ added_view c.self.inside.rows.items c.self.inside.spaces.items c.self.inside.entries.items c.args.n c.self.invariant
    ∙ ap (λ (r : Rowed). more_rows r c.args.n) c.self.view_is
