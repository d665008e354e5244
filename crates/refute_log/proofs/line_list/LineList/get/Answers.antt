use Rattle.std.proofs.Common.{◌<◌, length, sym, subst}
use Rattle.refute_log.specs.Told.{Lines}
use Rattle.refute_log.proofs.ListLemmas.{told_at}
use Rattle.refute_log.proofs.line_list.LineList.get.Goals as goal

pub returns-clause-told : goal.returns-clause-told
returns-clause-told c = told_at c.self.inside.lines.items c.args.i c.index.result.now c.self.invariant.told
    (subst (λ (ls : Lines). c.args.i < length ls) (sym c.self.view_is) c.requires) c.index.ensures
