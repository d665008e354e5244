use Rattle.std.proofs.Common.{false, refl}
use Rattle.refute_check.specs.Entries.{no_entries}
use Rattle.refute_check.proofs.AddLemmas.{var_added, pushed_twice}
use Rattle.refute_check.proofs.tables.Tables.add_var.Goals as goal

pub returns : goal.returns
returns c =
    var_added c.args.formula.now.vars c.args.formula.now.clauses c.args.self.now (record {
      occurrences = c.push-2.new.self;
      counts = c.args.self.now.counts;
      noted = c.args.self.now.noted;
      truth = c.push-4.new.self;
      trail = c.args.self.now.trail;
      ahead = c.args.self.now.ahead;
    })
    c.vars-vars.ensures.formula.there c.requires.settled
    (pushed_twice c.args.self.now.occurrences.items c.push.new.self.items c.push-2.new.self.items c.new.result c.new-2.result no_entries
    c.in_ok-push.ensures.items c.in_ok-push-2.ensures.items c.new.ensures c.new-2.ensures)
    (pushed_twice c.args.self.now.truth.items c.push-3.new.self.items c.push-4.new.self.items false false false c.in_ok-push-3.ensures.items
    c.in_ok-push-4.ensures.items refl refl)
    refl refl refl
