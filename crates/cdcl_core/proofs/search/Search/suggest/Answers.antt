use Rattle.std.proofs.Common.{◌≡◌, ◌∙◌, length, drop, ap}
use Rattle.std.proofs.lemmas.List.{take_at}
use Rattle.cdcl_core.proofs.search.Search.suggest.Goals as goal

pub returns-clause-idle : goal.returns-clause-idle
returns-clause-idle c =
    let s = c.requires.idle.search in
    let f = s.fitted in
    let len : length c.suggest.new.phases ≡ c.args.self.now.phases.len = c.suggest.auto.phases ∙ c.deref_mut.ensures.len in
    let items : length c.suggest.new.phases ≡ length c.args.self.now.phases.items = c.suggest.auto.phases ∙ ap length c.deref_mut.ensures.value in
    record {
      search = record {
        fitted = record {
          room_limit = f.room_limit;
          heap_size = f.heap_size;
          analyser_size = f.analyser_size;
          phases_size = ap length
              (take_at c.suggest.new.phases (drop (length c.suggest.new.phases) c.args.self.now.phases.items) c.args.self.now.phases.len len) ∙ items
              ∙ f.phases_size;
          arena_limit = f.arena_limit;
          sum = f.sum;
          within = f.within;
        };
        solving = s.solving;
        offered = s.offered;
      };
      level = c.requires.idle.level;
    }
