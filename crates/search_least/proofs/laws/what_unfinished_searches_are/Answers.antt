use Rattle.search_least.proofs.FinalLemmas.{settled_from, full_from, count_from, open_from}
use Rattle.search_least.proofs.laws.what_unfinished_searches_are.Goals as goal

pub returns : goal.returns
returns c = record {
  settled = settled_from;
  full = full_from;
  spent = count_from;
  still_open = open_from;
}
