use Rattle.cnf_laws.proofs.RankLemmas.{rank_below, rank_once, rank_rises}
use Rattle.drawing_cnf.proofs.laws.nodes_lie_from_west_to_east.Goals as goal

pub returns-clause-within : goal.returns-clause-within
returns-clause-within c = rank_below

pub returns-clause-once : goal.returns-clause-once
returns-clause-once c = rank_once

pub returns-clause-rising : goal.returns-clause-rising
returns-clause-rising c = rank_rises
