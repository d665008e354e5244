use Rattle.refute_check.proofs.CheckerLemmas.{answer_ok, answer_new_var, answer_wrong_query, answer_room, answer_not_implied, answer_not_new, answer_refused}
use Rattle.refute_check.proofs.CheckerLemmas.{answer_finite, answer_stays}
use Rattle.refute_check.proofs.checker.Checker.feed.Goals as goal

pub returns-in_default-2-clause-ok : goal.returns-in_default-2-clause-ok
returns-in_default-2-clause-ok c = answer_ok c.args.self.now c.judge-judged.new.self c.args.line.now c.judge-judged.result c.judge-judged.ensures

pub returns-in_default-2-clause-new_var : goal.returns-in_default-2-clause-new_var
returns-in_default-2-clause-new_var c = answer_new_var c.args.self.now c.judge-judged.new.self c.args.line.now c.judge-judged.result c.judge-judged.ensures

pub returns-in_default-2-clause-wrong_query : goal.returns-in_default-2-clause-wrong_query
returns-in_default-2-clause-wrong_query c = answer_wrong_query c.args.self.now c.judge-judged.new.self c.args.line.now c.judge-judged.result
    c.judge-judged.ensures

pub returns-in_default-2-clause-room : goal.returns-in_default-2-clause-room
returns-in_default-2-clause-room c = answer_room c.args.self.now c.judge-judged.new.self c.args.line.now c.judge-judged.result c.judge-judged.ensures

pub returns-in_default-2-clause-not_implied : goal.returns-in_default-2-clause-not_implied
returns-in_default-2-clause-not_implied c = answer_not_implied c.args.self.now c.judge-judged.new.self c.args.line.now c.judge-judged.result
    c.judge-judged.ensures

pub returns-in_default-2-clause-not_new : goal.returns-in_default-2-clause-not_new
returns-in_default-2-clause-not_new c = answer_not_new c.args.self.now c.judge-judged.new.self c.args.line.now c.judge-judged.result c.judge-judged.ensures

pub returns-in_default-2-clause-refused : goal.returns-in_default-2-clause-refused
returns-in_default-2-clause-refused c = answer_refused c.args.self.now c.judge-judged.new.self c.args.line.now c.judge-judged.result c.judge-judged.ensures

pub returns-in_default-2-clause-finite : goal.returns-in_default-2-clause-finite
returns-in_default-2-clause-finite c = answer_finite c.args.self.now c.judge-judged.new.self c.args.line.now c.judge-judged.result c.judge-judged.ensures

pub returns-in_default-2-clause-stays : goal.returns-in_default-2-clause-stays
returns-in_default-2-clause-stays c = answer_stays c.args.self.now c.judge-judged.new.self c.args.line.now c.judge-judged.result c.judge-judged.ensures
