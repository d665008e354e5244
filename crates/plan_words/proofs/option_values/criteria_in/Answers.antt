use Rattle.std.proofs.Common.{length, ap, sym, ◌∙◌, eqb-true, arith, lit<}
use Rattle.std.proofs.lemmas.List.{length_push}
use Rattle.std.proofs.lemmas.Iterator.Splits.{YieldsList-from_str_split}
use Rattle.std.proofs.lemmas.Iterator.Consumers.{YieldsList-turn, YieldsList-end}
use Rattle.plan_words.proofs.OrderTextLemmas.{wrong_word, too_many_words, one_word_more, all_words}
use Rattle.plan_words.proofs.option_values.criteria_in.Goals as goal

pub returns-in_default : goal.returns-in_default
returns-in_default c list some few =
    let piece = YieldsList-turn (YieldsList-from_str_split 44 c.args.text.now (lit< tt) (cc) (cc) (cc)) c.loop-word.yielded _ c.loop-word.yielded_by _ _
    c.in-Some.word c.in-Some.is c.next.ensures.steps in
    wrong_word c.args.text.now c.in-Some.word.now (length c.loop-word.yielded) piece (λ d e. c.in_default.ensures d (c.as_bytes.ensures.value ∙ e)) list some

pub returns-then-is_full : goal.returns-then-is_full
returns-then-is_full c list some few =
    let piece = YieldsList-turn (YieldsList-from_str_split 44 c.args.text.now (lit< tt) (cc) (cc) (cc)) c.loop-word.yielded _ c.loop-word.yielded_by _ _
    c.in-Some.word c.in-Some.is c.next.ensures.steps in
    too_many_words c.args.text.now c.in-Some.word.now (length c.loop-word.yielded) piece
    (let full = eqb-true (length c.loop-word.list.items) 4 (sym c.is_full.ensures.value ∙ c.if-is_full.true) in omega (arith, full)) list some few

pub loop-word-preserved : goal.loop-word-preserved
loop-word-preserved c =
    let piece = YieldsList-turn (YieldsList-from_str_split 44 c.args.text.now (lit< tt) (cc) (cc) (cc)) c.loop-word.yielded _ c.loop-word.yielded_by _ _
    c.in-Some.word c.in-Some.is c.next.ensures.steps in
    let one = length_push c.loop-word.yielded c.in-Some.word in
    let two = length_push c.loop-word.list.items c.in-Some-read_criterion.criterion in
    let put = ap length c.push.ensures.items in
    record {
      read = rw one (one_word_more c.args.text.now c.in-Some.word.now (length c.loop-word.yielded) c.loop-word.list.items c.push.new.self.items
          c.in-Some-read_criterion.criterion piece (sym c.as_bytes.ensures.value ∙ c.in-Some-read_criterion.ensures) c.loop-word.invariant.read
          c.push.ensures.items);
      count = omega (arith, one, two, put);
    }

pub returns : goal.returns
returns c =
    let end = YieldsList-end (YieldsList-from_str_split 44 c.args.text.now (lit< tt) (cc) (cc) (cc)) c.loop-word.yielded _ c.loop-word.yielded_by _ _
    c.in-None.is c.next.ensures.steps in
    all_words c.args.text.now (length c.loop-word.yielded) c.loop-word.list.items end.1 c.loop-word.invariant.read
