use Rattle.std.proofs.Common.{◌≡◌, true, false, sym, ap, ◌∙◌, string_bytes, length}
use Rattle.plan_words.specs.Arguments.{is_option}
use Rattle.plan_words.proofs.ArgumentLemmas.{setting_taken, setting_place, name_taken, name_place}
use Rattle.plan_words.proofs.arguments.arguments_in.Goals as goal

pub loop-rest-preserved-then-is_option : goal.loop-rest-preserved-then-is_option
loop-rest-preserved-then-is_option c =
    let option : is_option (string_bytes c.front-item.result) ≡ true = ap is_option (sym c.as_str.ensures.value) ∙ sym c.is_option.ensures
    ∙ c.if-is_option.true in
    record {
      cut =
          setting_taken c.loop-rest.list.items c.push.new.self.items c.loop-rest.position c.loop-rest.rest.now c.front-item.result c.in_ok-word.word
          c.in_ok-value.value c.in_ok-value.others.now c.in-len1-up.len_at_least c.front-item.is c.in_ok-word.ensures option c.in_ok-value.ensures.value
          c.in_ok-value.ensures.behind c.in_ok-push.ensures.items
          ∙ c.loop-rest.invariant.cut;
      place = setting_place c.loop-rest.position (length c.args.words.now) c.loop-rest.rest.now c.in_ok-value.others.now c.in-len1-up.len_at_least
          c.in_ok-value.ensures.behind c.loop-rest.invariant.place;
    }

pub loop-rest-preserved : goal.loop-rest-preserved
loop-rest-preserved c =
    let option : is_option (string_bytes c.front-item.result) ≡ false = ap is_option (sym c.as_str.ensures.value) ∙ sym c.is_option.ensures
    ∙ c.if-is_option.false in
    record {
      cut =
          name_taken c.loop-rest.list.items c.push-else-is_option.new.self.items c.loop-rest.position c.loop-rest.rest.now c.front-item.result c.in_ok-word.word
          c.in-len1-up.len_at_least c.front-item.is c.in_ok-word.ensures option c.in_ok-push-2.ensures.items
          ∙ c.loop-rest.invariant.cut;
      place = name_place c.loop-rest.position (length c.args.words.now) c.loop-rest.rest.now c.in-len1-up.len_at_least c.loop-rest.invariant.place;
    }
