use Rattle.std.proofs.Common.{◌-◌, refl, arith}
use Rattle.cnf_core.specs.declared.limits.TheConstants.{VARS}
use Rattle.std.proofs.lemmas.List.Elements.{All-weaker}
use Rattle.log_trim.specs.HintRoom.{IsLineWithin}
use Rattle.log_trim.proofs.HintedLemmas.{within_more}
use Rattle.log_trim.proofs.hint_room.check_room.Goals.{else-greatest_of-via-then-greatest_of+else-have_words, else-greatest_of-via-else-greatest_of}
use Rattle.log_trim.proofs.hint_room.check_room.Goals as goal

pub returns-then-have_words-clause-within : goal.returns-then-have_words-clause-within
returns-then-have_words-clause-within c = record {
  vars =
      All-weaker (IsLineWithin c.greatest_of.result) (IsLineWithin (VARS - 2))
      (λ k h. within_more c.greatest_of.result (VARS - 2) k c.if-greatest_of.true h) c.args.lines.now c.greatest_of.ensures.within;
  words = c.if-have_words.ensures;
}

pub returns-else-greatest_of-clause-fault : goal.returns-else-greatest_of-clause-fault
returns-else-greatest_of-clause-fault c = elim c.else-greatest_of.branch [
  | else-greatest_of-via-then-greatest_of+else-have_words w ↦ (
    refl,
    λ allow. let words = allow.words in omega (arith, words, w.if-have_words.ensures),
  )
  | else-greatest_of-via-else-greatest_of w ↦ (
    refl,
    λ allow. let low = c.greatest_of.ensures.least (VARS - 2) allow.vars in omega (arith, low, w.if-greatest_of.false),
  )
]
