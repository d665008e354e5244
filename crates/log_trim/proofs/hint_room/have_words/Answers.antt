use Rattle.cnf_core.specs.declared.limits.TheConstants.{ROOM}
use Rattle.log_trim.proofs.HintRoomLemmas.{words_more, words_missed}
use Rattle.log_trim.proofs.hint_room.have_words.Goals as goal

pub loop-i-preserved : goal.loop-i-preserved
loop-i-preserved c = words_more ROOM c.loop-i.room c.in-Some.left c.args.lines.now c.loop-i.i c.get.result.now c.get.ensures.value c.loop-i.invariant
    c.in-Some.ensures

pub returns-in-None : goal.returns-in-None
returns-in-None c = words_missed ROOM c.loop-i.room c.args.lines.now c.loop-i.i c.get.result.now c.get.ensures.value c.loop-i.invariant c.in-None.ensures
