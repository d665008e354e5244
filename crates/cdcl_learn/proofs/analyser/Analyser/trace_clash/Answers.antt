use Rattle.cdcl_learn.proofs.SoundLemmas.{sound_sight}
use Rattle.cdcl_learn.proofs.analyser.Analyser.trace_clash.Goals as goal

pub trace_clash-requires-clause-sound : goal.trace_clash-requires-clause-sound
trace_clash-requires-clause-sound c = sound_sight c.args.arena.now c.args.trail.now c.requires.arena c.len_of-literals.ensures.attached
    c.level-level.ensures.marks c.requires.reasoned
