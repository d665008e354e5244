use Rattle.std.proofs.Common.{◌≡◌, ◌+◌, ◌≤◌, ◌∷◌, ◌∙◌, List, ℕ, length, take, drop, sym, ap, subst, arith}
use Rattle.std.proofs.lemmas.List.{take_at}
use Rattle.cdcl_learn.specs.Sight.{sight}
use Rattle.cdcl_learn.specs.Analysis.{Analysis, IsAnalyser, AreSeen}
use Rattle.cdcl_learn.proofs.SoundLemmas.{sound_sight}
use Rattle.cdcl_learn.proofs.AnalysisLemmas.{analyser_after, seen_after}
use Rattle.cdcl_learn.proofs.analyser.Analyser.analyse.Goals as goal

pub learn-learnt-requires-clause-sound : goal.learn-learnt-requires-clause-sound
learn-learnt-requires-clause-sound c = sound_sight c.args.arena.now c.args.trail.now c.requires.arena c.len_of-literals.ensures.attached
    c.level-level.ensures.marks c.requires.reasoned

pub invariant_of-self : goal.invariant_of-self
invariant_of-self c =
    let size = c.self.invariant.size in
    let w = c.learn-learnt.new.work in
    let vars = c.learn-learnt.ensures.vars in
    let here : w.vars ≡ c.args.trail.now.vars = vars ∙ ap (λ (m : Analysis). m.vars) c.self.view_is ∙ c.requires.vars in
    let len : length c.copy_met-self-inside.new.side ≡ c.self.inside.side.len = c.copy_met-self-inside.auto.side ∙ c.deref_mut.ensures.len in
    let items : length c.copy_met-self-inside.new.side ≡ length c.self.inside.side.items = c.copy_met-self-inside.auto.side
    ∙ ap length c.deref_mut.ensures.value in
    let room : w.vars + 1 ≤ length c.copy_met-self-inside.new.side = omega arith in
    let tables : w.vars + 1 ≤ length c.learn-learnt.new.found = let same = c.learn-learnt.ensures.tables in let before = c.self.invariant.tables in let v :
    c.self.inside.work.vars ≡ c.args.self.now.vars = ap (λ (m : Analysis). m.vars) c.self.view_is in omega arith in
    subst (λ (ns : List ℕ). IsAnalyser w c.learn-learnt.new.found ns c.copy_met-self-inside.result)
    (sym (take_at c.copy_met-self-inside.new.side (drop (length c.copy_met-self-inside.new.side) c.self.inside.side.items) c.self.inside.side.len len))
    (analyser_after (sight c.args.arena.now c.args.trail.now) w c.learn-learnt.new.found c.copy_met-self-inside.new.side c.copy_met-self-inside.result
    (sound_sight c.args.arena.now c.args.trail.now c.requires.arena c.len_of-literals.ensures.attached c.level-level.ensures.marks c.requires.reasoned) here
    c.len-short.ensures.limit c.len-short.ensures.short room tables
    c.copy_met-self-inside.ensures.short c.copy_met-self-inside.ensures.len c.copy_met-self-inside.ensures.same c.learn-learnt.ensures.named
    c.copy_met-self-inside.ensures.marked c.copy_met-self-inside.ensures.apart)

pub returns-clause-seen : goal.returns-clause-seen
returns-clause-seen c =
    let len : length c.copy_met-self-inside.new.side ≡ c.self.inside.side.len = c.copy_met-self-inside.auto.side ∙ c.deref_mut.ensures.len in
    subst (λ (ns : List ℕ). AreSeen c.args.arena.now c.args.trail.now (c.learn-learnt.result.first ∷ c.learn-learnt.new.work.rest) ns)
    (sym (ap (take c.copy_met-self-inside.result) (take_at c.copy_met-self-inside.new.side
    (drop (length c.copy_met-self-inside.new.side) c.self.inside.side.items) c.self.inside.side.len len) ∙ c.copy_met-self-inside.ensures.same))
    (seen_after c.args.arena.now c.args.trail.now c.learn-learnt.new.work (c.learn-learnt.result.first ∷ c.learn-learnt.new.work.rest)
    c.learn-learnt.ensures.named c.learn-learnt.ensures.above c.copy_met-self-inside.ensures.marked c.copy_met-self-inside.ensures.all
    c.learn-learnt.ensures.seen)
