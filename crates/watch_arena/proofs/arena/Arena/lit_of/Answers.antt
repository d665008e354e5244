use Rattle.std.proofs.Common.{rules, arith, ◌<◌, ◌+◌, length, subst, sym, ◌∙◌}
use Rattle.cnf_core.specs.Lit.{IsWord}
use Rattle.std.proofs.lemmas.List.{get_or_default}
use Rattle.watch_arena.proofs.ArenaLemmas.{in_reach, lit_is}
use Rattle.watch_arena.proofs.arena.Arena.lit_of.Goals as goal

pub overflow_add-clause-2 : goal.overflow_add-clause-2
overflow_add-clause-2 c =
    let r = in_reach _ _ _ _ _ _ c.args.self.now c.args.clause.0 c.args.i c.self.invariant c.self.view_is c.requires.clause c.requires.below in
    let within = r.within in
    let limit = r.limit in
    omega arith

pub index-requires : goal.index-requires
index-requires c =
    let r = in_reach _ _ _ _ _ _ c.args.self.now c.args.clause.0 c.args.i c.self.invariant c.self.view_is c.requires.clause c.requires.below in
    let short : c.args.clause.0 + 3 + c.args.i < length c.self.inside.words.items = r.within in
    search (rules, short)

pub from_word-requires : goal.from_word-requires
from_word-requires c =
    let r = in_reach _ _ _ _ _ _ c.args.self.now c.args.clause.0 c.args.i c.self.invariant c.self.view_is c.requires.clause c.requires.below in
    subst IsWord (get_or_default c.self.inside.words.items (c.args.clause.0 + 3 + c.args.i) 0 c.index.result.now r.within ∙ sym c.index.ensures) r.word

pub returns : goal.returns
returns c =
    let r = in_reach _ _ _ _ _ _ c.args.self.now c.args.clause.0 c.args.i c.self.invariant c.self.view_is c.requires.clause c.requires.below in
    lit_is _ _ _ _ _ c.args.self.now c.args.clause.0 c.args.i c.index.result.now c.from_word.result c.self.view_is c.requires.below r.within c.index.ensures
    c.from_word.ensures.value
