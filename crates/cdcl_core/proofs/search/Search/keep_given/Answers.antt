use Rattle.std.proofs.Common.{◌≡◌, ◌≤◌, ◌+◌, List, length, drop, sym, ◌∙◌, ap, subst}
use Rattle.std.proofs.lemmas.List.{take_at}
use Rattle.cnf_core.specs.Lit.{Literal}
use Rattle.cnf_core.specs.Propagation.{SameLiterals}
use Rattle.cdcl_core.proofs.StoreLemmas.{kept_turned}
use Rattle.cnf_core.specs.Clause.{AreThere, AreDistinct}
use Rattle.cdcl_core.specs.Search.{IsFronted}
use Rattle.cdcl_core.proofs.search.Search.keep_given.Goals as goal

pub returns-clause-kept : goal.returns-clause-kept
returns-clause-kept c =
    let turned : c.from_vec.result ≡ c.front_open-front.new.lits = c.from_vec.ensures
    ∙ take_at c.front_open-front.new.lits (drop (length c.front_open-front.new.lits) c.into_vec-lits.result.items) c.into_vec-lits.result.len
    (c.front_open-front.auto.lits ∙ c.deref_mut.ensures.len) in
    let given : c.deref_mut.result.now ≡ c.args.clause = c.deref_mut.ensures.value ∙ c.into_vec-lits.ensures.value in
    kept_turned c.keep_fronted.result c.args.self.now c.keep_fronted.new.self c.args.clause c.from_vec.result
    (subst (λ (x : List Literal). SameLiterals x c.from_vec.result) given (subst (SameLiterals c.deref_mut.result.now) (sym turned)
    c.front_open-front.ensures.same))
    (ap length turned ∙ c.front_open-front.auto.lits ∙ ap length given) c.keep_fronted.ensures.kept

pub from_vec-requires : goal.from_vec-requires
from_vec-requires c = subst AreDistinct (sym (take_at c.front_open-front.new.lits (drop (length c.front_open-front.new.lits) c.into_vec-lits.result.items)
    c.into_vec-lits.result.len (c.front_open-front.auto.lits ∙ c.deref_mut.ensures.len))) c.front_open-front.ensures.distinct

pub keep_fronted-requires-clause-there : goal.keep_fronted-requires-clause-there
keep_fronted-requires-clause-there c = subst (AreThere c.args.self.now.trail.vars)
    (sym (c.from_vec.ensures ∙ take_at c.front_open-front.new.lits (drop (length c.front_open-front.new.lits) c.into_vec-lits.result.items)
    c.into_vec-lits.result.len (c.front_open-front.auto.lits ∙ c.deref_mut.ensures.len))) c.front_open-front.ensures.there

pub keep_fronted-requires-clause-distinct : goal.keep_fronted-requires-clause-distinct
keep_fronted-requires-clause-distinct c = subst AreDistinct (sym (c.from_vec.ensures
    ∙ take_at c.front_open-front.new.lits (drop (length c.front_open-front.new.lits) c.into_vec-lits.result.items) c.into_vec-lits.result.len
    (c.front_open-front.auto.lits ∙ c.deref_mut.ensures.len))) c.front_open-front.ensures.distinct

pub keep_fronted-requires-clause-fronted : goal.keep_fronted-requires-clause-fronted
keep_fronted-requires-clause-fronted c = subst (λ (x : List Literal). IsFronted c.args.self.now.trail x c.front_open-front.result)
    (sym (c.from_vec.ensures ∙ take_at c.front_open-front.new.lits (drop (length c.front_open-front.new.lits) c.into_vec-lits.result.items)
    c.into_vec-lits.result.len (c.front_open-front.auto.lits ∙ c.deref_mut.ensures.len))) c.front_open-front.ensures.fronted

pub keep_fronted-requires-clause-room : goal.keep_fronted-requires-clause-room
keep_fronted-requires-clause-room c =
    let turned : c.from_vec.result ≡ c.front_open-front.new.lits = c.from_vec.ensures
    ∙ take_at c.front_open-front.new.lits (drop (length c.front_open-front.new.lits) c.into_vec-lits.result.items) c.into_vec-lits.result.len
    (c.front_open-front.auto.lits ∙ c.deref_mut.ensures.len) in
    let given : c.deref_mut.result.now ≡ c.args.clause = c.deref_mut.ensures.value ∙ c.into_vec-lits.ensures.value in
    subst (λ n. c.args.self.now.words + n + 3 ≤ c.args.self.now.room) (sym (ap length turned ∙ c.front_open-front.auto.lits ∙ ap length given)) c.requires.room
