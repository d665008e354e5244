use Rattle.std.proofs.Common.{◌≡◌, ◌<◌, ◌∙◌, ℕ, List, length, drop, get_or, sym, subst}
use Rattle.std.proofs.lemmas.List.{take_at}
use Rattle.cdcl_learn.proofs.ShorterLemmas.{none_in_round}
use Rattle.cdcl_learn.proofs.consequences.Consequences.begin.Goals as goal

pub returns-clause-none : goal.returns-clause-none
returns-clause-none c =
    let len : length c.next_round-self-inside.new.implied ≡ c.self.inside.implied.len = c.next_round-self-inside.auto.implied ∙ c.deref_mut.ensures.len in
    none_in_round c.next_round-self-inside.result _ (λ v. subst (λ (ns : List ℕ). get_or ns v 0 < c.next_round-self-inside.result)
    (sym (take_at c.next_round-self-inside.new.implied (drop (length c.next_round-self-inside.new.implied) c.self.inside.implied.items)
    c.self.inside.implied.len len)) (c.next_round-self-inside.ensures v))
