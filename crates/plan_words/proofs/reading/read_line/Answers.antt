use Rattle.std.proofs.Common.{◌≡◌, ◌⊎◌, sym, subst, ◌∙◌, List, ℕ, string_bytes}
use Rattle.std.specs.Prelude.{IfErr}
use Rattle.plan_words.specs.declared.fault.WordFault.TheVariants as WordFault
use Rattle.plan_words.specs.Words.{IsWordFault}
use Rattle.plan_words.proofs.ArgumentLemmas.{texts_front}
use Rattle.plan_words.proofs.reading.read_line.Goals as goal

pub returns-in-Some-clause-fault : goal.returns-in-Some-clause-fault
returns-in-Some-clause-fault c =
    let P : List (List ℕ) → Type 0 = λ words. IfErr c.read_arguments.result (λ e. (e ≡ WordFault.Memory) ⊎ IsWordFault words e) in
    subst P (sym (texts_front c.args.words.now c.first-item.result c.in-len1-up.len_at_least c.first-item.is))
    (c.read_arguments.ensures.fault (string_bytes c.first-item.result) (sym c.as_str.ensures.value ∙ c.in-Some.ensures))
