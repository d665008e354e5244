-- A call that changed nothing did what a refused call may do.
use Rattle.std.proofs.Common.{◌≡◌, ℕ, List, [], ◌∙◌, ap, sym, Some}
use Rattle.std.proofs.lemmas.List.{append-nil}
use Rattle.outside_io.specs.Contents.{Told, SameFiles, MayAppendTo, Begins}

-- nothing was appended to a file
pub appends_nothing : (name bytes : List ℕ) (before after : Told) → SameFiles before after → MayAppendTo name bytes before after
appends_nothing name bytes before after same = record {
  grown = λ old was. (0, same name ∙ was ∙ ap (λ (b : List ℕ). Some b) (sym (append-nil old)));
  absent = λ missing. same name ∙ missing;
  others = λ other differs. same other;
}

-- nothing was read
pub begins_itself : (old new : List ℕ) → new ≡ old → Begins old new
begins_itself old new same = ([], same ∙ sym (append-nil old))
