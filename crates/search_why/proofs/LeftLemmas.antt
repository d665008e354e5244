-- What a log tells after an error.
use Rattle.std.proofs.Common.{◌≡◌, ◌≤◌, ℕ, [], ◌++◌, map, length, sym, ◌∙◌, ap, subst, append-nil}
use Rattle.std.specs.Prelude.{flat_map}
use Rattle.refute_log.specs.declared.line.LogLine.TheVariants.{Formula}
use Rattle.refute_log.specs.Told.{Lines}
use Rattle.refute_log.specs.Log.{clause_lines, learnt, Derives}
use Rattle.refute_log.specs.Steps.{Continues, Leaves}
use Rattle.refute_log.proofs.StepLemmas.{leaves_same, leaves_then, few_within}
use Rattle.search_why.specs.Task.{Task}

-- an error in a later call, where what is searched is the same
pub left_later : {S : Type 0} (knows log : S → Lines → Type 0) (count : S → ℕ) (task : S → Task) (a b e : S) (R : Lines → Lines → Type 0) →
    Continues knows log count a b R →
    ((s : S) (lines : Lines) → knows s lines → clause_lines lines ≡ map Formula (task s).clauses) →
    ((s : S) (lines : Lines) → knows s lines → length (flat_map learnt lines) ≤ (task s).budget) → task b ≡ task a →
    Leaves (task b).budget [] (knows b) (log b) (log e) → Leaves (task a).budget [] (knows a) (log a) (log e)
left_later knows log count task a b e R run gives within same after =
    leaves_then (knows a) (knows b) (log a) (log b) (log e) (count a) (count b) R [] [] run
    (λ lines more ka kb r. gives b (lines ++ more) kb ∙ ap (λ (p : Task). map Formula p.clauses) same ∙ sym (gives a lines ka)
    ∙ sym (append-nil (clause_lines lines)))
    (λ lines more ka kb r. few_within (task a).budget lines (lines ++ more)
    (subst (λ (p : Task). length (flat_map learnt (lines ++ more)) ≤ p.budget) same (within b (lines ++ more) kb)))
    (subst (λ (p : Task). Leaves p.budget [] (knows b) (log b) (log e)) same after)

-- an error behind a call that tells nothing itself
pub left_here : {S : Type 0} (knows log : S → Lines → Type 0) (count : S → ℕ) (task : S → Task) (a b : S) (R : Lines → Lines → Type 0) →
    Continues knows log count a b R →
    ((s : S) (lines : Lines) → knows s lines → clause_lines lines ≡ map Formula (task s).clauses) →
    ((s : S) (lines : Lines) → knows s lines → length (flat_map learnt lines) ≤ (task s).budget) → task b ≡ task a →
    ((s : S) (lines : Lines) → knows s lines → Derives lines) → ((s : S) (x y : Lines) → log s x → log s y → x ≡ y) →
    Leaves (task a).budget [] (knows a) (log a) (log b)
left_here knows log count task a b R run gives within same derives one = left_later knows log count task a b b R run gives within same
    (leaves_same (knows b) (log b) (derives b) (one b))
