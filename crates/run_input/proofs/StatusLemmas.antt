-- Statuses have different numbers, and none is both refused and answered.
use Rattle.std.proofs.Common.{◌≡◌, ◌⊎◌, ℕ, zero, suc, Ok, Err, inr, refl, sym, ◌∙◌, ap}
use Rattle.std.specs.Prelude.{Result, IfOk, IsOkAnd}
use Rattle.run_input.specs.declared.reply.Cut.{Cut}
use Rattle.run_input.specs.declared.reply.Cut.TheVariants as cuts
use Rattle.run_input.specs.declared.reply.Reply.{Reply}
use Rattle.run_input.specs.declared.status.Status.{Status}
use Rattle.run_input.specs.declared.status.Status.TheVariants.{Done, Refused, WordsRefused, NoDrawing, Unfinished, Unread, Unwritten, NoMemory, Broken}
use Rattle.run_input.specs.Status.{number_of, IsAnswered, IsRefused}
use Rattle.run_input.specs.Reply.{status_of_cut}

abbrev status_at : ℕ → Status
status_at zero = Done
status_at (suc zero) = Refused
status_at (suc (suc zero)) = WordsRefused
status_at (suc (suc (suc zero))) = NoDrawing
status_at (suc (suc (suc (suc zero)))) = Unfinished
status_at (suc (suc (suc (suc (suc zero))))) = Unread
status_at (suc (suc (suc (suc (suc (suc zero)))))) = Unwritten
status_at (suc (suc (suc (suc (suc (suc (suc zero))))))) = NoMemory
status_at other = Broken

status_at-number : (status : Status) → status_at (number_of status) ≡ status
status_at-number Done = refl
status_at-number Refused = refl
status_at-number WordsRefused = refl
status_at-number NoDrawing = refl
status_at-number Unfinished = refl
status_at-number Unread = refl
status_at-number Unwritten = refl
status_at-number NoMemory = refl
status_at-number Broken = refl

pub one_status : (a b : Status) → number_of a ≡ number_of b → a ≡ b
one_status a b same = sym (status_at-number a) ∙ ap status_at same ∙ status_at-number b

pub refused_unanswered : (status : Status) → IsRefused status → IsAnswered status → ⊥
refused_unanswered Done refused answered = refused
refused_unanswered Refused refused answered = answered
refused_unanswered WordsRefused refused answered = answered
refused_unanswered NoDrawing refused answered = refused
refused_unanswered Unfinished refused answered = refused
refused_unanswered Unread refused answered = answered
refused_unanswered Unwritten refused answered = answered
refused_unanswered NoMemory refused answered = answered
refused_unanswered Broken refused answered = refused

-- an answer that tells of a fault isn't the command's
pub refused_reply : {E : Type 0} (r : Result Reply E) → IfOk r (λ x. IsRefused x.status) → IsOkAnd r (λ x. IsAnswered x.status) → ⊥
refused_reply (Ok x) refused answered = refused_unanswered x.status refused answered
refused_reply (Err e) refused answered = answered

-- a run that is cut short ran out of memory, where nothing else may have cut it short
pub cut_ends : (cut : Cut) (status : Status) (Ends Fails : Type 0) → status ≡ status_of_cut cut → (cut ≡ cuts.Unwritten → Fails) → (Fails → ⊥) →
    Ends ⊎ (status ≡ NoMemory)
cut_ends cuts.Unwritten status Ends Fails is cause fine = absurd (fine (cause refl))
cut_ends cuts.Memory status Ends Fails is cause fine = inr is
