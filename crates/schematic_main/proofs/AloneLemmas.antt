-- With which statuses a command has written no file.
use Rattle.std.proofs.Common.{◌≡◌, ◌≢◌, ◌⊎◌, ℕ, List, Ok, Err, inl, inr, refl, sym, ◌∙◌, subst}
use Rattle.std.specs.Prelude.{Option, Result, IsErr, IsOkAnd}
use Rattle.outside_io.specs.Contents.{Told, WhereTold}
use Rattle.plan_words.specs.declared.command.Command.{Command}
use Rattle.plan_words.specs.declared.command.Command.TheVariants.{Draw, Verify, Check, Graph as PrintGraph, Make, Trial, Signals, Front, Redraw, Explain, Trim}
use Rattle.plan_words.specs.declared.command.Command.TheVariants.{Recheck}
use Rattle.plan_words.specs.Words.{IsCommandOf}
use Rattle.plan_words.proofs.AnswerLemmas.{command_same}
use Rattle.run_input.specs.declared.reply.Cut.{Cut}
use Rattle.run_input.specs.declared.reply.Cut.TheVariants as cuts
use Rattle.run_input.specs.declared.reply.Reply.{Reply}
use Rattle.run_input.specs.declared.status.Status.{Status}
use Rattle.run_input.specs.declared.status.Status.TheVariants.{Done, Refused, WordsRefused, NoDrawing, Unfinished, Unread, Unwritten, NoMemory, Broken}
use Rattle.run_input.specs.Status.{IsRefused, IsCutShort}
use Rattle.run_input.specs.Reply.{status_of_cut}
use Rattle.run_input.specs.Met.{LeftSo}
use Rattle.run_check.specs.declared.trim_cut.TrimCut.{TrimCut}
use Rattle.run_check.specs.declared.trim_cut.TrimCut.TheVariants as trims
use Rattle.run_check.specs.TrimCut.{cut_of_trim}
use Rattle.schematic_main.specs.Commands.{AnswersAlone}
use Rattle.schematic_main.specs.Run.{EndsUnwritten}

-- ---- trim answers alone where it ends with other than 0

other_than_0 : (status : Status) → IsRefused status ⊎ (status ≡ Unfinished) ⊎ (status ≡ Broken) → status ≢ Done
other_than_0 status (inl refused) is = subst IsRefused is refused
other_than_0 status (inr (inl unfinished)) is = let e : Unfinished ≡ Done = sym unfinished ∙ is in cc
other_than_0 status (inr (inr broken)) is = let e : Broken ≡ Done = sym broken ∙ is in cc

pub trimmed_alone : {E : Type 0} (x : Result Reply E) → IsOkAnd x (λ r. IsRefused r.status ⊎ (r.status ≡ Unfinished) ⊎ (r.status ≡ Broken)) →
    IsOkAnd x (λ r. r.status ≢ Done)
trimmed_alone (Ok reply) alone = other_than_0 reply.status alone
trimmed_alone (Err e) alone = alone

-- ---- a run of trim without an answer

-- it left its files as trim did, whose fault it hands on
pub lost_leaves : (r : Result Reply Cut) (P : Reply → Type 0) (old new : Option Told) (May : (name bytes : List ℕ) → Type 0) → IsErr r →
    WhereTold old new (LeftSo (λ name bytes. (⊥ → ⊥) × May name bytes)) → WhereTold old new (LeftSo (λ name bytes. (IsOkAnd r P → ⊥) × May name bytes))
lost_leaves (Ok reply) P old new May err left = absurd (cc)
lost_leaves (Err cut) P old new May err left = left

pub lost_unwritten : (r : Result Reply Cut) (P : Reply → Type 0) (May Same : Type 0) → IsErr r → ((May → ⊥) → Same) →
    IsOkAnd r P ⊎ (May → ⊥) → Same
lost_unwritten (Ok reply) P May Same err unwritten none = absurd (cc)
lost_unwritten (Err cut) P May Same err unwritten (inl answered) = absurd answered
lost_unwritten (Err cut) P May Same err unwritten (inr nothing) = unwritten nothing

pub cut_unwritten : (cut : TrimCut) → cut_of_trim cut ≡ cuts.Unwritten → cut ≡ trims.Unwritten
cut_unwritten trims.Unwritten is = refl
cut_unwritten trims.Memory is = absurd (cc)

-- ---- a run that is refused wrote no file, whatever the command is

refused_alone : (command : Command) (status : Status) → IsRefused status → AnswersAlone command status
refused_alone (Draw input grid order budget svg log) status refused = refused
refused_alone (PrintGraph input) status refused = refused
refused_alone (Verify input sheet) status refused = refused
refused_alone (Check input sheet log) status refused = refused
refused_alone (Make n) status refused = refused
refused_alone (Trial n) status refused = refused
refused_alone (Signals input grid order budget log) status refused = refused
refused_alone (Front input first second grid budget) status refused = refused
refused_alone (Redraw input former sheet grid budget log) status refused = refused
refused_alone (Explain input grid budget) status refused = refused
refused_alone (Trim input sheet log hints) status refused = inl refused
refused_alone (Recheck input sheet hints) status refused = refused

-- as the words ask for one command, its statuses are those
pub reply_alone : {E : Type 0} (words : List (List ℕ)) (command : Command) (x : Result Reply E) → IsCommandOf words command →
    IsOkAnd x (λ r. EndsUnwritten words r.status) → IsOkAnd x (λ r. AnswersAlone command r.status)
reply_alone words command (Ok reply) asked (inl refused) = refused_alone command reply.status refused
reply_alone words command (Ok reply) asked (inr (found, also, alone)) = subst (λ (c : Command). AnswersAlone c reply.status)
    (command_same words found command also asked) alone
reply_alone words command (Err e) asked ends = ends

-- ---- none of them is that of a run that was cut short

cut_not_refused : (status : Status) → IsCutShort status → IsRefused status → ⊥
cut_not_refused Done cut refused = cut
cut_not_refused Refused cut refused = cut
cut_not_refused WordsRefused cut refused = cut
cut_not_refused NoDrawing cut refused = cut
cut_not_refused Unfinished cut refused = cut
cut_not_refused Unread cut refused = cut
cut_not_refused Unwritten cut refused = refused
cut_not_refused NoMemory cut refused = refused
cut_not_refused Broken cut refused = cut

alone_not_cut : (command : Command) (status : Status) → IsCutShort status → AnswersAlone command status → ⊥
alone_not_cut (Draw input grid order budget svg log) status cut alone = cut_not_refused status cut alone
alone_not_cut (PrintGraph input) status cut alone = cut_not_refused status cut alone
alone_not_cut (Verify input sheet) status cut alone = cut_not_refused status cut alone
alone_not_cut (Check input sheet log) status cut alone = cut_not_refused status cut alone
alone_not_cut (Make n) status cut alone = cut_not_refused status cut alone
alone_not_cut (Trial n) status cut alone = cut_not_refused status cut alone
alone_not_cut (Signals input grid order budget log) status cut alone = cut_not_refused status cut alone
alone_not_cut (Front input first second grid budget) status cut alone = cut_not_refused status cut alone
alone_not_cut (Redraw input former sheet grid budget log) status cut alone = cut_not_refused status cut alone
alone_not_cut (Explain input grid budget) status cut alone = cut_not_refused status cut alone
alone_not_cut (Trim input sheet log hints) status cut (inl refused) = cut_not_refused status cut refused
alone_not_cut (Trim input sheet log hints) status cut (inr (inl unfinished)) = subst IsCutShort unfinished cut
alone_not_cut (Trim input sheet log hints) status cut (inr (inr broken)) = subst IsCutShort broken cut
alone_not_cut (Recheck input sheet hints) status cut alone = cut_not_refused status cut alone

pub cut_not_alone : (words : List (List ℕ)) (status : Status) → IsCutShort status → EndsUnwritten words status → ⊥
cut_not_alone words status cut (inl refused) = cut_not_refused status cut refused
cut_not_alone words status cut (inr (command, asked, alone)) = alone_not_cut command status cut alone

short_cut : (cut : Cut) → IsCutShort (status_of_cut cut)
short_cut cuts.Unwritten = tt
short_cut cuts.Memory = tt

pub cut_is_short : (cut : Cut) (status : Status) → status ≡ status_of_cut cut → IsCutShort status
cut_is_short cut status is = subst IsCutShort (sym is) (short_cut cut)
