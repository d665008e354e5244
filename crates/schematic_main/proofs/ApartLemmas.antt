-- The files that a command writes have different names.
use Rattle.std.proofs.Common.{ℕ, List, None, Some, refl, sym, arith}
use Rattle.plan_words.specs.declared.command.Command.{Command}
use Rattle.plan_words.specs.declared.command.Command.TheVariants.{Draw, Verify, Check, Graph as PrintGraph, Make, Trial, Signals, Front, Redraw, Explain, Trim}
use Rattle.plan_words.specs.declared.command.Command.TheVariants.{Recheck}
use Rattle.plan_words.specs.Words.{IsCommandOf}
use Rattle.plan_words.proofs.AnswerLemmas.{outputs_apart}
use Rattle.run_input.specs.Written.{AreFilesApart}
use Rattle.run_input.proofs.LeavesLemmas.{two_apart}
use Rattle.schematic_main.specs.Commands.{outputs_of, HasApartPair}

pub asked_apart : (words : List (List ℕ)) (command : Command) → IsCommandOf words command → AreFilesApart (outputs_of command)
asked_apart words (Draw input grid order budget None None) asked = λ i j d before within. absurd (omega (arith, within))
asked_apart words (Draw input grid order budget None (Some l)) asked = λ i j d before within. absurd (omega (arith, before, within))
asked_apart words (Draw input grid order budget (Some p) None) asked = λ i j d before within. absurd (omega (arith, before, within))
asked_apart words (Draw input grid order budget (Some p) (Some l)) asked = two_apart l p
    (λ same. outputs_apart words input grid order budget (Some p) (Some l) p l asked refl refl (sym same))
asked_apart words (PrintGraph input) asked = λ i j d before within. absurd (omega (arith, within))
asked_apart words (Verify input sheet) asked = λ i j d before within. absurd (omega (arith, within))
asked_apart words (Check input sheet log) asked = λ i j d before within. absurd (omega (arith, within))
asked_apart words (Make n) asked = λ i j d before within. absurd (omega (arith, within))
asked_apart words (Trial n) asked = λ i j d before within. absurd (omega (arith, within))
asked_apart words (Signals input grid order budget None) asked = λ i j d before within. absurd (omega (arith, within))
asked_apart words (Signals input grid order budget (Some l)) asked = λ i j d before within. absurd (omega (arith, before, within))
asked_apart words (Front input first second grid budget) asked = λ i j d before within. absurd (omega (arith, within))
asked_apart words (Redraw input former sheet grid budget None) asked = λ i j d before within. absurd (omega (arith, within))
asked_apart words (Redraw input former sheet grid budget (Some l)) asked = λ i j d before within. absurd (omega (arith, before, within))
asked_apart words (Explain input grid budget) asked = λ i j d before within. absurd (omega (arith, within))
asked_apart words (Trim input sheet log hints) asked = λ i j d before within. absurd (omega (arith, before, within))
asked_apart words (Recheck input sheet hints) asked = λ i j d before within. absurd (omega (arith, within))

-- the two criteria of a front differ
pub pair_apart : (words : List (List ℕ)) (command : Command) → IsCommandOf words command → HasApartPair command
pair_apart words (Draw input grid order budget svg log) asked = tt
pair_apart words (PrintGraph input) asked = tt
pair_apart words (Verify input sheet) asked = tt
pair_apart words (Check input sheet log) asked = tt
pair_apart words (Make n) asked = tt
pair_apart words (Trial n) asked = tt
pair_apart words (Signals input grid order budget log) asked = tt
pair_apart words (Front input first second grid budget) asked = let parts = asked.parts in let pair = parts.criteria in pair.apart
pair_apart words (Redraw input former sheet grid budget log) asked = tt
pair_apart words (Explain input grid budget) asked = tt
pair_apart words (Trim input sheet log hints) asked = tt
pair_apart words (Recheck input sheet hints) asked = tt
