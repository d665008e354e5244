-- What is answered of a document is this alone, or want of memory.
use Rattle.std.proofs.Common.{◌≡◌, ◌⊎◌, ℕ, List, Result, Ok, Err, sym, ◌∙◌, ap}
use Rattle.std.specs.Result.{IfOk, IfErr, OnOk}
use Rattle.plan_core.specs.Exactly.{AnswersExactly}
use Rattle.plan_core.proofs.ExactlyLemmas.{answers_exactly}
use Rattle.railml_text.specs.declared.fault.TextWhat.{TextWhat}
use Rattle.railml_read.specs.declared.faults.ReadFault.{ReadFault}
use Rattle.railml_read.specs.declared.faults.ReadFault.TheVariants as answers
use Rattle.railml_read.specs.declared.rows.Elem.{Elem}
use Rattle.railml_read.specs.Tree.{XmlTree}
use Rattle.railml_read.specs.Rows.{rows_of}
use Rattle.railml_read.specs.declared.rows.SignalElem.{SignalElem}
use Rattle.railml_read.specs.Signals.{signals_of, AreSignals, GivesSignals}
use Rattle.railml_read.specs.Document.{AreRows, GivesRows, IsTextFault, IsReadFault}
use Rattle.railml_read.proofs.FaultLemmas.{one_tree, one_fault}

module _ (bytes : List ℕ) where
  one_list : (rows others : List Elem) → GivesRows bytes rows → GivesRows bytes others → rows ≡ others
  one_list rows others g h =
      let a = g.are_rows in
      let b = h.are_rows in
      a.found ∙ ap (λ (t : XmlTree). rows_of t) (one_tree bytes a.tree b.tree a.spells b.spells) ∙ sym b.found

  one_read_fault : (e f : ReadFault) → IsReadFault bytes e → IsReadFault bytes f → e ≡ f
  one_read_fault (answers.Text what at) (answers.Text other place) h k =
      let same = one_fault bytes what other at place h k in
      ap (λ (w : TextWhat). answers.Text w at) same.0 ∙ ap (λ (n : ℕ). answers.Text other n) same.1
  one_read_fault (answers.Text what at) answers.Memory h k = absurd k
  one_read_fault answers.Memory f h k = absurd h

  rows_or_fault : (rows : List Elem) (e : ReadFault) → GivesRows bytes rows → IsReadFault bytes e → ⊥
  rows_or_fault rows (answers.Text what at) g h = g.sound what at h
  rows_or_fault rows answers.Memory g h = h

  given : (r : Result (List Elem) ReadFault) → IfOk r (λ rows. AreRows bytes rows) → OnOk r ((what : TextWhat) (at : ℕ) → IsTextFault bytes what at → ⊥) →
      IfOk r (GivesRows bytes)
  given (Ok rows) are_rows sound = record { are_rows = are_rows; sound = sound }
  given (Err e) are_rows sound = tt

  pub read_exactly : (r : Result (List Elem) ReadFault) → IfOk r (λ rows. AreRows bytes rows) →
      OnOk r ((what : TextWhat) (at : ℕ) → IsTextFault bytes what at → ⊥) → IfErr r (λ e. (e ≡ answers.Memory) ⊎ IsReadFault bytes e) →
      AnswersExactly r answers.Memory (GivesRows bytes) (IsReadFault bytes)
  read_exactly r are_rows sound fault = answers_exactly r answers.Memory (GivesRows bytes) (IsReadFault bytes) (given r are_rows sound) fault one_list
      one_read_fault rows_or_fault

  one_signal_list : (signals others : List SignalElem) → GivesSignals bytes signals → GivesSignals bytes others → signals ≡ others
  one_signal_list signals others g h =
      let a = g.are_signals in
      let b = h.are_signals in
      a.found ∙ ap (λ (t : XmlTree). signals_of t) (one_tree bytes a.tree b.tree a.spells b.spells) ∙ sym b.found

  signals_or_fault : (signals : List SignalElem) (e : ReadFault) → GivesSignals bytes signals → IsReadFault bytes e → ⊥
  signals_or_fault signals (answers.Text what at) g h = g.sound what at h
  signals_or_fault signals answers.Memory g h = h

  given_signals : (r : Result (List SignalElem) ReadFault) → IfOk r (λ signals. AreSignals bytes signals) →
      OnOk r ((what : TextWhat) (at : ℕ) → IsTextFault bytes what at → ⊥) → IfOk r (GivesSignals bytes)
  given_signals (Ok signals) are_signals sound = record { are_signals = are_signals; sound = sound }
  given_signals (Err e) are_signals sound = tt

  pub read_signals_exactly : (r : Result (List SignalElem) ReadFault) → IfOk r (λ signals. AreSignals bytes signals) →
      OnOk r ((what : TextWhat) (at : ℕ) → IsTextFault bytes what at → ⊥) → IfErr r (λ e. (e ≡ answers.Memory) ⊎ IsReadFault bytes e) →
      AnswersExactly r answers.Memory (GivesSignals bytes) (IsReadFault bytes)
  read_signals_exactly r are_signals sound fault = answers_exactly r answers.Memory (GivesSignals bytes) (IsReadFault bytes) (given_signals r are_signals sound)
      fault one_signal_list one_read_fault signals_or_fault
