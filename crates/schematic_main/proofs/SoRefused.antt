-- With 1 a command names the first fault of its inputs.
use Rattle.std.proofs.Common.{◌≡◌, ◌⊎◌, ℕ, Bool, true, false, List, [], ◌∷◌, Some, ◌∙◌, ap, subst, inl, inr, arith}
use Rattle.outside_io.specs.Contents.{Told}
use Rattle.plan_core.specs.declared.limits.TheConstants.{MAX_FILE_BYTES, MAX_LOG_BYTES}
use Rattle.plan_core.specs.Graph.{Graph}
use Rattle.track_order.specs.Order.{EdgeOrder}
use Rattle.plan_words.specs.declared.command.Command.{Command}
use Rattle.plan_words.specs.declared.command.Command.TheVariants.{Draw, Verify, Check, Graph as PrintGraph, Make}
use Rattle.plan_words.specs.declared.command.Command.TheVariants.{Trial, Signals, Front, Redraw, Explain, Trim}
use Rattle.plan_words.specs.declared.command.Command.TheVariants.{Recheck}
use Rattle.plan_text.specs.declared.sheet_fault.SheetWhat.{SheetWhat}
use Rattle.plan_text.specs.SheetText.{Sheet}
use Rattle.plan_text.specs.SheetFaults.{IsSheetText, HasSheetFault}
use Rattle.plan_text.proofs.SheetLaws.{one_kind, one_line, sheet_or_fault}
use Rattle.run_input.specs.declared.fault.RunFault.{RunFault}
use Rattle.run_input.specs.declared.fault.RunFault.TheVariants.{Words, Long, Text, Topology, Graph as GraphFault, Order, Signal, Log, ReadFailed}
use Rattle.run_input.specs.declared.fault.RunFault.TheVariants.{Sheet as SheetFault}
use Rattle.run_input.specs.declared.status.Status.TheVariants.{Refused}
use Rattle.run_input.specs.Fault.{fault_line}
use Rattle.run_input.specs.Input.{IsLong, IsShort, HasSomeStation, HasFileFault, IsOfFile, IsStationOf}
use Rattle.run_input.specs.Signals.{HasFaultOfSignal}
use Rattle.run_input.specs.Answer.{InputFile}
use Rattle.run_input.proofs.InputLemmas.{one_fault, station_or_fault}
use Rattle.schematic_main.specs.So.{OfStation, HasFaultyFile, IsTooLong, HasFaultySheet, IsLawfulSheet, HasFaultyThird, SignalsAreSo, VerifyIsSo, CheckIsSo}
use Rattle.schematic_main.specs.So.{IsSo}
use Rattle.schematic_main.specs.Refusals.{ReadsAlone, IsFaultOfSheet}
use Rattle.schematic_main.proofs.SoExcludes.{same_bytes, at_station}

-- ---- a file's own fault

file_named : (told : Told) (input bytes : List ℕ) (fault : RunFault) (text : List ℕ) → told input ≡ Some bytes → HasFileFault bytes fault →
    HasFaultyFile (Some told) input text → text ≡ fault_line fault
file_named told input bytes fault text is has (other, (xs, there, also), line) =
    let had : HasFileFault bytes other = subst (λ (ys : List ℕ). HasFileFault ys other) (same_bytes told input bytes xs is there) also in
    line ∙ ap fault_line (one_fault bytes other fault had has)

-- a fault of signals is one of a station's
signals_station : (bytes : List ℕ) (fault : RunFault) → HasFaultOfSignal bytes fault → HasSomeStation bytes
signals_station bytes (Signal what at first) has = (has.0, has.1, has.2)
signals_station bytes (Words what position) has = absurd has
signals_station bytes (Long input) has = absurd has
signals_station bytes (Text what at) has = absurd has
signals_station bytes (Topology what at first second) has = absurd has
signals_station bytes (GraphFault fault) has = absurd has
signals_station bytes (Order fault) has = absurd has
signals_station bytes (SheetFault what line) has = absurd has
signals_station bytes (Log what line) has = absurd has
signals_station bytes (ReadFailed input) has = absurd has

signals_named : (told : Told) (input bytes : List ℕ) (fault : RunFault) (text : List ℕ) → told input ≡ Some bytes → HasFileFault bytes fault →
    (other : RunFault) → IsOfFile (λ xs. HasFileFault xs other) input (Some told) ⊎ IsOfFile (λ xs. HasFaultOfSignal xs other) input (Some told) →
    text ≡ fault_line other → text ≡ fault_line fault
signals_named told input bytes fault text is has other (inl of) line = file_named told input bytes fault text is has (other, of, line)
signals_named told input bytes fault text is has other (inr (xs, there, of)) line =
    let some = signals_station bytes other (subst (λ (ys : List ℕ). HasFaultOfSignal ys other) (same_bytes told input bytes xs is there) of) in
    absurd (station_or_fault bytes some.0 some.1 fault some.2 has)

name_in : List InputFile → List ℕ
name_in [] = []
name_in (x ∷ xs) = x.name

pub names_file_fault : (command : Command) (told : Told) (input bytes : List ℕ) (fault : RunFault) (text : List ℕ) → ReadsAlone command input →
    told input ≡ Some bytes → HasFileFault bytes fault → IsSo command (Some told) Refused text → text ≡ fault_line fault
unfolding name_in
names_file_fault (Draw file grid order budget svg log) told input bytes fault text alone is has so =
    file_named told input bytes fault text is has (subst (λ (name : List ℕ). HasFaultyFile (Some told) name text) (ap name_in alone) so)
names_file_fault (PrintGraph file) told input bytes fault text alone is has so =
    file_named told input bytes fault text is has (subst (λ (name : List ℕ). HasFaultyFile (Some told) name text) (ap name_in alone) so)
names_file_fault (Front file first second grid budget) told input bytes fault text alone is has so =
    file_named told input bytes fault text is has (subst (λ (name : List ℕ). HasFaultyFile (Some told) name text) (ap name_in alone) so)
names_file_fault (Explain file grid budget) told input bytes fault text alone is has so =
    file_named told input bytes fault text is has (subst (λ (name : List ℕ). HasFaultyFile (Some told) name text) (ap name_in alone) so)
names_file_fault (Signals file grid order budget log) told input bytes fault text alone is has so =
    let here : SignalsAreSo input grid order (Some told) Refused text =
    subst (λ (name : List ℕ). SignalsAreSo name grid order (Some told) Refused text) (ap name_in alone) so in
    signals_named told input bytes fault text is has here.0
    (elim here.1.2 [ inl of ↦ inl (here.1.0, here.1.1, of) | inr of ↦ inr (here.1.0, here.1.1, of) ]) here.2
names_file_fault (Verify file sheet) told input bytes fault text alone is has so = cc
names_file_fault (Check file sheet log) told input bytes fault text alone is has so = cc
names_file_fault (Make n) told input bytes fault text alone is has so = cc
names_file_fault (Trial n) told input bytes fault text alone is has so = cc
names_file_fault (Redraw file former sheet grid budget log) told input bytes fault text alone is has so = cc
names_file_fault (Trim file sheet log hints) told input bytes fault text alone is has so = cc
names_file_fault (Recheck file sheet hints) told input bytes fault text alone is has so = cc

-- ---- a sheet's

-- a file that has a station has no fault
no_faulty_file : (told : Told) (input : List ℕ) (g : Graph) (o : EdgeOrder) (text : List ℕ) → IsStationOf input (Some told) g o →
    HasFaultyFile (Some told) input text → ⊥
no_faulty_file told input g o text (bytes, is, has) (fault, (xs, there, had), line) =
    station_or_fault bytes g o fault has (subst (λ (ys : List ℕ). HasFileFault ys fault) (same_bytes told input bytes xs is there) had)

-- a text that isn't too long isn't called so
not_long : (told : Told) (number limit : ℕ) (name bytes text : List ℕ) → told name ≡ Some bytes → IsShort limit bytes →
    IsTooLong (Some told) number limit name text → ⊥
not_long told number limit name bytes text is short ((xs, there, long), line) =
    let passes : IsLong limit bytes = subst (λ (ys : List ℕ). IsLong limit ys) (same_bytes told name bytes xs is there) long in
    absurd (omega (arith, short, passes))

-- the fault that is named is the sheet's
sheet_named : (told : Told) (needs : Bool) (input sheet : List ℕ) (g : Graph) (o : EdgeOrder) (what : SheetWhat) (line : ℕ) (text : List ℕ) →
    IsStationOf input (Some told) g o → IsFaultOfSheet told needs g sheet what line →
    OfStation (Some told) input (λ h p. HasFaultySheet (Some told) needs h sheet text) → text ≡ fault_line (SheetFault what line)
sheet_named told needs input sheet g o what line text is f so =
    let found = at_station (λ h p. HasFaultySheet (Some told) needs h sheet text) told input g o is so in
    let also : HasSheetFault g needs f.bytes found.0 found.1 = subst (λ (xs : List ℕ). HasSheetFault g needs xs found.0 found.1)
    (same_bytes told sheet f.bytes found.2.0 f.there found.2.1) found.2.2 in
    found.3 ∙ ap (λ (w : SheetWhat). fault_line (SheetFault w found.1)) (one_kind g needs f.bytes found.0 what found.1 line also f.first)
    ∙ ap (λ (n : ℕ). fault_line (SheetFault what n)) (one_line g needs f.bytes found.0 what found.1 line also f.first)

pub verify_names : (told : Told) (input sheet : List ℕ) (g : Graph) (o : EdgeOrder) (what : SheetWhat) (line : ℕ) (text : List ℕ) →
    IsStationOf input (Some told) g o → IsFaultOfSheet told true g sheet what line →
    VerifyIsSo input sheet (Some told) Refused text → text ≡ fault_line (SheetFault what line)
verify_names told input sheet g o what line text is f (inl faulty) = absurd (no_faulty_file told input g o text is faulty)
verify_names told input sheet g o what line text is f (inr (inl long)) = absurd (not_long told 2 MAX_FILE_BYTES sheet f.bytes text f.there f.short long)
verify_names told input sheet g o what line text is f (inr (inr so)) = sheet_named told true input sheet g o what line text is f so

-- a sheet with a fault is none whose third file is judged
not_read : (hinted : Bool) (told : Told) (input sheet third : List ℕ) (g : Graph) (o : EdgeOrder) (what : SheetWhat) (line : ℕ) (text : List ℕ) →
    IsStationOf input (Some told) g o → IsFaultOfSheet told false g sheet what line →
    OfStation (Some told) input (λ h p. (said : Sheet) × IsOfFile (λ xs. IsSheetText h false xs said) sheet (Some told)
    × (IsLawfulSheet h p said × HasFaultyThird hinted third (Some told) h p said text)) → ⊥
not_read hinted told input sheet third g o what line text is f so =
    let found = at_station (λ h p. (said : Sheet) × IsOfFile (λ xs. IsSheetText h false xs said) sheet (Some told)
    × (IsLawfulSheet h p said × HasFaultyThird hinted third (Some told) h p said text)) told input g o is so in
    let read : IsSheetText g false f.bytes found.0 = subst (λ (xs : List ℕ). IsSheetText g false xs found.0)
    (same_bytes told sheet f.bytes found.1.0 f.there found.1.1) found.1.2 in
    sheet_or_fault g false f.bytes found.0 what line read f.first

pub check_names : (hinted : Bool) (told : Told) (input sheet third kept : List ℕ) (g : Graph) (o : EdgeOrder) (what : SheetWhat) (line : ℕ) (text : List ℕ) →
    IsStationOf input (Some told) g o → IsFaultOfSheet told false g sheet what line → told third ≡ Some kept → IsShort MAX_LOG_BYTES kept →
    CheckIsSo hinted input sheet third (Some told) Refused text → text ≡ fault_line (SheetFault what line)
check_names hinted told input sheet third kept g o what line text is f there few (inl faulty) = absurd (no_faulty_file told input g o text is faulty)
check_names hinted told input sheet third kept g o what line text is f there few (inr (inl long)) =
    absurd (not_long told 2 MAX_FILE_BYTES sheet f.bytes text f.there f.short long)
check_names hinted told input sheet third kept g o what line text is f there few (inr (inr (inl long))) =
    absurd (not_long told 3 MAX_LOG_BYTES third kept text there few long)
check_names hinted told input sheet third kept g o what line text is f there few (inr (inr (inr (inl so)))) =
    sheet_named told false input sheet g o what line text is f so
check_names hinted told input sheet third kept g o what line text is f there few (inr (inr (inr (inr so)))) =
    absurd (not_read hinted told input sheet third g o what line text is f so)
