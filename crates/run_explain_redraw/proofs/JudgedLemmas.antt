-- What three files are answered that were read and judged.
use Rattle.std.proofs.Common.{◌≡◌, ◌⊎◌, ℕ, List, ◌++◌, sym, ◌∙◌, subst, inl, inr}
use Rattle.std.specs.Prelude.{IfSome, true, codes}
use Rattle.plan_core.specs.Graph.{Graph}
use Rattle.track_order.specs.Order.{EdgeOrder}
use Rattle.plan_text.specs.declared.sheet_fault.SheetWhat.{SheetWhat}
use Rattle.plan_text.specs.declared.sheet_fault.SheetFault.{SheetFault}
use Rattle.plan_text.specs.declared.sheet_fault.SheetFault.TheVariants.{Sheet as SheetHas, Memory as SheetMemory}
use Rattle.plan_text.specs.SheetFaults.{IsSheetFault, HasSheetFault}
use Rattle.plan_text.proofs.SheetLaws.{sheet_or_fault}
use Rattle.drawing_cnf.specs.Moved.{Former}
use Rattle.run_input.specs.declared.fault.RunFault.{RunFault}
use Rattle.run_input.specs.declared.fault.RunFault.TheVariants.{Sheet}
use Rattle.run_input.specs.declared.input.InputRefusal.{InputRefusal}
use Rattle.run_input.specs.declared.input.InputRefusal.TheVariants as refusals
use Rattle.run_input.specs.declared.status.Status.{Status}
use Rattle.run_input.specs.Fault.{IsFaultLine, fault_line, fault_status}
use Rattle.run_input.specs.Input.{HasStation, IsRefusal}
use Rattle.run_input.proofs.InputLemmas.{one_graph, station_or_fault}
use Rattle.run_explain_redraw.specs.declared.judging.Rejected.{Rejected}
use Rattle.run_explain_redraw.specs.declared.judging.Rejected.TheVariants.{With, Memory}
use Rattle.run_explain_redraw.specs.Judged.{GivesFormer, IsFormerSheetJudged, IsFormerJudged, AreJudged, HaveFormer, HaveFault}
use Rattle.run_explain_redraw.specs.Rejection.{RejectedWith}

-- what is said of an answer, where more is known
pub rejected_weaker : (P Q : Status → List ℕ → Type 0) (r : Rejected) → ((status : Status) (text : List ℕ) → P status text → Q status text) → RejectedWith P r →
    RejectedWith Q r
rejected_weaker P Q (With reply) weaker h = weaker reply.status reply.text.items h
rejected_weaker P Q Memory weaker h = tt

-- a fault is answered whatever a station is answered
pub judged_weaker : (A B : Graph → EdgeOrder → Former → Status → List ℕ → Type 0) (bytes old said : List ℕ) (status : Status) (text : List ℕ) →
    ((g : Graph) (o : EdgeOrder) (former : Former) → A g o former status text → B g o former status text) → AreJudged A bytes old said status text →
    AreJudged B bytes old said status text
judged_weaker A B bytes old said status text weaker (inl (g, o, has, inl (h, q, before, inl (former, gives, answer)))) = inl
    (g, o, has, inl (h, q, before, inl (former, gives, weaker g o former answer)))
judged_weaker A B bytes old said status text weaker (inl (g, o, has, inl (h, q, before, inr refused))) = inl (g, o, has, inl (h, q, before, inr refused))
judged_weaker A B bytes old said status text weaker (inl (g, o, has, inr refused)) = inl (g, o, has, inr refused)
judged_weaker A B bytes old said status text weaker (inr refused) = inr refused

-- ---- a fault of the bytes

-- a fault of the former file, where the file has a station
pub former_rejected : (bytes old said : List ℕ) (g : Graph) (o : EdgeOrder) (r : InputRefusal) (fault : RunFault) (status : Status) (text : List ℕ) →
    HasStation bytes g o → r ≡ refusals.Fault fault → IsRefusal old r →
    status ≡ fault_status fault → text ≡ codes "old " ++ fault_line fault → HaveFault bytes old said status text
former_rejected bytes old said g o r fault status text has is refusal status_is line_is =
    inl (g, o, has, inr (record { fault = fault; has = subst (IsRefusal old) is refusal; status_is = status_is; line_is = line_is }))

-- one of the sheet, where the former file has one too
pub sheet_rejected : (bytes old said : List ℕ) (g h : Graph) (o q : EdgeOrder) (f : SheetFault) (what : SheetWhat) (line : ℕ) (status : Status) (text : List ℕ)
    → HasStation bytes g o → HasStation old h q → f ≡ SheetHas what line →
    (f ≡ SheetMemory) ⊎ IsSheetFault h true said f → IsFaultLine (Sheet what line) status text → HaveFault bytes old said status text
sheet_rejected bytes old said g h o q f what line status text has before is fault told = by fault
  where
    by : (f ≡ SheetMemory) ⊎ IsSheetFault h true said f → HaveFault bytes old said status text
    by (inl none) = let no : SheetHas what line ≡ SheetMemory = sym is ∙ none in absurd (cc)
    by (inr first) = inl (
      g,
      o,
      has,
      inl (
        h,
        q,
        before,
        inr (record {
          what = what;
          line = line;
          first = subst (IsSheetFault h true said) is first;
          answers = told;
        }),
      ),
    )

-- ---- there are former points, or there is a fault

-- of the sheet
sheet_or_its_fault : (sheet : List ℕ) (g h k : Graph) (former : Former) (status : Status) (text : List ℕ) → GivesFormer g h sheet former → k ≡ h →
    IsFormerSheetJudged (λ former status text. ⊥) g k sheet status text → ⊥
sheet_or_its_fault sheet g h k former status text gives same (inl none) = none.2
sheet_or_its_fault sheet g h k former status text gives same (inr refused) =
    sheet_or_fault h true sheet gives.has.sheet refused.what refused.line gives.has.told
    (subst (λ (x : Graph). HasSheetFault x true sheet refused.what refused.line) same refused.first)

-- of the former file, or of the sheet
old_or_its_fault : (bytes old sheet : List ℕ) (g i : Graph) (o : EdgeOrder) (former : Former) (status : Status) (text : List ℕ) →
    HaveFormer bytes old sheet g o former → IsFormerJudged (λ former status text. ⊥) i old sheet status text → g ≡ i → ⊥
old_or_its_fault bytes old sheet g i o former status text have (inr refused) is = station_or_fault old have.old_graph have.old_order refused.fault
    have.old_station refused.has
old_or_its_fault bytes old sheet g i o former status text have (inl judged) is =
    sheet_or_its_fault sheet g have.old_graph judged.0 former status text have.gives
    (one_graph old judged.0 have.old_graph judged.2.has_graph have.old_station.has_graph)
    (subst (λ (x : Graph). IsFormerSheetJudged (λ former status text. ⊥) x judged.0 sheet status text) (sym is) judged.3)

pub former_or_fault : (bytes old sheet : List ℕ) (g : Graph) (o : EdgeOrder) (former : Former) (status : Status) (text : List ℕ) →
    HaveFormer bytes old sheet g o former → HaveFault bytes old sheet status text → ⊥
former_or_fault bytes old sheet g o former status text have (inr refused) = station_or_fault bytes g o refused.fault have.has_station refused.has
former_or_fault bytes old sheet g o former status text have (inl judged) =
    old_or_its_fault bytes old sheet g judged.0 o former status text have judged.3 (one_graph bytes g judged.0 have.has_station.has_graph judged.2.has_graph)
