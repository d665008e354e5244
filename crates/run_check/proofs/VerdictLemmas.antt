-- There is one answer to a sheet, and to a file and a sheet; where the sheet has a drawing it is the verdict on it.
use Rattle.std.proofs.Common.{◌≡◌, ◌↔◌, ℕ, ◌<◌, Bool, true, List, length, Some, sym, ◌∙◌, ap, subst, inl, inr, arith}
use Rattle.plan_core.specs.Grid.{GridSize}
use Rattle.plan_core.proofs.TruthFacts.{same_when}
use Rattle.plan_core.specs.Graph.{Graph}
use Rattle.plan_core.specs.Drawing.{Drawing}
use Rattle.plan_core.specs.Values.{values_of}
use Rattle.plan_core.specs.Lawful.{Instance, Over, Parted, IsInstance, Lawful}
use Rattle.track_order.specs.Order.{EdgeOrder, IsOrderOf, is_above}
use Rattle.lawful_check.specs.declared.law_break.LawBreak.{LawBreak}
use Rattle.lawful_check.specs.Breaks.{IsLeastBreak}
use Rattle.lawful_check.proofs.LeastLemmas.{lawful_breaks_none, one_least}
use Rattle.plan_text.specs.declared.sheet_fault.SheetWhat.{SheetWhat}
use Rattle.plan_text.specs.SheetText.{Sheet as PlainSheet}
use Rattle.plan_text.specs.SheetFaults.{IsDrawingOf}
use Rattle.plan_text.proofs.SheetLaws.{one_sheet, one_kind, one_line, sheet_or_fault}
use Rattle.run_input.specs.declared.fault.RunFault.{RunFault}
use Rattle.run_input.specs.declared.fault.RunFault.TheVariants.{Sheet}
use Rattle.run_input.specs.declared.status.Status.{Status}
use Rattle.run_input.specs.declared.status.Status.TheVariants.{Done, Broken}
use Rattle.run_input.specs.Fault.{IsFaultLine, fault_status, fault_line}
use Rattle.run_input.specs.Input.{HasStation}
use Rattle.run_input.specs.Answer.{IsSheetRefused}
use Rattle.run_check.specs.Verdict.{IsVerdict, IsSheetJudged, lawful_line, broken_line}
use Rattle.run_check.specs.Verdict.{IsVerified}
use Rattle.run_input.proofs.InputLemmas.{one_graph, one_fault, station_or_fault}

pub record SameAnswer (status other : Status) (text another : List ℕ) : Type 0 where
  pub status_is : status ≡ other
  pub text_is : text ≡ another

-- the answers of one fault are the same
pub one_refusal : (fault found : RunFault) (status other : Status) (text another : List ℕ) → fault ≡ found → IsFaultLine fault status text →
    IsFaultLine found other another → SameAnswer status other text another
one_refusal fault found status other text another same a b = record {
  status_is = a.status_is ∙ ap fault_status same ∙ sym b.status_is;
  text_is = a.line_is ∙ ap fault_line same ∙ sym b.line_is;
}

-- ---- the drawing of a sheet

record SameDrawing (grid other : GridSize) (d e : Drawing) : Type 0 where
  grid_is : grid ≡ other
  drawn_is : d ≡ e

-- what is found is one drawing
pub same_found : (d e : Drawing) → Some d ≡ Some e → d ≡ e
same_found d e same = cc

-- a text is that of a sheet with one drawing, on one grid
one_drawing : (g : Graph) (sheet : List ℕ) (grid other : GridSize) (d e : Drawing) → IsDrawingOf g sheet grid d → IsDrawingOf g sheet other e →
    SameDrawing grid other d e
one_drawing g sheet grid other d e a b =
    let same : a.sheet ≡ b.sheet = one_sheet g true sheet a.sheet b.sheet a.told b.told in
    record {
      grid_is = sym a.on_grid ∙ ap (λ (s : PlainSheet). s.grid) same ∙ b.on_grid;
      drawn_is = same_found d e (sym a.found ∙ ap (λ (s : PlainSheet). s.found) same ∙ b.found);
    }

-- ---- the verdict

pub one_verdict : (g : Graph) (o : EdgeOrder) (grid : GridSize) (d : Drawing) (status other : Status) (text another : List ℕ) →
    IsVerdict g o grid d status text → IsVerdict g o grid d other another → SameAnswer status other text another
one_verdict g o grid d status other text another (inl a) (inl b) = record { status_is = a.status_is ∙ sym b.status_is; text_is = a.line_is ∙ sym b.line_is }
one_verdict g o grid d status other text another (inl a) (inr b) = absurd (lawful_breaks_none g (is_above o) grid d b.broken a.lawful b.least)
one_verdict g o grid d status other text another (inr a) (inl b) = absurd (lawful_breaks_none g (is_above o) grid d a.broken b.lawful a.least)
one_verdict g o grid d status other text another (inr a) (inr b) = record {
  status_is = a.status_is ∙ sym b.status_is;
  text_is = a.line_is ∙ ap (λ (found : LawBreak). broken_line found) (one_least g (is_above o) grid d a.broken b.broken a.least b.least) ∙ sym b.line_is;
}

-- an answer to a sheet with a drawing is the verdict on it
verdict_on : (g : Graph) (o : EdgeOrder) (sheet : List ℕ) (grid : GridSize) (d : Drawing) (status : Status) (text : List ℕ) → IsDrawingOf g sheet grid d →
    IsSheetJudged g o sheet status text → IsVerdict g o grid d status text
verdict_on g o sheet grid d status text has (inl judged) =
    let same = one_drawing g sheet judged.grid grid judged.drawn d judged.has has in
    subst (λ (e : Drawing). IsVerdict g o grid e status text) same.drawn_is
    (subst (λ (size : GridSize). IsVerdict g o size judged.drawn status text) same.grid_is judged.verdict)
verdict_on g o sheet grid d status text has (inr refused) = absurd (sheet_or_fault g true sheet has.sheet refused.what refused.line has.told refused.first)

-- ---- one answer to a sheet

-- the answers to a sheet with a fault are the same, a drawing being due or not
pub one_sheet_refusal : (g : Graph) (needs_drawing : Bool) (sheet : List ℕ) (status other : Status) (text another : List ℕ) →
    IsSheetRefused g needs_drawing sheet status text → IsSheetRefused g needs_drawing sheet other another → SameAnswer status other text another
one_sheet_refusal g needs_drawing sheet status other text another a b =
    let kind = one_kind g needs_drawing sheet a.what b.what a.line b.line a.first b.first in
    let place = one_line g needs_drawing sheet a.what b.what a.line b.line a.first b.first in
    let same = ap (λ (what : SheetWhat). Sheet what a.line) kind ∙ ap (λ (line : ℕ). Sheet b.what line) place in
    one_refusal (Sheet a.what a.line) (Sheet b.what b.line) status other text another same a.answers b.answers

one_answer : (g : Graph) (o : EdgeOrder) (sheet : List ℕ) (status other : Status) (text another : List ℕ) → IsSheetJudged g o sheet status text →
    IsSheetJudged g o sheet other another → SameAnswer status other text another
one_answer g o sheet status other text another (inl a) b =
    one_verdict g o a.grid a.drawn status other text another a.verdict (verdict_on g o sheet a.grid a.drawn other another a.has b)
one_answer g o sheet status other text another (inr a) (inl b) = absurd (sheet_or_fault g true sheet b.has.sheet a.what a.line b.has.told a.first)
one_answer g o sheet status other text another (inr a) (inr b) = one_sheet_refusal g true sheet status other text another a b

pub one_status : (g : Graph) (o : EdgeOrder) (sheet : List ℕ) (status other : Status) (text another : List ℕ) → IsSheetJudged g o sheet status text →
    IsSheetJudged g o sheet other another → status ≡ other
one_status g o sheet status other text another a b = (one_answer g o sheet status other text another a b).status_is

pub one_text : (g : Graph) (o : EdgeOrder) (sheet : List ℕ) (status other : Status) (text another : List ℕ) → IsSheetJudged g o sheet status text →
    IsSheetJudged g o sheet other another → text ≡ another
one_text g o sheet status other text another a b = (one_answer g o sheet status other text another a b).text_is

-- ---- what a sheet with a drawing is answered with

not_both : (status : Status) → status ≡ Broken → status ≡ Done → ⊥
not_both status broken done = cc

lawful_verdict : (g : Graph) (o : EdgeOrder) (grid : GridSize) (d : Drawing) (status : Status) (text : List ℕ) → IsVerdict g o grid d status text →
    (status ≡ Done) ↔ Lawful g (is_above o) grid d
lawful_verdict g o grid d status text (inl a) = (λ done. a.lawful, λ lawful. a.status_is)
lawful_verdict g o grid d status text (inr b) = (
  λ done. absurd (not_both status b.status_is done),
  λ lawful. absurd
      (lawful_breaks_none g (is_above o) grid d b.broken lawful b.least),
)

broken_verdict : (g : Graph) (o : EdgeOrder) (grid : GridSize) (d : Drawing) (status : Status) (text : List ℕ) → IsVerdict g o grid d status text →
    (status ≡ Broken) ↔ (Lawful g (is_above o) grid d → ⊥)
broken_verdict g o grid d status text (inl a) = (λ broken. absurd (not_both status broken a.status_is), λ unlawful. absurd (unlawful a.lawful))
broken_verdict g o grid d status text (inr b) = (λ broken. λ lawful. lawful_breaks_none g (is_above o) grid d b.broken lawful b.least, λ unlawful. b.status_is)

verdict_line : (g : Graph) (o : EdgeOrder) (grid : GridSize) (d : Drawing) (status : Status) (text : List ℕ) → Lawful g (is_above o) grid d →
    IsVerdict g o grid d status text → text ≡ lawful_line (values_of d)
verdict_line g o grid d status text lawful (inl a) = a.line_is
verdict_line g o grid d status text lawful (inr b) = absurd (lawful_breaks_none g (is_above o) grid d b.broken lawful b.least)

pub lawful_is_0 : (g : Graph) (o : EdgeOrder) (sheet : List ℕ) (grid : GridSize) (d : Drawing) (status : Status) (text : List ℕ) → IsDrawingOf g sheet grid d →
    IsSheetJudged g o sheet status text → (status ≡ Done) ↔ Lawful g (is_above o) grid d
lawful_is_0 g o sheet grid d status text has judged = lawful_verdict g o grid d status text (verdict_on g o sheet grid d status text has judged)

pub broken_is_8 : (g : Graph) (o : EdgeOrder) (sheet : List ℕ) (grid : GridSize) (d : Drawing) (status : Status) (text : List ℕ) → IsDrawingOf g sheet grid d →
    IsSheetJudged g o sheet status text → (status ≡ Broken) ↔ (Lawful g (is_above o) grid d → ⊥)
broken_is_8 g o sheet grid d status text has judged = broken_verdict g o grid d status text (verdict_on g o sheet grid d status text has judged)

pub lawful_has_line : (g : Graph) (o : EdgeOrder) (sheet : List ℕ) (grid : GridSize) (d : Drawing) (status : Status) (text : List ℕ) →
    IsDrawingOf g sheet grid d → IsSheetJudged g o sheet status text → Lawful g (is_above o) grid d → text ≡ lawful_line (values_of d)
lawful_has_line g o sheet grid d status text has judged lawful = verdict_line g o grid d status text lawful (verdict_on g o sheet grid d status text has judged)

-- ---- the order of a graph, as far as it is asked

-- two orders of a graph say the same of its edges
same_above : (g : Graph) (o p : EdgeOrder) (e f : ℕ) → IsOrderOf g o → IsOrderOf g p → e < length g.edges → f < length g.edges → is_above o e f ≡ is_above p e f
same_above g o p e f first second less also =
    let a = first.above e f less also in
    let b = second.above e f less also in
    same_when (is_above o e f) (is_above p e f) (λ is. b.1 (a.0 is)) (λ is. a.1 (b.0 is))

-- so the laws speak of the same parties
same_parties : (g : Graph) (o p : EdgeOrder) (i : Instance) → IsOrderOf g o → IsOrderOf g p → IsInstance g (is_above o) i → IsInstance g (is_above p) i
same_parties g o p (Over e f) first second is = record {
  first = is.first;
  second = is.second;
  is_above = sym (same_above g o p e f first second is.first is.second) ∙ is.is_above;
}
same_parties g o p (Parted e f) first second is =
    let rising = is.pair.rising in
    let within = is.pair.within in
    let less : e < length g.edges = omega (arith, rising, within) in
    record {
      pair = is.pair;
      overlap = is.overlap;
      not_above = sym (same_above g o p e f first second less within) ∙ is.not_above;
      not_below = sym (same_above g o p f e first second within less) ∙ is.not_below;
    }
same_parties g o p i first second is = is

same_lawful : (g : Graph) (o p : EdgeOrder) (grid : GridSize) (d : Drawing) → IsOrderOf g o → IsOrderOf g p → Lawful g (is_above o) grid d →
    Lawful g (is_above p) grid d
same_lawful g o p grid d first second lawful = record { fits = lawful.fits; laws = λ i is. lawful.laws i (same_parties g p o i second first is) }

same_least : (g : Graph) (o p : EdgeOrder) (grid : GridSize) (d : Drawing) (b : LawBreak) → IsOrderOf g o → IsOrderOf g p →
    IsLeastBreak g (is_above o) grid d b → IsLeastBreak g (is_above p) grid d b
same_least g o p grid d b first second found = record {
  instance = found.instance;
  least = record {
    is = same_parties g o p found.instance first second found.least.is;
    broken = found.least.broken;
    least = λ j is before. found.least.least j (same_parties g p o j second first is) before;
  };
  named = found.named;
}

same_verdict : (g : Graph) (o p : EdgeOrder) (grid : GridSize) (d : Drawing) (status : Status) (text : List ℕ) → IsOrderOf g o → IsOrderOf g p →
    IsVerdict g o grid d status text → IsVerdict g p grid d status text
same_verdict g o p grid d status text first second (inl a) = inl (record {
  lawful = same_lawful g o p grid d first second a.lawful;
  status_is = a.status_is;
  line_is = a.line_is;
})
same_verdict g o p grid d status text first second (inr b) =
    inr (record { broken = b.broken; least = same_least g o p grid d b.broken first second b.least; status_is = b.status_is; line_is = b.line_is })

-- and a sheet is answered the same
same_judged : (g : Graph) (o p : EdgeOrder) (sheet : List ℕ) (status : Status) (text : List ℕ) → IsOrderOf g o → IsOrderOf g p →
    IsSheetJudged g o sheet status text → IsSheetJudged g p sheet status text
same_judged g o p sheet status text first second (inl judged) =
    inl (record {
      grid = judged.grid;
      drawn = judged.drawn;
      has = judged.has;
      verdict = same_verdict g o p judged.grid judged.drawn status text first second judged.verdict;
    })
same_judged g o p sheet status text first second (inr refused) = inr refused

-- ---- one answer to a file and a sheet

-- two answers to the stations of one file, which have one graph
one_to_station : (bytes sheet : List ℕ) (g h : Graph) (o p : EdgeOrder) (status other : Status) (text another : List ℕ) → HasStation bytes g o →
    HasStation bytes h p →
    IsSheetJudged g o sheet status text → IsSheetJudged h p sheet other another → SameAnswer status other text another
one_to_station bytes sheet g h o p status other text another has also a b =
    let same : h ≡ g = one_graph bytes h g also.has_graph has.has_graph in
    let order : IsOrderOf g p = subst (λ (x : Graph). IsOrderOf x p) same also.order in
    let judged : IsSheetJudged g p sheet other another = subst (λ (x : Graph). IsSheetJudged x p sheet other another) same b in
    one_answer g o sheet status other text another a (same_judged g p o sheet other another order has.order judged)

one_verified : (bytes sheet : List ℕ) (status other : Status) (text another : List ℕ) → IsVerified bytes sheet status text →
    IsVerified bytes sheet other another → SameAnswer status other text another
one_verified bytes sheet status other text another (inl (g, o, has, a)) (inl (h, p, also, b)) = one_to_station bytes sheet g h o p status other text another has
    also a b
one_verified bytes sheet status other text another (inl (g, o, has, a)) (inr b) = absurd (station_or_fault bytes g o b.fault has b.has)
one_verified bytes sheet status other text another (inr a) (inl (h, p, also, b)) = absurd (station_or_fault bytes h p a.fault also a.has)
one_verified bytes sheet status other text another (inr a) (inr b) = one_refusal a.fault b.fault status other text another
    (one_fault bytes a.fault b.fault a.has b.has) a.answers b.answers

pub one_file_status : (bytes sheet : List ℕ) (status other : Status) (text another : List ℕ) → IsVerified bytes sheet status text →
    IsVerified bytes sheet other another → status ≡ other
one_file_status bytes sheet status other text another a b = (one_verified bytes sheet status other text another a b).status_is

pub one_file_text : (bytes sheet : List ℕ) (status other : Status) (text another : List ℕ) → IsVerified bytes sheet status text →
    IsVerified bytes sheet other another → text ≡ another
one_file_text bytes sheet status other text another a b = (one_verified bytes sheet status other text another a b).text_is

-- what is answered to a file that has a station is what is answered to the station
pub judged_at : (bytes sheet : List ℕ) (g : Graph) (o : EdgeOrder) (status : Status) (text : List ℕ) → HasStation bytes g o →
    IsVerified bytes sheet status text → IsSheetJudged g o sheet status text
judged_at bytes sheet g o status text has (inl (h, p, also, judged)) =
    let same : h ≡ g = one_graph bytes h g also.has_graph has.has_graph in
    let order : IsOrderOf g p = subst (λ (x : Graph). IsOrderOf x p) same also.order in
    same_judged g p o sheet status text order has.order (subst (λ (x : Graph). IsSheetJudged x p sheet status text) same judged)
judged_at bytes sheet g o status text has (inr refused) = absurd (station_or_fault bytes g o refused.fault has refused.has)
