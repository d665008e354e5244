-- What explain answers, from what the search for an explanation says.
use Rattle.std.proofs.Common.{◌≡◌, ◌⊎◌, ℕ, List, [], ◌∷◌, get_or, refl, sym, ap, inl, inr, subst}
use Rattle.std.specs.Prelude.{All, Bool, false, codes, map, ◌↔◌, ◌==◌}
use Rattle.std.proofs.lemmas.Option.{slice_get-get_or}
use Rattle.plan_core.specs.Grid.{GridSize}
use Rattle.plan_core.specs.Graph.{Graph}
use Rattle.plan_core.specs.Drawing.{Drawing}
use Rattle.plan_core.specs.Lawful.{HasSizeOf, Instance, Lawful}
use Rattle.std.proofs.lemmas.Bool.{false≢true}
use Rattle.outside_io.specs.Contents.{FilesAt}
use Rattle.cnf_core.specs.declared.limits.TheConstants.{ROOM}
use Rattle.lawful_check.specs.declared.law_break.LawBreak.{LawBreak}
use Rattle.lawful_check.specs.Breaks.{break_of}
use Rattle.track_order.specs.Order.{EdgeOrder, is_above}
use Rattle.refute_log.specs.Told.{Lines, AddsAll}
use Rattle.refute_log.proofs.StepLemmas.{counted_within}
use Rattle.drawing_cnf.specs.Layout.{layout}
use Rattle.search_why.proofs.OutcomeLemmas.{none_lawful}
use Rattle.search_why.specs.Task.{Task}
use Rattle.search_why.specs.Explained.{IsExplanation, AreWithout, IsWithout}
use Rattle.law_core.specs.declared.ending.Why.{Why}
use Rattle.law_core.specs.declared.ending.Why.TheVariants.{Exists, Laws, Spent, Room}
use Rattle.law_core.specs.Known.{task_of}
use Rattle.law_core.specs.Why.{AreNamed, IsRightWhy, IsWhyLog, IsWhyLeft}
use Rattle.run_input.specs.declared.status.Status.{Status}
use Rattle.run_input.specs.declared.status.Status.TheVariants.{Done, Unfinished}
use Rattle.run_input.specs.Input.{IsStationOf}
use Rattle.run_input.specs.Met.{Met, between, HasRead}
use Rattle.run_input.specs.Answer.{HasReadStation}
use Rattle.run_explain_redraw.specs.WhyText.{laws_text, why_text}
use Rattle.run_explain_redraw.specs.Explained.{ExplainJob, explain_job, explain_task, status_of_why, IsExplainAnswer, IsLeftOfExplain}
use Rattle.run_explain_redraw.specs.Explained.{ExplainMayLeave}

-- what holds of each status and text of an answer of this search holds of its own
each_why : (asked : ExplainJob) (g : Graph) (o : EdgeOrder) (w : Why) (P : Status → List ℕ → Type 0) → IsRightWhy (explain_task g o asked) w →
    ((d : Drawing) → Lawful g (is_above o) asked.grid d → P Done (codes "drawing exists\n")) →
    ((laws : List Instance) (without : List Drawing) → IsExplanation g (is_above o) asked.grid laws → AreWithout g asked.grid laws without →
    P Done (laws_text g (map break_of laws) without)) →
    P Unfinished (codes "why conflicts\n") → P Unfinished (codes "why room\n") → P (status_of_why w) (why_text g w)
each_why asked g o (Exists d) P right lawful explained spent room = lawful d right
each_why asked g o (Laws names without) P right lawful explained spent room =
    subst (λ (ns : List LawBreak). P Done (laws_text g ns without)) (sym right.named) (explained right.laws without right.explanation right.irreducible)
each_why asked g o Spent P right lawful explained spent room = spent
each_why asked g o Room P right lawful explained spent room = room

-- what holds of each status and text that explain may answer holds of its answer
pub by_why : (asked : ExplainJob) (traced : Lines → Type 0) (g : Graph) (o : EdgeOrder) (status : Status) (text : List ℕ) (P : Status → List ℕ → Type 0) →
    IsExplainAnswer asked traced g o status text →
    ((d : Drawing) → Lawful g (is_above o) asked.grid d → P Done (codes "drawing exists\n")) →
    ((laws : List Instance) (without : List Drawing) → IsExplanation g (is_above o) asked.grid laws → AreWithout g asked.grid laws without →
    P Done (laws_text g (map break_of laws) without)) →
    P Unfinished (codes "why conflicts\n") → P Unfinished (codes "why room\n") → P status text
by_why asked traced g o status text P f lawful explained spent room =
    subst (λ (s : Status). P s text) (sym f.status_is)
    (subst (λ (t : List ℕ). P (status_of_why f.why) t) (sym f.spelled) (each_why asked g o f.why P f.right lawful explained spent room))

-- the drawings are of the graph's size
pub all_fit : (p : Task) (names : List LawBreak) (without : List Drawing) → AreNamed p names without → All (HasSizeOf p.graph) without
all_fit p names without are = λ k d lt.
    let w : IsWithout p.graph p.grid are.laws k (get_or without k d) = (are.irreducible).each k (get_or without k d) (slice_get-get_or without k d lt) in
    w.loose.fits.size

pub explained : (grid : GridSize) (budget : ℕ) (asked : ExplainJob) (IsTold : Lines → Type 0) (g : Graph) (o : EdgeOrder) (w : Why) (status : Status)
    (text : List ℕ) → explain_job grid budget ≡ asked →
    IsRightWhy (task_of (layout g o grid) budget ROOM) w → (lines : Lines) × IsTold lines × IsWhyLog (layout g o grid) budget ROOM w lines →
    status ≡ status_of_why w → text ≡ why_text g w → IsExplainAnswer asked IsTold g o status text
explained grid budget asked IsTold g o w status text same right log status_is spelled =
    subst (λ (j : ExplainJob). IsExplainAnswer j IsTold g o status text) same (record {
      why = w;
      right = right;
      lines = log.0;
      told = log.1;
      log = log.2;
      status_is = status_is;
      spelled = spelled;
    })

-- the text begins as the first line of an explanation does
begins_railplan : List ℕ → Bool
begins_railplan [] = false
begins_railplan (b ∷ bytes) = b == 114

pub exists : (g : Graph) (o : EdgeOrder) (asked : ExplainJob) (w : Why) → IsRightWhy (explain_task g o asked) w → status_of_why w ≡ Done →
    (why_text g w ≡ codes "drawing exists\n") ↔ ((d : Drawing) × Lawful g (is_above o) asked.grid d)
unfolding begins_railplan
exists g o asked (Exists d) right done = (λ e. (d, right), λ h. refl)
exists g o asked (Laws names without) right done = (
  λ e. absurd (false≢true (sym (ap begins_railplan e))),
  λ h. absurd (none_lawful g (is_above o) asked.grid right.laws right.explanation h.0 h.1),
)
exists g o asked Spent right done = absurd (cc)
exists g o asked Room right done = absurd (cc)

-- ---- what is left after an error

pub left_of_parts : (grid : GridSize) (budget : ℕ) (asked : ExplainJob) (g : Graph) (o : EdgeOrder) (lines : Lines) → explain_job grid budget ≡ asked →
    IsWhyLeft (layout g o grid) budget lines → IsLeftOfExplain asked g o lines
left_of_parts grid budget asked g o lines same left = subst (λ (j : ExplainJob). IsLeftOfExplain j g o lines) same left

-- the whole search was told
pub told_why_left : (grid : GridSize) (budget : ℕ) (asked : ExplainJob) (g : Graph) (o : EdgeOrder) (w : Why) (told : Lines) (old new : Lines → Type 0) →
    explain_job grid budget ≡ asked → IsWhyLog (layout g o grid) budget ROOM w told → ((x y : Lines) → new x → new y → x ≡ y) → AddsAll old new told →
    old [] → (lines : Lines) → new lines → IsLeftOfExplain asked g o lines
told_why_left grid budget asked g o w told old new same log one adds none lines is =
    subst (IsLeftOfExplain asked g o) (one told lines (adds [] none) is)
    (left_of_parts grid budget asked g o told same (record {
      derives = log.derives;
      begins = log.begins;
      within = counted_within budget told log.within;
    }))

-- nothing was told
pub left_unbegun : (asked : ExplainJob) (input : List ℕ) (met : Met) (log : Lines → Type 0) → ((x y : Lines) → log x → log y → x ≡ y) → log [] →
    (lines : Lines) → log lines → ExplainMayLeave asked input met lines
left_unbegun asked input met log one none lines is = inl (one lines [] is none)
