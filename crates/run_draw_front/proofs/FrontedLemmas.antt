-- What front answers, from what the search for the front says.
use Rattle.std.proofs.Common.{◌≡◌, ℕ, List, [], subst, inl}
use Rattle.plan_core.specs.declared.criterion.Criterion.{Criterion}
use Rattle.plan_core.specs.Grid.{GridSize}
use Rattle.plan_core.specs.Graph.{Graph}
use Rattle.cnf_core.specs.declared.limits.TheConstants.{ROOM}
use Rattle.track_order.specs.Order.{EdgeOrder}
use Rattle.refute_log.specs.Told.{Lines, AddsAll}
use Rattle.refute_log.proofs.StepLemmas.{counted_within}
use Rattle.search_least.specs.Task.{IsLawful}
use Rattle.trade_off.specs.declared.outcome.FrontEnd.{FrontEnd}
use Rattle.trade_off.specs.Front.{Pairs}
use Rattle.trade_off.specs.Outcome.{IsRightFront, IsFrontLog, IsFrontLeft}
use Rattle.drawing_cnf.specs.Layout.{layout}
use Rattle.lex_minimise.specs.Task.{task_of}
use Rattle.run_input.specs.declared.status.Status.{Status}
use Rattle.run_draw_front.specs.FrontText.{front_text}
use Rattle.run_draw_front.specs.Fronted.{FrontJob, front_job, status_of_front, IsFrontAnswer, IsLeftOfFront, FrontMayLeave}
use Rattle.run_input.specs.Met.{Met}

pub fronted : (grid : GridSize) (a b : Criterion) (budget : ℕ) (asked : FrontJob) (IsTold : Lines → Type 0) (g : Graph) (o : EdgeOrder) (pairs : Pairs)
    (ending : FrontEnd) (status : Status) (text : List ℕ) → front_job grid a b budget ≡ asked →
    IsRightFront (IsLawful (task_of (layout g o grid) budget ROOM)) a b pairs ending →
    (lines : Lines) × IsTold lines × IsFrontLog (task_of (layout g o grid) budget ROOM) a b pairs ending lines →
    status ≡ status_of_front ending → text ≡ front_text a b pairs ending → IsFrontAnswer asked IsTold g o status text
fronted grid a b budget asked IsTold g o pairs ending status text same right log status_is spelled =
    subst (λ (j : FrontJob). IsFrontAnswer j IsTold g o status text) same (record {
      pairs = pairs;
      ending = ending;
      right = right;
      lines = log.0;
      told = log.1;
      log = log.2;
      status_is = status_is;
      spelled = spelled;
    })

-- ---- after an error

-- what is asked, by its parts
pub left_of_parts : (grid : GridSize) (a b : Criterion) (budget : ℕ) (asked : FrontJob) (g : Graph) (o : EdgeOrder) (lines : Lines) →
    front_job grid a b budget ≡ asked → IsFrontLeft (task_of (layout g o grid) budget ROOM) a b lines → IsLeftOfFront asked g o lines
left_of_parts grid a b budget asked g o lines same left = subst (λ (j : FrontJob). IsLeftOfFront j g o lines) same left

-- the whole search was told
pub told_front_left : (grid : GridSize) (a b : Criterion) (budget : ℕ) (asked : FrontJob) (g : Graph) (o : EdgeOrder) (pairs : Pairs) (ending : FrontEnd)
    (told : Lines) (old new : Lines → Type 0) → front_job grid a b budget ≡ asked → IsFrontLog (task_of (layout g o grid) budget ROOM) a b pairs ending told →
    ((x y : Lines) → new x → new y → x ≡ y) → AddsAll old new told → old [] → (lines : Lines) → new lines → IsLeftOfFront asked g o lines
told_front_left grid a b budget asked g o pairs ending told old new same log one adds none lines is =
    subst (IsLeftOfFront asked g o) (one told lines (adds [] none) is) (left_of_parts grid a b budget asked g o told same (record {
      derives = log.derives;
      begins = log.begins;
      within = counted_within budget told log.within;
    }))

-- nothing was told
pub left_unbegun : (asked : FrontJob) (input : List ℕ) (met : Met) (log : Lines → Type 0) → ((x y : Lines) → log x → log y → x ≡ y) → log [] → (lines : Lines) →
    log lines → FrontMayLeave asked input met lines
left_unbegun asked input met log one none lines is = inl (one lines [] is none)
