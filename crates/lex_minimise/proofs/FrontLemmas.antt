-- The end of a search for the front for whose formula there is no room.
use Rattle.std.proofs.Common.{◌≡◌, ◌≤◌, ◌<◌, ℕ, ◌+◌, ◌⊎◌, [], ◌∷◌, refl, ap, inl, inr, arith}
use Rattle.std.specs.Prelude.{flat_map}
use Rattle.plan_core.specs.declared.criterion.Criterion.{Criterion}
use Rattle.cnf_core.specs.declared.limits.TheConstants.{VARS}
use Rattle.cnf_core.specs.Clause.{words_of}
use Rattle.track_order.specs.Order.{is_above, is_overlap}
use Rattle.refute_log.specs.Log.{given}
use Rattle.refute_log.specs.Expected.{sum_vars_of}
use Rattle.refute_log.specs.Full.{CapsPass}
use Rattle.drawing_cnf.specs.Expected.{formula_clauses, formula_size}
use Rattle.drawing_cnf.specs.Layout.{Layout, problem_of}
use Rattle.drawing_cnf.proofs.ListLemmas.{given_formulas}
use Rattle.search_least.specs.Task.{greatest_of}
use Rattle.search_least.specs.Outcome.{IsUnfoundEnd, first_lines}
use Rattle.search_least.specs.Placed.{IsUnderBounds}
use Rattle.search_least.proofs.BehindLemmas.{behind_none}
use Rattle.refute_log.specs.declared.stop.Stop.TheVariants.{RoomFull}
use Rattle.trade_off.specs.declared.outcome.FrontEnd.TheVariants.{Room}
use Rattle.trade_off.specs.Front.{Pairs}
use Rattle.trade_off.specs.Outcome.{front_lines, IsFrontLog}
use Rattle.trade_off.proofs.TellLemmas.{words_front}
use Rattle.lex_minimise.specs.Task.{task_of}
use Rattle.lex_minimise.proofs.StartLemmas.{no_room_end}

-- ---- no room for the formula

front_passes : (y : Layout) (budget room : ℕ) (a b : Criterion) →
    (VARS < formula_size y.graph (is_above y.order) (is_overlap y.order) y.grid) ⊎
    (room < words_of (formula_clauses y.graph (is_above y.order) (is_overlap y.order) y.grid)) →
    CapsPass (problem_of y) (a ∷ b ∷ []) [] room (greatest_of (task_of y budget room))
front_passes y budget room a b (inl h) =
    let e = problem_of y in
    let m = e.vars + sum_vars_of e e.vars a (greatest_of (task_of y budget room) a) in
    let n = sum_vars_of e m b (greatest_of (task_of y budget room) b) in
    inl (omega (arith, h))
front_passes y budget room a b (inr h) =
    let cs = formula_clauses y.graph (is_above y.order) (is_overlap y.order) y.grid in
    let p = task_of y budget room in
    let words : words_of (flat_map given (first_lines p)) ≡ words_of cs = ap words_of (given_formulas cs) in
    let more : words_of (flat_map given (first_lines p)) ≤ words_of (flat_map given (front_lines p a b)) = words_front (first_lines p) _ in
    inr (omega (arith, h, words, more))

pub no_room_front : (y : Layout) (budget room : ℕ) (a b : Criterion) (pairs : Pairs) →
    (VARS < formula_size y.graph (is_above y.order) (is_overlap y.order) y.grid) ⊎
    (room < words_of (formula_clauses y.graph (is_above y.order) (is_overlap y.order) y.grid)) → pairs ≡ [] →
    IsFrontLog (task_of y budget room) a b pairs Room []
no_room_front y budget room a b pairs full none =
    let p = task_of y budget room in
    let end : IsUnfoundEnd p (a ∷ b ∷ []) 0 RoomFull [] = no_room_end y budget room (a ∷ b ∷ []) full in
    let s = end.searched in
    record {
      formed = s.formed;
      derives = s.derives;
      due = s.due;
      covers = s.covers;
      begins = (front_lines p a b, refl);
      fits = s.fits;
      within = s.within;
      placed = behind_none (IsUnderBounds p);
      cause = inl (front_passes y budget room a b full, none, refl);
    }
