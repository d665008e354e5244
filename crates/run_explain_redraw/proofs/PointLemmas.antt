-- The former points of more and more nodes.
use Rattle.std.proofs.Common.{◌≡◌, ◌≢◌, ◌⊎◌, ℕ, ◌+◌, ◌<◌, List, [], ◌∷◌, ◌++◌, None, length, sym, ◌∙◌, ap, subst, inl, inr, arith}
use Rattle.std.specs.declared.option.Option.{Option}
use Rattle.std.proofs.lemmas.List.{get_or_append_left, get_or_push}
use Rattle.plan_core.specs.Graph.{Graph, node}
use Rattle.plan_core.specs.Drawing.{Drawing}
use Rattle.drawing_cnf.specs.Moved.{Former, former_at}
use Rattle.run_explain_redraw.specs.FormerPoints.{IsPointOf}

-- the first nodes have these former points
abbrev pub AreFirst : (g old : Graph) → Drawing → Former → ℕ → Type 0
AreFirst g old d points n = (k : ℕ) → k < n → IsPointOf old d (node g k).name (former_at points k)

-- none of the first nodes has the name
abbrev pub NoneNamed : Graph → (name : List ℕ) → ℕ → Type 0
NoneNamed old name n = (m : ℕ) → m < n → (node old m).name ≢ name
