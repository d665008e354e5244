-- Hints that later ones need, and what is needed while they are named.
use Rattle.std.proofs.Common.{◌≡◌, ◌≢◌, ℕ, ◌+◌, ◌<◌, ◌≤◌, ◌⊎◌, Bool, true, false, suc, zero, List, [], ◌∷◌, ◌++◌, length, take, drop, get_or, refl, sym, ◌∙◌}
use Rattle.std.proofs.Common.{ap, subst, inl, inr, arith, drop-cons, length-drop, length-take-le, append-nil, append_assoc, map, set}
use Rattle.std.specs.Prelude.{All, Contains, flat_map}
use Rattle.std.proofs.lemmas.Bool.{both_ways, false_from_ne_true}
use Rattle.std.proofs.lemmas.Bool.Decides.{eqb_tells}
use Rattle.std.proofs.lemmas.List.{get_or-take, get_or-set_same, get_or-set_other}
use Rattle.std.proofs.lemmas.List.Concat.{flat_map-cons}
use Rattle.std.proofs.lemmas.List.Elements.{All-contains}
use Rattle.cnf_core.specs.Lit.{Literal, negate, has}
use Rattle.cnf_core.specs.Clause.{Clauses}
use Rattle.cnf_core.specs.Propagation.{IsIn}
use Rattle.cnf_core.proofs.PropagationLemmas.{contains_from_has}
use Rattle.hint_log.specs.declared.hint_line.HintLine.{HintLine}
use Rattle.hint_log.specs.Hint.{shown_lits, hints_of, numbered, LeavesOne}
use Rattle.hint_log.specs.Checked.{clauses_learnt}
use Rattle.hint_log.specs.HintedLines.{HintLines}
use Rattle.hint_log.proofs.LeftLemmas.{IsFalse, IsOneOrFalse}
use Rattle.log_trim.specs.Trimmed.{IsInNamed, AreLean, HaveLeanHints}
use Rattle.log_trim.specs.Found.{is_needed, HasVar, NoneNeeded, AreOnTrail, NeedsWithin}

-- what is needed is within the table
pub needed_within : (needed : List Bool) (x : ℕ) → is_needed needed x ≡ true → x < length needed
needed_within [] x h = cc
needed_within (b ∷ needed) zero h = omega arith
needed_within (b ∷ needed) (suc x) h = let lt = needed_within needed x h in omega (arith, lt)

-- one more hint in front
pub lean_more : (clauses : Clauses) (set : List Literal) (n : ℕ) (l : Literal) (hints : List ℕ) → LeavesOne clauses (has set) n l → has set l ≡ false →
    IsInNamed clauses (negate l) hints → AreLean clauses (set ++ l ∷ []) hints → AreLean clauses set (n ∷ hints)
lean_more clauses set n l [] one new named rest = tt
lean_more clauses set n l (m ∷ ns) one new named rest = (l, one, new, named, rest)

pub named_first : (clauses : Clauses) (l : Literal) (n : ℕ) (hints : List ℕ) → Contains (numbered clauses n) l → IsInNamed clauses l (n ∷ hints)
named_first clauses l n hints h = (0, n, omega arith, refl, h)

pub named_later : (clauses : Clauses) (l : Literal) (n : ℕ) (hints : List ℕ) → IsInNamed clauses l hints → IsInNamed clauses l (n ∷ hints)
named_later clauses l n hints h = (suc h.0, h.1, (let lt = h.2 in omega (arith, lt)), h.3, h.4)

-- a literal of a front of the trail
pub front_within : (trail : List Literal) (i : ℕ) (k : Literal) → i ≤ length trail → IsIn (has (take i trail)) k → Contains trail k
front_within trail i k within h =
    let at = contains_from_has (take i trail) k h in
    let lt = at.1 in
    let size : length (take i trail) ≡ i = length-take-le i trail within in
    let below : at.0 < i = omega (arith, lt, size) in
    (at.0, omega (arith, below, within), sym (get_or-take i trail at.0 k below) ∙ at.2)

pub var_of : (trail : List Literal) (k : Literal) (x : ℕ) → Contains trail (negate k) → k.var ≡ x → HasVar trail x
var_of trail k x among e = (among.0, negate k, among.1, among.2, e)

-- the variables of a clause are on the trail, so that those that are needed stay there
pub on_trail_more : (lits trail : List Literal) (old new : List Bool) → ((k : Literal) → Contains lits k → HasVar trail k.var) → NeedsWithin lits old new →
    AreOnTrail old trail → AreOnTrail new trail
on_trail_more lits trail old new there need h x mark = elim (need.only x mark) [
  | inl before ↦ h x before
  | inr var ↦ subst (HasVar trail) var.4 (there var.1 (var.0, var.2, var.3))
]

pub reason_on_trail : (trail : List Literal) (i : ℕ) (l : Literal) (d : List Literal) → i < length trail → get_or trail i l ≡ l →
    All (IsOneOrFalse (has (take i trail)) l) d → (k : Literal) → Contains d k → HasVar trail k.var
reason_on_trail trail i l d lt is others k among = elim (All-contains (IsOneOrFalse (has (take i trail)) l) d k others among) [
  | inl same ↦ (i, l, lt, is, ap (λ (x : Literal). x.var) (sym same))
  | inr f ↦ var_of trail k k.var (front_within trail i (negate k) (omega (arith, lt)) f) refl
]

pub clash_on_trail : (trail d : List Literal) → All (IsFalse (has trail)) d → (k : Literal) → Contains d k → HasVar trail k.var
clash_on_trail trail d all k among = var_of trail k k.var (contains_from_has trail (negate k) (All-contains (IsFalse (has trail)) d k all among)) refl

-- a variable of the rest of the trail that isn't that of its first literal
pub var_behind : (trail : List Literal) (i : ℕ) (l : Literal) (x : ℕ) → i < length trail → get_or trail i l ≡ l → (l.var ≡ x → ⊥) → HasVar (drop i trail) x →
    HasVar (drop (i + 1) trail) x
var_behind trail i l x within is other h =
    let next : suc i ≡ i + 1 = omega arith in
    let split : drop i trail ≡ l ∷ drop (i + 1) trail = drop-cons trail i l within ∙ ap (λ (k : Literal). k ∷ drop (suc i) trail) is
    ∙ ap (λ n. l ∷ drop n trail) next in
    by (subst (λ (ls : List Literal). HasVar ls x) split h)
  where
    by : HasVar (l ∷ drop (i + 1) trail) x → HasVar (drop (i + 1) trail) x
    by (zero, k, lt, at, e) = absurd (other (ap (λ (m : Literal). m.var) at ∙ e))
    by (suc j, k, lt, at, e) = (j, k, omega (arith, lt), at, e)

-- a variable that was needed and isn't that of this literal
abbrev pub WasNeededBeside : List Bool → ℕ → ℕ → Type 0
WasNeededBeside needed v x = (v ≡ x → ⊥) × (is_needed needed x ≡ true)

pub cleared : (needed : List Bool) (v x : ℕ) → v < length needed → is_needed (set needed v false) x ≡ true → WasNeededBeside needed v x
cleared needed v x lt mark = elim (eqb_tells x v) [
  | inl same ↦ absurd (both_ways (is_needed (set needed v false) x) (ap (is_needed (set needed v false)) same.1 ∙ get_or-set_same needed v false false lt) mark)
  | inr other ↦ (λ e. other.1 (sym e), sym (get_or-set_other needed v x false false other.1) ∙ mark)
]

pub uncleared : (needed : List Bool) (v x : ℕ) → length needed ≤ v → is_needed needed x ≡ true → WasNeededBeside needed v x
uncleared needed v x ge mark = (λ e. let lt = needed_within needed x mark in omega (arith, lt, ge, e), mark)

pub behind_cleared : (trail : List Literal) (i : ℕ) (l : Literal) (v x : ℕ) (needed : List Bool) → i < length trail → get_or trail i l ≡ l → v ≡ l.var →
    ((y : ℕ) → is_needed needed y ≡ true → HasVar (drop i trail) y) → WasNeededBeside needed v x → HasVar (drop (i + 1) trail) x
behind_cleared trail i l v x needed lt is var h was = var_behind trail i l x lt is (λ e. was.0 (var ∙ e)) (h x was.1)

-- one more line
pub lean_line_more : (clauses : Clauses) (lines : HintLines) (line : HintLine) → HaveLeanHints clauses lines →
    AreLean (clauses ++ flat_map clauses_learnt lines) (map negate (shown_lits line)) (hints_of line) → HaveLeanHints clauses (lines ++ line ∷ [])
lean_line_more clauses [] line h v = (subst (λ (cs : Clauses). AreLean cs (map negate (shown_lits line)) (hints_of line)) (append-nil clauses) v, tt)
lean_line_more clauses (k ∷ lines) line h v = (
  h.0,
  lean_line_more (clauses ++ clauses_learnt k) lines line h.1
      (subst (λ (cs : Clauses). AreLean cs (map negate (shown_lits line)) (hints_of line))
      (ap (λ (cs : Clauses). clauses ++ cs) (flat_map-cons clauses_learnt k lines)
      ∙ sym (append_assoc clauses (clauses_learnt k) (flat_map clauses_learnt lines))) v),
)
