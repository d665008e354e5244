-- The beginning of a search for an explanation, and the whole of its lines.
use Rattle.std.proofs.Common.{◌≡◌, ◌≤◌, ◌<◌, ℕ, zero, suc, ◌+◌, ◌-◌, false, List, [], ◌∷◌, ◌++◌, length, map, refl, sym, ◌∙◌, ap, subst, inl, inr, arith}
use Rattle.std.proofs.Common.{append-nil}
use Rattle.std.specs.Prelude.{⊤, All, flat_map, slice_index_or}
use Rattle.std.proofs.lemmas.List.{length-map}
use Rattle.std.proofs.lemmas.List.Elements.{All-cons, All-contains, All-weaker}
use Rattle.plan_core.proofs.ListFacts.{all_mapped}
use Rattle.plan_core.specs.Drawing.{Drawing}
use Rattle.plan_core.specs.Lawful.{Instance, NodeOnGrid, Lawful}
use Rattle.cnf_core.specs.declared.limits.TheConstants.{VARS}
use Rattle.cnf_core.specs.Clause.{Clauses, words_of}
use Rattle.cnf_core.specs.Formula.{Cnf}
use Rattle.lawful_check.specs.Breaks.{break_of}
use Rattle.refute_log.specs.declared.line.LogLine.TheVariants.{Formula, Model}
use Rattle.refute_log.specs.Told.{Lines}
use Rattle.refute_log.specs.ToldTo.{IsToldTo}
use Rattle.refute_log.specs.Log.{learnt, clause_lines}
use Rattle.refute_log.specs.Steps.{ToldBehind, GoesOn, Leaves}
use Rattle.refute_log.proofs.LogLemmas.{derives_none}
use Rattle.refute_log.proofs.StepLemmas.{counted_within, few_left}
use Rattle.refute_log.specs.declared.stop.Stop.TheVariants.{BudgetSpent, RoomFull}
use Rattle.refute_log.specs.Cause.{IsCause}
use Rattle.drawing_cnf.specs.Expected.{laws_first}
use Rattle.drawing_cnf.specs.Layout.{Layout}
use Rattle.cdcl_core.specs.Kept.{Kept, AreGiven, blank, with_more_vars}
use Rattle.cdcl_core.specs.Belongs.{Belongs}
use Rattle.cdcl_core.proofs.ViewLemmas.{new_given, new_belongs}
use Rattle.search_least.proofs.BuildLemmas.{formulas_are_clauses}
use Rattle.lex_minimise.specs.Told.{HasTaken, IsLogOfSolver}
use Rattle.lex_minimise.proofs.TellLemmas.{goes_weaker}
use Rattle.lex_minimise.proofs.GrowLemmas.{formula_count}
use Rattle.lex_minimise.proofs.StartLemmas.{told_whole}
use Rattle.search_why.specs.declared.outcome.Outcome.{Outcome}
use Rattle.search_why.specs.declared.outcome.Outcome.TheVariants.{Exists, Laws, Stopped}
use Rattle.search_why.specs.Explained.{IsChoice, IsChoiceOf, AreWithout}
use Rattle.search_why.specs.Task.{law_at, HasAllLaws}
use Rattle.search_why.specs.Asked.{IsNoModel}
use Rattle.search_why.proofs.OutcomeLemmas.{none_meets_none_lawful}
use Rattle.track_order.specs.Order.{is_above, is_overlap, IsOrderOf}
use Rattle.drawing_cnf.proofs.MainLemmas.{order_tables}
use Rattle.search_why.specs.Outcome.{laws_at, IsRightOutcome, TellsOutcome}
use Rattle.law_core.specs.declared.parties.Law.{Law}
use Rattle.law_core.specs.declared.ending.Why.{Why}
use Rattle.law_core.specs.declared.ending.Why.TheVariants as why
use Rattle.law_core.specs.Law.{instance_of}
use Rattle.law_core.specs.Choices.{choices_size, selectors}
use Rattle.law_core.specs.Known.{laws_of, formula_of, task_of, HasFormula, AreSelecting, IsReady, KnowsWhy}
use Rattle.law_core.proofs.FormulaLemmas.{all_laws}
use Rattle.law_core.specs.Query.{IsLawPlaced}
use Rattle.search_least.proofs.BehindLemmas.{behind_none, behind_mapped}
use Rattle.law_core.specs.Why.{IsRightWhy, KeepsNoneBack, IsWhyCause, IsWhyLog, IsWhyLeft, FormulaPasses, formula_lines, HasLawPlaces, IsWhyOf}

-- ---- the selecting variables

pub size_there : (y : Layout) (room : ℕ) (laws slice : List Law) (f : Cnf) (vars : ℕ) → HasFormula y room laws f → slice ≡ laws → vars ≡ f.vars →
    choices_size (map instance_of slice) ≤ vars
size_there y room laws slice f vars has same is =
    subst (λ (is : List Instance). choices_size is ≤ vars) (sym (ap (map instance_of) same ∙ has.laws_are)) (let v = has.vars in omega (arith, v, is))

pub vars_few : (y : Layout) (room : ℕ) (laws : List Law) (f : Cnf) (vars : ℕ) → HasFormula y room laws f → vars ≡ f.vars → vars ≤ VARS
vars_few y room laws f vars has is = subst (λ n. n ≤ VARS) (sym (is ∙ has.vars)) (has.facts).few

pub words_fit : (y : Layout) (room : ℕ) (laws : List Law) (f : Cnf) → HasFormula y room laws f → words_of f.clauses ≤ f.room
words_fit y room laws f has = let fit = has.words_fit in let w = ap words_of has.clauses in let r = has.kept in omega (arith, fit, w, r)

pub selecting_are : (y : Layout) (room : ℕ) (laws slice : List Law) (f : Cnf) (vars : ℕ) (selecting : List ℕ) → HasFormula y room laws f → slice ≡ laws →
    vars ≡ f.vars →
    selecting ≡ selectors (vars + 1 - choices_size (map instance_of slice)) (map instance_of slice) → AreSelecting y selecting
selecting_are y room laws slice f vars selecting has same_slice same is =
    let v = has.vars in
    let first : vars + 1 - choices_size (laws_of y) ≡ laws_first y.graph y.grid = omega (arith, v, same) in
    is ∙ ap (λ (is : List Instance). selectors (vars + 1 - choices_size is) is) (ap (map instance_of) same_slice ∙ has.laws_are)
    ∙ ap (λ n. selectors n (laws_of y)) first

-- ---- the formula's clauses are told to a new solver

pub blank_working : (k : Kept) (room : ℕ) → k ≡ blank room → k.failed ≡ false
blank_working k room is = ap (λ (x : Kept). x.failed) is

pub blank_vars : (k : Kept) (room n : ℕ) → k ≡ blank room → k.vars ≤ n
blank_vars k room n is = let v = ap (λ (x : Kept). x.vars) is in omega (arith, v)

pub blank_fits : (k : Kept) (room : ℕ) (cs : Clauses) → k ≡ blank room → words_of cs ≤ room → k.words + words_of cs ≤ k.room
blank_fits k room cs is fits = let w = ap (λ (x : Kept). x.words) is in let r = ap (λ (x : Kept). x.room) is in omega (arith, w, r, fits)

pub blank_taken : (old new : Kept) (room n : ℕ) (cs : Clauses) → old ≡ blank room → HasTaken (with_more_vars old (n - old.vars)) new cs →
    HasTaken (with_more_vars old n) new cs
blank_taken old new room n cs is h =
    let v = ap (λ (x : Kept). x.vars) is in
    let all : n - old.vars ≡ n = omega (arith, v) in
    subst (λ m. HasTaken (with_more_vars old m) new cs) all h

-- ---- the formula's clauses were told

pub begun_ready : (y : Layout) (selecting : List ℕ) (budget room : ℕ) (laws : List Law) (f : Cnf) (old new : Kept) → HasFormula y room laws f →
    AreSelecting y selecting → old ≡ blank room → HasTaken (with_more_vars old f.vars) new f.clauses → IsReady y selecting budget room new
begun_ready y selecting budget room laws f old new has are blank_is t =
    let given : AreGiven f.clauses new.clauses = t.given [] (new_given old room blank_is) in
    record {
      facts = has.facts;
      selecting_are = are;
      working = t.working;
      vars = (let v = t.vars in let z = ap (λ (k : Kept). k.vars) blank_is in let w = has.vars in omega (arith, v, z, w));
      room_is = t.room ∙ ap (λ (k : Kept). k.room) blank_is;
      given = subst (λ (cs : Clauses). AreGiven cs new.clauses) has.clauses given;
      spent = (let l = t.learnt in let z = ap (λ (k : Kept). k.learnt) blank_is in omega (arith, l, z));
    }

begun_knows : (y : Layout) (budget room : ℕ) (laws : List Law) (f : Cnf) (old new : Kept) (l0 l1 : Lines → Type 0) (n0 n1 : ℕ) → HasFormula y room laws f →
    old ≡ blank room → HasTaken (with_more_vars old f.vars) new f.clauses →
    GoesOn (λ ls. Belongs ls old) (λ ls. Belongs ls new) l0 l1 n0 n1 (λ lines more. more ≡ map Formula f.clauses) →
    KnowsWhy (task_of y budget room) new (formula_lines y)
begun_knows y budget room laws f old new l0 l1 n0 n1 has blank_is t goes =
    let cs = formula_of y in
    let told : ToldBehind (λ ls. Belongs ls new) l0 l1 n0 n1 [] (λ more. more ≡ map Formula f.clauses) = goes [] (new_belongs old room blank_is) in
    let belongs : Belongs (map Formula cs) new = subst (λ (ls : Lines). Belongs ls new) (told.does ∙ ap (map Formula) has.clauses) told.knows in
    let none_learnt : length (flat_map learnt (map Formula cs)) ≡ 0 = formula_count cs in
    let l = t.learnt in
    let z = ap (λ (k : Kept). k.learnt) blank_is in
    let words = t.words in
    let w = ap (λ (k : Kept). k.words) blank_is in
    let all = ap words_of has.clauses in
    let fit = has.words_fit in
    let full : new.words ≤ room = omega (arith, words, w, all, fit) in
    record {
      belongs = belongs;
      told_are = formulas_are_clauses cs;
      learnt_are = omega (arith, l, z, none_learnt);
      spent = omega (arith, l, z);
      fits = subst (λ n. n ≤ room) belongs.words full;
      asked = behind_mapped (IsLawPlaced (task_of y budget room)) Formula [] cs (λ before c. tt) (behind_none (IsLawPlaced (task_of y budget room)));
    }

-- ---- the answer

mapped_both : {X Y Z : Type 0} (f : Y → Z) (h : X → Y) (xs : List X) → map (λ x. f (h x)) xs ≡ map f (map h xs)
mapped_both f h [] = refl
mapped_both f h (x ∷ xs) = ap (λ zs. f (h x) ∷ zs) (mapped_both f h xs)

pub right_answer : (y : Layout) (budget room : ℕ) (o : Outcome) (w : Why) → IsRightOutcome (task_of y budget room) o → IsWhyOf (laws_of y) o w →
    IsRightWhy (task_of y budget room) w
right_answer y budget room (Exists d) (why.Exists e) right is = let p = task_of y budget room in subst (λ (x : Drawing). Lawful p.graph p.above p.grid x)
    (sym is) right
right_answer y budget room (Exists d) (why.Laws names without) right is = absurd is
right_answer y budget room (Exists d) why.Spent right is = absurd is
right_answer y budget room (Exists d) why.Room right is = absurd is
right_answer y budget room (Laws places drawings) (why.Exists e) right is = absurd is
right_answer y budget room (Laws places drawings) (why.Laws names without) right is =
    let p = task_of y budget room in
    record {
      laws = laws_at p places;
      explanation = right.0;
      irreducible = subst (λ (ds : List Drawing). AreWithout p.graph p.grid (laws_at p places) ds) (sym is.1) right.1;
      named = is.0 ∙ mapped_both break_of (law_at p) places;
    }
right_answer y budget room (Laws places drawings) why.Spent right is = absurd is
right_answer y budget room (Laws places drawings) why.Room right is = absurd is
right_answer y budget room (Stopped BudgetSpent) (why.Exists e) right is = absurd is
right_answer y budget room (Stopped BudgetSpent) (why.Laws names without) right is = absurd is
right_answer y budget room (Stopped BudgetSpent) why.Spent right is = tt
right_answer y budget room (Stopped BudgetSpent) why.Room right is = absurd is
right_answer y budget room (Stopped RoomFull) (why.Exists e) right is = absurd is
right_answer y budget room (Stopped RoomFull) (why.Laws names without) right is = absurd is
right_answer y budget room (Stopped RoomFull) why.Spent right is = absurd is
right_answer y budget room (Stopped RoomFull) why.Room right is = tt

choice_within : (laws : List Instance) (n : ℕ) → IsChoice (slice_index_or laws n (NodeOnGrid 0)) → n < length laws
choice_within [] zero choice = absurd choice
choice_within [] (suc n) choice = absurd choice
choice_within (i ∷ rest) zero choice = omega arith
choice_within (i ∷ rest) (suc n) choice = let lt = choice_within rest n choice in omega (arith, lt)

pub all_searched : (y : Layout) (budget room : ℕ) → IsOrderOf y.graph y.order → HasAllLaws (task_of y budget room)
all_searched y budget room ordered = all_laws y.graph (is_above y.order) (is_overlap y.order) y.grid budget room (order_tables y.graph y.order ordered)

pub has_places : (y : Layout) (budget room : ℕ) (laws : List Law) (o : Outcome) → map instance_of laws ≡ laws_of y → IsRightOutcome (task_of y budget room) o →
    HasLawPlaces (length laws) o
has_places y budget room laws (Exists d) are right = tt
has_places y budget room laws (Laws places without) are right =
    let p = task_of y budget room in
    let count : length (laws_of y) ≡ length laws = sym (ap length are) ∙ length-map laws instance_of in
    All-weaker (λ n. IsChoiceOf p.graph p.above (law_at p n)) (λ n. n < length laws) (λ n c. subst (λ m. n < m) count (choice_within (laws_of y) n c.choice))
    places
    (all_mapped (IsChoiceOf p.graph p.above) (law_at p) places (right.0).each)
has_places y budget room laws (Stopped stop) are right = tt

-- ---- no lawful drawing is kept back

formulas_unmodelled : (cs : Clauses) (more : Lines) → All IsNoModel more → All IsNoModel (map Formula cs ++ more)
formulas_unmodelled [] more all = all
formulas_unmodelled (c ∷ cs) more all = All-cons IsNoModel (Formula c) (map Formula cs ++ more) tt (formulas_unmodelled cs more all)

-- what the lines of a search are that stopped
abbrev StopsSo : Layout → (budget room : ℕ) → Outcome → Lines → Type 0
StopsSo y budget room (Exists d) lines = ⊤
StopsSo y budget room (Laws places without) lines = ⊤
StopsSo y budget room (Stopped stop) lines = IsCause budget room stop lines × KeepsNoneBack y lines

stops_so : (y : Layout) (budget room : ℕ) (o : Outcome) (cs : Clauses) (more : Lines) → HasAllLaws (task_of y budget room) →
    TellsOutcome (task_of y budget room) o (map Formula cs) more → StopsSo y budget room o (map Formula cs ++ more)
stops_so y budget room (Exists d) cs more all tells = tt
stops_so y budget room (Laws places without) cs more all tells = tt
stops_so y budget room (Stopped stop) cs more all (cause, inl unmodelled) =
    (cause, inl (λ there. All-contains IsNoModel (map Formula cs ++ more) Model (formulas_unmodelled cs more unmodelled) there))
stops_so y budget room (Stopped stop) cs more all (cause, inr none) = (cause, inr (none_meets_none_lawful (task_of y budget room) all none))

why_cause : (y : Layout) (budget room : ℕ) (o : Outcome) (w : Why) (lines : Lines) → clause_lines lines ≡ formula_lines y →
    StopsSo y budget room o lines → IsWhyOf (laws_of y) o w → IsWhyCause y budget room w lines
why_cause y budget room (Exists d) (why.Exists e) lines all tells is = all
why_cause y budget room (Exists d) (why.Laws names without) lines all tells is = absurd is
why_cause y budget room (Exists d) why.Spent lines all tells is = absurd is
why_cause y budget room (Exists d) why.Room lines all tells is = absurd is
why_cause y budget room (Laws places drawings) (why.Exists e) lines all tells is = absurd is
why_cause y budget room (Laws places drawings) (why.Laws names without) lines all tells is = all
why_cause y budget room (Laws places drawings) why.Spent lines all tells is = absurd is
why_cause y budget room (Laws places drawings) why.Room lines all tells is = absurd is
why_cause y budget room (Stopped BudgetSpent) (why.Exists e) lines all tells is = absurd is
why_cause y budget room (Stopped BudgetSpent) (why.Laws names without) lines all tells is = absurd is
why_cause y budget room (Stopped BudgetSpent) why.Spent lines all tells is = (all, tells.0, tells.1)
why_cause y budget room (Stopped BudgetSpent) why.Room lines all tells is = absurd is
why_cause y budget room (Stopped RoomFull) (why.Exists e) lines all tells is = absurd is
why_cause y budget room (Stopped RoomFull) (why.Laws names without) lines all tells is = absurd is
why_cause y budget room (Stopped RoomFull) why.Spent lines all tells is = absurd is
why_cause y budget room (Stopped RoomFull) why.Room lines all tells is = inr (all, tells.0, tells.1)

why_log : (y : Layout) (budget room : ℕ) (k : Kept) (o : Outcome) (w : Why) (lines : Lines) → KnowsWhy (task_of y budget room) k lines →
    StopsSo y budget room o lines → IsWhyOf (laws_of y) o w → IsWhyLog y budget room w lines
why_log y budget room k o w lines h tells is = record {
  formed = (h.belongs).formed;
  derives = (h.belongs).derives;
  due = (h.belongs).due;
  begins = ([], sym h.told_are ∙ sym (append-nil (clause_lines lines)));
  fits = h.fits;
  within = subst (λ n. n ≤ budget) h.learnt_are h.spent;
  asked = h.asked;
  cause = why_cause y budget room o w lines h.told_are tells is;
}

pub whole_log : (y : Layout) (budget room : ℕ) (laws : List Law) (f : Cnf) (o : Outcome) (w : Why) (old mid new : Kept) (l0 l1 l2 : Lines → Type 0)
    (n0 n1 n2 : ℕ) → HasFormula y room laws f → old ≡ blank room → HasTaken (with_more_vars old f.vars) mid f.clauses →
    GoesOn (λ ls. Belongs ls old) (λ ls. Belongs ls mid) l0 l1 n0 n1 (λ lines more. more ≡ map Formula f.clauses) →
    GoesOn (KnowsWhy (task_of y budget room) mid) (KnowsWhy (task_of y budget room) new) l1 l2 n1 n2
    (λ lines more. TellsOutcome (task_of y budget room) o lines more) → IsWhyOf (laws_of y) o w →
    (lines : Lines) × IsToldTo l0 l2 n0 n2 lines × IsWhyLog y budget room w lines
whole_log y budget room laws f o w old mid new l0 l1 l2 n0 n1 n2 has blank_is t goes search is =
    let start = formula_lines y in
    let p = task_of y budget room in
    let s : ToldBehind (KnowsWhy (task_of y budget room) new) l1 l2 n1 n2 start (λ more. TellsOutcome p o start more) = search start
    (begun_knows y budget room laws f old mid l0 l1 n0 n1 has blank_is t goes) in
    let second : ToldBehind (IsLogOfSolver new) l1 l2 n1 n2 start (λ more. IsWhyLog y budget room w (start ++ more)) = record {
      more = s.more;
      knows = record { belongs = (s.knows).belongs; learnt = (s.knows).learnt_are };
      told = s.told;
      counted = s.counted;
      does = why_log y budget room new o w (start ++ s.more) s.knows
          (stops_so y budget room o (formula_of y) s.more (all_searched y budget room has.ordered) s.does) is;
    } in
    let whole = told_whole start (IsWhyLog y budget room w) room old mid new l0 l1 l2 n0 n1 n2 blank_is
    (goes_weaker (λ ls. Belongs ls old) (λ ls. Belongs ls mid) l0 l1 n0 n1 (λ lines more. more ≡ map Formula f.clauses) (λ lines more. more ≡ start) goes
    (λ lines more does. does ∙ ap (map Formula) has.clauses)) second in
    (whole.0, whole.1, whole.2)

-- ---- no room for the formula

pub nothing_told : (y : Layout) (budget room n : ℕ) (log : Lines → Type 0) → FormulaPasses y room →
    (lines : Lines) × IsToldTo log log n n lines × IsWhyLog y budget room why.Room lines
nothing_told y budget room n log passes = (
  [],
  record { behind = λ ls t. subst log (sym (append-nil ls)) t; counted = refl },
  record {
    formed = tt;
    derives = derives_none;
    due = λ i c at. absurd (cc);
    begins = (formula_lines y, refl);
    fits = omega arith;
    within = omega arith;
    asked = behind_none (IsLawPlaced (task_of y budget room));
    cause = inl (refl, passes);
  },
)

-- ---- errors

-- nothing was told
pub left_none : (y : Layout) (budget : ℕ) (log : Lines → Type 0) → ((a b : Lines) → log a → log b → a ≡ b) → log [] → (lines : Lines) → log lines →
    IsWhyLeft y budget lines
left_none y budget log one none lines is = subst (IsWhyLeft y budget) (one [] lines none is) (record {
  derives = derives_none;
  begins = (formula_lines y, refl);
  within = counted_within budget [] (omega arith);
})

-- an error in the formula's clauses
pub left_begun : (y : Layout) (budget room : ℕ) (laws : List Law) (f : Cnf) (old : Kept) (l0 l1 : Lines → Type 0) →
    HasFormula y room laws f → old ≡ blank room →
    Leaves 0 (map Formula f.clauses) (λ ls. Belongs ls old) l0 l1 → l0 [] → (lines : Lines) → l1 lines → IsWhyLeft y budget lines
left_begun y budget room laws f old l0 l1 has blank_is h none lines told =
    let left = h [] (new_belongs old room blank_is) none lines told in
    record {
      derives = left.derives;
      begins = (left.begins.0, ap (map Formula) (sym has.clauses) ∙ left.begins.1 ∙ ap (λ (ls : Lines). ls ++ left.begins.0) (sym left.gives));
      within = few_left 0 budget [] lines (omega arith) (omega arith) left.few;
    }

-- an error behind them
pub left_later : (y : Layout) (budget room : ℕ) (laws : List Law) (f : Cnf) (old mid : Kept) (l0 l1 l2 : Lines → Type 0) (n0 n1 : ℕ) →
    HasFormula y room laws f → old ≡ blank room → HasTaken (with_more_vars old f.vars) mid f.clauses →
    GoesOn (λ ls. Belongs ls old) (λ ls. Belongs ls mid) l0 l1 n0 n1 (λ lines more. more ≡ map Formula f.clauses) →
    Leaves budget [] (KnowsWhy (task_of y budget room) mid) l1 l2 → l0 [] → (lines : Lines) → l2 lines → IsWhyLeft y budget lines
left_later y budget room laws f old mid l0 l1 l2 n0 n1 has blank_is t goes h none lines told =
    let start = formula_lines y in
    let run : ToldBehind (λ ls. Belongs ls mid) l0 l1 n0 n1 [] (λ more. more ≡ map Formula f.clauses) = goes [] (new_belongs old room blank_is) in
    let began : l1 start = subst l1 (run.does ∙ ap (map Formula) has.clauses) (run.told [] none) in
    let knows = begun_knows y budget room laws f old mid l0 l1 n0 n1 has blank_is t goes in
    let left = h start knows began lines told in
    let nothing : left.front ≡ [] = nothing_begins left.front left.begins.0 (left.begins.1) in
    record {
      derives = left.derives;
      begins = (
        [],
        sym knows.told_are ∙ sym (append-nil (clause_lines start)) ∙ ap (λ (ls : Lines). clause_lines start ++ ls) (sym nothing) ∙ sym left.gives
            ∙ sym (append-nil (clause_lines lines)),
      );
      within = few_left budget budget start lines (omega arith) (subst (λ n. n ≤ budget) knows.learnt_are knows.spent) left.few;
    }
  where
    nothing_begins : (front rest : Lines) → [] ≡ front ++ rest → front ≡ []
    nothing_begins [] rest e = refl
    nothing_begins (l ∷ front) rest e = absurd (cc)
