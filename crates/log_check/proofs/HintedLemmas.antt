-- What good hinted lines say of assignments that satisfy the clauses, and what is known of those that were accepted.
use Rattle.std.proofs.Common.{◌≡◌, ℕ, ◌+◌, List, [], ◌∷◌, ◌++◌, map, take, refl, sym, ◌∙◌, ap, subst, inl, inr, append-nil}
use Rattle.std.specs.Prelude.{Contains, flat_map, ◌↔◌, false, Any}
use Rattle.std.proofs.lemmas.Grind.{flat_map-append}
use Rattle.std.proofs.lemmas.List.Elements.{All-contains, Contains-append_right, Contains-append_cases, Contains-push_cases}
use Rattle.plan_core.specs.declared.criterion.Values.{Values}
use Rattle.plan_core.specs.declared.criterion.Criterion.{Criterion}
use Rattle.plan_core.specs.Values.{Better}
use Rattle.plan_core.proofs.Listing.{Contains-head}
use Rattle.cnf_core.specs.Lit.{Literal}
use Rattle.cnf_core.specs.Clause.{Clauses, HasAllOf}
use Rattle.cnf_core.specs.declared.literal.Var.{Var}
use Rattle.cnf_core.specs.Assignment.{Assignment, Satisfies, SatisfiesAll}
use Rattle.cnf_core.proofs.ClauseLemmas.{satisfies_append}
use Rattle.cnf_core.proofs.PropagationLemmas.{rup_sound}
use Rattle.cnf_core.proofs.QuantifierLemmas.{each_from_satisfies}
use Rattle.refute_log.specs.declared.line.LogLine.TheVariants as lines
use Rattle.refute_log.specs.Told.{Lines}
use Rattle.refute_log.specs.Log.{given, refuted, facts_of, clause_lines}
use Rattle.refute_check.specs.Kept.{CheckedFacts, Refutes as RefutesLog}
use Rattle.refute_log.specs.Bounds.{MeetsLog}
use Rattle.refute_log.specs.Certified.{Certifies, CertifiesNone}
use Rattle.refute_log.proofs.CertifiedLemmas.{Agrees, none_better_agrees}
use Rattle.refute_check.specs.declared.told_bound.ToldBound.{ToldBound}
use Rattle.refute_check.specs.Lacking.{told_bound, KnowsLog}
use Rattle.refute_check.proofs.JudgeLemmas.{nothing}
use Rattle.hint_log.specs.declared.hint_line.HintLine.{HintLine}
use Rattle.hint_log.specs.declared.hint_line.HintLine.TheVariants.{Learnt, Refuted}
use Rattle.hint_log.specs.Checked.{HintFacts, refuted_of, RefutesByHints}
use Rattle.hint_log.specs.HintedLines.{HintLines, line_of, AreGood}
use Rattle.hint_log.proofs.HintLemmas.{good_follows}
use Rattle.log_check.specs.Hinted.{log_of, AreClauseLines, MeetsHints, KnowsHints}

-- ---- the clauses of good lines are satisfied

good_hold : (a : Assignment) (clauses : Clauses) (hints : HintLines) → AreGood clauses hints → SatisfiesAll a clauses →
    SatisfiesAll a (flat_map refuted_of hints)
good_hold a clauses [] good h = tt
good_hold a clauses (Learnt lits ns ∷ hints) good h =
    let holds = rup_sound a clauses lits (good_follows clauses lits ns good.0) h in
    good_hold a (clauses ++ lits ∷ []) hints good.1 (satisfies_append a clauses (lits ∷ []) h (holds, tt))
good_hold a clauses (Refuted lits ns ∷ hints) good h =
    let holds = rup_sound a clauses lits (good_follows clauses lits ns good.0) h in
    (holds, good_hold a clauses hints (subst (λ (cs : Clauses). AreGood cs hints) (append-nil clauses) good.1) h)

-- ---- which lines the log has

no_refuted : (ls : Lines) (c : List Literal) → Contains (clause_lines ls) (lines.Refuted c) → ⊥
no_refuted [] c h = nothing (lines.Refuted c) ⊥ h
no_refuted (lines.Formula d ∷ ls) c h = elim (Contains-append_cases (lines.Formula d ∷ []) (clause_lines ls) (lines.Refuted c) h) [
  | inl one ↦ first one
  | inr more ↦ no_refuted ls c more
]
  where
    first : Contains (lines.Formula d ∷ []) (lines.Refuted c) → ⊥
    first one = elim (Contains-push_cases [] (lines.Formula d) (lines.Refuted c) one) [
      | inl before ↦ nothing (lines.Refuted c) ⊥ before
      | inr same ↦ cc
    ]
no_refuted (lines.Bound d k x ∷ ls) c h = elim (Contains-append_cases (lines.Bound d k x ∷ []) (clause_lines ls) (lines.Refuted c) h) [
  | inl one ↦ first one
  | inr more ↦ no_refuted ls c more
]
  where
    first : Contains (lines.Bound d k x ∷ []) (lines.Refuted c) → ⊥
    first one = elim (Contains-push_cases [] (lines.Bound d k x) (lines.Refuted c) one) [
      | inl before ↦ nothing (lines.Refuted c) ⊥ before
      | inr same ↦ cc
    ]
no_refuted (lines.Learnt d ∷ ls) c h = no_refuted ls c h
no_refuted (lines.Query d ∷ ls) c h = no_refuted ls c h
no_refuted (lines.Refuted d ∷ ls) c h = no_refuted ls c h
no_refuted (lines.Model ∷ ls) c h = no_refuted ls c h

-- a refuted clause of the log is one of the hinted lines'
hinted_refuted : (hints : HintLines) (c : List Literal) → Contains (map line_of hints) (lines.Refuted c) → Contains (flat_map refuted_of hints) c
hinted_refuted [] c h = nothing (lines.Refuted c) (Contains [] c) h
hinted_refuted (Learnt d ns ∷ hints) c h = elim (Contains-append_cases (lines.Learnt d ∷ []) (map line_of hints) (lines.Refuted c) h) [
  | inl one ↦ first one
  | inr more ↦ hinted_refuted hints c more
]
  where
    first : Contains (lines.Learnt d ∷ []) (lines.Refuted c) → Contains (flat_map refuted_of hints) c
    first one = elim (Contains-push_cases [] (lines.Learnt d) (lines.Refuted c) one) [
      | inl before ↦ nothing (lines.Refuted c) (Contains (flat_map refuted_of hints) c) before
      | inr same ↦ absurd (cc)
    ]
hinted_refuted (Refuted d ns ∷ hints) c h = elim (Contains-append_cases (lines.Refuted d ∷ []) (map line_of hints) (lines.Refuted c) h) [
  | inl one ↦ first one
  | inr more ↦ Contains-append_right (d ∷ []) (flat_map refuted_of hints) c (hinted_refuted hints c more)
]
  where
    first : Contains (lines.Refuted d ∷ []) (lines.Refuted c) → Contains (d ∷ flat_map refuted_of hints) c
    first one = elim (Contains-push_cases [] (lines.Refuted d) (lines.Refuted c) one) [
      | inl before ↦ nothing (lines.Refuted c) (Contains (d ∷ flat_map refuted_of hints) c) before
      | inr same ↦ let e : d ≡ c = cc in subst (Contains (d ∷ flat_map refuted_of hints)) e (Contains-head d (flat_map refuted_of hints))
    ]

-- no hinted line is a Bound line
no_bound : (hints : HintLines) (c : Criterion) (k : ℕ) (x : Var) → Contains (map line_of hints) (lines.Bound c k x) → ⊥
no_bound [] c k x h = nothing (lines.Bound c k x) ⊥ h
no_bound (hint ∷ hints) c k x h = elim (Contains-append_cases (line_of hint ∷ []) (map line_of hints) (lines.Bound c k x) h) [
  | inl one ↦ elim (Contains-push_cases [] (line_of hint) (lines.Bound c k x) one) [
    | inl before ↦ nothing (lines.Bound c k x) ⊥ before
    | inr same ↦ other hint same
  ]
  | inr more ↦ no_bound hints c k x more
]
  where
    other : (hint : HintLine) → line_of hint ≡ lines.Bound c k x → ⊥
    other (Learnt d ns) e = cc
    other (Refuted d ns) e = cc

refuted_hold : (a : Assignment) (told : Lines) (hints : HintLines) → AreClauseLines told → AreGood (flat_map given told) hints →
    SatisfiesAll a (flat_map given told) → (c : List Literal) → Contains (log_of told hints) (lines.Refuted c) → Satisfies a c
refuted_hold a told hints alone good h c there = elim (Contains-append_cases told (map line_of hints) (lines.Refuted c) there) [
  | inl early ↦ absurd (no_refuted told c (subst (λ (ls : Lines). Contains ls (lines.Refuted c)) (sym alone) early))
  | inr late ↦
      All-contains (Satisfies a) (flat_map refuted_of hints) c (each_from_satisfies a (flat_map refuted_of hints)
      (good_hold a (flat_map given told) hints good h))
      (hinted_refuted hints c late)
]

-- ---- values that meet the told lines

agrees_with_log : (told : Lines) (hints : HintLines) (w : Values) → AreClauseLines told → MeetsLog told w → AreGood (flat_map given told) hints →
    Agrees (log_of told hints) w
agrees_with_log told hints w alone m good = record {
  assignment = m.assignment;
  refuted = refuted_hold m.assignment told hints alone good m.formula;
  bounds = λ c k x there t. elim (Contains-append_cases told (map line_of hints) (lines.Bound c k x) there) [
    | inl early ↦ (m.bounds c k x early).0 t
    | inr late ↦ absurd (no_bound hints c k x late)
  ];
}

pub none_better : (greatest : Criterion → ℕ) (told : Lines) (hints : HintLines) (order : List Criterion) (v w : Values) (s : ℕ) → MeetsHints told hints w →
    Certifies greatest (log_of told hints) order v s → Better (take s order) w v → ⊥
none_better greatest told hints order v w s m certified b = none_better_agrees greatest (log_of told hints) order v w s
    (agrees_with_log told hints w m.alone m.meets m.good) certified b

pub none_meets : (told : Lines) (hints : HintLines) (w : Values) → MeetsHints told hints w → CertifiesNone (log_of told hints) → ⊥
none_meets told hints w m none = refuted_hold m.meets.assignment told hints m.alone m.good m.meets.formula [] none

-- ---- what a checker that accepted the lines knows of the log

refuted_of_clauses : (ls : Lines) → flat_map refuted (clause_lines ls) ≡ []
refuted_of_clauses [] = refl
refuted_of_clauses (lines.Formula c ∷ ls) = refuted_of_clauses ls
refuted_of_clauses (lines.Bound c k x ∷ ls) = refuted_of_clauses ls
refuted_of_clauses (lines.Learnt c ∷ ls) = refuted_of_clauses ls
refuted_of_clauses (lines.Query c ∷ ls) = refuted_of_clauses ls
refuted_of_clauses (lines.Refuted c ∷ ls) = refuted_of_clauses ls
refuted_of_clauses (lines.Model ∷ ls) = refuted_of_clauses ls

refuted_of_hints : (hints : HintLines) → flat_map refuted (map line_of hints) ≡ flat_map refuted_of hints
refuted_of_hints [] = refl
refuted_of_hints (Learnt c ns ∷ hints) = refuted_of_hints hints
refuted_of_hints (Refuted c ns ∷ hints) = ap (λ (cs : Clauses). c ∷ cs) (refuted_of_hints hints)

bounds_of_hints : (hints : HintLines) → flat_map told_bound (map line_of hints) ≡ []
bounds_of_hints [] = refl
bounds_of_hints (Learnt c ns ∷ hints) = bounds_of_hints hints
bounds_of_hints (Refuted c ns ∷ hints) = bounds_of_hints hints

pub refuted_in_log : (told : Lines) (hints : HintLines) → AreClauseLines told → flat_map refuted (log_of told hints) ≡ flat_map refuted_of hints
refuted_in_log told hints alone =
    flat_map-append refuted told (map line_of hints)
    ∙ ap (λ (cs : Clauses). cs ++ flat_map refuted (map line_of hints)) (ap (λ (ls : Lines). flat_map refuted ls) (sym alone) ∙ refuted_of_clauses told)
    ∙ refuted_of_hints hints

-- what a checker of logs would keep of it
abbrev pub kept_as : Lines → CheckedFacts
kept_as log = record { room = 0; facts = facts_of log; lost = false }

pub knows_log : (told : Lines) (hints : HintLines) (kept : HintFacts) (bounds : List ToldBound) → KnowsHints told hints kept bounds →
    KnowsLog (log_of told hints) (kept_as (log_of told hints)) bounds
knows_log told hints kept bounds k = record {
  facts = refl;
  told =
      k.bounds_are ∙ sym (append-nil (flat_map told_bound told))
      ∙ ap (λ (bs : List ToldBound). flat_map told_bound told ++ bs) (sym (bounds_of_hints hints)) ∙ sym (flat_map-append told_bound told (map line_of hints));
}

pub refutes_same : (told : Lines) (hints : HintLines) (kept : HintFacts) (bounds : List ToldBound) (allowed : List Literal) →
    KnowsHints told hints kept bounds → RefutesByHints kept allowed ↔ RefutesLog (kept_as (log_of told hints)) allowed
refutes_same told hints kept bounds allowed k =
    let same : kept.refuted ≡ flat_map refuted (log_of told hints) = k.refuted ∙ sym (refuted_in_log told hints k.alone) in (
      subst (λ (cs : Clauses). Any (λ c. HasAllOf allowed c) cs) same,
      subst (λ (cs : Clauses). Any (λ c. HasAllOf allowed c) cs) (sym same),
    )
