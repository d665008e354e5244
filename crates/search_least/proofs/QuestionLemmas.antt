-- What one question tells.
use Rattle.std.proofs.Common.{◌≡◌, List, [], ◌∷◌, ◌++◌, refl, sym, ◌∙◌, ap, subst, inl, inr, map}
use Rattle.std.specs.Prelude.{All, Contains, Some, None, Option, fold}
use Rattle.std.proofs.lemmas.Grind.{fold-append}
use Rattle.std.proofs.lemmas.List.Concat.{flat_map-cons}
use Rattle.std.proofs.lemmas.List.Elements.{All-nil, All-cons, All-map, All-contains, Contains-append_left, Contains-append_right, Contains-append_cases}
use Rattle.std.proofs.lemmas.List.Elements.{Contains-push}
use Rattle.cnf_core.specs.Lit.{Literal}
use Rattle.cnf_core.specs.Clause.{Clauses}
use Rattle.refute_log.specs.declared.line.LogLine.{LogLine}
use Rattle.refute_log.specs.declared.line.LogLine.TheVariants.{Learnt, Bound, Query, Refuted, Model}
use Rattle.refute_log.specs.Told.{Lines}
use Rattle.refute_log.specs.Log.{asked, clause_line, clause_lines}
use Rattle.search_least.specs.declared.oracle.Below.{Below}
use Rattle.plan_core.specs.declared.criterion.Values.{Values}
use Rattle.search_least.specs.Asked.{IsAsked, IsNegated, AreNegated, AreMet, Queries, after_line, queries, IsMet}
use Rattle.refute_log.proofs.StepLemmas.{learnt_no_clauses, clause_lines_append}

-- ---- the lines of one question

pub none_in : (xs : Lines) (x : LogLine) → All (λ l. l ≡ x → ⊥) xs → Contains xs x → ⊥
none_in xs x all there = All-contains (λ (l : LogLine). l ≡ x → ⊥) xs x all there refl

no_learnt : (clauses : Clauses) (clause : List Literal) → All (λ l. l ≡ Refuted clause → ⊥) (map Learnt clauses)
no_learnt clauses clause = All-map (λ (l : LogLine). l ≡ Refuted clause → ⊥) Learnt clauses (λ k d lt e. cc)

-- a Refuted line of the question stands at its end
pub refuted_at_end : (lines : Lines) (bounds : List Below) (ending more : Lines) (clause : List Literal) → IsAsked lines bounds ending more →
    Contains more (Refuted clause) → Contains ending (Refuted clause)
refuted_at_end lines bounds ending more clause asked there =
    let h : Contains ((Query asked.query ∷ []) ++ (map Learnt asked.clauses ++ ending)) (Refuted clause) = subst (λ (ls : Lines). Contains ls (Refuted clause))
    asked.is there in
    elim (Contains-append_cases (Query asked.query ∷ []) (map Learnt asked.clauses ++ ending) (Refuted clause) h) [
      | inl first ↦ absurd (none_in (Query asked.query ∷ []) (Refuted clause) (All-cons (λ (l : LogLine). l ≡ Refuted clause → ⊥) (Query asked.query) []
          (λ e. cc) (All-nil (λ (l : LogLine). l ≡ Refuted clause → ⊥))) first)
      | inr rest ↦ elim (Contains-append_cases (map Learnt asked.clauses) ending (Refuted clause) rest) [
        | inl k ↦ absurd (none_in (map Learnt asked.clauses) (Refuted clause) (no_learnt asked.clauses clause) k)
        | inr e ↦ e
      ]
    ]

-- no Refuted line where the end has none
pub refuted_before : (lines : Lines) (bounds : List Below) (ending more : Lines) (clause : List Literal) → IsAsked lines bounds ending more →
    (Contains ending (Refuted clause) → ⊥) →
    Contains (lines ++ more) (Refuted clause) → Contains lines (Refuted clause)
refuted_before lines bounds ending more clause asked none there = elim (Contains-append_cases lines more (Refuted clause) there) [
  | inl h ↦ h
  | inr h ↦ absurd (none (refuted_at_end lines bounds ending more clause asked h))
]

pub not_model : (clause : List Literal) → Contains (Model ∷ []) (Refuted clause) → ⊥
not_model clause there = none_in (Model ∷ []) (Refuted clause) (All-cons (λ (l : LogLine). l ≡ Refuted clause → ⊥) Model [] (λ e. cc)
    (All-nil (λ (l : LogLine). l ≡ Refuted clause → ⊥))) there

pub not_nothing : (clause : List Literal) → Contains [] (Refuted clause) → ⊥
not_nothing clause there = none_in [] (Refuted clause) (All-nil (λ (l : LogLine). l ≡ Refuted clause → ⊥)) there

pub same_refuted : (c d : List Literal) → Contains (Refuted c ∷ []) (Refuted d) → c ≡ d
same_refuted c d there = All-contains (λ (l : LogLine). l ≡ Refuted d → c ≡ d) (Refuted c ∷ []) (Refuted d)
    (All-cons (λ (l : LogLine). l ≡ Refuted d → c ≡ d) (Refuted c) [] (λ e. cc) (All-nil (λ (l : LogLine). l ≡ Refuted d → c ≡ d))) there refl

pub ends_in : (lines : Lines) (bounds : List Below) (line : LogLine) (more : Lines) → IsAsked lines bounds (line ∷ []) more → Contains (lines ++ more) line
ends_in lines bounds line more asked =
    let h : Contains ((Query asked.query ∷ []) ++ (map Learnt asked.clauses ++ line ∷ [])) line = Contains-append_right (Query asked.query ∷ [])
    (map Learnt asked.clauses ++ line ∷ []) line (Contains-push (map Learnt asked.clauses) line) in
    Contains-append_right lines more line (subst (λ (ls : Lines). Contains ls line) (sym asked.is) h)

-- ---- no clauses are told in a question

pub no_clauses_both : (xs ys : Lines) → clause_lines xs ≡ [] → clause_lines ys ≡ [] → clause_lines (xs ++ ys) ≡ []
no_clauses_both xs ys e f = clause_lines_append xs ys ∙ ap (λ (ls : Lines). ls ++ clause_lines ys) e ∙ f

pub asks_no_clauses : (lines : Lines) (bounds : List Below) (ending more : Lines) → IsAsked lines bounds ending more → clause_lines ending ≡ [] →
    clause_lines more ≡ []
asks_no_clauses lines bounds ending more asked none =
    ap clause_lines asked.is ∙ flat_map-cons clause_line (Query asked.query) (map Learnt asked.clauses ++ ending)
    ∙ no_clauses_both (map Learnt asked.clauses) ending (learnt_no_clauses asked.clauses) none

-- ---- the latest query before the last Model line

learnt_no_query : (q : Queries) (cs : Clauses) → fold after_line q (map Learnt cs) ≡ q
learnt_no_query q [] = refl
learnt_no_query q (c ∷ cs) = learnt_no_query q cs

pub question_queries : (lines : Lines) (query : List Literal) (cs : Clauses) (ending more : Lines) → more ≡ Query query ∷ (map Learnt cs ++ ending) →
    queries (lines ++ more) ≡ fold after_line (record { latest = Some query; modelled = (queries lines).modelled }) ending
question_queries lines query cs ending more is =
    let start : Queries = record { latest = None; modelled = None } in
    let next : Queries = record { latest = Some query; modelled = (queries lines).modelled } in
    fold-append after_line start lines more ∙ ap (fold after_line (queries lines)) is ∙ fold-append after_line next (map Learnt cs) ending
    ∙ ap (λ (q : Queries). fold after_line q ending) (learnt_no_query next cs)

pub asked_queries : (lines : Lines) (bounds : List Below) (ending more : Lines) (a : IsAsked lines bounds ending more) →
    queries (lines ++ more) ≡ fold after_line (record { latest = Some a.query; modelled = (queries lines).modelled }) ending
asked_queries lines bounds ending more a = question_queries lines a.query a.clauses ending more a.is

pub negated_longer : (lines more : Lines) (bounds : List Below) (query : List Literal) → AreNegated lines bounds query → AreNegated (lines ++ more) bounds query
negated_longer lines more [] [] h = tt
negated_longer lines more [] (l ∷ ls) h = absurd h
negated_longer lines more (b ∷ bs) [] h = absurd h
negated_longer lines more (b ∷ bs) (l ∷ ls) h =
    let n : IsNegated lines b l = h.0 in
    ((n.0, Contains-append_left lines more (Bound b.criterion b.limit n.0) n.1, n.2), negated_longer lines more bs ls h.1)

pub met_later : (lines more : Lines) (v : Values) → (queries (lines ++ more)).modelled ≡ (queries lines).modelled → IsMet lines v → IsMet (lines ++ more) v
met_later lines more v e m = record {
  query = m.query;
  modelled = e ∙ m.modelled;
  bounds = m.bounds;
  negated = negated_longer lines more m.bounds m.query m.negated;
  met = m.met;
}

pub met_found : (lines : Lines) (bounds : List Below) (more : Lines) (v : Values) → IsAsked lines bounds (Model ∷ []) more → AreMet v bounds →
    IsMet (lines ++ more) v
met_found lines bounds more v asked met = record {
  query = asked.query;
  modelled = ap (λ (q : Queries). q.modelled) (asked_queries lines bounds (Model ∷ []) more asked);
  bounds = bounds;
  negated = negated_longer lines more bounds asked.query asked.negated;
  met = met;
}

pub met_refuted : (lines : Lines) (bounds : List Below) (more : Lines) (v : Values) (clause : List Literal) → IsAsked lines bounds (Refuted clause ∷ []) more →
    IsMet lines v → IsMet (lines ++ more) v
met_refuted lines bounds more v clause asked m = met_later lines more v (ap (λ (q : Queries). q.modelled)
    (asked_queries lines bounds (Refuted clause ∷ []) more asked)) m

pub met_stopped : (lines : Lines) (bounds : List Below) (more : Lines) (v : Values) → IsAsked lines bounds [] more → IsMet lines v → IsMet (lines ++ more) v
met_stopped lines bounds more v asked m = met_later lines more v (ap (λ (q : Queries). q.modelled) (asked_queries lines bounds [] more asked)) m

-- a query is the latest behind learnt lines
pub query_stays : (q : Option (List Literal)) (cs : Clauses) → fold asked q (map Learnt cs) ≡ q
query_stays q [] = refl
query_stays q (c ∷ cs) = query_stays q cs
