-- One criterion made least: what each answer to a question says.
use Rattle.std.proofs.Common.{◌≡◌, ℕ, zero, suc, ◌+◌, ◌<◌, ◌≤◌, ◌⊎◌, List, [], ◌∷◌, ◌++◌, take, get_or, sym, ◌∙◌, ap, subst, inl, inr, arith}
use Rattle.std.specs.Prelude.{All, Any, Contains, Some, slice_get}
use Rattle.std.proofs.lemmas.List.{get_or-take, length-take}
use Rattle.std.proofs.lemmas.Option.{slice_get_within, get_or_from_slice_get}
use Rattle.std.proofs.lemmas.List.Elements.{All-nil, All-cons, All-head, All-tail, All-contains, All-weaker, Contains-append_left, Contains-append_cases}
use Rattle.std.proofs.lemmas.List.Elements.{Contains-push_cases}
use Rattle.plan_core.specs.declared.criterion.Values.{Values}
use Rattle.plan_core.specs.declared.criterion.Criterion.{Criterion}
use Rattle.plan_core.specs.Values.{values_of, value_of, Better}
use Rattle.plan_core.specs.Drawing.{Drawing}
use Rattle.cnf_core.specs.Lit.{Literal}
use Rattle.refute_log.specs.declared.line.LogLine.TheVariants.{Refuted, Model}
use Rattle.refute_log.specs.Told.{Lines}
use Rattle.refute_log.specs.Log.{Derives}
use Rattle.refute_log.specs.Bounds.{SaysAtLeast, CoversDrawings}
use Rattle.refute_log.specs.Certified.{Certifies, IsOutOfReach, IsCertifiedLeast}
use Rattle.refute_log.proofs.CertifiedLemmas.{none_better, certifies_more, certifies_same, certifies_next, out_of_reach_more, out_of_reach_same}
use Rattle.search_least.specs.declared.oracle.Below.{Below}
use Rattle.search_least.specs.Task.{Task, IsLawful, greatest_of}
use Rattle.search_least.specs.Asked.{below_limit, AreOnce, AreMet, IsAsked, AreAgainst}
use Rattle.search_least.specs.Reached.{IsAnswerAt, Reached, Holds, HasSameValues}
use Rattle.search_least.proofs.QuestionLemmas.{refuted_at_end, refuted_before, not_model, not_nothing, same_refuted, ends_in, met_found, met_refuted}
use Rattle.search_least.proofs.QuestionLemmas.{met_stopped}
use Rattle.search_least.proofs.PlacedLemmas.{placed_found, placed_refuted, placed_stopped}

-- values that aren't greater and aren't better are the same
pub same_from_least : (xs : List Criterion) (e v : Values) → All (λ c. value_of e c ≤ value_of v c) xs → (Better xs e v → ⊥) →
    All (λ c. value_of v c ≡ value_of e c) xs
same_from_least [] e v le none = All-nil (λ c. value_of v c ≡ value_of e c)
same_from_least (c ∷ xs) e v le none =
    let here : value_of e c ≤ value_of v c = All-head (λ c. value_of e c ≤ value_of v c) c xs le in
    let not_less : value_of e c < value_of v c → ⊥ = λ lt. none (inl lt) in
    let same : value_of v c ≡ value_of e c = equal (value_of e c) (value_of v c) here not_less in
    All-cons (λ c. value_of v c ≡ value_of e c) c xs same
    (same_from_least xs e v (All-tail (λ c. value_of e c ≤ value_of v c) c xs le) (λ b. none (inr (sym same, b))))
  where
    equal : (m n : ℕ) → m ≤ n → (m < n → ⊥) → n ≡ m
    equal m n le none = grind (arith, none)

-- a drawing that meets the held bounds isn't greater on the held criteria
pub not_greater : (p : Task) (order : List Criterion) (i : ℕ) (held : List Below) (v e : Values) (b : Below) → Holds p order i held v →
    ((c : Criterion) → value_of e c ≤ greatest_of p c) → AreMet e (held ++ b ∷ []) → All (λ c. value_of e c ≤ value_of v c) (take i order)
not_greater p order i held v e b holds within met =
    All-weaker (λ c. Contains held (below_limit c (value_of v c + 1)) ⊎ (greatest_of p c ≤ value_of v c)) (λ c. value_of e c ≤ value_of v c) by_bound
    (take i order) holds.all
  where
    by_bound : (c : Criterion) → Contains held (below_limit c (value_of v c + 1)) ⊎ (greatest_of p c ≤ value_of v c) → value_of e c ≤ value_of v c
    by_bound c (inl there) =
        let lt : value_of e c < value_of v c + 1 = All-contains (λ (b : Below). value_of e b.criterion < b.limit) (held ++ b ∷ [])
        (below_limit c (value_of v c + 1)) met (Contains-append_left held (b ∷ []) (below_limit c (value_of v c + 1)) there) in
        omega arith
    by_bound c (inr le) = let w = within c in omega arith

-- the first j of the first i
pub take_of_take : (order : List Criterion) (i j : ℕ) (P : Criterion → Type 0) → j ≤ i → All P (take i order) → All P (take j order)
take_of_take [] i zero P le all = All-nil P
take_of_take [] i (suc j) P le all = All-nil P
take_of_take (c ∷ xs) i zero P le all = All-nil P
take_of_take (c ∷ xs) zero (suc j) P le all = absurd (omega arith)
take_of_take (c ∷ xs) (suc i) (suc j) P le all = All-cons P c (take j xs) (All-head P c (take i xs) all)
    (take_of_take xs i j P (omega arith) (All-tail P c (take i xs) all))

pub at_place : (order : List Criterion) (i j : ℕ) (c : Criterion) (P : Criterion → Type 0) → j < i → slice_get order j ≡ Some c → All P (take i order) → P c
at_place order i j c P lt e all =
    let low = slice_get_within order j c e in
    let is : get_or (take i order) j c ≡ c = get_or-take i order j c lt ∙ get_or_from_slice_get order j c c e in
    subst P is (all j c (omega (arith, low, length-take i order)))

pub answer_longer : (p : Task) (lines more : Lines) (order : List Criterion) (v : Values) (i : ℕ) (clause : List Literal) →
    IsAnswerAt (greatest_of p) lines order v i clause → IsAnswerAt (greatest_of p) (lines ++ more) order v i clause
answer_longer p lines more order v i clause a = record {
  place = a.place;
  before = a.before;
  criterion = a.criterion;
  there = a.there;
  each = All-weaker (IsOutOfReach (greatest_of p) lines (take a.place order) a.criterion v)
      (IsOutOfReach (greatest_of p) (lines ++ more) (take a.place order) a.criterion v)
      (out_of_reach_more (greatest_of p) lines more (take a.place order) a.criterion v) clause a.each;
}

pub answer_same : (p : Task) (lines : Lines) (order : List Criterion) (v w : Values) (i : ℕ) (clause : List Literal) → HasSameValues order i v w →
    IsAnswerAt (greatest_of p) lines order v i clause → IsAnswerAt (greatest_of p) lines order w i clause
answer_same p lines order v w i clause same a =
    let P : Criterion → Type 0 = λ c. value_of v c ≡ value_of w c in
    record {
      place = a.place;
      before = a.before;
      criterion = a.criterion;
      there = a.there;
      each = All-weaker (IsOutOfReach (greatest_of p) lines (take a.place order) a.criterion v)
          (IsOutOfReach (greatest_of p) lines (take a.place order) a.criterion w)
          (λ l. out_of_reach_same (greatest_of p) lines (take a.place order) a.criterion v w l
          (take_of_take order i a.place P (let lt = a.before in omega arith) same) (at_place order i a.place a.criterion P a.before a.there same))
          clause a.each;
    }

pub answer_later : (p : Task) (lines : Lines) (order : List Criterion) (v : Values) (i : ℕ) (clause : List Literal) →
    IsAnswerAt (greatest_of p) lines order v i clause → IsAnswerAt (greatest_of p) lines order v (i + 1) clause
answer_later p lines order v i clause a = record {
  place = a.place;
  before = (let lt = a.before in omega arith);
  criterion = a.criterion;
  there = a.there;
  each = a.each;
}

-- ---- what the answers say; the lines so far are now, those of the question more

pub same_then : (order : List Criterion) (i : ℕ) (u v w : Values) → HasSameValues order i u v → HasSameValues order i v w → HasSameValues order i u w
same_then order i u v w h k = λ n d lt. h n d lt ∙ k n d lt

pub same_back : (order : List Criterion) (i : ℕ) (v w : Values) → HasSameValues order i v w → HasSameValues order i w v
same_back order i v w h = λ n d lt. sym (h n d lt)

-- a drawing was found: it has the values of the first, on the held criteria
pub found_same : (p : Task) (order : List Criterion) (i : ℕ) (held : List Below) (b : Below) (first d e : Drawing) (now : Lines) →
    CoversDrawings p.graph p.above p.grid now → Derives now → ((c : Criterion) → value_of (values_of e) c ≤ greatest_of p c) →
    IsLawful p e → AreMet (values_of e) (held ++ b ∷ []) → Holds p order i held (values_of first) → HasSameValues order i (values_of first) (values_of d) →
    Certifies (greatest_of p) now order (values_of d) i →
    HasSameValues order i (values_of first) (values_of e)
found_same p order i held b first d e now covers derives within lawful met holds same cert =
    same_from_least (take i order) (values_of e) (values_of first) (not_greater p order i held (values_of first) (values_of e) b holds within met)
    (none_better (greatest_of p) now order (values_of first) (values_of e) i (covers e lawful) derives
    (certifies_same (greatest_of p) now order (values_of d) (values_of first) i (same_back order i (values_of first) (values_of d) same) cert))

pub found_reached : (p : Task) (order : List Criterion) (i : ℕ) (bounds : List Below) (d e : Drawing) (now more : Lines) →
    Reached p order i d now → AreOnce bounds → IsLawful p e → AreMet (values_of e) bounds → HasSameValues order i (values_of d) (values_of e) →
    IsAsked now bounds (Model ∷ []) more → Reached p order i e (now ++ more)
found_reached p order i bounds d e now more r once lawful met same asked = record {
  lawful = lawful;
  met = met_found now bounds more (values_of e) asked met;
  certified = certifies_same (greatest_of p) (now ++ more) order (values_of d) (values_of e) i same
      (certifies_more (greatest_of p) now more order (values_of d) i r.certified);
  answered = λ clause there. answer_same p (now ++ more) order (values_of d) (values_of e) i clause same
      (answer_longer p now more order (values_of d) i clause (r.answered clause (refuted_before now bounds (Model ∷ []) more clause asked (not_model clause)
      there)));
  placed = placed_found p order now bounds more e once lawful met asked r.placed;
}

-- the search stopped
pub stopped_reached : (p : Task) (order : List Criterion) (i : ℕ) (bounds : List Below) (d : Drawing) (now more : Lines) →
    Reached p order i d now → AreOnce bounds → IsAsked now bounds [] more → Reached p order i d (now ++ more)
stopped_reached p order i bounds d now more r once asked = record {
  lawful = r.lawful;
  met = met_stopped now bounds more (values_of d) asked r.met;
  certified = certifies_more (greatest_of p) now more order (values_of d) i r.certified;
  answered = λ clause there. answer_longer p now more order (values_of d) i clause
      (r.answered clause (refuted_before now bounds [] more clause asked (not_nothing clause) there));
  placed = placed_stopped p order now bounds more once asked r.placed;
}

-- there is no such drawing
against_excluded : (p : Task) (order : List Criterion) (i : ℕ) (held : List Below) (c : Criterion) (u : ℕ) (v : Values) (now : Lines) (l : Literal) →
    Holds p order i held v → u ≡ value_of v c → Any (λ b. SaysAtLeast (greatest_of p) now b.criterion b.limit l) (held ++ below_limit c u ∷ []) →
    IsOutOfReach (greatest_of p) now (take i order) c v l
against_excluded p order i held c u v now l holds is any =
    elim (Contains-push_cases held (below_limit c u) any.1 (any.0, any.2, any.3)) [
      | inl there ↦
          let h : Contains (take i order) (any.1).criterion × ((any.1).limit ≡ value_of v (any.1).criterion + 1) = All-contains
          (λ (b : Below). Contains (take i order) b.criterion × (b.limit ≡ value_of v b.criterion + 1)) held any.1 holds.each there in
          inl (h.0.0, (any.1).criterion, h.0.1, h.0.2, subst (λ n. SaysAtLeast (greatest_of p) now (any.1).criterion n l) h.1 any.4)
      | inr last ↦
          let s : SaysAtLeast (greatest_of p) now c u l = subst (λ (b : Below). SaysAtLeast (greatest_of p) now b.criterion b.limit l) (sym last) any.4 in
          inr (subst (λ n. SaysAtLeast (greatest_of p) now c n l) is s)
    ]

pub refuted_reached : (p : Task) (order : List Criterion) (i : ℕ) (held : List Below) (c : Criterion) (u : ℕ) (d : Drawing) (now more : Lines)
    (clause : List Literal) →
    slice_get order i ≡ Some c → u ≡ value_of (values_of d) c → Holds p order i held (values_of d) → Reached p order i d now →
    AreOnce (held ++ below_limit c u ∷ []) →
    AreAgainst (greatest_of p) now (held ++ below_limit c u ∷ []) clause → IsAsked now (held ++ below_limit c u ∷ []) (Refuted clause ∷ []) more →
    Reached p order (i + 1) d (now ++ more)
refuted_reached p order i held c u d now more clause at is holds r once against asked =
    let v = values_of d in
    let bounds = held ++ below_limit c u ∷ [] in
    let each : All (IsOutOfReach (greatest_of p) (now ++ more) (take i order) c v) clause = All-weaker
    (λ l. Any (λ b. SaysAtLeast (greatest_of p) now b.criterion b.limit l) bounds) (IsOutOfReach (greatest_of p) (now ++ more) (take i order) c v)
    (λ l any. out_of_reach_more (greatest_of p) now more (take i order) c v l (against_excluded p order i held c u v now l holds is any)) clause against in
    let least : IsCertifiedLeast (greatest_of p) (now ++ more) (take i order) c v = λ q. record {
      clause = clause;
      among = ends_in now bounds (Refuted clause) more asked;
      each = each;
    } in
    record {
      lawful = r.lawful;
      met = met_refuted now bounds more v clause asked r.met;
      certified = certifies_next (greatest_of p) (now ++ more) order v i c at (certifies_more (greatest_of p) now more order v i r.certified) least;
      answered = λ other there. elim (Contains-append_cases now more (Refuted other) there) [
        | inl before ↦ answer_later p (now ++ more) order v i other (answer_longer p now more order v i other (r.answered other before))
        | inr last ↦
            let same : clause ≡ other = same_refuted clause other (refuted_at_end now bounds (Refuted clause ∷ []) more other asked last) in
            record {
              place = i;
              before = omega arith;
              criterion = c;
              there = at;
              each = subst
                  (λ (ls : List Literal). All (IsOutOfReach (greatest_of p) (now ++ more) (take i order) c v) ls) same each;
            }
      ];
      placed = placed_refuted p order now bounds more clause once asked r.placed;
    }

-- the value is 0
pub zero_reached : (p : Task) (order : List Criterion) (i : ℕ) (c : Criterion) (d : Drawing) (now : Lines) → slice_get order i ≡ Some c →
    value_of (values_of d) c ≡ 0 →
    Reached p order i d now → Reached p order (i + 1) d now
zero_reached p order i c d now at is r = record {
  lawful = r.lawful;
  met = r.met;
  certified = certifies_next (greatest_of p) now order (values_of d) i c at r.certified (λ q. absurd (omega (arith, is, q)));
  answered = λ clause there. answer_later p now order (values_of d) i clause (r.answered clause there);
  placed = r.placed;
}

pub holds_same : (p : Task) (order : List Criterion) (i : ℕ) (held : List Below) (v w : Values) → HasSameValues order i v w → Holds p order i held v →
    Holds p order i held w
holds_same p order i held v w same h = record {
  each = All-weaker (λ b. Contains (take i order) b.criterion × (b.limit ≡ value_of v b.criterion + 1))
      (λ b. Contains (take i order) b.criterion × (b.limit ≡ value_of w b.criterion + 1))
      (λ b k. (k.0, k.1 ∙ ap (λ n. n + 1) (All-contains (λ c. value_of v c ≡ value_of w c) (take i order) b.criterion same k.0))) held h.each;
  all = λ k d lt. change (get_or (take i order) k d) (same k d lt) (h.all k d lt);
}
  where
    change : (c : Criterion) → value_of v c ≡ value_of w c → Contains held (below_limit c (value_of v c + 1)) ⊎ (greatest_of p c ≤ value_of v c) →
        Contains held (below_limit c (value_of w c + 1)) ⊎ (greatest_of p c ≤ value_of w c)
    change c e k = subst (λ n. Contains held (below_limit c (n + 1)) ⊎ (greatest_of p c ≤ n)) e k
