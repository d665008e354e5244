-- From the least value of the first criterion to the next pair.
use Rattle.std.proofs.Common.{◌≡◌, ◌≢◌, ℕ, ◌+◌, ◌<◌, ◌≤◌, Bool, true, false, cond, List, [], ◌∷◌, refl, sym, subst, arith}
use Rattle.std.specs.Prelude.{All, Some, None, Option, MatchOption, nat_lt, ⊤}
use Rattle.std.proofs.lemmas.Bool.{ltb-true, ltb-false}
use Rattle.std.proofs.lemmas.List.Elements.{All-nil, All-cons, All-head}
use Rattle.plan_core.specs.declared.criterion.Criterion.{Criterion}
use Rattle.plan_core.specs.Values.{values_of, value_of}
use Rattle.plan_core.specs.Drawing.{Drawing}
use Rattle.plan_core.proofs.LimitLemmas.{value-le-limit}
use Rattle.refute_log.specs.Told.{Lines}
use Rattle.search_least.specs.declared.oracle.Below.{Below}
use Rattle.search_least.specs.declared.oracle.Reply.{Reply}
use Rattle.search_least.specs.declared.oracle.Reply.TheVariants.{Found}
use Rattle.search_least.specs.Task.{Task, IsLawful, greatest_of}
use Rattle.search_least.specs.Asked.{below_limit, AreMet, AreOnce, IsRightReply, IsWithinCap}
use Rattle.search_least.specs.State.{hold}
use Rattle.trade_off.specs.declared.collecting.Next.{Next}
use Rattle.trade_off.specs.declared.collecting.Next.TheVariants.{Pair, NoMore, Stopped}
use Rattle.trade_off.specs.Front.{IsAttained}
use Rattle.trade_off.specs.Least.{IsLeastUnder, NoneMeets, AreBeside}
use Rattle.trade_off.specs.Next.{IsUnder, under, IsNext, IsSecond, IsSecondOf, EndsNext}
use Rattle.trade_off.proofs.AskLemmas.{stops_as}

-- ---- one bound, or none

abbrev P : Drawing → Below → Type 0
P d b = value_of (values_of d) b.criterion < b.limit

pub under_meets : (c : Criterion) (limit : Option ℕ) (d : Drawing) → IsUnder limit (value_of (values_of d) c) → AreMet (values_of d) (under c limit)
under_meets c None d h = All-nil (P d)
under_meets c (Some limit) d h = All-cons (P d) (below_limit c limit) [] h (All-nil (P d))

pub meets_under : (c : Criterion) (limit : Option ℕ) (d : Drawing) → AreMet (values_of d) (under c limit) → IsUnder limit (value_of (values_of d) c)
meets_under c None d h = tt
meets_under c (Some limit) d h = All-head (P d) (below_limit c limit) [] h

beside_none : (c : Criterion) → AreBeside c []
beside_none c = record { once = λ i j d lt low. absurd (omega arith); other = All-nil (λ (b : Below). b.criterion ≢ c) }

beside_one : (c d : Criterion) (k : ℕ) → d ≢ c → AreBeside c (below_limit d k ∷ [])
beside_one c d k apart = record {
  once = λ i j x lt low. absurd (omega (arith, lt, low));
  other = All-cons (λ (b : Below). b.criterion ≢ c) (below_limit d k) [] apart (All-nil (λ (b : Below). b.criterion ≢ c));
}

pub under_beside : (c d : Criterion) (limit : Option ℕ) (held : List Below) → held ≡ under d limit → c ≢ d → AreBeside c held
under_beside c d limit held is apart = subst (AreBeside c) (sym is) (by limit)
  where
    by : (limit : Option ℕ) → AreBeside c (under d limit)
    by None = beside_none c
    by (Some k) = beside_one c d k (λ e. apart (sym e))

pub hold_beside : (c d : Criterion) (u most : ℕ) (held : List Below) → held ≡ hold d u most → d ≢ c → AreBeside c held
hold_beside c d u most held is apart = subst (AreBeside c) (sym is) (by (nat_lt u most))
  where
    by : (t : Bool) → AreBeside c (cond t (below_limit d (u + 1) ∷ []) [])
    by true = beside_one c d (u + 1) apart
    by false = beside_none c

pub under_within : (caps : Criterion → ℕ) (c : Criterion) (most : ℕ) (limit : Option ℕ) (held : List Below) → held ≡ under c limit → caps c ≡ most →
    MatchOption limit ⊤ (λ k. (1 ≤ k) × (k ≤ most)) → All (IsWithinCap caps) held
under_within caps c most limit held is cap h = subst (All (IsWithinCap caps)) (sym is) (by limit h)
  where
    by : (limit : Option ℕ) → MatchOption limit ⊤ (λ k. (1 ≤ k) × (k ≤ most)) → All (IsWithinCap caps) (under c limit)
    by None h = All-nil (IsWithinCap caps)
    by (Some k) h = All-cons (IsWithinCap caps) (below_limit c k) [] (h.0, subst (λ n. k ≤ n) (sym cap) h.1) (All-nil (IsWithinCap caps))

pub hold_within : (caps : Criterion → ℕ) (c : Criterion) (u most : ℕ) (held : List Below) → held ≡ hold c u most → caps c ≡ most → All (IsWithinCap caps) held
hold_within caps c u most held is cap = subst (All (IsWithinCap caps)) (sym is) (by (nat_lt u most) refl)
  where
    by : (t : Bool) → nat_lt u most ≡ t → All (IsWithinCap caps) (cond t (below_limit c (u + 1) ∷ []) [])
    by true e = All-cons (IsWithinCap caps) (below_limit c (u + 1)) [] (omega arith, (let lt = ltb-true u most e in omega (arith, lt, cap)))
        (All-nil (IsWithinCap caps))
    by false e = All-nil (IsWithinCap caps)

pub under_once : (c : Criterion) (limit : Option ℕ) (held : List Below) → held ≡ under c limit → AreOnce held
under_once c limit held is = subst AreOnce (sym is) (by limit)
  where
    by : (limit : Option ℕ) → AreOnce (under c limit)
    by None = λ i j d lt low. absurd (omega arith)
    by (Some k) = λ i j d lt low. absurd (omega (arith, lt, low))

pub found_fact : (p : Task) (bounds : List Below) (d : Drawing) (reply : Reply) → reply ≡ Found d → IsRightReply p bounds reply →
    IsLawful p d × AreMet (values_of d) bounds
found_fact p bounds d reply was fact = subst (IsRightReply p bounds) was fact

-- a drawing of no greater value meets it, and a lawful one that meets it has no greater value
pub hold_meets : (c : Criterion) (u most : ℕ) (held : List Below) (d : Drawing) → held ≡ hold c u most → value_of (values_of d) c ≤ u →
    AreMet (values_of d) held
hold_meets c u most held d is le = subst (AreMet (values_of d)) (sym is) (by (nat_lt u most))
  where
    by : (t : Bool) → AreMet (values_of d) (cond t (below_limit c (u + 1) ∷ []) [])
    by true = All-cons (P d) (below_limit c (u + 1)) [] (let h : value_of (values_of d) c < u + 1 = omega (arith, le) in h) (All-nil (P d))
    by false = All-nil (P d)

pub meets_hold : (p : Task) (c : Criterion) (u : ℕ) (held : List Below) (d : Drawing) → IsLawful p d → held ≡ hold c u (greatest_of p c) →
    AreMet (values_of d) held → value_of (values_of d) c ≤ u
meets_hold p c u held d lawful is met = by (nat_lt u (greatest_of p c)) refl (subst (AreMet (values_of d)) is met)
  where
    by : (t : Bool) → nat_lt u (greatest_of p c) ≡ t → AreMet (values_of d) (cond t (below_limit c (u + 1) ∷ []) []) → value_of (values_of d) c ≤ u
    by true e m = let lt : value_of (values_of d) c < u + 1 = All-head (P d) (below_limit c (u + 1)) [] m in omega (arith, lt)
    by false e m =
        let within : value_of (values_of d) c ≤ greatest_of p c = value-le-limit p.graph p.above p.grid d lawful c in
        let le = ltb-false u (greatest_of p c) e in
        omega (arith, within, le)

-- ---- the next pair

pub second_there : (p : Task) (a b : Criterion) (n m : ℕ) (held : List Below) (least d : Drawing) → n ≡ value_of (values_of least) a →
    m ≡ value_of (values_of d) b → held ≡ hold a n (greatest_of p a) →
    IsLawful p d → AreMet (values_of d) held → value_of (values_of d) b ≤ value_of (values_of least) b → IsLeastUnder p held b d → IsSecond p a b least n m
second_there p a b n m held least d first second is lawful met le h = record {
  drawing = d;
  lawful = lawful;
  first_is = first;
  first = meets_hold p a n held d lawful is met;
  second = sym second;
  no_more = omega (arith, second, le);
  least = λ e other under. let k : value_of (values_of d) b ≤ value_of (values_of e) b = h e other (hold_meets a n (greatest_of p a) held e is under) in omega
      (arith, second, k);
}

under_less : (limit : Option ℕ) (i j : ℕ) → j ≤ i → IsUnder limit i → IsUnder limit j
under_less None i j le h = tt
under_less (Some limit) i j le h = omega (arith, le, h)

pub next_from : (p : Task) (a b : Criterion) (limit : Option ℕ) (held : List Below) (d : Drawing) (next : Next) → held ≡ under b limit → IsLawful p d →
    AreMet (values_of d) held → IsLeastUnder p held a d →
    IsSecondOf p a b d next → IsNext (IsLawful p) a b limit next
next_from p a b limit held d (Stopped stop) is lawful met least h = tt
next_from p a b limit held d NoMore is lawful met least h = absurd h
next_from p a b limit held d (Pair n m) is lawful met least s =
    let low : IsUnder limit (value_of (values_of d) b) = meets_under b limit d (subst (AreMet (values_of d)) is met) in
    let e = s.drawing in
    let below : IsUnder limit m = under_less limit (value_of (values_of d) b) m s.no_more low in
    let least_there : (x : Drawing) → IsLawful p x → IsUnder limit (value_of (values_of x) b) → n ≤ value_of (values_of x) a =
    (λ x other under_it. let k : value_of (values_of d) a ≤ value_of (values_of x) a = least x other
    (subst (AreMet (values_of x)) (sym is) (under_meets b limit x under_it)) in let f = s.first_is in omega (arith, f, k)) in
    record {
      attained = record {
        drawing = e;
        is_one = s.lawful;
        first = (let f = s.first in let g = least_there e s.lawful (subst (IsUnder limit) (sym s.second) below) in omega (arith, f, g));
        second = s.second;
      };
      below = below;
      least_first = λ k l at low_l. subst (λ i. n ≤ i) at.first (least_there at.drawing at.is_one (subst (IsUnder limit) (sym at.second) low_l));
      least_second = λ k l at le. subst (λ j. m ≤ j) at.second (s.least at.drawing at.is_one (let f = at.first in omega (arith, f, le)));
    }

pub none_from : (p : Task) (a b : Criterion) (limit : Option ℕ) (bounds : List Below) → bounds ≡ under b limit → NoneMeets p bounds →
    IsNext (IsLawful p) a b limit NoMore
none_from p a b limit bounds is none = λ k l at low. none at.drawing at.is_one (subst (AreMet (values_of at.drawing)) (sym is)
    (under_meets b limit at.drawing (subst (IsUnder limit) (sym at.second) low)))

-- the second number of an attained pair isn't above the greatest value
pub attained_within : (p : Task) (a b : Criterion) (n m : ℕ) → IsAttained (IsLawful p) a b n m → m ≤ greatest_of p b
attained_within p a b n m at = subst (λ k. k ≤ greatest_of p b) at.second (value-le-limit p.graph p.above p.grid at.drawing at.is_one b)

-- such bounds are others too
pub next_as : (p : Task) (Such Other : List Below → Type 0) (b : Criterion) (next : Next) (lines : Lines) →
    ((bounds : List Below) → Such bounds → Other bounds) →
    EndsNext p Such b next lines → EndsNext p Other b next lines
next_as p Such Other b (Pair n m) lines weaker h = h
next_as p Such Other b NoMore lines weaker h = tt
next_as p Such Other b (Stopped stop) lines weaker h = stops_as p Such Other b stop lines weaker h
