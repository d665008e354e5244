-- The front as it is found, pair by pair.
use Rattle.std.proofs.Common.{◌≡◌, ℕ, ◌<◌, ◌≤◌, ◌⊎◌, [], ◌∷◌, ◌++◌, refl, sym, ◌∙◌, ap, subst, inl, inr, arith}
use Rattle.std.specs.Prelude.{AllPairs, Contains, Some, None, Option, MatchOption, ⊤}
use Rattle.std.proofs.lemmas.List.Elements.{All-nil, All-cons, All-push, All-contains, Contains-append_left, Contains-push}
use Rattle.std.proofs.lemmas.List.Quantifiers.{all_pairs_push}
use Rattle.plan_core.specs.declared.criterion.Criterion.{Criterion}
use Rattle.plan_core.specs.Drawing.{Drawing}
use Rattle.plan_core.specs.Values.{values_of, value_of}
use Rattle.refute_log.specs.Told.{Lines}
use Rattle.refute_log.specs.Steps.{Continues}
use Rattle.refute_log.specs.Cause.{IsCause}
use Rattle.refute_log.specs.declared.stop.Stop.{Stop}
use Rattle.refute_log.specs.declared.stop.Stop.TheVariants.{BudgetSpent, RoomFull}
use Rattle.trade_off.specs.declared.collecting.Next.{Next}
use Rattle.trade_off.specs.declared.collecting.Next.TheVariants.{Stopped}
use Rattle.trade_off.specs.declared.outcome.FrontEnd.{FrontEnd}
use Rattle.trade_off.specs.declared.outcome.FrontEnd.TheVariants.{Whole, Empty}
use Rattle.trade_off.specs.Front.{Pairs, IsAttained, IsOnFront, AreOnFront, IsWholeFront, IsFrontUpTo}
use Rattle.search_least.specs.Task.{Task}
use Rattle.trade_off.specs.Least.{StopsUnder, AreAsked}
use Rattle.trade_off.specs.Next.{IsUnder, IsNextPair, IsNext, IsSoFar, AsksNext, EndsNext, limit_behind}
use Rattle.trade_off.specs.Outcome.{IsRightFront, AsksBehind, EndsFront, stopped_by, stop_behind}
use Rattle.trade_off.proofs.AskLemmas.{less_or_more, asked_to}

-- of the pairs below a limit, the least first number with its least second one is on the front
next_on_front : (L : Drawing → Type 0) (a b : Criterion) (limit : Option ℕ) (n m : ℕ) → ((l : ℕ) → l ≤ m → IsUnder limit l) → IsNextPair L a b limit n m →
    IsOnFront L a b n m
next_on_front L a b limit n m lower x = record {
  attained = x.attained;
  no_other = λ k l at le under.
      let h : n ≤ k = x.least_first k l at (lower l under) in
      let g : m ≤ l = x.least_second k l at le in
      (antisymmetric k n le h, antisymmetric l m under g);
}
  where
    antisymmetric : (i j : ℕ) → i ≤ j → j ≤ i → i ≡ j
    antisymmetric i j h g = omega (arith, h, g)

no_pairs : (R : ℕ × ℕ → ℕ × ℕ → Type 0) → AllPairs R []
no_pairs R = λ i j d lt low. absurd (omega arith)

one_pair : (R : ℕ × ℕ → ℕ × ℕ → Type 0) (x : ℕ × ℕ) → AllPairs R (x ∷ [])
one_pair R x = λ i j d lt low. absurd (omega (arith, lt, low))

pub first_so_far : (L : Drawing → Type 0) (a b : Criterion) (n m : ℕ) → IsNextPair L a b None n m → IsSoFar L a b m ((n, m) ∷ [])
first_so_far L a b n m x = record {
  listed = record {
    rising = one_pair (λ x y. x.0 < y.0) (n, m);
    each = All-cons (λ x. IsOnFront L a b x.0 x.1) (n, m) [] (next_on_front L a b None n m (λ l le. tt) x) (All-nil (λ x. IsOnFront L a b x.0 x.1));
  };
  behind = λ k l at lt. All-cons (λ x. x.0 < k) (n, m) [] (behind_it k l at lt) (All-nil (λ x. x.0 < k));
  before = λ k l at le. ((n, m), Contains-push [] (n, m), x.least_first k l at tt, le);
  some = ((x.attained).drawing, (x.attained).is_one);
}
  where
    behind_it : (k l : ℕ) → IsAttained L a b k l → l < m → n < k
    behind_it k l at lt =
        let h = x.least_first k l at tt in
        let g : k ≤ n → m ≤ l = λ le. x.least_second k l at le in
        by (less_or_more k n) h g lt
      where
        less_or_more : (i j : ℕ) → (i ≤ j) ⊎ (j < i)
        less_or_more i j = grind arith

        by : (k ≤ n) ⊎ (n < k) → n ≤ k → (k ≤ n → m ≤ l) → l < m → n < k
        by (inl le) h g lt = absurd (let e = g le in omega (arith, e, lt))
        by (inr more) h g lt = more

pub next_so_far : (L : Drawing → Type 0) (a b : Criterion) (limit : ℕ) (pairs : Pairs) (n m : ℕ) → IsSoFar L a b limit pairs →
    IsNextPair L a b (Some limit) n m → IsSoFar L a b m (pairs ++ (n, m) ∷ [])
next_so_far L a b limit pairs n m s x = record {
  listed = record {
    rising = all_pairs_push (λ x y. x.0 < y.0) pairs (n, m) (s.listed).rising (λ k d lt. s.behind n m x.attained x.below k d lt);
    each = All-push (λ x. IsOnFront L a b x.0 x.1) pairs (n, m) (s.listed).each (next_on_front L a b (Some limit) n m
        (λ l le. let h : m < limit = x.below in let g : l < limit = omega (arith, h, le) in g) x);
  };
  behind = λ k l at lt.
      let under : l < limit = (let h : m < limit = x.below in omega (arith, h, lt)) in
      All-push (λ x. x.0 < k) pairs (n, m) (s.behind k l at under) (behind_it k l at under lt);
  before = λ k l at le. before_it k l at le (less_or_more limit l);
  some = s.some;
}
  where
    behind_it : (k l : ℕ) → IsAttained L a b k l → l < limit → l < m → n < k
    behind_it k l at under lt = by (less_or_more k n)
      where
        by : (k ≤ n) ⊎ (n < k) → n < k
        by (inl le) = absurd (let e = x.least_second k l at le in omega (arith, e, lt))
        by (inr more) = more

    before_it : (k l : ℕ) → IsAttained L a b k l → m ≤ l → (limit ≤ l) ⊎ (l < limit) → (y : ℕ × ℕ) × Contains (pairs ++ (n, m) ∷ []) y × (y.0 ≤ k) × (y.1 ≤ l)
    before_it k l at le (inl over) = let y = s.before k l at over in (y.0, Contains-append_left pairs ((n, m) ∷ []) y.0 y.1, y.2, y.3)
    before_it k l at le (inr under) = ((n, m), Contains-push pairs (n, m), x.least_first k l at under, le)

-- a pair of the front that some listed pair is at most is listed
listed_itself : (L : Drawing → Type 0) (a b : Criterion) (pairs : Pairs) (n m : ℕ) → AreOnFront L a b pairs → IsOnFront L a b n m →
    (x : ℕ × ℕ) × Contains pairs x × (x.0 ≤ n) × (x.1 ≤ m) → Contains pairs (n, m)
listed_itself L a b pairs n m h on ((k, l), there, le, under) =
    let of : IsOnFront L a b k l = All-contains (λ x. IsOnFront L a b x.0 x.1) pairs (k, l) h.each there in
    let same = on.no_other k l of.attained le under in
    subst (λ j. Contains pairs (n, j)) same.1 (subst (λ i. Contains pairs (i, l)) same.0 there)

-- where no pair has a second number below the limit, they are all
pub whole_from : (L : Drawing → Type 0) (a b : Criterion) (limit : ℕ) (pairs : Pairs) → IsSoFar L a b limit pairs →
    ((k l : ℕ) → IsAttained L a b k l → l < limit → ⊥) → IsWholeFront L a b pairs
whole_from L a b limit pairs s none = record {
  listed = s.listed;
  all = λ n m on. by n m on (less_or_more limit m);
}
  where
    by : (n m : ℕ) → IsOnFront L a b n m → (limit ≤ m) ⊎ (m < limit) → Contains pairs (n, m)
    by n m on (inl over) = listed_itself L a b pairs n m s.listed on (s.before n m on.attained over)
    by n m on (inr under) = absurd (none n m on.attained under)

pub up_to : (L : Drawing → Type 0) (a b : Criterion) (limit : ℕ) (pairs : Pairs) → IsSoFar L a b limit pairs → IsFrontUpTo L a b pairs
up_to L a b limit pairs s = record {
  listed = s.listed;
  all = λ n m on x there le. by n m on x there le (less_or_more limit m);
}
  where
    by : (n m : ℕ) → IsOnFront L a b n m → (x : ℕ × ℕ) → Contains pairs x → n ≤ x.0 → (limit ≤ m) ⊎ (m < limit) → Contains pairs (n, m)
    by n m on x there le (inl over) = listed_itself L a b pairs n m s.listed on (s.before n m on.attained over)
    by n m on x there le (inr under) =
        let lt : x.0 < n = All-contains (λ y. y.0 < n) pairs x (s.behind n m on.attained under) there in
        absurd (omega (arith, lt, le))

pub up_to_none : (L : Drawing → Type 0) (a b : Criterion) → IsFrontUpTo L a b []
up_to_none L a b = record {
  listed = record { rising = no_pairs (λ x y. x.0 < y.0); each = All-nil (λ x. IsOnFront L a b x.0 x.1) };
  all = λ n m on x there le. absurd (let lt = there.1 in omega arith);
}

-- ---- how a search ends

stopped_right : (L : Drawing → Type 0) (a b : Criterion) (pairs : Pairs) (stop : Stop) → IsFrontUpTo L a b pairs → IsRightFront L a b pairs (stopped_by stop)
stopped_right L a b pairs BudgetSpent h = h
stopped_right L a b pairs RoomFull h = h

pub right_stopped : (L : Drawing → Type 0) (a b : Criterion) (limit : ℕ) (pairs : Pairs) (stop : Stop) (ending : FrontEnd) → ending ≡ stopped_by stop →
    IsSoFar L a b limit pairs → IsRightFront L a b pairs ending
right_stopped L a b limit pairs stop ending is s = subst (IsRightFront L a b pairs) (sym is) (stopped_right L a b pairs stop (up_to L a b limit pairs s))

pub right_stopped_first : (L : Drawing → Type 0) (a b : Criterion) (pairs : Pairs) (stop : Stop) (ending : FrontEnd) → ending ≡ stopped_by stop → pairs ≡ [] →
    IsRightFront L a b pairs ending
right_stopped_first L a b pairs stop ending is none = subst (IsRightFront L a b pairs) (sym is)
    (stopped_right L a b pairs stop (subst (IsFrontUpTo L a b) (sym none) (up_to_none L a b)))

pub stopped_behind : (stop : Stop) (ending : FrontEnd) → ending ≡ stopped_by stop → stop_behind ending ≡ Some stop
stopped_behind stop ending is = ap stop_behind is ∙ by stop
  where
    by : (stop : Stop) → stop_behind (stopped_by stop) ≡ Some stop
    by BudgetSpent = refl
    by RoomFull = refl

-- then its lines end as those of a front that stopped behind these pairs
front_ends : (p : Task) (a b : Criterion) (pairs : Pairs) (limit : Option ℕ) (stop : Stop) (ending : FrontEnd) (lines : Lines) → limit_behind pairs ≡ limit →
    ending ≡ stopped_by stop → StopsUnder p (AsksNext a b limit p) b stop lines → EndsFront p a b pairs ending lines
front_ends p a b pairs limit stop ending lines behind is h =
    subst (λ (x : Option Stop). MatchOption x ⊤ (λ k. IsCause p.budget p.room k lines × AsksBehind p a b pairs lines)) (sym (stopped_behind stop ending is))
    (subst (λ (k : Option ℕ). StopsUnder p (AsksNext a b k p) b stop lines) (sym behind) h)

pub stopped_front : {S : Type 0} (knows log : S → Lines → Type 0) (count : S → ℕ) (s e : S) (p : Task) (a b : Criterion)
    (BeginsSo : Lines → Type 0) (pairs : Pairs) (limit : Option ℕ) (stop : Stop) (ending : FrontEnd) → limit_behind pairs ≡ limit → ending ≡ stopped_by stop →
    Continues knows log count s e (AreAsked p BeginsSo (EndsNext p (AsksNext a b limit p) b (Stopped stop))) →
    Continues knows log count s e (AreAsked p BeginsSo (EndsFront p a b pairs ending))
stopped_front knows log count s e p a b BeginsSo pairs limit stop ending behind is run =
    asked_to knows log count s e p BeginsSo (EndsNext p (AsksNext a b limit p) b (Stopped stop)) (EndsFront p a b pairs ending)
    (λ lines h. front_ends p a b pairs limit stop ending lines behind is h) run

pub right_whole : (L : Drawing → Type 0) (a b : Criterion) (limit : ℕ) (pairs : Pairs) → IsSoFar L a b limit pairs →
    ((k l : ℕ) → IsAttained L a b k l → l < limit → ⊥) → IsRightFront L a b pairs Whole
right_whole L a b limit pairs s none = (s.some, whole_from L a b limit pairs s none)

pub right_empty : (L : Drawing → Type 0) (a b : Criterion) (pairs : Pairs) → ((k l : ℕ) → IsAttained L a b k l → IsUnder None l → ⊥) → pairs ≡ [] →
    IsRightFront L a b pairs Empty
right_empty L a b pairs none is = (
  λ d one. none (value_of (values_of d) a) (value_of (values_of d) b) (record {
    drawing = d;
    is_one = one;
    first = refl;
    second = refl;
  }) tt,
  is,
)

-- the answer of a search for the next pair, by its kind
pub next_is : (L : Drawing → Type 0) (a b : Criterion) (limit : Option ℕ) (r s : Next) → r ≡ s → IsNext L a b limit r → IsNext L a b limit s
next_is L a b limit r s is h = subst (IsNext L a b limit) is h
