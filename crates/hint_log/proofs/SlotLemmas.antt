-- Literals by slot: what they stand for while more variables get slots, and that hints show the same of both.
use Rattle.std.proofs.Common.{◌≡◌, ℕ, ◌+◌, ◌<◌, ◌≤◌, true, false, cond, nat_eq, List, [], ◌∷◌, ◌++◌, length, take, drop, get_or, map, refl, sym, ◌∙◌, ap}
use Rattle.std.proofs.Common.{subst, arith, length-append}
use Rattle.std.proofs.Math.ListN.{get_or-map}
use Rattle.std.proofs.lemmas.Bool.Decides.{nat_tests}
use Rattle.std.proofs.lemmas.List.{get_or_append_left, length-map, map-append, take_more}
use Rattle.plan_core.proofs.TruthFacts.{same_when}
use Rattle.std.specs.Prelude.{Option, Some, None}
use Rattle.cnf_core.specs.Lit.{Literal, literal, negate, same_sign, same_literal, has}
use Rattle.cnf_core.specs.Clause.{Clauses, Avoids, AreDistinct, IsThere, AreThere, AllThere, words_of}
use Rattle.cnf_core.specs.Propagation.{LiteralSet}
use Rattle.cnf_core.proofs.ClauseLemmas.{there_at, there_more}
use Rattle.cnf_core.proofs.GatherLemmas.{there_push}
use Rattle.outside_io.specs.Contents.{Begins}
use Rattle.hint_log.specs.Hint.{numbered, NamesClause, left_of, LeavesOne, LeavesNone, Leads, Fails}
use Rattle.hint_log.specs.Looks.{IsHintVerdict}
use Rattle.hint_log.specs.Slots.{var_in, lit_in, lits_in, clauses_in, IsSlot, IsInOneSlot, IsSlotOf, AreOwnSlots, AreBySlot}

-- ---- more slots

pub var_stays : (slots more : List ℕ) (n : ℕ) → n ≤ length slots → var_in (slots ++ more) n ≡ var_in slots n
var_stays slots more n le = get_or_append_left (0 ∷ slots) more 0 n (omega arith)

lit_stays : (slots more : List ℕ) (l : Literal) → IsThere (length slots) l → lit_in (slots ++ more) l ≡ lit_in slots l
lit_stays slots more l there = ap (λ v. literal v l.positive) (var_stays slots more l.var there.1)

pub lits_stay : (slots more : List ℕ) (ls : List Literal) → AreThere (length slots) ls → lits_in (slots ++ more) ls ≡ lits_in slots ls
lits_stay slots more [] h = refl
lits_stay slots more (l ∷ ls) h = ap (λ k. k ∷ lits_in (slots ++ more) ls) (lit_stays slots more l h.0)
    ∙ ap (λ (ks : List Literal). lit_in slots l ∷ ks) (lits_stay slots more ls h.1)

pub clauses_stay : (slots more : List ℕ) (cs : Clauses) → AllThere (length slots) cs → clauses_in (slots ++ more) cs ≡ clauses_in slots cs
clauses_stay slots more [] h = refl
clauses_stay slots more (c ∷ cs) h = ap (λ d. d ∷ clauses_in (slots ++ more) cs) (lits_stay slots more c h.0)
    ∙ ap (λ (ds : Clauses). lits_in slots c ∷ ds) (clauses_stay slots more cs h.1)

-- ---- the literals of a clause, one after another

pub none_by_slot_yet : (slots : List ℕ) (by_slot : List Literal) → by_slot ≡ [] → AreBySlot slots [] by_slot
none_by_slot_yet slots by_slot e = subst (λ (ls : List Literal). AreBySlot slots [] ls) (sym e) (record { there = tt; are = refl })

-- the literals still stand for the same
stay_by_slot : (old new : List ℕ) (lits by_slot : List Literal) → Begins old new → AreBySlot old lits by_slot → AreBySlot new lits by_slot
stay_by_slot old new lits by_slot grown h = record {
  there = there_more (length old) (length new) by_slot (let size = ap length grown.1 in omega (arith, size, length-append old grown.0)) h.there;
  are = ap (λ (s : List ℕ). lits_in s by_slot) grown.1 ∙ lits_stay old grown.0 by_slot h.there ∙ h.are;
}

pub one_more_by_slot : (old new : List ℕ) (lits : List Literal) (i : ℕ) (l : Literal) (by_slot then : List Literal) (n : ℕ) → i < length lits →
    l ≡ get_or lits i l → Begins old new → AreBySlot old (take i lits) by_slot → IsSlotOf new l.var n → then ≡ by_slot ++ literal n l.positive ∷ [] →
    AreBySlot new (take (i + 1) lits) then
one_more_by_slot old new lits i l by_slot then n within at grown h slot e =
    let before = stay_by_slot old new (take i lits) by_slot grown h in
    let k : Literal = literal n l.positive in
    let is : lit_in new k ≡ get_or lits i l = ap (λ v. literal v l.positive) slot.is ∙ at in
    subst (λ (ls : List Literal). AreBySlot new (take (i + 1) lits) ls) (sym e) (record {
      there = there_push (length new) by_slot k before.there slot.slot;
      are = map-append (lit_in new) by_slot (k ∷ []) ∙ ap (λ (ls : List Literal). ls ++ lit_in new k ∷ []) before.are
          ∙ ap (λ (m : Literal). take i lits ++ m ∷ []) is ∙ sym (take_more lits i l within);
    })

-- ---- the clauses of the formula

own_lits : (vars : ℕ) (slots : List ℕ) (ls : List Literal) → AreOwnSlots vars slots → AreThere vars ls → lits_in slots ls ≡ ls
own_lits vars slots [] h there = refl
own_lits vars slots (l ∷ ls) h there =
    let size = h.size in
    ap (λ v. literal v l.positive ∷ lits_in slots ls) (h.own l.var (there.0.0, omega (arith, size, there.0.1)))
    ∙ ap (λ (ks : List Literal). l ∷ ks) (own_lits vars slots ls h there.1)

pub own_clauses : (vars : ℕ) (slots : List ℕ) (cs : Clauses) → AreOwnSlots vars slots → AllThere vars cs → clauses_in slots cs ≡ cs
own_clauses vars slots [] h all = refl
own_clauses vars slots (c ∷ cs) h all = ap (λ (d : List Literal). d ∷ clauses_in slots cs) (own_lits vars slots c h all.0)
    ∙ ap (λ (ds : Clauses). c ∷ ds) (own_clauses vars slots cs h all.1)

-- ---- clauses and what they stand for

pub words_in : (slots : List ℕ) (cs : Clauses) → words_of (clauses_in slots cs) ≡ words_of cs
words_in slots [] = refl
words_in slots (c ∷ cs) = let size = length-map c (lit_in slots) in let rest = words_in slots cs in omega arith

avoids_by_slot : (slots : List ℕ) (n : ℕ) (ls : List Literal) → Avoids (var_in slots n) (lits_in slots ls) → Avoids n ls
avoids_by_slot slots n [] h = tt
avoids_by_slot slots n (l ∷ ls) h = (λ e. h.0 (ap (var_in slots) e), avoids_by_slot slots n ls h.1)

pub distinct_by_slot : (slots : List ℕ) (ls : List Literal) → AreDistinct (lits_in slots ls) → AreDistinct ls
distinct_by_slot slots [] h = tt
distinct_by_slot slots (l ∷ ls) h = (avoids_by_slot slots l.var ls h.0, distinct_by_slot slots ls h.1)

negations_in : (slots : List ℕ) (ls : List Literal) → lits_in slots (map negate ls) ≡ map negate (lits_in slots ls)
negations_in slots [] = refl
negations_in slots (l ∷ ls) = ap (λ (ks : List Literal). negate (lit_in slots l) ∷ ks) (negations_in slots ls)

negations_there : (n : ℕ) (ls : List Literal) → AreThere n ls → AreThere n (map negate ls)
negations_there n [] h = tt
negations_there n (l ∷ ls) h = (h.0, negations_there n ls h.1)

left_there : (n : ℕ) (set : LiteralSet) (c : List Literal) → AreThere n c → AreThere n (left_of set c)
left_there n set [] h = tt
left_there n set (k ∷ c) h = elim (set (negate k)) as (λ b. set (negate k) ≡ b → AreThere n (left_of set (k ∷ c))) [
  | true ↦ λ t. rw t (left_there n set c h.1)
  | false ↦ λ f. rw f (h.0, left_there n set c h.1)
] refl

numbered_in : (slots : List ℕ) (cs : Clauses) (n : ℕ) → numbered (clauses_in slots cs) n ≡ lits_in slots (numbered cs n)
numbered_in slots cs n = get_or-map (lits_in slots) ([] ∷ cs) n []

names_in : (slots : List ℕ) (cs : Clauses) (n : ℕ) → NamesClause cs n → NamesClause (clauses_in slots cs) n
names_in slots cs n h = record { from = h.from; to = let to = h.to in omega (arith, length-map cs (lits_in slots)) }

names_by_slot : (slots : List ℕ) (cs : Clauses) (n : ℕ) → NamesClause (clauses_in slots cs) n → NamesClause cs n
names_by_slot slots cs n h = record { from = h.from; to = let to = h.to in omega (arith, length-map cs (lits_in slots)) }

none_by_slot : (slots : List ℕ) (ls : List Literal) → lits_in slots ls ≡ [] → ls ≡ []
none_by_slot slots [] e = refl
none_by_slot slots (l ∷ ls) e = cc e

one_by_slot : (slots : List ℕ) (ls : List Literal) (k : Literal) → lits_in slots ls ≡ k ∷ [] → (l : Literal) × (ls ≡ l ∷ [])
one_by_slot slots [] k e = cc e
one_by_slot slots (l ∷ ls) k e = (l, ap (λ (ms : List Literal). l ∷ ms) (none_by_slot slots ls (ap (drop 1) e)))

-- ---- hints show the same

same_var : (slots : List ℕ) → IsInOneSlot slots → (m n : ℕ) → IsSlot slots m → IsSlot slots n → nat_eq (var_in slots m) (var_in slots n) ≡ nat_eq m n
same_var slots one m n h k = same_when (nat_eq (var_in slots m) (var_in slots n)) (nat_eq m n)
    (λ e. nat_eq_true m n (one m n h k (equal_by _ _ e)))
    (λ e. nat_eq_true (var_in slots m) (var_in slots n) (ap (var_in slots) (equal_by m n e)))
  where
    equal_by : (x y : ℕ) → nat_eq x y ≡ true → x ≡ y
    equal_by x y e = grind (arith, nat_tests)

    nat_eq_true : (x y : ℕ) → x ≡ y → nat_eq x y ≡ true
    nat_eq_true x y e = grind (arith, nat_tests)

module _ (slots : List ℕ) (one : IsInOneSlot slots) where
  has_in : (ks : List Literal) (l : Literal) → AreThere (length slots) ks → IsThere (length slots) l → has (lits_in slots ks) (lit_in slots l) ≡ has ks l
  has_in [] l h there = refl
  has_in (k ∷ ks) l h there =
      ap (λ b. cond (cond b (same_sign k.positive l.positive) false) true (has (lits_in slots ks) (lit_in slots l)))
      (same_var slots one k.var l.var h.0 there)
      ∙ ap (λ b. cond (same_literal k l) true b) (has_in ks l h.1 there)

  left_in : (set c : List Literal) → AreThere (length slots) set → AreThere (length slots) c →
      left_of (has (lits_in slots set)) (lits_in slots c) ≡ lits_in slots (left_of (has set) c)
  left_in set [] s h = refl
  left_in set (k ∷ c) s h =
      let here : has (lits_in slots set) (negate (lit_in slots k)) ≡ has set (negate k) = has_in set (negate k) s h.0 in
      let rest = left_in set c s h.1 in
      elim (has set (negate k)) as (λ b. has set (negate k) ≡ b →
      left_of (has (lits_in slots set)) (lits_in slots (k ∷ c)) ≡ lits_in slots (left_of (has set) (k ∷ c))) [
        | true ↦ λ t. rw (here ∙ t) (rw t rest)
        | false ↦ λ f. rw (here ∙ f) (rw f (ap (λ (ls : List Literal). lit_in slots k ∷ ls) rest))
      ] refl

  module _ (cs : Clauses) (all : AllThere (length slots) cs) where
    left_numbered : (set : List Literal) (n : ℕ) → AreThere (length slots) set →
        left_of (has (lits_in slots set)) (numbered (clauses_in slots cs) n) ≡ lits_in slots (left_of (has set) (numbered cs n))
    left_numbered set n s = ap (left_of (has (lits_in slots set))) (numbered_in slots cs n) ∙ left_in set (numbered cs n) s
        (there_at (length slots) ([] ∷ cs) n (tt, all))

    one_in : (set : List Literal) (n : ℕ) (l : Literal) → AreThere (length slots) set → LeavesOne cs (has set) n l →
        LeavesOne (clauses_in slots cs) (has (lits_in slots set)) n (lit_in slots l)
    one_in set n l s h = record { number = names_in slots cs n h.number; one = left_numbered set n s ∙ ap (lits_in slots) h.one }

    one_back : (set : List Literal) (n : ℕ) (k : Literal) → AreThere (length slots) set →
        LeavesOne (clauses_in slots cs) (has (lits_in slots set)) n k → (l : Literal) × LeavesOne cs (has set) n l
    one_back set n k s h =
        let l = one_by_slot slots (left_of (has set) (numbered cs n)) k (sym (left_numbered set n s) ∙ h.one) in
        (l.0, record { number = names_by_slot slots cs n h.number; one = l.1 })

    none_in : (set : List Literal) (n : ℕ) → AreThere (length slots) set → LeavesNone cs (has set) n →
        LeavesNone (clauses_in slots cs) (has (lits_in slots set)) n
    none_in set n s h = record { number = names_in slots cs n h.number; none = left_numbered set n s ∙ ap (lits_in slots) h.none }

    none_back : (set : List Literal) (n : ℕ) → AreThere (length slots) set → LeavesNone (clauses_in slots cs) (has (lits_in slots set)) n →
        LeavesNone cs (has set) n
    none_back set n s h = record {
      number = names_by_slot slots cs n h.number;
      none = none_by_slot slots (left_of (has set) (numbered cs n)) (sym (left_numbered set n s) ∙ h.none);
    }

    left_is_there : (set : List Literal) (n : ℕ) (l : Literal) → LeavesOne cs (has set) n l → IsThere (length slots) l
    left_is_there set n l h =
        let left = left_there (length slots) (has set) (numbered cs n) (there_at (length slots) ([] ∷ cs) n (tt, all)) in
        let alone : AreThere (length slots) (l ∷ []) = subst (AreThere (length slots)) h.one left in
        alone.0

    leads_in : (set : List Literal) (ns : List ℕ) (to : List Literal) → AreThere (length slots) set → Leads cs set ns to →
        Leads (clauses_in slots cs) (lits_in slots set) ns (lits_in slots to) × AreThere (length slots) to
    leads_in set [] to s h = (ap (lits_in slots) h, subst (AreThere (length slots)) h s)
    leads_in set (n ∷ ns) to s h =
        let there = left_is_there set n h.0 h.1 in
        let rest = leads_in (set ++ h.0 ∷ []) ns to (there_push (length slots) set h.0 s there) h.2 in
        let pushed : lits_in slots (set ++ h.0 ∷ []) ≡ lits_in slots set ++ lit_in slots h.0 ∷ [] = map-append (lit_in slots) set (h.0 ∷ []) in (
          (
            lit_in slots h.0,
            one_in set n h.0 s h.1,
            subst (λ (ls : List Literal). Leads (clauses_in slots cs) ls ns (lits_in slots to)) pushed rest.0,
          ),
          rest.1,
        )

    fails_in : (front : List ℕ) (to : List Literal) (rest : List ℕ) → AreThere (length slots) to → Fails cs front to rest →
        Fails (clauses_in slots cs) front (lits_in slots to) rest
    fails_in front to [] s h = h
    fails_in front to (n ∷ []) s h = λ none. h (none_back to n s none)
    fails_in front to (n ∷ m ∷ ns) s h = λ k left. let l = one_back to n k s left in h l.0 l.1

    verdict_in : (set : List Literal) (hints : List ℕ) (r : Option ℕ) → AreThere (length slots) set → IsHintVerdict cs set hints r →
        IsHintVerdict (clauses_in slots cs) (lits_in slots set) hints r
    verdict_in set hints None s h =
        let led = leads_in set h.front h.to s h.leads in
        record { front = h.front; last = h.last; are = h.are; to = lits_in slots h.to; leads = led.0; none = none_in h.to h.last led.1 h.none }
    verdict_in set hints (Some k) s h =
        let led = leads_in set h.front h.to s h.leads in
        record {
          front = h.front;
          rest = h.rest;
          are = h.are;
          place = h.place;
          to = lits_in slots h.to;
          leads = led.0;
          fails = fails_in h.front h.to h.rest led.1 h.fails;
        }

    -- what is judged by slot is so of what it stands for
    pub judged_by_slot : (lits by_slot : List Literal) (hints : List ℕ) (r : Option ℕ) → AreBySlot slots lits by_slot →
        IsHintVerdict cs (map negate by_slot) hints r → IsHintVerdict (clauses_in slots cs) (map negate lits) hints r
    judged_by_slot lits by_slot hints r b h = subst (λ (ls : List Literal). IsHintVerdict (clauses_in slots cs) ls hints r)
        (negations_in slots by_slot ∙ ap (map negate) b.are)
        (verdict_in (map negate by_slot) hints r (negations_there (length slots) by_slot b.there) h)
