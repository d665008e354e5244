-- A test by which an example is shown to be a topology as a file gives it.
use Rattle.std.proofs.Common.{◌≡◌, ◌≢◌, ℕ, ℤ, zero, suc, ◌+◌, ◌^◌, ◌<◌, inl, inr, Bool, true, false, not, ◌&&◌, List, [], ◌∷◌, ◌++◌, length, map, Option, Some}
use Rattle.std.proofs.Common.{None, refl, sym, ap, ◌∙◌, subst, arith, eqb, eqb-true, eq-eqb, ltb-true, leb-true, add-zero, zero-add, get_or}
use Rattle.std.specs.Prelude.{nat_lt, nat_le, All, AllPairs, slice_get, neg_ℤ, ◌<ℤ◌, bytes_eq, option_to_list}
use Rattle.std.specs.List.{flat_map, enumerate_from, list_all}
use Rattle.std.specs.Cmp.{int_ranks}
use Rattle.std.specs.Ordering.{int_cmp, MatchOrdering, is_lt}
use Rattle.std.specs.declared.cmp.Ordering.TheVariants.{Less, Equal, Greater}
use Rattle.std.proofs.lemmas.Bool.{false≢true, and_parts, cases_lt, eqb-false, not-true}
use Rattle.std.proofs.Math.ListN.{get_or-eq_default}
use Rattle.std.proofs.lemmas.List.Sums.{AllPass-from_list_all}
use Rattle.std.proofs.lemmas.List.Elements.{All-weaker, All-contains}
use Rattle.std.proofs.lemmas.List.Kept.{AllPairs-cons}
use Rattle.std.specs.Str.{IsAscii}
use Rattle.std.proofs.lemmas.Str.{chars-IsAscii}
use Rattle.std.proofs.lemmas.Slice.Eq.{bytes_eq-Decides}
use Rattle.std.proofs.lemmas.Bool.Decides.{not_from_Decides}
use Rattle.plan_core.specs.declared.topology.Topology.{Topology}
use Rattle.plan_core.specs.declared.topology.Track.{Track}
use Rattle.plan_core.specs.declared.topology.End.{End as TrackEnd}
use Rattle.plan_core.specs.declared.topology.Inner.{Inner}
use Rattle.plan_core.specs.declared.topology.Conn.{Conn}
use Rattle.plan_core.specs.declared.topology.Place.{Place}
use Rattle.plan_core.specs.declared.topology.Part.{Part}
use Rattle.plan_core.specs.declared.topology.Part.TheVariants.{Begin, End, Branch, Incoming, Outgoing}
use Rattle.plan_core.specs.Topology.{Element, elements, track_miles, connections, connection, LeadsBothWays, farthest, IsMileage, IsIdCharacter, IsId}
use Rattle.plan_core.specs.Topology.{IsResolved}
use Rattle.plan_core.proofs.PlaceFacts.{same_place}
use Rattle.port_graph.proofs.Membership.{In, contains_in, in_left, in_right, in_map, in_numbered}
use Rattle.port_graph.proofs.Places.{end_place, inner_place, Where, at_end, at_inner, where_is}

-- Ids, and elements that differ.

-- a printable character of ASCII, and no space
abbrev pub id_character : ℕ → Bool
id_character c = nat_lt 32 c && nat_lt c 127

abbrev pub id_test : List ℕ → Bool
id_test id = nat_le 1 (length id) && (nat_le (length id) 64 && list_all id_character id)

id_sound : (id : List ℕ) → id_test id ≡ true → IsId id
id_sound id is =
    let first = and_parts (nat_le 1 (length id)) (nat_le (length id) 64 && list_all id_character id) is in
    let second = and_parts (nat_le (length id) 64) (list_all id_character id) first.1 in
    let tested = AllPass-from_list_all id_character id second.1 in
    let low : (c : ℕ) → id_character c ≡ true → c < 127 = λ c h. ltb-true c 127 (and_parts (nat_lt 32 c) (nat_lt c 127) h).1 in
    let high : (c : ℕ) → id_character c ≡ true → 32 < c = λ c h. ltb-true 32 c (and_parts (nat_lt 32 c) (nat_lt c 127) h).0 in
    let ascii : IsAscii id = λ i. elim (cases_lt i (length id)) [
      | inl within ↦ let l = low (get_or id i 0) (tested i 0 within) in omega (arith, l)
      | inr past ↦ rw (get_or-eq_default id 0 past) (omega arith)
    ] in
    record {
      some = leb-true 1 (length id) first.0;
      short = leb-true (length id) 64 second.0;
      characters = subst (All IsIdCharacter) (sym (chars-IsAscii id ascii)) (All-weaker (λ c. id_character c ≡ true) IsIdCharacter
          (λ c h. (high c h, inl (low c h))) id tested);
    }

-- no two are the same by a test
abbrev pub apart_test : {A : Type 0} → (A → A → Bool) → List A → Bool
apart_test same [] = true
apart_test same (x ∷ xs) = list_all (λ y. not (same x y)) xs && apart_test same xs

apart_sound : {A : Type 0} (same : A → A → Bool) (xs : List A) → apart_test same xs ≡ true → AllPairs (λ x y. same x y ≡ false) xs
apart_sound same [] is = λ i j d less within. absurd (omega arith)
apart_sound {A} same (x ∷ xs) is =
    let parts = and_parts (list_all (λ y. not (same x y)) xs) (apart_test same xs) is in
    AllPairs-cons (λ (y z : A). same y z ≡ false) x xs
    (All-weaker (λ y. not (same x y) ≡ true) (λ y. same x y ≡ false) (λ y. not-true (same x y)) xs (AllPass-from_list_all (λ y. not (same x y)) xs parts.0))
    (apart_sound same xs parts.1)

pairs_weaker : {A : Type 0} (R S : A → A → Type 0) (xs : List A) → ((x y : A) → R x y → S x y) → AllPairs R xs → AllPairs S xs
pairs_weaker R S xs each pairs i j d less within = each _ _ (pairs i j d less within)

-- Mileages.

abbrev pub less_test : ℤ → ℤ → Bool
less_test a b = is_lt (int_cmp a b)

less_sound : (a b : ℤ) → less_test a b ≡ true → a <ℤ b
less_sound a b is =
    elim (int_cmp a b) as (λ o. MatchOrdering o (a <ℤ b) (a ≡ b) (b <ℤ a) → is_lt o ≡ true → a <ℤ b) [
      | Less ↦ λ less e. less
      | Equal ↦ λ same e. absurd (false≢true e)
      | Greater ↦ λ more e. absurd (false≢true e)
    ] (int_ranks a b) is

abbrev pub mile_test : ℤ → Bool
mile_test m = less_test (neg_ℤ farthest) m && less_test m farthest

mile_sound : (m : ℤ) → mile_test m ≡ true → IsMileage m
mile_sound m is = let parts = and_parts (less_test (neg_ℤ farthest) m) (less_test m farthest) is in
    (less_sound (neg_ℤ farthest) m parts.0, less_sound m farthest parts.1)

-- Joins.

abbrev pub same_part : Part → Part → Bool
same_part Begin Begin = true
same_part End End = true
same_part (Branch i) (Branch j) = eqb i j
same_part (Incoming i) (Incoming j) = eqb i j
same_part (Outgoing i) (Outgoing j) = eqb i j
same_part _ _ = false

part_refl : (p : Part) → same_part p p ≡ true
part_refl Begin = refl
part_refl End = refl
part_refl (Branch i) = eq-eqb i i refl
part_refl (Incoming i) = eq-eqb i i refl
part_refl (Outgoing i) = eq-eqb i i refl

abbrev pub same_place_test : Place → Place → Bool
same_place_test p q = eqb p.track q.track && same_part p.part q.part

part_sound : (p q : Part) → same_part p q ≡ true → p ≡ q
part_sound Begin Begin is = refl
part_sound End End is = refl
part_sound (Branch i) (Branch j) is = ap Branch (eqb-true i j is)
part_sound (Incoming i) (Incoming j) is = ap Incoming (eqb-true i j is)
part_sound (Outgoing i) (Outgoing j) is = ap Outgoing (eqb-true i j is)
part_sound _ _ is = absurd (false≢true is)

place_sound : (p q : Place) → same_place_test p q ≡ true → p ≡ q
place_sound p q is =
    let parts = and_parts (eqb p.track q.track) (same_part p.part q.part) is in
    same_place p q (eqb-true p.track q.track parts.0) (part_sound p.part q.part parts.1)

place_refl : (p : Place) → same_place_test p p ≡ true
place_refl p = ap (λ b. b && same_part p.part p.part) (eq-eqb p.track p.track refl) ∙ part_refl p.part

-- the connections of a topology, each with its place
abbrev pub end_joins : ℕ → Bool → TrackEnd → List (Place × Conn)
end_joins k last e = map (λ (c : Conn). (end_place k last, c)) (option_to_list e.joined)

abbrev pub inner_at : ℕ → ℕ → Inner → List (Place × Conn)
inner_at k i x = map (λ (mc : ℕ × Conn). (inner_place k x.what i mc.0, mc.1)) (enumerate_from 0 (connections x.what))

abbrev pub track_connections : ℕ → Track → List (Place × Conn)
track_connections k track =
    end_joins k false track.begin ++ (end_joins k true track.end ++ flat_map (λ (ix : ℕ × Inner). inner_at k ix.0 ix.1) (enumerate_from 0 track.inner))

abbrev pub all_connections : Topology → List (Place × Conn)
all_connections t = flat_map (λ (kt : ℕ × Track). track_connections kt.0 kt.1) (enumerate_from 0 t.tracks)

-- the connection leads to another place, and the one there leads back
abbrev pub leads_back : Place → Place → Option Conn → Bool
leads_back p to None = false
leads_back p to (Some other) = same_place_test other.to p && not (same_place_test to p)

abbrev pub both_ways_test : Topology → Bool
both_ways_test t = list_all (λ (pc : Place × Conn). leads_back pc.0 pc.1.to (connection t pc.1.to)) (all_connections t)

in_end : (k : ℕ) (last : Bool) (e : TrackEnd) (o : Option Conn) (c : Conn) → o ≡ Some c →
    In {X = Place × Conn} (end_place k last, c) (map (λ (d : Conn). (end_place k last, d)) (option_to_list o))
in_end k last e None c is = absurd (let h : None ≡ Some c = is in cc)
in_end k last e (Some d) c is = inl (ap (λ (x : Conn). (end_place k last, x)) (let h : d ≡ c = cc in h))

pub in_numbers : {A : Type 0} (n : ℕ) (xs : List A) (i : ℕ) (x : A) → slice_get xs i ≡ Some x → In {X = ℕ × A} (n + i, x) (enumerate_from n xs)
in_numbers {A} n [] i x is = absurd (let h : None ≡ Some x = is in cc)
in_numbers {A} n (y ∷ ys) zero x is = inl (let h : y ≡ x = cc in ap (λ z. (n, z)) h ∙ ap (λ k. (k, x)) (sym (add-zero n)))
in_numbers {A} n (y ∷ ys) (suc i) x is = inr (subst (λ k. In (k, x) (enumerate_from (n + 1) ys)) (let h : n + 1 + i ≡ n + suc i = omega arith in h)
    (in_numbers (n + 1) ys i x is))

in_inner : (k i m : ℕ) (x : Inner) (c : Conn) → slice_get (connections x.what) m ≡ Some c → In {X = Place × Conn} (inner_place k x.what i m, c) (inner_at k i x)
in_inner k i m x c is =
    in_map (λ (mc : ℕ × Conn). (inner_place k x.what i mc.0, mc.1)) (enumerate_from 0 (connections x.what)) (m, c)
    (subst (λ n. In (n, c) (enumerate_from 0 (connections x.what))) (zero-add m) (in_numbers 0 (connections x.what) m c is))

on_track : (t : Topology) (p : Place) (c : Conn) → Where t p c → (track : Track) × (slice_get t.tracks p.track ≡ Some track) × In {X = Place × Conn} (p, c)
    (track_connections p.track track)
on_track t p c (at_end track false here on joined) = (
  track,
  here,
  subst (λ q. In (q, c) (track_connections p.track track)) (same_place (end_place p.track false) p refl (sym on))
      (in_left (end_joins p.track false track.begin) _ _ (in_end p.track false track.begin track.begin.joined c joined)),
)
on_track t p c (at_end track true here on joined) = (
  track,
  here,
  subst (λ q. In (q, c) (track_connections p.track track)) (same_place (end_place p.track true) p refl (sym on))
      (in_right (end_joins p.track false track.begin) _ _ (in_left (end_joins p.track true track.end) _ _
      (in_end p.track true track.end track.end.joined c joined))),
)
on_track t p c (at_inner track i m x here at on conn) = (
  track,
  here,
  subst (λ q. In (q, c) (track_connections p.track track)) (same_place (inner_place p.track x.what i m) p refl (sym on))
      (in_right (end_joins p.track false track.begin) _ _ (in_right (end_joins p.track true track.end) _ _
      (in_numbered (inner_at p.track) 0 track.inner i x (inner_place p.track x.what i m, c) at
      (subst (λ n. In (inner_place p.track x.what i m, c) (inner_at p.track n x)) (sym (zero-add i)) (in_inner p.track i m x c conn))))),
)

all_listed : (t : Topology) (p : Place) (c : Conn) → connection t p ≡ Some c → In {X = Place × Conn} (p, c) (all_connections t)
all_listed t p c is =
    let on = on_track t p c (where_is t p c is) in
    in_numbered track_connections 0 t.tracks p.track on.0 (p, c) on.1
    (subst (λ n. In (p, c) (track_connections n on.0)) (sym (zero-add p.track)) on.2)

back_sound : (p to : Place) (o : Option Conn) → leads_back p to o ≡ true → ((other : Conn) × (o ≡ Some other) × (other.to ≡ p)) × (to ≢ p)
back_sound p to None is = absurd (false≢true is)
back_sound p to (Some other) is =
    let parts = and_parts (same_place_test other.to p) (not (same_place_test to p)) is in (
      (other, refl, place_sound other.to p parts.0),
      λ same. false≢true (sym (not-true (same_place_test to p) parts.1) ∙ ap (λ q. same_place_test to q) (sym same) ∙ place_refl to),
    )

joins_sound : (t : Topology) → both_ways_test t ≡ true → LeadsBothWays t
joins_sound t is =
    let tested : (p : Place) (c : Conn) → connection t p ≡ Some c → leads_back p c.to (connection t c.to) ≡ true =
    λ p c at. All-contains (λ (pc : Place × Conn). leads_back pc.0 pc.1.to (connection t pc.1.to) ≡ true) (all_connections t) (p, c)
    (AllPass-from_list_all _ (all_connections t) is) (contains_in (all_connections t) (p, c) (all_listed t p c at)) in
    record {
      back = λ p c at. (back_sound p c.to (connection t c.to) (tested p c at)).0;
      elsewhere = λ p c at. (back_sound p c.to (connection t c.to) (tested p c at)).1;
    }

-- The whole.

abbrev pub resolved_test : Topology → Bool
resolved_test t =
    nat_lt (length (elements t)) (2 ^ 32)
    && (list_all (λ (e : Element). id_test e.id) (elements t)
    && (apart_test (λ (d e : Element). bytes_eq d.id e.id) (elements t)
    && (apart_test (λ (d e : Element). eqb d.at e.at) (elements t)
    && (both_ways_test t && list_all mile_test (flat_map track_miles t.tracks)))))

pub resolved_by_test : (t : Topology) → resolved_test t ≡ true → IsResolved t
resolved_by_test t is =
    let b = and_parts (nat_lt (length (elements t)) (2 ^ 32)) _ is in
    let c = and_parts (list_all (λ (e : Element). id_test e.id) (elements t)) _ b.1 in
    let d = and_parts (apart_test (λ (d e : Element). bytes_eq d.id e.id) (elements t)) _ c.1 in
    let e = and_parts (apart_test (λ (d e : Element). eqb d.at e.at) (elements t)) _ d.1 in
    let f = and_parts (both_ways_test t) _ e.1 in
    record {
      few = ltb-true (length (elements t)) (2 ^ 32) b.0;
      ids = All-weaker (λ (x : Element). id_test x.id ≡ true) (λ (x : Element). IsId x.id) (λ x. id_sound x.id) (elements t)
          (AllPass-from_list_all _ (elements t) c.0);
      ids_differ = pairs_weaker _ (λ (x y : Element). x.id ≢ y.id) (elements t) (λ x y. not_from_Decides (bytes_eq x.id y.id) (bytes_eq-Decides x.id y.id))
          (apart_sound (λ (x y : Element). bytes_eq x.id y.id) (elements t) d.0);
      places_differ = pairs_weaker _ (λ (x y : Element). x.at ≢ y.at) (elements t) (λ x y. eqb-false x.at y.at)
          (apart_sound (λ (x y : Element). eqb x.at y.at) (elements t) e.0);
      joins = joins_sound t f.0;
      miles = All-weaker (λ m. mile_test m ≡ true) IsMileage mile_sound (flat_map track_miles t.tracks)
          (AllPass-from_list_all mile_test (flat_map track_miles t.tracks) f.1);
    }
