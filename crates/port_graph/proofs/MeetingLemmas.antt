-- Each run goes from a node to a node at which it meets, and what meets at a node are runs with an end there.
use Rattle.std.proofs.Common.{◌≡◌, ◌≢◌, ℕ, zero, suc, ◌+◌, ◌≤◌, Bool, true, false, ◌&&◌, cond, List, [], ◌∷◌, ◌++◌, length, map, Option, Some, None, refl, sym}
use Rattle.std.proofs.Common.{ap, ◌∙◌, subst, inl, inr, zero-add, arith}
use Rattle.std.specs.Prelude.{nat_lt, slice_get, unwrap_or, option_and_then}
use Rattle.std.specs.Option.{option_map_or}
use Rattle.std.specs.List.{enumerate_from}
use Rattle.std.proofs.lemmas.Bool.{false≢true, ltb-false, lt-ltb}
use Rattle.std.proofs.lemmas.Option.{same_Some, none-some}
use Rattle.plan_core.specs.declared.topology.Topology.{Topology}
use Rattle.plan_core.specs.declared.topology.Track.{Track}
use Rattle.plan_core.specs.declared.topology.End.{End as TrackEnd}
use Rattle.plan_core.specs.declared.topology.Inner.{Inner}
use Rattle.plan_core.specs.declared.topology.InnerKind.{InnerKind}
use Rattle.plan_core.specs.declared.topology.InnerKind.TheVariants.{Switch, Crossing}
use Rattle.plan_core.specs.declared.topology.Conn.{Conn}
use Rattle.plan_core.specs.declared.topology.Place.{Place}
use Rattle.plan_core.specs.declared.topology.Part.{Part}
use Rattle.plan_core.specs.declared.topology.Part.TheVariants.{Begin, End, Branch, Incoming, Outgoing}
use Rattle.plan_core.specs.Topology.{connections, connection, IsResolved}
use Rattle.plan_core.proofs.PlaceFacts.{same_place}
use Rattle.port_graph.specs.declared.runs.Spot.{Spot}
use Rattle.port_graph.specs.declared.sites.Site.{Site}
use Rattle.port_graph.specs.Spots.{end_spot, inner_spot, spot_at, is_track_end, is_listed_before, is_node, has_node, leads_to}
use Rattle.port_graph.specs.Runs.{piece_number, last_piece, join_of_connection, edge_toward, edge_beyond}
use Rattle.port_graph.specs.Sites.{end_meeting, end_sites, inner_meeting, inner_site, track_sites, sites}
use Rattle.port_graph.specs.Sides.{edges_met}
use Rattle.port_graph.proofs.Membership.{In, in_left, in_right, in_append, in_map, in_numbered, numbered_in}
use Rattle.port_graph.proofs.Places.{Where, at_end, at_inner, end_of, end_part, end_place, where_is, end_connection, end_spot_at, inner_spot_at, end_is_end}
use Rattle.port_graph.proofs.Places.{ends_apart}

-- ---- edges beyond connections

-- the piece at a track's end
abbrev pub own : Topology → ℕ → Bool → ℕ
own t k last = cond last (last_piece t k) (piece_number t k 0)

toward_end : (t : Topology) (c : Conn) (k : ℕ) (last : Bool) → edge_toward t c k (end_part last) ≡ own t k last
toward_end t c k true = refl
toward_end t c k false = refl

pub beyond_end : (t : Topology) (c : Conn) (k : ℕ) (last : Bool) → c.to.track ≡ k → c.to.part ≡ end_part last → edge_beyond t c ≡ own t k last
beyond_end t c k last at_k on = ap (λ (n : ℕ). edge_toward t c n c.to.part) at_k ∙ ap (edge_toward t c k) on ∙ toward_end t c k last

toward_inner : (t : Topology) (c : Conn) (k : ℕ) (part : Part) → is_track_end part ≡ false → edge_toward t c k part ≡ join_of_connection t c
toward_inner t c k Begin is = absurd (false≢true (sym is))
toward_inner t c k End is = absurd (false≢true (sym is))
toward_inner t c k (Branch i) is = refl
toward_inner t c k (Incoming i) is = refl
toward_inner t c k (Outgoing i) is = refl

pub beyond_inner : (t : Topology) (c : Conn) → is_track_end c.to.part ≡ false → edge_beyond t c ≡ join_of_connection t c
beyond_inner t c is = toward_inner t c c.to.track c.to.part is

pub last_is : (t : Topology) (k : ℕ) (track : Track) → slice_get t.tracks k ≡ Some track → last_piece t k ≡ piece_number t k (length track.inner)
last_is t k track here = ap (λ (o : Option Track). piece_number t k (option_map_or (λ (track : Track). length track.inner) o 0)) here

-- ---- what meets

own_met : (t : Topology) (n : ℕ) (joined : Option Conn) → In n (edges_met (end_meeting t n joined))
own_met t n None = inl refl
own_met t n (Some c) = inl refl

pub before_met : (t : Topology) (before after : ℕ) (what : InnerKind) → In before (edges_met (inner_meeting t before after what))
before_met t before after (Switch outgoing hand track_diverges conn) = inl refl
before_met t before after (Crossing hand incoming outgoing) = inl refl

pub after_met : (t : Topology) (before after : ℕ) (what : InnerKind) → In after (edges_met (inner_meeting t before after what))
after_met t before after (Switch outgoing hand track_diverges conn) = inr (inl refl)
after_met t before after (Crossing hand incoming outgoing) = inr (inl refl)

pub connection_met : (t : Topology) (before after : ℕ) (what : InnerKind) (m : ℕ) (c : Conn) → slice_get (connections what) m ≡ Some c →
    In (edge_beyond t c) (edges_met (inner_meeting t before after what))
connection_met t before after (Switch outgoing hand track_diverges conn) zero c is = inr (inr (inl (ap (edge_beyond t) (same_Some conn c is))))
connection_met t before after (Switch outgoing hand track_diverges conn) (suc m) c is = absurd (none-some c is)
connection_met t before after (Crossing hand incoming outgoing) zero c is = inr (inr (inl (ap (edge_beyond t) (same_Some incoming c is))))
connection_met t before after (Crossing hand incoming outgoing) (suc zero) c is = inr (inr (inr (inl (ap (edge_beyond t) (same_Some outgoing c is)))))
connection_met t before after (Crossing hand incoming outgoing) (suc (suc m)) c is = absurd (none-some c is)

-- an edge at a switch or crossing is the piece before it, the piece after it, or beyond a connection
pub data Met (t : Topology) (before after : ℕ) (what : InnerKind) (e : ℕ) : Type 0 where
  met_before : before ≡ e → Met t before after what e
  met_after : after ≡ e → Met t before after what e
  met_beyond : (m : ℕ) (c : Conn) → slice_get (connections what) m ≡ Some c → edge_beyond t c ≡ e → Met t before after what e

pub met_cases : (t : Topology) (before after : ℕ) (what : InnerKind) (e : ℕ) → In e (edges_met (inner_meeting t before after what)) → Met t before after what e
met_cases t before after (Switch outgoing hand track_diverges conn) e (inl is) = met_before is
met_cases t before after (Switch outgoing hand track_diverges conn) e (inr (inl is)) = met_after is
met_cases t before after (Switch outgoing hand track_diverges conn) e (inr (inr (inl is))) = met_beyond 0 conn refl is
met_cases t before after (Switch outgoing hand track_diverges conn) e (inr (inr (inr none))) = absurd none
met_cases t before after (Crossing hand incoming outgoing) e (inl is) = met_before is
met_cases t before after (Crossing hand incoming outgoing) e (inr (inl is)) = met_after is
met_cases t before after (Crossing hand incoming outgoing) e (inr (inr (inl is))) = met_beyond 0 incoming refl is
met_cases t before after (Crossing hand incoming outgoing) e (inr (inr (inr (inl is)))) = met_beyond 1 outgoing refl is
met_cases t before after (Crossing hand incoming outgoing) e (inr (inr (inr (inr none)))) = absurd none

-- ---- the nodes of a topology

abbrev pub site_of_end : Topology → TrackEnd → ℕ → Site
site_of_end t e n = record { id = e.id; spot = end_spot e; meets = end_meeting t n e.joined }

numbered_there : {X : Type 0} (n : ℕ) (xs : List X) (i : ℕ) (x : X) → slice_get xs i ≡ Some x → In (n + i, x) (enumerate_from n xs)
numbered_there n [] i x is = absurd (none-some x is)
numbered_there {X} n (y ∷ ys) zero x is = let F : ℕ → X → ℕ × X = λ k z. (k, z) in inl (ap (λ (k : ℕ). F k y) (omega arith) ∙ ap (F (n + 0)) (same_Some y x is))
numbered_there {X} n (y ∷ ys) (suc i) x is = inr (subst (λ (k : ℕ). In (k, x) (enumerate_from (n + 1) ys)) (omega arith) (numbered_there (n + 1) ys i x is))

there_numbered : {X : Type 0} (n : ℕ) (xs : List X) (ix : ℕ × X) → In ix (enumerate_from n xs) → (i : ℕ) × (slice_get xs i ≡ Some ix.1) × (ix.0 ≡ n + i)
there_numbered n [] ix h = absurd h
there_numbered {X} n (y ∷ ys) ix (inl e) = (0, ap (λ (p : ℕ × X). Some p.1) e, sym (ap (λ (p : ℕ × X). p.0) e) ∙ omega arith)
there_numbered n (y ∷ ys) ix (inr h) = let r = there_numbered (n + 1) ys ix h in let same = r.2 in (suc r.0, r.1, omega (arith, same))

in_sites : (t : Topology) (k : ℕ) (track : Track) (s : Site) → slice_get t.tracks k ≡ Some track → In s (track_sites t k track) → In s (sites t)
in_sites t k track s here h =
    in_numbered (track_sites t) 0 t.tracks k track s here (subst (λ (n : ℕ). In s (track_sites t n track)) (sym (zero-add k)) h)

abbrev inner_list : Topology → ℕ → Track → List Site
inner_list t k track = map (λ (ix : ℕ × Inner). inner_site t k ix.0 ix.1) (enumerate_from 0 track.inner)

pub inner_site_there : (t : Topology) (k i : ℕ) (track : Track) (x : Inner) → slice_get t.tracks k ≡ Some track → slice_get track.inner i ≡ Some x →
    In (inner_site t k i x) (sites t)
inner_site_there t k i track x here at_i =
    in_sites t k track (inner_site t k i x) here
    (in_right (end_sites t track.begin (piece_number t k 0)) (inner_list t k track ++ end_sites t track.end (last_piece t k)) (inner_site t k i x)
    (in_left (inner_list t k track) (end_sites t track.end (last_piece t k)) (inner_site t k i x)
    (subst (λ (n : ℕ). In (inner_site t k n x) (inner_list t k track)) (zero-add i)
    (in_map (λ (ix : ℕ × Inner). inner_site t k ix.0 ix.1) (enumerate_from 0 track.inner) (0 + i, x) (numbered_there 0 track.inner i x at_i)))))

chosen : (b : Bool) (s : Site) → b ≡ true → In s (cond b (s ∷ []) [])
chosen b s is = subst (λ (b : Bool). In s (cond b (s ∷ []) [])) (sym is) (inl refl)

was_chosen : (b : Bool) (s s' : Site) → In s (cond b (s' ∷ []) []) → (b ≡ true) × (s' ≡ s)
was_chosen true s s' (inl is) = (refl, is)
was_chosen true s s' (inr none) = absurd none
was_chosen false s s' none = absurd none

pub end_site_there : (t : Topology) (k : ℕ) (track : Track) (last : Bool) → slice_get t.tracks k ≡ Some track → has_node t (end_of track last) ≡ true →
    In (site_of_end t (end_of track last) (own t k last)) (sites t)
end_site_there t k track false here node =
    let s : Site = site_of_end t track.begin (piece_number t k 0) in
    in_sites t k track s here (in_left (end_sites t track.begin (piece_number t k 0)) (inner_list t k track ++ end_sites t track.end (last_piece t k)) s
    (chosen (has_node t track.begin) s node))
end_site_there t k track true here node =
    let s : Site = site_of_end t track.end (last_piece t k) in
    in_sites t k track s here (in_right (end_sites t track.begin (piece_number t k 0)) (inner_list t k track ++ end_sites t track.end (last_piece t k)) s
    (in_right (inner_list t k track) (end_sites t track.end (last_piece t k)) s (chosen (has_node t track.end) s node)))

-- a node is that of a track's end, or of a switch or crossing
pub data SiteOf (t : Topology) (s : Site) : Type 0 where
  of_end : (k : ℕ) (track : Track) (last : Bool) → slice_get t.tracks k ≡ Some track → has_node t (end_of track last) ≡ true →
      site_of_end t (end_of track last) (own t k last) ≡ s → SiteOf t s
  of_inner : (k i : ℕ) (track : Track) (x : Inner) → slice_get t.tracks k ≡ Some track → slice_get track.inner i ≡ Some x → inner_site t k i x ≡ s → SiteOf t s

of_inner_list : (t : Topology) (k : ℕ) (track : Track) (s : Site) → slice_get t.tracks k ≡ Some track → In s (inner_list t k track) → SiteOf t s
of_inner_list t k track s here h = go (enumerate_from 0 track.inner) (λ ix g. there_numbered 0 track.inner ix g) h
  where
    go : (l : List (ℕ × Inner)) → ((ix : ℕ × Inner) → In ix l → (i : ℕ) × (slice_get track.inner i ≡ Some ix.1) × (ix.0 ≡ 0 + i)) →
        In s (map (λ (ix : ℕ × Inner). inner_site t k ix.0 ix.1) l) → SiteOf t s
    go [] from h = absurd h
    go (ix ∷ l) from (inl is) =
        let f = from ix (inl refl) in
        of_inner k f.0 track ix.1 here f.1 (ap (λ (n : ℕ). inner_site t k n ix.1) (sym (f.2 ∙ zero-add f.0)) ∙ is)
    go (ix ∷ l) from (inr h) = go l (λ iy g. from iy (inr g)) h

pub site_of : (t : Topology) (s : Site) → In s (sites t) → SiteOf t s
site_of t s h =
    let f = numbered_in (track_sites t) 0 t.tracks s h in
    let k : ℕ = f.0 in
    let track : Track = f.1 in
    let h' : In s (track_sites t k track) = subst (λ (n : ℕ). In s (track_sites t n track)) (zero-add k) f.3 in
    elim (in_append (end_sites t track.begin (piece_number t k 0)) (inner_list t k track ++ end_sites t track.end (last_piece t k)) s h') [
      | inl begin ↦ let c = was_chosen (has_node t track.begin) s (site_of_end t track.begin (piece_number t k 0)) begin in of_end k track false f.2 c.0 c.1
      | inr rest ↦ elim (in_append (inner_list t k track) (end_sites t track.end (last_piece t k)) s rest) [
        | inl inner ↦ of_inner_list t k track s f.2 inner
        | inr end ↦ let c = was_chosen (has_node t track.end) s (site_of_end t track.end (last_piece t k)) end in of_end k track true f.2 c.0 c.1
      ]
    ]

-- ---- which ends have nodes, and where the others lead

pub node_beside_end : (t : Topology) (e : TrackEnd) (c : Conn) (track : Track) (last : Bool) → e.joined ≡ Some c → slice_get t.tracks c.to.track ≡ Some track →
    c.to.part ≡ end_part last → has_node t e ≡ nat_lt e.at (end_of track last).at
node_beside_end t e c track last joined here on =
    ap (is_node t e) joined
    ∙ ap (λ (b : Bool). b && is_listed_before e (spot_at t c.to)) (ap is_track_end on ∙ end_is_end last)
    ∙ ap (λ (o : Option Spot). is_listed_before e o) (end_spot_at t c.to track last here on)

pub no_node_beside_inner : (t : Topology) (e : TrackEnd) (c : Conn) → e.joined ≡ Some c → is_track_end c.to.part ≡ false → has_node t e ≡ false
no_node_beside_inner t e c joined on =
    ap (is_node t e) joined ∙ ap (λ (b : Bool). b && is_listed_before e (spot_at t c.to)) on

pub leads_own : (t : Topology) (e : TrackEnd) → has_node t e ≡ true → leads_to t e ≡ end_spot e
leads_own t e node = ap (λ (b : Bool). cond b (end_spot e) (unwrap_or (option_and_then (λ (c : Conn). spot_at t c.to) e.joined) (end_spot e))) node

pub leads_other : (t : Topology) (e : TrackEnd) (c : Conn) (s : Spot) → has_node t e ≡ false → e.joined ≡ Some c → spot_at t c.to ≡ Some s → leads_to t e ≡ s
leads_other t e c s node joined spot =
    ap (λ (b : Bool). cond b (end_spot e) (unwrap_or (option_and_then (λ (c : Conn). spot_at t c.to) e.joined) (end_spot e))) node
    ∙ ap (λ (o : Option Conn). unwrap_or (option_and_then (λ (c : Conn). spot_at t c.to) o) (end_spot e)) joined
    ∙ ap (λ (o : Option Spot). unwrap_or o (end_spot e)) spot

-- ---- a node at a spot at which an edge meets

pub record SiteWith (t : Topology) (spot : Spot) (e : ℕ) : Type 0 where
  pub site : Site
  pub there : In site (sites t)
  pub at : site.spot ≡ spot
  pub met : In e (edges_met site.meets)

pub same_site_with : (t : Topology) (spot spot' : Spot) (e e' : ℕ) → spot ≡ spot' → e ≡ e' → SiteWith t spot e → SiteWith t spot' e'
same_site_with t spot spot' e e' same same' s = record {
  site = s.site;
  there = s.there;
  at = s.at ∙ same;
  met = subst (λ (n : ℕ). In n (edges_met s.site.meets)) same' s.met;
}

pub inner_with : (t : Topology) (k i : ℕ) (track : Track) (x : Inner) (e : ℕ) → slice_get t.tracks k ≡ Some track → slice_get track.inner i ≡ Some x →
    In e (edges_met (inner_meeting t (piece_number t k i) (piece_number t k (i + 1)) x.what)) → SiteWith t (inner_spot x) e
inner_with t k i track x e here at_i met = record { site = inner_site t k i x; there = inner_site_there t k i track x here at_i; at = refl; met = met }

leads_beside : (t : Topology) → IsResolved t → (k : ℕ) (track : Track) (last : Bool) (c other : Conn) → slice_get t.tracks k ≡ Some track →
    (end_of track last).joined ≡ Some c → has_node t (end_of track last) ≡ false → connection t (end_place k last) ≡ Some c → other.to ≡ end_place k last →
    Where t c.to other → SiteWith t (leads_to t (end_of track last)) (own t k last)
leads_beside t resolved k track last c other here joined node from back (at_inner track2 i m x here2 at_i on at_m) =
    same_site_with t (inner_spot x) (leads_to t (end_of track last)) (edge_beyond t other) (own t k last)
    (sym (leads_other t (end_of track last) c (inner_spot x) node joined (inner_spot_at t c.to track2 i m x here2 at_i on)))
    (beyond_end t other k last (ap (λ (p : Place). p.track) back) (ap (λ (p : Place). p.part) back))
    (inner_with t c.to.track i track2 x (edge_beyond t other) here2 at_i (connection_met t (piece_number t c.to.track i) (piece_number t c.to.track (i + 1))
    x.what m other at_m))
leads_beside t resolved k track last c other here joined node from back (at_end track2 last2 here2 on joined2) =
    let e : TrackEnd = end_of track last in
    let e2 : TrackEnd = end_of track2 last2 in
    let elsewhere : end_place k last ≢ end_place c.to.track last2 = λ same. resolved.joins.elsewhere (end_place k last) c from
    (same_place c.to (end_place c.to.track last2) refl on ∙ sym same) in
    let late : e2.at ≤ e.at = ltb-false e.at e2.at (sym (node_beside_end t e c track2 last2 joined here2 on) ∙ node) in
    let differ : e.at ≢ e2.at = ends_apart t resolved k c.to.track track track2 last last2 here here2 elsewhere in
    let here' : slice_get t.tracks other.to.track ≡ Some track = ap (λ (p : Place). slice_get t.tracks p.track) back ∙ here in
    let node2 : has_node t e2 ≡ true = node_beside_end t e2 other track last joined2 here' (ap (λ (p : Place). p.part) back)
    ∙ lt-ltb e2.at e.at (omega arith) in
    record {
      site = site_of_end t e2 (own t c.to.track last2);
      there = end_site_there t c.to.track track2 last2 here2 node2;
      at = sym (leads_other t e c (end_spot e2) node joined (end_spot_at t c.to track2 last2 here2 on));
      met =
          subst (λ (o : Option Conn). In (own t k last) (edges_met (end_meeting t (own t c.to.track last2) o))) (sym joined2)
          (inr (inl (beyond_end t other k last (ap (λ (p : Place). p.track) back) (ap (λ (p : Place). p.part) back))));
    }

-- a track's end leads to a node at which its piece meets
pub leads_with : (t : Topology) → IsResolved t → (k : ℕ) (track : Track) (last : Bool) → slice_get t.tracks k ≡ Some track →
    SiteWith t (leads_to t (end_of track last)) (own t k last)
leads_with t resolved k track last here = by_node (has_node t (end_of track last)) refl
  where
    by_joined : (o : Option Conn) → (end_of track last).joined ≡ o → has_node t (end_of track last) ≡ false →
        SiteWith t (leads_to t (end_of track last)) (own t k last)
    by_joined None joined node = absurd (false≢true (sym node ∙ ap (is_node t (end_of track last)) joined))
    by_joined (Some c) joined node =
        let from : connection t (end_place k last) ≡ Some c = end_connection t k track last here ∙ joined in
        let back = resolved.joins.back (end_place k last) c from in
        leads_beside t resolved k track last c back.0 here joined node from back.2 (where_is t c.to back.0 back.1)

    by_node : (b : Bool) → has_node t (end_of track last) ≡ b → SiteWith t (leads_to t (end_of track last)) (own t k last)
    by_node true node = record {
      site = site_of_end t (end_of track last) (own t k last);
      there = end_site_there t k track last here node;
      at = sym (leads_own t (end_of track last) node);
      met = own_met t (own t k last) (end_of track last).joined;
    }
    by_node false node = by_joined (end_of track last).joined refl node
