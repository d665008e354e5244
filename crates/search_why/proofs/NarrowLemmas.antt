-- Narrowing down: a law is kept or left out.
use Rattle.std.proofs.Common.{◌≡◌, ◌≢◌, ℕ, suc, ◌+◌, ◌-◌, ◌<◌, ◌≤◌, ◌⊎◌, Bool, true, false, cond, List, [], ◌∷◌, ◌++◌, length, get_or, refl, sym, ◌∙◌, ap}
use Rattle.std.proofs.Common.{subst, inl, inr, arith, take, append-nil, length-append}
use Rattle.std.specs.Prelude.{filter, slice_get, Some}
use Rattle.std.specs.List.{All, Contains, remove}
use Rattle.std.proofs.lemmas.List.{get_or_append_left}
use Rattle.std.proofs.Math.Seq.{get_or-append_seam}
use Rattle.std.proofs.lemmas.Option.{slice_get_within, get_or_from_slice_get, slice_get-get_or}
use Rattle.std.proofs.lemmas.List.Elements.{All-nil, All-append, All-push, All-filter, All-contains, Contains-get_or, Contains-append_left}
use Rattle.std.proofs.lemmas.List.Elements.{Contains-append_cases, Contains-push, Contains-push_cases}
use Rattle.std.proofs.lemmas.List.Kept.{AllPairs-filter}
use Rattle.std.proofs.lemmas.List.Quantifiers.{all_pairs_push}
use Rattle.std.proofs.lemmas.List.Edits.{remove-append_left, remove-append_right}
use Rattle.plan_core.proofs.Listing.{Contains-filter}
use Rattle.plan_core.specs.Drawing.{Drawing}
use Rattle.search_why.specs.Explained.{IsLoose}
use Rattle.search_why.specs.Task.{Task, MeetsAt}
use Rattle.search_why.specs.declared.oracle.Reply.{Reply}
use Rattle.search_why.specs.declared.oracle.Reply.TheVariants.{Found, Refuted}
use Rattle.search_why.specs.Asked.{AreLawPlaces, NoneMeetsLaws, IsRightReply}
use Rattle.search_why.specs.Narrowed.{has_number, IsNarrowed}
use Rattle.search_why.proofs.PlaceLemmas.{all_last, pairs_last, pairs_both, has_contained}
use Rattle.plan_core.proofs.ListFacts.{all_front, all_back, pairs_front}

pub narrow_none : (p : Task) (left : List ℕ) → AreLawPlaces p left → NoneMeetsLaws p left → IsNarrowed p [] left []
narrow_none p left places none = record {
  kept_places = record { there = All-nil (λ n. n < length p.laws); once = λ i j d lt within. absurd (omega (arith, within)) };
  left_places = places;
  apart = λ a b c d. absurd (let lt = c.1 in omega (arith, lt));
  none = none;
  count = refl;
  each = λ i d e. absurd (let lt = slice_get_within [] i d e in omega (arith, lt));
}

-- what is asked: all that are left but the last
pub narrow_asked : (p : Task) (kept left : List ℕ) (n : ℕ) (without : List Drawing) → IsNarrowed p kept (left ++ n ∷ []) without → AreLawPlaces p (kept ++ left)
narrow_asked p kept left n without h = record {
  there = All-append (λ k. k < length p.laws) kept left h.kept_places.there (all_front (λ k. k < length p.laws) left (n ∷ []) h.left_places.there);
  once = pairs_both (λ a b. a ≢ b) kept left h.kept_places.once (pairs_front (λ a b. a ≢ b) left (n ∷ []) h.left_places.once)
      (λ a b ca cb. h.apart a b ca (Contains-append_left left (n ∷ []) b cb));
}

-- the last can't be left out
keeps_place : (p : Task) (kept left : List ℕ) (n : ℕ) (without : List Drawing) (d : Drawing) → length without ≡ length kept →
    ((i : ℕ) (e : Drawing) → slice_get without i ≡ Some e → IsLoose p.graph p.grid e × All (MeetsAt p e) (remove kept i ++ (left ++ n ∷ []))) →
    IsLoose p.graph p.grid d × All (MeetsAt p d) (kept ++ left) → (i : ℕ) (e : Drawing) → slice_get (without ++ d ∷ []) i ≡ Some e →
    IsLoose p.graph p.grid e × All (MeetsAt p e) (remove (kept ++ n ∷ []) i ++ left)
keeps_place p kept left n without d count each found i e is =
    let most : i < length (without ++ d ∷ []) = slice_get_within (without ++ d ∷ []) i e is in
    let len = length-append without (d ∷ []) in
    elim (split i (length without) (omega arith)) [
      | inl lt ↦
          let same : slice_get without i ≡ Some e =
          slice_get-get_or without i e lt ∙ ap Some (sym (get_or_append_left without (d ∷ []) e i lt) ∙ get_or_from_slice_get (without ++ d ∷ []) i e e is) in
          let old = each i e same in
          let all : All (MeetsAt p e) (remove kept i ++ (left ++ n ∷ [])) = old.1 in
          let rest : All (MeetsAt p e) (left ++ n ∷ []) = all_back (MeetsAt p e) (remove kept i) (left ++ n ∷ []) all in (
            old.0,
            All-append (MeetsAt p e) (remove (kept ++ n ∷ []) i) left
                (subst (All (MeetsAt p e)) (sym (remove-append_left kept (n ∷ []) i (omega arith)))
                (All-push (MeetsAt p e) (remove kept i) n (all_front (MeetsAt p e) (remove kept i) (left ++ n ∷ []) all) (all_last (MeetsAt p e) left n rest)))
                (all_front (MeetsAt p e) left (n ∷ []) rest),
          )
      | inr at ↦
          let same : d ≡ e = sym (get_or-append_seam without d [] e) ∙ ap (λ k. get_or (without ++ d ∷ []) k e) (sym at)
          ∙ get_or_from_slice_get (without ++ d ∷ []) i e e is in
          let zero_left : i - length kept ≡ 0 = omega arith in
          let none : remove (kept ++ n ∷ []) i ≡ kept =
          remove-append_right kept (n ∷ []) (length kept) i refl (omega arith) ∙ ap (λ k. kept ++ remove (n ∷ []) k) zero_left ∙ append-nil kept in
          subst (λ (x : Drawing). IsLoose p.graph p.grid x × All (MeetsAt p x) (remove (kept ++ n ∷ []) i ++ left)) same
          (found.0, subst (λ (ks : List ℕ). All (MeetsAt p d) (ks ++ left)) (sym none) found.1)
    ]
  where
    split : (i m : ℕ) → i < m + 1 → (i < m) ⊎ (i ≡ m)
    split i m lt = grind (arith, lt)

pub narrow_found : (p : Task) (kept left : List ℕ) (n : ℕ) (without : List Drawing) (d : Drawing) → IsNarrowed p kept (left ++ n ∷ []) without →
    IsLoose p.graph p.grid d × All (MeetsAt p d) (kept ++ left) → IsNarrowed p (kept ++ n ∷ []) left (without ++ d ∷ [])
narrow_found p kept left n without d h found = record {
  kept_places = record {
    there = All-push (λ k. k < length p.laws) kept n h.kept_places.there (all_last (λ k. k < length p.laws) left n h.left_places.there);
    once = all_pairs_push (λ a b. a ≢ b) kept n h.kept_places.once (λ k e lt. h.apart (get_or kept k e) n (Contains-get_or kept k e lt) (Contains-push left n));
  };
  left_places = record {
    there = all_front (λ k. k < length p.laws) left (n ∷ []) h.left_places.there;
    once = pairs_front (λ a b. a ≢ b) left (n ∷ []) h.left_places.once;
  };
  apart = λ a b ca cb. elim (Contains-push_cases kept n a ca) [
    | inl there ↦ h.apart a b there (Contains-append_left left (n ∷ []) b cb)
    | inr same ↦ λ e. pairs_last (λ x y. x ≢ y) left n b h.left_places.once cb (sym (same ∙ e))
  ];
  none = λ e loose all. h.none e loose
      (let front = all_front (MeetsAt p e) (kept ++ n ∷ []) left all in
      All-append (MeetsAt p e) kept (left ++ n ∷ []) (all_front (MeetsAt p e) kept (n ∷ []) front)
      (All-push (MeetsAt p e) left n (all_back (MeetsAt p e) (kept ++ n ∷ []) left all) (all_last (MeetsAt p e) kept n front)));
  count = length-append without (d ∷ []) ∙ ap (λ k. k + 1) h.count ∙ sym (length-append kept (n ∷ []));
  each = keeps_place p kept left n without d h.count h.each found;
}

-- the last is left out, and with it what isn't among those that can't be met
pub narrow_refuted : (p : Task) (kept left core : List ℕ) (n : ℕ) (without : List Drawing) → IsNarrowed p kept (left ++ n ∷ []) without →
    All (Contains (kept ++ left)) core × NoneMeetsLaws p core → IsNarrowed p kept (filter (has_number core) left) without
narrow_refuted p kept left core n without h refuted =
    let left_there = all_front (λ k. k < length p.laws) left (n ∷ []) h.left_places.there in
    let left_once = pairs_front (λ a b. a ≢ b) left (n ∷ []) h.left_places.once in
    let only = filter (has_number core) left in
    record {
      kept_places = h.kept_places;
      left_places = record {
        there = All-filter (has_number core) (λ k. k < length p.laws) left left_there;
        once = AllPairs-filter (λ a b. a ≢ b) (has_number core) left left_once;
      };
      apart = λ a b ca cb. h.apart a b ca (Contains-append_left left (n ∷ []) b (from_filter (has_number core) left b cb));
      none = λ e loose all. refuted.1 e loose (meets_core p kept left core e refuted.0 all);
      count = h.count;
      each = λ i e is.
          let old = h.each i e is in
          let all : All (MeetsAt p e) (remove kept i ++ (left ++ n ∷ [])) = old.1 in (
            old.0,
            All-append (MeetsAt p e) (remove kept i) only (all_front (MeetsAt p e) (remove kept i) (left ++ n ∷ []) all)
                (All-filter (has_number core) (MeetsAt p e) left (all_front (MeetsAt p e) left (n ∷ [])
                (all_back (MeetsAt p e) (remove kept i) (left ++ n ∷ []) all))),
          );
    }
  where
    from_filter : (t : ℕ → Bool) (xs : List ℕ) (b : ℕ) → Contains (filter t xs) b → Contains xs b
    from_filter t xs b c = All-contains (Contains xs) (filter t xs) b (All-filter t (Contains xs) xs (λ k d lt. Contains-get_or xs k d lt)) c

    meets_core : (p : Task) (kept left core : List ℕ) (e : Drawing) → All (Contains (kept ++ left)) core →
        All (MeetsAt p e) (kept ++ filter (has_number core) left) → All (MeetsAt p e) core
    meets_core p kept left core e among all = λ k d lt.
        let c = get_or core k d in
        let is : Contains core c = Contains-get_or core k d lt in
        elim (Contains-append_cases kept left c (among k d lt)) [
          | inl there ↦ All-contains (MeetsAt p e) kept c (all_front (MeetsAt p e) kept (filter (has_number core) left) all) there
          | inr there ↦ All-contains (MeetsAt p e) (filter (has_number core) left) c (all_back (MeetsAt p e) kept (filter (has_number core) left) all)
              (Contains-filter (has_number core) left c there (has_contained core c is))
        ]

-- those of the first refuted question
pub first_left : (p : Task) (all core : List ℕ) → AreLawPlaces p all → All (Contains all) core × NoneMeetsLaws p core →
    AreLawPlaces p (filter (has_number core) all) × NoneMeetsLaws p (filter (has_number core) all)
first_left p all core places refuted = (
  record {
    there = All-filter (has_number core) (λ k. k < length p.laws) all places.there;
    once = AllPairs-filter (λ a b. a ≢ b) (has_number core) all places.once;
  },
  λ e loose met. refuted.1 e loose (λ k d lt.
      let c = get_or core k d in
      All-contains (MeetsAt p e) (filter (has_number core) all) c met (Contains-filter (has_number core) all c (refuted.0 k d lt)
      (has_contained core c (Contains-get_or core k d lt)))),
)

-- ---- by the reply

pub found_narrowed : (p : Task) (kept left wanted more : List ℕ) (n : ℕ) (without drawings : List Drawing) (d : Drawing) (reply : Reply) →
    wanted ≡ kept ++ left → reply ≡ Found d → IsRightReply p wanted reply →
    IsNarrowed p kept (left ++ n ∷ []) without → more ≡ kept ++ n ∷ [] → drawings ≡ without ++ d ∷ [] → IsNarrowed p more left drawings
found_narrowed p kept left wanted more n without drawings d reply asked is right h longer drawn =
    let got : IsRightReply p (kept ++ left) (Found d) = subst (λ (r : Reply). IsRightReply p (kept ++ left) r) is
    (subst (λ (w : List ℕ). IsRightReply p w reply) asked right) in
    subst (λ (k : List ℕ). IsNarrowed p k left drawings) (sym longer) (subst (λ (ds : List Drawing). IsNarrowed p (kept ++ n ∷ []) left ds) (sym drawn)
    (narrow_found p kept left n without d h got))

pub refuted_narrowed : (p : Task) (kept left wanted core core_slice fewer : List ℕ) (n : ℕ) (without : List Drawing) (reply : Reply) → wanted ≡ kept ++ left →
    reply ≡ Refuted core → IsRightReply p wanted reply →
    IsNarrowed p kept (left ++ n ∷ []) without → core_slice ≡ core → fewer ≡ filter (has_number core_slice) left → IsNarrowed p kept fewer without
refuted_narrowed p kept left wanted core core_slice fewer n without reply asked is right h same only =
    let got : IsRightReply p (kept ++ left) (Refuted core) = subst (λ (r : Reply). IsRightReply p (kept ++ left) r) is
    (subst (λ (w : List ℕ). IsRightReply p w reply) asked right) in
    subst (λ (l : List ℕ). IsNarrowed p kept l without) (sym (only ∙ ap (λ (c : List ℕ). filter (has_number c) left) same))
    (narrow_refuted p kept left core n without h got)

filter_short : (t : ℕ → Bool) (xs : List ℕ) → length (filter t xs) ≤ length xs
filter_short t [] = omega arith
filter_short t (x ∷ xs) = pick (t x) (filter_short t xs)
  where
    pick : (b : Bool) → length (filter t xs) ≤ length xs → length (cond b (x ∷ filter t xs) (filter t xs)) ≤ suc (length xs)
    pick true le = omega (arith, le)
    pick false le = omega (arith, le)

pub filter_shorter : (t : ℕ → Bool) (xs ys : List ℕ) → ys ≡ filter t xs → length ys ≤ length xs
filter_shorter t xs ys e = subst (λ (l : List ℕ). length l ≤ length xs) (sym e) (filter_short t xs)

pub first_refuted : (p : Task) (all core core_slice left : List ℕ) (reply : Reply) → AreLawPlaces p all → reply ≡ Refuted core → IsRightReply p all reply →
    core_slice ≡ core → left ≡ filter (has_number core_slice) all →
    AreLawPlaces p left × NoneMeetsLaws p left
first_refuted p all core core_slice left reply places is right same only =
    let got : IsRightReply p all (Refuted core) = subst (λ (r : Reply). IsRightReply p all r) is right in
    subst (λ (l : List ℕ). AreLawPlaces p l × NoneMeetsLaws p l) (sym (only ∙ ap (λ (c : List ℕ). filter (has_number c) all) same))
    (first_left p all core places got)

pub nothing_left : (left rest : List ℕ) (n : ℕ) → left ≡ rest ++ [] → rest ≡ take (n - 1) left → n ≡ 0 → left ≡ []
nothing_left left rest n items front none = let z : n - 1 ≡ 0 = omega arith in items ∙ append-nil rest ∙ front ∙ ap (λ k. take k left) z
