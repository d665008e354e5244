-- Elements of a topology are made from their rows.
use Rattle.std.proofs.Common.{◌≡◌, ℕ, ◌+◌, ◌<◌, ◌≤◌, ◌^◌, Bool, true, false, Option, Some, None, List, [], ◌∷◌, ◌++◌, length, take, get_or, slice_get, refl}
use Rattle.std.proofs.Common.{sym, ap, ◌∙◌, subst, inl, inr, FitsSigned, w64, to_z, of_z, arith}
use Rattle.std.specs.Prelude.{codes, ℤ, ◌+ℤ◌, ◌-ℤ◌, is_some, MatchOption}
use Rattle.std.specs.List.{AllZip}
use Rattle.std.proofs.lemmas.Int.{ints, to_z-of_z}
use Rattle.std.proofs.lemmas.List.{take_more, take_all}
use Rattle.railml_faults.proofs.IdLemmas.{one_row}
use Rattle.plan_core.specs.declared.sides.Hand.{Hand}
use Rattle.plan_core.specs.declared.topology.Conn.{Conn}
use Rattle.railml_read.specs.declared.rows.Elem.{Elem}
use Rattle.railml_read.specs.declared.rows.ElemKind.{ElemKind}
use Rattle.railml_read.specs.declared.rows.ElemKind.TheVariants.{Track, Begin, End, Switch, Crossing, Connection}
use Rattle.railml_faults.specs.Rows.{is_of_kind, bears_id, bears_position, is_word, ReadsMetres, HasPosition}
use Rattle.railml_faults.specs.Faults.{IsConnectionOf}
use Rattle.railml_faults.proofs.Family.{of_kind, is_of_its_kind, IsChild, only_child}
use Rattle.railml_topology.specs.declared.layout.Layout.{Layout}
use Rattle.railml_topology.specs.Resolved.{way_word, hand_word, HasWay, IsMeasuredFrom, HasMileage, IsLayout, AreLayouts, IsBranchOf, IsWayOf, IsConnOf}
use Rattle.railml_topology.specs.Resolved.{IsCourseOf, IsSwitchOf, IsCrossingOf}
use Rattle.railml_topology.specs.Plans.{is_inner, IsOfSize}
use Rattle.railml_topology.specs.Sites.{HasNumbers, IsStart, IsEither}
use Rattle.railml_topology.specs.Sound.{AreSoundRows}
use Rattle.railml_topology.proofs.Zips.{zip_pushed}
use Rattle.railml_topology.proofs.PositionLemmas.{inner_kind, word_is}
use Rattle.railml_topology.proofs.ElementLemmas.{way_child, IsSet, all_laid}
use Rattle.railml_topology.proofs.JoinLemmas.{all_at}
use Rattle.railml_topology.proofs.PlaceLemmas.{connection_of_row}
use Rattle.railml_topology.proofs.SiteLemmas.{id_there, bears_by_kind}

-- ---- mileages

some_text : (o : Option (List ℕ)) → is_some o ≡ true → (t : List ℕ) × (o ≡ Some t)
some_text None e = absurd cc
some_text (Some t) e = (t, refl)

pub no_text : (o : Option (List ℕ)) → is_some o ≡ false → o ≡ None
no_text None e = refl
no_text (Some t) e = absurd cc

pub mileage_text : (row : Elem) → HasNumbers row → is_some row.attrs.abs_pos ≡ true → (t : List ℕ) × (z : ℤ) × (row.attrs.abs_pos ≡ Some t) × ReadsMetres t z
mileage_text row h e =
    let there = some_text row.attrs.abs_pos e in
    let reads = h.mileage there.0 there.1 in
    (there.0, reads.0, there.1, reads.1)

pub own_mileage : (begin row : Elem) (z : ℤ) → is_some row.attrs.abs_pos ≡ true → ((t : List ℕ) → row.attrs.abs_pos ≡ Some t → ReadsMetres t z) →
    IsOfSize (10 ^ 15) z → HasMileage begin row (to_z w64 (of_z w64 z))
own_mileage begin row z e reads within =
    let there = some_text row.attrs.abs_pos e in
    let has = there.1 in
    let read : ReadsMetres there.0 (to_z w64 (of_z w64 z)) = subst (λ (v : ℤ). ReadsMetres there.0 v) (sym (word_is z within)) (reads there.0 has) in
    subst (λ (o : Option (List ℕ)). MatchOption o (IsMeasuredFrom begin row (to_z w64 (of_z w64 z))) (λ text. ReadsMetres text (to_z w64 (of_z w64 z))))
    (sym has) read

fits_between : (a b : ℤ) → IsOfSize (10 ^ 15) a → IsOfSize (10 ^ 15) b → FitsSigned w64 (a +ℤ b)
fits_between a b h k = let h0 = h.0 in let h1 = h.1 in let k0 = k.0 in let k1 = k.1 in omega (arith, ints)

fits_three : (a b c : ℤ) → IsOfSize (10 ^ 15) a → IsOfSize (10 ^ 15) b → IsOfSize (10 ^ 15) c → FitsSigned w64 ((a +ℤ b) -ℤ c)
fits_three a b c h k m = let h0 = h.0 in let h1 = h.1 in let k0 = k.0 in let k1 = k.1 in let m0 = m.0 in let m1 = m.1 in omega (arith, ints)

sum_is : (a b c : ℤ) → IsOfSize (10 ^ 15) a → IsOfSize (10 ^ 15) b → IsOfSize (10 ^ 15) c →
    to_z w64 (of_z w64 (to_z w64 (of_z w64 (to_z w64 (of_z w64 a) +ℤ to_z w64 (of_z w64 b))) -ℤ to_z w64 (of_z w64 c))) ≡ (a +ℤ b) -ℤ c
sum_is a b c h k m =
    let W : ℤ → ℤ = λ z. to_z w64 (of_z w64 z) in
    let inner : W (W a +ℤ W b) ≡ a +ℤ b = ap (λ z. W (z +ℤ W b)) (word_is a h) ∙ (ap (λ z. W (a +ℤ z)) (word_is b k)
    ∙ to_z-of_z w64 (a +ℤ b) (fits_between a b h k)) in
    ap (λ z. W (z -ℤ W c)) inner ∙ (ap (λ z. W ((a +ℤ b) -ℤ z)) (word_is c m) ∙ to_z-of_z w64 ((a +ℤ b) -ℤ c) (fits_three a b c h k m))

pub measured_mileage : (begin row : Elem) (a b c : ℤ) → IsStart begin → is_some row.attrs.abs_pos ≡ false →
    ((t : List ℕ) → begin.attrs.abs_pos ≡ Some t → ReadsMetres t a) → HasPosition row b → HasPosition begin c → IsOfSize (10 ^ 15) a → IsOfSize (10 ^ 15) b →
    IsOfSize (10 ^ 15) c
    → HasMileage begin row (to_z w64 (of_z w64 (to_z w64 (of_z w64 (to_z w64 (of_z w64 a) +ℤ to_z w64 (of_z w64 b))) -ℤ to_z w64 (of_z w64 c))))
measured_mileage begin row a b c start none reads row_at begin_at h k m =
    let z : ℤ = to_z w64 (of_z w64 (to_z w64 (of_z w64 (to_z w64 (of_z w64 a) +ℤ to_z w64 (of_z w64 b))) -ℤ to_z w64 (of_z w64 c))) in
    let s = start.starts.1 in
    let measured : IsMeasuredFrom begin row z = record {
      start = a;
      starts = record { text = s.text; has = s.has; reads = reads s.text s.has };
      from = c;
      begin_at = begin_at;
      to = b;
      row_at = row_at;
      sum = sum_is a b c h k m;
    } in
    subst (λ (o : Option (List ℕ)). MatchOption o (IsMeasuredFrom begin row z) (λ text. ReadsMetres text z)) (sym (no_text row.attrs.abs_pos none)) measured

-- ---- what rows of a kind have

numbers_of_row : (rows : List Elem) → AreSoundRows rows → (k : ℕ) (row : Elem) → slice_get rows k ≡ Some row → bears_position row.kind ≡ true → HasNumbers row
numbers_of_row rows s k row is bears = record { position = s.positions k row is bears; mileage = (λ text has. s.mileages k row text is bears has) }

position_by_kind : (rows : List Elem) (kind : ElemKind) (k : ℕ) (row : Elem) → bears_position kind ≡ true → is_of_kind rows kind k ≡ true →
    slice_get rows k ≡ Some row → bears_position row.kind ≡ true
position_by_kind rows kind k row b t is =
    let (r, at, e) = of_kind rows kind k t in
    subst (λ (v : ElemKind). bears_position v ≡ true) (sym (ap (λ (v : Elem). v.kind) (sym (one_row rows k r row at is)) ∙ e)) b

pub either_numbers : (rows : List Elem) → AreSoundRows rows → (k : ℕ) (row : Elem) → IsEither rows k → slice_get rows k ≡ Some row → HasNumbers row
either_numbers rows s k row (inl t) is = numbers_of_row rows s k row is (position_by_kind rows Begin k row refl t is)
either_numbers rows s k row (inr t) is = numbers_of_row rows s k row is (position_by_kind rows End k row refl t is)

pub either_id : (rows : List Elem) → AreSoundRows rows → (k : ℕ) (row : Elem) → IsEither rows k → slice_get rows k ≡ Some row →
    (t : List ℕ) × (row.attrs.id ≡ Some t)
either_id rows s k row (inl t) is = id_there rows s k row is (bears_by_kind rows Begin k row refl t is)
either_id rows s k row (inr t) is = id_there rows s k row is (bears_by_kind rows End k row refl t is)

position_id : (k : ElemKind) → bears_position k ≡ true → bears_id k ≡ true
position_id Begin h = refl
position_id End h = refl
position_id Switch h = refl
position_id Crossing h = refl
position_id k h = absurd cc

inner_bears : (rows : List Elem) (k : ℕ) (row : Elem) → is_inner rows k ≡ true → slice_get rows k ≡ Some row → bears_position row.kind ≡ true
inner_bears rows k row t is =
    let (r, at, bears) = inner_kind rows k t in
    subst (λ (v : Elem). bears_position v.kind ≡ true) (one_row rows k r row at is) bears

pub inner_numbers : (rows : List Elem) → AreSoundRows rows → (k : ℕ) (row : Elem) → is_inner rows k ≡ true → slice_get rows k ≡ Some row → HasNumbers row
inner_numbers rows s k row t is = numbers_of_row rows s k row is (inner_bears rows k row t is)

pub inner_id : (rows : List Elem) → AreSoundRows rows → (k : ℕ) (row : Elem) → is_inner rows k ≡ true → slice_get rows k ≡ Some row →
    (t : List ℕ) × (row.attrs.id ≡ Some t)
inner_id rows s k row t is = id_there rows s k row is (position_id row.kind (inner_bears rows k row t is))

-- ---- switches and crossings

child_kind : (rows : List Elem) (i k : ℕ) (kind : ElemKind) → IsChild rows i kind k → is_of_kind rows kind k ≡ true
child_kind rows i k kind c = subst (λ (v : ElemKind). is_of_kind rows v k ≡ true) c.kind_is (is_of_its_kind rows k c.row c.is)

pub branch_kind : (rows : List Elem) (switch k : ℕ) → IsBranchOf rows switch k → is_of_kind rows Connection k ≡ true
branch_kind rows switch k b = child_kind rows switch k Connection (only_child rows switch Connection k b.only)

pub way_kind : (rows : List Elem) (crossing k : ℕ) (outgoing : Bool) → IsWayOf rows crossing outgoing k → is_of_kind rows Connection k ≡ true
way_kind rows crossing k outgoing w = child_kind rows crossing k Connection (way_child rows crossing k outgoing w)

-- a child that is read is a connection of its parent
connection_read : (rows : List Elem) (i k : ℕ) (row parent : Elem) (kind : ElemKind) → slice_get rows k ≡ Some row → slice_get rows i ≡ Some parent →
    parent.kind ≡ kind → IsChild rows i Connection k → IsConnectionOf rows row kind parent
connection_read rows i k row parent kind is at e c = subst (λ (v : Elem). IsConnectionOf rows v kind parent) (one_row rows k c.row row c.is is)
    (connection_of_row rows i k parent kind at e c)

switch_kind : (rows : List Elem) (n : ℕ) (kind : ElemKind) (row : Elem) → is_of_kind rows kind n ≡ true → slice_get rows n ≡ Some row → row.kind ≡ kind
switch_kind rows n kind row t is = let (r, at, e) = of_kind rows kind n t in ap (λ (v : Elem). v.kind) (sym (one_row rows n r row at is)) ∙ e

pub switch_course : (rows : List Elem) → AreSoundRows rows → (n k : ℕ) (switch row : Elem) → slice_get rows n ≡ Some switch → IsBranchOf rows n k →
    slice_get rows k ≡ Some row → (hand : Hand) × (diverges : Bool) × IsCourseOf switch row hand diverges
switch_course rows s n k switch row at b is =
    s.courses k row switch is (connection_read rows n k row switch Switch is at (switch_kind rows n Switch switch b.a_switch at)
    (only_child rows n Connection k b.only))

word_tells : (outgoing : Bool) → is_word (codes "outgoing") (Some (way_word outgoing)) ≡ outgoing
word_tells true = refl
word_tells false = refl

switch_way : (rows : List Elem) → AreSoundRows rows → (n k : ℕ) (switch row : Elem) → slice_get rows n ≡ Some switch → IsBranchOf rows n k →
    slice_get rows k ≡ Some row → HasWay rows k (is_word (codes "outgoing") row.attrs.orientation)
switch_way rows s n k switch row at b is =
    let (outgoing, way) = s.ways k row switch is (inl (connection_read rows n k row switch Switch is at (switch_kind rows n Switch switch b.a_switch at)
    (only_child rows n Connection k b.only))) in
    let tells : is_word (codes "outgoing") row.attrs.orientation ≡ outgoing = ap (is_word (codes "outgoing")) way ∙ word_tells outgoing in
    subst (HasWay rows k) (sym tells) (record { row = row; is = is; way = way })

pub switch_made : (rows : List Elem) (layouts : List Layout) → AreSoundRows rows →
    (n k : ℕ) (switch row : Elem) (outgoing : Bool) (hand : Hand) (diverges : Bool) (c : Conn) → slice_get rows n ≡ Some switch → IsBranchOf rows n k →
    slice_get rows k ≡ Some row
    → outgoing ≡ is_word (codes "outgoing") row.attrs.orientation → IsCourseOf switch row hand diverges → IsConnOf rows layouts k c →
    IsSwitchOf rows layouts n switch outgoing hand diverges c
switch_made rows layouts s n k switch row outgoing hand diverges c at b is word course conn = record {
  number = k;
  is_branch = b;
  conn = conn;
  way = subst (HasWay rows k) (sym word) (switch_way rows s n k switch row at b is);
  course = subst (λ (v : Elem). IsCourseOf switch v hand diverges) (one_row rows k row conn.row is conn.is) course;
}

pub crossing_hand : (rows : List Elem) → AreSoundRows rows → (n k : ℕ) (row : Elem) → IsWayOf rows n true k → slice_get rows k ≡ Some row →
    (hand : Hand) × (row.attrs.course ≡ Some (hand_word hand))
crossing_hand rows s n k row w is =
    let (crossing, at, e) = of_kind rows Crossing n w.a_crossing in
    s.hands k row crossing is (connection_read rows n k row crossing Crossing is at e (way_child rows n k true w))
    (ap (λ (v : Elem). v.attrs.orientation) (one_row rows k row w.way.row is w.way.is) ∙ w.way.way)

pub crossing_made : (rows : List Elem) (layouts : List Layout) (n coming leaving : ℕ) (row : Elem) (hand : Hand) (c d : Conn) → IsWayOf rows n false coming →
    IsWayOf rows n true leaving → slice_get rows leaving ≡ Some row → row.attrs.course ≡ Some (hand_word hand)
    → IsConnOf rows layouts coming c → IsConnOf rows layouts leaving d → IsCrossingOf rows layouts n hand c d
crossing_made rows layouts n coming leaving row hand c d v w is course cc' dd = record {
  coming = coming;
  is_coming = v;
  coming_conn = cc';
  leaving = leaving;
  is_leaving = w;
  leaving_conn = dd;
  course = ap (λ (x : Elem). x.attrs.course) (one_row rows leaving dd.row row dd.is is) ∙ course;
}

-- ---- lists

pub zip_taken : {A B : Type 0} (R : A → B → Type 0) (xs : List A) (ys : List B) (i : ℕ) (x : A) (y : B) → i < length xs → x ≡ get_or xs i x →
    AllZip R (take i xs) ys → R x y → AllZip R (take (i + 1) xs) (ys ++ y ∷ [])
zip_taken R xs ys i x y within is h r =
    subst (λ v. AllZip R v (ys ++ y ∷ [])) (sym (take_more xs i x within ∙ ap (λ v. take i xs ++ v ∷ []) (sym is))) (zip_pushed R (take i xs) ys x y h r)

pub begin_kind : (rows : List Elem) (l : Layout) → IsLayout rows l → is_of_kind rows Begin l.begin ≡ true
begin_kind rows l h = child_kind rows l.topology l.begin Begin (only_child rows l.topology Begin l.begin h.one_begin)

pub end_kind : (rows : List Elem) (l : Layout) → IsLayout rows l → is_of_kind rows End l.end ≡ true
end_kind rows l h = child_kind rows l.topology l.end End (only_child rows l.topology End l.end h.one_end)

pub begin_start : (rows : List Elem) → AreSoundRows rows → (k : ℕ) (row : Elem) → is_of_kind rows Begin k ≡ true → slice_get rows k ≡ Some row → IsStart row
begin_start rows s k row t is = record {
  numbers = either_numbers rows s k row (inl t) is;
  starts = s.begins k row is (switch_kind rows k Begin row t is);
}

pub track_id : (rows : List Elem) → AreSoundRows rows → (k : ℕ) (row : Elem) → is_of_kind rows Track k ≡ true → slice_get rows k ≡ Some row →
    (t : List ℕ) × (row.attrs.id ≡ Some t)
track_id rows s k row t is = id_there rows s k row is (bears_by_kind rows Track k row refl t is)

pub layout_track : (rows : List Elem) (layouts : List Layout) → AreLayouts rows layouts → (k : ℕ) (l : Layout) → slice_get layouts k ≡ Some l →
    is_of_kind rows Track l.track ≡ true
layout_track rows layouts h k l at =
    let set : IsSet rows l = all_at (IsSet rows) layouts k l (all_laid rows layouts h) at in
    subst (λ (v : ElemKind). is_of_kind rows v l.track ≡ true) set.laid_down.track_kind (is_of_its_kind rows l.track set.laid_down.track set.laid_down.is_track)
