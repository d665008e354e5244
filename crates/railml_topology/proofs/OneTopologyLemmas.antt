-- Rows resolve to one topology at most.
use Rattle.std.proofs.Common.{◌≡◌, ◌⊎◌, ℕ, ◌<◌, Bool, true, false, Option, Some, None, List, [], ◌∷◌, map, get_or, slice_get, refl, sym, ap, ◌∙◌, subst, inl}
use Rattle.std.proofs.Common.{inr, arith}
use Rattle.std.specs.Prelude.{codes, ℤ, ◌+ℤ◌, ◌-ℤ◌, ◌<ℤ◌, MatchOption}
use Rattle.std.specs.List.{AllByRecursion, AllZip}
use Rattle.std.specs.Option.{unwrap_or}
use Rattle.std.proofs.lemmas.Int.{ints}
use Rattle.std.proofs.lemmas.List.Elements.{recursion_from_All}
use Rattle.std.proofs.lemmas.Option.{same_Some}
use Rattle.railml_faults.proofs.IdLemmas.{one_row}
use Rattle.plan_core.specs.declared.numbers.Micro.{Micro}
use Rattle.plan_core.specs.declared.sides.Hand.{Hand}
use Rattle.plan_core.specs.declared.sides.Hand.TheVariants.{Left, Right}
use Rattle.plan_core.specs.declared.topology.Topology.{Topology}
use Rattle.plan_core.specs.declared.topology.Track.{Track}
use Rattle.plan_core.specs.declared.topology.End.{End}
use Rattle.plan_core.specs.declared.topology.Inner.{Inner}
use Rattle.plan_core.specs.declared.topology.InnerKind.{InnerKind}
use Rattle.plan_core.specs.declared.topology.InnerKind.TheVariants.{Switch, Crossing}
use Rattle.plan_core.specs.declared.topology.Conn.{Conn}
use Rattle.plan_core.specs.declared.topology.Place.{Place}
use Rattle.railml_read.specs.declared.rows.Elem.{Elem}
use Rattle.railml_read.specs.declared.rows.ElemKind.TheVariants as kinds
use Rattle.railml_read.specs.Formed.{AreFormed}
use Rattle.railml_faults.specs.Rows.{children, ReadsMetres, HasPosition, IsConnectionNamed}
use Rattle.railml_faults.specs.Faults.{HasNoFault}
use Rattle.railml_faults.proofs.Apart.{Stands, stands_from_pairs, Among, all_among}
use Rattle.railml_faults.proofs.Family.{among_from_contains, contains_from_among}
use Rattle.railml_faults.proofs.PositionLemmas.{one_number, one_position}
use Rattle.railml_topology.specs.declared.layout.Layout.{Layout}
use Rattle.railml_topology.specs.Resolved.{StandsBefore, AreInner, IsAtPlace, IsLayout, AreLayouts, way_word, hand_word, HasWay, IsConnOf, IsMeasuredFrom}
use Rattle.railml_topology.specs.Resolved.{HasMileage, IsJoinedAs, IsTrackEndOf, IsCourseOf, IsInnerKindOf, IsInnerOf, IsTrackOf, IsTopologyOf}
use Rattle.railml_topology.specs.Sound.{AreSoundRows}
use Rattle.railml_topology.proofs.PositionLemmas.{before_differs}
use Rattle.railml_topology.proofs.ElementLemmas.{way_words_differ}
use Rattle.railml_topology.proofs.JoinLemmas.{one_way, kinds_clash, one_place, one_named, none_only}
use Rattle.railml_topology.proofs.SoundLemmas.{sound}

-- ---- the order along a track

position_same : (rows : List Elem) (k : ℕ) (a b : Elem) (z w : ℤ) → slice_get rows k ≡ Some a → slice_get rows k ≡ Some b → HasPosition a z → HasPosition b w →
    z ≡ w
position_same rows k a b z w is_a is_b p q = one_position b z w (subst (λ (v : Elem). HasPosition v z) (one_row rows k a b is_a is_b) p) q

never_both : (a b c d : ℤ) (i j : ℕ) → a ≡ d → b ≡ c → (a <ℤ b) ⊎ ((a ≡ b) × (i < j)) → (c <ℤ d) ⊎ ((c ≡ d) × (j < i)) → ⊥
never_both a b c d i j e f (inl h) (inl k) = let l : a <ℤ c = subst (λ (v : ℤ). a <ℤ v) f h in let m : c <ℤ a = subst (λ (v : ℤ). c <ℤ v) (sym e) k in omega
    (arith, ints)
never_both a b c d i j e f (inl h) (inr k) = let l : a <ℤ c = subst (λ (v : ℤ). a <ℤ v) f h in let m : a <ℤ a = subst (λ (v : ℤ). a <ℤ v) (k.0 ∙ sym e) l in
    omega (arith, ints)
never_both a b c d i j e f (inr h) (inl k) = let m : c <ℤ a = subst (λ (v : ℤ). c <ℤ v) (sym e) k in let l : c <ℤ c = subst (λ (v : ℤ). c <ℤ v) (h.0 ∙ f) m in
    omega (arith, ints)
never_both a b c d i j e f (inr h) (inr k) = let l : i < j = h.1 in let m : j < i = k.1 in omega arith

one_direction : (rows : List Elem) (i j : ℕ) → StandsBefore rows i j → StandsBefore rows j i → ⊥
one_direction rows i j s t =
    never_both s.from s.to t.from t.to i j
    (position_same rows i s.here t.there s.from t.to s.is_here t.is_there s.here_at t.there_at)
    (position_same rows j s.there t.here s.to t.from s.is_there t.is_here s.there_at t.here_at) s.before t.before

-- lists in one order with the same numbers are the same
tail_among : (rows : List Elem) (x : ℕ) (xs ys : List ℕ) → AllByRecursion (StandsBefore rows x) xs → ((k : ℕ) → Among (x ∷ xs) k → Among (x ∷ ys) k) → (k : ℕ) →
    Among xs k → Among ys k
tail_among rows x xs ys before h k a = elim (h k (inr a)) [
  | inl same ↦ absurd (before_differs rows x k (all_among (StandsBefore rows x) xs k before a) (sym same))
  | inr rest ↦ rest
]

one_order : (rows : List Elem) (xs ys : List ℕ) → Stands (StandsBefore rows) xs → Stands (StandsBefore rows) ys → ((k : ℕ) → Among xs k → Among ys k) →
    ((k : ℕ) → Among ys k → Among xs k) → xs ≡ ys
one_order rows [] [] s t to from = refl
one_order rows [] (y ∷ ys) s t to from = absurd (from y (inl refl))
one_order rows (x ∷ xs) [] s t to from = absurd (to x (inl refl))
one_order rows (x ∷ xs) (y ∷ ys) s t to from =
    let same : x ≡ y = heads in
    let front : ((k : ℕ) → Among (x ∷ xs) k → Among (x ∷ ys) k) = subst (λ v. (k : ℕ) → Among (x ∷ xs) k → Among (v ∷ ys) k) (sym same) to in
    let back : ((k : ℕ) → Among (x ∷ ys) k → Among (x ∷ xs) k) = subst (λ v. (k : ℕ) → Among (v ∷ ys) k → Among (x ∷ xs) k) (sym same) from in
    let later : AllByRecursion (StandsBefore rows x) ys = subst (λ v. AllByRecursion (StandsBefore rows v) ys) (sym same) t.0 in
    ap (λ v. v ∷ xs) same ∙ ap (λ v. y ∷ v) (one_order rows xs ys s.1 t.1 (tail_among rows x xs ys s.0 front) (tail_among rows x ys xs later back))
  where
    heads : x ≡ y
    heads = elim (to x (inl refl)) [
      | inl same ↦ same
      | inr x_later ↦ elim (from y (inl refl)) [
        | inl same ↦ sym same
        | inr y_later ↦ absurd (one_direction rows x y (all_among (StandsBefore rows x) xs y s.0 y_later) (all_among (StandsBefore rows y) ys x t.0 x_later))
      ]
    ]

one_inner : (rows : List Elem) (topology : ℕ) (xs ys : List ℕ) → AreInner rows topology xs → AreInner rows topology ys → xs ≡ ys
one_inner rows topology xs ys a b =
    one_order rows xs ys (stands_from_pairs (StandsBefore rows) xs a.ordered) (stands_from_pairs (StandsBefore rows) ys b.ordered)
    (λ k h. among_from_contains ys k ((b.all k).1 ((a.all k).0 (contains_from_among xs k h))))
    (λ k h. among_from_contains xs k ((a.all k).1 ((b.all k).0 (contains_from_among ys k h))))

-- ---- layouts

only_same : (xs ys : List ℕ) (a b : ℕ) → xs ≡ ys → xs ≡ a ∷ [] → ys ≡ b ∷ [] → a ≡ b
only_same xs ys a b e f g = let both : a ∷ [] ≡ b ∷ [] = sym f ∙ (e ∙ g) in cc

one_layout : (rows : List Elem) (l m : Layout) → l.track ≡ m.track → IsLayout rows l → IsLayout rows m → l ≡ m
one_layout rows l m track a b =
    let F : ℕ → ℕ → ℕ → ℕ → List ℕ → Layout = λ t s u v w. record { track = t; topology = s; begin = u; end = v; inner = w } in
    let topology : l.topology ≡ m.topology = only_same (children rows l.track kinds.Topology) (children rows m.track kinds.Topology) l.topology m.topology
    (ap (λ k. children rows k kinds.Topology) track) a.one_topology b.one_topology in
    let begin : l.begin ≡ m.begin = only_same (children rows l.topology kinds.Begin) (children rows m.topology kinds.Begin) l.begin m.begin
    (ap (λ k. children rows k kinds.Begin) topology) a.one_begin b.one_begin in
    let end : l.end ≡ m.end = only_same (children rows l.topology kinds.End) (children rows m.topology kinds.End) l.end m.end
    (ap (λ k. children rows k kinds.End) topology) a.one_end b.one_end in
    let inner : l.inner ≡ m.inner = one_inner rows m.topology l.inner m.inner (subst (λ k. AreInner rows k l.inner) topology a.between) b.between in
    ap (λ t. F t l.topology l.begin l.end l.inner) track
    ∙ (ap (λ t. F m.track t l.begin l.end l.inner) topology
    ∙ (ap (λ t. F m.track m.topology t l.end l.inner) begin
    ∙ (ap (λ t. F m.track m.topology m.begin t l.inner) end
    ∙ ap (λ t. F m.track m.topology m.begin m.end t) inner)))

parts_of_list : (a b : ℕ) (xs ys : List ℕ) → a ∷ xs ≡ b ∷ ys → (a ≡ b) × (xs ≡ ys)
parts_of_list a b xs ys e = (cc, cc)

none_is : (a : ℕ) (xs : List ℕ) → [] ≡ a ∷ xs → ⊥
none_is a xs e = cc

layouts_same : (rows : List Elem) (ls ms : List Layout) → map (λ (l : Layout). l.track) ls ≡ map (λ (l : Layout). l.track) ms →
    AllByRecursion (IsLayout rows) ls → AllByRecursion (IsLayout rows) ms → ls ≡ ms
layouts_same rows [] [] e a b = refl
layouts_same rows [] (m ∷ ms) e a b = absurd (none_is m.track (map (λ (l : Layout). l.track) ms) e)
layouts_same rows (l ∷ ls) [] e a b = absurd (none_is l.track (map (λ (v : Layout). v.track) ls) (sym e))
layouts_same rows (l ∷ ls) (m ∷ ms) e a b =
    let parts = parts_of_list l.track m.track (map (λ (v : Layout). v.track) ls) (map (λ (v : Layout). v.track) ms) e in
    ap (λ (v : Layout). v ∷ ls) (one_layout rows l m parts.0 a.0 b.0) ∙ ap (λ (v : List Layout). m ∷ v) (layouts_same rows ls ms parts.1 a.1 b.1)

one_layouts : (rows : List Elem) (ls ms : List Layout) → AreLayouts rows ls → AreLayouts rows ms → ls ≡ ms
one_layouts rows ls ms a b = layouts_same rows ls ms (a.tracks ∙ sym b.tracks) (recursion_from_All (IsLayout rows) ls a.each)
    (recursion_from_All (IsLayout rows) ms b.each)

-- ---- connections

one_conn : (rows : List Elem) (layouts : List Layout) → AreSoundRows rows → AreLayouts rows layouts → (k : ℕ) (c d : Conn) → IsConnOf rows layouts k c →
    IsConnOf rows layouts k d → c ≡ d
one_conn rows layouts s h k c d a b =
    let F : List ℕ → ℕ → Place → Conn = λ id at to. record { id = id; at = at; to = to } in
    let row : a.row ≡ b.row = one_row rows k a.row b.row a.is b.is in
    let id : c.id ≡ d.id = same_Some c.id d.id (sym a.id ∙ (ap (λ (v : Elem). v.attrs.id) row ∙ b.id)) in
    let at : c.at ≡ d.at = sym a.at ∙ (ap (λ (v : Elem). v.at) row ∙ b.at) in
    let name : a.name ≡ b.name = same_Some a.name b.name (sym a.refers.refers ∙ (ap (λ (v : Elem). v.attrs.reference) row ∙ b.refers.refers)) in
    let number : a.number ≡ b.number = one_named rows s a.number b.number b.name a.other b.other
    (subst (λ (v : List ℕ). IsConnectionNamed rows a.number v a.other) name a.named) b.named in
    let to : c.to ≡ d.to = one_place rows layouts s h b.number c.to d.to (subst (λ n. IsAtPlace rows layouts n c.to) number a.leads) b.leads in
    ap (λ v. F v c.at c.to) id ∙ (ap (λ v. F d.id v c.to) at ∙ ap (λ v. F d.id d.at v) to)

one_joined : (rows : List Elem) (layouts : List Layout) → AreSoundRows rows → AreLayouts rows layouts → (k : ℕ) (o p : Option Conn) →
    IsJoinedAs rows layouts k o → IsJoinedAs rows layouts k p → o ≡ p
one_joined rows layouts s h k None None a b = refl
one_joined rows layouts s h k None (Some d) a b = absurd (none_only (children rows k kinds.Connection) b.0 a b.1)
one_joined rows layouts s h k (Some c) None a b = absurd (none_only (children rows k kinds.Connection) a.0 b a.1)
one_joined rows layouts s h k (Some c) (Some d) a b =
    let same : a.0 ≡ b.0 = only_same (children rows k kinds.Connection) (children rows k kinds.Connection) a.0 b.0 refl a.1 b.1 in
    ap (λ (v : Conn). Some v) (one_conn rows layouts s h b.0 c d (subst (λ n. IsConnOf rows layouts n c) same a.2) b.2)

-- ---- mileages

one_measure : (begin row : Elem) (z w : ℤ) → IsMeasuredFrom begin row z → IsMeasuredFrom begin row w → z ≡ w
one_measure begin row z w a b =
    let text : a.starts.text ≡ b.starts.text = same_Some a.starts.text b.starts.text (sym a.starts.has ∙ b.starts.has) in
    let start : a.start ≡ b.start = one_number b.starts.text a.start b.start (subst (λ (v : List ℕ). ReadsMetres v a.start) text a.starts.reads)
    b.starts.reads in
    let to : a.to ≡ b.to = one_position row a.to b.to a.row_at b.row_at in
    let from : a.from ≡ b.from = one_position begin a.from b.from a.begin_at b.begin_at in
    a.sum ∙ (ap (λ v. (v +ℤ a.to) -ℤ a.from) start ∙ (ap (λ v. (b.start +ℤ v) -ℤ a.from) to ∙ (ap (λ v. (b.start +ℤ b.to) -ℤ v) from ∙ sym b.sum)))

one_mileage : (begin row : Elem) (m n : Micro) → HasMileage begin row m.0 → HasMileage begin row n.0 → m ≡ n
one_mileage begin row m n a b = let F : ℤ → Micro = λ z. record { 0 = z } in ap F (choose row.attrs.abs_pos a b)
  where
    choose : (o : Option (List ℕ)) → MatchOption o (IsMeasuredFrom begin row m.0) (λ text. ReadsMetres text m.0) →
        MatchOption o (IsMeasuredFrom begin row n.0) (λ text. ReadsMetres text n.0) → m.0 ≡ n.0
    choose None a b = one_measure begin row m.0 n.0 a b
    choose (Some text) a b = one_number text m.0 n.0 a b

-- ---- elements

one_end : (rows : List Elem) (layouts : List Layout) → AreSoundRows rows → AreLayouts rows layouts → (begin : Elem) (k : ℕ) (e f : End) →
    IsTrackEndOf rows layouts begin k e → IsTrackEndOf rows layouts begin k f → e ≡ f
one_end rows layouts s h begin k e f a b =
    let F : List ℕ → ℕ → Micro → Option Conn → End = λ id at mile joined. record { id = id; at = at; mile = mile; joined = joined } in
    let row : a.row ≡ b.row = one_row rows k a.row b.row a.is b.is in
    let id : e.id ≡ f.id = same_Some e.id f.id (sym a.id ∙ (ap (λ (v : Elem). v.attrs.id) row ∙ b.id)) in
    let at : e.at ≡ f.at = sym a.at ∙ (ap (λ (v : Elem). v.at) row ∙ b.at) in
    let mile : e.mile ≡ f.mile = one_mileage begin b.row e.mile f.mile (subst (λ (v : Elem). HasMileage begin v e.mile.0) row a.mile) b.mile in
    let joined : e.joined ≡ f.joined = one_joined rows layouts s h k e.joined f.joined a.joined b.joined in
    ap (λ v. F v e.at e.mile e.joined) id ∙ (ap (λ v. F f.id v e.mile e.joined) at
    ∙ (ap (λ v. F f.id f.at v e.joined) mile ∙ ap (λ v. F f.id f.at f.mile v) joined))

one_way_word : (x y : Bool) → Some (way_word x) ≡ Some (way_word y) → x ≡ y
one_way_word true true e = refl
one_way_word false false e = refl
one_way_word false true e = absurd (way_words_differ e)
one_way_word true false e = absurd (way_words_differ (sym e))

one_hand_word : (x y : Hand) → Some (hand_word x) ≡ Some (hand_word y) → x ≡ y
one_hand_word Left Left e = refl
one_hand_word Right Right e = refl
one_hand_word Left Right e = absurd (let first : ◌≡◌ {A = ℕ} 108 114 = ap (λ (v : Option (List ℕ)). get_or (unwrap_or v []) 0 0) e in omega arith)
one_hand_word Right Left e = absurd (let first : ◌≡◌ {A = ℕ} 114 108 = ap (λ (v : Option (List ℕ)). get_or (unwrap_or v []) 0 0) e in omega arith)

no_straight_hand : (x : Hand) → Some (hand_word x) ≡ Some (codes "straight") → ⊥
no_straight_hand Left e = let first : ◌≡◌ {A = ℕ} 108 115 = ap (λ (v : Option (List ℕ)). get_or (unwrap_or v []) 0 0) e in omega arith
no_straight_hand Right e = let first : ◌≡◌ {A = ℕ} 114 115 = ap (λ (v : Option (List ℕ)). get_or (unwrap_or v []) 0 0) e in omega arith

one_course : (switch branch : Elem) (x y : Hand) (d e : Bool) → IsCourseOf switch branch x d → IsCourseOf switch branch y e → (x ≡ y) × (d ≡ e)
one_course switch branch x y false false a b = (one_hand_word x y (sym a ∙ b), refl)
one_course switch branch x y true true a b = (one_hand_word x y (sym a.1 ∙ b.1), refl)
one_course switch branch x y false true a b = absurd (no_straight_hand x (sym a ∙ b.0))
one_course switch branch x y true false a b = absurd (no_straight_hand y (sym b ∙ a.0))

way_same : (rows : List Elem) (k : ℕ) (x y : Bool) → HasWay rows k x → HasWay rows k y → x ≡ y
way_same rows k x y a b = one_way_word x y (sym a.way ∙ (ap (λ (v : Elem). v.attrs.orientation) (one_row rows k a.row b.row a.is b.is) ∙ b.way))

one_kind : (rows : List Elem) (layouts : List Layout) → AreSoundRows rows → AreLayouts rows layouts → (k : ℕ) (row : Elem) (v w : InnerKind) →
    IsInnerKindOf rows layouts k row v → IsInnerKindOf rows layouts k row w → v ≡ w
one_kind rows layouts s h k row (Switch o x d c) (Switch p y e f) a b =
    let F : Bool → Hand → Bool → Conn → InnerKind = λ t u v w. Switch t u v w in
    let number : a.number ≡ b.number = only_same (children rows k kinds.Connection) (children rows k kinds.Connection) a.number b.number refl a.is_branch.only
    b.is_branch.only in
    let way : o ≡ p = way_same rows b.number o p (subst (λ n. HasWay rows n o) number a.way) b.way in
    let branch : a.conn.row ≡ b.conn.row = one_row rows b.number a.conn.row b.conn.row (ap (slice_get rows) (sym number) ∙ a.conn.is) b.conn.is in
    let course = one_course row b.conn.row x y d e (subst (λ (v : Elem). IsCourseOf row v x d) branch a.course) b.course in
    let conn : c ≡ f = one_conn rows layouts s h b.number c f (subst (λ n. IsConnOf rows layouts n c) number a.conn) b.conn in
    ap (λ v. F v x d c) way ∙ (ap (λ v. F p v d c) course.0 ∙ (ap (λ v. F p y v c) course.1 ∙ ap (λ v. F p y e v) conn))
one_kind rows layouts s h k row (Switch o x d c) (Crossing y f g) a b = absurd (kinds_clash rows k a.is_branch.a_switch b.is_coming.a_crossing)
one_kind rows layouts s h k row (Crossing x c d) (Switch p y e f) a b = absurd (kinds_clash rows k b.is_branch.a_switch a.is_coming.a_crossing)
one_kind rows layouts s h k row (Crossing x c d) (Crossing y f g) a b =
    let F : Hand → Conn → Conn → InnerKind = λ t u v. Crossing t u v in
    let coming : a.coming ≡ b.coming = one_way rows s k false a.coming b.coming a.is_coming b.is_coming in
    let leaving : a.leaving ≡ b.leaving = one_way rows s k true a.leaving b.leaving a.is_leaving b.is_leaving in
    let row_same : a.leaving_conn.row ≡ b.leaving_conn.row = one_row rows b.leaving a.leaving_conn.row b.leaving_conn.row
    (ap (slice_get rows) (sym leaving) ∙ a.leaving_conn.is) b.leaving_conn.is in
    let hand : x ≡ y = one_hand_word x y (sym a.course ∙ (ap (λ (v : Elem). v.attrs.course) row_same ∙ b.course)) in
    let one : c ≡ f = one_conn rows layouts s h b.coming c f (subst (λ n. IsConnOf rows layouts n c) coming a.coming_conn) b.coming_conn in
    let two : d ≡ g = one_conn rows layouts s h b.leaving d g (subst (λ n. IsConnOf rows layouts n d) leaving a.leaving_conn) b.leaving_conn in
    ap (λ v. F v c d) hand ∙ (ap (λ v. F y v d) one ∙ ap (λ v. F y f v) two)

one_inner_element : (rows : List Elem) (layouts : List Layout) → AreSoundRows rows → AreLayouts rows layouts → (begin : Elem) (k : ℕ) (x y : Inner) →
    IsInnerOf rows layouts begin k x → IsInnerOf rows layouts begin k y → x ≡ y
one_inner_element rows layouts s h begin k x y a b =
    let F : List ℕ → ℕ → Micro → InnerKind → Inner = λ id at mile what. record { id = id; at = at; mile = mile; what = what } in
    let row : a.row ≡ b.row = one_row rows k a.row b.row a.is b.is in
    let id : x.id ≡ y.id = same_Some x.id y.id (sym a.id ∙ (ap (λ (v : Elem). v.attrs.id) row ∙ b.id)) in
    let at : x.at ≡ y.at = sym a.at ∙ (ap (λ (v : Elem). v.at) row ∙ b.at) in
    let mile : x.mile ≡ y.mile = one_mileage begin b.row x.mile y.mile (subst (λ (v : Elem). HasMileage begin v x.mile.0) row a.mile) b.mile in
    let what : x.what ≡ y.what = one_kind rows layouts s h k b.row x.what y.what (subst (λ (v : Elem). IsInnerKindOf rows layouts k v x.what) row a.what)
    b.what in
    ap (λ v. F v x.at x.mile x.what) id ∙ (ap (λ v. F y.id v x.mile x.what) at ∙ (ap (λ v. F y.id y.at v x.what) mile ∙ ap (λ v. F y.id y.at y.mile v) what))

-- lists whose items are those of the same numbers
zip_same : {A B : Type 0} (R : A → B → Type 0) → ((a : A) (x y : B) → R a x → R a y → x ≡ y) → (ns : List A) (xs ys : List B) → AllZip R ns xs →
    AllZip R ns ys → xs ≡ ys
zip_same R one [] [] [] a b = refl
zip_same R one [] [] (y ∷ ys) a b = absurd b
zip_same R one [] (x ∷ xs) ys a b = absurd a
zip_same R one (n ∷ ns) [] ys a b = absurd a
zip_same R one (n ∷ ns) (x ∷ xs) [] a b = absurd b
zip_same R one (n ∷ ns) (x ∷ xs) (y ∷ ys) a b = ap (λ v. v ∷ xs) (one n x y a.0 b.0) ∙ ap (λ v. y ∷ v) (zip_same R one ns xs ys a.1 b.1)

one_track : (rows : List Elem) (layouts : List Layout) → AreSoundRows rows → AreLayouts rows layouts → (l : Layout) (x y : Track) → IsTrackOf rows layouts l x →
    IsTrackOf rows layouts l y → x ≡ y
one_track rows layouts s h l x y a b =
    let F : List ℕ → ℕ → End → End → List Inner → Track = λ id at begin end inner. record { id = id; at = at; begin = begin; end = end; inner = inner } in
    let row : a.row ≡ b.row = one_row rows l.track a.row b.row a.is b.is in
    let id : x.id ≡ y.id = same_Some x.id y.id (sym a.id ∙ (ap (λ (v : Elem). v.attrs.id) row ∙ b.id)) in
    let at : x.at ≡ y.at = sym a.at ∙ (ap (λ (v : Elem). v.at) row ∙ b.at) in
    let start : a.begin_row ≡ b.begin_row = one_row rows l.begin a.begin_row b.begin_row a.begin_is b.begin_is in
    let begin : x.begin ≡ y.begin = one_end rows layouts s h b.begin_row l.begin x.begin y.begin
    (subst (λ (v : Elem). IsTrackEndOf rows layouts v l.begin x.begin) start a.begin) b.begin in
    let end : x.end ≡ y.end = one_end rows layouts s h b.begin_row l.end x.end y.end (subst (λ (v : Elem). IsTrackEndOf rows layouts v l.end x.end) start a.end)
    b.end in
    let inner : x.inner ≡ y.inner = zip_same (IsInnerOf rows layouts b.begin_row) (one_inner_element rows layouts s h b.begin_row) l.inner x.inner y.inner
    (subst (λ (v : Elem). AllZip (IsInnerOf rows layouts v) l.inner x.inner) start a.inner) b.inner in
    ap (λ v. F v x.at x.begin x.end x.inner) id ∙ (ap (λ v. F y.id v x.begin x.end x.inner) at
    ∙ (ap (λ v. F y.id y.at v x.end x.inner) begin ∙ (ap (λ v. F y.id y.at y.begin v x.inner) end ∙ ap (λ v. F y.id y.at y.begin y.end v) inner)))

pub one_topology : (rows : List Elem) (t u : Topology) → AreFormed rows → HasNoFault rows → IsTopologyOf rows t → IsTopologyOf rows u → t ≡ u
one_topology rows t u f n a b =
    let s = sound rows f n in
    let F : List Track → Topology = λ tracks. record { tracks = tracks } in
    let layouts : a.layouts ≡ b.layouts = one_layouts rows a.layouts b.layouts a.laid_out b.laid_out in
    ap F (zip_same (IsTrackOf rows b.layouts) (one_track rows b.layouts s b.laid_out) b.layouts t.tracks u.tracks
    (subst (λ (v : List Layout). AllZip (IsTrackOf rows v) v t.tracks) layouts a.tracks) b.tracks)
