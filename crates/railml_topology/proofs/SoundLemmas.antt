-- What holds of each row where nothing is wrong with the rows.
use Rattle.std.proofs.Common.{◌≡◌, ◌⊎◌, ℕ, suc, zero, ◌<◌, ◌≤◌, Bool, true, false, cond, Option, Some, None, List, [], ◌∷◌, length, get_or, slice_get, refl}
use Rattle.std.proofs.Common.{sym, ap, ◌∙◌, subst, inl, inr, arith}
use Rattle.std.specs.Prelude.{codes, bytes_eq, chars, ℤ}
use Rattle.std.specs.List.{All, AllByRecursion, filter}
use Rattle.std.specs.Option.{option_map, is_none}
use Rattle.std.proofs.lemmas.Bool.Decides.{leb_tells}
use Rattle.std.proofs.lemmas.List.Elements.{All-from_recursion, recursion_from_All, Contains-get_or}
use Rattle.std.proofs.lemmas.Option.{same_Some, slice_get-get_or}
use Rattle.std.proofs.lemmas.Slice.Eq.{bytes_eq-Decides}
use Rattle.plan_core.proofs.ListFacts.{same_heads}
use Rattle.plan_core.specs.declared.sides.Hand.{Hand}
use Rattle.plan_core.specs.declared.sides.Hand.TheVariants.{Left, Right}
use Rattle.plan_core.specs.Topology.{IsId, IsIdCharacter}
use Rattle.rail_mileage.specs.Metres.{MetresParts, IsMetres, mileage_told}
use Rattle.rail_mileage.specs.Reading.{parts_of, are_metres}
use Rattle.rail_mileage.proofs.PartsLemmas.{parts_again, accepted, are_parts}
use Rattle.plan_core.specs.declared.limits.TheConstants.{MAX_TRACKS}
use Rattle.railml_read.specs.declared.rows.Elem.{Elem}
use Rattle.railml_read.specs.declared.rows.ElemKind.{ElemKind}
use Rattle.railml_read.specs.declared.rows.ElemKind.TheVariants as kinds
use Rattle.railml_read.specs.Formed.{AreFormed}
use Rattle.railml_faults.specs.declared.attributes.Attribute.{Attribute}
use Rattle.railml_faults.specs.declared.attributes.Attribute.TheVariants as attributes
use Rattle.railml_faults.specs.declared.fault.TopologyWhat.TheVariants.{TooMany, Missing, Id, RepeatedId, Number, UnknownRef, NotMutual, SelfRef, EndKind}
use Rattle.railml_faults.specs.declared.fault.TopologyWhat.TheVariants.{Course, Orientation}
use Rattle.railml_faults.specs.Rows.{same_kind, track_rows, all_children, children, parent_of, bears_id, bears_position, id_of, BearsId, IsConnectionNamed}
use Rattle.railml_faults.specs.Rows.{attribute_text, attribute_name, is_word, required_of, required, lacking, ReadsMetres, HasPosition}
use Rattle.railml_faults.specs.Faults.{IsNoNumber, HasNoNumber, RefersTo, IsWholeTrack, AreOrientedAlike, HasTwoWays, HasItsParts, IsHand, IsStraight}
use Rattle.railml_faults.specs.Faults.{IsCourseAt, IsConnectionOf, IsWay, HasNoFault}
use Rattle.railml_faults.proofs.Family.{among_from_contains, same_kind_is, same_kind_self}
use Rattle.railml_topology.specs.Resolved.{way_word, hand_word, HasAbsPos, IsCourseOf}
use Rattle.railml_topology.specs.Sound.{HasGoodId, IsMutual, IsConnectionOfInner, AreSoundRows}
use Rattle.railml_topology.proofs.ElementLemmas.{track_rows_kind}

-- a statement that holds where its denial doesn't
abbrev Stable : Type 0 → Type 0
Stable P = ((P → ⊥) → ⊥) → P

-- a statement that holds or doesn't
abbrev Known : Type 0 → Type 0
Known P = P ⊎ (P → ⊥)

stable : (P : Type 0) → Known P → Stable P
stable P (inl p) h = p
stable P (inr n) h = absurd (h n)

known_both : (P Q : Type 0) → Known P → Known Q → Known (P × Q)
known_both P Q (inl p) (inl q) = inl (p, q)
known_both P Q (inl p) (inr n) = inr (λ both. n both.1)
known_both P Q (inr n) k = inr (λ both. n both.0)

known_either : (P Q : Type 0) → Known P → Known Q → Known (P ⊎ Q)
known_either P Q (inl p) k = inl (inl p)
known_either P Q (inr n) (inl q) = inl (inr q)
known_either P Q (inr n) (inr m) = inr (λ e. elim e [ inl p ↦ n p | inr q ↦ m q ])

known_le : (a b : ℕ) → Known (a ≤ b)
known_le a b = elim (leb_tells a b) [ inl le ↦ inl le.1 | inr lt ↦ inr (λ (h : a ≤ b). (let k : b < a = lt.1 in omega arith)) ]

known_lt : (a b : ℕ) → Known (a < b)
known_lt a b = known_le (suc a) b

known_text : (a b : List ℕ) → Known (a ≡ b)
known_text a b = choose (bytes_eq a b) refl
  where
    choose : (v : Bool) → bytes_eq a b ≡ v → Known (a ≡ b)
    choose true e = inl ((bytes_eq-Decides a b).0 e)
    choose false e = inr (λ same. (let t = (bytes_eq-Decides a b).1 same in cc))

known_some : (o : Option (List ℕ)) (b : List ℕ) → Known (o ≡ Some b)
known_some None b = inr (λ e. cc)
known_some (Some a) b = elim (known_text a b) [ inl e ↦ inl (ap (λ (v : List ℕ). Some v) e) | inr n ↦ inr (λ e. n (same_Some a b e)) ]

known_all : (P : ℕ → Type 0) → ((x : ℕ) → Known (P x)) → (xs : List ℕ) → Known (AllByRecursion P xs)
known_all P each [] = inl tt
known_all P each (x ∷ xs) = known_both (P x) (AllByRecursion P xs) (each x) (known_all P each xs)

-- ---- ids

known_character : (c : ℕ) → Known (IsIdCharacter c)
known_character c = known_both (32 < c) ((c < 127) ⊎ (160 < c)) (known_lt 32 c) (known_either (c < 127) (160 < c) (known_lt c 127) (known_lt 160 c))

known_characters : (id : List ℕ) → Known (All IsIdCharacter (chars id))
known_characters id = elim (known_all IsIdCharacter known_character (chars id)) [
  | inl h ↦ inl (All-from_recursion IsIdCharacter (chars id) h)
  | inr n ↦ inr (λ h. n (recursion_from_All IsIdCharacter (chars id) h))
]

known_id : (id : List ℕ) → Known (IsId id)
known_id id = elim (known_le 1 (length id)) [
  | inr n ↦ inr (λ h. n h.some)
  | inl some ↦ elim (known_le (length id) 64) [
    | inr n ↦ inr (λ h. n h.short)
    | inl short ↦ elim (known_characters id) [
      | inr n ↦ inr (λ h. n h.characters)
      | inl characters ↦ inl (record { some = some; short = short; characters = characters })
    ]
  ]
]

-- ---- numbers

-- a text is a number of metres or none
metres_known : (text : List ℕ) → ((parts : MetresParts) × IsMetres text parts) ⊎ ((parts : MetresParts) → IsMetres text parts → ⊥)
metres_known text = choose (are_metres (parts_of text)) refl
  where
    choose : (v : Bool) → are_metres (parts_of text) ≡ v → ((parts : MetresParts) × IsMetres text parts) ⊎ ((parts : MetresParts) → IsMetres text parts → ⊥)
    choose true e = inl (parts_of text, are_parts text e)
    choose false e = inr (λ parts m. (let t = accepted text parts m in let same = ap are_metres (parts_again text parts m) in cc))

reads_unless : (text : List ℕ) → (((parts : MetresParts) → IsMetres text parts → ⊥) → ⊥) → (z : ℤ) × ReadsMetres text z
reads_unless text h = elim (metres_known text) [
  | inl m ↦ ((mileage_told m.0).0, record { parts = m.0; metres = m.1; is = refl })
  | inr none ↦ absurd (h none)
]

-- ---- required attributes

abbrev pub In : List Attribute → Attribute → Type 0
In [] a = ⊥
In (b ∷ bs) a = (a ≡ b) ⊎ In bs a

none_filtered : (p : Attribute → Bool) (xs : List Attribute) (a : Attribute) → filter p xs ≡ [] → In xs a → p a ≡ false
none_filtered p [] a e h = absurd h
none_filtered p (x ∷ xs) a e h = choose (p x) refl e h (none_filtered p xs a)
  where
    choose : (v : Bool) → p x ≡ v → cond v (x ∷ filter p xs) (filter p xs) ≡ [] → In (x ∷ xs) a → (filter p xs ≡ [] → In xs a → p a ≡ false) → p a ≡ false
    choose true t e h ih = absurd cc
    choose false t e (inl same) ih = ap p same ∙ t
    choose false t e (inr rest) ih = ih e rest

nothing_at : (xs : List Attribute) → ((a : Attribute) → slice_get xs 0 ≡ Some a → ⊥) → xs ≡ []
nothing_at [] h = refl
nothing_at (x ∷ xs) h = absurd (h x refl)

some_text : (o : Option (List ℕ)) → is_none o ≡ false → (text : List ℕ) × (o ≡ Some text)
some_text None e = absurd cc
some_text (Some text) e = (text, refl)

-- a required attribute is there
there_is : (rows : List Elem) → HasNoFault rows → (i : ℕ) (row : Elem) → slice_get rows i ≡ Some row → (a : Attribute) → In (required rows row) a →
    (text : List ℕ) × (attribute_text a row.attrs ≡ Some text)
there_is rows h i row is a required_a =
    let nothing : lacking rows row ≡ [] = nothing_at (lacking rows row) (λ b lacks. h Missing row.at (attribute_name b) [] (record {
      number = i;
      row = row;
      is = is;
      place = refl;
      fault = (b, lacks, refl, refl);
    })) in
    some_text (attribute_text a row.attrs) (none_filtered (λ (b : Attribute). is_none (attribute_text b row.attrs)) (required rows row) a nothing required_a)

id_required : (k : ElemKind) (parent : Option ElemKind) (o : Option (List ℕ)) → bears_id k ≡ true → In (required_of k parent o) attributes.Id
id_required kinds.Track parent o h = inl refl
id_required kinds.Begin parent o h = inl refl
id_required kinds.End parent o h = inl refl
id_required kinds.Switch parent o h = inl refl
id_required kinds.Crossing parent o h = inl refl
id_required kinds.Connection (Some kinds.Crossing) o h = choose (is_word (codes "outgoing") o)
  where
    choose : (v : Bool) → In (cond v (attributes.Id ∷ attributes.Ref ∷ attributes.Orientation ∷ attributes.Course ∷ [])
        (attributes.Id ∷ attributes.Ref ∷ attributes.Orientation ∷ [])) attributes.Id
    choose true = inl refl
    choose false = inl refl
id_required kinds.Connection parent o h = inl refl
id_required k parent o h = absurd cc

pos_required : (k : ElemKind) (parent : Option ElemKind) (o : Option (List ℕ)) → bears_position k ≡ true → In (required_of k parent o) attributes.Pos
pos_required kinds.Begin parent o h = inr (inl refl)
pos_required kinds.End parent o h = inr (inl refl)
pos_required kinds.Switch parent o h = inr (inl refl)
pos_required kinds.Crossing parent o h = inr (inl refl)
pos_required k parent o h = absurd cc

ref_required : (parent : Option ElemKind) (o : Option (List ℕ)) → In (required_of kinds.Connection parent o) attributes.Ref
ref_required (Some kinds.Crossing) o = choose (is_word (codes "outgoing") o)
  where
    choose : (v : Bool) → In (cond v (attributes.Id ∷ attributes.Ref ∷ attributes.Orientation ∷ attributes.Course ∷ [])
        (attributes.Id ∷ attributes.Ref ∷ attributes.Orientation ∷ [])) attributes.Ref
    choose true = inr (inl refl)
    choose false = inr (inl refl)
ref_required parent o = inr (inl refl)

way_required : (k : ElemKind) (o : Option (List ℕ)) → (k ≡ kinds.Switch) ⊎ (k ≡ kinds.Crossing) →
    In (required_of kinds.Connection (Some k) o) attributes.Orientation
way_required k o (inl e) = rw e (inr (inr (inl refl)))
way_required k o (inr e) = rw e (choose (is_word (codes "outgoing") o))
  where
    choose : (v : Bool) → In (cond v (attributes.Id ∷ attributes.Ref ∷ attributes.Orientation ∷ attributes.Course ∷ [])
        (attributes.Id ∷ attributes.Ref ∷ attributes.Orientation ∷ [])) attributes.Orientation
    choose true = inr (inr (inl refl))
    choose false = inr (inr (inl refl))

course_required : (o : Option (List ℕ)) → In (required_of kinds.Connection (Some kinds.Switch) o) attributes.Course
course_required o = inr (inr (inr (inl refl)))

hand_required : In (required_of kinds.Connection (Some kinds.Crossing) (Some (codes "outgoing"))) attributes.Course
hand_required = inr (inr (inr (inl refl)))

-- what is required of a row of this kind
require : (rows : List Elem) → HasNoFault rows → (i : ℕ) (row : Elem) → slice_get rows i ≡ Some row → (k : ElemKind) → row.kind ≡ k → (a : Attribute) →
    In (required_of k (option_map (λ (p : Elem). p.kind) (parent_of rows row)) row.attrs.orientation) a →
    (text : List ℕ) × (attribute_text a row.attrs ≡ Some text)
require rows h i row is k e a required_a = there_is rows h i row is a (rw e required_a)

-- what is required of a connection below a row of this kind
require_below : (rows : List Elem) → HasNoFault rows → (i : ℕ) (row parent : Elem) (k : ElemKind) → slice_get rows i ≡ Some row →
    IsConnectionOf rows row k parent → (a : Attribute) → In (required_of kinds.Connection (Some k) row.attrs.orientation) a →
    (text : List ℕ) × (attribute_text a row.attrs ≡ Some text)
require_below rows h i row parent k is of a required_a =
    let kind : option_map (λ (p : Elem). p.kind) (parent_of rows row) ≡ Some k = ap (λ (v : Option Elem). option_map (λ (p : Elem). p.kind) v) of.holds
    ∙ ap (λ (v : ElemKind). Some v) of.of_kind in
    require rows h i row is kinds.Connection of.connection a (subst (λ (v : Option ElemKind). In (required_of kinds.Connection v row.attrs.orientation) a)
    (sym kind) required_a)

-- ---- what holds of each row

few_tracks : (rows : List Elem) → HasNoFault rows → length (track_rows rows) ≤ MAX_TRACKS
few_tracks rows h = elim (leb_tells (length (track_rows rows)) MAX_TRACKS) [
  | inl le ↦ le.1
  | inr lt ↦
      let within : MAX_TRACKS < length (track_rows rows) = lt.1 in
      let k = get_or (track_rows rows) MAX_TRACKS 0 in
      let there = track_rows_kind rows k (among_from_contains (track_rows rows) k (Contains-get_or (track_rows rows) MAX_TRACKS 0 within)) in
      absurd (h TooMany there.0.at [] [] (record {
        number = k;
        row = there.0;
        is = there.1;
        place = refl;
        fault = (slice_get-get_or (track_rows rows) MAX_TRACKS 0 within, refl, refl);
      }))
]

good_id : (rows : List Elem) → HasNoFault rows → (i : ℕ) (row : Elem) → slice_get rows i ≡ Some row → bears_id row.kind ≡ true → HasGoodId row
good_id rows h i row is bears =
    let there = require rows h i row is row.kind refl attributes.Id (id_required row.kind (option_map (λ (p : Elem). p.kind) (parent_of rows row))
    row.attrs.orientation bears) in
    record {
      id = there.0;
      has = there.1;
      good = stable (IsId there.0) (known_id there.0) (λ bad. h Id row.at [] [] (record {
        number = i;
        row = row;
        is = is;
        place = refl;
        fault = (record { bears = bears; id = there.0; has = there.1; bad = bad }, refl, refl);
      }));
    }

ids_apart : (rows : List Elem) → HasNoFault rows → (i j : ℕ) (id : List ℕ) → BearsId rows i id → BearsId rows j id → i ≡ j
ids_apart rows h i j id a b =
    let repeated = λ (m n : ℕ) (x : BearsId rows m id) (y : BearsId rows n id) (below : n < m).
    h RepeatedId x.row.at id [] (record {
      number = m;
      row = x.row;
      is = x.is;
      place = refl;
      fault = (record { here = x; earlier = n; before = below; there = y }, refl);
    }) in
    elim (leb_tells i j) [
      | inl le ↦ elim (leb_tells j i) [
        | inl ge ↦ (let a1 : i ≤ j = le.1 in let a2 : j ≤ i = ge.1 in omega arith)
        | inr lt ↦ absurd (repeated j i b a lt.1)
      ]
      | inr lt ↦ absurd (repeated i j a b lt.1)
    ]

no_bad_number : (rows : List Elem) → HasNoFault rows → (i : ℕ) (row : Elem) → slice_get rows i ≡ Some row → (a : Attribute) → HasNoNumber row a → ⊥
no_bad_number rows h i row is a bad = h Number row.at (id_of row) (attribute_name a) (record {
  number = i;
  row = row;
  is = is;
  place = refl;
  fault = (a, bad, refl, refl);
})

position_of_row : (rows : List Elem) → HasNoFault rows → (i : ℕ) (row : Elem) → slice_get rows i ≡ Some row → bears_position row.kind ≡ true →
    (z : ℤ) × HasPosition row z
position_of_row rows h i row is bears =
    let there = require rows h i row is row.kind refl attributes.Pos (pos_required row.kind (option_map (λ (p : Elem). p.kind) (parent_of rows row))
    row.attrs.orientation bears) in
    let (z, reads) = reads_unless there.0 (λ none. no_bad_number rows h i row is attributes.Pos (bears, subst IsNoNumber (sym there.1) none)) in
    (z, record { text = there.0; has = there.1; reads = reads })

mileage_of_row : (rows : List Elem) → HasNoFault rows → (i : ℕ) (row : Elem) (text : List ℕ) → slice_get rows i ≡ Some row → bears_position row.kind ≡ true →
    row.attrs.abs_pos ≡ Some text → (z : ℤ) × ReadsMetres text z
mileage_of_row rows h i row text is bears has =
    reads_unless text (λ none. no_bad_number rows h i row is attributes.AbsPos
    (bears, (λ bad. no_bad_number rows h i row is attributes.Pos (bears, bad)), subst IsNoNumber (sym has) none))

begin_of_row : (rows : List Elem) → HasNoFault rows → (i : ℕ) (row : Elem) → slice_get rows i ≡ Some row → row.kind ≡ kinds.Begin → (z : ℤ) × HasAbsPos row z
begin_of_row rows h i row is kind =
    let there = require rows h i row is kinds.Begin kind attributes.AbsPos (inr (inr (inl refl))) in
    let (z, reads) = mileage_of_row rows h i row there.0 is (rw kind refl) there.1 in
    (z, record { text = there.0; has = there.1; reads = reads })

-- ---- references

-- a connection of this name
abbrev NamedIn : List Elem → List ℕ → Type 0
NamedIn rows name = (j : ℕ) × (other : Elem) × IsConnectionNamed rows j name other

abbrev NoneNamed : List Elem → List ℕ → Type 0
NoneNamed rows name = (j : ℕ) (other : Elem) → IsConnectionNamed rows j name other → ⊥

known_kind : (a b : ElemKind) → Known (a ≡ b)
known_kind a b = choose (same_kind a b) refl
  where
    choose : (v : Bool) → same_kind a b ≡ v → Known (a ≡ b)
    choose true e = inl (same_kind_is a b e)
    choose false e = inr (λ same. (let t : same_kind a b ≡ true = subst (λ (v : ElemKind). same_kind a v ≡ true) same (same_kind_self a) in cc))

named_first : (row : Elem) (rows : List Elem) (name : List ℕ) → Known ((row.kind ≡ kinds.Connection) × (row.attrs.id ≡ Some name)) →
    (NamedIn rows name ⊎ NoneNamed rows name) → NamedIn (row ∷ rows) name ⊎ NoneNamed (row ∷ rows) name
named_first row rows name (inl here) rest = inl (0, row, record { is = refl; connection = here.0; has = here.1 })
named_first row rows name (inr not_here) (inl (j, other, n)) = inl (suc j, other, record { is = n.is; connection = n.connection; has = n.has })
named_first row rows name (inr not_here) (inr none) = inr by
  where
    by : (j : ℕ) (other : Elem) → IsConnectionNamed (row ∷ rows) j name other → ⊥
    by zero other n = let same : row ≡ other = same_Some row other n.is in not_here
        (subst (λ (v : Elem). (v.kind ≡ kinds.Connection) × (v.attrs.id ≡ Some name)) (sym same) (n.connection, n.has))
    by (suc j) other n = none j other (record { is = n.is; connection = n.connection; has = n.has })

named_or_none : (rows : List Elem) (name : List ℕ) → NamedIn rows name ⊎ NoneNamed rows name
named_or_none [] name = inr (λ j other n. (let e = n.is in cc))
named_or_none (row ∷ rows) name =
    named_first row rows name (known_both (row.kind ≡ kinds.Connection) (row.attrs.id ≡ Some name) (known_kind row.kind kinds.Connection)
    (known_some row.attrs.id name)) (named_or_none rows name)

mutual_row : (rows : List Elem) → HasNoFault rows → (i : ℕ) (row : Elem) → slice_get rows i ≡ Some row → row.kind ≡ kinds.Connection → IsMutual rows row
mutual_row rows h i row is kind =
    let there = require rows h i row is kinds.Connection kind attributes.Ref (ref_required (option_map (λ (p : Elem). p.kind) (parent_of rows row))
    row.attrs.orientation) in
    let name = there.0 in
    let refers : RefersTo row name = record { connection = kind; refers = there.1 } in
    elim (named_or_none rows name) [
      | inr none ↦ absurd (h UnknownRef row.at (id_of row) [] (record {
        number = i;
        row = row;
        is = is;
        place = refl;
        fault = (record { name = name; refers = refers; none = none }, refl, refl);
      }))
      | inl (number, other, named) ↦ record {
        name = name;
        refers = refers;
        number = number;
        other = other;
        named = named;
        back = record {
          connection = named.connection;
          refers = stable (other.attrs.reference ≡ Some (id_of row)) (known_some other.attrs.reference (id_of row))
              (λ elsewhere. h NotMutual row.at (id_of row) name (record {
                number = i;
                row = row;
                is = is;
                place = refl;
                fault = (
                  record {
                    refers = refers;
                    number = number;
                    other = other;
                    named = named;
                    elsewhere = elsewhere;
                  },
                  refl,
                );
              }));
        };
        elsewhere = (λ same. h SelfRef row.at (id_of row) [] (record {
          number = i;
          row = row;
          is = is;
          place = refl;
          fault = (subst (RefersTo row) same refers, refl, refl);
        }));
      }
    ]

-- ---- parts

-- a list is one item, or none
single : (xs : List ℕ) → ((c : ℕ) × (xs ≡ c ∷ [])) ⊎ ((c : ℕ) → xs ≡ c ∷ [] → ⊥)
single [] = inr (λ c e. cc)
single (c ∷ []) = inl (c, refl)
single (c ∷ d ∷ xs) = inr (λ b e. cc)

pair : (xs : List ℕ) → ((c : ℕ) × (d : ℕ) × (xs ≡ c ∷ d ∷ [])) ⊎ ((c d : ℕ) → xs ≡ c ∷ d ∷ [] → ⊥)
pair [] = inr (λ c d e. cc)
pair (c ∷ []) = inr (λ a b e. cc)
pair (c ∷ d ∷ []) = inl (c, d, refl)
pair (c ∷ d ∷ b ∷ xs) = inr (λ a g e. cc)

single_stable : (xs : List ℕ) → Stable ((c : ℕ) × (xs ≡ c ∷ []))
single_stable xs h = elim (single xs) [ inl one ↦ one | inr none ↦ absurd (h (λ one. none one.0 one.1)) ]

whole_stable : (rows : List Elem) (i : ℕ) → Stable (IsWholeTrack rows i)
whole_stable rows i h =
    let topology = single_stable (children rows i kinds.Topology) (λ none. h (λ w. none (w.topology, w.one_topology))) in
    let same : (w : IsWholeTrack rows i) → w.topology ≡ topology.0 = (λ w. same_heads w.topology topology.0 [] [] (sym w.one_topology ∙ topology.1)) in
    let begin = single_stable (children rows topology.0 kinds.Begin) (λ none. h (λ w. none
    (w.begin, ap (λ k. children rows k kinds.Begin) (sym (same w)) ∙ w.one_begin))) in
    let end = single_stable (children rows topology.0 kinds.End) (λ none. h (λ w. none
    (w.end, ap (λ k. children rows k kinds.End) (sym (same w)) ∙ w.one_end))) in
    record { topology = topology.0; begin = begin.0; end = end.0; one_topology = topology.1; one_begin = begin.1; one_end = end.1 }

ways_stable : (rows : List Elem) (i : ℕ) → Stable (HasTwoWays rows i)
ways_stable rows i h = elim (pair (children rows i kinds.Connection)) [
  | inr none ↦ absurd (h (λ w. none w.one w.other w.two))
  | inl (c, d, e) ↦ record {
    one = c;
    other = d;
    two = e;
    differ = (λ alike. h (λ w. (let two : c ∷ d ∷ [] ≡ w.one ∷ w.other ∷ [] = sym e ∙ w.two in
        let one : c ≡ w.one = same_heads c w.one (d ∷ []) (w.other ∷ []) two in
        let other : d ≡ w.other = cc in
        w.differ (subst (λ n. AreOrientedAlike rows w.one n) other (subst (λ n. AreOrientedAlike rows n d) one alike)))));
  }
]

parts_stable : (rows : List Elem) (i : ℕ) (k : ElemKind) → Stable (HasItsParts rows i k)
parts_stable rows i kinds.Track = whole_stable rows i
parts_stable rows i kinds.Begin = single_stable (all_children rows i)
parts_stable rows i kinds.End = single_stable (all_children rows i)
parts_stable rows i kinds.Switch = single_stable (children rows i kinds.Connection)
parts_stable rows i kinds.Crossing = ways_stable rows i
parts_stable rows i k = λ h. tt

parts_of_row : (rows : List Elem) → HasNoFault rows → (i : ℕ) (row : Elem) → slice_get rows i ≡ Some row → HasItsParts rows i row.kind
parts_of_row rows h i row is =
    parts_stable rows i row.kind (λ lacks. h EndKind row.at (id_of row) [] (record {
      number = i;
      row = row;
      is = is;
      place = refl;
      fault = (lacks, refl, refl);
    }))

-- ---- words

known_hand : (word : List ℕ) → Known (IsHand word)
known_hand word = known_either (word ≡ codes "left") (word ≡ codes "right") (known_text word (codes "left")) (known_text word (codes "right"))

known_way : (word : List ℕ) → Known (IsWay word)
known_way word = known_either (word ≡ codes "incoming") (word ≡ codes "outgoing") (known_text word (codes "incoming")) (known_text word (codes "outgoing"))

known_straight : (switch : Elem) (word : List ℕ) → Known (IsStraight switch word)
known_straight switch word = elim (known_text word (codes "straight")) [
  | inr n ↦ inr (λ s. n s.straight)
  | inl straight ↦ choose straight switch.attrs.continue_course refl
]
  where
    one : (a b : List ℕ) → switch.attrs.continue_course ≡ Some a → switch.attrs.continue_course ≡ Some b → a ≡ b
    one a b e f = same_Some a b (sym e ∙ f)

    choose : word ≡ codes "straight" → (o : Option (List ℕ)) → switch.attrs.continue_course ≡ o → Known (IsStraight switch word)
    choose straight None e = inr (λ s. (let f = s.continues in cc))
    choose straight (Some track) e = elim (known_hand track) [
      | inl hand ↦ inl (record { straight = straight; track = track; continues = e; hand = hand })
      | inr n ↦ inr (λ s. n (subst IsHand (one s.track track s.continues e) s.hand))
    ]

known_course : (switch : Elem) (word : List ℕ) → Known (IsCourseAt switch word)
known_course switch word = known_either (IsHand word) (IsStraight switch word) (known_hand word) (known_straight switch word)

hand_of : (word : List ℕ) → IsHand word → (hand : Hand) × (word ≡ hand_word hand)
hand_of word (inl e) = (Left, e)
hand_of word (inr e) = (Right, e)

way_of : (word : List ℕ) → IsWay word → (outgoing : Bool) × (word ≡ way_word outgoing)
way_of word (inl e) = (false, e)
way_of word (inr e) = (true, e)

way_of_row : (rows : List Elem) → HasNoFault rows → (i : ℕ) (row parent : Elem) → slice_get rows i ≡ Some row → IsConnectionOfInner rows row parent →
    (outgoing : Bool) × (row.attrs.orientation ≡ Some (way_word outgoing))
way_of_row rows h i row parent is of =
    let there : (text : List ℕ) × (row.attrs.orientation ≡ Some text) = elim of [
      | inl s ↦ require_below rows h i row parent kinds.Switch is s attributes.Orientation (way_required kinds.Switch row.attrs.orientation (inl refl))
      | inr s ↦ require_below rows h i row parent kinds.Crossing is s attributes.Orientation (way_required kinds.Crossing row.attrs.orientation (inr refl))
    ] in
    let way = stable (IsWay there.0) (known_way there.0) (λ bad. h Orientation row.at (id_of row) [] (record {
      number = i;
      row = row;
      is = is;
      place = refl;
      fault = (record { parent = parent; of_inner = of; word = there.0; has = there.1; bad = bad }, refl, refl);
    })) in
    let (outgoing, e) = way_of there.0 way in
    (outgoing, there.1 ∙ ap (λ (v : List ℕ). Some v) e)

course_from : (switch row : Elem) (word : List ℕ) → row.attrs.course ≡ Some word → IsCourseAt switch word →
    (hand : Hand) × (diverges : Bool) × IsCourseOf switch row hand diverges
course_from switch row word has (inl is_hand) = let (hand, e) = hand_of word is_hand in (hand, false, has ∙ ap (λ (v : List ℕ). Some v) e)
course_from switch row word has (inr s) =
    let (hand, e) = hand_of s.track s.hand in
    (hand, true, (has ∙ ap (λ (v : List ℕ). Some v) s.straight, s.continues ∙ ap (λ (v : List ℕ). Some v) e))

course_of_row : (rows : List Elem) → HasNoFault rows → (i : ℕ) (row switch : Elem) → slice_get rows i ≡ Some row → IsConnectionOf rows row kinds.Switch switch →
    (hand : Hand) × (diverges : Bool) × IsCourseOf switch row hand diverges
course_of_row rows h i row switch is of =
    let there = require_below rows h i row switch kinds.Switch is of attributes.Course (course_required row.attrs.orientation) in
    course_from switch row there.0 there.1 (stable (IsCourseAt switch there.0) (known_course switch there.0)
    (λ bad. h Course row.at (id_of row) [] (record {
      number = i;
      row = row;
      is = is;
      place = refl;
      fault = (
        inl (record {
          switch = switch;
          of_switch = of;
          word = there.0;
          has = there.1;
          bad = bad;
        }),
        refl,
        refl,
      );
    })))

hand_of_row : (rows : List Elem) → HasNoFault rows → (i : ℕ) (row crossing : Elem) → slice_get rows i ≡ Some row →
    IsConnectionOf rows row kinds.Crossing crossing → row.attrs.orientation ≡ Some (codes "outgoing") →
    (hand : Hand) × (row.attrs.course ≡ Some (hand_word hand))
hand_of_row rows h i row crossing is of leaving =
    let there = require_below rows h i row crossing kinds.Crossing is of attributes.Course
    (subst (λ (o : Option (List ℕ)). In (required_of kinds.Connection (Some kinds.Crossing) o) attributes.Course) (sym leaving) hand_required) in
    let hand = stable (IsHand there.0) (known_hand there.0)
    (λ bad. h Course row.at (id_of row) [] (record {
      number = i;
      row = row;
      is = is;
      place = refl;
      fault = (
        inr (record {
          crossing = crossing;
          of_crossing = of;
          outgoing = leaving;
          word = there.0;
          has = there.1;
          bad = bad;
        }),
        refl,
        refl,
      );
    })) in
    let (to, e) = hand_of there.0 hand in
    (to, there.1 ∙ ap (λ (v : List ℕ). Some v) e)

-- ---- all of it

pub sound : (rows : List Elem) → AreFormed rows → HasNoFault rows → AreSoundRows rows
sound rows f h = record {
  formed = f;
  few = few_tracks rows h;
  ids = good_id rows h;
  ids_differ = ids_apart rows h;
  positions = position_of_row rows h;
  mileages = mileage_of_row rows h;
  begins = begin_of_row rows h;
  mutual_refs = mutual_row rows h;
  parts = parts_of_row rows h;
  ways = way_of_row rows h;
  courses = course_of_row rows h;
  hands = hand_of_row rows h;
}
