-- Elements outside of their track, by the tables.
use Rattle.std.proofs.Common.{◌≡◌, ◌⊎◌, ℕ, ◌<◌, List, [], ◌∷◌, length, Option, Some, None, slice_get, refl, sym, ◌∙◌, ap, subst, inl, inr, arith}
use Rattle.std.specs.Prelude.{ℤ, ◌<ℤ◌}
use Rattle.std.proofs.lemmas.Option.{none-some, slice_get_within}
use Rattle.std.specs.Option.{option_and_then}
use Rattle.railml_faults.proofs.PositionLemmas.{one_position}
use Rattle.plan_core.proofs.ListFacts.{get_within}
use Rattle.plan_core.specs.declared.numbers.Micro.{Micro}
use Rattle.railml_read.specs.declared.rows.Elem.{Elem}
use Rattle.railml_read.specs.declared.rows.ElemKind.{ElemKind}
use Rattle.railml_read.specs.declared.rows.ElemKind.TheVariants.{Track, Topology, Begin, End, Switch, Crossing, Connection, OpenEnd, BufferStop, MacroNode}
use Rattle.railml_read.specs.Formed.{AreFormed}
use Rattle.railml_faults.specs.declared.tables.Tables.{Tables}
use Rattle.railml_faults.specs.Rows.{children, HasPosition, HasOnBeside}
use Rattle.railml_faults.specs.Faults.{IsBeforeBegin, IsBehindEnd, LiesOutside}
use Rattle.railml_faults.specs.Tables.{IsPositionOf, HasPositions, HasOnlyChildren, AreTablesOf, IsLess, entry_in, beside_in, IsBeforeBeginBy, IsBehindEndBy}
use Rattle.railml_faults.specs.Tables.{LiesOutsideBy}
use Rattle.railml_faults.proofs.ChildLemmas.{parent_earlier}
use Rattle.railml_faults.proofs.PartLemmas.{entry_at, child_within, only_child, only_child_entry}

-- ---- positions by the table

-- row i's own position
own_position : (rows : List Elem) (table : List (Option Micro)) (i : ℕ) (row : Elem) → HasPositions rows table → slice_get rows i ≡ Some row →
    IsPositionOf row (entry_in table i)
own_position rows table i row has at =
    let h = entry_at (λ j (p : Option Micro). (e : Elem) → slice_get rows j ≡ Some e → IsPositionOf e p) rows table i has (slice_get_within rows i row at) in
    subst (IsPositionOf row) (sym (ap (option_and_then (λ x. x)) h.1)) (h.2 row at)

-- a position that is kept is the row's
kept_is : (row : Elem) (o : Option Micro) (m : Micro) → IsPositionOf row o → o ≡ Some m → HasPosition row m.0
kept_is row o m p e = subst (IsPositionOf row) e p

-- and a row's position is kept
is_kept : (row : Elem) (o : Option Micro) (z : ℤ) → IsPositionOf row o → HasPosition row z → (m : Micro) × (o ≡ Some m) × (m.0 ≡ z)
is_kept row None z p h = absurd (p z h)
is_kept row (Some m) z p h = (m, refl, one_position row m.0 z p h)

-- the position beside a row is that of the only begin, or end, beside it
module _ (rows : List Elem) (kind : ElemKind) (only : List (Option ℕ)) (positions : List (Option Micro)) (i : ℕ) (row : Elem)
    (formed : AreFormed rows) (has_only : HasOnlyChildren rows kind only) (has : HasPositions rows positions) (at : slice_get rows i ≡ Some row) where
  topology_within : (t : ℕ) → row.parent ≡ Some t → t < length rows
  topology_within t inside = let earlier = parent_earlier rows i row t formed at inside in let within = slice_get_within rows i row at in omega arith

  beside_is : (m : Micro) → beside_in only positions row ≡ Some m → (other : Elem) × HasOnBeside rows row kind other × HasPosition other m.0
  beside_is m h = by (row.parent) refl h
    where
      last : (t c : ℕ) → row.parent ≡ Some t → children rows t kind ≡ c ∷ [] → (o : Option (Option Micro)) → slice_get positions c ≡ o →
          option_and_then (λ x. x) o ≡ Some m → (other : Elem) × HasOnBeside rows row kind other × HasPosition other m.0
      last t c inside one None e h = absurd (none-some m h)
      last t c inside one (Some p) e h =
          let other = get_within rows c (child_within rows kind t c one) in
          (other.0, record { topology = t; number = c; inside = inside; only = one; is = other.1 }, kept_is other.0 p m (has.entry c p e other.0 other.1) h)

      second : (t : ℕ) → row.parent ≡ Some t → (o : Option ℕ) → entry_in only t ≡ o → option_and_then (entry_in positions) o ≡ Some m →
          (other : Elem) × HasOnBeside rows row kind other × HasPosition other m.0
      second t inside None e h = absurd (none-some m h)
      second t inside (Some c) e h = last t c inside (only_child rows kind only t c has_only (topology_within t inside) e) (slice_get positions c) refl h

      by : (o : Option ℕ) → row.parent ≡ o → option_and_then (entry_in positions) (option_and_then (entry_in only) o) ≡ Some m →
          (other : Elem) × HasOnBeside rows row kind other × HasPosition other m.0
      by None e h = absurd (none-some m h)
      by (Some t) e h = second t e (entry_in only t) refl h

  is_beside : (other : Elem) (z : ℤ) → HasOnBeside rows row kind other → HasPosition other z → (m : Micro) × (beside_in only positions row ≡ Some m) × (m.0 ≡ z)
  is_beside other z b p =
      let kept = is_kept other (entry_in positions b.number) z (own_position rows positions b.number other has b.is) p in
      let one = only_child_entry rows kind only b.topology b.number has_only (topology_within b.topology b.inside) b.only in (
        kept.0,
        ap (λ o. option_and_then (entry_in positions) (option_and_then (entry_in only) o)) b.inside
            ∙ (ap (option_and_then (entry_in positions)) one ∙ kept.1),
        kept.2,
      )

-- ---- the two ways to lie outside

less_some : (a b : Option Micro) → IsLess a b → (x y : Micro) → a ≡ Some x → b ≡ Some y → x.0 <ℤ y.0
less_some a b h x y ax by = subst (λ (o : Option Micro). IsLess (Some x) o) by (subst (λ (o : Option Micro). IsLess o b) ax h)

less_both : (a b : Option Micro) → IsLess a b → (x : Micro) × (a ≡ Some x) × (y : Micro) × (b ≡ Some y)
less_both None b h = absurd h
less_both (Some x) None h = absurd h
less_both (Some x) (Some y) h = (x, refl, y, refl)

some_less : (a b : Option Micro) (x y : Micro) → a ≡ Some x → b ≡ Some y → x.0 <ℤ y.0 → IsLess a b
some_less a b x y ax by h = subst (λ (o : Option Micro). IsLess o b) (sym ax) (subst (λ (o : Option Micro). IsLess (Some x) o) (sym by) h)

module _ (rows : List Elem) (t : Tables) (i : ℕ) (row : Elem) (formed : AreFormed rows) (tables : AreTablesOf rows t) (at : slice_get rows i ≡ Some row) where
  own : IsPositionOf row (entry_in t.positions.items i)
  own = own_position rows t.positions.items i row tables.positions at

  before_begin : IsBeforeBeginBy t i row → IsBeforeBegin rows row
  before_begin h =
      let here = entry_in t.positions.items i in
      let beside = beside_in t.begins.items t.positions.items row in
      let both = less_both here beside h in
      let begin = beside_is rows Begin t.begins.items t.positions.items i row formed tables.begins tables.positions at both.2 both.3 in (
        begin.0,
        begin.1,
        record {
          from = both.0.0;
          to = both.2.0;
          a_at = kept_is row here both.0 own both.1;
          b_at = begin.2;
          less = less_some here beside h both.0 both.2 both.1 both.3;
        },
      )

  before_begin_by : IsBeforeBegin rows row → IsBeforeBeginBy t i row
  before_begin_by h =
      let here = entry_in t.positions.items i in
      let beside = beside_in t.begins.items t.positions.items row in
      let c = h.2 in
      let a = is_kept row here c.from own c.a_at in
      let b = is_beside rows Begin t.begins.items t.positions.items i row formed tables.begins tables.positions at h.0 c.to h.1 c.b_at in
      some_less here beside a.0 b.0 a.1 b.1 (subst (λ z. z <ℤ b.0.0) (sym a.2) (subst (λ z. c.from <ℤ z) (sym b.2) c.less))

  behind_end : IsBehindEndBy t i row → IsBehindEnd rows row
  behind_end h =
      let here = entry_in t.positions.items i in
      let beside = beside_in t.ends.items t.positions.items row in
      let both = less_both beside here h in
      let end = beside_is rows End t.ends.items t.positions.items i row formed tables.ends tables.positions at both.0 both.1 in (
        end.0,
        end.1,
        record {
          from = both.0.0;
          to = both.2.0;
          a_at = end.2;
          b_at = kept_is row here both.2 own both.3;
          less = less_some beside here h both.0 both.2 both.1 both.3;
        },
      )

  behind_end_by : IsBehindEnd rows row → IsBehindEndBy t i row
  behind_end_by h =
      let here = entry_in t.positions.items i in
      let beside = beside_in t.ends.items t.positions.items row in
      let c = h.2 in
      let a = is_beside rows End t.ends.items t.positions.items i row formed tables.ends tables.positions at h.0 c.from h.1 c.a_at in
      let b = is_kept row here c.to own c.b_at in
      some_less beside here a.0 b.0 a.1 b.1 (subst (λ z. z <ℤ b.0.0) (sym a.2) (subst (λ z. c.from <ℤ z) (sym b.2) c.less))

  either : IsBeforeBeginBy t i row ⊎ IsBehindEndBy t i row → IsBeforeBegin rows row ⊎ IsBehindEnd rows row
  either (inl h) = inl (before_begin h)
  either (inr h) = inr (behind_end h)

  either_by : IsBeforeBegin rows row ⊎ IsBehindEnd rows row → IsBeforeBeginBy t i row ⊎ IsBehindEndBy t i row
  either_by (inl h) = inl (before_begin_by h)
  either_by (inr h) = inr (behind_end_by h)

  pub outside : (kind : ElemKind) → LiesOutsideBy t i row kind → LiesOutside rows row kind
  outside Track h = absurd h
  outside Topology h = absurd h
  outside Begin h = absurd h
  outside End h = before_begin h
  outside Switch h = either h
  outside Crossing h = either h
  outside Connection h = absurd h
  outside OpenEnd h = absurd h
  outside BufferStop h = absurd h
  outside MacroNode h = absurd h

  pub outside_by : (kind : ElemKind) → LiesOutside rows row kind → LiesOutsideBy t i row kind
  outside_by Track h = absurd h
  outside_by Topology h = absurd h
  outside_by Begin h = absurd h
  outside_by End h = before_begin_by h
  outside_by Switch h = either_by h
  outside_by Crossing h = either_by h
  outside_by Connection h = absurd h
  outside_by OpenEnd h = absurd h
  outside_by BufferStop h = absurd h
  outside_by MacroNode h = absurd h
