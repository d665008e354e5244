-- Rows that get place: a full row goes behind all others, and further literals have rows.
use Rattle.std.proofs.Common.{◌≡◌, ◌≢◌, ℕ, zero, suc, ◌+◌, ◌*◌, ◌<◌, ◌≤◌, ◌⊎◌, List, [], ◌∷◌, ◌++◌, length, take, drop, get_or, set, replicate, refl, sym, ◌∙◌}
use Rattle.std.proofs.Common.{ap}
use Rattle.std.proofs.Common.{subst, inl, inr, arith, length-set, length-append}
use Rattle.std.specs.Prelude.{◌^◌, map}
use Rattle.std.proofs.lemmas.Bool.{cases_lt, cases_eq}
use Rattle.std.proofs.lemmas.List.{ext_get_or, get_or-map, get_or-set_same, get_or-set_other, get_or_past, length-map, length-replicate, map-set}
use Rattle.std.proofs.lemmas.List.{get_or-take, get_or_append_left, get_or_default}
use Rattle.std.proofs.lemmas.List.{map-append, set-get_or}
use Rattle.watch_arena.specs.declared.rows.Entry.{Entry}
use Rattle.watch_arena.specs.declared.rows.Row.{Row}
use Rattle.watch_arena.specs.declared.rows.Space.{Space}
use Rattle.watch_arena.specs.Rows.{Rowed, no_entry, no_row, no_space, row_at, space_at, entries_of, rowed_of, IsRow, AreRows, room_of, more_rows, with_room}
use Rattle.watch_arena.proofs.RowLemmas.{part_same, rowed_same}
use Rattle.watch_arena.proofs.TrailLemmas.{get_padded}

-- the row of a word goes behind all others, with more place
pub record IsWidened (rows : List Row) (spaces : List Space) (es new : List Entry) (w size : ℕ) : Type 0 where
  pub size_is : length new ≡ length es + size
  pub limit : length es + size < 2 ^ 32
  pub more : (space_at spaces w).clauses < size
  pub front : (i : ℕ) → i < length es → get_or new i no_entry ≡ get_or es i no_entry
  pub copied : entries_of new (record (row_at rows w) { from = length es }) ≡ entries_of es (row_at rows w)

module _ (rows : List Row) (spaces : List Space) (es new : List Entry) (w size : ℕ) (h : AreRows rows spaces es) (lt : w < length rows)
    (x : IsWidened rows spaces es new w size) where
  abbrev behind : Row
  behind = record (row_at rows w) { from = length es }

  abbrev wider : Space
  wider = record (space_at spaces w) { size = size }

  short : w < length spaces
  short = let same = h.size in omega arith

  row_here : row_at (set rows w behind) w ≡ behind
  row_here = get_or-set_same rows w behind no_row lt

  row_other : (v : ℕ) → v ≢ w → row_at (set rows w behind) v ≡ row_at rows v
  row_other v ne = get_or-set_other rows w v behind no_row ne

  space_here : space_at (set spaces w wider) w ≡ wider
  space_here = get_or-set_same spaces w wider no_space short

  space_other : (v : ℕ) → v ≢ w → space_at (set spaces w wider) v ≡ space_at spaces v
  space_other v ne = get_or-set_other spaces w v wider no_space ne

  is_here : IsRow behind wider (length new)
  is_here = let y = h.row w lt in let more = x.more in let same = x.size_is in record {
    pairs = y.pairs;
    len = y.len;
    clauses = omega arith;
    within = omega arith;
  }

  is_other : (v : ℕ) → v < length rows → IsRow (row_at rows v) (space_at spaces v) (length new)
  is_other v below = let y = h.row v below in let within = y.within in let same = x.size_is in record {
    pairs = y.pairs;
    len = y.len;
    clauses = y.clauses;
    within = omega arith;
  }

  -- the other rows end where this one begins
  apart_here : (v : ℕ) → v < length rows → v ≢ w → (row_at (set rows w behind) v).from + (space_at (set spaces w wider) v).size
      ≤ (row_at (set rows w behind) w).from
  apart_here v below ne =
      let y = h.row v below in
      let within = y.within in
      subst (λ (r : Row). (row_at (set rows w behind) v).from + (space_at (set spaces w wider) v).size ≤ r.from) (sym row_here)
      (subst (λ (r : Row). r.from + (space_at (set spaces w wider) v).size ≤ length es) (sym (row_other v ne))
      (subst (λ (s : Space). (row_at rows v).from + s.size ≤ length es) (sym (space_other v ne)) (omega arith)))

  abbrev AreApart : List Row → List Space → ℕ → ℕ → Type 0
  AreApart rs ss u v = ((row_at rs u).from + (space_at ss u).size ≤ (row_at rs v).from) ⊎ ((row_at rs v).from + (space_at ss v).size ≤ (row_at rs u).from)

  apart_others : (u v : ℕ) → u < length rows → v < length rows → u ≢ v → u ≢ w → v ≢ w → AreApart (set rows w behind) (set spaces w wider) u v
  apart_others u v lu lv ne nu nv =
      subst (λ (r : Row). (r.from + (space_at (set spaces w wider) u).size ≤ (row_at (set rows w behind) v).from)
      ⊎ ((row_at (set rows w behind) v).from + (space_at (set spaces w wider) v).size ≤ r.from)) (sym (row_other u nu))
      (subst (λ (r : Row). ((row_at rows u).from + (space_at (set spaces w wider) u).size ≤ r.from)
      ⊎ (r.from + (space_at (set spaces w wider) v).size ≤ (row_at rows u).from)) (sym (row_other v nv))
      (subst (λ (s : Space). ((row_at rows u).from + s.size ≤ (row_at rows v).from)
      ⊎ ((row_at rows v).from + (space_at (set spaces w wider) v).size ≤ (row_at rows u).from)) (sym (space_other u nu))
      (subst (λ (s : Space). ((row_at rows u).from + (space_at spaces u).size ≤ (row_at rows v).from)
      ⊎ ((row_at rows v).from + s.size ≤ (row_at rows u).from)) (sym (space_other v nv)) (h.apart u v lu lv ne))))

  pub widened_rows : AreRows (set rows w behind) (set spaces w wider) new
  widened_rows = record {
    size = length-set spaces w wider ∙ h.size ∙ sym (length-set rows w behind);
    limit = let same = x.size_is in let limit = x.limit in omega arith;
    row = λ v below. elim (cases_eq v w) [
      | inl e ↦ subst (λ n. IsRow (row_at (set rows w behind) n) (space_at (set spaces w wider) n) (length new)) (sym e)
          (subst (λ (r : Row). IsRow r (space_at (set spaces w wider) w) (length new)) (sym row_here)
          (subst (λ (s : Space). IsRow behind s (length new)) (sym space_here) is_here))
      | inr ne ↦ subst (λ (r : Row). IsRow r (space_at (set spaces w wider) v) (length new)) (sym (row_other v ne))
          (subst (λ (s : Space). IsRow (row_at rows v) s (length new)) (sym (space_other v ne)) (is_other v (omega (arith, length-set rows w behind))))
    ];
    apart = λ u v lu lv ne. elim (cases_eq u w) [
      | inl e ↦ inr (subst (λ n. (row_at (set rows w behind) v).from + (space_at (set spaces w wider) v).size ≤ (row_at (set rows w behind) n).from) (sym e)
          (apart_here v (omega (arith, length-set rows w behind)) (λ same. ne (e ∙ sym same))))
      | inr nu ↦ elim (cases_eq v w) [
        | inl e ↦ inl (subst (λ n. (row_at (set rows w behind) u).from + (space_at (set spaces w wider) u).size ≤ (row_at (set rows w behind) n).from) (sym e)
            (apart_here u (omega (arith, length-set rows w behind)) nu))
        | inr nv ↦ apart_others u v (omega (arith, length-set rows w behind)) (omega (arith, length-set rows w behind)) ne nu nv
      ]
    ];
  }

  old_entries : (v : ℕ) → v < length rows → entries_of new (row_at rows v) ≡ entries_of es (row_at rows v)
  old_entries v below =
      let y = h.row v below in
      let len = y.len in
      let clauses = y.clauses in
      let within = y.within in
      let same = x.size_is in
      part_same es new (row_at rows v).from (row_at rows v).len (omega arith) (omega arith) (λ k lk. x.front ((row_at rows v).from + k) (omega arith))

  same_lists : map (entries_of new) (set rows w behind) ≡ map (entries_of es) rows
  same_lists =
      let rows_size = length-map (set rows w behind) (entries_of new) in
      let set_size = length-set rows w behind in
      let old_size = length-map rows (entries_of es) in
      ext_get_or [] (map (entries_of new) (set rows w behind)) (map (entries_of es) rows) (omega arith) (λ v below. by_row v (omega arith))
    where
      by_row : (v : ℕ) → v < length rows → get_or (map (entries_of new) (set rows w behind)) v [] ≡ get_or (map (entries_of es) rows) v []
      by_row v below =
          let set_size = length-set rows w behind in
          get_or-map (entries_of new) (set rows w behind) v no_row [] (omega arith) ∙ elim (cases_eq v w) [
            | inl e ↦ ap (λ n. entries_of new (row_at (set rows w behind) n)) e ∙ ap (entries_of new) row_here ∙ x.copied
                ∙ ap (λ n. entries_of es (row_at rows n)) (sym e)
            | inr ne ↦ ap (entries_of new) (row_other v ne) ∙ old_entries v below
          ] ∙ sym (get_or-map (entries_of es) rows v no_row [] below)

  pub widened_view : rowed_of (set rows w behind) (set spaces w wider) new ≡ rowed_of rows spaces es
  widened_view = rowed_same (set rows w behind) (set spaces w wider) new (rowed_of rows spaces es) same_lists
      (map-set (λ (r : Row). r.pairs) rows w behind ∙ ap (set (map (λ (r : Row). r.pairs) rows) w) (sym (get_or-map (λ (r : Row). r.pairs) rows w no_row 0 lt))
      ∙ set-get_or (map (λ (r : Row). r.pairs) rows) w 0)
      (map-set (λ (s : Space). s.clauses) spaces w wider
      ∙ ap (set (map (λ (s : Space). s.clauses) spaces) w) (sym (get_or-map (λ (s : Space). s.clauses) spaces w no_space 0 short))
      ∙ set-get_or (map (λ (s : Space). s.clauses) spaces) w 0)

  pub widened_place : (space_at (set spaces w wider) w).clauses < (space_at (set spaces w wider) w).size
  widened_place = subst (λ (s : Space). s.clauses < s.size) (sym space_here) (let more = x.more in omega arith)

-- the same by what its steps leave: the entries get further ones, which become copies of the row's
pub widened_by : (rows : List Row) (spaces : List Space) (es mid new : List Entry) (w size from : ℕ) (filler : Entry) → AreRows rows spaces es →
    w < length rows →
    from ≡ length es → mid ≡ es ++ replicate size filler → length new ≡ length mid → take from new ≡ take from mid →
    entries_of new (record (row_at rows w) { from = from }) ≡ entries_of mid (row_at rows w) → (space_at spaces w).clauses < size → from + size < 2 ^ 32 →
    IsWidened rows spaces es new w size
widened_by rows spaces es mid new w size from filler h lt at_end more same front copied place small =
    let longer = length-append es (replicate size filler) in
    let count = length-replicate size filler in
    let mid_size = ap length more in
    let y = h.row w lt in
    let len = y.len in
    let clauses = y.clauses in
    let within = y.within in
    record {
      size_is = omega arith;
      limit = omega arith;
      more = place;
      front = λ i below. sym (get_or-take from new i no_entry (omega arith)) ∙ ap (λ (es2 : List Entry). get_or es2 i no_entry) front
          ∙ get_or-take from mid i no_entry (omega arith) ∙ ap (λ (es2 : List Entry). get_or es2 i no_entry) more
          ∙ get_or_append_left es (replicate size filler) no_entry i below;
      copied = ap (λ n. entries_of new (record (row_at rows w) { from = n })) (sym at_end) ∙ copied
          ∙ part_same es mid (row_at rows w).from (row_at rows w).len (omega arith) (omega arith) (λ k lk.
          ap (λ (es2 : List Entry). get_or es2 ((row_at rows w).from + k) no_entry) more
          ∙ get_or_append_left es (replicate size filler) no_entry ((row_at rows w).from + k) (omega arith));
    }

pub record IsWide (rows then : List Row) (spaces next : List Space) (es got : List Entry) (w : ℕ) : Type 0 where
  pub ok : AreRows then next got
  pub same : rowed_of then next got ≡ rowed_of rows spaces es
  pub place : (space_at next w).clauses < (space_at next w).size

pub widened_all : (rows : List Row) (spaces : List Space) (es new got : List Entry) (w size from : ℕ) → AreRows rows spaces es → w < length rows →
    IsWidened rows spaces es new w size → from ≡ length es → got ≡ new →
    IsWide rows (set rows w (record (row_at rows w) { from = from })) spaces (set spaces w (record (space_at spaces w) { size = size })) es got w
widened_all rows spaces es new got w size from h lt x at_end is =
    subst (λ n. IsWide rows (set rows w (record (row_at rows w) { from = n })) spaces (set spaces w (record (space_at spaces w) { size = size })) es got w)
    (sym at_end)
    (subst (λ (g : List Entry). IsWide rows (set rows w (record (row_at rows w) { from = length es })) spaces
    (set spaces w (record (space_at spaces w) { size = size })) es g w) (sym is) (record {
      ok = widened_rows rows spaces es new w size h lt x;
      same = widened_view rows spaces es new w size h lt x;
      place = widened_place rows spaces es new w size h lt x;
    }))

-- one more clause has the literal of a word, whose row has place for it
module _ (rows : List Row) (spaces : List Space) (es : List Entry) (w : ℕ) (h : AreRows rows spaces es) (lt : w < length rows)
    (place : (space_at spaces w).clauses < (space_at spaces w).size) where
  abbrev counted : Space
  counted = record (space_at spaces w) { clauses = (space_at spaces w).clauses + 1 }

  counted_short : w < length spaces
  counted_short = let same = h.size in omega arith

  counted_is : (v : ℕ) → IsRow (row_at rows v) (space_at spaces v) (length es) → IsRow (row_at rows v) (space_at (set spaces w counted) v) (length es)
  counted_is v y = elim (cases_eq v w) [
    | inl e ↦ subst (λ (s : Space). IsRow (row_at rows v) s (length es)) (sym (ap (space_at (set spaces w counted)) e
        ∙ get_or-set_same spaces w counted no_space counted_short))
        (subst (λ n. IsRow (row_at rows n) counted (length es)) (sym e) here)
    | inr ne ↦ subst (λ (s : Space). IsRow (row_at rows v) s (length es)) (sym (get_or-set_other spaces w v counted no_space ne)) y
  ]
    where
      here : IsRow (row_at rows w) counted (length es)
      here = let z = h.row w lt in let len = z.len in record { pairs = z.pairs; len = omega arith; clauses = omega arith; within = z.within }

  counted_size : (v : ℕ) → (space_at (set spaces w counted) v).size ≡ (space_at spaces v).size
  counted_size v = elim (cases_eq v w) [
    | inl e ↦ ap (λ n. (space_at (set spaces w counted) n).size) e ∙ ap (λ (s : Space). s.size) (get_or-set_same spaces w counted no_space counted_short)
        ∙ ap (λ n. (space_at spaces n).size) (sym e)
    | inr ne ↦ ap (λ (s : Space). s.size) (get_or-set_other spaces w v counted no_space ne)
  ]

  pub counted_rows : AreRows rows (set spaces w counted) es
  counted_rows = record {
    size = length-set spaces w counted ∙ h.size;
    limit = h.limit;
    row = λ v below. counted_is v (h.row v below);
    apart = λ u v lu lv ne.
        subst (λ n. ((row_at rows u).from + n ≤ (row_at rows v).from) ⊎ ((row_at rows v).from + (space_at (set spaces w counted) v).size ≤
        (row_at rows u).from))
        (sym (counted_size u))
        (subst (λ n. ((row_at rows u).from + (space_at spaces u).size ≤ (row_at rows v).from) ⊎ ((row_at rows v).from + n ≤ (row_at rows u).from))
        (sym (counted_size v)) (h.apart u v lu lv ne));
  }

  pub counted_view : rowed_of rows (set spaces w counted) es ≡ with_room (rowed_of rows spaces es) w
  counted_view = rowed_same rows (set spaces w counted) es (with_room (rowed_of rows spaces es) w) refl refl
      (map-set (λ (s : Space). s.clauses) spaces w counted
      ∙ ap (λ n. set (map (λ (s : Space). s.clauses) spaces) w (n + 1)) (sym (get_or-map (λ (s : Space). s.clauses) spaces w no_space 0 counted_short)))

-- the same of tables that are read again
pub record IsCounted (v : Rowed) (then : List Row) (next : List Space) (es : List Entry) (k : ℕ) : Type 0 where
  pub ok : AreRows then next es
  pub view : rowed_of then next es ≡ with_room v k

pub counted_all : (rows got : List Row) (spaces then : List Space) (es : List Entry) (w k : ℕ) (v : Rowed) (x : Space) → got ≡ rows → then ≡ spaces →
    AreRows rows spaces es → rowed_of rows spaces es ≡ v → w ≡ k → k < length v.lists → (space_at spaces w).clauses < (space_at spaces w).size →
    x ≡ get_or then w x → IsCounted v got (set then w (record { clauses = x.clauses + 1; size = x.size; expected = x.expected })) es k
counted_all rows got spaces then es w k v x same_rows same_spaces h view same below place read =
    let lt : w < length rows = omega (arith, length-map rows (entries_of es), ap (λ (y : Rowed). length y.lists) view) in
    let size = h.size in
    let is : x ≡ space_at spaces w = read ∙ ap (λ (ss : List Space). get_or ss w x) same_spaces ∙ get_or_default spaces w x no_space (omega arith) in
    subst (λ (rs : List Row). IsCounted v rs (set then w (record { clauses = x.clauses + 1; size = x.size; expected = x.expected })) es k) (sym same_rows)
    (subst (λ (ss : List Space). IsCounted v rows (set ss w (record { clauses = x.clauses + 1; size = x.size; expected = x.expected })) es k) (sym same_spaces)
    (subst (λ (y : Space). IsCounted v rows (set spaces w (record { clauses = y.clauses + 1; size = y.size; expected = y.expected })) es k) (sym is) (record {
      ok = counted_rows rows spaces es w h lt place;
      view = counted_view rows spaces es w h lt place ∙ ap (λ (y : Rowed). with_room y w) view ∙ ap (with_room v) same;
    })))

-- one more clause is expected with the literal of a word
module _ (rows : List Row) (spaces : List Space) (es : List Entry) (w n : ℕ) (short : w < length spaces) where
  abbrev expecting : Space
  expecting = record (space_at spaces w) { expected = n }

  pub expected_view : rowed_of rows (set spaces w expecting) es ≡ rowed_of rows spaces es
  expected_view = rowed_same rows (set spaces w expecting) es (rowed_of rows spaces es) refl refl
      (map-set (λ (s : Space). s.clauses) spaces w expecting
      ∙ ap (set (map (λ (s : Space). s.clauses) spaces) w) (sym (get_or-map (λ (s : Space). s.clauses) spaces w no_space 0 short))
      ∙ set-get_or (map (λ (s : Space). s.clauses) spaces) w 0)

-- the same of tables that are read again
pub expected_all : (rows : List Row) (spaces : List Space) (es : List Entry) (w k n : ℕ) (v : Rowed) (x : Space) → AreRows rows spaces es →
    rowed_of rows spaces es ≡ v → w ≡ k → k < length v.lists → x ≡ get_or spaces w x →
    rowed_of rows (set spaces w (record { clauses = x.clauses; size = x.size; expected = n })) es ≡ v
expected_all rows spaces es w k n v x h view same below read =
    let size = h.size in
    let short : w < length spaces = omega (arith, length-map rows (entries_of es), ap (λ (y : Rowed). length y.lists) view) in
    let is : x ≡ space_at spaces w = read ∙ get_or_default spaces w x no_space short in
    subst (λ (y : Space). rowed_of rows (set spaces w (record { clauses = y.clauses; size = y.size; expected = n })) es ≡ v) (sym is)
    (expected_view rows spaces es w n short ∙ view)

pub rooms_size : (rows : List Row) (spaces : List Space) (es : List Entry) (v : Rowed) → AreRows rows spaces es → rowed_of rows spaces es ≡ v →
    length v.rooms ≡ length v.lists
rooms_size rows spaces es v h view =
    let size = h.size in
    omega (
      arith,
      length-map rows (entries_of es),
      length-map spaces (λ (s : Space). s.clauses),
      ap (λ (y : Rowed). length y.lists) view,
      ap (λ (y : Rowed). length y.rooms) view,
    )

-- further rows, without entries and without place
mapped_none : {X Y : Type 0} (f : X → Y) (n : ℕ) (x : X) → map f (replicate n x) ≡ replicate n (f x)
mapped_none f zero x = refl
mapped_none f (suc n) x = ap (λ ys. f x ∷ ys) (mapped_none f n x)

module _ (rows : List Row) (spaces : List Space) (es : List Entry) (n : ℕ) (h : AreRows rows spaces es) where
  abbrev rows_more : List Row
  rows_more = rows ++ replicate n no_row

  abbrev spaces_more : List Space
  spaces_more = spaces ++ replicate n no_space

  row_of_more : (v : ℕ) → row_at rows_more v ≡ row_at rows v
  row_of_more v = get_padded rows n no_row v

  space_of_more : (v : ℕ) → space_at spaces_more v ≡ space_at spaces v
  space_of_more v = get_padded spaces n no_space v

  is_row : (v : ℕ) → IsRow (row_at rows v) (space_at spaces v) (length es)
  is_row v = elim (cases_lt v (length rows)) [
    | inl below ↦ h.row v below
    | inr past ↦ subst (λ (r : Row). IsRow r (space_at spaces v) (length es)) (sym (get_or_past rows v no_row past))
        (subst (λ (s : Space). IsRow no_row s (length es)) (sym (get_or_past spaces v no_space (let same = h.size in omega arith)))
        (record { pairs = omega arith; len = omega arith; clauses = omega arith; within = omega arith }))
  ]

  -- a row that isn't there begins at 0, and has no place
  is_apart : (u v : ℕ) → u ≢ v → ((row_at rows u).from + (space_at spaces u).size ≤ (row_at rows v).from)
      ⊎ ((row_at rows v).from + (space_at spaces v).size ≤ (row_at rows u).from)
  is_apart u v ne = elim (cases_lt u (length rows)) [
    | inl lu ↦ elim (cases_lt v (length rows)) [
      | inl lv ↦ h.apart u v lu lv ne
      | inr pv ↦ inr (nothing v (row_at rows u).from pv)
    ]
    | inr pu ↦ inl (nothing u (row_at rows v).from pu)
  ]
    where
      nothing : (v m : ℕ) → length rows ≤ v → (row_at rows v).from + (space_at spaces v).size ≤ m
      nothing v m past = subst (λ (r : Row). r.from + (space_at spaces v).size ≤ m) (sym (get_or_past rows v no_row past))
          (subst (λ (s : Space). 0 + s.size ≤ m) (sym (get_or_past spaces v no_space (let same = h.size in omega arith))) (omega arith))

  pub added_rows : AreRows rows_more spaces_more es
  added_rows = record {
    size =
        let one = length-append rows (replicate n no_row) in
        let two = length-append spaces (replicate n no_space) in
        let three = length-replicate n no_row in
        let four = length-replicate n no_space in
        let same = h.size in
        omega arith;
    limit = h.limit;
    row = λ v below. subst (λ (r : Row). IsRow r (space_at spaces_more v) (length es)) (sym (row_of_more v))
        (subst (λ (s : Space). IsRow (row_at rows v) s (length es)) (sym (space_of_more v)) (is_row v));
    apart = λ u v lu lv ne.
        subst (λ (r : Row). (r.from + (space_at spaces_more u).size ≤ (row_at rows_more v).from)
        ⊎ ((row_at rows_more v).from + (space_at spaces_more v).size ≤ r.from)) (sym (row_of_more u))
        (subst (λ (r : Row). ((row_at rows u).from + (space_at spaces_more u).size ≤ r.from)
        ⊎ (r.from + (space_at spaces_more v).size ≤ (row_at rows u).from)) (sym (row_of_more v))
        (subst (λ (s : Space). ((row_at rows u).from + s.size ≤ (row_at rows v).from)
        ⊎ ((row_at rows v).from + (space_at spaces_more v).size ≤ (row_at rows u).from)) (sym (space_of_more u))
        (subst (λ (s : Space). ((row_at rows u).from + (space_at spaces u).size ≤ (row_at rows v).from)
        ⊎ ((row_at rows v).from + s.size ≤ (row_at rows u).from)) (sym (space_of_more v)) (is_apart u v ne))));
  }

  pub added_view : rowed_of rows_more spaces_more es ≡ more_rows (rowed_of rows spaces es) n
  added_view = rowed_same rows_more spaces_more es (more_rows (rowed_of rows spaces es) n)
      (map-append (entries_of es) rows (replicate n no_row) ∙ ap (λ ys. map (entries_of es) rows ++ ys) (mapped_none (entries_of es) n no_row))
      (map-append (λ (r : Row). r.pairs) rows (replicate n no_row)
      ∙ ap (λ ys. map (λ (r : Row). r.pairs) rows ++ ys) (mapped_none (λ (r : Row). r.pairs) n no_row))
      (map-append (λ (s : Space). s.clauses) spaces (replicate n no_space)
      ∙ ap (λ ys. map (λ (s : Space). s.clauses) spaces ++ ys) (mapped_none (λ (s : Space). s.clauses) n no_space))
