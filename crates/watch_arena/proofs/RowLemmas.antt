-- Rows in one vector of entries, and what writes within the place of one of them leave.
use Rattle.std.proofs.Common.{◌≡◌, ◌≢◌, ℕ, ◌+◌, ◌-◌, ◌<◌, ◌≤◌, ◌⊎◌, List, [], ◌∷◌, ◌++◌, length, take, drop, get_or, set, refl, sym, ◌∙◌, ap, subst}
use Rattle.std.proofs.Common.{inl, inr, arith, length-set, length-append, length-drop, length-take-le}
use Rattle.std.specs.Prelude.{◌^◌, map}
use Rattle.std.proofs.lemmas.Bool.{cases_lt, cases_eq}
use Rattle.std.proofs.lemmas.List.{ext_get_or, get_or-take, get_or-drop, get_or-map, get_or-set_same, get_or-set_other, get_or_append_left, get_or_push}
use Rattle.std.proofs.lemmas.List.{get_or_default, length-map, length_push, map-set, set-get_or}
use Rattle.cnf_core.specs.Lit.{Literal}
use Rattle.watch_arena.specs.declared.rows.Entry.{Entry}
use Rattle.watch_arena.specs.declared.rows.Row.{Row}
use Rattle.watch_arena.specs.declared.rows.Space.{Space}
use Rattle.watch_arena.specs.Rows.{Rowed, no_entry, no_row, no_space, row_at, space_at, entries_of, rowed_of, IsRow, AreRows, row_of, pairs_of, room_of}
use Rattle.watch_arena.specs.Rows.{with_room, with_row, pushed, fronted, paired, without, with_other}

-- a part of the entries
pub part_length : (es : List Entry) (from n : ℕ) → from + n ≤ length es → length (take n (drop from es)) ≡ n
part_length es from n le = length-take-le n (drop from es) (omega (arith, length-drop from es))

pub part_get : (es : List Entry) (from n k : ℕ) (d : Entry) → k < n → get_or (take n (drop from es)) k d ≡ get_or es (from + k) d
part_get es from n k d lt = get_or-take n (drop from es) k d lt ∙ get_or-drop from es k d

pub part_is : (es ys : List Entry) (from n : ℕ) → from + n ≤ length es → length ys ≡ n →
    ((k : ℕ) → k < n → get_or es (from + k) no_entry ≡ get_or ys k no_entry) → take n (drop from es) ≡ ys
part_is es ys from n le size same =
    let len = part_length es from n le in
    ext_get_or no_entry (take n (drop from es)) ys (len ∙ sym size) (λ k lt. part_get es from n k no_entry (omega arith) ∙ same k (omega arith))

pub part_same : (es new : List Entry) (from n : ℕ) → from + n ≤ length es → from + n ≤ length new →
    ((k : ℕ) → k < n → get_or new (from + k) no_entry ≡ get_or es (from + k) no_entry) → take n (drop from new) ≡ take n (drop from es)
part_same es new from n le le2 same =
    part_is new (take n (drop from es)) from n le2 (part_length es from n le) (λ k lt. same k lt ∙ sym (part_get es from n k no_entry lt))

-- entries from one place on were copied to another, so far
pub record IsCopied (old now : List Entry) (at_ from i : ℕ) : Type 0 where
  pub front : (j : ℕ) → j < from → get_or now j no_entry ≡ get_or old j no_entry
  pub copied : (k : ℕ) → k < i → get_or now (from + k) no_entry ≡ get_or old (at_ + k) no_entry

pub copied_more : (old now : List Entry) (at_ from i : ℕ) (x : Entry) → IsCopied old now at_ from i → at_ + i < from → from + i < length now →
    x ≡ get_or now (at_ + i) x → IsCopied old (set now (from + i) x) at_ from (i + 1)
copied_more old now at_ from i x c before within read = record {
  front = λ j lt. get_or-set_other now (from + i) j x no_entry (omega arith) ∙ c.front j lt;
  copied = λ k lt. elim (cases_eq k i) [
    | inl e ↦ ap (λ n. get_or (set now (from + i) x) (from + n) no_entry) e ∙ get_or-set_same now (from + i) x no_entry within ∙ read
        ∙ get_or_default now (at_ + i) x no_entry (omega arith) ∙ c.front (at_ + i) before ∙ ap (λ n. get_or old (at_ + n) no_entry) (sym e)
    | inr ne ↦ get_or-set_other now (from + i) (from + k) x no_entry (omega arith) ∙ c.copied k (omega arith)
  ];
}

pub copied_all : (old now : List Entry) (at_ from n : ℕ) → IsCopied old now at_ from n → at_ + n ≤ length old → from + n ≤ length now →
    take n (drop from now) ≡ take n (drop at_ old)
copied_all old now at_ from n c le within =
    part_is now (take n (drop at_ old)) from n within (part_length old at_ n le) (λ k lt. c.copied k lt ∙ sym (part_get old at_ n k no_entry lt))

pub copied_front : (old now : List Entry) (at_ from n : ℕ) → IsCopied old now at_ from n → from ≤ length old → from ≤ length now →
    take from now ≡ take from old
copied_front old now at_ from n c le within =
    let size = length-take-le from now within in
    let same = length-take-le from old le in
    ext_get_or no_entry (take from now) (take from old) (omega arith) (λ k lt.
    get_or-take from now k no_entry (omega arith) ∙ c.front k (omega arith) ∙ sym (get_or-take from old k no_entry (omega arith)))

-- rows seen as lists are the same where each part is
pub rowed_same : (then : List Row) (next : List Space) (new : List Entry) (r : Rowed) → map (entries_of new) then ≡ r.lists →
    map (λ (y : Row). y.pairs) then ≡ r.pairs → map (λ (s : Space). s.clauses) next ≡ r.rooms → rowed_of then next new ≡ r
rowed_same then next new r a b c =
    let F : List (List Entry) → List ℕ → List ℕ → Rowed = λ lists pairs rooms. record { lists = lists; pairs = pairs; rooms = rooms } in
    ap (λ x. F x (map (λ (y : Row). y.pairs) then) (map (λ (s : Space). s.clauses) next)) a
    ∙ ap (λ x. F r.lists x (map (λ (s : Space). s.clauses) next)) b ∙ ap (F r.lists r.pairs) c

-- within the place of one row entries were written, and the row has others now
pub record IsWritten (rows : List Row) (spaces : List Space) (es new : List Entry) (w : ℕ) (r : Row) : Type 0 where
  pub size : length new ≡ length es
  pub outside : (i : ℕ) → (i < (row_at rows w).from) ⊎ ((row_at rows w).from + (space_at spaces w).size ≤ i) → get_or new i no_entry
      ≡ get_or es i no_entry
  pub from : r.from ≡ (row_at rows w).from
  pub pairs : r.pairs ≤ r.len
  pub len : r.len ≤ (space_at spaces w).clauses

module _ (rows : List Row) (spaces : List Space) (es new : List Entry) (w : ℕ) (r : Row) (h : AreRows rows spaces es) (lt : w < length rows)
    (x : IsWritten rows spaces es new w r) where
  row_here : row_at (set rows w r) w ≡ r
  row_here = get_or-set_same rows w r no_row lt

  row_other : (v : ℕ) → v ≢ w → row_at (set rows w r) v ≡ row_at rows v
  row_other v ne = get_or-set_other rows w v r no_row ne

  from_same : (v : ℕ) → (row_at (set rows w r) v).from ≡ (row_at rows v).from
  from_same v = elim (cases_eq v w) [
    | inl e ↦ ap (λ n. (row_at (set rows w r) n).from) e ∙ ap (λ (y : Row). y.from) row_here ∙ x.from ∙ ap (λ n. (row_at rows n).from) (sym e)
    | inr ne ↦ ap (λ (y : Row). y.from) (row_other v ne)
  ]

  is_here : IsRow r (space_at spaces w) (length new)
  is_here = let y = h.row w lt in let within = y.within in let from = x.from in let size = x.size in record {
    pairs = x.pairs;
    len = x.len;
    clauses = y.clauses;
    within = omega arith;
  }

  is_other : (v : ℕ) → v < length rows → IsRow (row_at rows v) (space_at spaces v) (length new)
  is_other v below = let y = h.row v below in let within = y.within in let size = x.size in record {
    pairs = y.pairs;
    len = y.len;
    clauses = y.clauses;
    within = omega arith;
  }

  pub written_rows : AreRows (set rows w r) spaces new
  written_rows = record {
    size = h.size ∙ sym (length-set rows w r);
    limit = let limit = h.limit in let size = x.size in omega arith;
    row = λ v below. elim (cases_eq v w) [
      | inl e ↦ subst (λ n. IsRow (row_at (set rows w r) n) (space_at spaces n) (length new)) (sym e)
          (subst (λ (y : Row). IsRow y (space_at spaces w) (length new)) (sym row_here) is_here)
      | inr ne ↦ subst (λ (y : Row). IsRow y (space_at spaces v) (length new)) (sym (row_other v ne)) (is_other v (omega (arith, length-set rows w r)))
    ];
    apart = λ u v lu lv ne.
        subst (λ n. (n + (space_at spaces u).size ≤ (row_at (set rows w r) v).from) ⊎ ((row_at (set rows w r) v).from + (space_at spaces v).size ≤ n))
        (sym (from_same u))
        (subst (λ n. ((row_at rows u).from + (space_at spaces u).size ≤ n) ⊎ (n + (space_at spaces v).size ≤ (row_at rows u).from)) (sym (from_same v))
        (h.apart u v (omega (arith, length-set rows w r)) (omega (arith, length-set rows w r)) ne));
  }

  other_entries : (v : ℕ) → v < length rows → v ≢ w → entries_of new (row_at rows v) ≡ entries_of es (row_at rows v)
  other_entries v below ne =
      let y = h.row v below in
      let len = y.len in
      let clauses = y.clauses in
      let within = y.within in
      let size = x.size in
      part_same es new (row_at rows v).from (row_at rows v).len (omega arith) (omega arith) (λ k lk. x.outside ((row_at rows v).from + k)
      (elim (h.apart v w below lt ne) [ inl before ↦ inl (omega arith) | inr behind ↦ inr (omega arith) ]))

  pub written_lists : map (entries_of new) (set rows w r) ≡ set (map (entries_of es) rows) w (entries_of new r)
  written_lists =
      let rows_size = length-map (set rows w r) (entries_of new) in
      let set_size = length-set rows w r in
      let old_size = length-map rows (entries_of es) in
      let lists_size = length-set (map (entries_of es) rows) w (entries_of new r) in
      ext_get_or [] (map (entries_of new) (set rows w r)) (set (map (entries_of es) rows) w (entries_of new r)) (omega arith)
      (λ v below. by_row v (omega arith))
    where
      by_row : (v : ℕ) → v < length rows → get_or (map (entries_of new) (set rows w r)) v [] ≡ get_or (set (map (entries_of es) rows) w (entries_of new r)) v []
      by_row v below =
          let set_size = length-set rows w r in
          let old_size = length-map rows (entries_of es) in
          elim (cases_eq v w) [
            | inl e ↦ subst (λ n. get_or (map (entries_of new) (set rows w r)) n [] ≡ get_or (set (map (entries_of es) rows) w (entries_of new r)) n []) (sym e)
                (get_or-map (entries_of new) (set rows w r) w no_row [] (omega arith) ∙ ap (entries_of new) row_here
                ∙ sym (get_or-set_same (map (entries_of es) rows) w (entries_of new r) [] (omega arith)))
            | inr ne ↦ get_or-map (entries_of new) (set rows w r) v no_row [] (omega arith) ∙ ap (entries_of new) (row_other v ne)
                ∙ other_entries v below ne ∙ sym (get_or-map (entries_of es) rows v no_row [] below)
                ∙ sym (get_or-set_other (map (entries_of es) rows) w v (entries_of new r) [] ne)
          ]

  pairs_kept : r.pairs ≡ (row_at rows w).pairs → map (λ (y : Row). y.pairs) (set rows w r) ≡ map (λ (y : Row). y.pairs) rows
  pairs_kept e = map-set (λ (y : Row). y.pairs) rows w r
      ∙ ap (set (map (λ (y : Row). y.pairs) rows) w) (e ∙ sym (get_or-map (λ (y : Row). y.pairs) rows w no_row 0 lt))
      ∙ set-get_or (map (λ (y : Row). y.pairs) rows) w 0

  -- the row is another list, and all else is the same
  pub written_view : r.pairs ≡ (row_at rows w).pairs → (row : List Entry) → entries_of new r ≡ row →
      rowed_of (set rows w r) spaces new ≡ with_row (rowed_of rows spaces es) w row
  written_view e row is = rowed_same (set rows w r) spaces new (with_row (rowed_of rows spaces es) w row)
      (written_lists ∙ ap (set (map (entries_of es) rows) w) is) (pairs_kept e) refl

-- the row of a word
module _ (rows : List Row) (spaces : List Space) (es : List Entry) (w : ℕ) (h : AreRows rows spaces es) (lt : w < length rows) where
  abbrev from : ℕ
  from = (row_at rows w).from

  abbrev len : ℕ
  len = (row_at rows w).len

  abbrev row : List Entry
  row = entries_of es (row_at rows w)

  pub row_within : from + len ≤ length es
  row_within = let y = h.row w lt in let len = y.len in let clauses = y.clauses in let within = y.within in omega arith

  pub row_length : length row ≡ len
  row_length = part_length es from len row_within

  pub row_get : (k : ℕ) (d : Entry) → k < len → get_or row k d ≡ get_or es (from + k) d
  row_get k d below = part_get es from len k d below

  pub row_is : row_of (rowed_of rows spaces es) w ≡ row
  row_is = get_or-map (entries_of es) rows w no_row [] lt

  pub pairs_is : pairs_of (rowed_of rows spaces es) w ≡ (row_at rows w).pairs
  pairs_is = get_or-map (λ (y : Row). y.pairs) rows w no_row 0 lt

  pub room_is : room_of (rowed_of rows spaces es) w ≡ (space_at spaces w).clauses
  room_is = let size = h.size in get_or-map (λ (s : Space). s.clauses) spaces w no_space 0 (omega arith)

  -- an entry comes behind the others
  module _ (e : Entry) (place : len < (space_at spaces w).clauses) where
    abbrev longer : Row
    longer = record (row_at rows w) { len = len + 1 }

    pub push_written : IsWritten rows spaces es (set es (from + len) e) w longer
    push_written = let y = h.row w lt in let pairs = y.pairs in let clauses = y.clauses in record {
      size = length-set es (from + len) e;
      outside = λ i out. get_or-set_other es (from + len) i e no_entry (elim out [ inl before ↦ omega arith | inr behind ↦ omega arith ]);
      from = refl;
      pairs = omega arith;
      len = omega arith;
    }

    push_get : (k : ℕ) → k < len + 1 → get_or (set es (from + len) e) (from + k) no_entry ≡ get_or (row ++ e ∷ []) k no_entry
    push_get k below =
        let y = h.row w lt in
        let clauses = y.clauses in
        let within = y.within in
        let size = row_length in
        elim (cases_eq k len) [
          | inl same ↦ subst (λ n. get_or (set es (from + len) e) (from + n) no_entry ≡ get_or (row ++ e ∷ []) n no_entry) (sym same)
              (get_or-set_same es (from + len) e no_entry (omega arith) ∙ sym (get_or_push row e no_entry len size))
          | inr ne ↦ get_or-set_other es (from + len) (from + k) e no_entry (omega arith) ∙ sym (row_get k no_entry (omega arith))
              ∙ sym (get_or_append_left row (e ∷ []) no_entry k (omega arith))
        ]

    pub push_entries : entries_of (set es (from + len) e) longer ≡ row ++ e ∷ []
    push_entries =
        let y = h.row w lt in
        let clauses = y.clauses in
        let within = y.within in
        let size = row_length in
        let more = length_push row e in
        let kept = length-set es (from + len) e in
        part_is (set es (from + len) e) (row ++ e ∷ []) from (len + 1) (omega arith) (omega arith) push_get

    pub push_view : rowed_of (set rows w longer) spaces (set es (from + len) e) ≡ pushed (rowed_of rows spaces es) w e
    push_view = written_view rows spaces es (set es (from + len) e) w longer h lt push_written refl (row_of (rowed_of rows spaces es) w ++ e ∷ [])
        (push_entries ∙ ap (λ (ys : List Entry). ys ++ e ∷ []) (sym row_is))

  -- the entry of a clause of two literals comes in front of the others
  module _ (e b : Entry) (place : len < (space_at spaces w).clauses) (first : b ≡ get_or es (from + (row_at rows w).pairs) b) where
    abbrev pairs : ℕ
    pairs = (row_at rows w).pairs

    abbrev moved : List Entry
    moved = set (set es (from + len) b) (from + pairs) e

    abbrev paired_row : Row
    paired_row = record (row_at rows w) { pairs = pairs + 1; len = len + 1 }

    pub pair_written : IsWritten rows spaces es moved w paired_row
    pair_written = let y = h.row w lt in let within = y.pairs in let clauses = y.clauses in record {
      size = length-set (set es (from + len) b) (from + pairs) e ∙ length-set es (from + len) b;
      outside = λ i out.
          let not_front : i ≢ from + pairs = elim out [ inl before ↦ omega arith | inr behind ↦ omega arith ] in
          let not_end : i ≢ from + len = elim out [ inl before ↦ omega arith | inr behind ↦ omega arith ] in
          get_or-set_other (set es (from + len) b) (from + pairs) i e no_entry not_front ∙ get_or-set_other es (from + len) i b no_entry not_end;
      from = refl;
      pairs = omega arith;
      len = omega arith;
    }

    -- the entry that goes to the end
    first_is : get_or row pairs e ≡ get_or (row ++ get_or row pairs e ∷ []) len no_entry
    first_is = sym (get_or_push row (get_or row pairs e) no_entry len row_length)

    pair_get : (k : ℕ) → k < len + 1 → get_or moved (from + k) no_entry ≡ get_or (fronted row pairs e) k no_entry
    pair_get k below =
        let y = h.row w lt in
        let front = y.pairs in
        let clauses = y.clauses in
        let within = y.within in
        let size = row_length in
        let more = length_push row (get_or row pairs e) in
        let kept = length-set es (from + len) b in
        elim (cases_eq k pairs) [
          | inl same ↦ subst (λ n. get_or moved (from + n) no_entry ≡ get_or (fronted row pairs e) n no_entry) (sym same)
              (get_or-set_same (set es (from + len) b) (from + pairs) e no_entry (omega arith)
              ∙ sym (get_or-set_same (row ++ get_or row pairs e ∷ []) pairs e no_entry (omega arith)))
          | inr ne ↦ get_or-set_other (set es (from + len) b) (from + pairs) (from + k) e no_entry (omega arith) ∙ pair_rest k below ne
              ∙ sym (get_or-set_other (row ++ get_or row pairs e ∷ []) pairs k e no_entry ne)
        ]
      where
        pair_rest : (k : ℕ) → k < len + 1 → k ≢ pairs → get_or (set es (from + len) b) (from + k) no_entry ≡ get_or (row ++ get_or row pairs e ∷ []) k no_entry
        pair_rest k below ne =
            let y = h.row w lt in
            let front = y.pairs in
            let clauses = y.clauses in
            let within = y.within in
            let size = row_length in
            elim (cases_eq k len) [
              | inl same ↦ subst (λ n. get_or (set es (from + len) b) (from + n) no_entry ≡ get_or (row ++ get_or row pairs e ∷ []) n no_entry) (sym same)
                  (get_or-set_same es (from + len) b no_entry (omega arith) ∙ first ∙ get_or_default es (from + pairs) b e (omega arith)
                  ∙ sym (row_get pairs e (omega arith)) ∙ first_is)
              | inr other ↦ get_or-set_other es (from + len) (from + k) b no_entry (omega arith) ∙ sym (row_get k no_entry (omega arith))
                  ∙ sym (get_or_append_left row (get_or row pairs e ∷ []) no_entry k (omega arith))
            ]

    pub pair_entries : entries_of moved paired_row ≡ fronted row pairs e
    pair_entries =
        let y = h.row w lt in
        let clauses = y.clauses in
        let within = y.within in
        let size = row_length in
        let more = length_push row (get_or row pairs e) in
        let same = length-set (row ++ get_or row pairs e ∷ []) pairs e in
        let kept = length-set es (from + len) b in
        let kept_more = length-set (set es (from + len) b) (from + pairs) e in
        part_is moved (fronted row pairs e) from (len + 1) (omega arith) (omega arith) pair_get

    pub pair_view : rowed_of (set rows w paired_row) spaces moved ≡ paired (rowed_of rows spaces es) w e
    pair_view = rowed_same (set rows w paired_row) spaces moved (paired (rowed_of rows spaces es) w e)
        (written_lists rows spaces es moved w paired_row h lt pair_written
        ∙ ap (set (map (entries_of es) rows) w) (pair_entries ∙ ap (λ (ys : List Entry). fronted ys pairs e) (sym row_is)
        ∙ ap (λ n. fronted (row_of (rowed_of rows spaces es) w) n e) (sym pairs_is)))
        (map-set (λ (y : Row). y.pairs) rows w paired_row ∙ ap (λ n. set (map (λ (y : Row). y.pairs) rows) w (n + 1)) (sym pairs_is)) refl

  -- an entry goes, and the last one comes in its place
  module _ (i : ℕ) (b : Entry) (below : i < len) (long : (row_at rows w).pairs ≤ i) (last : b ≡ get_or es (from + len - 1) b) where
    abbrev shorter : Row
    shorter = record (row_at rows w) { len = len - 1 }

    pub out_written : IsWritten rows spaces es (set es (from + i) b) w shorter
    out_written = let y = h.row w lt in let within = y.len in let clauses = y.clauses in record {
      size = length-set es (from + i) b;
      outside = λ j out. get_or-set_other es (from + i) j b no_entry (elim out [ inl before ↦ omega arith | inr behind ↦ omega arith ]);
      from = refl;
      pairs = omega arith;
      len = omega arith;
    }

    last_is : b ≡ get_or row (length row - 1) no_entry
    last_is =
        let within = row_within in
        let size = row_length in
        let place : from + len - 1 ≡ from + (length row - 1) = omega arith in
        last ∙ get_or_default es (from + len - 1) b no_entry (omega arith) ∙ ap (λ n. get_or es n no_entry) place
        ∙ sym (row_get (length row - 1) no_entry (omega arith))

    out_get : (k : ℕ) → k < len - 1 → get_or (set es (from + i) b) (from + k) no_entry ≡ get_or (without row i) k no_entry
    out_get k small =
        let within = row_within in
        let size = row_length in
        let taken : get_or (without row i) k no_entry ≡ get_or (set row i (get_or row (length row - 1) no_entry)) k no_entry = get_or-take
        (length row - 1) (set row i (get_or row (length row - 1) no_entry)) k no_entry (omega arith) in
        elim (cases_eq k i) [
          | inl same ↦ ap (λ n. get_or (set es (from + i) b) (from + n) no_entry) same ∙ get_or-set_same es (from + i) b no_entry (omega arith) ∙ last_is
              ∙ sym (get_or-set_same row i (get_or row (length row - 1) no_entry) no_entry (omega arith))
              ∙ ap (λ n. get_or (set row i (get_or row (length row - 1) no_entry)) n no_entry) (sym same) ∙ sym taken
          | inr ne ↦ get_or-set_other es (from + i) (from + k) b no_entry (omega arith) ∙ sym (row_get k no_entry (omega arith))
              ∙ sym (get_or-set_other row i k (get_or row (length row - 1) no_entry) no_entry ne) ∙ sym taken
        ]

    pub out_entries : entries_of (set es (from + i) b) shorter ≡ without row i
    out_entries =
        let within = row_within in
        let size = row_length in
        let same = length-set row i (get_or row (length row - 1) no_entry) in
        let kept = length-set es (from + i) b in
        let short : length (without row i) ≡ len - 1 = length-take-le (length row - 1) (set row i (get_or row (length row - 1) no_entry)) (omega arith)
        ∙ ap (λ n. n - 1) size in
        part_is (set es (from + i) b) (without row i) from (len - 1) (omega arith) short out_get

    pub out_view : rowed_of (set rows w shorter) spaces (set es (from + i) b) ≡ with_row (rowed_of rows spaces es) w
        (without (row_of (rowed_of rows spaces es) w) i)
    out_view = written_view rows spaces es (set es (from + i) b) w shorter h lt out_written refl (without (row_of (rowed_of rows spaces es) w) i)
        (out_entries ∙ ap (λ (ys : List Entry). without ys i) (sym row_is))

  -- an entry has another literal of its clause
  module _ (i : ℕ) (b : Entry) (l : Literal) (below : i < len) (is : b ≡ get_or es (from + i) b) where
    abbrev other : Entry
    other = record { other = l; clause = b.clause }

    pub other_written : IsWritten rows spaces es (set es (from + i) other) w (row_at rows w)
    other_written = let y = h.row w lt in let within = y.len in let clauses = y.clauses in record {
      size = length-set es (from + i) other;
      outside = λ j out. get_or-set_other es (from + i) j other no_entry (elim out [ inl before ↦ omega arith | inr behind ↦ omega arith ]);
      from = refl;
      pairs = y.pairs;
      len = y.len;
    }

    other_is : other ≡ record { other = l; clause = (get_or row i no_entry).clause }
    other_is =
        let within = row_within in
        let F : Entry → Entry = λ x. record { other = l; clause = x.clause } in
        ap F (is ∙ get_or_default es (from + i) b no_entry (omega arith) ∙ sym (row_get i no_entry below))

    other_get : (k : ℕ) → k < len → get_or (set es (from + i) other) (from + k) no_entry ≡ get_or (with_other row i l) k no_entry
    other_get k small =
        let within = row_within in
        let size = row_length in
        elim (cases_eq k i) [
          | inl same ↦ ap (λ n. get_or (set es (from + i) other) (from + n) no_entry) same ∙ get_or-set_same es (from + i) other no_entry (omega arith)
              ∙ other_is ∙ sym (get_or-set_same row i (record { other = l; clause = (get_or row i no_entry).clause }) no_entry (omega arith))
              ∙ ap (λ n. get_or (with_other row i l) n no_entry) (sym same)
          | inr ne ↦ get_or-set_other es (from + i) (from + k) other no_entry (omega arith) ∙ sym (row_get k no_entry small)
              ∙ sym (get_or-set_other row i k (record { other = l; clause = (get_or row i no_entry).clause }) no_entry ne)
        ]

    pub other_entries_are : entries_of (set es (from + i) other) (row_at rows w) ≡ with_other row i l
    other_entries_are =
        let within = row_within in
        let size = row_length in
        let same = length-set row i (record { other = l; clause = (get_or row i no_entry).clause }) in
        let kept = length-set es (from + i) other in
        part_is (set es (from + i) other) (with_other row i l) from len (omega arith) (omega arith) other_get

    -- the table of rows isn't written
    pub other_rows : AreRows rows spaces (set es (from + i) other)
    other_rows = subst (λ (rs : List Row). AreRows rs spaces (set es (from + i) other)) (set-get_or rows w no_row)
        (written_rows rows spaces es (set es (from + i) other) w (row_at rows w) h lt other_written)

    pub other_view : rowed_of rows spaces (set es (from + i) other) ≡ with_row (rowed_of rows spaces es) w
        (with_other (row_of (rowed_of rows spaces es) w) i l)
    other_view = subst (λ (rs : List Row). rowed_of rs spaces (set es (from + i) other) ≡ with_row (rowed_of rows spaces es) w
        (with_other (row_of (rowed_of rows spaces es) w) i l)) (set-get_or rows w no_row)
        (written_view rows spaces es (set es (from + i) other) w (row_at rows w) h lt other_written refl
        (with_other (row_of (rowed_of rows spaces es) w) i l) (other_entries_are ∙ ap (λ (ys : List Entry). with_other ys i l) (sym row_is)))

-- what the calls leave of rows seen as lists
module _ (rows : List Row) (spaces : List Space) (es : List Entry) (w : ℕ) (v : Rowed) (h : AreRows rows spaces es) (view : rowed_of rows spaces es ≡ v)
    (below : w < length v.lists) where
  pub seen_below : w < length rows
  seen_below = omega (arith, length-map rows (entries_of es), ap (λ (x : Rowed). length x.lists) view)

  read_row : (r : Row) → r ≡ get_or rows w r → r ≡ row_at rows w
  read_row r is = is ∙ get_or_default rows w r no_row seen_below

  pub seen_len : length (row_of v w) ≡ (row_at rows w).len
  seen_len = ap (λ (x : Rowed). length (row_of x w)) (sym view) ∙ ap length (row_is rows spaces es w h seen_below) ∙ row_length rows spaces es w h seen_below

  pub seen_room : room_of v w ≡ (space_at spaces w).clauses
  seen_room = ap (λ (x : Rowed). room_of x w) (sym view) ∙ room_is rows spaces es w h seen_below

  pub seen_pairs : pairs_of v w ≡ (row_at rows w).pairs
  seen_pairs = ap (λ (x : Rowed). pairs_of x w) (sym view) ∙ pairs_is rows spaces es w h seen_below

  module _ (r x : Row) (read : r ≡ get_or rows w r) (again : x ≡ get_or rows w x) where
    pub push_done : (e : Entry) → length (row_of v w) < room_of v w →
        rowed_of (set rows w (record { from = x.from; pairs = x.pairs; len = r.len + 1 })) spaces (set es (r.from + r.len) e) ≡ pushed v w e
    push_done e place =
        let len = seen_len in
        let room = seen_room in
        subst (λ (y : Row). rowed_of (set rows w (record {
          from = y.from;
          pairs = y.pairs;
          len = r.len + 1;
        })) spaces (set es (r.from + r.len) e) ≡ pushed v w e)
        (sym (read_row x again))
        (subst (λ (y : Row). rowed_of (set rows w (record { from = (row_at rows w).from; pairs = (row_at rows w).pairs; len = y.len + 1 })) spaces
        (set es (y.from + y.len) e) ≡ pushed v w e) (sym (read_row r read))
        (push_view rows spaces es w h seen_below e (omega arith) ∙ ap (λ (y : Rowed). pushed y w e) view))

    module _ (e b : Entry) (place : length (row_of v w) < room_of v w) (first : b ≡ get_or es (r.from + r.pairs) b) where
      first_read : b ≡ get_or es ((row_at rows w).from + (row_at rows w).pairs) b
      first_read = first ∙ ap (λ (y : Row). get_or es (y.from + y.pairs) b) (read_row r read)

      room_left : (row_at rows w).len < (space_at spaces w).clauses
      room_left = let len = seen_len in let room = seen_room in omega arith

      pub pair_rows : AreRows (set rows w (record { from = x.from; pairs = r.pairs + 1; len = r.len + 1 })) spaces
          (set (set es (r.from + r.len) b) (r.from + r.pairs) e)
      pair_rows =
          subst (λ (y : Row). AreRows (set rows w (record { from = y.from; pairs = r.pairs + 1; len = r.len + 1 })) spaces
          (set (set es (r.from + r.len) b) (r.from + r.pairs) e)) (sym (read_row x again))
          (subst (λ (y : Row). AreRows (set rows w (record { from = (row_at rows w).from; pairs = y.pairs + 1; len = y.len + 1 })) spaces
          (set (set es (y.from + y.len) b) (y.from + y.pairs) e)) (sym (read_row r read))
          (written_rows rows spaces es (set (set es ((row_at rows w).from + (row_at rows w).len) b) ((row_at rows w).from + (row_at rows w).pairs) e) w
          (record (row_at rows w) { pairs = (row_at rows w).pairs + 1; len = (row_at rows w).len + 1 }) h seen_below
          (pair_written rows spaces es w h seen_below e b room_left first_read)))

      pub pair_done : rowed_of (set rows w (record { from = x.from; pairs = r.pairs + 1; len = r.len + 1 })) spaces
          (set (set es (r.from + r.len) b) (r.from + r.pairs) e) ≡ paired v w e
      pair_done =
          subst (λ (y : Row). rowed_of (set rows w (record { from = y.from; pairs = r.pairs + 1; len = r.len + 1 })) spaces
          (set (set es (r.from + r.len) b) (r.from + r.pairs) e) ≡ paired v w e) (sym (read_row x again))
          (subst (λ (y : Row). rowed_of (set rows w (record { from = (row_at rows w).from; pairs = y.pairs + 1; len = y.len + 1 })) spaces
          (set (set es (y.from + y.len) b) (y.from + y.pairs) e) ≡ paired v w e) (sym (read_row r read))
          (pair_view rows spaces es w h seen_below e b room_left first_read ∙ ap (λ (y : Rowed). paired y w e) view))

    module _ (i : ℕ) (b : Entry) (within : i < length (row_of v w)) (long : pairs_of v w ≤ i) (last : b ≡ get_or es (r.from + r.len - 1) b) where
      last_read : b ≡ get_or es ((row_at rows w).from + (row_at rows w).len - 1) b
      last_read = last ∙ ap (λ (y : Row). get_or es (y.from + y.len - 1) b) (read_row r read)

      low : i < (row_at rows w).len
      low = let len = seen_len in omega arith

      high : (row_at rows w).pairs ≤ i
      high = let pairs = seen_pairs in omega arith

      pub out_rows : AreRows (set rows w (record { from = x.from; pairs = x.pairs; len = r.len - 1 })) spaces (set es (r.from + i) b)
      out_rows =
          subst (λ (y : Row). AreRows (set rows w (record { from = y.from; pairs = y.pairs; len = r.len - 1 })) spaces (set es (r.from + i) b))
          (sym (read_row x again))
          (subst (λ (y : Row). AreRows (set rows w (record { from = (row_at rows w).from; pairs = (row_at rows w).pairs; len = y.len - 1 })) spaces
          (set es (y.from + i) b)) (sym (read_row r read))
          (written_rows rows spaces es (set es ((row_at rows w).from + i) b) w (record (row_at rows w) { len = (row_at rows w).len - 1 }) h seen_below
          (out_written rows spaces es w h seen_below i b low high last_read)))

      pub out_done : rowed_of (set rows w (record { from = x.from; pairs = x.pairs; len = r.len - 1 })) spaces (set es (r.from + i) b)
          ≡ with_row v w (without (row_of v w) i)
      out_done =
          subst (λ (y : Row). rowed_of (set rows w (record { from = y.from; pairs = y.pairs; len = r.len - 1 })) spaces (set es (r.from + i) b)
          ≡ with_row v w (without (row_of v w) i)) (sym (read_row x again))
          (subst (λ (y : Row). rowed_of (set rows w (record { from = (row_at rows w).from; pairs = (row_at rows w).pairs; len = y.len - 1 })) spaces
          (set es (y.from + i) b) ≡ with_row v w (without (row_of v w) i)) (sym (read_row r read))
          (out_view rows spaces es w h seen_below i b low high last_read ∙ ap (λ (y : Rowed). with_row y w (without (row_of y w) i)) view))

  module _ (r : Row) (read : r ≡ get_or rows w r) (i : ℕ) (b : Entry) (l : Literal) (within : i < length (row_of v w)) (is : b ≡ get_or es (r.from + i) b) where
    is_read : b ≡ get_or es ((row_at rows w).from + i) b
    is_read = is ∙ ap (λ (y : Row). get_or es (y.from + i) b) (read_row r read)

    inside : i < (row_at rows w).len
    inside = let len = seen_len in omega arith

    pub set_rows : AreRows rows spaces (set es (r.from + i) (record { other = l; clause = b.clause }))
    set_rows = subst (λ (y : Row). AreRows rows spaces (set es (y.from + i) (record { other = l; clause = b.clause }))) (sym (read_row r read))
        (other_rows rows spaces es w h seen_below i b l inside is_read)

    pub set_done : rowed_of rows spaces (set es (r.from + i) (record { other = l; clause = b.clause })) ≡ with_row v w (with_other (row_of v w) i l)
    set_done = subst (λ (y : Row). rowed_of rows spaces (set es (y.from + i) (record { other = l; clause = b.clause }))
        ≡ with_row v w (with_other (row_of v w) i l)) (sym (read_row r read))
        (other_view rows spaces es w h seen_below i b l inside is_read ∙ ap (λ (y : Rowed). with_row y w (with_other (row_of y w) i l)) view)
