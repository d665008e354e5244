-- The children of rows, a row at a time.
use Rattle.std.proofs.Common.{◌≡◌, ◌≢◌, ◌⊎◌, ℕ, suc, ◌<◌, ◌≤◌, ◌+◌, ◌==◌, Bool, true, false, true≢false, List, [], ◌∷◌, ◌++◌, length, Some, None, Option}
use Rattle.std.proofs.Common.{is_some, slice_get, take, drop, filter, get_or, refl, sym, ◌∙◌, ap, subst, inl, inr, arith, if◌then◌else◌}
use Rattle.std.proofs.lemmas.List.{take_more, take-append-drop, length-take, take_all}
use Rattle.std.proofs.lemmas.List.Elements.{filter_more}
use Rattle.std.proofs.lemmas.List.Elements.{filter-append}
use Rattle.std.proofs.lemmas.Bool.Decides.{eqb_tells}
use Rattle.std.proofs.lemmas.Option.{same_Some, none-some, slice_get_read}
use Rattle.std.proofs.Math.ListN.{set}
use Rattle.railml_faults.proofs.TableLemmas.{entry_written, slice_get-set_other}
use Rattle.std.specs.Option.{option_map_or, option_to_list}
use Rattle.std.specs.declared.vec.Vec.{Vec}
use Rattle.std.specs.declared.alloc.Global.{Global}
use Rattle.railml_read.specs.declared.rows.Elem.{Elem}
use Rattle.railml_read.specs.declared.rows.ElemKind.{ElemKind}
use Rattle.railml_read.specs.declared.rows.ElemKind.TheVariants.{Track, Topology, Begin, End, Switch, Crossing, Connection, OpenEnd, BufferStop, MacroNode}
use Rattle.railml_read.specs.Formed.{AreFormed, HasParent, IsRowPlaced}
use Rattle.railml_faults.specs.Rows.{numbers_from, is_child_of, is_of_kind, children}
use Rattle.railml_faults.specs.Tables.{only_of, AddsChild, ListsChildren}

joined : (b c : Bool) (n : ℕ) (list longer : List ℕ) (m k : ℕ) → m ≡ k → longer ≡ (if c then list ++ m ∷ [] else list)
    → (if b then n ∷ longer else longer) ≡ (if c then (if b then n ∷ list else list) ++ k ∷ [] else (if b then n ∷ list else list))
joined true true n list longer m k e h = ap (λ l. n ∷ l) (h ∙ ap (λ j. list ++ j ∷ []) e)
joined true false n list longer m k e h = ap (λ l. n ∷ l) h
joined false true n list longer m k e h = h ∙ ap (λ j. list ++ j ∷ []) e
joined false false n list longer m k e h = h

-- one more row at the end
pub numbers_more : (p : Elem → Bool) (n : ℕ) (rows : List Elem) (row : Elem) →
    numbers_from p n (rows ++ row ∷ []) ≡ (if p row then numbers_from p n rows ++ (n + length rows) ∷ [] else numbers_from p n rows)
numbers_more p n [] row = ap (λ k. if p row then k ∷ [] else []) (let e : n ≡ n + 0 = omega arith in e)
numbers_more p n (x ∷ rows) row = joined (p x) (p row) n (numbers_from p (suc n) rows) (numbers_from p (suc n) (rows ++ row ∷ [])) (suc n + length rows)
    (n + length (x ∷ rows)) (omega arith) (numbers_more p (suc n) rows row)

-- ---- the only one of a kind

pub two_found : (p : ℕ → Bool) (numbers : List ℕ) (i : ℕ) (found : Option ℕ) → i < length numbers → filter p (take i numbers) ≡ option_to_list found →
    is_some found ≡ true → p (get_or numbers i 0) ≡ true → only_of (filter p numbers) ≡ None
two_found p numbers i found within before some here = by found before some
  where
    more : filter p (take (i + 1) numbers) ≡ filter p (take i numbers) ++ get_or numbers i 0 ∷ []
    more = filter_more p numbers i 0 within ∙ ap (λ b. filter p (take i numbers) ++ (if b then get_or numbers i 0 ∷ [] else [])) here

    whole : filter p numbers ≡ (filter p (take i numbers) ++ get_or numbers i 0 ∷ []) ++ filter p (drop (i + 1) numbers)
    whole = ap (filter p) (sym (take-append-drop (i + 1) numbers)) ∙ (filter-append p (take (i + 1) numbers) (drop (i + 1) numbers)
        ∙ ap (λ l. l ++ filter p (drop (i + 1) numbers)) more)

    by : (f : Option ℕ) → filter p (take i numbers) ≡ option_to_list f → is_some f ≡ true → only_of (filter p numbers) ≡ None
    by None before some = absurd (true≢false (sym some))
    by (Some y) before some = ap only_of (whole ∙ ap (λ l. (l ++ get_or numbers i 0 ∷ []) ++ filter p (drop (i + 1) numbers)) before)

-- ---- the lists of children, while rows go by

-- each list has the children among the first n rows
pub record Listed (rows : List Elem) (n : ℕ) (table : List (Vec ℕ Global)) : Type 0 where
  pub whole : length table ≡ length rows
  pub lists : (k : ℕ) (list : Vec ℕ Global) → slice_get table k ≡ Some list → list.items ≡ numbers_from (is_child_of k) 0 (take n rows)

pub listed_start : (rows : List Elem) (table : List (Vec ℕ Global)) → length table ≡ length rows →
    ((k : ℕ) (list : Vec ℕ Global) → slice_get table k ≡ Some list → list.items ≡ []) → Listed rows 0 table
listed_start rows table whole none = record { whole = whole; lists = none }

one_more : (rows : List Elem) (n : ℕ) (row : Elem) (k : ℕ) → n < length rows → row ≡ get_or rows n row
    → numbers_from (is_child_of k) 0 (take (n + 1) rows) ≡ (if is_child_of k row then numbers_from (is_child_of k) 0 (take n rows) ++ n ∷ [] else numbers_from
    (is_child_of k) 0 (take n rows))
one_more rows n row k within is =
    let front : take (n + 1) rows ≡ take n rows ++ row ∷ [] = take_more rows n row within ∙ ap (λ e. take n rows ++ e ∷ []) (sym is) in
    let short : 0 + length (take n rows) ≡ n = omega (arith, length-take n rows) in
    ap (numbers_from (is_child_of k) 0) front ∙ (numbers_more (is_child_of k) 0 (take n rows) row
    ∙ ap (λ m. if is_child_of k row then numbers_from (is_child_of k) 0 (take n rows) ++ m ∷ [] else numbers_from (is_child_of k) 0 (take n rows)) short)

-- row n has no parent
pub listed_none : (rows : List Elem) (n : ℕ) (row : Elem) (table : List (Vec ℕ Global)) → Listed rows n table → n < length rows → row ≡ get_or rows n row →
    row.parent ≡ None → Listed rows (n + 1) table
listed_none rows n row table l within is none = record {
  whole = l.whole;
  lists = λ k list at. l.lists k list at ∙ sym (one_more rows n row k within is
      ∙ ap (λ p. if option_map_or (λ parent. parent == k) p false then numbers_from (is_child_of k) 0 (take n rows) ++ n ∷ [] else numbers_from
      (is_child_of k) 0 (take n rows)) none);
}

-- row n is a child of row p
pub listed_child : (rows : List Elem) (n : ℕ) (row : Elem) (p : ℕ) (old new : List (Vec ℕ Global)) → Listed rows n old → n < length rows →
    row ≡ get_or rows n row → row.parent ≡ Some p → AddsChild old new p n → length new ≡ length old → Listed rows (n + 1) new
listed_child rows n row p old new l within is has adds same = record { whole = same ∙ l.whole; lists = λ k list at. by k list at (eqb_tells p k) }
  where
    numbers : ℕ → List ℕ
    numbers k = numbers_from (is_child_of k) 0 (take n rows)

    step : (k : ℕ) (b : Bool) → (p == k) ≡ b → numbers_from (is_child_of k) 0 (take (n + 1) rows) ≡ (if b then numbers k ++ n ∷ [] else numbers k)
    step k b e = one_more rows n row k within is ∙ ap (λ c. if c then numbers k ++ n ∷ [] else numbers k)
        (ap (λ q. option_map_or (λ parent. parent == k) q false) has ∙ e)

    here : (k : ℕ) (list : Vec ℕ Global) → slice_get new k ≡ Some list → p ≡ k → (p == k) ≡ true →
        list.items ≡ numbers_from (is_child_of k) 0 (take (n + 1) rows)
    here k list at e t =
        let a = adds.added list (subst (λ j. slice_get new j ≡ Some list) (sym e) at) in
        let before : a.0.items ≡ numbers k = l.lists k a.0 (subst (λ j. slice_get old j ≡ Some a.0) e a.1) in
        a.2 ∙ (ap (λ m. m ++ n ∷ []) before ∙ sym (step k true t))

    by : (k : ℕ) (list : Vec ℕ Global) → slice_get new k ≡ Some list → (((p == k) ≡ true) × (p ≡ k)) ⊎ (((p == k) ≡ false) × (p ≢ k)) →
        list.items ≡ numbers_from (is_child_of k) 0 (take (n + 1) rows)
    by k list at (inl e) = here k list at e.1 e.0
    by k list at (inr e) = l.lists k list (sym (adds.others k (λ q. e.1 (sym q))) ∙ at) ∙ sym (step k false e.0)

pub listed_all : (rows : List Elem) (n : ℕ) (table : List (Vec ℕ Global)) → Listed rows n table → length rows ≤ n → ListsChildren rows table
listed_all rows n table l all = record { whole = l.whole; entry = λ k list at. l.lists k list at ∙ ap (numbers_from (is_child_of k) 0) (take_all n rows all) }

-- ---- a child is added

pub adds_child : (table : List (Vec ℕ Global)) (parent child : ℕ) (before after : Vec ℕ Global) → slice_get table parent ≡ Some before →
    after.items ≡ before.items ++ child ∷ [] → AddsChild table (set table parent after) parent child
adds_child table parent child before after at is = record {
  added = λ list here. by list (entry_written table parent after parent list here);
  others = λ i other. slice_get-set_other table parent after i other;
}
  where
    by : (list : Vec ℕ Global) → ((parent ≡ parent) × (list ≡ after)) ⊎ ((parent ≢ parent) × (slice_get table parent ≡ Some list)) →
        (b : Vec ℕ Global) × (slice_get table parent ≡ Some b) × (list.items ≡ b.items ++ child ∷ [])
    by list (inl e) = (before, at, ap (λ (v : Vec ℕ Global). v.items) e.1 ∙ is)
    by list (inr e) = absurd (e.0 refl)

-- ---- parents

-- in rows as they are read, a parent is an earlier row
pub parent_earlier : (rows : List Elem) (i : ℕ) (row : Elem) (p : ℕ) → AreFormed rows → slice_get rows i ≡ Some row → row.parent ≡ Some p → p < i
parent_earlier rows i row p formed at has = by row.kind (formed.parents i row at)
  where
    held : HasParent rows i row → p < i
    held h = let same : p ≡ h.number = same_Some p h.number (sym has ∙ h.is) in let before : h.number < i = h.earlier in omega arith

    by : (kind : ElemKind) → IsRowPlaced rows i row kind → p < i
    by Track h = absurd (none-some p (sym h ∙ has))
    by Topology h = held h
    by Begin h = held h
    by End h = held h
    by Switch h = held h
    by Crossing h = held h
    by Connection h = held h
    by OpenEnd h = held h
    by BufferStop h = held h
    by MacroNode h = held h

-- the only child of a kind, found among the children of row n
pub only_entry : (rows : List Elem) (table : List (Vec ℕ Global)) (n : ℕ) (list : Vec ℕ Global) (kind : ElemKind) (numbers : List ℕ) (only : Option ℕ) →
    ListsChildren rows table → n < length table → list ≡ get_or table n list → numbers ≡ list.items → only ≡ only_of (filter (is_of_kind rows kind) numbers) →
    only ≡ only_of (children rows n kind)
only_entry rows table n list kind numbers only lists within is same found = found
    ∙ ap (λ l. only_of (filter (is_of_kind rows kind) l)) (same ∙ lists.entry n list (slice_get_read table (length table) n list refl within is))
