-- Rows by number: which rows pass, a row's children and its parent.
use Rattle.std.proofs.Common.{◌≡◌, ℕ, suc, zero, ◌+◌, Bool, true, false, cond, Option, Some, None, List, [], ◌∷◌, slice_get, refl, sym, ap, ◌∙◌, subst, inl}
use Rattle.std.proofs.Common.{inr, zero-add, arith, ◌<◌, length}
use Rattle.std.proofs.lemmas.Option.{same_Some, slice_get_within}
use Rattle.std.specs.List.{filter, Contains}
use Rattle.std.proofs.lemmas.Bool.{eq-eqb, eqb-true}
use Rattle.railml_read.specs.declared.rows.Elem.{Elem}
use Rattle.railml_read.specs.declared.rows.ElemKind.{ElemKind}
use Rattle.railml_read.specs.declared.rows.ElemKind.TheVariants.{Track, Topology, Begin, End, Switch, Crossing, Connection, OpenEnd, BufferStop, MacroNode}
use Rattle.railml_faults.specs.Rows.{same_kind, numbers_from, is_child_of, all_children, is_of_kind, children}
use Rattle.railml_faults.proofs.Apart.{Among}

-- ---- membership

pub among_from_contains : (xs : List ℕ) (x : ℕ) → Contains xs x → Among xs x
among_from_contains [] x (k, within, is) = absurd (omega arith)
among_from_contains (y ∷ ys) x (zero, within, is) = inl (sym is)
among_from_contains (y ∷ ys) x (suc k, within, is) = inr (among_from_contains ys x (k, omega arith, is))

pub contains_from_among : (xs : List ℕ) (x : ℕ) → Among xs x → Contains xs x
contains_from_among [] x a = absurd a
contains_from_among (y ∷ ys) x (inl e) = (0, omega arith, sym e)
contains_from_among (y ∷ ys) x (inr a) = let (k, within, is) = contains_from_among ys x a in (suc k, omega arith, is)

-- ---- kinds

pub same_kind_is : (a b : ElemKind) → same_kind a b ≡ true → a ≡ b
same_kind_is Track Track h = refl
same_kind_is Topology Topology h = refl
same_kind_is Begin Begin h = refl
same_kind_is End End h = refl
same_kind_is Switch Switch h = refl
same_kind_is Crossing Crossing h = refl
same_kind_is Connection Connection h = refl
same_kind_is OpenEnd OpenEnd h = refl
same_kind_is BufferStop BufferStop h = refl
same_kind_is MacroNode MacroNode h = refl
same_kind_is a b h = absurd cc

pub same_kind_self : (a : ElemKind) → same_kind a a ≡ true
same_kind_self Track = refl
same_kind_self Topology = refl
same_kind_self Begin = refl
same_kind_self End = refl
same_kind_self Switch = refl
same_kind_self Crossing = refl
same_kind_self Connection = refl
same_kind_self OpenEnd = refl
same_kind_self BufferStop = refl
same_kind_self MacroNode = refl

pub of_kind : (rows : List Elem) (kind : ElemKind) (i : ℕ) → is_of_kind rows kind i ≡ true → (row : Elem) × (slice_get rows i ≡ Some row) × (row.kind ≡ kind)
of_kind rows kind i h = choose (slice_get rows i) refl
  where
    choose : (v : Option Elem) → slice_get rows i ≡ v → (row : Elem) × (slice_get rows i ≡ Some row) × (row.kind ≡ kind)
    choose None e = absurd (let f : is_of_kind rows kind i ≡ false = rw e refl in cc)
    choose (Some row) e = (row, e, same_kind_is row.kind kind (rw e at h))

pub within_of_kind : (rows : List Elem) (kind : ElemKind) (i : ℕ) → is_of_kind rows kind i ≡ true → i < length rows
within_of_kind rows kind i t = let (row, is, kind_is) = of_kind rows kind i t in slice_get_within rows i row is

pub is_of_its_kind : (rows : List Elem) (i : ℕ) (row : Elem) → slice_get rows i ≡ Some row → is_of_kind rows row.kind i ≡ true
is_of_its_kind rows i row e = rw e (same_kind_self row.kind)

-- ---- numbers of the rows that pass

-- row j of a list passes
pub record Passes (p : Elem → Bool) (rows : List Elem) (j : ℕ) : Type 0 where
  pub row : Elem
  pub is : slice_get rows j ≡ Some row
  pub passes : p row ≡ true

later : (p : Elem → Bool) (n k : ℕ) (row : Elem) (rows : List Elem) → (j : ℕ) × (k ≡ suc n + j) × Passes p rows j →
    (j : ℕ) × (k ≡ n + j) × Passes p (row ∷ rows) j
later p n k row rows (j, e, h) = (suc j, omega arith, record { row = h.row; is = h.is; passes = h.passes })

pub numbered : (p : Elem → Bool) (n : ℕ) (rows : List Elem) (k : ℕ) → Among (numbers_from p n rows) k → (j : ℕ) × (k ≡ n + j) × Passes p rows j
numbered p n [] k a = absurd a
numbered p n (row ∷ rows) k a = choose (p row) refl a (numbered p (suc n) rows k)
  where
    choose : (v : Bool) → p row ≡ v → Among (cond v (n ∷ numbers_from p (suc n) rows) (numbers_from p (suc n) rows)) k →
        (Among (numbers_from p (suc n) rows) k → (j : ℕ) × (k ≡ suc n + j) × Passes p rows j) → (j : ℕ) × (k ≡ n + j) × Passes p (row ∷ rows) j
    choose true e (inl here) ih = (0, omega arith, record { row = row; is = refl; passes = e })
    choose true e (inr there) ih = later p n k row rows (ih there)
    choose false e there ih = later p n k row rows (ih there)

pub has_number : (p : Elem → Bool) (n : ℕ) (rows : List Elem) (j : ℕ) (row : Elem) → slice_get rows j ≡ Some row → p row ≡ true →
    Among (numbers_from p n rows) (n + j)
has_number p n [] j row e h = absurd cc
has_number p n (r ∷ rows) zero row e h =
    let same : p r ≡ true = subst (λ (v : Elem). p v ≡ true) (grind arith) h in
    rw same (inl (omega arith))
has_number p n (r ∷ rows) (suc j) row e h =
    let rest : Among (numbers_from p (suc n) rows) (n + suc j) = subst (λ (v : ℕ). Among (numbers_from p (suc n) rows) v) (omega arith)
    (has_number p (suc n) rows j row e h) in
    choose (p r) rest
  where
    choose : (v : Bool) → Among (numbers_from p (suc n) rows) (n + suc j) →
        Among (cond v (n ∷ numbers_from p (suc n) rows) (numbers_from p (suc n) rows)) (n + suc j)
    choose true rest = inr rest
    choose false rest = rest

-- ---- filters

pub among_filtered : (q : ℕ → Bool) (xs : List ℕ) (k : ℕ) → Among (filter q xs) k → Among xs k × (q k ≡ true)
among_filtered q [] k a = absurd a
among_filtered q (x ∷ xs) k a = choose (q x) refl a (among_filtered q xs k)
  where
    choose : (v : Bool) → q x ≡ v → Among (cond v (x ∷ filter q xs) (filter q xs)) k → (Among (filter q xs) k → Among xs k × (q k ≡ true)) →
        Among (x ∷ xs) k × (q k ≡ true)
    choose true e (inl here) ih = (inl here, ap q here ∙ e)
    choose true e (inr there) ih = let r = ih there in (inr r.0, r.1)
    choose false e there ih = let r = ih there in (inr r.0, r.1)

pub filtered_among : (q : ℕ → Bool) (xs : List ℕ) (k : ℕ) → Among xs k → q k ≡ true → Among (filter q xs) k
filtered_among q [] k a h = absurd a
filtered_among q (x ∷ xs) k (inl e) h = let t : q x ≡ true = ap q (sym e) ∙ h in rw t (inl e)
filtered_among q (x ∷ xs) k (inr a) h = choose (q x) (filtered_among q xs k a h)
  where
    choose : (v : Bool) → Among (filter q xs) k → Among (cond v (x ∷ filter q xs) (filter q xs)) k
    choose true rest = inr rest
    choose false rest = rest

-- ---- children

-- row k is a child of row i, of this kind
pub record IsChild (rows : List Elem) (i : ℕ) (kind : ElemKind) (k : ℕ) : Type 0 where
  pub row : Elem
  pub is : slice_get rows k ≡ Some row
  pub parent_is : row.parent ≡ Some i
  pub kind_is : row.kind ≡ kind

parent_from_test : (i : ℕ) (row : Elem) → is_child_of i row ≡ true → row.parent ≡ Some i
parent_from_test i row h = choose row.parent refl
  where
    choose : (v : Option ℕ) → row.parent ≡ v → row.parent ≡ Some i
    choose None e = absurd (let f : is_child_of i row ≡ false = rw e refl in cc)
    choose (Some n) e = e ∙ ap (λ (v : ℕ). Some v) (eqb-true n i (rw e at h))

test_from_parent : (i : ℕ) (row : Elem) → row.parent ≡ Some i → is_child_of i row ≡ true
test_from_parent i row e = rw e (eq-eqb i i refl)

pub child : (rows : List Elem) (i : ℕ) (kind : ElemKind) (k : ℕ) → Among (children rows i kind) k → IsChild rows i kind k
child rows i kind k a =
    let f = among_filtered (is_of_kind rows kind) (all_children rows i) k a in
    let (j, e, h) = numbered (is_child_of i) 0 rows k f.0 in
    let (row, is, kind_is) = of_kind rows kind k f.1 in
    let place : j ≡ k = omega arith in
    let same : row ≡ h.row = same_Some row h.row (sym is ∙ (ap (slice_get rows) (sym place) ∙ h.is)) in
    record { row = row; is = is; parent_is = ap (λ (v : Elem). v.parent) same ∙ parent_from_test i h.row h.passes; kind_is = kind_is }

pub has_child : (rows : List Elem) (i : ℕ) (kind : ElemKind) (k : ℕ) → IsChild rows i kind k → Among (children rows i kind) k
has_child rows i kind k c =
    filtered_among (is_of_kind rows kind) (all_children rows i) k (subst (λ (v : ℕ). Among (all_children rows i) v) (zero-add k)
    (has_number (is_child_of i) 0 rows k c.row c.is (test_from_parent i c.row c.parent_is)))
    (subst (λ (v : ElemKind). is_of_kind rows v k ≡ true) c.kind_is (is_of_its_kind rows k c.row c.is))

-- the only child is the one
pub only_child : (rows : List Elem) (i : ℕ) (kind : ElemKind) (k : ℕ) → children rows i kind ≡ k ∷ [] → IsChild rows i kind k
only_child rows i kind k e = child rows i kind k (rw e (inl refl))

pub is_only : (rows : List Elem) (i : ℕ) (kind : ElemKind) (k j : ℕ) → children rows i kind ≡ k ∷ [] → IsChild rows i kind j → j ≡ k
is_only rows i kind k j e c = elim (let a : Among (k ∷ []) j = subst (λ (v : List ℕ). Among v j) e (has_child rows i kind j c) in a)
    [ inl same ↦ same | inr none ↦ absurd none ]
