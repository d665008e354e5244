-- Where items stand.
use Rattle.std.proofs.Common.{◌≡◌, ◌≢◌, ℕ, ◌<◌, ◌≤◌, Bool, true, false, cond, Option, Some, None, List, [], ◌∷◌, ◌++◌, length, refl, sym, ap, ◌∙◌, inl, inr}
use Rattle.std.proofs.Common.{append_assoc, arith}
use Rattle.std.specs.Prelude.{fold, not, ◌||◌, ◌==◌, nat_le, bytes_eq, codes}
use Rattle.std.specs.Option.{option_map_or}
use Rattle.std.proofs.lemmas.List.{append-nil}
use Rattle.std.proofs.lemmas.Grind.{flat_map-append}
use Rattle.std.proofs.lemmas.List.Sums.{fold-append}
use Rattle.std.proofs.lemmas.List.Folds.{list_any-append}
use Rattle.std.proofs.lemmas.Bool.{leb-true, le-leb}
use Rattle.std.proofs.lemmas.Bool.Decides.{nat_tests, not_from_Decides}
use Rattle.std.proofs.Math.Bool.{or-false}
use Rattle.std.proofs.lemmas.Slice.Eq.{bytes_eq-Decides}
use Rattle.railml_text.specs.declared.fault.TextWhat.{TextWhat}
use Rattle.railml_text.specs.declared.fault.TextWhat.TheVariants.{Markup, EndTag, Root, AfterRoot, Depth}
use Rattle.railml_text.specs.Faults.{number_of}
use Rattle.railml_text.specs.Cutting.{Placed}
use Rattle.railml_read.specs.declared.progress.TheConstants.{MAX_DEPTH}
use Rattle.railml_read.specs.Places.{Role, opening, closing, content, free, role_of, tags_at, tags_in, names_after, open_names, begins_element, has_root}
use Rattle.railml_read.specs.Places.{innermost, IsRootName, IsMisplaced, AreInPlace}
use Rattle.railml_read.specs.Progress.{is_root_name, is_innermost, fault_in}
use Rattle.railml_read.proofs.Ends.{length_none, bytes_eq_true}

-- ---- one item more

pub tags_push : (items : List Placed) (item : Placed) → tags_in (items ++ item ∷ []) ≡ tags_in items ++ tags_at item.at item.kind
tags_push items item = flat_map-append (λ i. tags_at i.at i.kind) items (item ∷ []) ∙ ap (λ t. tags_in items ++ t) (append-nil (tags_at item.at item.kind))

pub names_push : (items : List Placed) (item : Placed) → open_names (items ++ item ∷ []) ≡ fold names_after (open_names items) (tags_at item.at item.kind)
names_push items item = ap (λ t. fold names_after [] t) (tags_push items item) ∙ fold-append names_after [] (tags_in items) (tags_at item.at item.kind)

pub root_push : (items : List Placed) (item : Placed) → has_root (items ++ item ∷ []) ≡ (has_root items || begins_element item.kind)
root_push items item = list_any-append (λ i. begins_element i.kind) items (item ∷ []) ∙ ap (λ b. has_root items || b) (or-false (begins_element item.kind))

pub place_push : (before items : List Placed) (item : Placed) → AreInPlace before items →
    ((what : TextWhat) → IsMisplaced (open_names (before ++ items)) (has_root (before ++ items)) (role_of item.kind) what → ⊥) →
    AreInPlace before (items ++ item ∷ [])
place_push before [] item h here = (λ what m. here what (rw (append-nil before) m), tt)
place_push before (i ∷ items) item h here = (
  h.0,
  place_push (before ++ i ∷ []) items item h.1
      (λ what m. here what (rw (sym (append_assoc before (i ∷ []) items)) m)),
)

-- ---- the fault that its place gives to an item

-- a misplaced item has this fault, and none with a lower number
pub record IsLeastMisplaced (names : List (List ℕ)) (rooted : Bool) (role : Role) (what : TextWhat) : Type 0 where
  pub holds : IsMisplaced names rooted role what
  pub least : (other : TextWhat) → number_of other < number_of what → IsMisplaced names rooted role other → ⊥

abbrev pub FaultIs : List (List ℕ) → Bool → Role → Option TextWhat → Type 0
FaultIs names rooted role None = (what : TextWhat) → IsMisplaced names rooted role what → ⊥
FaultIs names rooted role (Some what) = IsLeastMisplaced names rooted role what

-- an opening, a closing and content have no fault but these
no_opening : (names : List (List ℕ)) (rooted : Bool) (name : List ℕ) → (IsMisplaced names rooted (opening name) Root → ⊥) →
    (IsMisplaced names rooted (opening name) AfterRoot → ⊥) → (IsMisplaced names rooted (opening name) Depth → ⊥) → (what : TextWhat) →
    IsMisplaced names rooted (opening name) what → ⊥
no_opening names rooted name no_root no_after no_depth Root m = no_root m
no_opening names rooted name no_root no_after no_depth AfterRoot m = no_after m
no_opening names rooted name no_root no_after no_depth Depth m = no_depth m
no_opening names rooted name no_root no_after no_depth what m = m

lower_opening : (names : List (List ℕ)) (rooted : Bool) (name : List ℕ) (n : ℕ) → (8 < n → IsMisplaced names rooted (opening name) Root → ⊥) →
    (10 < n → IsMisplaced names rooted (opening name) AfterRoot → ⊥) → (11 < n → IsMisplaced names rooted (opening name) Depth → ⊥) → (what : TextWhat) →
    number_of what < n → IsMisplaced names rooted (opening name) what → ⊥
lower_opening names rooted name n no_root no_after no_depth Root lt m = no_root lt m
lower_opening names rooted name n no_root no_after no_depth AfterRoot lt m = no_after lt m
lower_opening names rooted name n no_root no_after no_depth Depth lt m = no_depth lt m
lower_opening names rooted name n no_root no_after no_depth what lt m = m

no_closing : (names : List (List ℕ)) (rooted : Bool) (name : List ℕ) → (IsMisplaced names rooted (closing name) EndTag → ⊥) → (what : TextWhat) →
    IsMisplaced names rooted (closing name) what → ⊥
no_closing names rooted name no_end EndTag m = no_end m
no_closing names rooted name no_end what m = m

lower_closing : (names : List (List ℕ)) (rooted : Bool) (name : List ℕ) (what : TextWhat) → number_of what < 6 → IsMisplaced names rooted (closing name) what →
    ⊥
lower_closing names rooted name EndTag lt m = absurd (omega arith)
lower_closing names rooted name what lt m = m

no_content : (names : List (List ℕ)) (rooted : Bool) → (IsMisplaced names rooted content Markup → ⊥) → (IsMisplaced names rooted content AfterRoot → ⊥) →
    (what : TextWhat) → IsMisplaced names rooted content what → ⊥
no_content names rooted no_markup no_after Markup m = no_markup m
no_content names rooted no_markup no_after AfterRoot m = no_after m
no_content names rooted no_markup no_after what m = m

lower_content : (names : List (List ℕ)) (rooted : Bool) (n : ℕ) → (4 < n → IsMisplaced names rooted content Markup → ⊥) →
    (10 < n → IsMisplaced names rooted content AfterRoot → ⊥) → (what : TextWhat) → number_of what < n → IsMisplaced names rooted content what → ⊥
lower_content names rooted n no_markup no_after Markup lt m = no_markup lt m
lower_content names rooted n no_markup no_after AfterRoot lt m = no_after lt m
lower_content names rooted n no_markup no_after what lt m = m

root_name : (name : List ℕ) → is_root_name name ≡ true → IsRootName name
root_name name = elim (bytes_eq name (codes "railml")) as (λ v. bytes_eq name (codes "railml") ≡ v → (v || bytes_eq name (codes "infrastructure")) ≡ true →
    IsRootName name) [
      | true ↦ λ e h. inl (bytes_eq_true name (codes "railml") e)
      | false ↦ λ e h. inr (bytes_eq_true name (codes "infrastructure") h)
    ] refl

no_root_name : (name : List ℕ) → is_root_name name ≡ false → IsRootName name → ⊥
no_root_name name h r = elim r [
  | inl e ↦ let yes : is_root_name name ≡ true = rw e refl in cc
  | inr e ↦ let yes : is_root_name name ≡ true = rw e refl in cc
]

innermost_is : (o : Option (List ℕ)) (name : List ℕ) → option_map_or (λ other. bytes_eq other name) o false ≡ true → o ≡ Some name
innermost_is None name h = absurd cc
innermost_is (Some other) name h = ap (λ (n : List ℕ). Some n) (bytes_eq_true other name h)

innermost_is_not : (o : Option (List ℕ)) (name : List ℕ) → option_map_or (λ other. bytes_eq other name) o false ≡ false → o ≢ Some name
innermost_is_not None name h e = absurd cc
innermost_is_not (Some other) name h e = let same : other ≡ name = cc in not_from_Decides (bytes_eq other name) (bytes_eq-Decides other name) h same

some_length : (names : List (List ℕ)) → (length names == 0) ≡ false → names ≢ []
some_length names h e = let no : (length names == 0) ≡ true = rw e refl in cc

no_length : (names : List (List ℕ)) → (length names == 0) ≡ true → names ≡ []
no_length names h = length_none names (grind (arith, nat_tests))

not_deep : (n : ℕ) → nat_le MAX_DEPTH n ≡ false → MAX_DEPTH ≤ n → ⊥
not_deep n h k = let yes = le-leb MAX_DEPTH n k in cc

fault_of_closing : (names : List (List ℕ)) (rooted : Bool) (name : List ℕ) → FaultIs names rooted (closing name) (fault_in names rooted (closing name))
fault_of_closing names rooted name = elim (is_innermost name names) as (λ v. is_innermost name names ≡ v → FaultIs names rooted (closing name)
    (cond v None (Some EndTag))) [
      | true ↦ λ e. no_closing names rooted name (λ other. other (innermost_is (innermost names) name e))
      | false ↦ λ e. record { holds = innermost_is_not (innermost names) name e; least = lower_closing names rooted name }
    ] refl

fault_of_content : (names : List (List ℕ)) (rooted : Bool) → FaultIs names rooted content (fault_in names rooted content)
fault_of_content names false = record { holds = refl; least = lower_content names false 4 (λ lt m. omega arith) (λ lt m. omega arith) }
fault_of_content names true = elim (length names == 0) as (λ v. (length names == 0) ≡ v → FaultIs names true content (cond v (Some AfterRoot) None)) [
  | true ↦ λ e. record { holds = (refl, no_length names e); least = lower_content names true 10 (λ lt m. cc) (λ lt m. omega arith) }
  | false ↦ λ e. no_content names true (λ m. cc) (λ m. some_length names e m.1)
] refl

too_deep : (names : List (List ℕ)) (rooted : Bool) (name : List ℕ) → (IsMisplaced names rooted (opening name) Root → ⊥) →
    (IsMisplaced names rooted (opening name) AfterRoot → ⊥) → FaultIs names rooted (opening name) (cond (nat_le MAX_DEPTH (length names)) (Some Depth) None)
too_deep names rooted name no_root no_after = elim (nat_le MAX_DEPTH (length names)) as
    (λ v. nat_le MAX_DEPTH (length names) ≡ v → FaultIs names rooted (opening name) (cond v (Some Depth) None)) [
      | true ↦ λ e. record {
        holds = leb-true MAX_DEPTH (length names) e;
        least = lower_opening names rooted name 11 (λ lt. no_root) (λ lt. no_after) (λ lt m. omega arith);
      }
      | false ↦ λ e. no_opening names rooted name no_root no_after (not_deep (length names) e)
    ] refl

fault_of_opening : (names : List (List ℕ)) (rooted : Bool) (name : List ℕ) → FaultIs names rooted (opening name) (fault_in names rooted (opening name))
fault_of_opening names false name = elim (is_root_name name) as (λ v. is_root_name name ≡ v → FaultIs names false (opening name)
    (cond (not v) (Some Root) (cond (nat_le MAX_DEPTH (length names)) (Some Depth) None))) [
      | true ↦ λ e. too_deep names false name (λ m. m.1 (root_name name e)) (λ m. let no = m.0 in cc)
      | false ↦ λ e. record {
        holds = (refl, no_root_name name e);
        least = lower_opening names false name 8 (λ lt m. omega arith) (λ lt m. omega arith) (λ lt m. omega arith);
      }
    ] refl
fault_of_opening names true name = elim (length names == 0) as (λ v. (length names == 0) ≡ v → FaultIs names true (opening name)
    (cond v (Some AfterRoot) (cond (nat_le MAX_DEPTH (length names)) (Some Depth) None))) [
      | true ↦ λ e. record {
        holds = (refl, no_length names e);
        least = lower_opening names true name 10 (λ lt m. let no = m.0 in cc) (λ lt m. omega arith) (λ lt m. omega arith);
      }
      | false ↦ λ e. too_deep names true name (λ m. let no = m.0 in cc) (λ m. some_length names e m.1)
    ] refl

pub fault_is : (names : List (List ℕ)) (rooted : Bool) (role : Role) → FaultIs names rooted role (fault_in names rooted role)
fault_is names rooted (opening name) = fault_of_opening names rooted name
fault_is names rooted (closing name) = fault_of_closing names rooted name
fault_is names rooted content = fault_of_content names rooted
fault_is names rooted free = λ what m. m
