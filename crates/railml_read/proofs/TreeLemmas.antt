-- Tags that fit spell one tree.
use Rattle.std.proofs.Common.{◌≡◌, ◌≢◌, ℕ, ◌-◌, Bool, true, false, Option, Some, None, List, [], ◌∷◌, ◌++◌, length, take, drop, refl, sym, ap, ◌∙◌, subst, inl}
use Rattle.std.proofs.Common.{inr, append_assoc}
use Rattle.std.specs.Prelude.{fold, ◌||◌, codes}
use Rattle.std.proofs.lemmas.List.{append-nil}
use Rattle.std.proofs.Math.Bool.{or-false}
use Rattle.railml_text.specs.declared.item.Attr.{Attr}
use Rattle.railml_text.specs.declared.item.ItemKind.{ItemKind}
use Rattle.railml_text.specs.declared.item.ItemKind.TheVariants as kinds
use Rattle.railml_text.specs.declared.fault.TextWhat.{TextWhat}
use Rattle.railml_text.specs.declared.fault.TextWhat.TheVariants.{EndTag, Root, AfterRoot}
use Rattle.railml_text.specs.Cutting.{Placed}
use Rattle.railml_read.specs.Tree.{Elements, none, element, XmlTree, root_of, Tag, opens, closes, tags_of}
use Rattle.railml_read.specs.Places.{role_of, tags_at, tags_in, names_after, open_names, begins_element, has_root, innermost, IsRootName, IsMisplaced}
use Rattle.railml_read.specs.Places.{AreInPlace}
use Rattle.railml_read.proofs.Ends.{last_push, front_push, none_pushed, same_or_not}
use Rattle.railml_read.proofs.PlaceLemmas.{names_push, root_push}

-- ---- elements after others

pub followed_by : Elements → Elements → Elements
followed_by none more = more
followed_by (element at name attrs children after) more = element at name attrs children (followed_by after more)

tags_followed : (a b : Elements) → tags_of (followed_by a b) ≡ tags_of a ++ tags_of b
unfolding followed_by
tags_followed none b = refl
tags_followed (element at name attrs children after) b = ap (λ (t : List Tag). opens at name attrs ∷ (tags_of children ++ closes name ∷ t))
    (tags_followed after b) ∙ simp append_assoc

-- ---- tags that fit behind open elements of these names, where the root has begun or hasn't

abbrev pub Fit : List (List ℕ) → Bool → List Tag → Type 0
Fit names rooted [] = Unit {0}
Fit names rooted (opens at name attrs ∷ tags) = (rooted ≡ false → IsRootName name) × (names ≡ [] → rooted ≡ false) × Fit (names ++ name ∷ []) true tags
Fit names rooted (closes name ∷ tags) = (innermost names ≡ Some name) × Fit (take (length names - 1) names) rooted tags

-- ---- they spell elements

-- an open element: those before it in its row, its place, its name and its attributes
pub record Begun : Type 0 where
  pub before : Elements
  pub at : ℕ
  pub name : List ℕ
  pub attrs : List Attr

-- the tags up to the innermost of these, which is the first
abbrev tags_up_to : List Begun → List Tag
tags_up_to [] = []
tags_up_to (b ∷ outer) = tags_up_to outer ++ (tags_of b.before ++ opens b.at b.name b.attrs ∷ [])

abbrev names_begun : List Begun → List (List ℕ)
names_begun [] = []
names_begun (b ∷ outer) = names_begun outer ++ b.name ∷ []

opened_tags : (outer inner : List Tag) (t : Tag) (tags : List Tag) → outer ++ (inner ++ t ∷ tags) ≡ (outer ++ (inner ++ t ∷ [])) ++ tags
opened_tags outer inner t tags = simp append_assoc

closed_tags : (outer : List Tag) (b : Begun) (inner : Elements) (tags : List Tag) →
    (outer ++ (tags_of b.before ++ opens b.at b.name b.attrs ∷ [])) ++ (tags_of inner ++ closes b.name ∷ tags) ≡ outer
    ++ (tags_of (followed_by b.before (element b.at b.name b.attrs inner none)) ++ tags)
closed_tags outer b inner tags = rw (tags_followed b.before (element b.at b.name b.attrs inner none)) (simp append_assoc)

pub spelled : (begun : List Begun) (inner : Elements) (rooted : Bool) (tags : List Tag) → Fit (names_begun begun) rooted tags →
    fold names_after (names_begun begun) tags ≡ [] → (elements : Elements) × (tags_up_to begun ++ (tags_of inner ++ tags) ≡ tags_of elements)
spelled [] inner rooted [] fit e = (inner, append-nil (tags_of inner))
spelled (b ∷ outer) inner rooted [] fit e = absurd (none_pushed (names_begun outer) b.name e)
spelled begun inner rooted (opens at name attrs ∷ tags) fit e =
    let k = spelled (record { before = inner; at = at; name = name; attrs = attrs } ∷ begun) none true tags fit.2 e in
    (k.0, opened_tags (tags_up_to begun) (tags_of inner) (opens at name attrs) tags ∙ k.1)
spelled [] inner rooted (closes name ∷ tags) fit e = absurd cc
spelled (b ∷ outer) inner rooted (closes name ∷ tags) fit e =
    let last : Some b.name ≡ Some name = sym (last_push (names_begun outer) b.name) ∙ fit.0 in
    let same : b.name ≡ name = cc in
    let front = front_push (names_begun outer) b.name in
    let k = spelled outer (followed_by b.before (element b.at b.name b.attrs inner none)) rooted tags
    (subst (λ (ns : List (List ℕ)). Fit ns rooted tags) front fit.1) (sym (ap (λ (ns : List (List ℕ)). fold names_after ns tags) front) ∙ e) in
    (k.0, ap (λ (n : List ℕ). tags_up_to (b ∷ outer) ++ (tags_of inner ++ closes n ∷ tags)) (sym same) ∙ closed_tags (tags_up_to outer) b inner tags ∙ k.1)

-- elements leave the names that are open
pub left_open : (elements : Elements) (names : List (List ℕ)) (rest : List Tag) →
    fold names_after names (tags_of elements ++ rest) ≡ fold names_after names rest
left_open none names rest = refl
left_open (element at name attrs children after) names rest =
    ap (λ (t : List Tag). fold names_after (names ++ name ∷ []) t) (append_assoc (tags_of children) (closes name ∷ tags_of after) rest)
    ∙ left_open children (names ++ name ∷ []) (closes name ∷ (tags_of after ++ rest))
    ∙ ap (λ (ns : List (List ℕ)). fold names_after ns (tags_of after ++ rest)) (front_push names name)
    ∙ left_open after names rest

-- ---- one root

passed_over : (elements : Elements) (names : List (List ℕ)) (rest : List Tag) → Fit names true (tags_of elements ++ rest) → Fit names true rest
passed_over none names rest fit = fit
passed_over (element at name attrs children after) names rest fit =
    let inside : Fit (names ++ name ∷ []) true (tags_of children ++ (closes name ∷ (tags_of after ++ rest))) = subst (Fit (names ++ name ∷ []) true)
    (append_assoc (tags_of children) (closes name ∷ tags_of after) rest) fit.2 in
    let closing = passed_over children (names ++ name ∷ []) (closes name ∷ (tags_of after ++ rest)) inside in
    passed_over after names rest (subst (λ (ns : List (List ℕ)). Fit ns true (tags_of after ++ rest)) (front_push names name) closing.1)

no_second : (elements : Elements) → Fit [] true (tags_of elements) → elements ≡ none
no_second none fit = refl
no_second (element at name attrs children after) fit = let no : true ≡ false = fit.1 refl in absurd cc

pub record IsRooted (elements : Elements) : Type 0 where
  pub tree : XmlTree
  pub is : elements ≡ root_of tree
  pub named : IsRootName tree.name

pub rooted : (elements : Elements) → elements ≢ none → Fit [] false (tags_of elements) → IsRooted elements
rooted none some fit = absurd (some refl)
rooted (element at name attrs children after) some fit =
    let behind : Fit [] true (tags_of after) = (passed_over children (name ∷ []) (closes name ∷ tags_of after) fit.2).1 in
    let alone : after ≡ none = no_second after behind in
    record {
      tree = record {
        at = at;
        name = name;
        attrs = attrs;
        children = children;
      };
      is = ap (λ (more : Elements). element at name attrs children more) alone;
      named = fit.0 refl;
    }

-- ---- the tags of items that stand where they may

or_true : (a : Bool) → (a || true) ≡ true
or_true true = refl
or_true false = refl

is_root_name : (names : List (List ℕ)) (root : Bool) (name : List ℕ) → ((root ≡ false) × (IsRootName name → ⊥) → ⊥) → root ≡ false → IsRootName name
is_root_name names root name here e = elim (same_or_not name (codes "railml")) [
  | inl same ↦ inl same
  | inr other ↦ elim (same_or_not name (codes "infrastructure")) [
    | inl same ↦ inr same
    | inr another ↦ absurd (here (e, λ r. elim r [ inl same ↦ other same | inr same ↦ another same ]))
  ]
]

is_first_root : (names : List (List ℕ)) (root : Bool) → ((root ≡ true) × (names ≡ []) → ⊥) → names ≡ [] → root ≡ false
is_first_root names true here e = absurd (here (refl, e))
is_first_root names false here e = refl

is_some : (o : Option (List ℕ)) (name : List ℕ) → ((o ≢ Some name) → ⊥) → o ≡ Some name
is_some None name here = absurd (here (λ e. cc))
is_some (Some other) name here = elim (same_or_not other name) [
  | inl same ↦ ap (λ (n : List ℕ). Some n) same
  | inr differs ↦ absurd (here (λ e. let same : other ≡ name = cc in differs same))
]

fit_one : (names : List (List ℕ)) (root : Bool) (at : ℕ) (kind : ItemKind) (tags : List Tag) →
    ((what : TextWhat) → IsMisplaced names root (role_of kind) what → ⊥) → Fit (fold names_after names (tags_at at kind)) (root || begins_element kind) tags →
    Fit names root (tags_at at kind ++ tags)
fit_one names root at (kinds.Start name attrs true) tags here rest = (
  is_root_name names root name (here Root),
  is_first_root names root (here AfterRoot),
  (last_push names name, subst (λ (b : Bool). Fit (take (length (names ++ name ∷ []) - 1) (names ++ name ∷ [])) b tags) (or_true root) rest),
)
fit_one names root at (kinds.Start name attrs false) tags here rest = (
  is_root_name names root name (here Root),
  is_first_root names root (here AfterRoot),
  subst (λ (b : Bool). Fit (names ++ name ∷ []) b tags) (or_true root)
      rest,
)
fit_one names root at (kinds.EndTag name) tags here rest = (
  is_some (innermost names) name (here EndTag),
  subst
      (λ (b : Bool). Fit (take (length names - 1) names) b tags) (or-false root) rest,
)
fit_one names root at kind tags here rest = subst (λ (b : Bool). Fit names b tags) (or-false root) rest

pub items_fit : (before items : List Placed) → AreInPlace before items → Fit (open_names before) (has_root before) (tags_in items)
items_fit before [] h = tt
items_fit before (item ∷ items) h =
    let rest = items_fit (before ++ item ∷ []) items h.1 in
    fit_one (open_names before) (has_root before) item.at item.kind (tags_in items) h.0 (rw (sym (names_push before item), sym (root_push before item)) rest)

-- ---- tags spell elements in one way

abbrev EndsRow : List Tag → Type 0
EndsRow [] = Unit {0}
EndsRow (opens at name attrs ∷ tags) = ⊥
EndsRow (closes name ∷ tags) = Unit {0}

one_row : (a b : Elements) (more rest : List Tag) → EndsRow more → EndsRow rest → tags_of a ++ more ≡ tags_of b ++ rest → (a ≡ b) × (more ≡ rest)
one_row none none more rest p q e = (refl, e)
one_row none (element at name attrs children after) more rest p q e = absurd (subst EndsRow e p)
one_row (element at name attrs children after) none more rest p q e = absurd (subst EndsRow (sym e) q)
one_row (element at name attrs children after) (element to other others inner last) more rest p q e =
    let whole : opens at name attrs ∷ ((tags_of children ++ (closes name ∷ tags_of after)) ++ more) ≡ opens to other others
    ∷ ((tags_of inner ++ (closes other ∷ tags_of last)) ++ rest) = e in
    let left : tags_of children ++ (closes name ∷ (tags_of after ++ more)) ≡ tags_of inner ++ (closes other ∷ (tags_of last ++ rest)) = sym
    (append_assoc (tags_of children) (closes name ∷ tags_of after) more) ∙ ap (λ (t : List Tag). drop 1 t) whole
    ∙ append_assoc (tags_of inner) (closes other ∷ tags_of last) rest in
    let within = one_row children inner (closes name ∷ (tags_of after ++ more)) (closes other ∷ (tags_of last ++ rest)) tt tt left in
    let behind = one_row after last more rest p q (ap (λ (t : List Tag). drop 1 t) within.1) in
    let places : at ≡ to = cc in
    let names : name ≡ other = cc in
    let texts : attrs ≡ others = cc in
    (cc (places, names, texts, within.0, behind.0), behind.1)

pub one_spelled : (a b : Elements) → tags_of a ≡ tags_of b → a ≡ b
one_spelled a b e = (one_row a b [] [] tt tt (append-nil (tags_of a) ∙ e ∙ sym (append-nil (tags_of b)))).0
