-- All items have gone by: the tree that they spell, its rows, and what may be lacking.
use Rattle.std.proofs.Common.{◌≡◌, ◌≢◌, ◌⊎◌, ℕ, suc, zero, ◌<◌, Bool, true, false, cond, List, [], ◌∷◌, ◌++◌, length, get_or, refl, sym, ap, ◌∙◌, subst, inl}
use Rattle.std.proofs.Common.{inr, arith}
use Rattle.std.specs.Prelude.{fold, ◌||◌, codes, Contains, bytes_eq, IsUtf8}
use Rattle.std.proofs.lemmas.List.{append-nil}
use Rattle.std.proofs.Math.Bool.{or-false}
use Rattle.std.proofs.lemmas.Bool.Decides.{not_from_Decides}
use Rattle.std.proofs.lemmas.Slice.Eq.{bytes_eq-Decides}
use Rattle.railml_text.specs.declared.item.Attr.{Attr}
use Rattle.railml_text.specs.declared.item.ItemKind.{ItemKind}
use Rattle.railml_text.specs.declared.item.ItemKind.TheVariants as kinds
use Rattle.railml_text.specs.declared.fault.TextWhat.{TextWhat}
use Rattle.railml_text.specs.declared.fault.TextWhat.TheVariants.{Markup, AfterRoot}
use Rattle.railml_text.specs.Cutting.{Placed, IsCutInto}
use Rattle.railml_read.specs.declared.progress.Frame.{Frame}
use Rattle.railml_read.specs.declared.contexts.Context.TheVariants.{Outside, Railml, Infrastructure, Skipped}
use Rattle.railml_read.specs.Tree.{Elements, none, element, XmlTree, root_of, Tag, opens, closes, tags_of, names_of}
use Rattle.railml_read.specs.Rows.{rows_of}
use Rattle.railml_read.specs.Places.{Role, content, role_of, tags_at, tags_in, open_names, begins_element, has_root, IsRootName, IsMisplaced, AreInPlace}
use Rattle.railml_read.specs.Document.{IsFreeOutside, SpellsTree, EndsOpen, LacksInfrastructure, AreRows}
use Rattle.railml_read.specs.Progress.{State, after_tag, start, state_after, names_in, is_infrastructure}
use Rattle.std.specs.Prelude.{◌+◌}
use Rattle.railml_read.specs.Passing.{IsReadThrough, HasMarks}
use Rattle.railml_read.specs.Progress.{Marks, after_both, no_marks, marks_after}
use Rattle.railml_read.specs.Signals.{tracks_from, signals_of, AreSignals}
use Rattle.railml_read.proofs.SignalLemmas.{marked, tree_marks}
use Rattle.railml_read.proofs.Ends.{bytes_eq_true}
use Rattle.railml_read.proofs.TreeLemmas.{Fit, items_fit, spelled, rooted}
use Rattle.railml_read.proofs.RowLemmas.{reached_in, gone_by}
use Rattle.railml_read.proofs.KeptLemmas.{names_open}

-- ---- the tree

outside_one : (names : List (List ℕ)) (root : Bool) (role : Role) → ((what : TextWhat) → IsMisplaced names root role what → ⊥) → names ≡ [] → role ≢ content
outside_one names true role here empty e = here AfterRoot (subst (λ (r : Role). IsMisplaced names true r AfterRoot) (sym e) (refl, empty))
outside_one names false role here empty e = here Markup (subst (λ (r : Role). IsMisplaced names false r Markup) (sym e) refl)

free_outside : (before items : List Placed) → AreInPlace before items → IsFreeOutside before items
free_outside before [] h = tt
free_outside before (item ∷ items) h = (outside_one (open_names before) (has_root before) (role_of item.kind) h.0, free_outside (before ++ item ∷ []) items h.1)

no_tags_one : (at : ℕ) (kind : ItemKind) (tags : List Tag) → tags_at at kind ++ tags ≡ [] → (begins_element kind ≡ false) × (tags ≡ [])
no_tags_one at (kinds.Start name attrs true) tags e = absurd cc
no_tags_one at (kinds.Start name attrs false) tags e = absurd cc
no_tags_one at (kinds.EndTag name) tags e = absurd cc
no_tags_one at kind tags e = (refl, e)

no_tags : (items : List Placed) → tags_in items ≡ [] → has_root items ≡ false
no_tags [] e = refl
no_tags (item ∷ items) e = let one = no_tags_one item.at item.kind (tags_in items) e in rw one.0 (no_tags items one.1)

-- where no element has begun, the first tag closes one
abbrev IsClosing : Tag → Type 0
IsClosing (opens at name attrs) = ⊥
IsClosing (closes name) = Unit {0}

first_tag : (at : ℕ) (kind : ItemKind) (more : List Tag) (t : Tag) (tags : List Tag) → begins_element kind ≡ false → tags_at at kind ++ more ≡ t ∷ tags →
    IsClosing t ⊎ (more ≡ t ∷ tags)
first_tag at (kinds.Start name attrs empty) more t tags begins e = absurd cc
first_tag at (kinds.EndTag name) more t tags begins e = let same : closes name ≡ t = cc in inl (subst IsClosing same tt)
first_tag at kind more t tags begins e = inr e

neither : (a b : Bool) → (a || b) ≡ false → (a ≡ false) × (b ≡ false)
neither true b h = absurd cc
neither false b h = (refl, h)

closes_first : (items : List Placed) (t : Tag) (tags : List Tag) → has_root items ≡ false → tags_in items ≡ t ∷ tags → IsClosing t
closes_first [] t tags h e = absurd cc
closes_first (item ∷ items) t tags h e =
    let parts = neither (begins_element item.kind) (has_root items) h in
    elim (first_tag item.at item.kind (tags_in items) t tags parts.0 e) [
      | inl closing ↦ closing
      | inr later ↦ closes_first items t tags parts.1 later
    ]

pub rooted_tags : (items : List Placed) (tree : XmlTree) → tags_in items ≡ tags_of (root_of tree) → has_root items ≡ false → ⊥
rooted_tags items tree e h = closes_first items _ _ h e

pub record IsTreeOf (bytes : List ℕ) (items : List Placed) : Type 0 where
  pub tree : XmlTree
  pub spells : SpellsTree bytes tree
  pub items_are : spells.items ≡ items
  pub named : IsRootName tree.name

pub tree_of_items : (bytes : List ℕ) (items : List Placed) → IsCutInto bytes items → AreInPlace [] items → has_root items ≡ true → open_names items ≡ [] →
    IsTreeOf bytes items
tree_of_items bytes items cut sound root closed =
    let fit : Fit [] false (tags_in items) = items_fit [] items sound in
    let whole = spelled [] none false (tags_in items) fit closed in
    let same : tags_in items ≡ tags_of whole.0 = whole.1 in
    let some : whole.0 ≢ none = λ e. let no : has_root items ≡ false = no_tags items (same ∙ ap tags_of e) in cc in
    let r = rooted whole.0 some (subst (Fit [] false) same fit) in
    record {
      tree = r.tree;
      spells = record { items = items; cut = cut; tags = same ∙ ap tags_of r.is; outside = free_outside [] items sound };
      items_are = refl;
      named = r.named;
    }

-- ---- its rows

pub tree_state : (tree : XmlTree) → fold after_tag start (tags_of (root_of tree)) ≡ record {
  stack = [];
  rows = rows_of tree;
  reached = reached_in Outside (root_of tree);
}
tree_state tree = ap (λ (t : List Tag). fold after_tag start t) (sym (append-nil (tags_of (root_of tree)))) ∙ gone_by (root_of tree) start []

-- ---- an infrastructure

contains_there : (x y : List ℕ) (xs : List (List ℕ)) → Contains xs x → Contains (y ∷ xs) x
contains_there x y xs h = (suc h.0, omega (arith, h.1), h.2)

contains_cons : (x y : List ℕ) (xs : List (List ℕ)) (k : ℕ) → k < length (y ∷ xs) → get_or (y ∷ xs) k x ≡ x → (y ≡ x) ⊎ Contains xs x
contains_cons x y xs zero lt e = inl e
contains_cons x y xs (suc k) lt e = inr (k, omega arith, e)

skipped : (elements : Elements) → reached_in Skipped elements ≡ false
skipped none = refl
skipped (element at name attrs children after) = rw (skipped children, skipped after) refl

railml_reached : (elements : Elements) → reached_in Railml elements ≡ true → Contains (names_of elements) (codes "infrastructure")
railml_reached none = λ e. absurd cc
railml_reached (element at name attrs children after) = elim (bytes_eq name (codes "infrastructure")) as
    (λ v. bytes_eq name (codes "infrastructure") ≡ v → (is_infrastructure (cond v Infrastructure Skipped) || reached_in (cond v Infrastructure Skipped) children
    || reached_in Railml after) ≡ true → Contains (name ∷ names_of after) (codes "infrastructure")) [
      | true ↦ λ h e. (0, omega arith, bytes_eq_true name (codes "infrastructure") h)
      | false ↦ λ h e. contains_there (codes "infrastructure") name (names_of after) (railml_reached after (rw (skipped children) at e))
    ] refl

railml_not_reached : (elements : Elements) → reached_in Railml elements ≡ false → Contains (names_of elements) (codes "infrastructure") → ⊥
railml_not_reached none = λ e h. omega (arith, h.1)
railml_not_reached (element at name attrs children after) = elim (bytes_eq name (codes "infrastructure")) as
    (λ v. bytes_eq name (codes "infrastructure") ≡ v → (is_infrastructure (cond v Infrastructure Skipped) || reached_in (cond v Infrastructure Skipped) children
    || reached_in Railml after) ≡ false → Contains (name ∷ names_of after) (codes "infrastructure") → ⊥) [
      | true ↦ λ h e k. cc
      | false ↦ λ h e k. elim (contains_cons (codes "infrastructure") name (names_of after) k.0 k.1 k.2) [
        | inl same ↦ not_from_Decides (bytes_eq name (codes "infrastructure")) (bytes_eq-Decides name (codes "infrastructure")) h same
        | inr later ↦ railml_not_reached after (rw (skipped children) at e) later
      ]
    ] refl

root_railml : (at : ℕ) (name : List ℕ) (attrs : List Attr) (children : Elements) → name ≡ codes "railml" →
    reached_in Outside (element at name attrs children none) ≡ reached_in Railml children
root_railml at name attrs children e = ap (λ (n : List ℕ). reached_in Outside (element at n attrs children none)) e ∙ or-false (reached_in Railml children)

root_infrastructure : (at : ℕ) (name : List ℕ) (attrs : List Attr) (children : Elements) → name ≡ codes "infrastructure" →
    reached_in Outside (element at name attrs children none) ≡ true
root_infrastructure at name attrs children e = ap (λ (n : List ℕ). reached_in Outside (element at n attrs children none)) e

pub record IsLacking (tree : XmlTree) : Type 0 where
  pub named : tree.name ≡ codes "railml"
  pub lacks : Contains (names_of tree.children) (codes "infrastructure") → ⊥

pub lacking : (tree : XmlTree) → IsRootName tree.name → reached_in Outside (root_of tree) ≡ false → IsLacking tree
lacking tree named e = elim named [
  | inl railml ↦ record { named = railml; lacks = railml_not_reached tree.children (sym (root_railml tree.at tree.name tree.attrs tree.children railml) ∙ e) }
  | inr infrastructure ↦ let yes = root_infrastructure tree.at tree.name tree.attrs tree.children infrastructure in absurd cc
]

pub not_lacking : (tree : XmlTree) → reached_in Outside (root_of tree) ≡ true → IsLacking tree → ⊥
not_lacking tree e l = l.lacks (railml_reached tree.children (sym (root_railml tree.at tree.name tree.attrs tree.children l.named) ∙ e))

-- ---- the answers at the end

pub names_closed : (bytes : List ℕ) (state : State) (root : Bool) (r : IsReadThrough bytes state root) → state.stack ≡ [] → open_names r.items ≡ []
names_closed bytes state root r e = sym (names_open r.items state r.state_is) ∙ ap names_in e

still_open : (stack : List Frame) → names_in stack ≡ [] → stack ≡ []
still_open [] e = refl
still_open (frame ∷ stack) e = absurd cc

pub ends_open : (bytes : List ℕ) (state : State) (root : Bool) → IsUtf8 bytes → IsReadThrough bytes state root → (root ≡ false) ⊎ (state.stack ≢ []) →
    EndsOpen bytes (length bytes)
ends_open bytes state root utf8 r h = record {
  utf8 = utf8;
  items = r.items;
  cut = r.cut;
  sound = r.sound;
  is_open = elim h [
    | inl no_root ↦ inl (sym r.root_is ∙ no_root)
    | inr some ↦ inr (λ e. some (still_open state.stack (names_open r.items state r.state_is ∙ e)))
  ];
  end = refl;
}

pub read_tree : (bytes : List ℕ) (state : State) (root : Bool) (r : IsReadThrough bytes state root) → root ≡ true → state.stack ≡ [] → IsTreeOf bytes r.items
read_tree bytes state root r rooted closed = tree_of_items bytes r.items r.cut r.sound (sym r.root_is ∙ rooted) (names_closed bytes state root r closed)

pub state_is : (bytes : List ℕ) (state : State) (root : Bool) (r : IsReadThrough bytes state root) (t : IsTreeOf bytes r.items) →
    state ≡ record { stack = []; rows = rows_of t.tree; reached = reached_in Outside (root_of t.tree) }
state_is bytes state root r t = r.state_is ∙ ap state_after (sym t.items_are) ∙ ap (λ (tags : List Tag). fold after_tag start tags) t.spells.tags
    ∙ tree_state t.tree

pub lacks_infrastructure : (bytes : List ℕ) (state : State) (root : Bool) → IsUtf8 bytes → IsReadThrough bytes state root → root ≡ true → state.stack ≡ [] →
    state.reached ≡ false → LacksInfrastructure bytes (length bytes)
lacks_infrastructure bytes state root utf8 r rooted closed reached =
    let t = read_tree bytes state root r rooted closed in
    let l = lacking t.tree t.named (sym (ap (λ (s : State). s.reached) (state_is bytes state root r t)) ∙ reached) in
    record {
      utf8 = utf8;
      tree = t.tree;
      spells = t.spells;
      sound = subst (AreInPlace []) (sym t.items_are) r.sound;
      named = l.named;
      lacks = l.lacks;
      end = refl;
    }

pub are_rows : (bytes : List ℕ) (state : State) (root : Bool) → IsReadThrough bytes state root → root ≡ true → state.stack ≡ [] → AreRows bytes state.rows
are_rows bytes state root r rooted closed =
    let t = read_tree bytes state root r rooted closed in
    record { tree = t.tree; spells = t.spells; found = ap (λ (s : State). s.rows) (state_is bytes state root r t) }

pub are_signals : (bytes : List ℕ) (state : State) (root : Bool) (marks : Marks) → HasMarks bytes state root marks → root ≡ true → state.stack ≡ [] →
    AreSignals bytes marks.signals
are_signals bytes state root marks m rooted closed =
    let t = read_tree bytes state root m.through rooted closed in
    let found : marks ≡ marked (0 + tracks_from Outside (root_of t.tree)) ([] ++ signals_of t.tree) =
    m.marks_are ∙ (ap marks_after (sym t.items_are) ∙ (ap (λ (tags : List Tag). (fold after_both (start, no_marks) tags).1) t.spells.tags
    ∙ tree_marks t.tree)) in
    record { tree = t.tree; spells = t.spells; found = ap (λ (k : Marks). k.signals) found }
