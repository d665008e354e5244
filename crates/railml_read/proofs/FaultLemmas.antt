-- A text has one fault at most, and spells one tree at most.
use Rattle.std.proofs.Common.{◌≡◌, ℕ, ◌<◌, Bool, true, List, [], ◌∷◌, ◌++◌, length, drop, refl, sym, ap, ◌∙◌, subst, inl, inr, append_assoc, arith}
use Rattle.std.specs.Prelude.{fold, IsUtf8}
use Rattle.std.specs.Str.{IsValidUpTo}
use Rattle.std.proofs.lemmas.List.{take_all, append-nil}
use Rattle.railml_text.specs.declared.fault.TextWhat.{TextWhat}
use Rattle.railml_text.specs.declared.fault.TextWhat.TheVariants.{NotUtf8, Unfinished, NoInfrastructure}
use Rattle.railml_text.specs.Faults.{number_of, HasSoundItem}
use Rattle.railml_text.specs.Cutting.{Placed, IsCutInto, start_of, is_first}
use Rattle.railml_read.specs.declared.contexts.Context.TheVariants.{Outside}
use Rattle.railml_read.proofs.RowLemmas.{reached_in}
use Rattle.railml_read.specs.Tree.{Elements, none, element, XmlTree, root_of, Tag, tags_of}
use Rattle.railml_read.specs.Places.{Role, names_after, role_of, role_of_shape, tags_in, open_names, has_root, IsMisplaced, AreInPlace}
use Rattle.railml_read.specs.Document.{SpellsTree, HasFaultBehind, IsFirstTextFault, EndsOpen, LacksInfrastructure, IsTextFault}
use Rattle.railml_read.specs.Progress.{State}
use Rattle.railml_read.specs.Passing.{IsReadThrough}
use Rattle.railml_text.proofs.OneItem.{one_item}
use Rattle.railml_text.proofs.CutLemmas.{first_after, first_after-is_first, Stops-end, one_cut, same_number}
use Rattle.railml_read.proofs.TreeLemmas.{one_spelled, left_open}
use Rattle.railml_read.proofs.CutLemmas.{GoesOn, compared}
use Rattle.railml_read.proofs.KeptLemmas.{same_role}
use Rattle.railml_read.proofs.EndLemmas.{IsTreeOf, read_tree, state_is, not_lacking, rooted_tags}

-- ---- items that are sound and in place, and a fault behind some of them

in_place : (before items : List Placed) (item : Placed) (more : List Placed) → AreInPlace before (items ++ item ∷ more) → (what : TextWhat) →
    IsMisplaced (open_names (before ++ items)) (has_root (before ++ items)) (role_of item.kind) what → ⊥
in_place before [] item more h what m = h.0 what (rw (append-nil before) at m)
in_place before (i ∷ items) item more h what m = in_place (before ++ i ∷ []) items item more h.1 what (rw (append_assoc before (i ∷ []) items) m)

-- an item that is sound and in place has no fault
no_fault : (items : List Placed) (rest : List ℕ) (others : List Placed) (last : List ℕ) (what : TextWhat) → GoesOn true items rest others last →
    AreInPlace [] others → HasFaultBehind items rest what → ⊥
no_fault items rest others last what g sound fault =
    let item : HasSoundItem (is_first items) rest g.item.kind g.after = subst (λ (b : Bool). HasSoundItem b rest g.item.kind g.after)
    (first_after-is_first items) g.sound in
    elim fault [
      | inl own ↦ item.sound what own
      | inr m ↦
          let shape = (one_item (is_first items) rest m.shape item.shape m.after g.after m.item item.item).0 in
          let role : role_of_shape m.shape ≡ role_of g.item.kind = ap role_of_shape shape ∙ same_role item.shape g.item.kind item.kind_is in
          in_place [] items g.item g.more (subst (AreInPlace []) g.are sound) what
          (subst (λ (r : Role). IsMisplaced (open_names items) (has_root items) r what) role m.misplaced)
    ]

-- nothing goes on where nothing is left
ended : (items others : List Placed) (last : List ℕ) → GoesOn true items [] others last → ⊥
ended items others last g = Stops-end (first_after true items) g.item.kind g.after g.sound

pub one_tree : (bytes : List ℕ) (a b : XmlTree) → SpellsTree bytes a → SpellsTree bytes b → a ≡ b
one_tree bytes a b h k =
    let items : h.items ≡ k.items = one_cut bytes h.items k.items h.cut k.cut in
    let same : element a.at a.name a.attrs a.children none ≡ element b.at b.name b.attrs b.children none = one_spelled (root_of a) (root_of b)
    (sym h.tags ∙ ap tags_in items ∙ k.tags) in
    ap tree_in same
  where
    tree_in : Elements → XmlTree
    tree_in none = a
    tree_in (element at name attrs children after) = record { at = at; name = name; attrs = attrs; children = children }

-- ---- one fault

-- the four forms that a fault of a text has
pub data Form (bytes : List ℕ) (what : TextWhat) (at : ℕ) : Type 0 where
  no_text : what ≡ NotUtf8 → IsValidUpTo bytes at → Form bytes what at
  first_fault : IsFirstTextFault bytes what at → Form bytes what at
  open_end : what ≡ Unfinished → EndsOpen bytes at → Form bytes what at
  lacks : what ≡ NoInfrastructure → LacksInfrastructure bytes at → Form bytes what at

form_of : (bytes : List ℕ) (what : TextWhat) (at : ℕ) → IsTextFault bytes what at → Form bytes what at
form_of bytes NotUtf8 at f = no_text refl f
form_of bytes Unfinished at f = elim f [ inl one ↦ first_fault one | inr one ↦ open_end refl one ]
form_of bytes NoInfrastructure at f = lacks refl f
form_of bytes what at f = first_fault f

no_utf8 : (bytes : List ℕ) (at : ℕ) → IsValidUpTo bytes at → IsUtf8 bytes → ⊥
no_utf8 bytes at v utf8 = v.longest (length bytes) v.short (rw (take_all (length bytes) bytes (omega arith)) utf8)

one_place : (bytes : List ℕ) (a b : ℕ) → IsValidUpTo bytes a → IsValidUpTo bytes b → a ≡ b
one_place bytes a b v w =
    let p : a < b → ⊥ = λ lt. v.longest b lt w.front in
    let q : b < a → ⊥ = λ lt. w.longest a lt v.front in
    omega arith

-- what is complete has no first fault
complete : (bytes : List ℕ) (items : List Placed) (what : TextWhat) (at : ℕ) → IsCutInto bytes items → AreInPlace [] items → IsFirstTextFault bytes what at → ⊥
complete bytes items what at cut sound f = elim (compared true (start_of bytes) (drop (start_of bytes) bytes) f.before f.rest items [] f.comes_to.cut cut.cut) [
  | inl same ↦ f.some same.1
  | inr d ↦ elim d [
    | inl g ↦ no_fault f.before f.rest items [] what g sound f.fault
    | inr g ↦ ended items f.before f.rest g
  ]
]

least_one : (before : List Placed) (rest : List ℕ) (a b : TextWhat) → HasFaultBehind before rest a →
    ((other : TextWhat) → number_of other < number_of a → HasFaultBehind before rest other → ⊥) → HasFaultBehind before rest b →
    ((other : TextWhat) → number_of other < number_of b → HasFaultBehind before rest other → ⊥) → a ≡ b
least_one before rest a b h least k others =
    let p : number_of b < number_of a → ⊥ = λ lt. least b lt k in
    let q : number_of a < number_of b → ⊥ = λ lt. others a lt h in
    same_number a b (omega arith)

pub first_ones : (bytes : List ℕ) (a b : TextWhat) (m n : ℕ) → IsFirstTextFault bytes a m → IsFirstTextFault bytes b n → (a ≡ b) × (m ≡ n)
first_ones bytes a b m n f g =
    elim (compared true (start_of bytes) (drop (start_of bytes) bytes) f.before f.rest g.before g.rest f.comes_to.cut g.comes_to.cut) [
      | inl same ↦
          let back : (what : TextWhat) → HasFaultBehind g.before g.rest what →
          HasFaultBehind f.before f.rest what = λ what h. subst (λ (rest : List ℕ). HasFaultBehind f.before rest what) (sym same.1)
          (subst (λ (items : List Placed). HasFaultBehind items g.rest what) (sym same.0) h) in
          let forth : (what : TextWhat) → HasFaultBehind f.before f.rest what →
          HasFaultBehind g.before g.rest what = λ what h. subst (λ (rest : List ℕ). HasFaultBehind g.before rest what) same.1
          (subst (λ (items : List Placed). HasFaultBehind items f.rest what) same.0 h) in (
            least_one f.before f.rest a b f.fault f.least (back b g.fault) (λ other lt h. g.least other lt (forth other h)),
            omega
                (arith, f.comes_to.place, g.comes_to.place, ap length same.1),
          )
      | inr d ↦ elim d [
        | inl on ↦ absurd (no_fault f.before f.rest g.before g.rest a on g.sound f.fault)
        | inr on ↦ absurd (no_fault g.before g.rest f.before f.rest b on f.sound g.fault)
      ]
    ]

-- the items of a tree leave no element open
tree_closed : (tree : XmlTree) → fold names_after [] (tags_of (root_of tree)) ≡ []
tree_closed tree = ap (λ (t : List Tag). fold names_after [] t) (sym (append-nil (tags_of (root_of tree)))) ∙ left_open (root_of tree) [] []

closed_and_open : (bytes : List ℕ) (tree : XmlTree) (at : ℕ) → EndsOpen bytes at → SpellsTree bytes tree → ⊥
closed_and_open bytes tree at f spells =
    let items : f.items ≡ spells.items = one_cut bytes f.items spells.items f.cut spells.cut in
    let tags : tags_in f.items ≡ tags_of (root_of tree) = ap tags_in items ∙ spells.tags in
    elim f.is_open [
      | inl no_root ↦ rooted_tags f.items tree tags no_root
      | inr some ↦ some (ap (λ (t : List Tag). fold names_after [] t) tags ∙ tree_closed tree)
    ]

-- a text has one fault at most
pub one_fault : (bytes : List ℕ) (a b : TextWhat) (m n : ℕ) → IsTextFault bytes a m → IsTextFault bytes b n → (a ≡ b) × (m ≡ n)
one_fault bytes a b m n f g = one_form a b m n (form_of bytes a m f) (form_of bytes b n g)
  where
    one_form : (a b : TextWhat) (m n : ℕ) → Form bytes a m → Form bytes b n → (a ≡ b) × (m ≡ n)
    one_form a b m n (no_text e v) (no_text d w) = (e ∙ sym d, one_place bytes m n v w)
    one_form a b m n (no_text e v) (first_fault g) = absurd (no_utf8 bytes m v g.utf8)
    one_form a b m n (no_text e v) (open_end d g) = absurd (no_utf8 bytes m v g.utf8)
    one_form a b m n (no_text e v) (lacks d g) = absurd (no_utf8 bytes m v g.utf8)
    one_form a b m n (first_fault f) (no_text d w) = absurd (no_utf8 bytes n w f.utf8)
    one_form a b m n (first_fault f) (first_fault g) = first_ones bytes a b m n f g
    one_form a b m n (first_fault f) (open_end d g) = absurd (complete bytes g.items a m g.cut g.sound f)
    one_form a b m n (first_fault f) (lacks d g) = absurd (complete bytes g.spells.items a m g.spells.cut g.sound f)
    one_form a b m n (open_end e f) (no_text d w) = absurd (no_utf8 bytes n w f.utf8)
    one_form a b m n (open_end e f) (first_fault g) = absurd (complete bytes f.items b n f.cut f.sound g)
    one_form a b m n (open_end e f) (open_end d g) = (e ∙ sym d, f.end ∙ sym g.end)
    one_form a b m n (open_end e f) (lacks d g) = absurd (closed_and_open bytes g.tree m f g.spells)
    one_form a b m n (lacks e f) (no_text d w) = absurd (no_utf8 bytes n w f.utf8)
    one_form a b m n (lacks e f) (first_fault g) = absurd (complete bytes f.spells.items b n f.spells.cut f.sound g)
    one_form a b m n (lacks e f) (open_end d g) = absurd (closed_and_open bytes f.tree n g f.spells)
    one_form a b m n (lacks e f) (lacks d g) = (e ∙ sym d, f.end ∙ sym g.end)

-- a text that was read through to a tree with an infrastructure has no fault
pub no_text_fault : (bytes : List ℕ) (state : State) (root : Bool) (r : IsReadThrough bytes state root) → IsUtf8 bytes → root ≡ true → state.stack ≡ [] →
    state.reached ≡ true → (what : TextWhat) (at : ℕ) → IsTextFault bytes what at → ⊥
no_text_fault bytes state root r utf8 rooted closed reached what at fault = none (form_of bytes what at fault)
  where
    tree : IsTreeOf bytes r.items
    tree = read_tree bytes state root r rooted closed

    none : Form bytes what at → ⊥
    none (no_text e v) = no_utf8 bytes at v utf8
    none (first_fault f) = complete bytes r.items what at r.cut r.sound f
    none (open_end e f) = closed_and_open bytes tree.tree at f tree.spells
    none (lacks e f) =
        let same : tree.tree ≡ f.tree = one_tree bytes tree.tree f.tree tree.spells f.spells in
        not_lacking f.tree (sym (ap (λ (t : XmlTree). reached_in Outside (root_of t)) same)
        ∙ sym (ap (λ (s : State). s.reached) (state_is bytes state root r tree)) ∙ reached) (record { named = f.named; lacks = f.lacks })
