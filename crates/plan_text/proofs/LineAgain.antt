-- A text begins with one line that is due, at most.
use Rattle.std.proofs.Common.{◌≡◌, ℕ, Bool, true, false, List, [], ◌∷◌, ◌++◌, map, None, Some, get_or, refl, sym, ◌∙◌, ap, subst, arith}
use Rattle.std.specs.Prelude.{codes, flat_map}
use Rattle.std.specs.declared.option.Option.{Option}
use Rattle.std.specs.Fmt.{decimal}
use Rattle.std.specs.List.{AllByRecursion}
use Rattle.std.proofs.lemmas.List.{append_cancel_left}
use Rattle.plan_core.specs.declared.point.Point.{Point}
use Rattle.plan_core.specs.declared.criterion.Values.{Values}
use Rattle.plan_core.specs.declared.criterion.Criterion.{Criterion}
use Rattle.plan_core.specs.Grid.{GridSize, grid_with}
use Rattle.outside_io.specs.Fields.{IsOneField}
use Rattle.plan_write.specs.declared.edition.Edition.{Edition}
use Rattle.plan_write.specs.declared.edition.Edition.TheVariants.{First, Second}
use Rattle.plan_write.specs.declared.ending.Ending.{Ending}
use Rattle.plan_write.specs.declared.ending.Ending.TheVariants.{Best, NoDrawing, Conflicts, Room}
use Rattle.plan_write.specs.SheetLine.{SheetLine, Title, GridLine, OrderLine, NodesLine, NodeLine, EdgesLine, EdgeLine, ValuesLine, EndLine, coordinates}
use Rattle.plan_write.specs.SheetLine.{field_told, other_fields, text_of_line, HasForm}
use Rattle.plan_text.specs.SheetFaults.{LineDue, TitleDue, GridDue, OrderDue, BodyDue, NodeDue, EdgesDue, EdgeDue, ValuesDue, EndDue, NoneDue, IsToldIn, IsDue}
use Rattle.plan_text.proofs.FieldLemmas.{of_numbers, fields_once, decimals_are_one, decimals_once, name_is_one, both_one}
use Rattle.plan_text.proofs.MileageLemmas.{told_is_one}
use Rattle.plan_text.proofs.LineOnce.{numbers_once, criteria_once, same_told, points_once}

-- two lines are one, and so is what stands behind them
pub record SameLine (l m : SheetLine) (q r : List ℕ) : Type 0 where
  pub line : l ≡ m
  pub behind : q ≡ r

-- two lines of one kind, of which one text is the front
abbrev pub IsOnce : SheetLine → SheetLine → Type 0
IsOnce l m = (q r : List ℕ) → HasForm l → HasForm m → text_of_line l ++ q ≡ text_of_line m ++ r → SameLine l m q r

-- ---- numbers in their places

two_once : (a b c d : ℕ) → a ∷ b ∷ [] ≡ c ∷ d ∷ [] → (a ≡ c) × (b ≡ d)
two_once a b c d e = (cc, cc)

four_once : (a b c d e f g h : ℕ) → a ∷ b ∷ c ∷ d ∷ [] ≡ e ∷ f ∷ g ∷ h ∷ [] → (a ≡ e) × (b ≡ f) × (c ≡ g) × (d ≡ h)
four_once a b c d e f g h s = (cc, cc, cc, cc)

three_once : (a b c d e f : ℕ) (xs ys : List ℕ) → a ∷ b ∷ c ∷ xs ≡ d ∷ e ∷ f ∷ ys → (a ≡ d) × (b ≡ e) × (c ≡ f) × (xs ≡ ys)
three_once a b c d e f xs ys s = (cc, cc, cc, cc)

same_point : (p q : Point) → p.x ≡ q.x → p.y ≡ q.y → p ≡ q
same_point p q e f = ap (λ (v : ℕ). record { x = v; y = p.y }) e ∙ ap (λ (v : ℕ). record { x = q.x; y = v }) f

-- ---- each kind of line

title_once : (a b : Edition) → IsOnce (Title a) (Title b)
title_once First First q r h k e = record { line = refl; behind = append_cancel_left (text_of_line (Title First)) q r e }
title_once Second Second q r h k e = record { line = refl; behind = append_cancel_left (text_of_line (Title Second)) q r e }
title_once First Second q r h k e = let z : 49 ≡ 50 = ap (λ (t : List ℕ). get_or t 9 0) e in absurd (omega (arith, z))
title_once Second First q r h k e = let z : 50 ≡ 49 = ap (λ (t : List ℕ). get_or t 9 0) e in absurd (omega (arith, z))

grid_once : (edition : Edition) (a b : GridSize) → IsOnce (GridLine edition a) (GridLine edition b)
grid_once First a b q r h k e =
    let same = numbers_once (codes "grid") (a.width ∷ a.height ∷ []) (b.width ∷ b.height ∷ []) q r h.0 k.0 e in
    let two = two_once a.width a.height b.width b.height same.values in
    let least : a.least ≡ b.least = h.1 ∙ sym k.1 in
    let grid : grid_with a.width a.height a.least ≡ grid_with b.width b.height b.least = cc in
    record { line = ap (λ (g : GridSize). GridLine First g) grid; behind = same.behind }
grid_once Second a b q r h k e =
    let same = numbers_once (codes "grid") (a.width ∷ a.height ∷ a.least ∷ []) (b.width ∷ b.height ∷ b.least ∷ []) q r h.0 k.0 e in
    let three = three_once a.width a.height a.least b.width b.height b.least [] [] same.values in
    let grid : grid_with a.width a.height a.least ≡ grid_with b.width b.height b.least = cc in
    record { line = ap (λ (g : GridSize). GridLine Second g) grid; behind = same.behind }

order_once : (a b : List Criterion) → IsOnce (OrderLine a) (OrderLine b)
order_once a b q r h k e =
    let same = criteria_once (codes "order") a b q r e in
    record { line = ap OrderLine same.values; behind = same.behind }

one_once : (a b : ℕ) → a ∷ [] ≡ b ∷ [] → a ≡ b
one_once a b e = cc

nodes_once : (a b : ℕ) → IsOnce (NodesLine a) (NodesLine b)
nodes_once a b q r h k e =
    let same = numbers_once (codes "nodes") (a ∷ []) (b ∷ []) q r (h, tt) (k, tt) e in
    record { line = ap NodesLine (one_once a b same.values); behind = same.behind }

edges_once : (a b : ℕ) → IsOnce (EdgesLine a) (EdgesLine b)
edges_once a b q r h k e =
    let same = numbers_once (codes "edges") (a ∷ []) (b ∷ []) q r (h, tt) (k, tt) e in
    record { line = ap EdgesLine (one_once a b same.values); behind = same.behind }

-- the fields of two nodes' lines
four_fields : (a b c d e f g h : List ℕ) (xs ys : List (List ℕ)) → a ∷ b ∷ c ∷ d ∷ xs ≡ e ∷ f ∷ g ∷ h ∷ ys → (a ≡ e) × (b ≡ f) × (c ≡ g) × (d ≡ h) × (xs ≡ ys)
four_fields a b c d e f g h xs ys s = (cc, cc, cc, cc, cc)

told_once : (x y : Option (List ℕ)) → field_told x ≡ field_told y → x ≡ y
told_once None None e = refl
told_once (Some t) (Some u) e = let field : t ≡ u = cc in ap (λ (f : List ℕ). Some f) field
told_once None (Some u) e = cc
told_once (Some t) None e = cc

node_fields_are_one : (n : ℕ) (name : List ℕ) (p : Point) (mileage : Option (List ℕ)) → HasForm (NodeLine n name p mileage) →
    AllByRecursion IsOneField (other_fields (NodeLine n name p mileage))
node_fields_are_one n name p mileage h = (
  of_numbers.one n h.1.0,
  (
    h.0.one,
    (
      of_numbers.one p.x h.1.1.0,
      (of_numbers.one p.y h.1.1.1.0, told_is_one mileage h.2),
    ),
  ),
)

node_once : (n m : ℕ) (name other : List ℕ) (a b : Point) (x y : Option (List ℕ)) → IsOnce (NodeLine n name a x) (NodeLine m other b y)
node_once n m name other a b x y q r h k e =
    let same = fields_once (codes "node") (other_fields (NodeLine n name a x)) (other_fields (NodeLine m other b y)) q r (node_fields_are_one n name a x h)
    (node_fields_are_one m other b y k) e in
    let four = four_fields (decimal n) name (decimal a.x) (decimal a.y) (decimal m) other (decimal b.x) (decimal b.y) (field_told x) (field_told y)
    same.fields_are in
    let point = same_point a b (of_numbers.once a.x b.x h.1.1.0 k.1.1.0 four.2) (of_numbers.once a.y b.y h.1.1.1.0 k.1.1.1.0 four.3) in
    record {
      line = ap (λ (i : ℕ). NodeLine i name a x) (of_numbers.once n m h.1.0 k.1.0 four.0)
          ∙ ap (λ (t : List ℕ). NodeLine m t a x) four.1
          ∙ ap (λ (p : Point). NodeLine m other p x) point
          ∙ ap (λ (t : Option (List ℕ)). NodeLine m other b t) (told_once x y four.4);
      behind = same.behind;
    }

edge_fields_are_one : (e : ℕ) (track : Option (List ℕ)) (west east : ℕ) (ps : List Point) → HasForm (EdgeLine e track west east ps) →
    AllByRecursion IsOneField (other_fields (EdgeLine e track west east ps))
edge_fields_are_one e track west east ps h = (
  of_numbers.one e h.1.0,
  both_one (field_told track) (map decimal (west ∷ east ∷ flat_map coordinates ps)) (name_is_one track h.2)
      (decimals_are_one (west ∷ east ∷ flat_map coordinates ps) h.1.1),
)

edge_once : (edition : Edition) (e f west east from to : ℕ) (x y : Option (List ℕ)) (ps qs : List Point) → IsToldIn edition x → IsToldIn edition y →
    IsOnce (EdgeLine e x west east ps) (EdgeLine f y from to qs)
edge_once edition e f west east from to x y ps qs tx ty q r h k s =
    let same = fields_once (codes "edge") (other_fields (EdgeLine e x west east ps)) (other_fields (EdgeLine f y from to qs)) q r
    (edge_fields_are_one e x west east ps h) (edge_fields_are_one f y from to qs k) s in
    let parts = same_told edition x y tx ty (decimal e) (decimal f) (map decimal (west ∷ east ∷ flat_map coordinates ps))
    (map decimal (from ∷ to ∷ flat_map coordinates qs)) same.fields_are in
    let numbers = decimals_once (west ∷ east ∷ flat_map coordinates ps) (from ∷ to ∷ flat_map coordinates qs) h.1.1 k.1.1 parts.others in
    let two = first_two_once west east from to (flat_map coordinates ps) (flat_map coordinates qs) numbers in
    record {
      line = ap (λ (i : ℕ). EdgeLine i x west east ps) (of_numbers.once e f h.1.0 k.1.0 parts.number)
          ∙ ap (λ (t : Option (List ℕ)). EdgeLine f t west east ps) parts.told
          ∙ ap (λ (i : ℕ). EdgeLine f y i east ps) two.0
          ∙ ap (λ (i : ℕ). EdgeLine f y from i ps) two.1
          ∙ ap (λ (l : List Point). EdgeLine f y from to l) (points_once ps qs two.2);
      behind = same.behind;
    }
  where
    first_two_once : (a b d e : ℕ) (xs ys : List ℕ) → a ∷ b ∷ xs ≡ d ∷ e ∷ ys → (a ≡ d) × (b ≡ e) × (xs ≡ ys)
    first_two_once a b d e xs ys s = (cc, cc, cc)

values : ℕ → ℕ → ℕ → ℕ → Values
values h b d w = record { height = h; bends = b; diagonal = d; width = w }

same_values : (a b : Values) → a.height ≡ b.height → a.bends ≡ b.bends → a.diagonal ≡ b.diagonal → a.width ≡ b.width → a ≡ b
unfolding values
same_values a b h e d w =
    ap (λ (n : ℕ). values n a.bends a.diagonal a.width) h
    ∙ ap (λ (n : ℕ). values b.height n a.diagonal a.width) e
    ∙ ap (λ (n : ℕ). values b.height b.bends n a.width) d
    ∙ ap (λ (n : ℕ). values b.height b.bends b.diagonal n) w

values_once : (a b : Values) → IsOnce (ValuesLine a) (ValuesLine b)
values_once a b q r h k e =
    let same = numbers_once (codes "values") (a.height ∷ a.bends ∷ a.diagonal ∷ a.width ∷ []) (b.height ∷ b.bends ∷ b.diagonal ∷ b.width ∷ []) q r h k e in
    let four = four_once a.height a.bends a.diagonal a.width b.height b.bends b.diagonal b.width same.values in
    record { line = ap ValuesLine (same_values a b four.0 four.1 four.2 four.3); behind = same.behind }

-- ---- the ending

-- the fifth byte tells endings of two kinds apart
end_once : (e f : Ending) → IsOnce (EndLine e) (EndLine f)
end_once Best Best q r h k e = record { line = refl; behind = append_cancel_left (text_of_line (EndLine Best)) q r e }
end_once NoDrawing NoDrawing q r h k e = record { line = refl; behind = append_cancel_left (text_of_line (EndLine NoDrawing)) q r e }
end_once (Conflicts n) (Conflicts m) q r h k e =
    let same = numbers_once (codes "end conflicts") (n ∷ []) (m ∷ []) q r (h, tt) (k, tt) e in
    record { line = ap (λ (i : ℕ). EndLine (Conflicts i)) (one_once n m same.values); behind = same.behind }
end_once (Room n) (Room m) q r h k e =
    let same = numbers_once (codes "end room") (n ∷ []) (m ∷ []) q r (h, tt) (k, tt) e in
    record { line = ap (λ (i : ℕ). EndLine (Room i)) (one_once n m same.values); behind = same.behind }
end_once a b q r h k e = let z : get_or (text_of_line (EndLine a) ++ q) 4 0 ≡ get_or (text_of_line (EndLine b) ++ r) 4 0 = ap (λ (t : List ℕ). get_or t 4 0)
    e in absurd (omega arith)

-- ---- what is due

no_count_at_end : (n : ℕ) (e : Ending) (q r : List ℕ) → text_of_line (NodesLine n) ++ q ≡ text_of_line (EndLine e) ++ r → ⊥
no_count_at_end n e q r s = let z : 110 ≡ 101 = ap (λ (t : List ℕ). get_or t 0 0) s in absurd (omega (arith, z))

-- of two lines that are due, of which one text is the front
abbrev pub IsOnceDue : LineDue → Type 0
IsOnceDue due = (l m : SheetLine) → IsDue due l → IsDue due m → IsOnce l m

title_due : (needs_drawing : Bool) → IsOnceDue (TitleDue needs_drawing)
title_due d (Title a) (Title b) is also = title_once a b
title_due d (Title a) m is also = absurd also
title_due d l m is also = absurd is

grid_due : (edition : Edition) (needs_drawing : Bool) → IsOnceDue (GridDue edition needs_drawing)
grid_due edition d (GridLine x a) (GridLine y b) is also =
    subst (λ (o : Edition). IsOnce (GridLine o a) (GridLine y b)) (sym is) (subst (λ (o : Edition). IsOnce (GridLine edition a) (GridLine o b)) (sym also)
    (grid_once edition a b))
grid_due edition d (GridLine x a) m is also = absurd also
grid_due edition d l m is also = absurd is

order_due : (edition : Edition) (needs_drawing : Bool) → IsOnceDue (OrderDue edition needs_drawing)
order_due edition d (OrderLine a) (OrderLine b) is also = order_once a b
order_due edition d (OrderLine a) m is also = absurd also
order_due edition d l m is also = absurd is

body_due : (edition : Edition) (needs_drawing : Bool) → IsOnceDue (BodyDue edition needs_drawing)
body_due edition true (NodesLine a) (NodesLine b) is also = nodes_once a b
body_due edition true (NodesLine a) m is also = absurd also
body_due edition true l m is also = absurd is
body_due edition false (NodesLine a) (NodesLine b) is also = nodes_once a b
body_due edition false (NodesLine a) (EndLine f) is also = λ q r h k e. absurd (no_count_at_end a f q r e)
body_due edition false (NodesLine a) m is also = absurd also
body_due edition false (EndLine e) (NodesLine b) is also = λ q r h k s. absurd (no_count_at_end b e r q (sym s))
body_due edition false (EndLine e) (EndLine f) is also = end_once e f
body_due edition false (EndLine e) m is also = absurd also
body_due edition false l m is also = absurd is

node_due : (edition : Edition) (n : ℕ) → IsOnceDue (NodeDue edition n)
node_due edition n (NodeLine a name p x) (NodeLine b other s y) is also = node_once a b name other p s x y
node_due edition n (NodeLine a name p x) m is also = absurd also
node_due edition n l m is also = absurd is

edges_due : (edition : Edition) → IsOnceDue (EdgesDue edition)
edges_due edition (EdgesLine a) (EdgesLine b) is also = edges_once a b
edges_due edition (EdgesLine a) m is also = absurd also
edges_due edition l m is also = absurd is

edge_due : (edition : Edition) (e : ℕ) → IsOnceDue (EdgeDue edition e)
edge_due edition e (EdgeLine a x west east ps) (EdgeLine b y from to qs) is also = edge_once edition a b west east from to x y ps qs is also
edge_due edition e (EdgeLine a x west east ps) m is also = absurd also
edge_due edition e l m is also = absurd is

values_due : IsOnceDue ValuesDue
values_due (ValuesLine a) (ValuesLine b) is also = values_once a b
values_due (ValuesLine a) m is also = absurd also
values_due l m is also = absurd is

end_due : IsOnceDue EndDue
end_due (EndLine e) (EndLine f) is also = end_once e f
end_due (EndLine e) m is also = absurd also
end_due l m is also = absurd is

pub none_due : (l : SheetLine) → IsDue NoneDue l → ⊥
none_due (Title edition) is = is
none_due l is = is

pub once_due : (due : LineDue) → IsOnceDue due
once_due (TitleDue needs_drawing) = title_due needs_drawing
once_due (GridDue edition needs_drawing) = grid_due edition needs_drawing
once_due (OrderDue edition needs_drawing) = order_due edition needs_drawing
once_due (BodyDue edition needs_drawing) = body_due edition needs_drawing
once_due (NodeDue edition n) = node_due edition n
once_due (EdgesDue edition) = edges_due edition
once_due (EdgeDue edition e) = edge_due edition e
once_due ValuesDue = values_due
once_due EndDue = end_due
once_due NoneDue = λ l m is also. absurd (none_due l is)
