-- Which line begins a text, and points by their coordinates.
use Rattle.std.proofs.Common.{◌≡◌, ℕ, Bool, List, [], ◌∷◌, ◌++◌, map, None, Some, refl, sym, ◌∙◌, ap, subst}
use Rattle.std.specs.Prelude.{flat_map}
use Rattle.std.specs.declared.option.Option.{Option}
use Rattle.std.specs.Fmt.{decimal}
use Rattle.std.proofs.lemmas.List.{append_cancel_left, append-nil}
use Rattle.plan_core.specs.declared.point.Point.{Point}
use Rattle.plan_core.specs.declared.criterion.Values.{Values}
use Rattle.plan_core.specs.declared.criterion.Criterion.{Criterion}
use Rattle.plan_core.specs.Grid.{GridSize}
use Rattle.outside_io.specs.Fields.{line_text}
use Rattle.outside_io.specs.Criteria.{criterion_word}
use Rattle.plan_write.specs.declared.edition.Edition.{Edition}
use Rattle.plan_write.specs.declared.edition.Edition.TheVariants.{First, Second}
use Rattle.plan_write.specs.SheetLine.{SheetLine, GridLine, OrderLine, NodeLine, EdgeLine, ValuesLine, coordinates, text_of_line, field_told, AreSmall, HasForm}
use Rattle.plan_text.specs.SheetFaults.{GridDue, OrderDue, NodeDue, EdgeDue, ValuesDue, IsToldIn, BeginsWithLine}
use Rattle.plan_text.proofs.FieldLemmas.{SameWords, words, words_once, of_numbers, of_criteria, any_criteria, line_front}

-- ---- lines of numbers and of criteria

pub numbers_once : (front : List ℕ) (ns ms : List ℕ) (q r : List ℕ) → AreSmall ns → AreSmall ms →
    line_text front (map decimal ns) ++ q ≡ line_text front (map decimal ms) ++ r → SameWords ns ms q r
numbers_once front ns ms q r h k e =
    words_once of_numbers ns ms q r h k
    (append_cancel_left front (words decimal ns ++ 10 ∷ q) (words decimal ms ++ 10 ∷ r)
    (sym (line_front front (map decimal ns) q) ∙ e ∙ line_front front (map decimal ms) r))

pub criteria_once : (front : List ℕ) (cs ds : List Criterion) (q r : List ℕ) →
    line_text front (map criterion_word cs) ++ q ≡ line_text front (map criterion_word ds) ++ r → SameWords cs ds q r
criteria_once front cs ds q r e =
    words_once of_criteria cs ds q r (any_criteria cs) (any_criteria ds)
    (append_cancel_left front (words criterion_word cs ++ 10 ∷ q) (words criterion_word ds ++ 10 ∷ r)
    (sym (line_front front (map criterion_word cs) q) ∙ e ∙ line_front front (map criterion_word ds) r))

-- ---- which line begins the text

pub record TellsGrid (edition : Edition) (text : List ℕ) : Type 0 where
  pub grid : GridSize
  pub form : HasForm (GridLine edition grid)
  pub behind : List ℕ
  pub spelled : text ≡ text_of_line (GridLine edition grid) ++ behind

pub tells_grid : (edition : Edition) (needs_drawing : Bool) (text : List ℕ) (line : SheetLine) → BeginsWithLine (GridDue edition needs_drawing) text line →
    TellsGrid edition text
tells_grid edition needs_drawing text (GridLine other grid) b = record {
  grid = grid;
  form = subst (λ (o : Edition). HasForm (GridLine o grid)) b.is_due b.form;
  behind = b.behind;
  spelled = b.spelled ∙ ap (λ (o : Edition). text_of_line (GridLine o grid) ++ b.behind) b.is_due;
}
tells_grid edition needs_drawing text line b = absurd b.is_due

pub record TellsOrder (text : List ℕ) : Type 0 where
  pub order : List Criterion
  pub form : HasForm (OrderLine order)
  pub behind : List ℕ
  pub spelled : text ≡ text_of_line (OrderLine order) ++ behind

pub tells_order : (edition : Edition) (needs_drawing : Bool) (text : List ℕ) (line : SheetLine) → BeginsWithLine (OrderDue edition needs_drawing) text line →
    TellsOrder text
tells_order edition needs_drawing text (OrderLine order) b = record { order = order; form = b.form; behind = b.behind; spelled = b.spelled }
tells_order edition needs_drawing text line b = absurd b.is_due

pub record TellsNode (edition : Edition) (text : List ℕ) : Type 0 where
  pub number : ℕ
  pub name : List ℕ
  pub place : Point
  pub mileage : Option (List ℕ)
  pub told : IsToldIn edition mileage
  pub form : HasForm (NodeLine number name place mileage)
  pub behind : List ℕ
  pub spelled : text ≡ text_of_line (NodeLine number name place mileage) ++ behind

pub tells_node : (edition : Edition) (text : List ℕ) (n : ℕ) (line : SheetLine) → BeginsWithLine (NodeDue edition n) text line → TellsNode edition text
tells_node edition text n (NodeLine number name place mileage) b = record {
  number = number;
  name = name;
  place = place;
  mileage = mileage;
  told = b.is_due;
  form = b.form;
  behind = b.behind;
  spelled = b.spelled;
}
tells_node edition text n line b = absurd b.is_due

pub record TellsEdge (edition : Edition) (text : List ℕ) : Type 0 where
  pub number : ℕ
  pub track : Option (List ℕ)
  pub west : ℕ
  pub east : ℕ
  pub points : List Point
  pub told : IsToldIn edition track
  pub form : HasForm (EdgeLine number track west east points)
  pub behind : List ℕ
  pub spelled : text ≡ text_of_line (EdgeLine number track west east points) ++ behind

pub tells_edge : (edition : Edition) (text : List ℕ) (e : ℕ) (line : SheetLine) → BeginsWithLine (EdgeDue edition e) text line → TellsEdge edition text
tells_edge edition text e (EdgeLine number track west east points) b = record {
  number = number;
  track = track;
  west = west;
  east = east;
  points = points;
  told = b.is_due;
  form = b.form;
  behind = b.behind;
  spelled = b.spelled;
}
tells_edge edition text e line b = absurd b.is_due

pub record TellsValues (text : List ℕ) : Type 0 where
  pub values : Values
  pub form : HasForm (ValuesLine values)
  pub behind : List ℕ
  pub spelled : text ≡ text_of_line (ValuesLine values) ++ behind

pub tells_values : (text : List ℕ) (line : SheetLine) → BeginsWithLine ValuesDue text line → TellsValues text
tells_values text (ValuesLine values) b = record { values = values; form = b.form; behind = b.behind; spelled = b.spelled }
tells_values text line b = absurd b.is_due

-- ---- a field that the edition tells, or not

-- a number's field and a told field, in front of other fields
pub record SameTold (a b : List ℕ) (x y : Option (List ℕ)) (xs ys : List (List ℕ)) : Type 0 where
  pub number : a ≡ b
  pub told : x ≡ y
  pub others : xs ≡ ys

pub same_told : (edition : Edition) (x y : Option (List ℕ)) → IsToldIn edition x → IsToldIn edition y → (a b : List ℕ) (xs ys : List (List ℕ)) →
    a ∷ (field_told x ++ xs) ≡ b ∷ (field_told y ++ ys) → SameTold a b x y xs ys
same_told First None None h k a b xs ys e = record { number = cc; told = refl; others = cc }
same_told Second (Some t) (Some u) h k a b xs ys e = let field : t ≡ u = cc in record { number = cc; told = ap (λ (f : List ℕ). Some f) field; others = cc }
same_told First (Some t) y h k a b xs ys e = absurd h
same_told First x (Some u) h k a b xs ys e = absurd k
same_told Second None y h k a b xs ys e = absurd h
same_told Second x None h k a b xs ys e = absurd k

-- ---- points and their coordinates

pub record Pairs (read points : List Point) (rest : List ℕ) : Type 0 where
  pub more : List Point
  pub split : points ≡ read ++ more
  pub left : rest ≡ flat_map coordinates more

pub pairs : (read points : List Point) (rest : List ℕ) → flat_map coordinates read ++ rest ≡ flat_map coordinates points → Pairs read points rest
pairs [] points rest e = record { more = points; split = refl; left = e }
pairs (p ∷ read) [] rest e = cc
pairs (p ∷ read) (q ∷ points) rest e =
    let x : p.x ≡ q.x = cc in
    let y : p.y ≡ q.y = cc in
    let t : flat_map coordinates read ++ rest ≡ flat_map coordinates points = cc in
    let more = pairs read points rest t in
    let same : p ≡ q = ap (λ (v : ℕ). record { x = v; y = p.y }) x ∙ ap (λ (v : ℕ). record { x = q.x; y = v }) y in
    record { more = more.more; split = cc (same, more.split); left = more.left }

pub points_once : (ps qs : List Point) → flat_map coordinates ps ≡ flat_map coordinates qs → ps ≡ qs
points_once ps qs e =
    let a = pairs ps qs [] (append-nil (flat_map coordinates ps) ∙ e) in
    end a.more a.split a.left
  where
    end : (more : List Point) → qs ≡ ps ++ more → [] ≡ flat_map coordinates more → ps ≡ qs
    end [] split left = sym (split ∙ append-nil ps)
    end (p ∷ more) split left = cc
