-- What is kept while a tree's tags go by.
use Rattle.std.proofs.Common.{◌≡◌, ℕ, ◌+◌, ◌-◌, Bool, true, false, Option, List, [], ◌∷◌, ◌++◌, length, take, refl, sym, ap, ◌∙◌, append_assoc, length-append}
use Rattle.std.proofs.Common.{arith}
use Rattle.std.specs.Prelude.{fold, ◌||◌}
use Rattle.std.proofs.lemmas.List.{append-nil, map-append, take-map, length-map}
use Rattle.std.proofs.Math.Bool.{or-false}
use Rattle.railml_read.specs.declared.rows.Elem.{Elem}
use Rattle.railml_read.specs.declared.contexts.Context.{Context}
use Rattle.railml_read.specs.declared.progress.Frame.{Frame}
use Rattle.railml_read.specs.Contexts.{below}
use Rattle.railml_read.specs.Tree.{Elements, none, element, Tag, opens, closes, tags_of}
use Rattle.railml_read.specs.Rows.{own_row, nearest, rows_from}
use Rattle.railml_read.specs.Places.{names_after}
use Rattle.railml_read.specs.Progress.{State, top_frame, context_in, row_in, is_infrastructure, frame_in, after_tag, names_in}
use Rattle.railml_read.proofs.Ends.{last_push, front_push}

-- whether an infrastructure of the path is among these elements, whose parent stands here
abbrev pub reached_in : Context → Elements → Bool
reached_in context none = false
reached_in context (element at name attrs children after) = is_infrastructure (below context name) || reached_in (below context name) children || reached_in
    context after

abbrev pub made : List Frame → List Elem → Bool → State
made stack rows reached = record { stack = stack; rows = rows; reached = reached }

or_four : (a b c d : Bool) → (((a || b) || c) || d) ≡ (a || ((b || c) || d))
or_four true b c d = refl
or_four false b c d = refl

-- the tags of elements leave the stack, and add their rows
pub gone_by : (elements : Elements) (s : State) (rest : List Tag) →
    fold after_tag s (tags_of elements ++ rest) ≡ fold after_tag (record {
      stack = s.stack;
      rows = s.rows ++ rows_from (context_in (top_frame s.stack)) (row_in (top_frame s.stack)) (length s.rows) elements;
      reached = s.reached ||
          reached_in (context_in (top_frame s.stack)) elements;
    }) rest
gone_by none s rest = rw (append-nil s.rows, or-false s.reached) refl
gone_by (element at name attrs children after) s rest =
    let context = context_in (top_frame s.stack) in
    let parent = row_in (top_frame s.stack) in
    let n = length s.rows in
    let here = below context name in
    let own = own_row here at attrs parent in
    let frame = frame_in s.stack name n in
    let inside = rows_from here (nearest here n parent) (n + length own) children in
    let tags = tags_of after ++ rest in
    let opened = after_tag s (opens at name attrs) in
    let closed : List Frame = take (length opened.stack - 1) opened.stack in
    let rows = (s.rows ++ own) ++ inside in
    let reached = (s.reached || is_infrastructure here) || reached_in here children in
    let count : length rows ≡ n + length own + length inside = omega (arith, length-append (s.rows ++ own) inside, length-append s.rows own) in
    ap (λ (t : List Tag). fold after_tag opened t) (append_assoc (tags_of children) (closes name ∷ tags_of after) rest)
    ∙ gone_by children opened (closes name ∷ tags)
    ∙ ap (λ (o : Option Frame). fold after_tag (made closed (opened.rows ++ rows_from (context_in o) (row_in o) (length opened.rows) children)
    (opened.reached || reached_in (context_in o) children)) tags) (last_push s.stack frame)
    ∙ ap (λ (k : ℕ). fold after_tag (made closed (opened.rows ++ rows_from here (nearest here n parent) k children) reached) tags) (length-append s.rows own)
    ∙ ap (λ (st : List Frame). fold after_tag (made st rows reached) tags) (front_push s.stack frame)
    ∙ gone_by after (made s.stack rows reached) rest
    ∙ ap (λ (k : ℕ). fold after_tag (made s.stack (rows ++ rows_from context parent k after) (reached || reached_in context after)) rest) count
    ∙ ap (λ (r : List Elem). fold after_tag (made s.stack r (reached || reached_in context after)) rest) (simp append_assoc)
    ∙ ap (λ (b : Bool). fold after_tag (made s.stack (s.rows ++ (own ++ (inside ++ rows_from context parent (n + length own + length inside) after))) b) rest)
    (or_four s.reached (is_infrastructure here) (reached_in here children) (reached_in context after))

pub names_kept : (tags : List Tag) (s : State) → names_in (fold after_tag s tags).stack ≡ fold names_after (names_in s.stack) tags
names_kept [] s = refl
names_kept (opens at name attrs ∷ tags) s = names_kept tags (after_tag s (opens at name attrs))
    ∙ ap (λ (ns : List (List ℕ)). fold names_after ns tags) (map-append (λ f. f.name) s.stack (frame_in s.stack name (length s.rows) ∷ []))
names_kept (closes name ∷ tags) s = names_kept tags (after_tag s (closes name)) ∙ ap (λ (ns : List (List ℕ)). fold names_after ns tags)
    (sym (take-map (λ f. f.name) (length s.stack - 1) s.stack) ∙ ap (λ (n : ℕ). take (n - 1) (names_in s.stack)) (sym (length-map s.stack (λ f. f.name))))
