-- What is added to lists as they grow: to the rows of edges, and to what stands for the elements of a list.
use Rattle.std.proofs.Common.{◌≡◌, ℕ, suc, ◌+◌, ◌<◌, List, [], ◌∷◌, ◌++◌, length, map, drop, get_or, sym, ap, ◌∙◌, append_assoc, drop-cons, add-one}
use Rattle.std.specs.List.{enumerate_from, flat_map}
use Rattle.std.proofs.lemmas.List.{map-append}
use Rattle.plan_core.specs.Graph.{Edge}
use Rattle.port_graph.specs.declared.rows.EdgeRow.{EdgeRow}
use Rattle.port_graph.specs.declared.runs.Run.{Run}
use Rattle.port_graph.specs.declared.sites.Site.{Site}
use Rattle.port_graph.specs.Plain.{plain_edge}
use Rattle.port_graph.specs.Sites.{number_among}
use Rattle.port_graph.specs.TopologyGraph.{west_of, east_of, edge_among}

same_edge : (a b c d : ℕ) (track name : List ℕ) → track ≡ name → a ≡ c → b ≡ d →
    (let e : Edge = record { track = track; west = a; east = b } in e) ≡ record { track = name; west = c; east = d }
same_edge a b c d track name p q r = cc

pub pushed_edge : (ss : List Site) (r : Run) (rows new : List EdgeRow) (row : EdgeRow) → new ≡ rows ++ row ∷ [] → row.track ≡ r.track →
    row.west.0 ≡ number_among ss (west_of r).at → row.east.0 ≡ number_among ss (east_of r).at → map plain_edge new ≡ map plain_edge rows ++ edge_among ss r ∷ []
pushed_edge ss r rows new row is track west east =
    ap (map plain_edge) is ∙ map-append plain_edge rows (row ∷ []) ∙ ap (λ (e : Edge). map plain_edge rows ++ e ∷ []) (same_edge _ _ _ _ _ _ track west east)

pub drop_here : {A : Type 0} (xs : List A) (i : ℕ) (x : A) → i < length xs → x ≡ get_or xs i x → drop i xs ≡ x ∷ drop (i + 1) xs
drop_here xs i x within is = rw add-one (drop-cons xs i x within ∙ ap (λ y. y ∷ drop (suc i) xs) (sym is))

-- one element of what is left goes over to what is there
pub moved_over : {A B : Type 0} (f : A → B) (there next all : List B) (xs : List A) (i : ℕ) (x : A) → i < length xs → x ≡ get_or xs i x →
    there ++ map f (drop i xs) ≡ all → next ≡ there ++ f x ∷ [] → next ++ map f (drop (i + 1) xs) ≡ all
moved_over f there next all xs i x within is so_far pushed =
    ap (λ l. l ++ map f (drop (i + 1) xs)) pushed
    ∙ append_assoc there (f x ∷ []) (map f (drop (i + 1) xs))
    ∙ ap (λ l. there ++ map f l) (sym (drop_here xs i x within is))
    ∙ so_far

-- what one element of what is left stands for goes over to what is there
pub all_moved_over : {A B : Type 0} (f : A → List B) (there next all : List B) (xs : List A) (i : ℕ) (x : A) → i < length xs → x ≡ get_or xs i x →
    there ++ flat_map f (drop i xs) ≡ all → next ≡ there ++ f x → next ++ flat_map f (drop (i + 1) xs) ≡ all
all_moved_over f there next all xs i x within is so_far pushed =
    ap (λ l. l ++ flat_map f (drop (i + 1) xs)) pushed
    ∙ append_assoc there (f x) (flat_map f (drop (i + 1) xs))
    ∙ ap (λ l. there ++ flat_map f l) (sym (drop_here xs i x within is))
    ∙ so_far

-- the same where the elements are counted
pub counted_over : {A B : Type 0} (f : ℕ × A → B) (there next all : List B) (xs : List A) (i : ℕ) (x : A) → i < length xs → x ≡ get_or xs i x →
    there ++ map f (enumerate_from i (drop i xs)) ≡ all → next ≡ there ++ f (i, x) ∷ [] → next ++ map f (enumerate_from (i + 1) (drop (i + 1) xs)) ≡ all
counted_over f there next all xs i x within is so_far pushed =
    ap (λ l. l ++ map f (enumerate_from (i + 1) (drop (i + 1) xs))) pushed
    ∙ append_assoc there (f (i, x) ∷ []) (map f (enumerate_from (i + 1) (drop (i + 1) xs)))
    ∙ ap (λ l. there ++ map f (enumerate_from i l)) (sym (drop_here xs i x within is))
    ∙ so_far

pub all_counted_over : {A B : Type 0} (f : ℕ × A → List B) (there next all : List B) (xs : List A) (i : ℕ) (x : A) → i < length xs → x ≡ get_or xs i x →
    there ++ flat_map f (enumerate_from i (drop i xs)) ≡ all → next ≡ there ++ f (i, x) → next ++ flat_map f (enumerate_from (i + 1) (drop (i + 1) xs)) ≡ all
all_counted_over f there next all xs i x within is so_far pushed =
    ap (λ l. l ++ flat_map f (enumerate_from (i + 1) (drop (i + 1) xs))) pushed
    ∙ append_assoc there (f (i, x)) (flat_map f (enumerate_from (i + 1) (drop (i + 1) xs)))
    ∙ ap (λ l. there ++ flat_map f (enumerate_from i l)) (sym (drop_here xs i x within is))
    ∙ so_far
