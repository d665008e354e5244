use Rattle.std.proofs.Common.{◌∷◌, ◌++◌, [], List, ℕ, length, map, ◌∙◌, ap}
use Rattle.plan_core.specs.Lawful.{Instance, Ordered, Aligned, Apart}
use Rattle.track_order.specs.Order.{is_above, is_overlap}
use Rattle.drawing_cnf.specs.Expected.{instances_from, instance_pairs, edge_pair}
use Rattle.law_core.specs.declared.parties.Law.{Law}
use Rattle.law_core.specs.Law.{instance_of}
use Rattle.law_core.proofs.ListLemmas.{listed_then}
use Rattle.law_core.proofs.listing.all_laws.Goals as goal

pub returns : goal.returns
returns c =
    let t = c.args.t.now in
    let f = edge_pair (is_above t) (is_overlap t) in
    let n = c.nodes-nodes.result in
    let m = c.edges-edges.result in
    let none = c.new-laws.result.items in
    let one = c.list_ordered.new.laws.items in
    let two = c.list_aligned.new.laws.items in
    let three = c.list_apart.new.laws.items in
    let four = c.list_edges.new.laws.items in
    let all = listed_then none one four (instance_pairs n (λ u v. Ordered u v ∷ []))
    (instances_from (λ k. Aligned k ∷ []) 0 n ++ (instance_pairs n (λ u v. Apart u v ∷ []) ++ instance_pairs m f)) c.in_ok-list_ordered.ensures
    (listed_then one two four (instances_from (λ k. Aligned k ∷ []) 0 n) (instance_pairs n (λ u v. Apart u v ∷ []) ++ instance_pairs m f)
    c.in_ok-list_aligned.ensures
    (listed_then two three four (instance_pairs n (λ u v. Apart u v ∷ [])) (instance_pairs m f) c.in_ok-list_apart.ensures c.in_ok-list_edges.ensures)) in
    let whole : ℕ → ℕ → List Instance = (λ a b. instance_pairs a (λ u v. Ordered u v ∷ [])
    ++ (instances_from (λ k. Aligned k ∷ []) 0 a ++ (instance_pairs a (λ u v. Apart u v ∷ []) ++ instance_pairs b f))) in
    all ∙ ap (λ (xs : List Law). map instance_of xs ++ whole n m) c.new-laws.ensures.items ∙ ap (λ (a : ℕ). whole a m) c.nodes-nodes.ensures.value
    ∙ ap (λ (b : ℕ). whole (length c.args.g.now.nodes) b) c.edges-edges.ensures.value
