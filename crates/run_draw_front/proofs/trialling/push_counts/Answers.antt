use Rattle.std.proofs.Common.{◌≡◌, ◌∙◌, ℕ, ◌∷◌, ◌++◌, length, subst}
use Rattle.std.specs.Prelude.{codes}
use Rattle.std.specs.Fmt.{decimal}
use Rattle.std.proofs.lemmas.Result.{on_ok_weaker}
use Rattle.run_draw_front.proofs.FieldLemmas.{four_spaced}
use Rattle.run_draw_front.proofs.trialling.push_counts.Goals as goal

pub returns : goal.returns
returns c =
    let into = c.args.into.now.items in
    let one = c.push_field.new.into.items in
    let two = c.push_number_field.new.into.items in
    let three = c.push_field-2.new.into.items in
    let four = c.push_number_field-2.new.into.items in
    let nodes : c.from.result ≡ length c.args.graph.now.nodes = c.from.ensures ∙ c.nodes.ensures.value in
    let edges : c.from-2.result ≡ length c.args.graph.now.edges = c.from-2.ensures ∙ c.edges.ensures.value in
    on_ok_weaker c.push_number_field-2.result (λ last. four_spaced into (codes "nodes") (decimal (length c.args.graph.now.nodes)) (codes "edges")
    (decimal (length c.args.graph.now.edges)) one two three four
    c.in_ok-push_field.ensures.ok
    (subst (λ (k : ℕ). two ≡ one ++ 32 ∷ decimal k) nodes c.in_ok-push_number_field.ensures.ok)
    c.in_ok-push_field-2.ensures.ok
    (subst (λ (k : ℕ). four ≡ three ++ 32 ∷ decimal k) edges last))
    c.push_number_field-2.ensures.ok
