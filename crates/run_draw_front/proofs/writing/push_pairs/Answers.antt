use Rattle.std.proofs.Common.{◌++◌, ◌∷◌, [], ◌∙◌, ap, sym, List, ℕ, take, append_assoc}
use Rattle.std.specs.Prelude.{flat_map}
use Rattle.std.proofs.lemmas.List.{take_more}
use Rattle.std.proofs.lemmas.Option.{slice_get_within, get_or_from_slice_get}
use Rattle.refute_log.proofs.LogLemmas.{flat_map_last}
use Rattle.run_draw_front.specs.FrontText.{pair_line}
use Rattle.run_draw_front.proofs.writing.push_pairs.Goals as goal

pub loop-i-preserved : goal.loop-i-preserved
loop-i-preserved c =
    let pairs = c.args.pairs.now in
    let i = c.loop-i.i in
    let pair = c.get.result.now in
    let one = take_more pairs i pair (slice_get_within pairs i pair c.get.ensures)
    ∙ ap (λ p. take i pairs ++ p ∷ []) (get_or_from_slice_get pairs i pair pair c.get.ensures) in
    c.in_ok-push_pair.ensures ∙ ap (λ (ls : List ℕ). ls ++ pair_line pair) c.loop-i.invariant
    ∙ append_assoc c.args.into.now.items (flat_map pair_line (take i pairs)) (pair_line pair)
    ∙ ap (λ (ls : List ℕ). c.args.into.now.items ++ ls) (sym (flat_map_last pair_line (take i pairs) pair) ∙ ap (flat_map pair_line) (sym one))
