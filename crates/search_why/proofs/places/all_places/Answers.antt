use Rattle.std.proofs.Common.{◌≡◌, ◌∷◌, [], ◌++◌, ◌-◌, ◌+◌, List, ℕ, ◌∙◌, ap, sym, append_assoc, append-nil, arith}
use Rattle.search_why.specs.Narrowed.{countdown}
use Rattle.search_why.proofs.PlaceLemmas.{countdown_next}
use Rattle.search_why.proofs.places.all_places.Goals as goal

pub loop-i-init : goal.loop-i-init
loop-i-init c = let z : c.args.count - 0 ≡ c.args.count = omega arith in ap (λ (xs : List ℕ). xs ++ countdown (c.args.count - 0)) c.new-places.ensures.items
    ∙ ap countdown z

pub loop-i-preserved : goal.loop-i-preserved
loop-i-preserved c =
    let n = c.args.count in
    let i = c.loop-i.i in
    ap (λ (xs : List ℕ). xs ++ countdown (n - (i + 1))) c.in_ok-push.ensures.items
    ∙ append_assoc c.loop-i.places.items ((n - 1 - i) ∷ []) (countdown (n - (i + 1)))
    ∙ ap (λ (xs : List ℕ). c.loop-i.places.items ++ xs) (sym (countdown_next n i c.loop-i-test.true))
    ∙ c.loop-i.invariant

pub returns : goal.returns
returns c =
    let le = c.loop-i-test.false in
    let z : c.args.count - c.loop-i.i ≡ 0 = omega arith in
    sym (append-nil c.loop-i.places.items) ∙ ap (λ k. c.loop-i.places.items ++ countdown k) (sym z) ∙ c.loop-i.invariant
