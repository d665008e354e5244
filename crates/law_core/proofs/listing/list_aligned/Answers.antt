use Rattle.std.proofs.Common.{[], ◌∷◌, ◌-◌, ◌≡◌, ◌++◌, map, ap, arith, refl}
use Rattle.plan_core.specs.Lawful.{Aligned}
use Rattle.drawing_cnf.specs.Expected.{instances_from}
use Rattle.law_core.specs.declared.parties.Law.TheVariants as law
use Rattle.law_core.specs.Law.{instance_of}
use Rattle.law_core.proofs.ListLemmas.{listing_more, listing_done, pushed}
use Rattle.law_core.proofs.listing.list_aligned.Goals as goal

pub loop-n-init : goal.loop-n-init
loop-n-init c = let z : c.args.end - 0 ≡ c.args.end = omega arith in ap (λ k. map instance_of c.args.laws.now.items ++ instances_from (λ n. Aligned n ∷ []) 0 k)
    z

pub loop-n-preserved : goal.loop-n-preserved
loop-n-preserved c =
    listing_more (λ n. Aligned n ∷ []) c.args.laws.now.items c.loop-n.laws.items c.push.new.self.items (instances_from (λ n. Aligned n ∷ []) 0 c.args.end)
    c.loop-n.n c.args.end c.loop-n-test.true c.loop-n.invariant
    (pushed c.loop-n.laws.items c.push.new.self.items (law.Aligned (record { 0 = c.loop-n.n })) (Aligned c.loop-n.n ∷ []) c.in_ok-push.ensures.items refl)

pub returns : goal.returns
returns c = listing_done (λ n. Aligned n ∷ []) c.args.laws.now.items c.loop-n.laws.items (instances_from (λ n. Aligned n ∷ []) 0 c.args.end) c.loop-n.n
    c.args.end c.loop-n-test.false c.loop-n.invariant
