use Rattle.std.proofs.Common.{[], ◌∷◌, refl}
use Rattle.plan_core.specs.Lawful.{Ordered}
use Rattle.drawing_cnf.specs.Expected.{pairs_from}
use Rattle.law_core.specs.declared.parties.Law.TheVariants as law
use Rattle.law_core.proofs.ListLemmas.{listing_more, listing_done, pushed}
use Rattle.law_core.proofs.listing.list_ordered_row.Goals as goal

pub loop-v-init : goal.loop-v-init
loop-v-init c = refl

pub loop-v-preserved : goal.loop-v-preserved
loop-v-preserved c =
    listing_more (λ v. Ordered c.args.u v ∷ []) c.args.laws.now.items c.loop-v.laws.items c.push.new.self.items
    (pairs_from c.args.end (λ u v. Ordered u v ∷ []) c.args.u) c.loop-v.v c.args.end c.loop-v-test.true c.loop-v.invariant
    (pushed c.loop-v.laws.items c.push.new.self.items (law.Ordered (record {
      0 = c.args.u;
    }) (record { 0 = c.loop-v.v })) (Ordered c.args.u c.loop-v.v ∷ []) c.in_ok-push.ensures.items refl)

pub returns : goal.returns
returns c = listing_done (λ v. Ordered c.args.u v ∷ []) c.args.laws.now.items c.loop-v.laws.items (pairs_from c.args.end (λ u v. Ordered u v ∷ []) c.args.u)
    c.loop-v.v c.args.end c.loop-v-test.false c.loop-v.invariant
