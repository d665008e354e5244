use Rattle.std.proofs.Common.{◌≡◌, ◌∷◌, [], ◌++◌, Bool, cond, map, subst}
use Rattle.plan_core.specs.Lawful.{Parted}
use Rattle.law_core.specs.Law.{instance_of}
use Rattle.law_core.proofs.ListLemmas.{listed_then}
use Rattle.law_core.proofs.listing.list_below.Goals as goal

pub returns : goal.returns
returns c =
    let old = c.args.laws.now.items in
    let mid = c.list_where.new.laws.items in
    let new = c.list_unless.new.laws.items in
    listed_then old mid new _ _ c.in_ok-list_where.ensures
    (subst (λ (b : Bool). map instance_of new ≡ map instance_of mid ++ cond b [] (Parted c.args.e c.args.h ∷ [])) c.is_settled.ensures
    c.in_ok-list_unless.ensures)
