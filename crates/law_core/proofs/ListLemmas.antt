-- Laws listed one after another.
use Rattle.std.proofs.Common.{◌≡◌, ℕ, Bool, true, false, cond, ◌+◌, ◌-◌, ◌<◌, ◌≤◌, List, [], ◌∷◌, ◌++◌, map, refl, sym, ◌∙◌, ap, subst, arith, append_assoc}
use Rattle.std.proofs.Common.{append-nil}
use Rattle.std.proofs.lemmas.List.{map-append}
use Rattle.std.specs.List.{All}
use Rattle.std.proofs.lemmas.List.Elements.{All-nil, All-cons}
use Rattle.plan_core.specs.Graph.{Graph}
use Rattle.plan_core.specs.Lawful.{Instance, IsInstance}
use Rattle.track_order.specs.Order.{EdgeOrder, is_above, is_overlap, IsOrderOf}
use Rattle.drawing_cnf.proofs.InstanceLemmas.{AreInstances}
use Rattle.drawing_cnf.proofs.MainLemmas.{all_listed, order_tables}
use Rattle.law_core.specs.declared.parties.Law.TheVariants as law
use Rattle.cnf_core.proofs.StepLemmas.{one_less}
use Rattle.drawing_cnf.specs.Expected.{instances_from, instances}
use Rattle.law_core.specs.declared.parties.Law.{Law}
use Rattle.law_core.specs.Law.{instance_of, HasParties}

-- a loop that lists f k for each number k below end
abbrev pub IsListing : (ℕ → List Instance) → List Law → List Law → List Instance → ℕ → ℕ → Type 0
IsListing f old now all k end = map instance_of now ++ instances_from f k (end - k) ≡ map instance_of old ++ all

pub listing_more : (f : ℕ → List Instance) (old now new : List Law) (all : List Instance) (k end : ℕ) → k < end → IsListing f old now all k end →
    map instance_of new ≡ map instance_of now ++ f k → IsListing f old new all (k + 1) end
listing_more f old now new all k end lt a b =
    let rest = instances_from f (k + 1) (end - (k + 1)) in
    let next : instances_from f k (end - k) ≡ f k ++ rest = ap (instances_from f k) (one_less k end lt) in
    ap (λ (xs : List Instance). xs ++ rest) b ∙ append_assoc (map instance_of now) (f k) rest
    ∙ ap (λ (xs : List Instance). map instance_of now ++ xs) (sym next) ∙ a

pub listing_done : (f : ℕ → List Instance) (old now : List Law) (all : List Instance) (k end : ℕ) → end ≤ k → IsListing f old now all k end →
    map instance_of now ≡ map instance_of old ++ all
listing_done f old now all k end le a =
    let z : end - k ≡ 0 = omega arith in
    sym (append-nil (map instance_of now)) ∙ ap (λ n. map instance_of now ++ instances_from f k n) (sym z) ∙ a

pub pushed : (now new : List Law) (l : Law) (more : List Instance) → new ≡ now ++ l ∷ [] → (instance_of l ∷ []) ≡ more →
    map instance_of new ≡ map instance_of now ++ more
pushed now new l more e f = ap (map instance_of) e ∙ map-append instance_of now (l ∷ []) ∙ ap (λ (xs : List Instance). map instance_of now ++ xs) f

pub listed_then : (old mid new : List Law) (xs ys : List Instance) → map instance_of mid ≡ map instance_of old ++ xs →
    map instance_of new ≡ map instance_of mid ++ ys → map instance_of new ≡ map instance_of old ++ (xs ++ ys)
listed_then old mid new xs ys a b = b ∙ ap (λ (zs : List Instance). zs ++ ys) a ∙ append_assoc (map instance_of old) xs ys

pub where_yes : (yes : Bool) (now new : List Law) (l : Law) → yes ≡ true → new ≡ now ++ l ∷ [] →
    map instance_of new ≡ map instance_of now ++ cond yes (instance_of l ∷ []) []
where_yes true now new l is e = pushed now new l (instance_of l ∷ []) e refl
where_yes false now new l is e = cc

pub where_no : (yes : Bool) (now : List Law) (l : Law) → yes ≡ false → map instance_of now ≡ map instance_of now ++ cond yes (instance_of l ∷ []) []
where_no true now l is = cc
where_no false now l is = sym (append-nil (map instance_of now))

pub unless_yes : (no : Bool) (now : List Law) (l : Law) → no ≡ true → map instance_of now ≡ map instance_of now ++ cond no [] (instance_of l ∷ [])
unless_yes true now l is = sym (append-nil (map instance_of now))
unless_yes false now l is = cc

pub unless_no : (no : Bool) (now new : List Law) (l : Law) → no ≡ false → new ≡ now ++ l ∷ [] →
    map instance_of new ≡ map instance_of now ++ cond no [] (instance_of l ∷ [])
unless_no true now new l is e = cc
unless_no false now new l is e = pushed now new l (instance_of l ∷ []) e refl

-- the parties of a graph's laws are there
parties_of : (g : Graph) (above : ℕ → ℕ → Bool) (l : Law) → IsInstance g above (instance_of l) → HasParties g l
parties_of g above (law.Ordered u v) at = (let r = at.rising in let w = at.within in omega arith, at.within)
parties_of g above (law.Aligned n) at = at
parties_of g above (law.Apart u v) at = (let r = at.rising in let w = at.within in omega arith, at.within)
parties_of g above (law.Over e f) at = (at.first, at.second)
parties_of g above (law.Parted e f) at = (let r = at.pair.rising in let w = at.pair.within in omega arith, at.pair.within)

pub all_parties : (g : Graph) (above : ℕ → ℕ → Bool) (laws : List Law) → AreInstances g above (map instance_of laws) → All (HasParties g) laws
all_parties g above [] h = All-nil (HasParties g)
all_parties g above (l ∷ laws) h = All-cons (HasParties g) l laws (parties_of g above l h.0) (all_parties g above laws h.1)

pub listed_parties : (g : Graph) (o : EdgeOrder) (laws : List Law) → IsOrderOf g o → map instance_of laws ≡ instances g (is_above o) (is_overlap o) →
    All (HasParties g) laws
listed_parties g o laws of is = all_parties g (is_above o) laws (subst (AreInstances g (is_above o)) (sym is)
    (all_listed g (is_above o) (is_overlap o) (order_tables g o of)).are)
