-- The laws' variables, put one law after another.
use Rattle.std.proofs.Common.{◌≡◌, ◌⊎◌, ℕ, zero, suc, ◌+◌, ◌-◌, ◌≤◌, ◌<◌, Bool, true, false, not, cond, List, [], ◌∷◌, ◌++◌, length, inl, inr, refl, sym, ◌∙◌}
use Rattle.std.proofs.Common.{ap, subst, arith, append-nil}
use Rattle.std.specs.Prelude.{◌||◌, ◌↔◌, IsTrue}
use Rattle.std.proofs.lemmas.Bool.{false≢true}
use Rattle.std.specs.Ordering.{int_cmp}
use Rattle.std.specs.declared.cmp.Ordering.{Ordering}
use Rattle.std.specs.declared.cmp.Ordering.TheVariants.{Less, Equal, Greater}
use Rattle.plan_core.specs.declared.point.Point.{Point}
use Rattle.plan_core.specs.Grid.{GridSize}
use Rattle.plan_core.specs.Graph.{Graph, mileage}
use Rattle.plan_core.specs.Drawing.{Drawing, place}
use Rattle.plan_core.specs.Laws.{InOrder, NodesAreOrdered, NodesAreApart, NodeIsAligned, EdgeIsOver, EdgesAreParted}
use Rattle.plan_core.specs.Lawful.{Instance, Ordered, Aligned, Apart, Over, Parted, IsPair, IsAbovePair, IsOtherPair, Lawful}
use Rattle.cnf_core.specs.declared.literal.LitOrTruth.TheVariants.{False}
use Rattle.cnf_core.specs.Clause.{Clauses}
use Rattle.cnf_core.specs.Assignment.{Assignment, SatisfiesAll, SameOutside}
use Rattle.cnf_core.proofs.ClauseLemmas.{satisfies_append}
use Rattle.cnf_core.proofs.SettingLemmas.{same_none}
use Rattle.track_order.specs.Order.{EdgeOrder, is_above, is_overlap, IsOrderOf}
use Rattle.edge_shape.specs.EdgeVars.{NodeInts}
use Rattle.cnf_laws.specs.Stands.{ReadsPoint}
use Rattle.cnf_laws.specs.LawClauses.{apart_size, apart_clauses, instance_size, instance_clauses, laws_size, laws_clauses}
use Rattle.cnf_laws.specs.Expected.{drawing_vars, instances_from, pairs_from, instance_pairs, edge_pair, instances}
use Rattle.drawing_cnf.specs.Puts.{IsPutTo, PutsLaws, ApartBits}
use Rattle.cnf_laws.proofs.ApartLemmas.{ordered_holds, differ_holds, west_holds}
use Rattle.cnf_laws.proofs.SlopeLemmas.{aligned_holds}
use Rattle.cnf_laws.proofs.OverLemmas.{Read, over_holds, parted_holds}
use Rattle.cnf_laws.proofs.InstanceLemmas.{drawing_stays}
use Rattle.cnf_laws.proofs.BaseLemmas.{base_last, base_vars}
use Rattle.cnf_laws.proofs.LawCode.{size_append, laws_append}

-- the drawing is read still
pub put_to_read : (g : Graph) (grid : GridSize) (d : Drawing) (v w : Assignment) (first : ℕ) → IsPutTo g grid d v first → ((y : ℕ) → y < first → w y ≡ v y) →
    Read w g (drawing_vars g grid) grid d
put_to_read g grid d v w first p same =
    let behind = p.behind in
    record {
      graph = p.graph;
      reads = drawing_stays v w (base_last g grid) g (drawing_vars g grid) grid.width d (base_vars g grid p.size p.few) (λ y le. same y (omega arith)) p.reads;
      loose = p.loose;
    }

pub put_to_more : (g : Graph) (grid : GridSize) (d : Drawing) (v w : Assignment) (first next : ℕ) → IsPutTo g grid d v first → first ≤ next →
    ((y : ℕ) → y < first → w y ≡ v y) → IsPutTo g grid d w next
put_to_more g grid d v w first next p le same =
    let behind = p.behind in
    record { graph = p.graph; size = p.size; few = p.few; loose = p.loose; reads = (put_to_read g grid d v w first p same).reads; behind = omega arith }

-- A LOOP
-- it puts the list f k for each number k below end; where the clauses of what is left hold, all do
pub record IsPuttingLaws (g : Graph) (grid : GridSize) (f : ℕ → List Instance) (all : List Instance) (first : ℕ) (old now : Assignment) (next k end : ℕ) : Type
    0 where
  pub vars : next + laws_size g (instances_from f k (end - k)) ≡ first + laws_size g all
  pub from : first ≤ next
  pub same : SameOutside first (next - first) old now
  pub left : (w : Assignment) → ((y : ℕ) → y < next → w y ≡ now y) →
      SatisfiesAll w (laws_clauses g (drawing_vars g grid) grid.width next (instances_from f k (end - k))) →
      SatisfiesAll w (laws_clauses g (drawing_vars g grid) grid.width first all)

pub putting_start : (g : Graph) (grid : GridSize) (f : ℕ → List Instance) (all : List Instance) (first : ℕ) (v : Assignment) (k end : ℕ) →
    all ≡ instances_from f k (end - k) → IsPuttingLaws g grid f all first v v first k end
putting_start g grid f all first v k end e = record {
  vars = ap (λ (l : List Instance). first + laws_size g l) (sym e);
  from = omega arith;
  same = same_none first (first - first) v;
  left = λ w agree h. subst (λ (l : List Instance). SatisfiesAll w (laws_clauses g (drawing_vars g grid) grid.width first l)) (sym e) h;
}

next_left : (f : ℕ → List Instance) (k end : ℕ) → k < end → instances_from f k (end - k) ≡ f k ++ instances_from f (k + 1) (end - (k + 1))
next_left f k end lt = let z : end - k ≡ suc (end - (k + 1)) = omega arith in ap (instances_from f k) z

pub putting_room : (g : Graph) (grid : GridSize) (f : ℕ → List Instance) (all : List Instance) (first : ℕ) (old now : Assignment) (next k end top : ℕ) →
    k < end → IsPuttingLaws g grid f all first old now next k end → first + laws_size g all ≤ top → next + laws_size g (f k) ≤ top
putting_room g grid f all first old now next k end top lt a le =
    let split = ap (laws_size g) (next_left f k end lt) in
    let sizes = size_append g (f k) (instances_from f (k + 1) (end - (k + 1))) in
    let vars = a.vars in
    omega arith

pub putting_more : (g : Graph) (grid : GridSize) (f : ℕ → List Instance) (all : List Instance) (first : ℕ) (old now new : Assignment) (next behind k end : ℕ) →
    k < end → IsPuttingLaws g grid f all first old now next k end → PutsLaws g grid (f k) next now new → behind ≡ next + laws_size g (f k) →
    IsPuttingLaws g grid f all first old new behind (k + 1) end
putting_more g grid f all first old now new next behind k end lt a p is =
    let rest = instances_from f (k + 1) (end - (k + 1)) in
    let split = next_left f k end lt in
    let sizes = size_append g (f k) rest in
    let total = ap (laws_size g) split in
    let vars = a.vars in
    let from = a.from in
    record {
      vars = omega arith;
      from = omega arith;
      same = record {
        below = λ y low. p.same.below y (omega arith) ∙ a.same.below y low;
        above = λ y high. p.same.above y (omega arith) ∙ a.same.above y (omega arith);
      };
      left = λ w agree h.
          let x = drawing_vars g grid in
          let one = laws_clauses g x grid.width next (f k) in
          let more = laws_clauses g x grid.width (next + laws_size g (f k)) rest in
          let here : SatisfiesAll w one = p.holds w (λ y low. agree y (omega arith)) in
          let there : SatisfiesAll w more = subst (λ n. SatisfiesAll w (laws_clauses g x grid.width n rest)) is h in
          a.left w (λ y low. agree y (omega arith) ∙ p.same.below y low)
          (subst (λ (l : List Instance). SatisfiesAll w (laws_clauses g x grid.width next l)) (sym split)
          (subst (λ (cs : Clauses). SatisfiesAll w cs) (sym (laws_append g x grid.width next (f k) rest)) (satisfies_append w one more here there)));
    }

pub putting_next : (g : Graph) (grid : GridSize) (f : ℕ → List Instance) (all : List Instance) (first : ℕ) (old now : Assignment) (next k end : ℕ) → end ≤ k →
    IsPuttingLaws g grid f all first old now next k end → next ≡ first + laws_size g all
putting_next g grid f all first old now next k end le a =
    let z : end - k ≡ 0 = omega arith in
    let none : laws_size g (instances_from f k (end - k)) ≡ 0 = ap (λ n. laws_size g (instances_from f k n)) z in
    let vars = a.vars in
    omega arith

pub putting_done : (g : Graph) (grid : GridSize) (f : ℕ → List Instance) (all : List Instance) (first : ℕ) (old now : Assignment) (next k end : ℕ) → end ≤ k →
    IsPuttingLaws g grid f all first old now next k end → PutsLaws g grid all first old now
putting_done g grid f all first old now next k end le a =
    let is = putting_next g grid f all first old now next k end le a in
    let from = a.from in
    let z : end - k ≡ 0 = omega arith in
    record {
      same = record { below = a.same.below; above = λ y high. a.same.above y (omega arith) };
      holds = λ w agree. a.left w (λ y low. agree y (omega arith)) (subst (λ n. SatisfiesAll w
          (laws_clauses g (drawing_vars g grid) grid.width next (instances_from f k n))) (sym z) tt);
    }

-- TWO LISTS
pub puts_both : (g : Graph) (grid : GridSize) (xs ys : List Instance) (first next : ℕ) (old mid new : Assignment) → PutsLaws g grid xs first old mid →
    next ≡ first + laws_size g xs → PutsLaws g grid ys next mid new → PutsLaws g grid (xs ++ ys) first old new
puts_both g grid xs ys first next old mid new p is q =
    let x = drawing_vars g grid in
    let sizes = size_append g xs ys in
    record {
      same = record {
        below = λ y low. q.same.below y (omega arith) ∙ p.same.below y low;
        above = λ y high. q.same.above y (omega arith) ∙ p.same.above y (omega arith);
      };
      holds = λ w agree.
          subst (λ (cs : Clauses). SatisfiesAll w cs) (sym (laws_append g x grid.width first xs ys))
          (satisfies_append w (laws_clauses g x grid.width first xs) (laws_clauses g x grid.width (first + laws_size g xs) ys)
          (p.holds w (λ y low. agree y (omega arith) ∙ q.same.below y (omega arith)))
          (subst (λ n. SatisfiesAll w (laws_clauses g x grid.width n ys)) is (q.holds w (λ y low. agree y (omega arith)))));
    }

-- laws without variables: whatever is put, their clauses hold
pub record PutsNone (g : Graph) (grid : GridSize) (laws : List Instance) (first : ℕ) (v : Assignment) : Type 0 where
  pub none : laws_size g laws ≡ 0
  pub puts : PutsLaws g grid laws first v v

pub none_of : (g : Graph) (grid : GridSize) (first : ℕ) (v : Assignment) → PutsNone g grid [] first v
none_of g grid first v = record { none = refl; puts = record { same = same_none first 0 v; holds = λ w agree. tt } }

pub none_both : (g : Graph) (grid : GridSize) (xs ys : List Instance) (first : ℕ) (v : Assignment) → PutsNone g grid xs first v → PutsNone g grid ys first v →
    PutsNone g grid (xs ++ ys) first v
none_both g grid xs ys first v p q =
    let sizes = size_append g xs ys in
    let a = p.none in
    let b = q.none in
    record { none = omega arith; puts = puts_both g grid xs ys first first v v v p.puts (omega arith) q.puts }

pub none_listed : (g : Graph) (grid : GridSize) (f : ℕ → List Instance) (from n first : ℕ) (v : Assignment) →
    ((k : ℕ) → from ≤ k → k < from + n → PutsNone g grid (f k) first v) → PutsNone g grid (instances_from f from n) first v
none_listed g grid f from zero first v h = none_of g grid first v
none_listed g grid f from (suc n) first v h =
    none_both g grid (f from) (instances_from f (from + 1) n) first v (h from (omega arith) (omega arith))
    (none_listed g grid f (from + 1) n first v (λ k low high. h k (omega arith) (omega arith)))

pub none_pairs : (g : Graph) (grid : GridSize) (f : ℕ → ℕ → List Instance) (n first : ℕ) (v : Assignment) →
    ((a b : ℕ) → IsPair n a b → PutsNone g grid (f a b) first v) → PutsNone g grid (instance_pairs n f) first v
none_pairs g grid f n first v h =
    none_listed g grid (pairs_from n f) 0 n first v (λ a low high. none_listed g grid (f a) (a + 1) (n - (a + 1)) first v (λ b from to. h a b (record {
      rising = omega arith;
      within = omega arith;
    })))

-- one law
one_holds : (g : Graph) (grid : GridSize) (i : Instance) (first : ℕ) (w : Assignment) →
    SatisfiesAll w (instance_clauses g (drawing_vars g grid) grid.width i first []) →
    SatisfiesAll w (laws_clauses g (drawing_vars g grid) grid.width first (i ∷ []))
one_holds g grid i first w h = subst (λ (cs : Clauses). SatisfiesAll w cs) (sym (append-nil (instance_clauses g (drawing_vars g grid) grid.width i first []))) h

none_one : (g : Graph) (grid : GridSize) (i : Instance) (first : ℕ) (v : Assignment) → instance_size g i ≡ 0 →
    ((w : Assignment) → ((y : ℕ) → y < first → w y ≡ v y) → SatisfiesAll w (instance_clauses g (drawing_vars g grid) grid.width i first [])) →
    PutsNone g grid (i ∷ []) first v
none_one g grid i first v none h = record {
  none = omega arith;
  puts = record { same = same_none first (laws_size g (i ∷ [])) v; holds = λ w agree. one_holds g grid i first w (h w (λ y low. agree y (omega arith))) };
}

pub none_ordered : (g : Graph) (grid : GridSize) (d : Drawing) (u n first : ℕ) (v : Assignment) → IsPair (length g.nodes) u n → IsPutTo g grid d v first →
    NodesAreOrdered g d u n → PutsNone g grid (Ordered u n ∷ []) first v
none_ordered g grid d u n first v pair p h =
    let x = drawing_vars g grid in
    let rising = pair.rising in
    let within = pair.within in
    none_one g grid (Ordered u n) first v refl (λ w agree.
    let r = put_to_read g grid d v w first p agree in
    ordered_holds w (int_cmp (mileage g u) (mileage g n)) (x.node u).x (x.node n).x (place d u).x (place d n).x [] (r.reads.points u (omega arith)).x
    (r.reads.points n within).x (inr h))

pub none_aligned : (g : Graph) (grid : GridSize) (d : Drawing) (n first : ℕ) (v : Assignment) → n < length g.nodes → IsPutTo g grid d v first →
    NodeIsAligned g d n → PutsNone g grid (Aligned n ∷ []) first v
none_aligned g grid d n first v lt p h =
    let x = drawing_vars g grid in
    none_one g grid (Aligned n) first v refl (λ w agree.
    let r = put_to_read g grid d v w first p agree in
    aligned_holds w g x grid.width d n [] p.graph lt r.reads (inr h))

none_over : (g : Graph) (grid : GridSize) (d : Drawing) (e f first : ℕ) (v : Assignment) → e < length g.edges → f < length g.edges → IsPutTo g grid d v first →
    EdgeIsOver g d e f → PutsNone g grid (Over e f ∷ []) first v
none_over g grid d e f first v le lf p h =
    let x = drawing_vars g grid in
    none_one g grid (Over e f) first v refl (λ w agree.
    let r = put_to_read g grid d v w first p agree in
    over_holds w g x grid d e f False [] r le lf (inr (inr h)))

-- LAW 5
apart_hold : (w : Assignment) (o : Ordering) (first : ℕ) (a b : NodeInts) (p q : Point) → ReadsPoint w a p → ReadsPoint w b q → InOrder o p.x q.x →
    (p ≡ q → ⊥) → ApartBits o w first p q → SatisfiesAll w (apart_clauses o first a b [])
apart_hold w Less first a b p q ra rb order ne bits = west_holds w first a b p q [] ra rb (inr (order, (ne, (bits.0, bits.1))))
apart_hold w Equal first a b p q ra rb order ne bits =
    differ_holds w first False a.y b.y p.y q.y [] ra.y rb.y (inr (inr ((λ ey. ne (same_points p q order ey)), bits)))
  where
    same_points : (p q : Point) → p.x ≡ q.x → p.y ≡ q.y → p ≡ q
    same_points p q ex ey = ap (λ k. let r : Point = record { x = k; y = p.y } in r) ex ∙ ap (λ k. let r : Point = record { x = q.x; y = k } in r) ey
apart_hold w Greater first a b p q ra rb order ne bits = west_holds w first b a q p [] rb ra (inr (order, ((λ e. ne (sym e)), (bits.0, bits.1))))

bits_kept : (o : Ordering) (v w : Assignment) (first : ℕ) (p q : Point) → ((y : ℕ) → y < first + apart_size o → w y ≡ v y) → ApartBits o v first p q →
    ApartBits o w first p q
bits_kept Less v w first p q same bits = (same first (omega arith) ∙ bits.0, same (first + 1) (omega arith) ∙ bits.1)
bits_kept Equal v w first p q same bits = same first (omega arith) ∙ bits
bits_kept Greater v w first p q same bits = (same first (omega arith) ∙ bits.0, same (first + 1) (omega arith) ∙ bits.1)

pub apart_puts : (g : Graph) (grid : GridSize) (d : Drawing) (u n first : ℕ) (old new : Assignment) (o : Ordering) (p q : Point) → IsPair (length g.nodes) u n →
    IsPutTo g grid d old first → NodesAreOrdered g d u n → NodesAreApart d u n → o ≡ int_cmp (mileage g u) (mileage g n) → p ≡ place d u → q ≡ place d n →
    ApartBits o new first p q → SameOutside first (apart_size o) old new → PutsLaws g grid (Apart u n ∷ []) first old new
apart_puts g grid d u n first old new o p q pair put ordered apart eo ep eq bits same =
    let x = drawing_vars g grid in
    let c = int_cmp (mileage g u) (mileage g n) in
    let rising = pair.rising in
    let within = pair.within in
    let size : apart_size o ≡ apart_size c = ap apart_size eo in
    let told : ApartBits c new first (place d u) (place d n) =
    subst (λ (k : Ordering). ApartBits k new first (place d u) (place d n)) eo (subst (λ (k : Point). ApartBits o new first (place d u) k) eq
    (subst (λ (k : Point). ApartBits o new first k q) ep bits)) in
    record {
      same = record { below = same.below; above = λ y high. same.above y (omega arith) };
      holds = λ w agree.
          let r = put_to_read g grid d old w first put (λ y low. agree y (omega arith) ∙ same.below y low) in
          one_holds g grid (Apart u n) first w
          (apart_hold w c first (x.node u) (x.node n) (place d u) (place d n) (r.reads.points u (omega arith)) (r.reads.points n within) ordered apart
          (bits_kept c new w first (place d u) (place d n) (λ y low. agree y (omega arith)) told));
    }

-- LAWS 6 AND 7
-- the truth value tells which of two parted edges is over the other
parted_by : (g : Graph) (d : Drawing) (e f : ℕ) (b : Bool) → (IsTrue b ↔ EdgeIsOver g d e f) → EdgesAreParted g d e f → (w : Bool) → w ≡ b →
    ((w ≡ true) × EdgeIsOver g d e f) ⊎ ((w ≡ false) × EdgeIsOver g d f e)
parted_by g d e f true tells parted w is = inl (is, tells.0 refl)
parted_by g d e f false tells (inl over) w is = absurd (false≢true (tells.1 over))
parted_by g d e f false tells (inr under) w is = inr (is, under)

-- two edges, of which the table says that one is above the other or that they don't overlap
pub settled_puts : (g : Graph) (grid : GridSize) (d : Drawing) (above overlap : ℕ → ℕ → Bool) (e f first : ℕ) (v : Assignment) → IsPair (length g.edges) e f →
    IsPutTo g grid d v first → ((a b : ℕ) → IsAbovePair g above a b → EdgeIsOver g d a b) → (above e f || (above f e || not (overlap e f))) ≡ true →
    PutsNone g grid (edge_pair above overlap e f) first v
settled_puts g grid d above overlap e f first v pair put over h = cases (above e f) (above f e) (overlap e f) refl refl h
  where
    le : e < length g.edges
    le = let rising = pair.rising in let within = pair.within in omega arith

    upper : (b : Bool) → above e f ≡ b → PutsNone g grid (cond b (Over e f ∷ []) []) first v
    upper true is = none_over g grid d e f first v le pair.within put (over e f (record { first = le; second = pair.within; is_above = is }))
    upper false is = none_of g grid first v

    lower : (b : Bool) → above f e ≡ b → PutsNone g grid (cond b (Over f e ∷ []) []) first v
    lower true is = none_over g grid d f e first v pair.within le put (over f e (record { first = pair.within; second = le; is_above = is }))
    lower false is = none_of g grid first v

    cases : (a b o : Bool) → above e f ≡ a → above f e ≡ b → (a || (b || not o)) ≡ true →
        PutsNone g grid (cond a (Over e f ∷ []) [] ++ (cond b (Over f e ∷ []) [] ++ cond (a || (b || not o)) [] (Parted e f ∷ []))) first v
    cases a b o ea eb on =
        none_both g grid (cond a (Over e f ∷ []) []) (cond b (Over f e ∷ []) [] ++ cond (a || (b || not o)) [] (Parted e f ∷ [])) first v (upper a ea)
        (none_both g grid (cond b (Over f e ∷ []) []) (cond (a || (b || not o)) [] (Parted e f ∷ [])) first v (lower b eb)
        (subst (λ k. PutsNone g grid (cond k [] (Parted e f ∷ [])) first v) (sym on) (none_of g grid first v)))

-- two edges that are parted, of which the variable says that the first is over the second
pub record PutsParted (g : Graph) (grid : GridSize) (laws : List Instance) (first : ℕ) (old new : Assignment) : Type 0 where
  pub one : laws_size g laws ≡ 1
  pub puts : PutsLaws g grid laws first old new

pub parted_puts : (g : Graph) (grid : GridSize) (d : Drawing) (above overlap : ℕ → ℕ → Bool) (e f first : ℕ) (old new : Assignment) (b : Bool) →
    IsPair (length g.edges) e f → IsPutTo g grid d old first → (above e f || (above f e || not (overlap e f))) ≡ false → EdgesAreParted g d e f →
    (IsTrue b ↔ EdgeIsOver g d e f) → new first ≡ b → SameOutside first 1 old new → PutsParted g grid (edge_pair above overlap e f) first old new
parted_puts g grid d above overlap e f first old new b pair put off parted tells is same = cases (above e f) (above f e) (overlap e f) off
  where
    le : e < length g.edges
    le = let rising = pair.rising in let within = pair.within in omega arith

    alone : PutsParted g grid (Parted e f ∷ []) first old new
    alone = record {
      one = refl;
      puts = record {
        same = same;
        holds = λ w agree.
            let r = put_to_read g grid d old w first put (λ y low. agree y (omega arith) ∙ same.below y low) in
            one_holds g grid (Parted e f) first w
            (parted_holds w g (drawing_vars g grid) grid d e f first [] r le pair.within
            (inr (parted_by g d e f b tells parted (w first) (agree first (omega arith) ∙ is))));
      };
    }

    cases : (a c o : Bool) → (a || (c || not o)) ≡ false → PutsParted g grid (cond a (Over e f ∷ []) []
        ++ (cond c (Over f e ∷ []) [] ++ cond (a || (c || not o)) [] (Parted e f ∷ []))) first old new
    cases true c o h = cc
    cases false true o h = cc
    cases false false true h = alone
    cases false false false h = cc

-- the tables' answers, spelt otherwise
pub settled_is : (s a b o p q r : Bool) → s ≡ (a || (b || not o)) → a ≡ p → b ≡ q → o ≡ r → s ≡ (p || (q || not r))
settled_is s a b o p q r h ea eb eo = h ∙ ap (λ k. k || (b || not o)) ea ∙ ap (λ k. p || (k || not o)) eb ∙ ap (λ k. p || (q || not k)) eo

pub parted_size : (g : Graph) (above overlap : ℕ → ℕ → Bool) (e f : ℕ) → (above e f || (above f e || not (overlap e f))) ≡ false →
    laws_size g (edge_pair above overlap e f) ≡ 1
parted_size g above overlap e f off = cases (above e f) (above f e) (overlap e f) off
  where
    cases : (a c o : Bool) → (a || (c || not o)) ≡ false → laws_size g (cond a (Over e f ∷ []) []
        ++ (cond c (Over f e ∷ []) [] ++ cond (a || (c || not o)) [] (Parted e f ∷ []))) ≡ 1
    cases true c o h = cc
    cases false true o h = cc
    cases false false true h = refl
    cases false false false h = cc

pub one_variable : (first : ℕ) (old new : Assignment) → ((k : ℕ) → (k ≡ first → ⊥) → new k ≡ old k) → SameOutside first 1 old new
one_variable first old new others = record { below = λ y low. others y (λ e. omega arith); above = λ y high. others y (λ e. omega arith) }

-- edges that aren't settled are unordered, and so parted
pub unsettled_parted : (g : Graph) (t : EdgeOrder) (d : Drawing) (e f : ℕ) → IsPair (length g.edges) e f → IsOrderOf g t →
    ((a b : ℕ) → IsOtherPair g (is_above t) a b → EdgesAreParted g d a b) → (is_above t e f || (is_above t f e || not (is_overlap t e f))) ≡ false →
    EdgesAreParted g d e f
unsettled_parted g t d e f pair order parted off = cases (is_above t e f) (is_above t f e) (is_overlap t e f) refl refl refl off
  where
    le : e < length g.edges
    le = let rising = pair.rising in let within = pair.within in omega arith

    cases : (a b o : Bool) → is_above t e f ≡ a → is_above t f e ≡ b → is_overlap t e f ≡ o → (a || (b || not o)) ≡ false → EdgesAreParted g d e f
    cases true b o ea eb eo h = cc
    cases false true o ea eb eo h = cc
    cases false false false ea eb eo h = cc
    cases false false true ea eb eo h = parted e f (record { pair = pair; overlap = (order.overlap e f le pair.within).0 eo; not_above = ea; not_below = eb })

-- ALL LAWS
pub all_put : (g : Graph) (grid : GridSize) (d : Drawing) (above overlap : ℕ → ℕ → Bool) (first next : ℕ) (old mid new : Assignment) → Lawful g above grid d →
    IsPutTo g grid d old first → PutsLaws g grid (instance_pairs (length g.nodes) (λ u v. Apart u v ∷ [])) first old mid →
    next ≡ first + laws_size g (instance_pairs (length g.nodes) (λ u v. Apart u v ∷ [])) →
    PutsLaws g grid (instance_pairs (length g.edges) (edge_pair above overlap)) next mid new → PutsLaws g grid (instances g above overlap) first old new
all_put g grid d above overlap first next old mid new lawful put p is q =
    let one = none_pairs g grid (λ u v. Ordered u v ∷ []) n first old (λ a b pair. none_ordered g grid d a b first old pair put
    (lawful.laws (Ordered a b) pair)) in
    let two = none_listed g grid (λ k. Aligned k ∷ []) 0 n first old (λ k low high. let lt : k < n = omega arith in none_aligned g grid d k first old lt put
    (lawful.laws (Aligned k) lt)) in
    let a = one.none in
    let b = two.none in
    puts_both g grid (instance_pairs n (λ u v. Ordered u v ∷ [])) (instances_from (λ k. Aligned k ∷ []) 0 n ++ (apart ++ edges)) first first old old new
    one.puts (omega arith)
    (puts_both g grid (instances_from (λ k. Aligned k ∷ []) 0 n) (apart ++ edges) first first old old new two.puts (omega arith)
    (puts_both g grid apart edges first next old mid new p is q))
  where
    n : ℕ
    n = length g.nodes

    apart : List Instance
    apart = instance_pairs n (λ u v. Apart u v ∷ [])

    edges : List Instance
    edges = instance_pairs (length g.edges) (edge_pair above overlap)

-- how many variables laws 5 and 7 have, of all
pub sizes_of_all : (g : Graph) (grid : GridSize) (d : Drawing) (above overlap : ℕ → ℕ → Bool) (v : Assignment) (first : ℕ) → Lawful g above grid d →
    IsPutTo g grid d v first → laws_size g (instances g above overlap) ≡ laws_size g (instance_pairs (length g.nodes) (λ u v. Apart u v ∷ [])) + laws_size g
    (instance_pairs (length g.edges) (edge_pair above overlap))
sizes_of_all g grid d above overlap v first lawful put =
    let n = length g.nodes in
    let xs = instance_pairs n (λ u v. Ordered u v ∷ []) in
    let ys = instances_from (λ k. Aligned k ∷ []) 0 n in
    let zs = instance_pairs n (λ u v. Apart u v ∷ []) in
    let es = instance_pairs (length g.edges) (edge_pair above overlap) in
    let one = none_pairs g grid (λ u v. Ordered u v ∷ []) n first v (λ a b pair. none_ordered g grid d a b first v pair put (lawful.laws (Ordered a b) pair)) in
    let two = none_listed g grid (λ k. Aligned k ∷ []) 0 n first v (λ k low high. let lt : k < n = omega arith in none_aligned g grid d k first v lt put
    (lawful.laws (Aligned k) lt)) in
    let a = one.none in
    let b = two.none in
    let s = size_append g xs (ys ++ (zs ++ es)) in
    let t = size_append g ys (zs ++ es) in
    let u = size_append g zs es in
    omega arith
