-- Clauses of two and of three literals: what stands beside a literal, and what a look at it says of the clause.
use Rattle.std.proofs.Common.{◌≡◌, ℕ, ◌+◌, ◌<◌, ◌⊎◌, Bool, true, false, cond, zero, suc, List, [], ◌∷◌, ◌++◌, length, get_or, take, refl, sym, ◌∙◌, ap, subst}
use Rattle.std.proofs.Common.{inl, inr, arith}
use Rattle.std.specs.Prelude.{All, Contains}
use Rattle.std.proofs.lemmas.Bool.{both_ways}
use Rattle.std.proofs.lemmas.List.{get_or_default}
use Rattle.std.proofs.lemmas.List.Elements.{All-weaker, All-nil, All-cons, All-append, All-more, All-contains, Contains-append_left, Contains-append_right}
use Rattle.cnf_core.specs.Lit.{Literal, same_literal, has}
use Rattle.cnf_core.specs.Clause.{Clauses, IsThere, AreThere, AllThere}
use Rattle.cnf_core.specs.Propagation.{LiteralSet, Includes, Falsified}
use Rattle.cnf_core.proofs.PropagationLemmas.{contains_first, contains_later}
use Rattle.cnf_core.proofs.GrowthLemmas.{grows_none, grows_more}
use Rattle.cnf_core.proofs.TrailLemmas.{same_literal_or, there_all}
use Rattle.cnf_core.proofs.ClauseLemmas.{there_at}
use Rattle.cnf_core.specs.Trail.{IsTrail, Grows}
use Rattle.refute_check.specs.declared.places.Rest.{Rest}
use Rattle.refute_check.specs.Entries.{is_short, other_of, rest_of, beside, IsRest, IsShort, shorts_in, shorts_from}
use Rattle.refute_check.specs.Tables.{IsQuiet, IsUnsetUnit, IsRestQuiet}
use Rattle.refute_check.proofs.ScanLemmas.{IsFalse, IsLastOr}
use Rattle.refute_check.proofs.FalseCountLemmas.{has_cons_same, has_cons_other}
use Rattle.refute_check.proofs.GrowthLemmas.{quiet_more, quiet_part, quiet_marked}

-- the other of two literals
flat : (t : Bool) → cond t true false ≡ t
flat true = refl
flat false = refl

pub other_first : (a b l : Literal) → a ≡ l → other_of a b l ≡ b
other_first a b l e = ap (λ t. cond t b a) (sym (flat (same_literal a l)) ∙ has_cons_same a l [] e)

pub other_last : (a b l : Literal) → (a ≡ l → ⊥) → other_of a b l ≡ a
other_last a b l ne = ap (λ t. cond t b a) (sym (flat (same_literal a l)) ∙ has_cons_other a l [] ne)

-- a clause's literals are one of it and those beside it
last_is : (b l : Literal) → has (b ∷ []) l ≡ true → b ≡ l
last_is b l h = elim (same_literal_or b l) [ inl e ↦ e | inr ne ↦ absurd (both_ways false refl (sym (has_cons_other b l [] ne) ∙ h)) ]

later_has : (a l : Literal) (c : List Literal) → (a ≡ l → ⊥) → has (a ∷ c) l ≡ true → has c l ≡ true
later_has a l c ne h = sym (has_cons_other a l c ne) ∙ h

abbrev IsOneOf : Literal → Rest → Literal → Type 0
IsOneOf l rest k = (k ≡ l) ⊎ ((k ≡ rest.first) ⊎ (k ≡ rest.last))

two_parts : (a b l : Literal) → has (a ∷ b ∷ []) l ≡ true → (o : Literal) → o ≡ other_of a b l → IsRest (a ∷ b ∷ []) l (beside o o)
two_parts a b l h o is = elim (same_literal_or a l) [
  | inl e ↦
      let at : b ≡ o = sym (is ∙ other_first a b l e) in
      record {
        only = All-cons (IsOneOf l (beside o o)) a (b ∷ []) (inl e) (All-cons (IsOneOf l (beside o o)) b [] (inr (inl at)) (All-nil (IsOneOf l (beside o o))));
        first = subst (λ (k : Literal). Contains (a ∷ b ∷ []) k) at (contains_later a b (b ∷ []) (contains_first b []));
        last = subst (λ (k : Literal). Contains (a ∷ b ∷ []) k) at (contains_later a b (b ∷ []) (contains_first b []));
      }
  | inr ne ↦
      let at : a ≡ o = sym (is ∙ other_last a b l ne) in
      record {
        only = All-cons (IsOneOf l (beside o o)) a (b ∷ []) (inr (inl at)) (All-cons (IsOneOf l (beside o o)) b []
            (inl (last_is b l (later_has a l (b ∷ []) ne h))) (All-nil (IsOneOf l (beside o o))));
        first = subst (λ (k : Literal). Contains (a ∷ b ∷ []) k) at (contains_first a (b ∷ []));
        last = subst (λ (k : Literal). Contains (a ∷ b ∷ []) k) at (contains_first a (b ∷ []));
      }
]

-- the first two of three, and the last two
first_of : (a b c l o : Literal) → o ≡ other_of a b l → Contains (a ∷ b ∷ c ∷ []) o
first_of a b c l o is = elim (same_literal_or a l) [
  | inl e ↦ subst (λ (k : Literal). Contains (a ∷ b ∷ c ∷ []) k) (sym (is ∙ other_first a b l e)) (contains_later a b (b ∷ c ∷ []) (contains_first b (c ∷ [])))
  | inr ne ↦ subst (λ (k : Literal). Contains (a ∷ b ∷ c ∷ []) k) (sym (is ∙ other_last a b l ne)) (contains_first a (b ∷ c ∷ []))
]

last_of : (a b c l o : Literal) → o ≡ other_of c b l → Contains (a ∷ b ∷ c ∷ []) o
last_of a b c l o is = elim (same_literal_or c l) [
  | inl e ↦ subst (λ (k : Literal). Contains (a ∷ b ∷ c ∷ []) k) (sym (is ∙ other_first c b l e)) (contains_later a b (b ∷ c ∷ []) (contains_first b (c ∷ [])))
  | inr ne ↦ subst (λ (k : Literal). Contains (a ∷ b ∷ c ∷ []) k) (sym (is ∙ other_last c b l ne))
      (contains_later a c (b ∷ c ∷ []) (contains_later b c (c ∷ []) (contains_first c [])))
]

middle_is : (a b c l : Literal) → has (a ∷ b ∷ c ∷ []) l ≡ true → (a ≡ l → ⊥) → (c ≡ l → ⊥) → b ≡ l
middle_is a b c l h na nc = elim (same_literal_or b l) [
  | inl e ↦ e
  | inr nb ↦ absurd (nc (last_is c l (later_has b l (c ∷ []) nb (later_has a l (b ∷ c ∷ []) na h))))
]

is_first : (a b l f g : Literal) → f ≡ other_of a b l → IsOneOf l (beside f g) a
is_first a b l f g is = elim (same_literal_or a l) [ inl e ↦ inl e | inr ne ↦ inr (inl (sym (is ∙ other_last a b l ne))) ]

is_last : (c b l f g : Literal) → g ≡ other_of c b l → IsOneOf l (beside f g) c
is_last c b l f g is = elim (same_literal_or c l) [ inl e ↦ inl e | inr ne ↦ inr (inr (sym (is ∙ other_last c b l ne))) ]

is_middle : (a b c l f g : Literal) → has (a ∷ b ∷ c ∷ []) l ≡ true → f ≡ other_of a b l → g ≡ other_of c b l → IsOneOf l (beside f g) b
is_middle a b c l f g h fis gis = elim (same_literal_or a l) [
  | inl e ↦ inr (inl (sym (fis ∙ other_first a b l e)))
  | inr na ↦ elim (same_literal_or c l) [
    | inl e ↦ inr (inr (sym (gis ∙ other_first c b l e)))
    | inr nc ↦ inl (middle_is a b c l h na nc)
  ]
]

three_parts : (a b c l : Literal) → has (a ∷ b ∷ c ∷ []) l ≡ true → (f g : Literal) → f ≡ other_of a b l → g ≡ other_of c b l →
    IsRest (a ∷ b ∷ c ∷ []) l (beside f g)
three_parts a b c l h f g fis gis = record {
  only = All-cons (IsOneOf l (beside f g)) a (b ∷ c ∷ []) (is_first a b l f g fis)
      (All-cons (IsOneOf l (beside f g)) b (c ∷ []) (is_middle a b c l f g h fis gis)
      (All-cons (IsOneOf l (beside f g)) c [] (is_last c b l f g gis) (All-nil (IsOneOf l (beside f g)))));
  first = first_of a b c l f fis;
  last = last_of a b c l g gis;
}

pub short_parts : (c : List Literal) (l : Literal) → is_short c ≡ true → has c l ≡ true → IsRest c l (rest_of c l)
short_parts [] l s h = cc
short_parts (a ∷ []) l s h = cc
short_parts (a ∷ b ∷ []) l s h = two_parts a b l h (other_of a b l) refl
short_parts (a ∷ b ∷ c ∷ []) l s h = three_parts a b c l h (other_of a b l) (other_of c b l) refl refl
short_parts (a ∷ b ∷ c ∷ d ∷ rest) l s h = cc

-- the list of a literal has such clauses, and all of them
short_more : (c : List Literal) (cs : Clauses) (l : Literal) (rest : Rest) → IsShort cs l rest → IsShort (c ∷ cs) l rest
short_more c cs l rest s = record { clause = s.clause; among = let m = s.among in let lt = m.1 in (suc m.0, omega arith, m.2); parts = s.parts }

short_here : (c : List Literal) (cs : Clauses) (l : Literal) (h s : Bool) → has c l ≡ h → is_short c ≡ s →
    All (IsShort (c ∷ cs) l) (cond h (cond s (rest_of c l ∷ []) []) [])
short_here c cs l true true h s = All-cons (IsShort (c ∷ cs) l) (rest_of c l) [] (record {
  clause = c;
  among = (0, omega arith, refl);
  parts = short_parts c l s h;
}) (All-nil (IsShort (c ∷ cs) l))
short_here c cs l true false h s = All-nil (IsShort (c ∷ cs) l)
short_here c cs l false s h e = All-nil (IsShort (c ∷ cs) l)

pub shorts_are : (cs : Clauses) (l : Literal) → All (IsShort cs l) (shorts_from cs l)
shorts_are [] l = All-nil (IsShort [] l)
shorts_are (c ∷ cs) l = All-append (IsShort (c ∷ cs) l) (shorts_in c l) (shorts_from cs l) (short_here c cs l (has c l) (is_short c) refl refl)
    (All-weaker (IsShort cs l) (IsShort (c ∷ cs) l) (short_more c cs l) (shorts_from cs l) (shorts_are cs l))

in_here : (c : List Literal) (l : Literal) (h s : Bool) → h ≡ true → s ≡ true → Contains (cond h (cond s (rest_of c l ∷ []) []) []) (rest_of c l)
in_here c l true true h s = (0, omega arith, refl)
in_here c l true false h s = cc
in_here c l false s h e = cc

pub short_among : (cs : Clauses) (l : Literal) (k : ℕ) → k < length cs → is_short (get_or cs k []) ≡ true → has (get_or cs k []) l ≡ true →
    Contains (shorts_from cs l) (rest_of (get_or cs k []) l)
short_among [] l k within s h = absurd (omega arith)
short_among (c ∷ cs) l zero within s h = Contains-append_left (shorts_in c l) (shorts_from cs l) (rest_of c l) (in_here c l (has c l) (is_short c) h s)
short_among (c ∷ cs) l (suc k) within s h = Contains-append_right (shorts_in c l) (shorts_from cs l) (rest_of (get_or cs k []) l)
    (short_among cs l k (omega arith) s h)

-- their variables are there
pub short_there : (vars : ℕ) (clauses : Clauses) (l : Literal) (rest : Rest) → AllThere vars clauses → IsShort clauses l rest →
    All (IsThere vars) (rest.first ∷ rest.last ∷ [])
short_there vars clauses l rest there s =
    let n = s.among.0 in
    let within : n < length clauses = s.among.1 in
    let is : get_or clauses n [] ≡ s.clause = get_or_default clauses n [] s.clause within ∙ s.among.2 in
    let all : All (IsThere vars) s.clause = there_all vars s.clause (subst (λ (c : List Literal). AreThere vars c) is (there_at vars clauses n there)) in
    All-cons (IsThere vars) rest.first (rest.last ∷ []) (All-contains (IsThere vars) s.clause rest.first all (let p = s.parts in p.first))
    (All-cons (IsThere vars) rest.last [] (All-contains (IsThere vars) s.clause rest.last all (let p = s.parts in p.last)) (All-nil (IsThere vars)))

-- a look at two literals
abbrev pub both : Rest → List Literal
both rest = rest.first ∷ rest.last ∷ []

pub both_false : (set : LiteralSet) (f g : Literal) → IsFalse set f → IsFalse set g → All (IsFalse set) (f ∷ g ∷ [])
both_false set f g hf hg = All-cons (IsFalse set) f (g ∷ []) hf (All-cons (IsFalse set) g [] hg (All-nil (IsFalse set)))

-- of the clause in which they stand beside a false literal
all_parts : (set : LiteralSet) (c : List Literal) (l : Literal) (rest : Rest) (P : Literal → Type 0) → IsRest c l rest → P l → P rest.first → P rest.last →
    All P c
all_parts set c l rest P parts hl hf hg = All-weaker (IsOneOf l rest) P (λ k h. elim h [
  | inl e ↦ subst P (sym e) hl
  | inr o ↦ elim o [ inl e ↦ subst P (sym e) hf | inr e ↦ subst P (sym e) hg ]
]) c parts.only

pub rest_falsified : (set : LiteralSet) (c : List Literal) (l : Literal) (rest : Rest) → IsRest c l rest → IsFalse set l → All (IsFalse set) (both rest) →
    All (IsFalse set) c
rest_falsified set c l rest parts hl all = all_parts set c l rest (IsFalse set) parts hl (all 0 rest.first (omega arith)) (all 1 rest.last (omega arith))

either : (f g u : Literal) (c : List Literal) → Contains c f → Contains c g → Contains (f ∷ g ∷ []) u → Contains c u
either f g u c hf hg m = All-contains (Contains c) (f ∷ g ∷ []) u (All-cons (Contains c) f (g ∷ []) hf (All-cons (Contains c) g [] hg (All-nil (Contains c)))) m

pub rest_unit : (set : LiteralSet) (c : List Literal) (l : Literal) (rest : Rest) (u : Literal) → IsRest c l rest → IsFalse set l →
    IsUnsetUnit set (both rest) u → IsUnsetUnit set c u
rest_unit set c l rest u parts hl one =
    let unit = one.unit in
    record {
      unit = record {
        among = either rest.first rest.last u c parts.first parts.last unit.among;
        others = all_parts set c l rest (IsLastOr set u) parts (inr hl) (unit.others 0 rest.first (omega arith)) (unit.others 1 rest.last (omega arith));
      };
      not_true = one.not_true;
      not_false = one.not_false;
    }

pub rest_quiet : (set : LiteralSet) (c : List Literal) (l : Literal) (rest : Rest) → IsRest c l rest → IsFalse set l → IsQuiet set set (both rest) →
    IsQuiet set set c
rest_quiet set c l rest parts hl q = record {
  closed = λ m unit.
      let hf = All-contains (IsLastOr set m) c rest.first unit.others parts.first in
      let hg = All-contains (IsLastOr set m) c rest.last unit.others parts.last in
      elim (All-contains (IsOneOf l rest) c m parts.only unit.among) [
        | inl e ↦
            let no : (k : Literal) → IsLastOr set m k → IsFalse set k = λ k h. elim h
            [ inl s ↦ subst (λ (x : Literal). IsFalse set x) (sym (s ∙ e)) hl | inr f ↦ f ] in
            absurd (q.unfalsified (both_false set rest.first rest.last (no rest.first hf) (no rest.last hg)))
        | inr o ↦ q.closed m (record {
          among = elim o [
            | inl e ↦ subst (λ (k : Literal). Contains (both rest) k) (sym e) (contains_first rest.first (rest.last ∷ []))
            | inr e ↦ subst (λ (k : Literal). Contains (both rest) k) (sym e) (contains_later rest.first rest.last (rest.last ∷ [])
                (contains_first rest.last []))
          ];
          others = All-cons (IsLastOr set m) rest.first (rest.last ∷ []) hf (All-cons (IsLastOr set m) rest.last [] hg (All-nil (IsLastOr set m)));
        })
      ];
  unfalsified = λ all. q.unfalsified (both_false set rest.first rest.last (All-contains (IsFalse set) c rest.first all parts.first)
      (All-contains (IsFalse set) c rest.last all parts.last));
}

-- what a look leaves
pub quiet_beside : (trail : List Literal) (l : Literal) (rest : Rest) → IsFalse (has trail) l → IsQuiet (has trail) (has trail) (both rest) →
    IsRestQuiet l trail trail rest
quiet_beside trail l rest hl q = λ c parts done within. quiet_part done (has trail) c within (rest_quiet (has trail) c l rest parts hl q)

pub marked_beside : (trail : List Literal) (l : Literal) (rest : Rest) (u : Literal) → IsFalse (has trail) l → IsUnsetUnit (has trail) (both rest) u →
    IsRestQuiet l trail (trail ++ u ∷ []) rest
marked_beside trail l rest u hl one = λ c parts done within. quiet_marked trail c u done (rest_unit (has trail) c l rest u parts hl one) within

pub still_beside : (l : Literal) (rest : Rest) (first old new last : List Literal) → Includes (has old) (has first) → Includes (has last) (has new) →
    IsRestQuiet l old new rest → IsRestQuiet l first last rest
still_beside l rest first old new last before after q = λ c parts done within. quiet_more done (has new) (has last) c after
    (q c parts done (λ k h. before k (within k h)))

pub falsified_beside : (clauses : Clauses) (set : LiteralSet) (l : Literal) (rest : Rest) → IsShort clauses l rest → IsFalse set l →
    All (IsFalse set) (both rest) → Falsified clauses set
falsified_beside clauses set l rest s hl all = record { clause = s.clause; among = s.among; each = rest_falsified set s.clause l rest s.parts hl all }

-- how far a list of them was looked at
pub record LookedBeside (vars : ℕ) (clauses : Clauses) (l : Literal) (rests : List Rest) (old : List Literal) (truth : List Bool) (new : List Literal) : Type
    0 where
  pub table : IsTrail vars truth new
  pub grows : Grows clauses old new
  pub quiet : All (IsRestQuiet l old new) rests

pub beside_none : (vars : ℕ) (clauses : Clauses) (l : Literal) (truth : List Bool) (trail : List Literal) → IsTrail vars truth trail →
    LookedBeside vars clauses l [] trail truth trail
beside_none vars clauses l truth trail t = record { table = t; grows = grows_none clauses trail; quiet = All-nil (IsRestQuiet l trail trail) }

pub beside_one : (vars : ℕ) (clauses : Clauses) (l : Literal) (rests : List Rest) (old : List Literal) (truth then : List Bool) (mid new : List Literal) (i : ℕ)
    (rest : Rest) → i < length rests → rest ≡ get_or rests i rest → LookedBeside vars clauses l (take i rests) old truth mid → IsTrail vars then new →
    Grows clauses mid new → IsRestQuiet l mid new rest → LookedBeside vars clauses l (take (i + 1) rests) old then new
beside_one vars clauses l rests old truth then mid new i rest within at s t g q = record {
  table = t;
  grows = grows_more clauses old mid new s.grows g;
  quiet = All-more (IsRestQuiet l old new) rests i rest within
      (All-weaker (IsRestQuiet l old mid) (IsRestQuiet l old new) (λ r h. still_beside l r old old mid new (λ k m. m) g.keeps h) (take i rests) s.quiet)
      (subst (λ (r : Rest). IsRestQuiet l old new r) at (still_beside l rest old mid new new (let k = s.grows in k.keeps) (λ k m. m) q));
}
