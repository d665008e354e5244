-- Clauses as sets of literals, and what is closed over them.
use Rattle.std.proofs.Common.{◌≡◌, ℕ, zero, suc, ◌+◌, ◌<◌, Bool, true, false, List, [], ◌∷◌, ◌++◌, length, get_or, map, refl, sym, ◌∙◌, ap, subst, inl, inr}
use Rattle.std.proofs.Common.{arith}
use Rattle.std.specs.Prelude.{Contains}
use Rattle.std.proofs.lemmas.List.{map-append, append_assoc}
use Rattle.std.proofs.lemmas.List.Elements.{Contains-append_cases, Contains-append_left, Contains-append_right}
use Rattle.cnf_core.specs.Lit.{Literal, negate}
use Rattle.cnf_core.specs.Clause.{Clauses, words_of}
use Rattle.cnf_core.specs.Propagation.{LiteralSet, IsIn, AreAmong, SameLiterals, IsClosure}
use Rattle.cnf_core.proofs.PropagationLemmas.{all_same, closed_among, same_back}
use Rattle.watch_arena.specs.Arena.{Attached, attached_at, attached_clauses, IsSameText, IsMoreText}
use Rattle.cdcl_learn.specs.Levels.{IsStable}
use Rattle.cdcl_core.specs.Kept.{AreSameClauses}
use Rattle.cdcl_core.specs.Roots.{all_of}

pub not_both : (b : Bool) → b ≡ true → b ≡ false → ⊥
not_both b h k = cc

pub among_itself : (cs : Clauses) → AreAmong cs cs
among_itself cs = λ c h. (c, h, λ l. (λ m. m, λ m. m))

pub among_more : (a b c : Clauses) → AreAmong a b → AreAmong b c → AreAmong a c
among_more a b c f g = λ x m.
    let y = f x m in
    let z = g y.0 y.1 in
    (z.0, z.1, λ l. (λ h. (z.2 l).0 ((y.2 l).0 h), λ h. (y.2 l).1 ((z.2 l).1 h)))

pub among_append : (a b c d : Clauses) → AreAmong a c → AreAmong b d → AreAmong (a ++ b) (c ++ d)
among_append a b c d f g = λ x m. elim (Contains-append_cases a b x m) [
  | inl h ↦ let y = f x h in (y.0, Contains-append_left c d y.0 y.1, y.2)
  | inr h ↦ let y = g x h in (y.0, Contains-append_right c d y.0 y.1, y.2)
]

pub among_equal : (a b : Clauses) → a ≡ b → AreAmong a b
among_equal a b e = subst (λ (x : Clauses). AreAmong a x) e (among_itself a)

-- the last two parts change places
pub among_turned : (a b c : Clauses) → AreAmong ((a ++ b) ++ c) ((a ++ c) ++ b)
among_turned a b c = λ x m. elim (Contains-append_cases (a ++ b) c x m) [
  | inl h ↦ elim (Contains-append_cases a b x h) [
    | inl k ↦ (x, Contains-append_left (a ++ c) b x (Contains-append_left a c x k), λ l. (λ n. n, λ n. n))
    | inr k ↦ (x, Contains-append_right (a ++ c) b x k, λ l. (λ n. n, λ n. n))
  ]
  | inr h ↦ (x, Contains-append_left (a ++ c) b x (Contains-append_right a c x h), λ l. (λ n. n, λ n. n))
]

pub same_itself : (cs : Clauses) → AreSameClauses cs cs
same_itself cs = record { there = among_itself cs; back = among_itself cs }

pub same_more : (a b c : Clauses) → AreSameClauses a b → AreSameClauses b c → AreSameClauses a c
same_more a b c f g = record { there = among_more a b c f.there g.there; back = among_more c b a g.back f.back }

pub same_append : (a b c d : Clauses) → AreSameClauses a c → AreSameClauses b d → AreSameClauses (a ++ b) (c ++ d)
same_append a b c d f g = record { there = among_append a b c d f.there g.there; back = among_append c d a b f.back g.back }

pub same_after : (a b now : Clauses) (c : List Literal) → AreSameClauses a b → AreSameClauses (b ++ c ∷ []) now → AreSameClauses (a ++ c ∷ []) now
same_after a b now c f g = same_more (a ++ c ∷ []) (b ++ c ∷ []) now (same_append a (c ∷ []) b (c ∷ []) f (same_itself (c ∷ []))) g

pub same_turned : (a b c : Clauses) → AreSameClauses ((a ++ b) ++ c) ((a ++ c) ++ b)
same_turned a b c = record { there = among_turned a b c; back = among_turned a c b }

pub same_equal : (a b : Clauses) → a ≡ b → AreSameClauses a b
same_equal a b e = record { there = among_equal a b e; back = among_equal b a (sym e) }

-- a closed set that falsifies no clause is so for whatever clauses have the same literals
pub quiet_among : (clauses more : Clauses) (set : LiteralSet) → AreAmong more clauses → IsStable clauses set → IsStable more set
quiet_among clauses more set there quiet = record {
  closed = closed_among more clauses set there quiet.closed;
  unfalsified = λ f.
      let d = there f.clause f.among in
      quiet.unfalsified (record { clause = d.0; among = d.1; each = all_same (λ k. IsIn set (negate k)) f.clause d.0 d.2 f.each });
}

pub quiet_closure : (clauses : Clauses) (start set : LiteralSet) → IsClosure clauses start set → IsStable clauses set
quiet_closure clauses start set c = record { closed = c.closed; unfalsified = c.unfalsified }

pub quiet_both : (xs ys : Clauses) (set : LiteralSet) → IsStable xs set → IsStable ys set → IsStable (xs ++ ys) set
quiet_both xs ys set p r = record {
  closed = λ c among l unit. elim (Contains-append_cases xs ys c among) [ inl h ↦ p.closed c h l unit | inr h ↦ r.closed c h l unit ];
  unfalsified = λ f. elim (Contains-append_cases xs ys f.clause f.among) [
    | inl h ↦ p.unfalsified (record {
      clause = f.clause;
      among = h;
      each = f.each;
    })
    | inr h ↦ r.unfalsified (record { clause = f.clause; among = h; each = f.each })
  ];
}

-- the clauses of an arena, by their places
pub text_of_place : (a : Attached) (p : ℕ) → Contains a.places p → Contains (attached_clauses a) (attached_at a p)
text_of_place a p h = mapped a.places h.0 h.1 h.2
  where
    mapped : (ps : List ℕ) (i : ℕ) → i < length ps → get_or ps i p ≡ p → Contains (map (attached_at a) ps) (attached_at a p)
    mapped [] i lt e = absurd (omega arith)
    mapped (q ∷ ps) zero lt e = subst (λ (c : List Literal). Contains (map (attached_at a) (q ∷ ps)) c) (ap (attached_at a) e)
        (contains_head (attached_at a q) (map (attached_at a) ps))
      where
        contains_head : (c : List Literal) (cs : Clauses) → Contains (c ∷ cs) c
        contains_head c cs = (0, omega arith, refl)
    mapped (q ∷ ps) (suc i) lt e = let r = mapped ps i (omega arith) e in let within = r.1 in (suc r.0, omega arith, r.2)

pub record IsPlaced (a : Attached) (ps : List ℕ) (c : List Literal) : Type 0 where
  pub place : ℕ
  pub among : Contains ps place
  pub is : attached_at a place ≡ c

pub place_of_text : (a : Attached) (ps : List ℕ) (c : List Literal) → Contains (map (attached_at a) ps) c → IsPlaced a ps c
place_of_text a ps c h = at_index ps h.0 h.1 h.2
  where
    at_index : (ps : List ℕ) (i : ℕ) → i < length (map (attached_at a) ps) → get_or (map (attached_at a) ps) i c ≡ c → IsPlaced a ps c
    at_index [] i lt e = absurd (omega arith)
    at_index (q ∷ ps) zero lt e = record { place = q; among = (0, omega arith, refl); is = e }
    at_index (q ∷ ps) (suc i) lt e = let r = at_index ps i (omega arith) e in let among = r.among in let within = among.1 in record {
      place = r.place;
      among = (suc among.0, omega arith, among.2);
      is = r.is;
    }

-- propagation leaves each clause's literals
pub same_text : (a b : Attached) → IsSameText a b → AreSameClauses (attached_clauses a) (attached_clauses b)
same_text a b same = record {
  there = λ c m.
      let p = place_of_text a a.places c m in (
        attached_at b p.place,
        text_of_place b p.place (subst (λ (ps : List ℕ). Contains ps p.place) (sym same.places) p.among),
        subst
            (λ (d : List Literal). SameLiterals d (attached_at b p.place)) p.is (same.lits p.place p.among),
      );
  back = λ c m.
      let p = place_of_text b b.places c m in
      let among : Contains a.places p.place = subst (λ (ps : List ℕ). Contains ps p.place) same.places p.among in (
        attached_at a p.place,
        text_of_place a p.place among,
        subst (λ (d : List Literal). SameLiterals d (attached_at a p.place)) p.is
            (same_back (attached_at a p.place) (attached_at b p.place) (same.lits p.place among)),
      );
}

pub same_kept : (a b : Attached) (own : Clauses) → IsSameText a b → AreSameClauses (all_of a own) (all_of b own)
same_kept a b own same = same_append (attached_clauses a) own (attached_clauses b) own (same_text a b same) (same_itself own)

-- a clause comes behind the others
pub text_added : (a b : Attached) (p : ℕ) (lits : List Literal) → IsMoreText a b → b.places ≡ a.places ++ p ∷ [] → attached_at b p ≡ lits →
    attached_clauses b ≡ attached_clauses a ++ lits ∷ []
text_added a b p lits more places is =
    ap (map (attached_at b)) places ∙ map-append (attached_at b) a.places (p ∷ [])
    ∙ ap (λ (c : List Literal). map (attached_at b) a.places ++ c ∷ []) is
    ∙ ap (λ (cs : Clauses). cs ++ lits ∷ []) (agree a.places (λ q c. more.lits q c))
  where
    agree : (ps : List ℕ) → ((q : ℕ) → Contains ps q → attached_at b q ≡ attached_at a q) → map (attached_at b) ps ≡ map (attached_at a) ps
    agree [] h = refl
    agree (q ∷ ps) h = ap (λ (c : List Literal). c ∷ map (attached_at b) ps) (h q (0, omega arith, refl))
        ∙ ap (λ (cs : Clauses). attached_at a q ∷ cs) (agree ps (λ r c. let within = c.1 in h r (suc c.0, omega arith, c.2)))

pub same_attached : (a b : Attached) (own : Clauses) (c : List Literal) → attached_clauses b ≡ attached_clauses a ++ c ∷ [] →
    AreSameClauses (all_of a own ++ c ∷ []) (all_of b own)
same_attached a b own c e = same_more (all_of a own ++ c ∷ []) ((attached_clauses a ++ c ∷ []) ++ own) (all_of b own)
    (same_turned (attached_clauses a) own (c ∷ [])) (same_equal ((attached_clauses a ++ c ∷ []) ++ own) (all_of b own)
    (ap (λ (cs : Clauses). cs ++ own) (sym e)))

pub same_owned : (a : Attached) (own now : Clauses) (c : List Literal) → now ≡ own ++ c ∷ [] → AreSameClauses (all_of a own ++ c ∷ []) (all_of a now)
same_owned a own now c e = same_equal (all_of a own ++ c ∷ []) (all_of a now) (append_assoc (attached_clauses a) own (c ∷ [])
    ∙ ap (λ (cs : Clauses). attached_clauses a ++ cs) (sym e))

-- words
pub words_push : (cs : Clauses) (c : List Literal) → words_of (cs ++ c ∷ []) ≡ words_of cs + length c + 3
words_push [] c = omega arith
words_push (d ∷ cs) c = omega (arith, words_push cs c)
