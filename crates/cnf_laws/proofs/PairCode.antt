-- A loop over lists of two literals: what is there, and what is left.
use Rattle.std.proofs.Common.{◌≡◌, ℕ, zero, suc, ◌+◌, ◌<◌, ◌≤◌, List, [], ◌∷◌, ◌++◌, length, drop, get_or, refl, sym, ◌∙◌, ap, subst, arith, append_assoc}
use Rattle.std.proofs.Common.{append-nil, Ok, Err}
use Rattle.std.specs.Prelude.{Result, IsErr, IsErrOf}
use Rattle.std.proofs.lemmas.List.{at_drop_more, at_drop_all}
use Rattle.cnf_core.specs.declared.fault.CnfFault.{CnfFault}
use Rattle.cnf_core.specs.declared.fault.CnfFault.TheVariants.{Room}
use Rattle.cnf_core.specs.declared.literal.LitOrTruth.{LitOrTruth}
use Rattle.cnf_core.specs.Lit.{Literal}
use Rattle.cnf_core.specs.Clause.{Clauses, words_of}
use Rattle.cnf_core.specs.LitOrTruth.{clause_of, AreWithin}
use Rattle.cnf_core.specs.Formula.{Cnf}
use Rattle.cnf_core.specs.Added.{AddsClauses}
use Rattle.cnf_core.proofs.ClauseLemmas.{words_append}
use Rattle.cnf_core.proofs.StepLemmas.{grown}
use Rattle.edge_shape.specs.Rules.{Rule}
use Rattle.cnf_laws.specs.Guards.{pair_literals, pair_clauses, unless_rules, PairsWithin}

pub record IsPairing (unless : List Literal) (old now : Cnf) (lists : List (List LitOrTruth)) (i : ℕ) : Type 0 where
  pub left : now.clauses ++ pair_clauses unless (drop i lists) ≡ old.clauses ++ pair_clauses unless lists
  pub vars : now.vars ≡ old.vars
  pub room : now.room ≡ old.room

next_pair : (unless : List Literal) (lists : List (List LitOrTruth)) (i : ℕ) (ts : List LitOrTruth) → i < length lists → ts ≡ get_or lists i ts →
    pair_clauses unless (drop i lists) ≡ clause_of unless ts ++ pair_clauses unless (drop (i + 1) lists)
next_pair unless lists i ts lt e = at_drop_more (pair_clauses unless) lists i ts lt
    ∙ ap (λ (x : List LitOrTruth). clause_of unless x ++ pair_clauses unless (drop (i + 1) lists)) (sym e)

pub pairing_more : {A : Type 0} (x : A) (unless : List Literal) (old now new : Cnf) (lists : List (List LitOrTruth)) (i longest : ℕ) (ts : List LitOrTruth) →
    i < length lists → ts ≡ get_or lists i ts → IsPairing unless old now lists i → AddsClauses (Ok x) now new (clause_of unless ts) longest →
    IsPairing unless old new lists (i + 1)
pairing_more x unless old now new lists i longest ts lt e a b = record {
  left = ap (λ (z : Clauses). z ++ pair_clauses unless (drop (i + 1) lists)) b.added
      ∙ append_assoc now.clauses (clause_of unless ts) (pair_clauses unless (drop (i + 1) lists))
      ∙ ap (λ (z : Clauses). now.clauses ++ z) (sym (next_pair unless lists i ts lt e)) ∙ a.left;
  vars = b.vars ∙ a.vars;
  room = b.room ∙ a.room;
}

pub pairing_done : {A : Type 0} (x : A) (unless : List Literal) (old now : Cnf) (lists : List (List LitOrTruth)) (i longest : ℕ) → length lists ≤ i →
    IsPairing unless old now lists i → AddsClauses (Ok x) old now (pair_clauses unless lists) longest
pairing_done x unless old now lists i longest le a =
    let e : now.clauses ≡ old.clauses ++ pair_clauses unless lists = sym (append-nil now.clauses)
    ∙ ap (λ (z : Clauses). now.clauses ++ z) (sym (at_drop_all (pair_clauses unless) lists i le)) ∙ a.left in
    record {
      added = e;
      passes = λ r. cc;
      full = λ r. cc;
      words = grown old.clauses now.clauses (pair_clauses unless lists) e;
      vars = a.vars;
      room = a.room;
    }

pub pairing_refused : {A B : Type 0} (r : Result A CnfFault) (s : Result B CnfFault) (unless : List Literal) (old now new : Cnf)
    (lists : List (List LitOrTruth)) (i shorter longest : ℕ) (ts : List LitOrTruth) → IsErr s → (IsErrOf s Room → IsErrOf r Room) → shorter ≤ longest →
    i < length lists → ts ≡ get_or lists i ts → IsPairing unless old now lists i → AddsClauses r now new (clause_of unless ts) shorter →
    AddsClauses s old new (pair_clauses unless lists) longest
pairing_refused r (Ok y) unless old now new lists i shorter longest ts err same short lt e a b = absurd (cc)
pairing_refused r (Err g) unless old now new lists i shorter longest ts err same short lt e a b =
    let rest = pair_clauses unless (drop (i + 1) lists) in
    let all : now.clauses ++ (clause_of unless ts ++ rest) ≡ old.clauses ++ pair_clauses unless lists = ap (λ (z : Clauses). now.clauses ++ z)
    (sym (next_pair unless lists i ts lt e)) ∙ a.left in
    let s : words_of (now.clauses ++ (clause_of unless ts ++ rest)) ≡ words_of (old.clauses ++ pair_clauses unless lists) = ap words_of all in
    let q = a.room in
    let sums = words_append now.clauses (clause_of unless ts ++ rest) in
    let parts = words_append (clause_of unless ts) rest in
    let whole = words_append old.clauses (pair_clauses unless lists) in
    let one = words_append now.clauses (clause_of unless ts) in
    record {
      added = tt;
      passes = λ m. let p = b.passes (same m) in omega arith;
      full = λ m. let f = b.full (same m) in omega arith;
      words = let w = b.words in omega arith;
      vars = b.vars ∙ a.vars;
      room = b.room ∙ q;
    }

pub pair_within_at : (vars : ℕ) (lists : List (List LitOrTruth)) (i : ℕ) (ts : List LitOrTruth) → PairsWithin vars lists → i < length lists →
    ts ≡ get_or lists i ts → AreWithin vars ts × (length ts ≤ 2)
pair_within_at vars [] i ts h lt e = absurd (omega arith)
pair_within_at vars (t ∷ rest) zero ts h lt e = subst (λ (x : List LitOrTruth). AreWithin vars x × (length x ≤ 2)) (sym e) h.0
pair_within_at vars (t ∷ rest) (suc i) ts h lt e = pair_within_at vars rest i ts h.1 (omega arith) e

-- rules behind rules
pub rules_append : (unless : List Literal) (rs ss : List Rule) → unless_rules unless (rs ++ ss) ≡ unless_rules unless rs ++ unless_rules unless ss
rules_append unless [] ss = refl
rules_append unless (r ∷ rs) ss = ap (λ (z : Clauses). clause_of unless (pair_literals r) ++ z) (rules_append unless rs ss)
    ∙ sym (append_assoc (clause_of unless (pair_literals r)) (unless_rules unless rs) (unless_rules unless ss))

-- the same lists, spelt otherwise
pub adds_pairs : {A : Type 0} (r : Result A CnfFault) (old new : Cnf) (unless : List Literal) (ls ms : List (List LitOrTruth)) (longest : ℕ) → ls ≡ ms →
    AddsClauses r old new (pair_clauses unless ms) longest → AddsClauses r old new (pair_clauses unless ls) longest
adds_pairs r old new unless ls ms longest e a = subst (λ (l : List (List LitOrTruth)). AddsClauses r old new (pair_clauses unless l) longest) (sym e) a
