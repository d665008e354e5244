-- Formula lines at the end of a log that lacks them, and what is trimmed of it then.
use Rattle.std.proofs.Common.{◌≡◌, ◌≤◌, ◌<◌, ℕ, zero, suc, ◌+◌, List, [], ◌∷◌, ◌++◌, length, map, take, drop, get_or, Bool, true, false, Some, None, refl, sym}
use Rattle.std.proofs.Common.{◌∙◌, ap, subst, inl, inr, arith, append-nil, append_assoc, length-append}
use Rattle.std.specs.Prelude.{◌≢◌, All, Contains, Option, MatchBool, MatchOption, flat_map, slice_get, slice_index_or}
use Rattle.std.proofs.lemmas.Grind.{flat_map-append}
use Rattle.std.proofs.lemmas.List.{get_or_append_left, take-append-drop, take-append-le}
use Rattle.std.proofs.lemmas.List.Elements.{All-nil, All-head}
use Rattle.std.proofs.lemmas.Option.{slice_get_within, slice_get_read, get_or_from_slice_get}
use Rattle.plan_core.proofs.Listing.{Contains-head}
use Rattle.cnf_core.specs.declared.limits.TheConstants.{LAST_VAR, ROOM}
use Rattle.cnf_core.specs.Assignment.{Assignment, SatisfiesAll}
use Rattle.cnf_core.specs.Lit.{Literal}
use Rattle.cnf_core.specs.Clause.{Clauses, AreThere, AreDistinct, words_of}
use Rattle.cnf_core.specs.Formula.{Cnf, IsFormula}
use Rattle.cnf_core.proofs.ClauseLemmas.{there_more}
use Rattle.cnf_core.specs.Propagation.{greatest_var}
use Rattle.refute_log.specs.declared.line.LogLine.{LogLine}
use Rattle.refute_log.specs.declared.line.LogLine.TheVariants.{Formula, Refuted}
use Rattle.refute_log.specs.Lines.{MayBeTold, MayAllBeTold}
use Rattle.refute_log.specs.Told.{Lines}
use Rattle.refute_log.specs.Log.{added, given, clause_lines, BeginsLines, Stands, Derives}
use Rattle.log_check.proofs.ExpectingLemmas.{drop_front}
use Rattle.refute_log.proofs.LogLemmas.{derives_more}
use Rattle.refute_log.proofs.ListLemmas.{told_at}
use Rattle.refute_check.proofs.JudgeLemmas.{nothing}
use Rattle.refute_log.proofs.CertifiedLemmas.{refuted_holds}
use Rattle.refute_log.proofs.MeetsLemmas.{given_of_clauses}
use Rattle.log_check.specs.Expectation.{Expectation, PassesLimits}
use Rattle.log_check.specs.Accepted.{AreAccepted}
use Rattle.hint_log.specs.declared.hint_line.HintLine.TheVariants.{Learnt, Refuted as RefutedHint}
use Rattle.hint_log.specs.HintedLines.{HintLines}
use Rattle.log_trim.specs.Trimmed.{AreRefutedLines, StandAt, IsNamedLater, AreUsed, IsTrimmed}
use Rattle.log_trim.specs.HintRoom.{IsCompleted}
use Rattle.log_trim.specs.Shown.{MayBeTrimmed, IsReadied, IsKeptOf}

-- ---- one clause more

pub clause_told : (f : Cnf) (c d : List Literal) → IsFormula f → d ≡ c → AreDistinct c → AreThere f.vars c → MayBeTold (Formula d)
clause_told f c d h is distinct there =
    let limit = h.vars_limit in
    subst (λ (e : List Literal). MayBeTold (Formula e)) (sym is) (record {
      formed = there_more f.vars LAST_VAR c (omega (arith, limit)) there;
      once = distinct;
    })

-- ---- the clauses that are missing

-- the clauses of the lines begin those that are expected
pub record AreBegun (e : Expectation) (lines : Lines) : Type 0 where
  pub missing : Clauses
  pub whole : flat_map given e.lines ≡ flat_map given lines ++ missing

pub begun : (e : Expectation) (lines : Lines) → BeginsLines (clause_lines lines) e.lines → AreBegun e lines
begun e lines (rest, is) = record {
  missing = flat_map given rest;
  whole =
      ap (flat_map given) is ∙ flat_map-append given (clause_lines lines) rest
      ∙ ap (λ (cs : Clauses). cs ++ flat_map given rest) (given_of_clauses lines);
}

pub fewer : (e : Expectation) (lines : Lines) (cs : Clauses) → BeginsLines (clause_lines lines) e.lines → cs ≡ flat_map given e.lines →
    length (flat_map given lines) ≤ length cs
fewer e lines cs begins are =
    let b = begun e lines begins in
    let is : length cs ≡ length (flat_map given lines) + length b.missing = ap length (are ∙ b.whole) ∙ length-append (flat_map given lines) b.missing in
    omega (arith, is)

pub completed : (e : Expectation) (old new : Lines) (cs : Clauses) → BeginsLines (clause_lines old) e.lines → cs ≡ flat_map given e.lines →
    new ≡ old ++ map Formula (drop (length (flat_map given old)) cs) → IsCompleted e old new
completed e old new cs begins are is =
    let b = begun e old begins in
    let rest : drop (length (flat_map given old)) cs ≡ b.missing =
    ap (λ (ds : Clauses). drop (length (flat_map given old)) ds) (are ∙ b.whole) ∙ drop_front (flat_map given old) b.missing in
    record { missing = b.missing; whole = b.whole; added = is ∙ ap (λ (ds : Clauses). old ++ map Formula ds) rest }

-- ---- what is expected has room where a line is refuted

-- without Formula lines a Refuted line names no variable, and one without literals doesn't follow
none_refuted : (lines : Lines) (p : ℕ) (c : List Literal) → MayAllBeTold lines → Derives lines → clause_lines lines ≡ [] →
    slice_get lines p ≡ Some (Refuted c) → ⊥
none_refuted lines p c told derives none at =
    let low = slice_get_within lines p (Refuted c) at in
    let one = told_at lines p (Refuted c) told low (sym (get_or_from_slice_get lines p (Refuted c) (Refuted c) at)) in
    let given_none : flat_map given lines ≡ [] = sym (given_of_clauses lines) ∙ ap (flat_map given) none in
    let before : flat_map given (take p lines) ≡ [] = first_none (flat_map given (take p lines)) (flat_map given (drop p lines))
    (sym (flat_map-append given (take p lines) (drop p lines)) ∙ ap (flat_map given) (take-append-drop p lines) ∙ given_none) in
    by c one.formed (subst (λ (cs : Clauses). All (λ l. l.var ≤ greatest_var cs) c) before (derives p (Refuted c) at).named) at
  where
    first_none : (xs ys : Clauses) → xs ++ ys ≡ [] → xs ≡ []
    first_none [] ys e = refl
    first_none (x ∷ xs) ys e = absurd (cc)

    all_true : Assignment
    all_true x = true

    by : (d : List Literal) → AreThere LAST_VAR d → All (λ l. l.var ≤ 0) d → slice_get lines p ≡ Some (Refuted d) → ⊥
    by [] there named is =
        let among : Contains lines (Refuted []) = (p, slice_get_within lines p (Refuted []) is, get_or_from_slice_get lines p (Refuted []) (Refuted []) is) in
        refuted_holds all_true lines derives (subst (λ (cs : Clauses). SatisfiesAll all_true cs) (sym (sym (given_of_clauses lines) ∙ ap (flat_map given) none))
        tt) [] among
    by (l ∷ ls) there named is =
        let from = there.0.0 in
        let to = All-head (λ (k : Literal). k.var ≤ 0) l ls named in
        omega (arith, from, to)

-- some are wanted, and not none
pub not_none : (wanted : List ℕ) → 1 ≤ length wanted → wanted ≢ []
not_none wanted some none = let size = ap length none in omega (arith, some, size)

-- one of those that are wanted
some_wanted : (wanted : List ℕ) → 1 ≤ length wanted → (p : ℕ) × Contains wanted p
some_wanted [] some = absurd (omega (arith, some))
some_wanted (p ∷ wanted) some = (p, Contains-head p wanted)

-- so no line is wanted where there is no room for what is expected
pub not_wanted : (e : Expectation) (lines : Lines) (wanted : List ℕ) → MayAllBeTold lines → PassesLimits e → AreRefutedLines lines wanted → 1 ≤ length wanted →
    AreAccepted e lines → ⊥
not_wanted e lines wanted told passes refuted some a =
    let one = some_wanted wanted some in
    let r = refuted one.0 one.1 in
    a.within (λ none. none_refuted lines one.0 r.0 told a.derives none r.1) passes

-- ---- whether the lines fit what is expected

pub no_room : (e : Expectation) (lines : Lines) → ROOM < words_of (flat_map added lines) → AreAccepted e lines → ⊥
no_room e lines many a = let few = a.room in omega (arith, many, few)

-- without Formula and Bound lines, and with none that is wanted, only their room counts
pub readied_by_room : (e : Expectation) (lines : Lines) (wanted : List ℕ) (b : Bool) → wanted ≡ [] → clause_lines lines ≡ [] →
    MatchBool b (words_of (flat_map added lines) ≤ ROOM) (ROOM < words_of (flat_map added lines)) → IsReadied e lines wanted lines b
readied_by_room e lines wanted true empty none room = record {
  front = (e.lines, ap (λ (ls : Lines). ls ++ e.lines) (sym none));
  within = λ some. absurd (some none);
  room = room;
  completed = inl (empty, refl);
}
readied_by_room e lines wanted false empty none room = no_room e lines room

-- ---- the lines with them

stands : (lines : Lines) (c : List Literal) → Stands lines (Formula c)
stands lines c = record { named = All-nil (λ (l : Literal). l.var ≤ greatest_var (flat_map given lines)); answers = tt; implied = tt; says_more = tt }

derives_formulas : (lines : Lines) (cs : Clauses) → Derives lines → Derives (lines ++ map Formula cs)
derives_formulas lines [] d = subst Derives (sym (append-nil lines)) d
derives_formulas lines (c ∷ cs) d =
    subst Derives (append_assoc lines (Formula c ∷ []) (map Formula cs)) (derives_formulas (lines ++ Formula c ∷ []) cs
    (derives_more lines (Formula c) d (stands lines c)))

pub at_front : (lines more : Lines) (p : ℕ) (line : LogLine) → slice_get lines p ≡ Some line → slice_get (lines ++ more) p ≡ Some line
at_front lines more p line e =
    let low = slice_get_within lines p line e in
    let read : get_or (lines ++ more) p line ≡ line = get_or_append_left lines more line p low ∙ get_or_from_slice_get lines p line line e in
    slice_get_read (lines ++ more) (length (lines ++ more)) p line refl (omega (arith, low, length-append lines more)) (sym read)

derives_front : (lines more : Lines) → Derives (lines ++ more) → Derives lines
derives_front lines more d = λ i line e.
    let low = slice_get_within lines i line e in
    subst (λ (ls : Lines). Stands ls line) (take-append-le i lines more (omega (arith, low))) (d i line (at_front lines more i line e))

-- the lines derive with them exactly where they do without
pub still_derives : (e : Expectation) (old new : Lines) (wanted : List ℕ) → MayBeTrimmed e old wanted new → Derives old → Derives new
still_derives e old new wanted may d = elim may.completed [
  | inl h ↦ subst Derives (sym h.1) d
  | inr h ↦ subst Derives (sym h.1.added) (derives_formulas old h.1.missing d)
]

derived_before : (e : Expectation) (old new : Lines) (wanted : List ℕ) → MayBeTrimmed e old wanted new → Derives new → Derives old
derived_before e old new wanted may d = elim may.completed [
  | inl h ↦ subst Derives h.1 d
  | inr h ↦ derives_front old (map Formula h.1.missing) (subst Derives h.1.added d)
]

pub still_refuted : (e : Expectation) (old new : Lines) (wanted : List ℕ) → MayBeTrimmed e old wanted new → AreRefutedLines old wanted →
    AreRefutedLines new wanted
still_refuted e old new wanted may refuted = elim may.completed [
  | inl h ↦ subst (λ (ls : Lines). AreRefutedLines ls wanted) (sym h.1) refuted
  | inr h ↦ λ p among.
      let r = refuted p among in
      (r.0, subst (λ (ls : Lines). slice_get ls p ≡ Some (Refuted r.0)) (sym h.1.added) (at_front old (map Formula h.1.missing) p (Refuted r.0) r.1))
]

-- ---- what is left of them

none_named : (n : ℕ) (kept : HintLines) → kept ≡ [] → IsNamedLater n kept → ⊥
none_named n kept none named = let low = named.2 in let size = ap length none in omega (arith, low, size)

-- nothing is kept where nothing is wanted
nothing_kept : (lines : Lines) (low high count : ℕ) (places : List ℕ) (kept : HintLines) → StandAt lines [] low high places kept → AreUsed count kept →
    kept ≡ []
nothing_kept lines low high count places [] stand used = refl
nothing_kept lines low high count [] (line ∷ kept) stand used = absurd stand
nothing_kept lines low high count (p ∷ places) (Learnt lits hints ∷ kept) stand used =
    absurd (none_named (count + 1) kept (nothing_kept lines (p + 1) high (count + 1) places kept stand.2 used.1) used.0)
nothing_kept lines low high count (p ∷ places) (RefutedHint lits hints ∷ kept) stand used = nothing p (RefutedHint lits hints ∷ kept ≡ []) stand.1.asked

-- and so the missing lines don't count there
none_trimmed : (lines : Lines) (missing : Clauses) (kept : HintLines) → IsTrimmed lines [] kept → IsTrimmed (lines ++ map Formula missing) [] kept
none_trimmed lines missing kept h =
    let all = lines ++ map Formula missing in
    let empty = nothing_kept lines 0 (length lines) (length (flat_map given lines)) h.places kept h.stand h.used in
    subst (IsTrimmed all []) (sym empty) (record {
      places = [];
      stand = (omega arith);
      all = λ p among. nothing p (Contains [] p) among;
      used = tt;
      good = tt;
      lean = tt;
    })

kept_so : (e : Expectation) (old new : Lines) (wanted : List ℕ) (kept : HintLines) → MayBeTrimmed e old wanted new → Derives new → IsTrimmed new wanted kept →
    IsKeptOf e old wanted kept
kept_so e old new wanted kept may d trimmed = elim may.completed [
  | inl h ↦
      let b = begun e old may.front in
      let none : IsTrimmed old [] kept = subst (λ (ls : Lines). IsTrimmed ls [] kept) h.1 (subst (λ (ns : List ℕ). IsTrimmed new ns kept) h.0 trimmed) in
      record {
        accepted = accepted;
        missing = b.missing;
        whole = b.whole;
        trimmed = subst (λ (ns : List ℕ). IsTrimmed (old ++ map Formula b.missing) ns kept) (sym h.0) (none_trimmed old b.missing kept none);
      }
  | inr h ↦ record {
    accepted = accepted;
    missing = h.1.missing;
    whole = h.1.whole;
    trimmed = subst (λ (ls : Lines). IsTrimmed ls wanted kept) h.1.added trimmed;
  }
]
  where
    accepted : AreAccepted e old
    accepted = record { front = may.front; within = may.within; derives = derived_before e old new wanted may d; room = may.room }

pub kept_of : (e : Expectation) (old new : Lines) (wanted : List ℕ) (r : Option HintLines) → MayBeTrimmed e old wanted new →
    MatchOption r (Derives new → ⊥) (λ kept. Derives new × IsTrimmed new wanted kept) →
    MatchOption r (AreAccepted e old → ⊥) (IsKeptOf e old wanted)
kept_of e old new wanted None may none = λ a. none (still_derives e old new wanted may a.derives)
kept_of e old new wanted (Some kept) may h = kept_so e old new wanted kept may h.0 h.1
