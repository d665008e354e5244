-- What is taken from counts, and given back.
use Rattle.std.proofs.Common.{◌≡◌, ℕ, ◌+◌, ◌<◌, ◌≤◌, ◌^◌, List, [], ◌∷◌, ◌++◌, length, take, get_or, sym, ◌∙◌, subst, arith}
use Rattle.std.proofs.lemmas.List.{take_at}
use Rattle.std.specs.Prelude.{All}
use Rattle.std.proofs.lemmas.List.Elements.{All-weaker, All-nil, All-append}
use Rattle.cnf_core.specs.Lit.{Literal}
use Rattle.cnf_core.specs.Clause.{Clauses, words_of}
use Rattle.cnf_core.specs.Propagation.{LiteralSet}
use Rattle.cnf_core.proofs.ClauseLemmas.{words_at}
use Rattle.cnf_core.specs.Times.{times}
use Rattle.refute_check.specs.Entries.{places_from}
use Rattle.refute_check.specs.Tables.{CountedUp, IsCounted, AreNoted, NotesMore, AreCounts}
use Rattle.refute_check.proofs.FalseCountLemmas.{places_counted, times_cons}

times_append : (ms ns : List ℕ) (n : ℕ) → times (ms ++ ns) n ≡ times ms n + times ns n
times_append [] ns n = omega arith
times_append (m ∷ ms) ns n = omega (arith, times_append ms ns n, times_cons m (ms ++ ns) n, times_cons m ms n)

-- nothing, and more
pub noted_none : (clauses : Clauses) (counts : List ℕ) → AreNoted clauses [] counts counts
noted_none clauses counts = record { up = λ n. omega arith; counted = All-nil (IsCounted clauses) }

pub notes_none : (clauses : Clauses) (noted counts : List ℕ) → NotesMore clauses noted counts noted counts
notes_none clauses noted counts before t = t

-- where nothing was taken before, all was taken from the counts of then
pub noted_before : (clauses : Clauses) (noted counts more now : List ℕ) → noted ≡ [] → NotesMore clauses noted counts more now →
    AreNoted clauses more now counts
noted_before clauses noted counts more now e t = t counts (rw e (noted_none clauses counts))

pub notes_places : (clauses : Clauses) (l : Literal) (noted more old now : List ℕ) → more ≡ noted ++ places_from 0 clauses l →
    CountedUp (places_from 0 clauses l) now old → NotesMore clauses noted old more now
notes_places clauses l noted more old now e up before t = rw e (record {
  up = λ n. omega (arith, up n, t.up n, times_append noted (places_from 0 clauses l) n);
  counted = All-append (IsCounted clauses) noted (places_from 0 clauses l) t.counted (places_counted clauses l);
})

-- counts that were read from a table and are written back into it
pub notes_written : (clauses : Clauses) (noted counts read more now rest : List ℕ) (n : ℕ) → NotesMore clauses noted read more now → read ≡ counts →
    length now ≡ n → NotesMore clauses noted counts more (take n (now ++ rest))
notes_written clauses noted counts read more now rest n t is e before h =
    subst (λ (ns : List ℕ). AreNoted clauses more ns before) (sym (take_at now rest n e))
    (t before (subst (λ (ns : List ℕ). AreNoted clauses noted ns before) (sym is) h))

-- all of it can be given back, and then the counts are as before
pub noted_there : (clauses : Clauses) (noted counts before : List ℕ) → AreNoted clauses noted counts before → length counts ≡ length clauses →
    All (λ n. n < length counts) noted
noted_there clauses noted counts before t size = All-weaker (IsCounted clauses) (λ n. n < length counts) (λ n h. omega (arith, h.within, size)) noted t.counted

pub noted_small : (clauses : Clauses) (set : LiteralSet) (noted counts before : List ℕ) → AreNoted clauses noted counts before →
    AreCounts clauses set before → words_of clauses ≤ 268435456 → All (λ n. get_or counts n 0 + times noted n < 2 ^ 32) noted
noted_small clauses set noted counts before t right small = All-weaker (IsCounted clauses) (λ n. get_or counts n 0 + times noted n < 2 ^ 32)
    (λ n h. omega (arith, t.up n, right.each n h.within h.not_short, words_at clauses n)) noted t.counted

pub given_back : (clauses : Clauses) (set : LiteralSet) (noted counts before now : List ℕ) → AreNoted clauses noted counts before →
    AreCounts clauses set before → CountedUp noted counts now → length now ≡ length counts → length counts ≡ length clauses → AreCounts clauses set now
given_back clauses set noted counts before now t right up same size = record {
  size = same ∙ size;
  each = λ n within long. omega (arith, up n, t.up n, right.each n within long);
}
