-- Where the lines of a search for the least count stand.
use Rattle.std.specs.Prelude.{◌≡◌, ⊤, ℕ, MatchOption, Option, None, Some}
use Rattle.plan_core.specs.Drawing.{Drawing}
use Rattle.refute_log.specs.declared.line.LogLine.{LogLine}
use Rattle.refute_log.specs.declared.line.LogLine.TheVariants.{Query, Model}
use Rattle.refute_log.specs.Told.{Lines}
use Rattle.refute_log.specs.Log.{facts_of}
use Rattle.search_least.specs.CountTask.{CountTask, IsOne}
use Rattle.search_least.specs.CountAsked.{IsBelow, IsLimit, query_of}
use Rattle.search_least.specs.Asked.{queries}
use Rattle.search_least.specs.Placed.{EachBehind}

-- the latest query asks for a count below the limit, or for any where there is none
abbrev pub AsksFor : CountTask → Option ℕ → Lines → Type 0
AsksFor p limit lines = (facts_of lines).query ≡ Some (query_of p limit)

-- a Model line answers the latest query: the count of one of the drawings is below its limit
pub record HasCount (p : CountTask) (before : Lines) : Type 0 where
  pub drawing : Drawing
  pub one : IsOne p drawing
  pub limit : Option ℕ
  pub within : IsLimit p limit
  pub latest : AsksFor p limit before
  pub below : IsBelow limit (p.count drawing)

-- the last Model line answers a query that asked for a count below a greater limit, or for any
pub record MeetsModelled (p : CountTask) (lines : Lines) (n : ℕ) : Type 0 where
  pub limit : Option ℕ
  pub modelled : (queries lines).modelled ≡ Some (query_of p limit)
  pub below : IsBelow limit n

-- the search has come to this number: such a Model line answers the latest query
pub record HasComeTo (p : CountTask) (before : Lines) (n : ℕ) : Type 0 where
  pub met : MeetsModelled p before n
  pub latest : AsksFor p met.limit before

-- the limit may be asked for next: at first none, so that any drawing is asked for; then, once the latest query has its
-- Model line, one with a literal that is smaller than the latest limit
abbrev pub IsNextLimit : CountTask → Lines → Option ℕ → Type 0
IsNextLimit p before limit = IsLimit p limit × MatchOption limit ((facts_of before).query ≡ None) (HasComeTo p before)

-- the line may stand behind these: a Query line asks for any drawing, or for a count below the next limit, and a Model
-- line is an answer
abbrev pub IsCountPlaced : CountTask → Lines → LogLine → Type 0
IsCountPlaced p before (Query query) = (limit : Option ℕ) × IsNextLimit p before limit × (query ≡ query_of p limit)
IsCountPlaced p before Model = HasCount p before
IsCountPlaced p before line = ⊤

-- each line stands so behind those before it
abbrev pub AreCountsAsked : CountTask → Lines → Type 0
AreCountsAsked p lines = EachBehind (IsCountPlaced p) lines
