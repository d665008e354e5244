-- What the outcome of a search for the front says of drawings, and what its lines are.
use Rattle.std.specs.Prelude.{◌≡◌, ◌≤◌, ◌⊎◌, ⊤, [], ◌∷◌, ◌++◌, length, flat_map, Option, None, Some, MatchOption}
use Rattle.plan_core.specs.declared.criterion.Criterion.{Criterion}
use Rattle.plan_core.specs.Drawing.{Drawing}
use Rattle.cnf_core.specs.Clause.{words_of}
use Rattle.refute_log.specs.Lines.{MayAllBeTold}
use Rattle.refute_log.specs.Told.{Lines}
use Rattle.refute_log.specs.Log.{added, learnt, learnt_count, Derives, Due, BeginsLines, clause_lines}
use Rattle.refute_log.specs.Bounds.{CoversDrawings}
use Rattle.refute_log.specs.Expected.{expected_lines}
use Rattle.refute_log.specs.Cause.{IsCause}
use Rattle.refute_log.specs.Full.{CapsPass}
use Rattle.search_least.specs.declared.oracle.Built.{Built}
use Rattle.search_least.specs.declared.oracle.Built.TheVariants.{Whole as AllOfThem, NoRoom}
use Rattle.refute_log.specs.declared.stop.Stop.{Stop}
use Rattle.refute_log.specs.declared.stop.Stop.TheVariants.{BudgetSpent, RoomFull}
use Rattle.search_least.specs.Task.{Task, greatest_of}
use Rattle.search_least.specs.Outcome.{first_lines}
use Rattle.search_least.specs.Placed.{AreUnderBounds}
use Rattle.trade_off.specs.declared.outcome.FrontEnd.{FrontEnd}
use Rattle.trade_off.specs.declared.outcome.FrontEnd.TheVariants.{Whole, Empty, Conflicts, Room}
use Rattle.trade_off.specs.Front.{Pairs, IsWholeFront, IsFrontUpTo}
use Rattle.trade_off.specs.Least.{HaveComeTo, AsksUnder}
use Rattle.trade_off.specs.Next.{AsksNext, limit_behind}

-- what these pairs with this end say of the drawings
abbrev pub IsRightFront : (Drawing → Type 0) → Criterion → Criterion → Pairs → FrontEnd → Type 0
IsRightFront IsOne a b pairs Whole = ((d : Drawing) × IsOne d) × IsWholeFront IsOne a b pairs
IsRightFront IsOne a b pairs Empty = ((d : Drawing) → IsOne d → ⊥) × (pairs ≡ [])
IsRightFront IsOne a b pairs Conflicts = IsFrontUpTo IsOne a b pairs
IsRightFront IsOne a b pairs Room = IsFrontUpTo IsOne a b pairs

-- the Formula and Bound lines of a front: the bounds of both criteria, up to their greatest values
abbrev pub front_lines : Task → Criterion → Criterion → Lines
front_lines p a b = expected_lines p.encoding (a ∷ b ∷ []) (greatest_of p)

-- the latest query asks for the pair that comes next behind these; none before it asks for less of b, and no Model line
-- answers the same query
abbrev pub AsksBehind : Task → Criterion → Criterion → Pairs → Lines → Type 0
AsksBehind p a b pairs lines = AsksUnder (AsksNext a b (limit_behind pairs) p) b lines

-- before the first question: these lines have no room, there is no pair, and Formula and Bound lines alone were told
abbrev pub HasNoRoomToAsk : Task → Criterion → Criterion → Pairs → Lines → Type 0
HasNoRoomToAsk p a b pairs lines = CapsPass p.encoding (a ∷ b ∷ []) lines p.room (greatest_of p) × (pairs ≡ [])
    × (clause_lines lines ≡ lines)

-- why it ended so: these lines have no room, before the first question; else all of them were told. With Conflicts as
-- many clauses were learnt as the budget allows, and the latest query is open; with Room one more clause has no room
-- behind them all. In both the latest query asks for the pair behind those that are printed, none before it asks for
-- less of b, and no Model line answers the same query
abbrev pub IsFrontCause : Task → Criterion → Criterion → Pairs → FrontEnd → Lines → Type 0
IsFrontCause p a b pairs Whole lines = clause_lines lines ≡ front_lines p a b
IsFrontCause p a b pairs Empty lines = clause_lines lines ≡ front_lines p a b
IsFrontCause p a b pairs Conflicts lines =
    (clause_lines lines ≡ front_lines p a b) × IsCause p.budget p.room BudgetSpent lines × AsksBehind p a b pairs lines
IsFrontCause p a b pairs Room lines = HasNoRoomToAsk p a b pairs lines
    ⊎ ((clause_lines lines ≡ front_lines p a b) × IsCause p.budget p.room RoomFull lines × AsksBehind p a b pairs lines)

-- the lines of a search for the front with these pairs and this end
pub record IsFrontLog (p : Task) (a b : Criterion) (pairs : Pairs) (ending : FrontEnd) (lines : Lines) : Type 0 where
  pub formed : MayAllBeTold lines
  pub derives : Derives lines
  pub due : Due lines
  pub covers : CoversDrawings p.graph p.above p.grid lines
  pub begins : BeginsLines (clause_lines lines) (front_lines p a b)
  pub fits : words_of (flat_map added lines) ≤ p.room
  pub within : length (flat_map learnt lines) ≤ p.budget
  pub placed : AreUnderBounds p lines
  pub cause : IsFrontCause p a b pairs ending lines

-- the same of the lines behind the formula's
abbrev pub IsFrontAfter : Task → Criterion → Criterion → Pairs → FrontEnd → Lines → Type 0
IsFrontAfter p a b pairs ending more = IsFrontLog p a b pairs ending (first_lines p ++ more)

-- the lines of a search for the front, also of one that ended with an error: they derive, their Formula and Bound lines
-- begin those of the front, and there are no more Learnt lines, as a log counts them, than the budget allows
pub record IsFrontLeft (p : Task) (a b : Criterion) (lines : Lines) : Type 0 where
  pub derives : Derives lines
  pub begins : BeginsLines (clause_lines lines) (front_lines p a b)
  pub within : learnt_count lines ≤ p.budget

-- the end of a search that stopped
abbrev pub stopped_by : Stop → FrontEnd
stopped_by BudgetSpent = Conflicts
stopped_by RoomFull = Room

-- and back: why a search with this end stopped, if it did
abbrev pub stop_behind : FrontEnd → Option Stop
stop_behind Whole = None
stop_behind Empty = None
stop_behind Conflicts = Some BudgetSpent
stop_behind Room = Some RoomFull

-- why a search with these pairs stopped, if it did
abbrev pub EndsFront : Task → Criterion → Criterion → Pairs → FrontEnd → Lines → Type 0
EndsFront p a b pairs ending lines = MatchOption (stop_behind ending) ⊤ (λ stop.
    IsCause p.budget p.room stop lines × AsksBehind p a b pairs lines)

-- all of the lines were told, and no question yet; or the first of them alone, and all have no room
abbrev pub IsBuiltFront : Task → Criterion → Criterion → Built → Lines → Type 0
IsBuiltFront p a b AllOfThem lines =
    AreUnderBounds p lines × (clause_lines lines ≡ front_lines p a b) × HaveComeTo b b [] lines
IsBuiltFront p a b NoRoom lines =
    AreUnderBounds p lines × BeginsLines (clause_lines lines) (front_lines p a b) × HasNoRoomToAsk p a b [] lines
