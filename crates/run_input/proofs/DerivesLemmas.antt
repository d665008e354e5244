-- What a log that told no line before tells after a search.
use Rattle.std.proofs.Common.{◌≡◌, [], subst}
use Rattle.refute_log.specs.Told.{Lines, AddsAll}
use Rattle.refute_log.specs.Log.{Derives}
use Rattle.refute_log.proofs.LogLemmas.{derives_none}
use Rattle.run_input.specs.SearchLog.{TellsIfNew, DerivesIfNew}

-- nothing was told
pub tells_unchanged : (So log : Lines → Type 0) → ((a b : Lines) → log a → log b → a ≡ b) → So [] → TellsIfNew So log log
tells_unchanged So log one so = λ none lines is. subst So (one [] lines none is) so

pub new_unchanged : (log : Lines → Type 0) → ((a b : Lines) → log a → log b → a ≡ b) → DerivesIfNew log log
new_unchanged log one = tells_unchanged Derives log one derives_none

-- these lines were told
pub tells_told : (So old new : Lines → Type 0) (told : Lines) → ((a b : Lines) → new a → new b → a ≡ b) → AddsAll old new told → So told →
    TellsIfNew So old new
tells_told So old new told one adds so = λ none lines is. subst So (one told lines (adds [] none) is) so

pub new_told : (old new : Lines → Type 0) (told : Lines) → ((a b : Lines) → new a → new b → a ≡ b) → AddsAll old new told → Derives told → DerivesIfNew old new
new_told old new told one adds derives = tells_told Derives old new told one adds derives

-- more is so
pub tells_weaker : (So Also old new : Lines → Type 0) → ((lines : Lines) → So lines → Also lines) → TellsIfNew So old new → TellsIfNew Also old new
tells_weaker So Also old new also tells = λ none lines is. also lines (tells none lines is)
