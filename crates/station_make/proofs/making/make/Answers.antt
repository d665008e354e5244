use Rattle.std.proofs.Common.{◌≡◌, ◌≤◌, ℕ, List, length, subst, sym}
use Rattle.std.proofs.lemmas.Result.{IfOk-weaker}
use Rattle.plan_core.specs.declared.limits.TheConstants.{MAX_FILE_BYTES}
use Rattle.station_make.specs.StationText.{station_text}
use Rattle.station_make.proofs.SizeLemmas.{station_short}
use Rattle.station_make.proofs.making.make.Goals as goal

same_length : (n : ℕ) (bytes : List ℕ) → length (station_text n) ≤ MAX_FILE_BYTES → bytes ≡ station_text n → length bytes ≤ MAX_FILE_BYTES
same_length n bytes short e = subst (λ (b : List ℕ). length b ≤ MAX_FILE_BYTES) (sym e) short

pub returns-clause-length : goal.returns-clause-length
returns-clause-length c =
    IfOk-weaker c.file_of.result (λ file. file.items ≡ station_text c.args.n) (λ file. length file.items ≤ MAX_FILE_BYTES)
    (λ file e. same_length c.args.n file.items (station_short c.args.n c.ranges.n.fits) e) c.file_of.ensures
