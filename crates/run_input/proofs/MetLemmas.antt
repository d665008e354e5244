-- How many reads there were, and what is met by two reads in turn.
use Rattle.std.proofs.Common.{◌≡◌, ℕ, zero, suc, ◌≤◌, refl, ◌∙◌, ap, arith}
use Rattle.std.specs.Prelude.{Result, Ok, Err, OnOk}
use Rattle.outside_io.specs.Counts.{next_count, rose_by}
use Rattle.outside_io.specs.Contents.{FilesAt}
use Rattle.run_input.specs.Met.{Met, between, HasRead, ReadFails, ReadsInputs}

rose_by-next : (more n : ℕ) → rose_by more (next_count n) ≡ next_count (rose_by more n)
rose_by-next zero n = refl
rose_by-next (suc more) n = ap next_count (rose_by-next more n)

-- what holds whatever is answered
pub on_ok : {T E : Type 0} (r : Result T E) (P : Type 0) → P → OnOk r P
on_ok (Ok x) P holds = holds
on_ok (Err e) P holds = tt

-- nothing was read
pub reads_none : (inputs : ℕ) (All : Type 0) (met : Met) → (All → 0 ≡ inputs) → met.after.reads ≡ met.before.reads → ReadsInputs inputs All met
reads_none inputs All met none same = record { number = 0; within = omega arith; once = same; all = none }

-- the one input was read
pub reads_one : (All : Type 0) (met : Met) → met.after.reads ≡ next_count met.before.reads → ReadsInputs 1 All met
reads_one All met one = record { number = 1; within = omega arith; once = one; all = λ _. refl }

-- some inputs were read, and perhaps not all
pub reads_some : (most inputs : ℕ) (All : Type 0) (met : Met) → most ≤ inputs → (All → ⊥) → ReadsInputs most ⊥ met → ReadsInputs inputs All met
reads_some most inputs All met few not_all reads =
    let within = reads.within in
    record { number = reads.number; within = omega (arith, within, few); once = reads.once; all = λ h. absurd (not_all h) }

-- the same inputs were read, where less hangs on it
pub reads_less : (inputs : ℕ) (All Fewer : Type 0) (met : Met) → (Fewer → All) → ReadsInputs inputs All met → ReadsInputs inputs Fewer met
reads_less inputs All Fewer met weaker reads = record { number = reads.number; within = reads.within; once = reads.once; all = λ h. reads.all (weaker h) }

-- the reads after another one
pub read_later : (done : ℕ) (old mid new : FilesAt) → mid.reads ≡ next_count old.reads → HasRead (between mid new) done → HasRead (between old new) (suc done)
read_later done old mid new one read = read ∙ ap (λ (n : ℕ). rose_by done n) one ∙ rose_by-next done old.reads

-- an input was read before the others
pub reads_more : (inputs : ℕ) (All : Type 0) (old mid new : FilesAt) → mid.reads ≡ next_count old.reads → ReadsInputs inputs All (between mid new) →
    ReadsInputs (suc inputs) All (between old new)
reads_more inputs All old mid new one reads =
    let within = reads.within in
    record {
      number = suc reads.number;
      within = omega (arith, within);
      once = read_later reads.number old mid new one reads.once;
      all = λ h. ap suc (reads.all h);
    }

-- a read that failed after another one
pub fails_later : (done : ℕ) (old mid new : FilesAt) → old.read_faults ≤ mid.read_faults → mid.reads ≡ next_count old.reads → ReadFails (between mid new) done →
    ReadFails (between old new) (suc done)
fails_later done old mid new later one fails = let rose = fails.rose in record {
  rose = omega (arith, later, rose);
  reads_done = read_later done old mid new one fails.reads_done;
}
