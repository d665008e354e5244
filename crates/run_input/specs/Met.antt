-- What a run meets outside: its files, as it begins and as it ends; and how it leaves them. The counts are told of all
-- files, also of those whose contents aren't.
use Rattle.std.specs.Prelude.{◌≡◌, ◌⊎◌, ℕ, ◌≤◌, List, Some}
use Rattle.outside_io.specs.Contents.{Told, FilesAt, WhereTold}
use Rattle.outside_io.specs.Counts.{Rose, rose_by}

-- the files at two moments, the second not before the first
pub record Met : Type 0 where
  pub before : FilesAt
  pub after : FilesAt

-- these two moments as one value
abbrev pub between : FilesAt → FilesAt → Met
between before after = record { before = before; after = after }

-- so many reads were done in this run, of whatever names; one that fails isn't counted
abbrev pub HasRead : Met → ℕ → Type 0
HasRead met done = met.after.reads ≡ rose_by done met.before.reads

-- a read failed: the count of read faults rose, and so many reads were done
pub record ReadFails (met : Met) (done : ℕ) : Type 0 where
  pub rose : Rose met.before.read_faults met.after.read_faults
  pub reads_done : HasRead met done

-- nothing was read: neither the number of reads done nor the count of their faults rose
pub record IsUnread (met : Met) : Type 0 where
  pub same_faults : met.after.read_faults ≡ met.before.read_faults
  pub same_reads : met.after.reads ≡ met.before.reads

-- no more reads were done than there are inputs, and so many where this holds
pub record ReadsInputs (inputs : ℕ) (All : Type 0) (met : Met) : Type 0 where
  pub number : ℕ
  pub within : number ≤ inputs
  pub once : HasRead met number
  pub all : All → number ≡ inputs

-- the count of faults of creating and appending is as it was. Neither call promises to leave it so: a run that is
-- proved to leave it tries none
abbrev pub IsUnwritten : Met → Type 0
IsUnwritten met = met.after.write_faults ≡ met.before.write_faults

-- each file stands as it stood, or is there with bytes with which it may be left
abbrev pub LeftSo : (May : (name bytes : List ℕ) → Type 0) → (before after : Told) → Type 0
LeftSo May before after = (name : List ℕ) → (after name ≡ before name)
    ⊎ ((bytes : List ℕ) × (after name ≡ Some bytes) × May name bytes)

-- where contents are told, the run left each file so
abbrev pub HasLeft : Met → (May : (name bytes : List ℕ) → Type 0) → Type 0
HasLeft met May = WhereTold met.before.contents met.after.contents (LeftSo May)
