-- What stands under each name, where the files tell that, and what a call does to it.
use Rattle.std.specs.Prelude.{◌≡◌, ◌≢◌, ℕ, ◌≤◌, ◌⊎◌, List, [], ◌++◌, length, take, ⊤, None, Some}
use Rattle.std.specs.declared.option.Option.{Option}

-- for each name, as bytes, the bytes that stand under it, or that it isn't there
abbrev pub Told : Type 0
Told = List ℕ → Option (List ℕ)

-- files at one moment: what stands under each name, where that is told; how many faults of reading there were, how many
-- of
-- creating and appending, and how many reads were done
pub record FilesAt : Type 0 where
  pub contents : Option Told
  pub read_faults : ℕ
  pub write_faults : ℕ
  pub reads : ℕ

-- where the contents were told before, they are told after, and the two are so
abbrev pub WhereTold : Option Told → Option Told → (Told → Told → Type 0) → Type 0
WhereTold None new P = ⊤
WhereTold (Some before) None P = ⊥
WhereTold (Some before) (Some after) P = P before after

-- every name but this one stands as it stood
abbrev pub SameElsewhere : List ℕ → Told → Told → Type 0
SameElsewhere name before after = (other : List ℕ) → other ≢ name → after other ≡ before other

-- every name stands as it stood
abbrev pub SameFiles : Told → Told → Type 0
SameFiles before after = (other : List ℕ) → after other ≡ before other

-- the file is there with these bytes, and no other changed
pub record Sets (name bytes : List ℕ) (before after : Told) : Type 0 where
  pub there : after name ≡ Some bytes
  pub others : SameElsewhere name before after

-- the file is there and empty, and no other changed
pub record Creates (name : List ℕ) (before after : Told) : Type 0 where
  pub empty : after name ≡ Some []
  pub others : SameElsewhere name before after

-- the file stands as it stood, or is there and empty, and no other changed
pub record MayCreate (name : List ℕ) (before after : Told) : Type 0 where
  pub either : (after name ≡ before name) ⊎ (after name ≡ Some [])
  pub others : SameElsewhere name before after

-- the file stands as it stood, or is there with some of the bytes, from the first on, and no other changed
pub record MaySet (name bytes : List ℕ) (before after : Told) : Type 0 where
  pub either : (after name ≡ before name) ⊎ ((n : ℕ) × (after name ≡ Some (take n bytes)))
  pub others : SameElsewhere name before after

-- the file was there and has grown by the bytes, and no other changed
pub record AppendsTo (name bytes : List ℕ) (before after : Told) : Type 0 where
  pub grown : (old : List ℕ) → before name ≡ Some old → after name ≡ Some (old ++ bytes)
  pub there : before name ≢ None
  pub others : SameElsewhere name before after

-- a file that was there has grown by some of the bytes, from the first on; one that wasn't there still
-- isn't, and no other changed
pub record MayAppendTo (name bytes : List ℕ) (before after : Told) : Type 0 where
  pub grown : (old : List ℕ) → before name ≡ Some old → (n : ℕ) × (after name ≡ Some (old ++ take n bytes))
  pub absent : before name ≡ None → after name ≡ None
  pub others : SameElsewhere name before after

-- the file is there, and its first bytes, at most limit, now stand after what was held before; where
-- the contents aren't told, some bytes do, at most limit
abbrev pub ReadsFront : Option Told → List ℕ → ℕ → List ℕ → List ℕ → Type 0
ReadsFront None name limit old new = (bytes : List ℕ) × (length bytes ≤ limit) × (new ≡ old ++ bytes)
ReadsFront (Some told) name limit old new = (bytes : List ℕ) × (told name ≡ Some bytes)
    × (new ≡ old ++ take limit bytes)

-- what was held before still begins the list
abbrev pub Begins : List ℕ → List ℕ → Type 0
Begins old new = (more : List ℕ) × (new ≡ old ++ more)

-- the file has these bytes, or nothing is known of the contents; for contracts of whole runs
abbrev pub IsFileWhereTold : Option Told → List ℕ → List ℕ → Type 0
IsFileWhereTold None name bytes = ⊤
IsFileWhereTold (Some told) name bytes = told name ≡ Some bytes

-- the contents are known, and this is what they tell of the name; for accessors
abbrev pub TellsAt : Option Told → List ℕ → Option (List ℕ) → Type 0
TellsAt None name answer = ⊥
TellsAt (Some told) name answer = answer ≡ told name
