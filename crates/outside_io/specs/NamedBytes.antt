-- The bytes that stand under names in memory, as contracts see them.
use Rattle.std.specs.Prelude.{[], Some, unwrap_or}
use Rattle.std.specs.Option.{option_map}
use Rattle.std.specs.BTreeMap.{get_by_text}
use Rattle.outside_io.specs.declared.named_bytes.NamedBytes.{NamedBytes}
use Rattle.outside_io.specs.Contents.{Told}

-- the bytes under each name
abbrev pub told_of : NamedBytes → Told
told_of named name = option_map (λ v. v.items) (get_by_text named.files name)

-- the same where every name is there, and holds nothing until bytes come
abbrev pub sure_of : NamedBytes → Told
sure_of named name = Some (unwrap_or (told_of named name) [])
