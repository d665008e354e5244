-- Bytes that come or go in pieces.
use Rattle.std.proofs.Common.{◌≡◌, ℕ, ◌+◌, ◌-◌, ◌≤◌, List, ◌++◌, length, take, drop, ap, sym, ◌∙◌, append_assoc, length-drop, arith, Option, None, Some}
use Rattle.std.proofs.Common.{Result, Ok, Err, subst}
use Rattle.std.specs.Io.KnownBytes.{Appends, Keeps, ReadConsumes, WriteAppends}
use Rattle.std.proofs.lemmas.List.{take-take, take-append-le, take_all, drop-drop}
use Rattle.std.proofs.Math.Seq.{take-append-add, take-append_seam, take-add}

-- a list that was lengthened still begins with what it had
pub take-lengthened :
    (old zeros long now : List ℕ) (start most : ℕ) → start ≡ length old → long ≡ take (start + most) old ++ zeros → now ≡ long
    → take start now ≡ old
take-lengthened old zeros long now start most is_start is_long is_now =
    let short : length old ≤ start + most = omega arith in
    ap (take start) (is_now ∙ is_long)
    ∙ ap (λ (f : List ℕ). take start (f ++ zeros)) (take_all (start + most) old short)
    ∙ ap (λ (n : ℕ). take n (old ++ zeros)) is_start
    ∙ take-append_seam old zeros

-- a piece that was read behind the first bytes of a list, and cut off where it ends
pub take-read_in_place :
    (old long piece rest tail : List ℕ) (start came len : ℕ) → start ≡ length old → take start long ≡ old → came ≤ length piece → start + came ≤ len
    → take (start + came) (take len ((take start long ++ (piece ++ rest)) ++ tail)) ≡ old ++ take came piece
take-read_in_place old long piece rest tail start came len is_start kept room fits =
    take-take (start + came) len _ fits
    ∙ ap (take (start + came)) (append_assoc (take start long) (piece ++ rest) tail ∙ ap (λ (f : List ℕ). f ++ ((piece ++ rest) ++ tail)) kept)
    ∙ ap (λ (n : ℕ). take (n + came) (old ++ ((piece ++ rest) ++ tail))) is_start
    ∙ take-append-add old ((piece ++ rest) ++ tail) came
    ∙ ap (λ (t : List ℕ). old ++ t) (ap (take came) (append_assoc piece rest tail) ∙ take-append-le came piece (rest ++ tail) room)

-- what is left of the bytes after one more piece
pub drop-piece : (rest bytes : List ℕ) (done taken : ℕ) → rest ≡ drop done bytes → take (length rest - taken) (drop taken rest) ≡ drop (done + taken) bytes
drop-piece rest bytes done taken is_rest =
    let short : length (drop taken rest) ≤ length rest - taken = omega (arith, length-drop taken rest) in
    take_all (length rest - taken) (drop taken rest) short ∙ ap (drop taken) is_rest ∙ drop-drop taken done bytes

-- one more piece of the bytes was written
pub Appends-more :
    (first then now : Option (List ℕ)) (bytes : List ℕ) (done taken : ℕ)
    → Appends first then (take done bytes) → Appends then now (take taken (drop done bytes)) → Appends first now (take (done + taken) bytes)
Appends-more None then now bytes done taken before more = tt
Appends-more (Some xs) None now bytes done taken before more = absurd before
Appends-more (Some xs) (Some ys) None bytes done taken before more = more
Appends-more (Some xs) (Some ys) (Some zs) bytes done taken before more =
    more ∙ ap (λ (b : List ℕ). b ++ take taken (drop done bytes)) before
    ∙ append_assoc xs (take done bytes) (take taken (drop done bytes))
    ∙ ap (λ (t : List ℕ). xs ++ t) (sym (take-add done taken bytes))

-- a read behind reads that took nothing
pub read_kept :
    {E : Type 0} (first then now : Option (List ℕ)) (r : Result ℕ E) (buf : List ℕ)
    → Keeps first then → ReadConsumes then now r buf → ReadConsumes first now r buf
read_kept None then now (Ok n) buf kept read = (tt, read.1)
read_kept None then now (Err e) buf kept read = tt
read_kept (Some xs) None now r buf kept read = absurd kept
read_kept (Some xs) (Some ys) now r buf kept read =
    subst (λ (zs : List ℕ). ReadConsumes (Some zs) now r buf) kept read

-- a write behind writes that put nothing
pub write_kept :
    {E : Type 0} (first then now : Option (List ℕ)) (r : Result ℕ E) (buf : List ℕ)
    → Keeps first then → WriteAppends then now r buf → WriteAppends first now r buf
write_kept None then now (Ok n) buf kept wrote = tt
write_kept None then now (Err e) buf kept wrote = tt
write_kept (Some xs) None now r buf kept wrote = absurd kept
write_kept (Some xs) (Some ys) now r buf kept wrote =
    subst (λ (zs : List ℕ). WriteAppends (Some zs) now r buf) kept wrote
