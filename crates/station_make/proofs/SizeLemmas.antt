-- How long the file of a made station is at most.
use Rattle.std.proofs.Common.{◌≡◌, ℕ, zero, suc, ◌+◌, ◌*◌, ◌%◌, ◌<◌, ◌≤◌, ◌^◌, List, [], ◌∷◌, ◌++◌, length, length-append, arith}
use Rattle.std.specs.Prelude.{codes, flat_map}
use Rattle.std.specs.List.{range_with_len}
use Rattle.std.specs.Fmt.{decimal}
use Rattle.std.proofs.lemmas.Fmt.{length-decimal-le}
use Rattle.plan_core.specs.declared.limits.TheConstants.{MAX_FILE_BYTES}
use Rattle.plan_core.specs.declared.sides.Side.{Side}
use Rattle.plan_core.specs.declared.sides.Side.TheVariants.{Upper, Lower}
use Rattle.station_make.specs.Station.{loops, side, leaving, returning, main_length}
use Rattle.station_make.specs.StationText.{numbered, eastward_hand, westward_hand, leaving_switch, returning_switch, switches, main_begin, main_end}
use Rattle.station_make.specs.StationText.{main_track, loop_begin, loop_end, loop_track, byte_order_mark, file_begin, file_end, station_text}

-- a number below 10^10 has at most ten digits
numbered_short : (text : List ℕ) (n : ℕ) → n < 10 ^ 10 → length (numbered text n) ≤ length text + 10
unfolding numbered
numbered_short text n small = omega (arith, length-append text (decimal n), length-decimal-le 10 n (omega arith) small (omega (arith, small)))

eastward_short : (s : Side) → length (eastward_hand s) ≤ 5
eastward_short Upper = omega arith
eastward_short Lower = omega arith

westward_short : (s : Side) → length (westward_hand s) ≤ 5
westward_short Upper = omega arith
westward_short Lower = omega arith

-- ---- the main track

leaving_short : (i : ℕ) (s : Side) → i < 15 → length (leaving_switch i s) ≤ 180
unfolding leaving_switch
leaving_short i s within =
    let a = numbered_short (codes "<switch id=\"a") i (omega arith) in
    let b = numbered_short (codes "\" pos=\"") (leaving i) (omega arith) in
    let c = numbered_short (codes "\"><connection id=\"ca") i (omega arith) in
    let d = numbered_short (codes "\" ref=\"da") i (omega arith) in
    simp length-append (omega (arith, a, b, c, d, eastward_short s))

returning_short : (i : ℕ) (s : Side) → i < 15 → length (returning_switch i s) ≤ 180
unfolding returning_switch
returning_short i s within =
    let a = numbered_short (codes "<switch id=\"b") i (omega arith) in
    let b = numbered_short (codes "\" pos=\"") (returning i) (omega arith) in
    let c = numbered_short (codes "\"><connection id=\"cb") i (omega arith) in
    let d = numbered_short (codes "\" ref=\"db") i (omega arith) in
    simp length-append (omega (arith, a, b, c, d, westward_short s))

switches_short : (n i : ℕ) → i < 15 → length (switches n i) ≤ 400
switches_short n i within = omega (
  arith,
  length-append (leaving_switch i (side n i)) (returning_switch i (side n i)),
  leaving_short i (side n i) within,
  returning_short i (side n i) within,
)

-- a text of at most 400 bytes for each number of a range below 15
each_short : (text : ℕ → List ℕ) (a n : ℕ) → ((i : ℕ) → i < 15 → length (text i) ≤ 400) → a + n ≤ 15 → length (flat_map text (range_with_len a n)) ≤ 400 * n
each_short text a zero each within = omega arith
each_short text a (suc n) each within =
    let first = each a (omega arith) in
    let rest = each_short text (a + 1) n each (omega arith) in
    omega (arith, first, rest, length-append (text a) (flat_map text (range_with_len (a + 1) n)))

main_begin_short : (n : ℕ) → length (main_begin n) ≤ 300
unfolding main_begin
main_begin_short n =
    let a = numbered_short (codes "<trackEnd id=\"me\" pos=\"") (main_length n) (omega arith) in
    simp length-append (omega (arith, a))

main_end_short : length main_end ≤ 50
unfolding main_end
main_end_short = omega arith

main_short : (n : ℕ) → length (main_track n) ≤ 400 * loops n + 350
main_short n =
    let all = each_short (switches n) 0 (loops n) (switches_short n) (omega arith) in
    let whole = length-append (main_begin n) (flat_map (switches n) (range_with_len 0 (loops n)) ++ main_end) in
    let rest = length-append (flat_map (switches n) (range_with_len 0 (loops n))) main_end in
    omega (arith, all, whole, rest, main_begin_short n, main_end_short)

-- ---- the loops

loop_begin_short : (i : ℕ) → i < 15 → length (loop_begin i) ≤ 130
unfolding loop_begin
loop_begin_short i within =
    let a = numbered_short (codes "<trackBegin id=\"lb") i (omega arith) in
    let b = numbered_short (codes "\" pos=\"0\" absPos=\"") (leaving i) (omega arith) in
    let c = numbered_short (codes "\"><connection id=\"da") i (omega arith) in
    let d = numbered_short (codes "\" ref=\"ca") i (omega arith) in
    simp length-append (omega (arith, a, b, c, d))

loop_end_short : (i : ℕ) → i < 15 → length (loop_end i) ≤ 130
unfolding loop_end
loop_end_short i within =
    let a = numbered_short (codes "<trackEnd id=\"le") i (omega arith) in
    let b = numbered_short (codes "><connection id=\"db") i (omega arith) in
    let c = numbered_short (codes "\" ref=\"cb") i (omega arith) in
    simp length-append (omega (arith, a, b, c))

loop_short : (i : ℕ) → i < 15 → length (loop_track i) ≤ 400
unfolding loop_track
loop_short i within =
    let a = numbered_short (codes "<track id=\"l") i (omega arith) in
    simp length-append (omega (arith, a, loop_begin_short i within, loop_end_short i within))

-- ---- the file

file_begin_short : (n : ℕ) → n < 2 ^ 32 → length (file_begin n) ≤ 400
unfolding file_begin
file_begin_short n small =
    let a = numbered_short (codes "<!-- station ") n (omega arith) in
    simp length-append (omega (arith, a))

file_end_short : length file_end ≤ 50
unfolding file_end
file_end_short = omega arith

mark_short : length byte_order_mark ≤ 3
unfolding byte_order_mark
mark_short = omega arith

pub station_short : (n : ℕ) → n < 2 ^ 32 → length (station_text n) ≤ MAX_FILE_BYTES
station_short n small =
    let all = each_short loop_track 0 (loops n) loop_short (omega arith) in
    let tracks = flat_map loop_track (range_with_len 0 (loops n)) in
    let a = length-append byte_order_mark (file_begin n ++ (main_track n ++ (tracks ++ file_end))) in
    let b = length-append (file_begin n) (main_track n ++ (tracks ++ file_end)) in
    let c = length-append (main_track n) (tracks ++ file_end) in
    let d = length-append tracks file_end in
    omega (arith, all, a, b, c, d, mark_short, file_begin_short n small, main_short n, file_end_short)
