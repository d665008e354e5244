-- The file of a made station.
use Rattle.std.specs.Prelude.{ℕ, List, [], ◌∷◌, ◌++◌, codes, flat_map}
use Rattle.std.specs.List.{range_with_len}
use Rattle.std.specs.Fmt.{decimal}
use Rattle.plan_core.specs.declared.sides.Side.{Side}
use Rattle.plan_core.specs.declared.sides.Side.TheVariants.{Upper, Lower}
use Rattle.station_make.specs.Station.{loops, side, leaving, returning, main_length}

-- a text with a number behind it
unfoldable pub numbered : List ℕ → ℕ → List ℕ
numbered text n = text ++ decimal n

-- ---- the main track

-- to which hand a loop of this side leaves the main track, seen eastwards, and to which it does so seen westwards
abbrev pub eastward_hand : Side → List ℕ
eastward_hand Upper = codes "left"
eastward_hand Lower = codes "right"

abbrev pub westward_hand : Side → List ℕ
westward_hand Upper = codes "right"
westward_hand Lower = codes "left"

-- the switch at which loop i leaves, and that at which it comes back
unfoldable pub leaving_switch : ℕ → Side → List ℕ
leaving_switch i side =
    numbered (codes "<switch id=\"a") i ++ numbered (codes "\" pos=\"") (leaving i)
    ++ numbered (codes "\"><connection id=\"ca") i ++ numbered (codes "\" ref=\"da") i
    ++ codes "\" course=\"" ++ eastward_hand side ++ codes "\" orientation=\"outgoing\"/></switch>\n"

unfoldable pub returning_switch : ℕ → Side → List ℕ
returning_switch i side =
    numbered (codes "<switch id=\"b") i ++ numbered (codes "\" pos=\"") (returning i)
    ++ numbered (codes "\"><connection id=\"cb") i ++ numbered (codes "\" ref=\"db") i
    ++ codes "\" course=\"" ++ westward_hand side ++ codes "\" orientation=\"incoming\"/></switch>\n"

abbrev pub switches : ℕ → ℕ → List ℕ
switches n i = leaving_switch i (side n i) ++ returning_switch i (side n i)

unfoldable pub main_begin : ℕ → List ℕ
main_begin n =
    codes "<track id=\"m\" name=\"main\"><trackTopology>\n"
    ++ codes "<trackBegin id=\"mb\" pos=\"0\" absPos=\"0\"><openEnd id=\"mo\"/></trackBegin>\n"
    ++ numbered (codes "<trackEnd id=\"me\" pos=\"") (main_length n) ++ codes "\"><openEnd id=\"mp\"/></trackEnd>\n"
    ++ codes "<connections>\n"

unfoldable pub main_end : List ℕ
main_end = codes "</connections></trackTopology></track>\n"

-- the main track, with the switches of all loops from the west
abbrev pub main_track : ℕ → List ℕ
main_track n = main_begin n ++ (flat_map (switches n) (range_with_len 0 (loops n)) ++ main_end)

-- ---- the loops

unfoldable pub loop_begin : ℕ → List ℕ
loop_begin i =
    numbered (codes "<trackBegin id=\"lb") i ++ numbered (codes "\" pos=\"0\" absPos=\"") (leaving i)
    ++ numbered (codes "\"><connection id=\"da") i ++ numbered (codes "\" ref=\"ca") i ++ codes "\"/></trackBegin>\n"

unfoldable pub loop_end : ℕ → List ℕ
loop_end i =
    numbered (codes "<trackEnd id=\"le") i ++ codes "\" pos=\"600\""
    ++ numbered (codes "><connection id=\"db") i ++ numbered (codes "\" ref=\"cb") i ++ codes "\"/></trackEnd>\n"

-- the track of loop i
unfoldable pub loop_track : ℕ → List ℕ
loop_track i =
    numbered (codes "<track id=\"l") i ++ codes "\" name=\"loop\"><trackTopology>\n"
    ++ loop_begin i ++ loop_end i
    ++ codes "</trackTopology></track>\n"

-- ---- the file

unfoldable pub byte_order_mark : List ℕ
byte_order_mark = 239 ∷ 187 ∷ 191 ∷ []

unfoldable pub file_begin : ℕ → List ℕ
file_begin n =
    codes "<?xml version=\"1.0\" encoding=\"UTF-8\"?>\n"
    ++ numbered (codes "<!-- station ") n ++ codes " -->\n"
    ++ codes "<railml xmlns=\"http://www.railml.org/schemas/2013\" version=\"2.2\">\n"
    ++ codes "<metadata><dc:title xmlns:dc=\"http://purl.org/dc/elements/1.1/\">station</dc:title></metadata>\n"
    ++ codes "<infrastructure id=\"i\"><tracks>\n"

unfoldable pub file_end : List ℕ
file_end = codes "</tracks></infrastructure></railml>\n"

-- the main track, and then the tracks of all loops from the west
abbrev pub station_text : ℕ → List ℕ
station_text n = byte_order_mark ++ (file_begin n ++
    (main_track n ++ (flat_map loop_track (range_with_len 0 (loops n)) ++ file_end)))
