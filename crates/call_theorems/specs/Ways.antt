-- Exact at the call: the ways in which each call ends. Each has its answer, its ground in the words of docs/RULES.md, and what is left in all that was
-- lent. A call's promise is met where one of its ways holds, and nowhere else. Definitions only.
use Rattle.std.specs.Prelude.{◌≡◌, ◌⊎◌, Bool, true, false, List, ◌++◌, ℕ, ◌-◌, ◌*◌, ◌/◌, ◌≤◌, ◌<◌, min, ℤ, pos, length, replicate, drop, Float}
use Rattle.panel.specs.Pieces.{Pieces}
use Rattle.lists.specs.Run.{done}
use Rattle.lists.specs.Sums.{sum}
use Rattle.lists.specs.Tally.{zeros}
use Rattle.panel.specs.Limits.{most_tiles, most_slots, most_commands, side_most}
use Rattle.panel.specs.Refusals.{not_whole, too_many, no_room_word, sum_over, too_long_word, bad_size, bad_file}
use Rattle.panel.specs.Widths.{ref_words}
use Rattle.panel.specs.Kinds.{running_of}
use Rattle.panel.specs.Checks.{Check, first_no}
use Rattle.panel.specs.Paths.{path_count, paths_answer}
use Rattle.panel.specs.declared.kinds.Running.{Running}
use Rattle.panel.specs.Answer.{Answer, Done, Refused}
use Rattle.panel.specs.Verdict.{Fine}
use Rattle.acts.specs.Acts.{st_of}
use Rattle.path_count.specs.Count as Count
use Rattle.path_count.specs.Count.{batch}
use Rattle.path_count.specs.Counted.{Counted}
use Rattle.backdrop.specs.Backdrop as Backdrop
use Rattle.hand_out.specs.HandOut.{hand}
use Rattle.looks.specs.Look.{Lent, lent}
use Rattle.path_tiling.specs.Tiling.{range_of, slots_of, applied}
use Rattle.path_tiling.specs.Tiling as Tiling
use Rattle.frame.specs.Frame as Frame
use Rattle.frame.specs.declared.kinds.Stage.TheVariants as Stage
use Rattle.frame.specs.Framed.{Framed}
use Rattle.coverage.specs.Fill.{fill_checks}
use Rattle.coverage.specs.Coverage.{coverage_of, pixel_of}
use Rattle.sides.specs.Tile.{tile_size}
use Rattle.colours.specs.Colour.{pack_of}
use Rattle.commands.specs.Numbers.{start_of}
use Rattle.screen_tile.specs.Tile.{ends_at, colour_at}
use Rattle.fine.specs.Fine.{fine_checks, tiles_of}
use Rattle.pixel.specs.Place.{place_at, place_checks}
use Rattle.pixel.specs.Colour.{whole_checks}
use Rattle.pixel.specs.Covered.{Covered}
use Rattle.pixel.specs.Coloured.{Coloured}
use Rattle.pairs.specs.Pairs.{Tables}
use Rattle.lay_pairs.specs.Layout.{written}
use Rattle.write_lists.specs.Lists as Lists
use Rattle.write_lists.specs.Lists.{lists_of}
use Rattle.ppm_write.specs.Bytes.{pixel_bytes}
use Rattle.ppm_write.specs.File.{file_of}
use Rattle.ppm_write.specs.Written.{Written}
use Rattle.ppm_read.specs.Grammar.{IsHeader}
use Rattle.ppm_read.specs.Answer as Read
use Rattle.theorems.specs.Refusing.{RowWhy, PathsWhy, LineWhy, LookWhy, BackdropWhy}
use Rattle.theorems.specs.Commands.{TraceWhy}
use Rattle.theorems.specs.Framing.{tiled_as}
use Rattle.list_theorems.specs.Refusing.{FirstLong, AllShort, NoRoom}

-- ---- what a call checks first: a row of checks, then the paths over so many tiles

-- refused with n: by the first check of the row that fails, or by the paths
abbrev pub FirstWhy : List Check → (paths : List ℕ) (stored n item : ℕ) → Type 0
FirstWhy row paths stored n item = (RowWhy n row × (item ≡ 0)) ⊎ ((first_no row ≡ Fine) × PathsWhy paths stored n item)

-- or not refused
abbrev pub Passes : List Check → (paths : List ℕ) (stored : ℕ) → Type 0
Passes row paths stored = (first_no row ≡ Fine) × (paths_answer paths stored ≡ Done)

-- ---- counting

abbrev pub count_row : Running → ℕ → (nos : List ℕ) (coords : List Float) (bs : List ℤ) (cs rs : List ℕ) → List Check
count_row r b nos coords bs cs rs = Count.lent_checks (length nos) (length coords) (length bs) (length cs) (length rs) r.lines b

pub data CountWay (r : Running) (b : ℕ) (nos : List ℕ) (coords : List Float) (paths : List ℕ) (bs : List ℤ) (cs rs : List ℕ)
    (x : Counted) (bs' : List ℤ) (cs' rs' : List ℕ) : Type 0 where
  -- 1 to 4: nothing changes
  lent_refused : (n item : ℕ) → x ≡ Counted.Refused n item r → FirstWhy (count_row r b nos coords bs cs rs) paths (length cs) n item
      → bs' ≡ bs → cs' ≡ cs → rs' ≡ rs → CountWay r b nos coords paths bs cs rs x bs' cs' rs'
  -- line l is refused, the first: those before it are done, and what they leave is left
  line_refused : (n l m : ℕ) → x ≡ Counted.Refused n l (running_of l m) → Passes (count_row r b nos coords bs cs rs) paths (length cs) → r.lines ≤ l → l < b
      → batch nos coords paths (length rs / ref_words) r.lines l (st_of bs cs rs r.refs) ≡ done (st_of bs' cs' rs' m)
      → LineWhy nos coords paths (length rs / ref_words) l (st_of bs' cs' rs' m) n → CountWay r b nos coords paths bs cs rs x bs' cs' rs'
  -- all lines are done
  all_counted : (m : ℕ) → x ≡ Counted.Done (running_of b m) → Passes (count_row r b nos coords bs cs rs) paths (length cs)
      → batch nos coords paths (length rs / ref_words) r.lines b (st_of bs cs rs r.refs) ≡ done (st_of bs' cs' rs' m)
      → CountWay r b nos coords paths bs cs rs x bs' cs' rs'

-- ---- backdrop

pub data BackdropWay (paths : List ℕ) (bs : List ℤ) (x : Answer) (bs' : List ℤ) : Type 0 where
  -- 1 to 4: nothing changes
  paths_refused : (n item : ℕ) → x ≡ Refused n item → PathsWhy paths (length bs) n item → bs' ≡ bs → BackdropWay paths bs x bs'
  -- 11: path k is the first with a sum that leaves i32; those before it are summed
  path_refused : (k : ℕ) → x ≡ Refused sum_over k → BackdropWhy paths bs k bs' → BackdropWay paths bs x bs'
  -- all are summed
  all_summed : x ≡ Done → paths_answer paths (length bs) ≡ Done → Backdrop.sum_paths paths (path_count paths) 0 bs ≡ Backdrop.out_of Done bs' → BackdropWay paths bs x bs'

-- ---- hand-out

pub data HandWay (room : ℕ) (ns kept : List ℕ) (x : Answer) (ns' kept' : List ℕ) : Type 0 where
  -- 1: the slices differ in length. 2: too many tiles. 9: the sum of counts is over the room named or the limit. Nothing changes
  unpaired : x ≡ Refused not_whole 0 → (length ns ≡ length kept → ⊥) → ns' ≡ ns → kept' ≡ kept → HandWay room ns kept x ns' kept'
  many : x ≡ Refused too_many 0 → length ns ≡ length kept → most_tiles < length ns → ns' ≡ ns → kept' ≡ kept → HandWay room ns kept x ns' kept'
  over : x ≡ Refused no_room_word 0 → length ns ≡ length kept → length ns ≤ most_tiles → min room most_slots < sum ns → ns' ≡ ns → kept' ≡ kept → HandWay room ns kept x ns' kept'
  -- the tiles hold their first slots, and the tally the counts
  handed : x ≡ Done → length ns ≡ length kept → length ns ≤ most_tiles → sum ns ≤ min room most_slots → ns' ≡ hand 0 ns → kept' ≡ ns → HandWay room ns kept x ns' kept'

-- ---- tiling

abbrev pub tile_whole : ℕ → ℕ → Lent → Pieces → Bool
tile_whole from to L p =
    Tiling.whole_of from to (length L.path_nos) (length L.coords) (length L.paths) (length L.refs)
    (length p.segments) (length p.tags)

-- no reference of a range is refused
abbrev pub NoneRefused : Lent → (slots low high : ℕ) → Type 0
NoneRefused L slots low high = (j m : ℕ) → low ≤ j → j < high → LookWhy L slots j m → ⊥

pub data TileWay (from to : ℕ) (L : Lent) (p : Pieces) (x : Answer) (p' : Pieces) : Type 0 where
  -- 1: a length or the range
  unwhole : x ≡ Refused not_whole 0 → tile_whole from to L p ≡ false → p' ≡ p → TileWay from to L p x p'
  -- 1 to 4 of the paths
  paths_refused : (n item : ℕ) → x ≡ Refused n item → tile_whole from to L p ≡ true → PathsWhy L.paths (length L.stored) n item → p' ≡ p
      → TileWay from to L p x p'
  -- reference k is refused, the first: the segments and tags of those before it are written, and no other
  ref_refused : (n k : ℕ) → x ≡ Refused n k → tile_whole from to L p ≡ true → paths_answer L.paths (length L.stored) ≡ Done → from ≤ k → k < to
      → NoneRefused L (slots_of (length p.segments)) from k → LookWhy L (slots_of (length p.segments)) k n
      → p' ≡ applied (range_of L (slots_of (length p.segments)) (k - from) from).writes p → TileWay from to L p x p'
  -- none is: all are written
  all_tiled : x ≡ Done → tile_whole from to L p ≡ true → paths_answer L.paths (length L.stored) ≡ Done → NoneRefused L (slots_of (length p.segments)) from to
      → p' ≡ applied (range_of L (slots_of (length p.segments)) (to - from) from).writes p → TileWay from to L p x p'

-- ---- coverage

pub data FillWay (segs : List Float) (first n : ℕ) (even_odd : Bool) (backdrop : ℤ) (x y : Float) (area : List Float) (a : Answer) (area' : List Float) : Type 0 where
  -- 1, 13: nothing changes
  fill_refused : (k : ℕ) → a ≡ Refused k 0 → RowWhy k (fill_checks segs (length area) first n) → area' ≡ area → FillWay segs first n even_odd backdrop x y area a area'
  filled : a ≡ Done → first_no (fill_checks segs (length area) first n) ≡ Fine → area' ≡ coverage_of segs first n even_odd backdrop x y
      → FillWay segs first n even_odd backdrop x y area a area'

-- ---- fine

abbrev pub fine_row : List Float → (width cols rows from to : ℕ) → List ℕ → List Check
fine_row segs width cols rows from to pixels = fine_checks (length segs) width cols rows from to (length pixels)

pub data FineWay (words : List ℕ) (segs : List Float) (width cols rows from to : ℕ) (pixels : List ℕ) (x : Answer) (pixels' : List ℕ) : Type 0 where
  -- 1, 2, 16: nothing changes
  screen_refused : (n : ℕ) → x ≡ Refused n 0 → RowWhy n (fine_row segs width cols rows from to pixels) → pixels' ≡ pixels → FineWay words segs width cols rows from to pixels x pixels'
  -- screen tile t is refused by its commands, the first: those before it are shown
  tile_refused : (n t : ℕ) → x ≡ Refused n t → first_no (fine_row segs width cols rows from to pixels) ≡ Fine → from ≤ t → t < to
      → tiles_of words segs width cols from t pixels ≡ done pixels' → TraceWhy most_commands words segs (start_of t) n
      → FineWay words segs width cols rows from to pixels x pixels'
  -- all are shown
  all_shown : x ≡ Done → first_no (fine_row segs width cols rows from to pixels) ≡ Fine → tiles_of words segs width cols from to pixels ≡ done pixels'
      → FineWay words segs width cols rows from to pixels x pixels'

-- ---- one pixel

pub data PixelAreaWay (segs : List Float) (first n : ℕ) (even_odd : Bool) (backdrop : ℤ) (x y : Float) (column row : ℕ) (a : Covered) : Type 0 where
  -- 19
  area_off : (k : ℕ) → a ≡ Covered.Refused k → RowWhy k (place_checks column row) → PixelAreaWay segs first n even_odd backdrop x y column row a
  -- 1, 13, 20, as fill has them
  area_refused : (k : ℕ) → a ≡ Covered.Refused k → first_no (place_checks column row) ≡ Fine → RowWhy k (fill_checks segs tile_size first n)
      → PixelAreaWay segs first n even_odd backdrop x y column row a
  covered : a ≡ Covered.Done (pixel_of segs first n even_odd backdrop x y (place_at column row)) → first_no (place_checks column row) ≡ Fine
      → first_no (fill_checks segs tile_size first n) ≡ Fine → PixelAreaWay segs first n even_odd backdrop x y column row a

pub data PixelWay (words : List ℕ) (segs : List Float) (t column row : ℕ) (a : Coloured) : Type 0 where
  -- 19
  pixel_off : (k : ℕ) → a ≡ Coloured.Refused k → RowWhy k (place_checks column row) → PixelWay words segs t column row a
  -- 1
  pixel_unwhole : (k : ℕ) → a ≡ Coloured.Refused k → first_no (place_checks column row) ≡ Fine → RowWhy k (whole_checks (length segs)) → PixelWay words segs t column row a
  -- 13, 14, 15, 20: by the tile's commands
  list_refused : (k : ℕ) → a ≡ Coloured.Refused k → first_no (place_checks column row) ≡ Fine → first_no (whole_checks (length segs)) ≡ Fine
      → TraceWhy most_commands words segs (start_of t) k → PixelWay words segs t column row a
  coloured : a ≡ Coloured.Done (pack_of (colour_at words segs t (place_at column row))) → first_no (place_checks column row) ≡ Fine
      → first_no (whole_checks (length segs)) ≡ Fine → ends_at words segs t ≡ Fine → PixelWay words segs t column row a

-- ---- the lists

abbrev pub lists_row : Tables → (cols rows : ℕ) → List Check
lists_row s cols rows = Lists.lent_checks (length s.paths) (length s.paints) (length s.backdrops) (length s.stored) (length s.tally) cols rows

pub data ListsWay (s : Tables) (cols rows room : ℕ) (ws : List ℕ) (x : Answer) (ws' : List ℕ) : Type 0 where
  -- 1 to 4: nothing changes
  lists_refused : (n item : ℕ) → x ≡ Refused n item → FirstWhy (lists_row s cols rows) s.paths (length s.backdrops) n item → ws' ≡ ws → ListsWay s cols rows room ws x ws'
  -- 15: screen tile t is the first over the limit
  too_long : (t : ℕ) → x ≡ Refused too_long_word t → Passes (lists_row s cols rows) s.paths (length s.backdrops) → FirstLong s cols rows t → ws' ≡ ws → ListsWay s cols rows room ws x ws'
  -- 9: none is, and a region or a FILL's slots have no room
  no_room : x ≡ Refused no_room_word 0 → Passes (lists_row s cols rows) s.paths (length s.backdrops) → AllShort s cols rows → NoRoom s cols rows room (length ws) → ws' ≡ ws
      → ListsWay s cols rows room ws x ws'
  -- all lists are written
  all_written : x ≡ Done → Passes (lists_row s cols rows) s.paths (length s.backdrops) → AllShort s cols rows → (NoRoom s cols rows room (length ws) → ⊥)
      → ws' ≡ written (lists_of s cols rows) ws → ListsWay s cols rows room ws x ws'

-- ---- a frame, by its stages' ways

abbrev pub frame_row : (nos : List ℕ) (coords : List Float) (backs : List ℤ) (stored tally refs : List ℕ) (p : Pieces) → List Check
frame_row nos coords backs stored tally refs p =
    Frame.lent_checks (length nos) (length coords) (length backs) (length stored) (length tally) (length refs)
    (length p.segments) (length p.tags)

-- counting's way, of all lines into n cleared tiles
abbrev pub FrameCounts : (nos : List ℕ) (coords : List Float) (paths : List ℕ) → ℕ → (refs : List ℕ) → Counted → (bs : List ℤ) (cs rs : List ℕ) → Type 0
FrameCounts nos coords paths n refs x bs cs rs = CountWay (running_of 0 0) (length nos) nos coords paths (replicate n (pos 0)) (zeros n) refs x bs cs rs

pub data FrameWay (nos : List ℕ) (coords : List Float) (paths : List ℕ) (backs : List ℤ) (stored tally refs : List ℕ) (p : Pieces)
    (x : Framed) (bs : List ℤ) (ts ks rs : List ℕ) (sg : Pieces) : Type 0 where
  -- 1 to 4: nothing changes
  frame_refused : (n item : ℕ) → x ≡ Framed.Refused Stage.Lent n item (running_of 0 0) → FirstWhy (frame_row nos coords backs stored tally refs p) paths (length stored) n item
      → bs ≡ backs → ts ≡ stored → ks ≡ tally → rs ≡ refs → sg ≡ p → FrameWay nos coords paths backs stored tally refs p x bs ts ks rs sg
  -- a line is refused: the lines before it are counted into cleared tiles
  count_refused : (n : ℕ) (s : Running) → x ≡ Framed.Refused Stage.Count n s.lines s → Passes (frame_row nos coords backs stored tally refs p) paths (length stored)
      → FrameCounts nos coords paths (length stored) refs (Counted.Refused n s.lines s) bs ts rs → ks ≡ tally → sg ≡ p
      → FrameWay nos coords paths backs stored tally refs p x bs ts ks rs sg
  -- 9: all lines are counted and summed, and there are more references than segments lent, or than may be
  slots_refused : (s : Running) (marks : List ℤ) → x ≡ Framed.Refused Stage.HandOut no_room_word 0 s → Passes (frame_row nos coords backs stored tally refs p) paths (length stored)
      → FrameCounts nos coords paths (length stored) refs (Counted.Done s) marks ts rs → BackdropWay paths marks Done bs → slots_of (length p.segments) < s.refs → ks ≡ tally → sg ≡ p
      → FrameWay nos coords paths backs stored tally refs p x bs ts ks rs sg
  -- all lines are counted and summed, the slots are handed out, and the references tiled: all, or those before the one refused
  frame_tiled : (a : Answer) (s : Running) (marks : List ℤ) → x ≡ tiled_as a s → Passes (frame_row nos coords backs stored tally refs p) paths (length stored)
      → FrameCounts nos coords paths (length stored) refs (Counted.Done s) marks ks rs → BackdropWay paths marks Done bs → s.refs ≤ slots_of (length p.segments) → ts ≡ hand 0 ks
      → TileWay 0 s.refs (lent nos coords paths ts rs) p a sg → FrameWay nos coords paths backs stored tally refs p x bs ts ks rs sg

-- ---- a picture, written and read

-- a width or a height outside 1 to the limit
abbrev pub BadSide : ℕ → Type 0
BadSide n = (n < 1) ⊎ (side_most < n)

abbrev pub BadSides : ℕ → ℕ → Type 0
BadSides w h = BadSide w ⊎ BadSide h

pub data WriteWay (pixels : List ℕ) (w h : ℕ) (out : List ℕ) (x : Written) (out' : List ℕ) : Type 0 where
  -- 17: a side. 1: the pixels aren't as many. 9: the file has no room. Nothing changes
  bad_size_lem : x ≡ Written.Refused bad_size → BadSides w h → out' ≡ out → WriteWay pixels w h out x out'
  miscounted : x ≡ Written.Refused not_whole → (BadSides w h → ⊥) → (length pixels ≡ w * h → ⊥) → out' ≡ out → WriteWay pixels w h out x out'
  no_place : x ≡ Written.Refused no_room_word → (BadSides w h → ⊥) → length pixels ≡ w * h → length out < length (file_of pixels w h) → out' ≡ out → WriteWay pixels w h out x out'
  -- the file stands at the front
  file_written : x ≡ Written.Done (length (file_of pixels w h)) → (BadSides w h → ⊥) → length pixels ≡ w * h → length (file_of pixels w h) ≤ length out
      → out' ≡ file_of pixels w h ++ drop (length (file_of pixels w h)) out → WriteWay pixels w h out x out'

pub data ReadWay (file out : List ℕ) (x : Read.Answer) (out' : List ℕ) : Type 0 where
  -- 18: no header that the grammar has. 17: a side. 18: raster bytes missing or left over. 9: no room for them. Nothing changes
  no_header_lem : x ≡ Read.Refused bad_file → ((w h : ℕ) (raster : List ℕ) → IsHeader file w h raster → ⊥) → out' ≡ out → ReadWay file out x out'
  bad_sides : (w h : ℕ) (raster : List ℕ) → IsHeader file w h raster → x ≡ Read.Refused bad_size → BadSides w h → out' ≡ out → ReadWay file out x out'
  bad_raster : (w h : ℕ) (raster : List ℕ) → IsHeader file w h raster → x ≡ Read.Refused bad_file → (BadSides w h → ⊥) → (length raster ≡ w * h * pixel_bytes → ⊥)
      → out' ≡ out → ReadWay file out x out'
  no_bytes : (w h : ℕ) (raster : List ℕ) → IsHeader file w h raster → x ≡ Read.Refused no_room_word → (BadSides w h → ⊥) → length raster ≡ w * h * pixel_bytes
      → length out < length raster → out' ≡ out → ReadWay file out x out'
  -- the raster stands at the front
  picture_read : (w h : ℕ) (raster : List ℕ) → IsHeader file w h raster → x ≡ Read.Done w h → (BadSides w h → ⊥) → length raster ≡ w * h * pixel_bytes
      → length raster ≤ length out → out' ≡ raster ++ drop (length raster) out → ReadWay file out x out'
