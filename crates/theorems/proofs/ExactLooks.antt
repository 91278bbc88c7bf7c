-- Refusals are exact: of a reference, when tiling. Assumes nothing.
use mathlib.Core.Path.{◌≡◌, refl, sym, ap, ◌∙◌}
use mathlib.Core.Logic.{◌↔◌, ◌⊎◌, inl, inr, ⊎_elim}
use mathlib.Core.Bool.{Bool, true, false, cond}
use Prim.Native.Nat.{ℕ, ◌+◌, ◌≤◌, ◌<◌}
use native.Mathlib.Decide.{dec_lt}
use native.Mathlib.Omega.{arith}
use lib.Dec.{ltb}
use lib.ListN.{length, get_or}
use borrow.Author.Tests.{lt-ltb, le-ltb, ltb-true, ltb-false}
use Rattle.panel.specs.Slots.{handed_from, slot_of}
use Rattle.panel.specs.Refusals.{coordinate, no_such, no_room_word, outside, crooked}
use Rattle.panel.specs.Paths.{path_at, path_count}
use Rattle.panel.specs.declared.kinds.Path.{Path}
use Rattle.util.specs.declared.Vec2.{Vec2}
use Rattle.walk.specs.Step.{step_of}
use Rattle.walk.specs.Lent.{line_at, reached_of, walked_of, walk_at}
use Rattle.walk.specs.declared.kinds.Walk.{Walk}
use Rattle.walk.specs.Stepped.{Step}
use Rattle.walk.specs.Stepped as On
use Rattle.walk.specs.Walked.{Walked}
use Rattle.walk.specs.Walked as Found
use Rattle.segment.specs.Clips.{piece_of}
use Rattle.segment.specs.Piece.{Piece, Kept, Crooked}
use Rattle.looks.specs.Look as Look
use Rattle.looks.specs.Look.{Lent, packed_at, step_no, slice_no, piece_to, word_to, step_to, found_to, found_of, look_of}
use Rattle.looks.specs.Looked.{Empty, Against}
use Rattle.theorems.specs.Refusing.{RefWalks, RefOn, LookWhy, seven_line, six_line, seven_path, seven_skipped, ten_step, nine_slot, twelve}
use Rattle.theorems.proofs.Grounds.{ends_exact, ends_good, good_ends, step_exact, piece_exact}
use Rattle.theorems.proofs.Exact.{no_clash, never}

-- a tile's word
word_why : (slots word slice : ℕ) (p : Piece) (n : ℕ) → word_to slots word slice p ≡ Against n
    → (handed_from ≤ word) × (((n ≡ no_room_word) × (slots < slot_of word slice + 1)) ⊎ ((n ≡ crooked) × (slot_of word slice + 1 ≤ slots) × (p ≡ Crooked)))
unfolding word_to piece_to
word_why slots word slice p n e = go (ltb word handed_from) refl (ltb slots (slot_of word slice + 1)) refl p refl e
  where
    go : (x : Bool) → ltb word handed_from ≡ x → (y : Bool) → ltb slots (slot_of word slice + 1) ≡ y → (q : Piece) → p ≡ q
        → cond x Empty (cond y (Against no_room_word) (piece_to (slot_of word slice) q)) ≡ Against n
        → (handed_from ≤ word) × (((n ≡ no_room_word) × (slots < slot_of word slice + 1)) ⊎ ((n ≡ crooked) × (slot_of word slice + 1 ≤ slots) × (p ≡ Crooked)))
    go true f y g q i h = no_clash cc
    go false f true g q i h = (ltb-false word handed_from f, inl (cc, ltb-true slots (slot_of word slice + 1) g))
    go false f false g (Kept s) i h = no_clash cc
    go false f false g Crooked i h = (ltb-false word handed_from f, inr (cc, ltb-false slots (slot_of word slice + 1) g, i))

module _ (L : Lent) (slots k n : ℕ) where
  line : ℕ
  line = Look.line_at L.refs k

  step_why : (w : Walk) (b : Path) → RefWalks L k w b → (s : Step) → step_of w.pace b (step_no (packed_at L.refs k)) ≡ s
      → step_to L.stored slots w (step_no (packed_at L.refs k)) (slice_no (packed_at L.refs k)) s ≡ Against n → LookWhy L slots k n
  unfolding step_to
  step_why w b h (On.Tile t x y z) e f =
      let r = word_why slots (get_or L.stored t.0 0) (slice_no (packed_at L.refs k)) (piece_of w (step_no (packed_at L.refs k)) z x y) n f in
      let o : RefOn L k w b = record { tile = t; x = x; y = y; z = z; fell = e; handed = r.0 } in
      ⊎_elim (λ q. nine_slot q.0 w b h o q.1) (λ q. twelve q.0 w b h o q.1 ((piece_exact w (step_no (packed_at L.refs k)) z x y).0 q.2)) r.1
  step_why w b h On.Refused e f = ten_step (cc) w b h ((step_exact w.pace b (step_no (packed_at L.refs k))).0 e)

  found_why : Look.line_at L.refs k < length L.path_nos → (x : Walked) → walk_at L.path_nos L.coords L.paths (Look.line_at L.refs k) ≡ x
      → found_to L.stored slots (packed_at L.refs k) x ≡ Against n → LookWhy L slots k n
  unfolding found_to walk_at
  found_why h (Found.Line w b) e f = step_why w b (h, e) (step_of w.pace b (step_no (packed_at L.refs k))) refl f
  found_why h Found.Skipped e f = seven_skipped (cc) h e
  found_why h (Found.Refused m) e f =
      go (reached_of p0 p1) refl (ltb (get_or L.path_nos (Look.line_at L.refs k) 0) (path_count L.paths)) refl
      (walked_of p0 p1 (path_at L.paths (get_or L.path_nos (Look.line_at L.refs k) 0))) refl e
    where
      p0 : Vec2
      p0 = (line_at L.coords (Look.line_at L.refs k)).p0

      p1 : Vec2
      p1 = (line_at L.coords (Look.line_at L.refs k)).p1

      same : m ≡ n
      same = cc

      go : (x : Bool) → reached_of p0 p1 ≡ x → (y : Bool) → ltb (get_or L.path_nos (Look.line_at L.refs k) 0) (path_count L.paths) ≡ y
          → (v : Walked) → walked_of p0 p1 (path_at L.paths (get_or L.path_nos (Look.line_at L.refs k) 0)) ≡ v
          → cond x (cond y v (Found.Refused no_such)) (Found.Refused coordinate) ≡ Found.Refused m → LookWhy L slots k n
      go false g y i v j d = let z : coordinate ≡ m = cc in six_line (sym same ∙ sym z) h ((ends_exact (line_at L.coords (Look.line_at L.refs k))).0 g)
      go true g false i v j d =
          let z : no_such ≡ m = cc in
          seven_path (sym same ∙ sym z) h (good_ends (line_at L.coords (Look.line_at L.refs k)) g) (ltb-false (get_or L.path_nos (Look.line_at L.refs k) 0) (path_count L.paths) i)
      go true g true i v j d = absurd (never p0 p1 (path_at L.paths (get_or L.path_nos (Look.line_at L.refs k) 0)) m (j ∙ d))

  -- and back
  is_found : Look.line_at L.refs k < length L.path_nos → (x : Walked) → walk_at L.path_nos L.coords L.paths (Look.line_at L.refs k) ≡ x
      → look_of L slots k ≡ found_to L.stored slots (packed_at L.refs k) x
  unfolding look_of found_of
  is_found h x e = rw (lt-ltb (Look.line_at L.refs k) (length L.path_nos) h, e)

  no_line : length L.path_nos ≤ Look.line_at L.refs k → look_of L slots k ≡ Against no_such
  unfolding look_of found_of found_to
  no_line h = rw (le-ltb (Look.line_at L.refs k) (length L.path_nos) h)

  no_walk : (m : ℕ) → Look.line_at L.refs k < length L.path_nos → walk_at L.path_nos L.coords L.paths (Look.line_at L.refs k) ≡ Found.Refused m → look_of L slots k ≡ Against m
  unfolding found_to
  no_walk m h e = is_found h (Found.Refused m) e

  walk_six : reached_of (line_at L.coords (Look.line_at L.refs k)).p0 (line_at L.coords (Look.line_at L.refs k)).p1 ≡ false
      → walk_at L.path_nos L.coords L.paths (Look.line_at L.refs k) ≡ Found.Refused coordinate
  unfolding walk_at
  walk_six e = rw e

  walk_seven : reached_of (line_at L.coords (Look.line_at L.refs k)).p0 (line_at L.coords (Look.line_at L.refs k)).p1 ≡ true
      → path_count L.paths ≤ get_or L.path_nos (Look.line_at L.refs k) 0
      → walk_at L.path_nos L.coords L.paths (Look.line_at L.refs k) ≡ Found.Refused no_such
  unfolding walk_at
  walk_seven e f = rw (e, le-ltb (get_or L.path_nos (Look.line_at L.refs k) 0) (path_count L.paths) f)

  no_skip : Look.line_at L.refs k < length L.path_nos → walk_at L.path_nos L.coords L.paths (Look.line_at L.refs k) ≡ Found.Skipped → look_of L slots k ≡ Against no_such
  unfolding found_to
  no_skip h e = is_found h Found.Skipped e

  by_step : (w : Walk) (b : Path) → RefWalks L k w b → (s : Step) → step_of w.pace b (step_no (packed_at L.refs k)) ≡ s
      → look_of L slots k ≡ step_to L.stored slots w (step_no (packed_at L.refs k)) (slice_no (packed_at L.refs k)) s
  unfolding found_to
  by_step w b h s e = is_found h.0 (Found.Line w b) h.1 ∙ rw e

  step_ten : (w : Walk) (b : Path) → RefWalks L k w b → step_of w.pace b (step_no (packed_at L.refs k)) ≡ On.Refused → look_of L slots k ≡ Against outside
  unfolding step_to
  step_ten w b h e = by_step w b h On.Refused e

  by_word : (w : Walk) (b : Path) → RefWalks L k w b → (o : RefOn L k w b)
      → look_of L slots k ≡ word_to slots (get_or L.stored o.tile.0 0) (slice_no (packed_at L.refs k)) (piece_of w (step_no (packed_at L.refs k)) o.z o.x o.y)
  unfolding step_to
  by_word w b h o = by_step w b h (On.Tile o.tile o.x o.y o.z) o.fell

  word_nine : (word slice : ℕ) (p : Piece) → handed_from ≤ word → slots < slot_of word slice + 1 → word_to slots word slice p ≡ Against no_room_word
  unfolding word_to
  word_nine word slice p h f = rw (le-ltb word handed_from h, lt-ltb slots (slot_of word slice + 1) f)

  word_twelve : (word slice : ℕ) (p : Piece) → handed_from ≤ word → slot_of word slice + 1 ≤ slots → p ≡ Crooked → word_to slots word slice p ≡ Against crooked
  unfolding word_to piece_to
  word_twelve word slice p h f e = rw (le-ltb word handed_from h, le-ltb slots (slot_of word slice + 1) f, e)

  -- Refusals of a reference, when tiling, are exact
  pub look_exact : (look_of L slots k ≡ Against n) ↔ LookWhy L slots k n
  look_exact = (why, halts)
    where
      why : look_of L slots k ≡ Against n → LookWhy L slots k n
      why e = go (dec_lt (Look.line_at L.refs k) (length L.path_nos))
        where
          go : Dec (Look.line_at L.refs k < length L.path_nos) → LookWhy L slots k n
          go (yes h) = found_why h (walk_at L.path_nos L.coords L.paths (Look.line_at L.refs k)) refl
              (sym (is_found h (walk_at L.path_nos L.coords L.paths (Look.line_at L.refs k)) refl) ∙ e)
          go (no h) = let f : Against no_such ≡ Against n = sym (no_line (omega arith)) ∙ e in seven_line (cc) (omega arith)

      halts : LookWhy L slots k n → look_of L slots k ≡ Against n
      halts (seven_line q h) = no_line h ∙ ap Against (sym q)
      halts (six_line q h e) = no_walk coordinate h (walk_six ((ends_exact (line_at L.coords (Look.line_at L.refs k))).1 e)) ∙ ap Against (sym q)
      halts (seven_path q h e f) = no_walk no_such h (walk_seven (ends_good (line_at L.coords (Look.line_at L.refs k)) e) f) ∙ ap Against (sym q)
      halts (seven_skipped q h e) = no_skip h e ∙ ap Against (sym q)
      halts (ten_step q w b h e) = step_ten w b h ((step_exact w.pace b (step_no (packed_at L.refs k))).1 e) ∙ ap Against (sym q)
      halts (nine_slot q w b h o f) = by_word w b h o ∙ word_nine (get_or L.stored o.tile.0 0) (slice_no (packed_at L.refs k)) _ o.handed f ∙ ap Against (sym q)
      halts (twelve q w b h o f e) =
          by_word w b h o
          ∙ word_twelve (get_or L.stored o.tile.0 0) (slice_no (packed_at L.refs k)) _ o.handed f ((piece_exact w (step_no (packed_at L.refs k)) o.z o.x o.y).1 e)
          ∙ ap Against (sym q)
