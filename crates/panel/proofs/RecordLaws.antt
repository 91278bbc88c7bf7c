-- Each record as it is lent: what is written is what is read back, and the records beside it are as they were. Segments: SegmentLaws. Assumes nothing.
use mathlib.Core.Path.{◌≡◌, refl, ◌∙◌}
use mathlib.Core.Logic.{◌≢◌}
use mathlib.Core.List.{List, ◌++◌}
use Prim.Native.Nat.{ℕ, suc, ◌+◌, ◌*◌, ◌≤◌, ◌<◌, ◌^◌}
use native.Mathlib.Decide.{dec_lt}
use native.Mathlib.Nat.{add-zero}
use native.Mathlib.Omega.{arith}
use lib.ListN.{length, get_or, set, length-set}
use lib.Seq.{sets, get_or-set_same, get_or-set_other}
use lib.Ieee.{Float, nan}
use Rattle.lists.specs.Cells.{get_d_sets_in, get_d_sets_before, get_d_sets_after}
use Rattle.panel.specs.Limits.{most_steps}
use Rattle.panel.specs.Widths.{path_words, line_floats, ref_words, paint_words, place_x0, place_y0, place_x1, place_y1, place_first, place_beam, place_colour, place_rule}
use Rattle.panel.specs.Paths.{path_at, beam_at, path_record, put_path}
use Rattle.panel.specs.Lines as Lines
use Rattle.panel.specs.Refs.{line_at, packed_at, packed, step_no, slice_no, put_ref}
use Rattle.panel.specs.Paints.{paint_at, paint_record, put_paint}
use Rattle.panel.specs.Slots.{not32, slot_of}
use Rattle.panel.specs.declared.kinds.Path.{Path}
use Rattle.panel.specs.declared.lines.LineEnds.{LineEnds}
use Rattle.panel.specs.declared.paints.Paint.{Paint}
use Rattle.panel.proofs.LimitLaws.{step_back, slice_back}

-- ---- paths

-- word after word
pub path_stores : (ws : List ℕ) (k : ℕ) (p : Path) (beam : ℕ)
    → set
    (set (set (set (set (set ws (k + place_x0) p.x0) (k + place_y0) p.y0) (k + place_x1) p.x1) (k + place_y1) p.y1) (k + place_first) p.first)
    (k + place_beam) beam
    ≡ sets ws k (path_record p beam)
path_stores ws k p beam =
    let none : k + 0 ≡ k = omega arith in
    let one : k + 1 ≡ suc k = omega arith in
    let two : k + 2 ≡ suc (suc k) = omega arith in
    let three : k + 3 ≡ suc (suc (suc k)) = omega arith in
    let four : k + 4 ≡ suc (suc (suc (suc k))) = omega arith in
    let five : k + 5 ≡ suc (suc (suc (suc (suc k)))) = omega arith in
    rw (none, one, two, three, four, five)

module _ (k : ℕ) (p : Path) (beam : ℕ) (ws : List ℕ) where
  -- a word of the record, and one of another
  word_in : k * path_words + path_words ≤ length ws → (j : ℕ) → j < path_words → get_or (put_path k p beam ws) (k * path_words + j) 0 ≡ get_or (path_record p beam) j 0
  word_in h j q = get_d_sets_in (path_record p beam) ws (k * path_words) j 0 (omega arith) (omega arith)

  word_other : (j : ℕ) → j ≢ k → (c : ℕ) → c < path_words → get_or (put_path k p beam ws) (j * path_words + c) 0 ≡ get_or ws (j * path_words + c) 0
  word_other j n c q = go (dec_lt j k)
    where
      go : Dec (j < k) → get_or (put_path k p beam ws) (j * path_words + c) 0 ≡ get_or ws (j * path_words + c) 0
      go (yes l) = get_d_sets_before (path_record p beam) ws (k * path_words) (j * path_words + c) 0 (omega arith)
      go (no l) = get_d_sets_after (path_record p beam) ws (k * path_words) (j * path_words + c) 0 (omega arith)

  pub path_back : k * path_words + path_words ≤ length ws → path_at (put_path k p beam ws) k ≡ p
  unfolding path_at
  path_back h =
      let a : (j : ℕ) → j < path_words → get_or (put_path k p beam ws) (k * path_words + j) 0 ≡ get_or (path_record p beam) j 0 = word_in h in
      rw (a place_x0 (omega arith), a place_y0 (omega arith), a place_x1 (omega arith), a place_y1 (omega arith), a place_first (omega arith))

  pub beam_back : k * path_words + path_words ≤ length ws → beam_at (put_path k p beam ws) k ≡ beam
  beam_back h = word_in h place_beam (omega arith)

  pub path_other : (j : ℕ) → j ≢ k → path_at (put_path k p beam ws) j ≡ path_at ws j
  unfolding path_at
  path_other j n =
      let a : (c : ℕ) → c < path_words → get_or (put_path k p beam ws) (j * path_words + c) 0 ≡ get_or ws (j * path_words + c) 0 = word_other j n in
      rw (a place_x0 (omega arith), a place_y0 (omega arith), a place_x1 (omega arith), a place_y1 (omega arith), a place_first (omega arith))

  pub beam_other : (j : ℕ) → j ≢ k → beam_at (put_path k p beam ws) j ≡ beam_at ws j
  beam_other j n = word_other j n place_beam (omega arith)

-- records one after another: the first, those after it, and how many words they are
pub path_first : (p : Path) (beam : ℕ) (ws : List ℕ) → path_at (path_record p beam ++ ws) 0 ≡ p
unfolding path_at
path_first p beam ws = refl

pub beam_first : (p : Path) (beam : ℕ) (ws : List ℕ) → beam_at (path_record p beam ++ ws) 0 ≡ beam
beam_first p beam ws = refl

module _ (p : Path) (beam : ℕ) (ws : List ℕ) (k : ℕ) where
  further : (c : ℕ) → get_or (path_record p beam ++ ws) (suc k * path_words + c) 0 ≡ get_or ws (k * path_words + c) 0
  further c = let e : suc k * path_words + c ≡ suc (suc (suc (suc (suc (suc (k * path_words + c)))))) = omega arith in rw e

  pub path_next : path_at (path_record p beam ++ ws) (suc k) ≡ path_at ws k
  unfolding path_at
  path_next = rw (further place_x0, further place_y0, further place_x1, further place_y1, further place_first)

  pub beam_next : beam_at (path_record p beam ++ ws) (suc k) ≡ beam_at ws k
  beam_next = further place_beam

pub path_more : (p : Path) (beam : ℕ) (ws : List ℕ) → length (path_record p beam ++ ws) ≡ length ws + path_words
path_more p beam ws = omega arith

-- ---- lines

module _ (l : ℕ) (e : LineEnds) (fs : List Float) where
  pub line_back : l * line_floats + line_floats ≤ length fs → Lines.line_at (sets fs (l * line_floats) (Lines.line_record_of e)) l ≡ e
  unfolding Lines.line_at
  line_back h =
      let a : (j : ℕ) → j < line_floats → get_or (sets fs (l * line_floats) (Lines.line_record_of e)) (l * line_floats + j) nan ≡ get_or (Lines.line_record_of e) j nan =
      λ j q. get_d_sets_in (Lines.line_record_of e) fs (l * line_floats) j nan (omega arith) (omega arith) in
      let first : get_or (sets fs (l * line_floats) (Lines.line_record_of e)) (l * line_floats) nan ≡ e.p0.x = rw add-zero at (a 0 (omega arith)) in
      rw (first, a 1 (omega arith), a 2 (omega arith), a 3 (omega arith))

-- ---- references

module _ (k line word : ℕ) (refs : List ℕ) where
  pub named_back : ref_words * k + ref_words ≤ length refs → line_at (put_ref k line word refs) k ≡ line
  named_back h =
      let e : k * ref_words ≡ ref_words * k = omega arith in
      rw e (get_or-set_other (set refs (ref_words * k) line) (ref_words * k + 1) (ref_words * k) word 0 (omega arith) ∙ get_or-set_same refs (ref_words * k) line 0 (omega arith))

  pub packed_back : ref_words * k + ref_words ≤ length refs → packed_at (put_ref k line word refs) k ≡ word
  packed_back h =
      let e : k * ref_words ≡ ref_words * k = omega arith in
      rw e (get_or-set_same (set refs (ref_words * k) line) (ref_words * k + 1) word 0 (rw length-set (omega arith)))

pub step_unpacked : (slice i : ℕ) → i < most_steps → step_no (packed slice i) ≡ i
step_unpacked = step_back

pub slice_unpacked : (slice i : ℕ) → i < most_steps → slice_no (packed slice i) ≡ slice
slice_unpacked = slice_back

-- ---- paints

module _ (p : ℕ) (q : Paint) (paints : List ℕ) where
  pub paint_back : p * paint_words + paint_words ≤ length paints → paint_at (put_paint p q paints) p ≡ q
  paint_back h =
      let a : (j : ℕ) → j < paint_words → get_or (put_paint p q paints) (p * paint_words + j) 0 ≡ get_or (paint_record q) j 0 =
      λ j k. get_d_sets_in (paint_record q) paints (p * paint_words) j 0 (omega arith) (omega arith) in
      rw (a place_colour (omega arith), a place_rule (omega arith))

-- ---- a tile's word

-- a first slot, written and read back; and so the slots of the tile's slices
pub word_back : (f : ℕ) → f < 2 ^ 32 → not32 (not32 f) ≡ f
word_back f h = omega arith

pub slot_back : (f slice : ℕ) → f < 2 ^ 32 → slot_of (not32 f) slice ≡ f + slice
slot_back f slice h = omega arith
