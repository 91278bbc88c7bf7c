-- A screen cut into bands: wherever its rows are cut, fine over the whole screen answers and leaves what the bands do, one below the other, each drawn by
-- itself on its own pixels. Assumes nothing.
use mathlib.Core.Path.{◌≡◌, refl, sym, ap, ◌∙◌}
use mathlib.Core.List.{List, [], ◌∷◌, ◌++◌, append_assoc, append-nil}
use Prim.Native.Nat.{ℕ, ◌+◌, ◌-◌, ◌*◌, ◌%◌, ◌≤◌}
use native.Mathlib.Nat.{le_refl, le_trans, le_of_eq, mul-add, mul-zero, mul-le-mul_left}
use native.Mathlib.Omega.{arith}
use lib.Dec.{eqb, leb}
use lib.ListN.{length, length-append}
use lib.Ieee.{Float}
use borrow.Author.Tests.{le-leb, leb-true}
use Rattle.lists.specs.Run.{Ran, done, refused, left, and_then}
use Rattle.panel.specs.Checks.{Check, check, first_no}
use Rattle.panel.specs.Limits.{most_tiles}
use Rattle.panel.specs.Refusals.{not_whole, too_many, bad_screen}
use Rattle.panel.specs.Widths.{segment_floats}
use Rattle.panel.proofs.CheckLaws.{all_ok}
use Rattle.panel.specs.Answer.{Done, Refused}
use Rattle.panel.specs.Verdict.{Verdict}
use Rattle.panel.specs.Verdict.{Fine, Against}
use Rattle.sides.specs.Tile.{tile_width, tile_height}
use Rattle.fine.specs.Fine.{fine_checks, Shown, shown, No, tiles_of, shown_of, unless_no, fine_of}
use Rattle.fine.proofs.Ranges.{two_ranges}
use Rattle.bands.specs.Bands.{band_checks, band_tiles, band_of}
use Rattle.bands.specs.Cuts.{Band, Stacked, joined, followed, above, stack_of, AllDone, pasted}
use Rattle.bands.proofs.BandLaws.{band_length}
use Rattle.bands.proofs.Windows.{map_ran, among}

-- ---- what is checked of a screen, whatever its bands
abbrev screen_checks : ℕ → ℕ → ℕ → ℕ → List Check
screen_checks segments width cols rows =
    check (eqb (segments % segment_floats) 0) not_whole ∷ check (leb (cols * rows) most_tiles) too_many ∷ check (leb (tile_width * cols) width) bad_screen ∷ []

band_checks_lem : (s w cols rows first end n : ℕ) → first ≤ end → end ≤ rows → w * (tile_height * (end - first)) ≤ n
    → first_no (band_checks s w cols rows first end n) ≡ first_no (screen_checks s w cols rows)
band_checks_lem s w cols rows first end n p q r = rw (le-leb first end p, le-leb end rows q, le-leb (w * (tile_height * (end - first))) n r)

whole_checks : (s w cols rows n : ℕ) → w * (tile_height * rows) ≤ n → first_no (fine_checks s w cols rows 0 (cols * rows) n) ≡ first_no (screen_checks s w cols rows)
whole_checks s w cols rows n r = rw (le-leb 0 (cols * rows) (omega arith), le-leb (cols * rows) (cols * rows) (le_refl (cols * rows)), le-leb (w * (tile_height * rows)) n r)

-- ---- rows and pixels of a stack
sum : (a b : ℕ) → a ≤ b → tile_height * a + tile_height * (b - a) ≡ tile_height * b
sum a b h = omega arith

stack_ends : (w first last : ℕ) (bs : List Band) → Stacked w first bs last → first ≤ last
stack_ends w first last [] h = le_of_eq h
stack_ends w first last (b ∷ more) h = le_trans h.0 (stack_ends w b.end last more h.2)

rows_add : (w a b c : ℕ) → a ≤ b → b ≤ c → w * (tile_height * (b - a)) + w * (tile_height * (c - b)) ≡ w * (tile_height * (c - a))
rows_add w a b c p q =
    let e : tile_height * (b - a) + tile_height * (c - b) ≡ tile_height * (c - a) = omega arith in
    sym (mul-add w (tile_height * (b - a)) (tile_height * (c - b))) ∙ ap (λ (n : ℕ). w * n) e

joined_length : (w first last : ℕ) (bs : List Band) → Stacked w first bs last → length (joined bs) ≡ w * (tile_height * (last - first))
joined_length w first last [] h =
    let e : tile_height * (last - first) ≡ 0 = omega (arith, h) in
    sym (ap (λ (n : ℕ). w * n) e ∙ mul-zero w)
joined_length w first last (b ∷ more) h =
    length-append b.pixels (joined more) ∙ ap (λ (n : ℕ). n + length (joined more)) h.1
    ∙ ap (λ (n : ℕ). w * (tile_height * (b.end - first)) + n) (joined_length w b.end last more h.2)
    ∙ rows_add w first b.end last h.0 (stack_ends w b.end last more h.2)

-- ---- a screen that is checked: what stands among other pixels
abbrev among_others : List ℕ → List ℕ → Shown → Shown
among_others up down s = record { answer = s.answer; pixels = up ++ (s.pixels ++ down) }

module _ (ws : List ℕ) (segs : List Float) (w cols rows : ℕ) (ok : first_no (screen_checks (length segs) w cols rows) ≡ Fine) where
  wide : tile_width * cols ≤ w
  wide = leb-true (tile_width * cols) w (all_ok (screen_checks (length segs) w cols rows) ok).1.1.0

  band_is : (first : ℕ) (b : Band) → first ≤ b.end → b.end ≤ rows → length b.pixels ≡ w * (tile_height * (b.end - first))
      → band_of ws segs w cols rows first b.end b.pixels ≡ shown_of (band_tiles ws segs w cols (cols * first) 0 (cols * (b.end - first)) b.pixels)
  unfolding band_of
  band_is first b p q r =
      ap (λ (v : Verdict). unless_no v b.pixels (shown_of (band_tiles ws segs w cols (cols * first) 0 (cols * (b.end - first)) b.pixels)))
      (band_checks_lem (length segs) w cols rows first b.end (length b.pixels) p q (le_of_eq (sym r)) ∙ ok)

  -- one band among the others' pixels
  one : (first : ℕ) (b : Band) (up down : List ℕ) → length up ≡ w * (tile_height * first) → first ≤ b.end → length b.pixels ≡ w * (tile_height * (b.end - first))
      → tiles_of ws segs w cols (cols * first) (cols * b.end) (up ++ (b.pixels ++ down))
      ≡ map_ran (λ (m : List ℕ). up ++ (m ++ down)) (band_tiles ws segs w cols (cols * first) 0 (cols * (b.end - first)) b.pixels)
  one first b up down high p r =
      let e : first + (b.end - first) ≡ b.end = omega arith in
      ap (λ (n : ℕ). tiles_of ws segs w cols (cols * first) n (up ++ (b.pixels ++ down)))
      (ap (λ (n : ℕ). cols * n) (sym e) ∙ mul-add cols first (b.end - first))
      ∙ among ws segs w cols first (b.end - first) up down high wide b.pixels (le_of_eq (sym r))

  -- the whole stack among others' pixels, from the band on
  stack : (first : ℕ) (b : Band) (more : List Band) (up down : List ℕ) → length up ≡ w * (tile_height * first) → Stacked w first (b ∷ more) rows
      → shown_of (tiles_of ws segs w cols (cols * first) (cols * rows) (up ++ (joined (b ∷ more) ++ down)))
      ≡ among_others up down (stack_of ws segs w cols rows first b more)
  stack first b [] up down high h =
      ap (λ (l : List ℕ). shown_of (tiles_of ws segs w cols (cols * first) (cols * rows) (up ++ (l ++ down)))) (append-nil b.pixels)
      ∙ ap (λ (n : ℕ). shown_of (tiles_of ws segs w cols (cols * first) (cols * n) (up ++ (b.pixels ++ down)))) (sym h.2)
      ∙ ap shown_of (one first b up down high h.0 h.1)
      ∙ go (band_tiles ws segs w cols (cols * first) 0 (cols * (b.end - first)) b.pixels)
      ∙ ap (among_others up down) (sym (band_is first b h.0 (le_of_eq h.2) h.1))
    where
      go : (r : Ran (List ℕ) No) → shown_of (map_ran (λ (m : List ℕ). up ++ (m ++ down)) r) ≡ among_others up down (shown_of r)
      go (done p) = refl
      go (refused p why) = refl
  stack first b (next ∷ more) up down high h =
      let lent = joined (next ∷ more) in
      let ends : b.end ≤ rows = stack_ends w b.end rows (next ∷ more) h.2 in
      ap (λ (l : List ℕ). shown_of (tiles_of ws segs w cols (cols * first) (cols * rows) (up ++ l))) (append_assoc b.pixels lent down)
      ∙ ap shown_of
      (two_ranges ws segs w cols (cols * first) (cols * b.end) (cols * rows) (up ++ (b.pixels ++ (lent ++ down))) (mul-le-mul_left cols h.0) (mul-le-mul_left cols ends)
      ∙ ap (λ (r : Ran (List ℕ) No). and_then r (tiles_of ws segs w cols (cols * b.end) (cols * rows))) (one first b up (lent ++ down) high h.0 h.1))
      ∙ go (band_tiles ws segs w cols (cols * first) 0 (cols * (b.end - first)) b.pixels) refl
      (λ p e. stack b.end next more (up ++ p) down e h.2)
      ∙ ap (λ (s : Shown). among_others up down (above s.answer s.pixels lent (stack_of ws segs w cols rows b.end next more))) (sym (band_is first b h.0 ends h.1))
    where
      low : (p : List ℕ) → length p ≡ w * (tile_height * (b.end - first)) → length (up ++ p) ≡ w * (tile_height * b.end)
      low p e =
          let t : tile_height * first + tile_height * (b.end - first) ≡ tile_height * b.end = sum first b.end h.0 in
          length-append up p ∙ ap (λ (n : ℕ). n + length p) high ∙ ap (λ (n : ℕ). w * (tile_height * first) + n) e
          ∙ sym (mul-add w (tile_height * first) (tile_height * (b.end - first))) ∙ ap (λ (n : ℕ). w * n) t

      go : (r : Ran (List ℕ) No) → band_tiles ws segs w cols (cols * first) 0 (cols * (b.end - first)) b.pixels ≡ r
          → ((p : List ℕ) → length (up ++ p) ≡ w * (tile_height * b.end)
          → shown_of (tiles_of ws segs w cols (cols * b.end) (cols * rows) ((up ++ p) ++ (joined (next ∷ more) ++ down)))
          ≡ among_others (up ++ p) down (stack_of ws segs w cols rows b.end next more))
          → shown_of (and_then (map_ran (λ (m : List ℕ). up ++ (m ++ (joined (next ∷ more) ++ down))) r) (tiles_of ws segs w cols (cols * b.end) (cols * rows)))
          ≡ among_others up down (above (shown_of r).answer (shown_of r).pixels (joined (next ∷ more)) (stack_of ws segs w cols rows b.end next more))
      go (done p) e ih =
          let s = stack_of ws segs w cols rows b.end next more in
          let n : length p ≡ w * (tile_height * (b.end - first)) = ap (λ (r : Ran (List ℕ) No). length (left r)) (sym e)
          ∙ band_length ws segs w cols (cols * first) 0 (cols * (b.end - first)) b.pixels ∙ h.1 in
          ap (λ (l : List ℕ). shown_of (tiles_of ws segs w cols (cols * b.end) (cols * rows) l)) (sym (append_assoc up p (joined (next ∷ more) ++ down)))
          ∙ ih p (low p n)
          ∙ ap (λ (l : List ℕ). record { answer = s.answer; pixels = l }) (append_assoc up p (s.pixels ++ down) ∙ ap (λ (l : List ℕ). up ++ l) (sym (append_assoc p s.pixels down)))
      go (refused p why) e ih = ap (λ (l : List ℕ). record { answer = why.number ∷ why.tile ∷ []; pixels = up ++ l }) (sym (append_assoc p (joined (next ∷ more)) down))

-- ---- the theorem: fine over the whole screen, and the bands
module _ (ws : List ℕ) (segs : List Float) (w cols rows : ℕ) where
  refused_alike : (k : ℕ) (b : Band) (more : List Band) (rest : List ℕ) → first_no (screen_checks (length segs) w cols rows) ≡ Against k → Stacked w 0 (b ∷ more) rows
      → shown (Refused k 0) (joined (b ∷ more) ++ rest) ≡ followed (stack_of ws segs w cols rows 0 b more) rest
  unfolding band_of
  refused_alike k b more rest why h = go more h
    where
      this : (bs : List Band) → Stacked w 0 (b ∷ bs) rows → band_of ws segs w cols rows 0 b.end b.pixels ≡ shown (Refused k 0) b.pixels
      this bs h =
          ap (λ (v : Verdict). unless_no v b.pixels (shown_of (band_tiles ws segs w cols (cols * 0) 0 (cols * (b.end - 0)) b.pixels)))
          (band_checks_lem (length segs) w cols rows 0 b.end (length b.pixels) h.0 (stack_ends w b.end rows bs h.2) (le_of_eq (sym h.1)) ∙ why)

      go : (bs : List Band) → Stacked w 0 (b ∷ bs) rows → shown (Refused k 0) (joined (b ∷ bs) ++ rest) ≡ followed (stack_of ws segs w cols rows 0 b bs) rest
      go [] h = ap (λ (l : List ℕ). shown (Refused k 0) (l ++ rest)) (append-nil b.pixels) ∙ ap (λ (s : Shown). followed s rest) (sym (this [] h))
      go (next ∷ more) h =
          ap (λ (s : Shown). followed (above s.answer s.pixels (joined (next ∷ more)) (stack_of ws segs w cols rows b.end next more)) rest) (sym (this (next ∷ more) h))

  room : (a b n : ℕ) → a ≡ w * (tile_height * (rows - 0)) → n ≡ a + b → w * (tile_height * rows) ≤ n
  room a b n p q =
      let e : rows - 0 ≡ rows = omega arith in
      let f : a ≡ w * (tile_height * rows) = p ∙ ap (λ (m : ℕ). w * (tile_height * m)) e in
      omega arith

  pub bands_are_screen : (b : Band) (more : List Band) (rest : List ℕ) → Stacked w 0 (b ∷ more) rows
      → fine_of ws segs w cols rows 0 (cols * rows) (joined (b ∷ more) ++ rest) ≡ followed (stack_of ws segs w cols rows 0 b more) rest
  unfolding fine_of
  bands_are_screen b more rest h =
      let X = joined (b ∷ more) ++ rest in
      let n : w * (tile_height * rows) ≤ length X = room (length (joined (b ∷ more))) (length rest) (length X) (joined_length w 0 rows (b ∷ more) h) (length-append (joined (b ∷ more)) rest) in
      ap (λ (v : Verdict). unless_no v X (shown_of (tiles_of ws segs w cols 0 (cols * rows) X))) (whole_checks (length segs) w cols rows (length X) n)
      ∙ go (first_no (screen_checks (length segs) w cols rows)) refl
    where
      go : (v : Verdict) → first_no (screen_checks (length segs) w cols rows) ≡ v
          → unless_no v (joined (b ∷ more) ++ rest) (shown_of (tiles_of ws segs w cols 0 (cols * rows) (joined (b ∷ more) ++ rest)))
          ≡ followed (stack_of ws segs w cols rows 0 b more) rest
      go Fine e =
          ap (λ (n : ℕ). shown_of (tiles_of ws segs w cols n (cols * rows) (joined (b ∷ more) ++ rest))) (sym (mul-zero cols))
          ∙ stack ws segs w cols rows e 0 b more [] rest (sym (mul-zero w)) h
      go (Against k) e = refused_alike k b more rest e h

  -- where every band is done, fine is, and its pixels are the bands', one after another
  all_done : (first : ℕ) (b : Band) (more : List Band) (after : List ℕ) (afters : List (List ℕ)) → AllDone ws segs w cols rows first (b ∷ more) (after ∷ afters)
      → stack_of ws segs w cols rows first b more ≡ shown Done (pasted (after ∷ afters))
  all_done first b [] after [] d = d.0 ∙ ap (shown Done) (sym (append-nil after))
  all_done first b [] after (a ∷ rest) d = absurd d.1
  all_done first b (next ∷ more) after [] d = absurd d.1
  all_done first b (next ∷ more) after (a ∷ rest) d =
      ap (λ (s : Shown). above s.answer s.pixels (joined (next ∷ more)) (stack_of ws segs w cols rows b.end next more)) d.0
      ∙ ap (λ (s : Shown). record { answer = s.answer; pixels = after ++ s.pixels }) (all_done b.end next more a rest d.1)

  pub bands_done : (b : Band) (more : List Band) (rest after : List ℕ) (afters : List (List ℕ)) → Stacked w 0 (b ∷ more) rows
      → AllDone ws segs w cols rows 0 (b ∷ more) (after ∷ afters)
      → fine_of ws segs w cols rows 0 (cols * rows) (joined (b ∷ more) ++ rest) ≡ shown Done (pasted (after ∷ afters) ++ rest)
  bands_done b more rest after afters h d = bands_are_screen b more rest h ∙ ap (λ (s : Shown). followed s rest) (all_done 0 b more after afters d)
