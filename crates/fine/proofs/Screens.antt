-- What a call keeps: every pixel outside its tiles, and two consecutive ranges come to the same as one. Assumes nothing.
use mathlib.Core.Path.{◌≡◌, refl, sym, ap, ◌∙◌}
use mathlib.Core.Bool.{Bool, true, false, cond}
use mathlib.Core.List.{List, [], ◌∷◌}
use Prim.Native.Nat.{ℕ, ◌-◌, ◌*◌, ◌/◌, ◌%◌, ◌<◌, ◌≤◌}
use native.Mathlib.Nat.{le_trans}
use native.Mathlib.Omega.{arith}
use lib.ListN.{length, get_or}
use lib.Ieee.{Float}
use borrow.Author.Tests.{le-leb, leb-true}
use Rattle.lists.specs.Run.{taken, Ran, done, refused, left, and_then, run_keeps}
use Rattle.lists.specs.Sums as Numbers
use Rattle.lists.specs.GridLaws.{get_d_mapi, length_mapi}
use Rattle.panel.specs.Checks.{first_no}
use Rattle.panel.proofs.CheckLaws.{all_ok, none_fails}
use Rattle.panel.specs.Answer.{Done}
use Rattle.panel.specs.Verdict.{Verdict}
use Rattle.panel.specs.Verdict.{Fine, Against}
use Rattle.screen_rows.specs.Rows.{in_tile, put_tile, packed}
use Rattle.screen_tile.specs.Tile.{colour_at, ends_at, if_fine, tile_pixels}
use Rattle.fine.specs.Fine.{fine_checks, Shown, shown, No, on_end, tile_step, tiles_of, shown_of, unless_no, fine_of}
use Rattle.fine.proofs.Ranges.{two_ranges}

-- ---- a tile
pub outside_kept : (new : ℕ → ℕ → ℕ) (w tx ty p : ℕ) (pixels : List ℕ) → p < length pixels → in_tile w tx ty p ≡ false → get_or (put_tile new w tx ty pixels) p 0 ≡ get_or pixels p 0
unfolding put_tile
outside_kept new w tx ty p pixels h e = get_d_mapi _ pixels p 0 0 h ∙ ap (λ (b : Bool). cond b (new p (get_or pixels p 0)) (get_or pixels p 0)) e

pub inside_put : (new : ℕ → ℕ → ℕ) (w tx ty p : ℕ) (pixels : List ℕ) → p < length pixels → in_tile w tx ty p ≡ true → get_or (put_tile new w tx ty pixels) p 0 ≡ new p (get_or pixels p 0)
unfolding put_tile
inside_put new w tx ty p pixels h e = get_d_mapi _ pixels p 0 0 h ∙ ap (λ (b : Bool). cond b (new p (get_or pixels p 0)) (get_or pixels p 0)) e

pub tile_length : (ws : List ℕ) (segs : List Float) (t w tx ty : ℕ) (pixels : List ℕ) → length (tile_pixels ws segs t w tx ty pixels) ≡ length pixels
unfolding tile_pixels put_tile
tile_length ws segs t w tx ty pixels = go (ends_at ws segs t)
  where
    go : (v : Verdict) → length (if_fine v (put_tile (packed (colour_at ws segs t) w) w tx ty pixels) pixels) ≡ length pixels
    go Fine = length_mapi _ pixels
    go (Against n) = refl

-- ---- a range of tiles leaves as many pixels
module _ (ws : List ℕ) (segs : List Float) (w cols : ℕ) where
  step_length : (n t : ℕ) (p q : List ℕ) → length p ≡ n → tile_step ws segs w cols t p ≡ taken q → length q ≡ n
  unfolding tile_step
  step_length n t p q h e = go (ends_at ws segs t) e
    where
      go : (v : Verdict) → on_end v t (tile_pixels ws segs t w (t % cols) (t / cols) p) ≡ taken q → length q ≡ n
      go Fine f = let g : tile_pixels ws segs t w (t % cols) (t / cols) p ≡ q = cc in ap length (sym g) ∙ tile_length ws segs t w (t % cols) (t / cols) p ∙ h
      go (Against k) f = let z : ◌≡◌ {A = ℕ} 0 1 = cc in absurd (omega arith)

  pub tiles_length : (a b : ℕ) (pixels : List ℕ) → length (left (tiles_of ws segs w cols a b pixels)) ≡ length pixels
  unfolding tiles_of
  tiles_length a b pixels = run_keeps (tile_step ws segs w cols) (λ l. length l ≡ length pixels) (λ t p q h e. step_length (length pixels) t p q h e) (Numbers.from a (b - a)) pixels refl

-- ---- two consecutive ranges
clash : (n m k : ℕ) → n ∷ m ∷ [] ≡ k ∷ [] → ◌≡◌ {A = ℕ} 0 1
clash n m k g = cc

module _ (ws : List ℕ) (segs : List Float) (w cols rows : ℕ) where
  -- a call that is done passed its checks, and refused no tile
  went : (a b : ℕ) (pixels mid : List ℕ) → fine_of ws segs w cols rows a b pixels ≡ shown Done mid
      → (first_no (fine_checks (length segs) w cols rows a b (length pixels)) ≡ Fine) × (tiles_of ws segs w cols a b pixels ≡ done mid)
  unfolding fine_of
  went a b pixels mid e = go (first_no (fine_checks (length segs) w cols rows a b (length pixels))) refl (tiles_of ws segs w cols a b pixels) refl e
    where
      go : (v : Verdict) → first_no (fine_checks (length segs) w cols rows a b (length pixels)) ≡ v → (r : Ran (List ℕ) No) → tiles_of ws segs w cols a b pixels ≡
          r → unless_no v pixels (shown_of r) ≡ shown Done mid
          → (first_no (fine_checks (length segs) w cols rows a b (length pixels)) ≡ Fine) × (tiles_of ws segs w cols a b pixels ≡ done mid)
      go Fine p (done x) q f = (p, q ∙ ap done (ap (λ (s : Shown). s.pixels) f))
      go Fine p (refused x why) q f = let z : ◌≡◌ {A = ℕ} 0 1 = clash _ _ _ (ap (λ (s : Shown). s.answer) f) in absurd (omega arith)
      go (Against n) p r q f = let z : ◌≡◌ {A = ℕ} 0 1 = clash _ _ _ (ap (λ (s : Shown). s.answer) f) in absurd (omega arith)

  -- another range of the same screen passes the checks too
  passes : (a b d c n : ℕ) → first_no (fine_checks (length segs) w cols rows a b n) ≡ Fine → d ≤ c → c ≤ cols * rows → first_no (fine_checks (length segs) w cols rows d c n) ≡ Fine
  passes a b d c n e p q =
      let ok = all_ok (fine_checks (length segs) w cols rows a b n) e in
      none_fails (fine_checks (length segs) w cols rows d c n) (ok.0, (le-leb d c p, (le-leb c (cols * rows) q, ok.1.1.1)))

  -- after a range that is done, the next range of the screen gives what the two give as one, refused or not
  pub next_range : (a b c : ℕ) (pixels mid : List ℕ) → b ≤ c → c ≤ cols * rows → fine_of ws segs w cols rows a b pixels ≡ shown Done mid
      → fine_of ws segs w cols rows b c mid ≡ fine_of ws segs w cols rows a c pixels
  unfolding fine_of
  next_range a b c pixels mid h k e =
      let g = went a b pixels mid e in
      let ok = all_ok (fine_checks (length segs) w cols rows a b (length pixels)) g.0 in
      let p : a ≤ b = leb-true a b ok.1.0 in
      let n : length mid ≡ length pixels = ap (λ (r : Ran (List ℕ) No). length (left r)) (sym g.1) ∙ tiles_length ws segs w cols a b pixels in
      let r : tiles_of ws segs w cols a c pixels ≡ tiles_of ws segs w cols b c mid = two_ranges ws segs w cols a b c pixels p h ∙ ap
      (λ (x : Ran (List ℕ) No). and_then x (tiles_of ws segs w cols b c)) g.1 in
      let u : first_no (fine_checks (length segs) w cols rows a c (length pixels)) ≡ Fine = passes a b a c (length pixels) g.0 (le_trans p h) k in
      let v : first_no (fine_checks (length segs) w cols rows b c (length mid)) ≡ Fine =
      ap (λ (m : ℕ). first_no (fine_checks (length segs) w cols rows b c m)) n ∙ passes a b b c (length pixels) g.0 h k in
      ap (λ (x : Verdict). unless_no x mid (shown_of (tiles_of ws segs w cols b c mid))) v ∙ ap shown_of (sym r) ∙ sym
      (ap (λ (x : Verdict). unless_no x pixels (shown_of (tiles_of ws segs w cols a c pixels))) u)
