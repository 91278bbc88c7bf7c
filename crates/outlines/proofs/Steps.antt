-- What the loops hand to the calls in them, and the first open line. Assumes nothing.
use mathlib.Core.Path.{◌≡◌, refl, sym, ap, ◌∙◌}
use mathlib.Core.Bool.{Bool, true, false, not, ◌&&◌}
use mathlib.Core.List.{List}
use Prim.Native.Nat.{ℕ, ◌+◌, ◌-◌, ◌*◌, ◌≤◌, ◌<◌}
use native.Mathlib.Omega.{arith}
use lib.Dec.{eqb}
use lib.ListN.{length, get_or}
use lib.Ieee.{Float}
use borrow.Author.Tests.{eqb-true, eq-eqb, not-true}
use Rattle.panel.specs.Limits.{most_lines}
use Rattle.panel.specs.Widths.{line_floats}
use Rattle.outlines.specs.Outlines.{last_of, head_of, meets, left_open, first_open}
use Rattle.outlines.specs.Call.{room_words}
use Rattle.outlines.specs.Told.{Lent, HasWords, Noted, LeastEnded, Ready}
use Rattle.outlines.proofs.Lasts.{last_most, last_seen}
use Rattle.outlines.proofs.Heads.{head_most}
use Rattle.outlines.proofs.Turns.{turn_last, turn_head}
use Rattle.outlines.proofs.Least.{clash}
use Rattle.outlines.proofs.Opens.{open_ended, open_last, shut, open_first}

module _ (nos : List ℕ) (fs : List Float) (ws₀ ws : List ℕ) (r : Ready nos fs ws₀) (e : length ws ≡ length ws₀) where
  -- a line below the number of lines is lent
  pub lent : (l : ℕ) → l < length nos → Lent fs l
  lent l h = let m : length nos * line_floats ≤ length fs = r.lines in omega arith

  pub has_words : (l : ℕ) → l < length nos → HasWords ws (get_or nos l 0)
  has_words l h = let w : HasWords ws₀ (get_or nos l 0) = r.words l h in omega arith

  -- what a turn asks for
  pub turn_asks : (i : ℕ) → Noted nos fs i ws → i < length nos
      → HasWords ws (get_or nos i 0) × (i < most_lines)
      × (0 < get_or ws (get_or nos i 0 * room_words + 1) 0
      → Lent fs (get_or ws (get_or nos i 0 * room_words + 1) 0 - 1) × Lent fs (get_or ws (get_or nos i 0 * room_words) 0)) × Lent fs i
  turn_asks i k h = (hw, omega (arith, r.few), lines, lent i h)
    where
      hw : HasWords ws (get_or nos i 0)
      hw = has_words i h

      lines : 0 < get_or ws (get_or nos i 0 * room_words + 1) 0 → Lent fs (get_or ws (get_or nos i 0 * room_words + 1) 0 - 1) × Lent fs (get_or ws (get_or nos i 0 * room_words) 0)
      lines g =
          let most : get_or ws (get_or nos i 0 * room_words + 1) 0 ≤ i = omega (arith, turn_last nos fs i ws k hw, last_most nos (get_or nos i 0) i) in
          let head = head_most nos fs (get_or ws (get_or nos i 0 * room_words + 1) 0 - 1) in
          (lent _ (omega arith), lent _ (omega (arith, turn_head nos fs i ws k hw g)))

  module _ (k : Noted nos fs (length nos) ws) (l : ℕ) (h : l < length nos) where
    abbrev at : ℕ
    at = get_or nos l 0 * room_words

    -- the path of a line has a last line, which is lent
    last_is : get_or ws (at + 1) 0 ≡ last_of nos (get_or nos l 0) (length nos)
    last_is = k.lasts (get_or nos l 0) (has_words l h)

    head_is : get_or ws at 0 ≡ head_of nos fs (last_of nos (get_or nos l 0) (length nos) - 1)
    head_is = k.heads (get_or nos l 0) (has_words l h) (omega (arith, last_seen nos (get_or nos l 0) (length nos) l h refl))

    pub ends_asks : (l < most_lines) × (get_or ws (get_or nos l 0 * room_words + 1) 0 ≡ l + 1 → Lent fs l × Lent fs (get_or ws (get_or nos l 0 * room_words) 0))
    ends_asks = (
      omega (arith, r.few),
      λ q. (
        lent l h,
        lent _ (omega (
          arith,
          head_is,
          head_most nos fs (last_of nos (get_or nos l 0) (length nos) - 1),
          last_most nos (get_or nos l 0) (length nos),
          last_seen nos (get_or nos l 0) (length nos) l h refl,
        )),
      ),
    )

    -- the test of a last line, as the code makes it
    abbrev test : Bool
    test = eqb (get_or ws (get_or nos l 0 * room_words + 1) 0) (l + 1) && not (meets fs l (get_or ws (get_or nos l 0 * room_words) 0))

    -- of the path's last line: the word is the first line of its outline
    mine : last_of nos (get_or nos l 0) (length nos) ≡ l + 1 → get_or ws at 0 ≡ head_of nos fs l
    mine q =
        let same : last_of nos (get_or nos l 0) (length nos) - 1 ≡ l = omega arith in
        head_is ∙ ap (head_of nos fs) same

    pub settle_found : (eqb (get_or ws (get_or nos l 0 * room_words + 1) 0) (l + 1) && not (meets fs l (get_or ws (get_or nos l 0 * room_words) 0))) ≡ true → left_open nos fs l ≡ true
    settle_found t = go (eqb (get_or ws (at + 1) 0) (l + 1)) refl t
      where
        go : (b : Bool) → eqb (get_or ws (at + 1) 0) (l + 1) ≡ b → (b && not (meets fs l (get_or ws at 0))) ≡ true → left_open nos fs l ≡ true
        go true q u =
            let last : last_of nos (get_or nos l 0) (length nos) ≡ l + 1 = sym last_is ∙ eqb-true (get_or ws (at + 1) 0) (l + 1) q in
            open_last nos fs l last (ap (meets fs l) (sym (mine last)) ∙ not-true (meets fs l (get_or ws at 0)) u)
        go false q u = absurd (clash u refl)

    pub settle_past : (n best : ℕ) → LeastEnded nos fs (length nos) n best → l < best
        → (eqb (get_or ws (get_or nos l 0 * room_words + 1) 0) (l + 1) && not (meets fs l (get_or ws (get_or nos l 0 * room_words) 0))) ≡ false → left_open nos fs l ≡ false
    settle_past n best w b t =
        shut nos fs l h (w.none l b)
        (λ q u. clash
        (ap (λ (m : ℕ). eqb m (l + 1) && not (meets fs l (get_or ws at 0))) last_is
        ∙ ap (λ (v : Bool). v && not (meets fs l (get_or ws at 0))) (eq-eqb (last_of nos (get_or nos l 0) (length nos)) (l + 1) q)
        ∙ ap (λ (m : ℕ). not (meets fs l m)) (mine q)
        ∙ ap not u) t)

-- the first open line is the least that another line has ended, where no last line before it stands open
pub settle_end : (nos : List ℕ) (fs : List Float) (best : ℕ) → LeastEnded nos fs (length nos) (length nos) best
    → ((l : ℕ) → l < best → left_open nos fs l ≡ false) → best ≡ first_open nos fs
settle_end nos fs best w f = open_first nos fs best w.most (λ h. open_ended nos fs best (w.ended h)) f
