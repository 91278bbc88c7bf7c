-- How a tile's commands run, by what stands at a place, and what one of them does to all pixels. Assumes nothing.
use mathlib.Core.Path.{◌≡◌, refl, sym, ap, ◌∙◌}
use mathlib.Core.Bool.{Bool, true, false, cond}
use mathlib.Core.List.{List, []}
use Prim.Native.Nat.{ℕ, zero, suc, ◌+◌, ◌-◌, ◌<◌, ◌≤◌}
use native.Mathlib.Omega.{arith}
use lib.Dec.{ltb}
use lib.ListN.{length, get_or, get_or-replicate}
use lib.Ieee.{Float, nan}
use borrow.Author.Tests.{eq-eqb, ne_eqb, ltb-true}
use Rattle.lists.specs.Grid.{mapi}
use Rattle.lists.specs.GridLaws.{mapi_mapi, get_d_mapi}
use Rattle.panel.specs.Refusals.{past_end, too_long_word}
use Rattle.panel.specs.Limits.{most_commands}
use Rattle.panel.specs.Verdict.{Verdict}
use Rattle.panel.specs.Verdict.{Fine, Against}
use Rattle.sides.specs.Tile.{tile_size}
use Rattle.reader.specs.Look.{look_at}
use Rattle.reader.specs.Looked.{Look}
use Rattle.reader.specs.Looked.{Word, Past}
use Rattle.commands.specs.Numbers.{end_no}
use Rattle.commands.specs.Moves.{op_of, move_of, Trace, ends, does, on_look, on_move, trace_of, end_of}
use Rattle.commands.specs.Pixel.{cover, paint, point, point_of, cover_all, paint_all, ran}
use Rattle.commands.specs.Alike.{same_area, run_from, left}
use Rattle.commands.specs.declared.steps.Op.{Op}
use Rattle.commands.specs.declared.steps.Act.{Act}
use Rattle.commands.specs.Move.{Move}
use Rattle.commands.specs.Move.{Refused, Goes}
use Rattle.commands.proofs.Acts.{unchanged, mapi_cong}

-- ---- the run

-- where a word was found, the place is among the words
pub found : (ws : List ℕ) (at w : ℕ) → look_at ws at ≡ Word w → at < length ws
found ws at w e = ltb-true at (length ws) (go (ltb at (length ws)) e)
  where
    go : (b : Bool) → cond b (Word (get_or ws at 0)) Past ≡ Word w → b ≡ true
    go true f = refl
    go false f = let z : ◌≡◌ {A = ℕ} 0 1 = cc in absurd (omega arith)

-- a command fewer is left
pub more : (n : ℕ) → n ≤ most_commands → (n ≡ most_commands → ⊥) → most_commands - n ≡ suc (most_commands - (n + 1))
more n h e = omega arith

module _ (ws : List ℕ) (segs : List Float) (at : ℕ) where
  pub trace_past : (n : ℕ) → look_at ws at ≡ Past → trace_of n ws segs at ≡ ends (Against past_end)
  unfolding trace_of
  trace_past zero e = ap (λ (l : Look). on_look l (λ w. ends (Against too_long_word))) e
  trace_past (suc n) e = ap (λ (l : Look). on_look l (λ w. on_move (move_of (op_of w) ws segs at) (λ a next. does a (trace_of n ws segs next)))) e

  module _ (w : ℕ) (e : look_at ws at ≡ Word w) where
    pub trace_end : (n : ℕ) → w ≡ end_no → trace_of n ws segs at ≡ ends Fine
    unfolding trace_of
    trace_end zero z = ap (λ (l : Look). on_look l (λ w. ends (Against too_long_word))) e ∙ rw (eq-eqb w end_no z)
    trace_end (suc n) z = ap (λ (l : Look). on_look l (λ w. on_move (move_of (op_of w) ws segs at) (λ a next. does a (trace_of n ws segs next)))) e ∙ rw (eq-eqb w end_no z)

    pub trace_full : (w ≡ end_no → ⊥) → trace_of 0 ws segs at ≡ ends (Against too_long_word)
    unfolding trace_of
    trace_full z = ap (λ (l : Look). on_look l (λ w. ends (Against too_long_word))) e ∙ rw (ne_eqb w end_no z)

    module _ (z : w ≡ end_no → ⊥) (o : Op) (p : o ≡ op_of w) (m : Move) (q : m ≡ move_of o ws segs at) (n : ℕ) where
      moved : trace_of (suc n) ws segs at ≡ on_move m (λ a next. does a (trace_of n ws segs next))
      unfolding trace_of
      moved =
          ap (λ (l : Look). on_look l (λ w. on_move (move_of (op_of w) ws segs at) (λ a next. does a (trace_of n ws segs next)))) e
          ∙ rw (ne_eqb w end_no z) (ap (λ (x : Move). on_move x (λ a next. does a (trace_of n ws segs next))) (ap (λ (x : Op). move_of x ws segs at) (sym p) ∙ sym q))

      pub trace_stop : (k : ℕ) → m ≡ Refused k → trace_of (suc n) ws segs at ≡ ends (Against k)
      trace_stop k f = moved ∙ ap (λ (x : Move). on_move x (λ a next. does a (trace_of n ws segs next))) f

      pub trace_goes : (a : Act) (next : ℕ) → m ≡ Goes a next → trace_of (suc n) ws segs at ≡ does a (trace_of n ws segs next)
      trace_goes a next f = moved ∙ ap (λ (x : Move). on_move x (λ a next. does a (trace_of n ws segs next))) f

-- ---- the pixels
module _ (segs : List Float) where
  pub left_ends : (v : Verdict) (area : List Float) (rgba : List (List Float)) → left segs (ends v) area rgba ≡ ran v rgba
  unfolding point_of
  left_ends v area rgba = ap (ran v) (sym (unchanged [] rgba))

  pub left_does : (a : Act) (t : Trace) (area : List Float) (rgba : List (List Float)) → length area ≡ length rgba
      → left segs (does a t) area rgba ≡ left segs t (cover_all a segs area) (paint_all a area rgba)
  unfolding point_of cover_all paint_all
  left_does a t area rgba h =
      ap (ran (end_of t))
      (mapi_cong [] []
      (λ k c. (point_of segs k t (point (cover a segs k (get_or area k nan)) (paint a (get_or area k nan) c))).colour)
      (λ k c. (point_of segs k t (point (get_or (mapi (cover a segs) area) k nan) (paint a (get_or area k nan) c))).colour)
      rgba
      (λ k c lt. ap (λ (x : Float). (point_of segs k t (point x (paint a (get_or area k nan) c))).colour) (sym (get_d_mapi (cover a segs) area k nan nan (rw h lt))))
      ∙ sym (mapi_mapi (λ k c. (point_of segs k t (point (get_or (mapi (cover a segs) area) k nan) c)).colour) (λ k c. paint a (get_or area k nan) c) rgba))

  pub left_starts : (t : Trace) (a : Float) (rgba : List (List Float)) → length rgba ≡ tile_size → left segs t (same_area a) rgba ≡ run_from segs t a rgba
  unfolding run_from same_area
  left_starts t a rgba h =
      ap (ran (end_of t))
      (mapi_cong [] [] (λ k c. (point_of segs k t (point (get_or (same_area a) k nan) c)).colour) (λ k c. (point_of segs k t (point a c)).colour) rgba
      (λ k c lt. ap (λ (x : Float). (point_of segs k t (point x c)).colour) (get_or-replicate tile_size k a nan (rw h at lt))))
