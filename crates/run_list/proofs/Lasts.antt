-- The last COLOR, which END follows: one painting, and then no more. Assumes nothing.
use mathlib.Core.Path.{◌≡◌, refl, sym, ap, ◌∙◌}
use mathlib.Core.Bool.{Bool, true, ◌&&◌}
use mathlib.Core.List.{List}
use Prim.Native.Nat.{ℕ, suc, ◌+◌, ◌-◌, ◌<◌, ◌≤◌}
use native.Mathlib.Omega.{arith}
use lib.Dec.{eqb}
use lib.ListN.{length, get_or}
use lib.Ieee.{Float}
use borrow.Author.Tests.{le-leb, eqb-true}
use Rattle.float32.proofs.Tests.{first, second}
use Rattle.std.specs.Prelude.{Result, Ok, Err, IsErrAnd, Option}
use Rattle.panel.specs.Limits.{most_commands}
use Rattle.panel.specs.Refusals.{no_of}
use Rattle.panel.specs.declared.refusals.Refusal.{Refusal}
use Rattle.panel.specs.Verdict.{Fine}
use Rattle.reader.specs.Look.{look_at}
use Rattle.reader.specs.Looked.{Look}
use Rattle.reader.specs.Looked.{Word, Past}
use Rattle.colours.specs.Colour.{colour_of, composite_of}
use Rattle.commands.specs.Numbers.{color_no, color_words}
use Rattle.commands.specs.Moves.{op_of, whole_move, move_of, Trace, ends, does, trace_of}
use Rattle.commands.specs.Pixel.{paint, paint_all, cover_all, Ran, ran}
use Rattle.commands.specs.Alike.{is_end, ends_here, left}
use Rattle.commands.specs.declared.steps.Act.TheVariants.{Color}
use Rattle.commands.specs.Move.{Goes}
use Rattle.run_list.specs.Stop.{stop_told, Against}
use Rattle.commands.proofs.Traced.{found, more, trace_goes, left_ends, left_does}
use Rattle.commands.proofs.AlikeLaws.{end_here}

-- a refusal that `?` hands on
pub handed_on : (r : Result (Option ℕ) Refusal) (why : Refusal) → IsErrAnd r (λ e. e ≡ why) → stop_told r ≡ Against (no_of why)
handed_on (Ok x) why h = absurd h
handed_on (Err e) why h = ap (λ (e : Refusal). Against (no_of e)) h

-- where END stands, the place is among the words
end_room : (ws : List ℕ) (at : ℕ) → ends_here ws at ≡ true → at < length ws
end_room ws at h = go (look_at ws at) refl h
  where
    go : (l : Look) → look_at ws at ≡ l → is_end l ≡ true → at < length ws
    go (Word w) e f = found ws at w e
    go Past e f = let z : ◌≡◌ {A = ℕ} 0 1 = cc in absurd (omega arith)

-- what the test says: a COLOR, and END after its words
pub is_last : (ws : List ℕ) (at w : ℕ) (b : Bool) → b ≡ ends_here ws (at + color_words) → (eqb w color_no && b) ≡ true → (w ≡ color_no) × (ends_here ws (at + color_words) ≡ true)
is_last ws at w b e h = (eqb-true w color_no (first (eqb w color_no) b h), sym e ∙ second (eqb w color_no) b h)

-- so its word is among the words
pub word_room : (ws : List ℕ) (at w : ℕ) (b : Bool) → look_at ws at ≡ Word w → b ≡ ends_here ws (at + color_words) → (eqb w color_no && b) ≡ true → at + 1 < length ws
word_room ws at w b l e h = let r = end_room ws (at + color_words) (is_last ws at w b e h).1 in omega (arith, r)

module _ (ws : List ℕ) (segs : List Float) (at : ℕ) where
  color_moves : at + color_words < length ws → move_of (op_of color_no) ws segs at ≡ Goes (Color (get_or ws (at + 1) 0)) (at + color_words)
  unfolding op_of move_of whole_move
  color_moves r = rw (le-leb color_words (length ws - at) (omega (arith, r)))

  pub last_goes : (w n : ℕ) → look_at ws at ≡ Word w → w ≡ color_no → ends_here ws (at + color_words) ≡ true
      → trace_of (suc n) ws segs at ≡ does (Color (get_or ws (at + 1) 0)) (ends Fine)
  last_goes w n e c h =
      let m = ap (λ (x : ℕ). move_of (op_of x) ws segs at) c ∙ color_moves (end_room ws (at + color_words) h) in
      trace_goes ws segs at w e (λ z. omega (arith, c, z)) (op_of w) refl (move_of (op_of w) ws segs at) refl n _ _ m
      ∙ ap (does (Color (get_or ws (at + 1) 0))) (end_here ws segs (at + color_words) n h)

color_paints : (word : ℕ) (area : List Float) (rgba : List (List Float)) → paint_all (Color word) area rgba ≡ composite_of area (colour_of word) rgba
unfolding paint_all paint composite_of
color_paints word area rgba = refl

-- what is left to do there
pub last_left : (ws : List ℕ) (segs : List Float) (at count w word : ℕ) (area : List Float) (rgba : List (List Float)) (all : Ran)
    → left segs (trace_of (most_commands - count) ws segs at) area rgba ≡ all → count ≤ most_commands → (count ≡ most_commands → ⊥) → length area ≡ length rgba
    → look_at ws at ≡ Word w → (w ≡ color_no) × (ends_here ws (at + color_words) ≡ true) → word ≡ get_or ws (at + 1) 0
    → ran Fine (composite_of area (colour_of word) rgba) ≡ all
last_left ws segs at count w word area rgba all inv h z l e c d =
    let act = Color (get_or ws (at + 1) 0) in
    ap (λ (x : ℕ). ran Fine (composite_of area (colour_of x) rgba)) d
    ∙ ap (ran Fine) (sym (color_paints (get_or ws (at + 1) 0) area rgba))
    ∙ sym (left_ends segs Fine (cover_all act segs area) (paint_all act area rgba))
    ∙ sym (left_does segs act (ends Fine) area rgba l)
    ∙ ap (λ (t : Trace). left segs t area rgba)
    (sym (ap (λ (k : ℕ). trace_of k ws segs at) (more count h z) ∙ last_goes ws segs at w (most_commands - (count + 1)) e c.0 c.1))
    ∙ inv
