-- Commands as words: what is encoded at a place is what is read there, and the next one stands past it. And words put over a part. Assumes nothing.
use mathlib.Core.Path.{◌≡◌, refl, sym, ap, ◌∙◌}
use mathlib.Core.List.{List, [], ◌∷◌, ◌++◌, append_assoc}
use Prim.Native.Nat.{ℕ, suc, ◌+◌, ◌-◌, ◌*◌, ◌≤◌, ◌<◌}
use native.Mathlib.Nat.{add-zero}
use native.Mathlib.Omega.{arith}
use lib.ListN.{length, get_or, take, drop}
use lib.Seq.{sets, sets-eq, length-sets, drop-drop}
use borrow.Rule.Slice.PartMut.{put_mid}
use lib.Ieee.{Float}
use borrow.Author.Tests.{lt-ltb, le-leb}
use Rattle.lists.specs.Cells.{get_d_sets_in}
use Rattle.panel.specs.Verdict.{Verdict}
use Rattle.panel.specs.Verdict.{Fine}
use Rattle.coverage.specs.Ground.{ground_of}
use Rattle.reader.specs.Look.{look_at}
use Rattle.reader.specs.Looked.{Word}
use Rattle.commands.specs.Numbers.{end_no, solid_no, encode_to, encode, fill_words, solid_words, color_words, jump_words, tile_words, list_start}
use Rattle.commands.specs.Moves.{op_of, count_of, on_ground, fill_move, whole_move, move_of, ends, does, trace_of}
use Rattle.commands.specs.declared.steps.Act.{Act}
use Rattle.commands.specs.declared.steps.Act.TheVariants.{Fill, Solid, Color, Jump}
use Rattle.commands.specs.Move.{Goes}
use Rattle.commands.proofs.Traced.{trace_end, trace_goes}

-- ---- words in memory

-- the words vs stand in ws from the word `at` on
pub record Stands (ws : List ℕ) (at : ℕ) (vs : List ℕ) : Type 0 where
  pub room : at + length vs ≤ length ws
  pub each : (j : ℕ) → j < length vs → get_or ws (at + j) 0 ≡ get_or vs j 0

pub written_stands : (ws : List ℕ) (at : ℕ) (vs : List ℕ) → at + length vs ≤ length ws → Stands (sets ws at vs) at vs
written_stands ws at vs h =
    record {
      room = omega (arith, length-sets ws at vs);
      each = λ j b. get_d_sets_in vs ws at j 0 b h;
    }

-- ---- the round trip

-- where the next command stands after the one at `at`: where a JUMP says, or past its words
abbrev pub next_of : ℕ → ℕ → Act → ℕ
next_of at to (Fill rule first backdrop) = at + length (encode (Fill rule first backdrop))
next_of at to Solid = at + length (encode Solid)
next_of at to (Color word) = at + length (encode (Color word))
next_of at to Jump = to

-- a fill's segments are not refused
abbrev pub Grounded : List Float → Act → Type 0
Grounded segs (Fill rule first backdrop) = ground_of segs first (count_of rule) ≡ Fine
Grounded segs Solid = Unit {0}
Grounded segs (Color word) = Unit {0}
Grounded segs Jump = Unit {0}

module _ (ws : List ℕ) (segs : List Float) (at to : ℕ) where
  -- the first of the words that stand there
  head : (w : ℕ) (vs : List ℕ) → Stands ws at (w ∷ vs) → get_or ws at 0 ≡ w
  head w vs s = rw add-zero at (s.each 0 (omega arith))

  -- what is encoded at a place is what is read there
  pub read_back : (a : Act) → Grounded segs a → Stands ws at (encode_to to a) → move_of (op_of (get_or ws at 0)) ws segs at ≡ Goes a (next_of at to a)
  unfolding op_of move_of whole_move fill_move
  read_back (Fill rule first backdrop) h s =
      let r = s.room in
      let a : get_or ws (at + 1) 0 ≡ rule = s.each 1 (omega arith) in
      let b : get_or ws (at + 2) 0 ≡ first = s.each 2 (omega arith) in
      let c : get_or ws (at + 3) 0 ≡ backdrop = s.each 3 (omega arith) in
      rw (head _ _ s, le-leb fill_words (length ws - at) (omega arith), a, b, c)
      (ap (λ (v : Verdict). on_ground v (Goes (Fill rule first backdrop) (at + fill_words))) h)
  read_back Solid h s = let r = s.room in rw (head _ _ s, le-leb solid_words (length ws - at) (omega arith))
  read_back (Color word) h s =
      let r = s.room in
      let e : get_or ws (at + 1) 0 ≡ word = s.each 1 (omega arith) in
      rw (head _ _ s, le-leb color_words (length ws - at) (omega arith), e)
  read_back Jump h s =
      let r = s.room in
      let e : get_or ws (at + 1) 0 ≡ to = s.each 1 (omega arith) in
      rw (head _ _ s, le-leb jump_words (length ws - at) (omega arith), e)

  -- so it is the next step of a run there
  looks : (w : ℕ) (vs : List ℕ) → Stands ws at (w ∷ vs) → look_at ws at ≡ Word w
  looks w vs s = let r = s.room in rw (lt-ltb at (length ws) (omega arith), head w vs s)

  goes : (w : ℕ) (vs : List ℕ) → (w ≡ end_no → ⊥) → (n : ℕ) (a : Act) (next : ℕ) → Stands ws at (w ∷ vs) → move_of (op_of (get_or ws at 0)) ws segs at ≡ Goes a next
      → trace_of (suc n) ws segs at ≡ does a (trace_of n ws segs next)
  goes w vs z n a next s m = trace_goes ws segs at w (looks w vs s) z (op_of w) refl (Goes a next) (sym m ∙ ap (λ (x : ℕ). move_of (op_of x) ws segs at) (head w vs s)) n a next refl

  pub act_goes : (n : ℕ) (a : Act) → Grounded segs a → Stands ws at (encode_to to a) → trace_of (suc n) ws segs at ≡ does a (trace_of n ws segs (next_of at to a))
  act_goes n (Fill rule first backdrop) h s = goes _ _ (λ e. absurd (omega arith)) n _ _ s (read_back _ h s)
  act_goes n Solid h s = goes _ _ (λ e. absurd (omega arith)) n _ _ s (read_back _ h s)
  act_goes n (Color word) h s = goes _ _ (λ e. absurd (omega arith)) n _ _ s (read_back _ h s)
  act_goes n Jump h s = goes _ _ (λ e. absurd (omega arith)) n _ _ s (read_back _ h s)

  pub end_goes : (n : ℕ) → Stands ws at (end_no ∷ []) → trace_of n ws segs at ≡ ends Fine
  end_goes n s = trace_end ws segs at end_no (looks end_no [] s) n refl

-- and where it was just written
pub read_written : (ws : List ℕ) (segs : List Float) (at to : ℕ) (a : Act) → Grounded segs a → at + length (encode_to to a) ≤ length ws
    → move_of (op_of (get_or (sets ws at (encode_to to a)) at 0)) (sets ws at (encode_to to a)) segs at ≡ Goes a (next_of at to a)
read_written ws segs at to a h r = read_back (sets ws at (encode_to to a)) segs at to a h (written_stands ws at (encode_to to a) r)

-- ---- SOLID is one word, so twenty pairs of SOLID and COLOR, and a JUMP, have room in a tile's region, and no more

pub solid_word : encode Solid ≡ solid_no ∷ []
solid_word = refl

pub twenty_solids : 20 * (solid_words + color_words) + jump_words ≤ tile_words - list_start
twenty_solids = omega arith

pub no_more_solids : tile_words - list_start < 21 * (solid_words + color_words) + jump_words
no_more_solids = omega arith

-- ---- words put over a part
pub put_over : (l : List ℕ) (i k : ℕ) (ys vs : List ℕ) → i + length vs ≤ length l → ys ≡ vs → k ≡ length vs → put_mid i k l ys ≡ sets l i vs
put_over l i k ys vs h e n =
    ap (put_mid i k l) e ∙ ap (λ (r : List ℕ). take i l ++ (vs ++ r)) (drop-drop k i l ∙ ap (λ (m : ℕ). drop (i + m) l) n)
    ∙ sym (append_assoc (take i l) vs (drop (i + length vs) l)) ∙ sym (sets-eq vs l i h)
