-- Refusals are exact: 13, 14, 15 and 20 of a screen tile's commands. Assumes nothing.
use mathlib.Core.Path.{◌≡◌, refl, sym, ap, ◌∙◌}
use mathlib.Core.Logic.{◌≢◌, ◌↔◌, ◌⊎◌, inl, inr}
use mathlib.Core.Bool.{Bool, true, false, cond}
use mathlib.Core.List.{List}
use Prim.Native.Nat.{ℕ, zero, suc, ◌+◌, ◌-◌, ◌/◌, ◌≤◌, ◌<◌}
use native.Mathlib.Decide.{dec_lt, ℕ_discrete}
use native.Mathlib.Omega.{arith}
use lib.Dec.{leb}
use lib.ListN.{length, get_or}
use lib.Ieee.{Float}
use borrow.Author.Tests.{lt-ltb, le-ltb, le-leb, lt-leb, leb-true, leb-false, eq-eqb, ne_eqb}
use Rattle.panel.specs.Refusals.{past_end, bad_segment, too_long_word}
use Rattle.panel.specs.Segments.{segment_at}
use Rattle.panel.proofs.HeldLaws.{not_straight, crooked_not}
use Rattle.panel.specs.Verdict.{Verdict, Fine, Against}
use Rattle.coverage.specs.Ground.{straight_from, ground_of}
use Rattle.coverage.proofs.Crooked.{crooked_at, first_crooked}
use Rattle.reader.specs.Look.{look_at}
use Rattle.commands.specs.Numbers.{end_no, words_of, fill_words, start_of}
use Rattle.commands.specs.Moves.{op_of, count_of, on_ground, fill_move, whole_move, move_of, Trace, ends, does, on_move, on_look, trace_of, end_of}
use Rattle.commands.specs.declared.steps.Op.{Op}
use Rattle.commands.specs.declared.steps.Op.TheVariants.{Fill, Solid, Color, Jump, Unknown}
use Rattle.commands.specs.declared.steps.Act.{Act}
use Rattle.commands.specs.declared.steps.Act.TheVariants as Does
use Rattle.commands.specs.Move.{Move, Refused, Goes}
use Rattle.panel.specs.Limits.{most_commands}
use Rattle.panel.specs.Widths.{segment_floats}
use Rattle.screen_tile.specs.Tile.{tile_trace, ends_at}
use Rattle.theorems.specs.Commands.{GroundWhy, WholeWhy, MoveWhy, TraceWhy}
use Rattle.theorems.proofs.Exact.{no_clash}

-- ---- one command

-- a fill's segments
pub ground_exact : (segs : List Float) (first m n : ℕ) → (ground_of segs first m ≡ Against n) ↔ GroundWhy segs first m n
ground_exact segs first m n = (why (leb (first + m) (length segs / segment_floats)) refl (straight_from segs first m) refl, halts)
  where
    why : (a : Bool) → leb (first + m) (length segs / segment_floats) ≡ a → (b : Bool) → straight_from segs first m ≡ b
        → cond a (cond b Fine (Against bad_segment)) (Against past_end) ≡ Against n → GroundWhy segs first m n
    why true p true q e = no_clash cc
    why true p false q e =
        let w = first_crooked segs first m q in
        inr (cc, leb-true (first + m) (length segs / segment_floats) p, (w.0, w.1, crooked_not (segment_at segs (first + w.0)) w.3))
    why false p b q e = inl (cc, leb-false (first + m) (length segs / segment_floats) p)

    halts : GroundWhy segs first m n → ground_of segs first m ≡ Against n
    halts (inl h) = rw (lt-leb (first + m) (length segs / segment_floats) h.1, h.0)
    halts (inr h) =
        let c = h.2 in
        rw (le-leb (first + m) (length segs / segment_floats) h.1, crooked_at segs first m c.0 c.1 (not_straight (segment_at segs (first + c.0)) c.2), h.0)

on_ground_lem : (v : Verdict) (a : Act) (next n : ℕ) → on_ground v (Goes a next) ≡ Refused n → v ≡ Against n
on_ground_lem Fine a next n e = no_clash cc
on_ground_lem (Against k) a next n e = let w : k ≡ n = cc in ap Against w

whole_why : (o : Op) (ws : List ℕ) (segs : List Float) (at n : ℕ) → whole_move o ws segs at ≡ Refused n → WholeWhy o ws segs at n
unfolding whole_move fill_move
whole_why Fill ws segs at n e =
    (ground_exact segs (get_or ws (at + 2) 0) (count_of (get_or ws (at + 1) 0)) n).0 (on_ground_lem (ground_of segs (get_or ws (at + 2) 0) (count_of (get_or ws (at + 1) 0))) _ _ n e)
whole_why Solid ws segs at n e = no_clash cc
whole_why Color ws segs at n e = no_clash cc
whole_why Jump ws segs at n e = no_clash cc
whole_why Unknown ws segs at n e = cc

whole_halts : (o : Op) (ws : List ℕ) (segs : List Float) (at n : ℕ) → WholeWhy o ws segs at n → whole_move o ws segs at ≡ Refused n
unfolding whole_move fill_move
whole_halts Fill ws segs at n h =
    ap (λ (v : Verdict). on_ground v (Goes (Does.Fill (get_or ws (at + 1) 0) (get_or ws (at + 2) 0) (get_or ws (at + 3) 0)) (at + fill_words)))
    ((ground_exact segs (get_or ws (at + 2) 0) (count_of (get_or ws (at + 1) 0)) n).1 h)
whole_halts Solid ws segs at n h = absurd h
whole_halts Color ws segs at n h = absurd h
whole_halts Jump ws segs at n h = absurd h
whole_halts Unknown ws segs at n h = rw h

move_why : (o : Op) (ws : List ℕ) (segs : List Float) (at n : ℕ) → move_of o ws segs at ≡ Refused n → MoveWhy o ws segs at n
unfolding move_of
move_why o ws segs at n e = go (leb (words_of o) (length ws - at)) refl e
  where
    go : (b : Bool) → leb (words_of o) (length ws - at) ≡ b → cond b (whole_move o ws segs at) (Refused past_end) ≡ Refused n → MoveWhy o ws segs at n
    go true q d = inr (leb-true (words_of o) (length ws - at) q, whole_why o ws segs at n d)
    go false q d = inl (cc, leb-false (words_of o) (length ws - at) q)

move_halts : (o : Op) (ws : List ℕ) (segs : List Float) (at n : ℕ) → MoveWhy o ws segs at n → move_of o ws segs at ≡ Refused n
unfolding move_of
move_halts o ws segs at n (inl h) = rw (lt-leb (words_of o) (length ws - at) h.1, h.0)
move_halts o ws segs at n (inr h) = rw (le-leb (words_of o) (length ws - at) h.0) (whole_halts o ws segs at n h.1)

-- ---- all of a tile's

-- what stands at `at`: nothing, END, or a command
module _ (ws : List ℕ) (at : ℕ) (f : ℕ → Trace) where
  look_past : length ws ≤ at → on_look (look_at ws at) f ≡ ends (Against past_end)
  look_past h = rw (le-ltb at (length ws) h)

  look_end : at < length ws → get_or ws at 0 ≡ end_no → on_look (look_at ws at) f ≡ ends Fine
  look_end h e = rw (lt-ltb at (length ws) h, eq-eqb (get_or ws at 0) end_no e)

  look_word : at < length ws → get_or ws at 0 ≢ end_no → on_look (look_at ws at) f ≡ f (get_or ws at 0)
  look_word h e = rw (lt-ltb at (length ws) h, ne_eqb (get_or ws at 0) end_no e)

data Stands (ws : List ℕ) (at : ℕ) : Type 0 where
  past : length ws ≤ at → Stands ws at
  over : at < length ws → get_or ws at 0 ≡ end_no → Stands ws at
  word : at < length ws → get_or ws at 0 ≢ end_no → Stands ws at

stands : (ws : List ℕ) (at : ℕ) → Stands ws at
stands ws at = go (dec_lt at (length ws)) (ℕ_discrete (get_or ws at 0) end_no)
  where
    go : Dec (at < length ws) → Dec (get_or ws at 0 ≡ end_no) → Stands ws at
    go (no h) d = past (omega arith)
    go (yes h) (yes e) = over h e
    go (yes h) (no e) = word h e

trace_why : (k : ℕ) (ws : List ℕ) (segs : List Float) (at n : ℕ) → end_of (trace_of k ws segs at) ≡ Against n → TraceWhy k ws segs at n
unfolding trace_of
trace_why zero ws segs at n e = go (stands ws at)
  where
    f : ℕ → Trace
    f w = ends (Against too_long_word)

    go : Stands ws at → TraceWhy zero ws segs at n
    go (past h) = let d : Against past_end ≡ Against n = ap end_of (sym (look_past ws at f h)) ∙ e in inl (cc, h)
    go (over h q) = let d : Fine ≡ Against n = ap end_of (sym (look_end ws at f h q)) ∙ e in no_clash cc
    go (word h q) = let d : Against too_long_word ≡ Against n = ap end_of (sym (look_word ws at f h q)) ∙ e in inr (h, q, cc)
trace_why (suc k) ws segs at n e = go (stands ws at) (trace_why k ws segs)
  where
    f : ℕ → Trace
    f w = on_move (move_of (op_of w) ws segs at) (λ a next. does a (trace_of k ws segs next))

    moved : (m : Move) → move_of (op_of (get_or ws at 0)) ws segs at ≡ m → end_of (on_move m (λ a next. does a (trace_of k ws segs next))) ≡ Against n
        → ((at' n' : ℕ) → end_of (trace_of k ws segs at') ≡ Against n' → TraceWhy k ws segs at' n')
        → MoveWhy (op_of (get_or ws at 0)) ws segs at n ⊎ ((a : Act) × (next : ℕ) × (move_of (op_of (get_or ws at 0)) ws segs at ≡ Goes a next) × TraceWhy k ws segs next n)
    moved (Refused m) q d ih = let w : m ≡ n = cc in inl (move_why (op_of (get_or ws at 0)) ws segs at n (q ∙ ap Refused w))
    moved (Goes a next) q d ih = inr (a, next, q, ih next n d)

    go : Stands ws at → ((at' n' : ℕ) → end_of (trace_of k ws segs at') ≡ Against n' → TraceWhy k ws segs at' n') → TraceWhy (suc k) ws segs at n
    go (past h) ih = let d : Against past_end ≡ Against n = ap end_of (sym (look_past ws at f h)) ∙ e in inl (cc, h)
    go (over h q) ih = let d : Fine ≡ Against n = ap end_of (sym (look_end ws at f h q)) ∙ e in no_clash cc
    go (word h q) ih = inr (h, q, moved (move_of (op_of (get_or ws at 0)) ws segs at) refl (ap end_of (sym (look_word ws at f h q)) ∙ e) ih)

trace_halts : (k : ℕ) (ws : List ℕ) (segs : List Float) (at n : ℕ) → TraceWhy k ws segs at n → end_of (trace_of k ws segs at) ≡ Against n
unfolding trace_of
trace_halts zero ws segs at n (inl h) = ap end_of (look_past ws at (λ w. ends (Against too_long_word)) h.1) ∙ ap Against (sym h.0)
trace_halts zero ws segs at n (inr h) = ap end_of (look_word ws at (λ w. ends (Against too_long_word)) h.0 h.1) ∙ ap Against (sym h.2)
trace_halts (suc k) ws segs at n (inl h) =
    ap end_of (look_past ws at (λ w. on_move (move_of (op_of w) ws segs at) (λ a next. does a (trace_of k ws segs next))) h.1) ∙ ap Against (sym h.0)
trace_halts (suc k) ws segs at n (inr h) =
    ap end_of (look_word ws at (λ w. on_move (move_of (op_of w) ws segs at) (λ a next. does a (trace_of k ws segs next))) h.0 h.1) ∙ go h.2 (trace_halts k ws segs)
  where
    go : MoveWhy (op_of (get_or ws at 0)) ws segs at n ⊎ ((a : Act) × (next : ℕ) × (move_of (op_of (get_or ws at 0)) ws segs at ≡ Goes a next) × TraceWhy k ws segs next n)
        → ((at' n' : ℕ) → TraceWhy k ws segs at' n' → end_of (trace_of k ws segs at') ≡ Against n')
        → end_of (on_move (move_of (op_of (get_or ws at 0)) ws segs at) (λ a next. does a (trace_of k ws segs next))) ≡ Against n
    go (inl w) ih = rw (move_halts (op_of (get_or ws at 0)) ws segs at n w)
    go (inr w) ih = rw w.2 (ih w.1 n w.3)

-- Refusals of a screen tile's commands are exact: of k commands allowed, with these segments lent, from `at` on
pub commands_exact : (k : ℕ) (ws : List ℕ) (segs : List Float) (at n : ℕ) → (end_of (trace_of k ws segs at) ≡ Against n) ↔ TraceWhy k ws segs at n
commands_exact k ws segs at n = (trace_why k ws segs at n, trace_halts k ws segs at n)

-- so of tile t
pub tile_exact : (ws : List ℕ) (segs : List Float) (t n : ℕ) → (ends_at ws segs t ≡ Against n) ↔ TraceWhy most_commands ws segs (start_of t) n
unfolding tile_trace
tile_exact ws segs t n = commands_exact most_commands ws segs (start_of t) n
