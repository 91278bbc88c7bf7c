-- `run_list::run` meets its contract. The invariant: what is left to do, from the present place with the commands left, gives what the whole gives. Assumes nothing.
use mathlib.Core.Path.{◌≡◌, refl, sym, ap, ◌∙◌}
use mathlib.Core.List.{List}
use Prim.Native.Nat.{ℕ, suc, ◌-◌, ◌+◌, ◌≤◌}
use lib.ListN.{length}
use lib.Ieee.{Float}
use Rattle.panel.specs.Limits.{most_commands}
use Rattle.panel.specs.Verdict.{Verdict}
use Rattle.sides.specs.Tile.{tile_size}
use Rattle.commands.specs.Moves.{Trace, ends, does, trace_of}
use Rattle.commands.specs.Pixel.{cover_all, paint_all, Ran, ran}
use Rattle.commands.specs.Alike.{left}
use Rattle.commands.specs.declared.steps.Act.{Act}
use Rattle.commands.proofs.Acts.{move_within}
use Rattle.commands.proofs.Traced.{found, more, trace_past, trace_end, trace_full, trace_stop, trace_goes, left_ends, left_does}
use Rattle.on_pixels.proofs.ActLaws.{length_cover}
use Rattle.run_list.specs.Stop.{Stop}
use Rattle.run_list.specs.Stopped.{stopped}
use Rattle.run_list.proofs.Lasts.{handed_on, word_room, is_last, last_left}
use Rattle.colours.specs.Layer.{meant}
use Rattle.colours.proofs.FlatLaws.{meant_length}
use Rattle.on_pixels.proofs.Signs.{all_covered}
use native.Mathlib.Omega.{arith}
use Rattle.run_list.proofs.run.Goals as goal

module _ (ws : List ℕ) (segs : List Float) (all : Ran) (area : List Float) (rgba : List (List Float)) (at count : ℕ)
    (inv : left segs (trace_of (most_commands - count) ws segs at) area rgba ≡ all) where
  -- the commands end here
  stop : (n : ℕ) (v : Verdict) → most_commands - count ≡ n → trace_of n ws segs at ≡ ends v → ran v rgba ≡ all
  stop n v f e = sym (left_ends segs v area rgba) ∙ ap (λ (t : Trace). left segs t area rgba) (sym (ap (λ (k : ℕ). trace_of k ws segs at) f ∙ e)) ∙ inv

  -- one more is carried out
  turn : (a : Act) (next : ℕ) (area' : List Float) (rgba' : List (List Float)) → count ≤ most_commands → (count ≡ most_commands → ⊥) → length area ≡ length rgba
      → trace_of (suc (most_commands - (count + 1))) ws segs at ≡ does a (trace_of (most_commands - (count + 1)) ws segs next) → area' ≡ cover_all a segs area → rgba' ≡ paint_all a area rgba
      → left segs (trace_of (most_commands - (count + 1)) ws segs next) area' rgba' ≡ all
  turn a next area' rgba' h z l e p q =
      let t = trace_of (most_commands - (count + 1)) ws segs next in
      ap (λ (x : List Float). left segs t x rgba') p ∙ ap (left segs t (cover_all a segs area)) q ∙ sym (left_does segs a t area rgba l)
      ∙ ap (λ (x : Trace). left segs x area rgba) (sym (ap (λ (k : ℕ). trace_of k ws segs at) (more count h z) ∙ e)) ∙ inv

area_length : (a : Act) (segs area area' : List Float) → area' ≡ cover_all a segs area → length area ≡ tile_size → length area' ≡ tile_size
area_length a segs area area' p m = ap length p ∙ length_cover a segs area ∙ m

pub loop-tag-init : goal.loop-tag-init
loop-tag-init c = (c.requires.2, c.requires.0, c.requires.1, refl, c.requires.3)

pub shape_of-area-in_default : goal.shape_of-area-in_default
shape_of-area-in_default c = c.loop-tag.invariant.1 ∙ sym c.requires.0

pub returns-in_default : goal.returns-in_default
returns-in_default c =
    let a = c.args in
    let l = c.loop-tag in (
      l.invariant.1,
      l.invariant.2,
      l.invariant.4,
      stop a.words.now a.segments.now _ l.area (meant l.flat l.rgba) l.at l.count l.invariant.3 _ _ refl
          (trace_past a.words.now a.segments.now l.at _ (sym c.in_default.ensures)),
    )

pub shape_of-area-then-tag-eq-END : goal.shape_of-area-then-tag-eq-END
shape_of-area-then-tag-eq-END c = c.loop-tag.invariant.1 ∙ sym c.requires.0

pub returns-then-tag-eq-END : goal.returns-then-tag-eq-END
returns-then-tag-eq-END c =
    let a = c.args in
    let l = c.loop-tag in (
      l.invariant.1,
      l.invariant.2,
      l.invariant.4,
      stop a.words.now a.segments.now _ l.area (meant l.flat l.rgba) l.at l.count l.invariant.3 _ _ refl
          (trace_end a.words.now a.segments.now l.at _ (sym c.in-Some.ensures) _ c.if-tag-eq-END.true),
    )

pub shape_of-area-then-count-eq-MOST_COMMANDS : goal.shape_of-area-then-count-eq-MOST_COMMANDS
shape_of-area-then-count-eq-MOST_COMMANDS c = c.loop-tag.invariant.1 ∙ sym c.requires.0

pub returns-then-count-eq-MOST_COMMANDS : goal.returns-then-count-eq-MOST_COMMANDS
returns-then-count-eq-MOST_COMMANDS c =
    let a = c.args in
    let l = c.loop-tag in (
      l.invariant.1,
      l.invariant.2,
      l.invariant.4,
      stop a.words.now a.segments.now _ l.area (meant l.flat l.rgba) l.at l.count l.invariant.3 0 _ (omega arith)
          (trace_full a.words.now a.segments.now l.at _ (sym c.in-Some.ensures) c.if-tag-eq-END.false),
    )

pub overflow_add-at : goal.overflow_add-at
overflow_add-at c =
    let h = found c.args.words.now c.loop-tag.at _ (sym c.in-Some.ensures) in
    record { fits = omega (arith, h) }

pub overflow_add-result : goal.overflow_add-result
overflow_add-result c =
    let h = found c.args.words.now c.loop-tag.at _ (sym c.in-Some.ensures) in
    record { fits = omega (arith, h) }

pub offset_bounds-words-at : goal.offset_bounds-words-at
offset_bounds-words-at c =
    let h = found c.args.words.now c.loop-tag.at _ (sym c.in-Some.ensures) in
    record { fits = omega (arith, h) }

pub bounds-words-at : goal.bounds-words-at
bounds-words-at c =
    let a = c.args in
    let l = c.loop-tag in
    word_room a.words.now l.at _ _ (sym c.in-Some.ensures) c.ends_at.ensures c.if-tag-ends_at.true

pub shape_of-area-then-tag-ends_at : goal.shape_of-area-then-tag-ends_at
shape_of-area-then-tag-ends_at c = c.loop-tag.invariant.1 ∙ sym c.requires.0

pub returns-then-tag-ends_at : goal.returns-then-tag-ends_at
returns-then-tag-ends_at c =
    let a = c.args in
    let l = c.loop-tag in (
      l.invariant.1,
      l.invariant.2,
      l.invariant.4,
      last_left a.words.now a.segments.now l.at l.count _ _ l.area (meant l.flat l.rgba) _ l.invariant.3 l.invariant.0 c.if-count-eq-MOST_COMMANDS.false
          (l.invariant.1 ∙ sym (meant_length _ _ ∙ l.invariant.2)) (sym c.in-Some.ensures)
          (is_last a.words.now l.at _ _ c.ends_at.ensures c.if-tag-ends_at.true) refl,
    )

pub move_at-requires : goal.move_at-requires
move_at-requires c = found c.args.words.now c.loop-tag.at _ (sym c.in-Some.ensures)

pub shape_of-area-in_err-act : goal.shape_of-area-in_err-act
shape_of-area-in_err-act c = c.loop-tag.invariant.1 ∙ sym c.requires.0

pub returns-in_err-act : goal.returns-in_err-act
returns-in_err-act c =
    let a = c.args in
    let l = c.loop-tag in (
      l.invariant.1,
      l.invariant.2,
      l.invariant.4,
      ap (λ (s : Stop). stopped s l.area (meant l.flat l.rgba)) (handed_on _ _ c.from_residual.ensures.1)
          ∙ stop a.words.now a.segments.now _ l.area (meant l.flat l.rgba) l.at l.count l.invariant.3 _ _
          (more l.count l.invariant.0 c.if-count-eq-MOST_COMMANDS.false)
          (trace_stop a.words.now a.segments.now l.at _ (sym c.in-Some.ensures) c.if-tag-eq-END.false _
          c.op_of.ensures _ c.in_err-act.ensures _ _ refl),
    )

pub carry_out-requires : goal.carry_out-requires
carry_out-requires c =
    let a = c.args in
    let l = c.loop-tag in (
      move_within _ a.words.now a.segments.now l.at _ _ (sym c.in_ok-act.ensures),
      l.invariant.1,
      l.invariant.2,
      l.invariant.4,
    )

pub loop-tag-preserved : goal.loop-tag-preserved
loop-tag-preserved c =
    let a = c.args in
    let l = c.loop-tag in
    let e = c.carry_out.ensures in (
      omega arith,
      area_length _ _ _ _ e.0 l.invariant.1,
      e.1,
      turn a.words.now a.segments.now _ l.area (meant l.flat l.rgba) l.at l.count l.invariant.3 _ _ _ _ l.invariant.0
          c.if-count-eq-MOST_COMMANDS.false (l.invariant.1 ∙ sym (meant_length _ _ ∙ l.invariant.2))
          (trace_goes a.words.now a.segments.now l.at _ (sym c.in-Some.ensures)
          c.if-tag-eq-END.false _ c.op_of.ensures _ c.in_ok-act.ensures _ _ _ refl)
          e.0 e.2,
      all_covered _ _ l.area _ e.0 l.invariant.4,
    )
