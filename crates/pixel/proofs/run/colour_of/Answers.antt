-- `pixel::run::colour_of` meets its contract. The invariant: what is left to do, from the present place with the commands left, gives what the whole gives. Assumes nothing.
use mathlib.Core.Path.{◌≡◌, refl, sym, ap, ◌∙◌}
use mathlib.Core.List.{List}
use Prim.Native.Nat.{ℕ, suc, ◌-◌, ◌+◌, ◌≤◌}
use lib.Ieee.{Float}
use Rattle.panel.specs.Limits.{most_commands}
use Rattle.panel.specs.Verdict.{Verdict}
use Rattle.panel.specs.Verdict.{Fine, Against}
use Rattle.colours.specs.Colour.{pack_of}
use Rattle.commands.specs.Numbers.{start_of}
use Rattle.commands.specs.Moves.{Trace, ends, does, trace_of}
use Rattle.commands.specs.Pixel.{point_of}
use Rattle.commands.specs.declared.steps.Act.{Act}
use Rattle.commands.proofs.Acts.{move_within}
use Rattle.commands.proofs.Traced.{found, more, trace_past, trace_end, trace_full, trace_stop, trace_goes}
use Rattle.pixel.specs.Place.{place_at}
use Rattle.pixel.specs.Answers.{answered, refused_by, colour_paper}
use Rattle.pixel.specs.Held.{colours_of, nothing_held, held_after}
use Rattle.pixel.specs.Colour.{under_list}
use Rattle.pixel.specs.declared.kinds.Held.{Held}
use Rattle.pixel.proofs.ToldLaws.{coloured_on}
use Rattle.pixel.proofs.Left.{left, left_does, left_starts}
use native.Mathlib.Omega.{arith}
use borrow.Author.Rules.{rules}
use Rattle.pixel.proofs.run.colour_of.Goals as goal

begins : (ws : List ℕ) (segs : List Float) (t k : ℕ) (p : Held) → p ≡ nothing_held
    → left segs k (trace_of (most_commands - 0) ws segs (start_of t)) p ≡ under_list ws segs t k
begins ws segs t k p e = ap (left segs k (trace_of most_commands ws segs (start_of t))) e ∙ left_starts segs k ws t

module _ (ws : List ℕ) (segs : List Float) (t k : ℕ) (p : Held) (at count : ℕ) (inv : left segs k (trace_of (most_commands - count) ws segs at) p ≡ under_list ws segs t k) where
  -- the commands end here
  there : (n : ℕ) (v : Verdict) → most_commands - count ≡ n → trace_of n ws segs at ≡ ends v → left segs k (ends v) p ≡ under_list ws segs t k
  there n v f e = ap (λ (x : Trace). left segs k x p) (sym (ap (λ (m : ℕ). trace_of m ws segs at) f ∙ e)) ∙ inv

  stops : (n m : ℕ) → most_commands - count ≡ n → trace_of n ws segs at ≡ ends (Against m) → refused_by m ≡ under_list ws segs t k
  unfolding left point_of
  stops n m f e = there n (Against m) f e

  over : (n px : ℕ) → most_commands - count ≡ n → trace_of n ws segs at ≡ ends Fine → px ≡ pack_of (colours_of p) → answered px ≡ under_list ws segs t k
  unfolding left point_of
  over n px f e q = ap answered q ∙ there n Fine f e

  -- one more is carried out
  turn : (a : Act) (next : ℕ) (q : Held) → count ≤ most_commands → (count ≡ most_commands → ⊥)
      → trace_of (suc (most_commands - (count + 1))) ws segs at ≡ does a (trace_of (most_commands - (count + 1)) ws segs next) → q ≡ held_after a segs k p
      → left segs k (trace_of (most_commands - (count + 1)) ws segs next) q ≡ under_list ws segs t k
  turn a next q h z e g =
      let r = trace_of (most_commands - (count + 1)) ws segs next in
      ap (left segs k r) g ∙ sym (left_does segs k a r p) ∙ ap (λ (x : Trace). left segs k x p) (sym (ap (λ (m : ℕ). trace_of m ws segs at) (more count h z) ∙ e)) ∙ inv

pub loop-tag-init : goal.loop-tag-init
loop-tag-init c = let a = c.args in (search rules, begins a.words.now a.segments.now a.t (place_at a.column a.row) _ c.nothing-p.ensures)

pub returns-in_default : goal.returns-in_default
returns-in_default c =
    let a = c.args in
    let l = c.loop-tag in
    stops a.words.now a.segments.now a.t (place_at a.column a.row) l.p l.at l.count l.invariant.1 _ _ refl
    (trace_past a.words.now a.segments.now l.at _ (sym c.in_default.ensures))

pub returns-then-tag-eq-END : goal.returns-then-tag-eq-END
returns-then-tag-eq-END c =
    let a = c.args in
    let l = c.loop-tag in
    over a.words.now a.segments.now a.t (place_at a.column a.row) l.p l.at l.count l.invariant.1 _ _ refl
    (trace_end a.words.now a.segments.now l.at _ (sym c.in-Some.ensures) _ c.if-tag-eq-END.true)
    c.pack.ensures

pub returns-then-count-eq-MOST_COMMANDS : goal.returns-then-count-eq-MOST_COMMANDS
returns-then-count-eq-MOST_COMMANDS c =
    let a = c.args in
    let l = c.loop-tag in
    stops a.words.now a.segments.now a.t (place_at a.column a.row) l.p l.at l.count l.invariant.1 0 _ (omega arith)
    (trace_full a.words.now a.segments.now l.at _ (sym c.in-Some.ensures) c.if-tag-eq-END.false)

pub move_at-requires : goal.move_at-requires
move_at-requires c = found c.args.words.now
    c.loop-tag.at _
    (sym c.in-Some.ensures)

pub returns-in_err-act : goal.returns-in_err-act
returns-in_err-act c =
    let a = c.args in
    let l = c.loop-tag in
    ap colour_paper (coloured_on _ _ c.from_residual.ensures.1)
    ∙ stops a.words.now a.segments.now a.t (place_at a.column a.row) l.p l.at l.count l.invariant.1 _ _
    (more l.count l.invariant.0 c.if-count-eq-MOST_COMMANDS.false)
    (trace_stop a.words.now a.segments.now l.at _ (sym c.in-Some.ensures)
    c.if-tag-eq-END.false _ c.op_of.ensures _ c.in_err-act.ensures _ _ refl)

pub carry_out-p-requires : goal.carry_out-p-requires
carry_out-p-requires c = (
  move_within _ c.args.words.now
      c.args.segments.now
      c.loop-tag.at _ _
      (sym c.in_ok-act.ensures),
  c.requires.0,
  c.requires.1,
)

pub loop-tag-preserved : goal.loop-tag-preserved
loop-tag-preserved c =
    let a = c.args in
    let l = c.loop-tag in (
      omega arith,
      turn a.words.now a.segments.now a.t (place_at a.column a.row) l.p l.at l.count l.invariant.1 _ _ _ l.invariant.0
          c.if-count-eq-MOST_COMMANDS.false
          (trace_goes a.words.now a.segments.now l.at _
          (sym c.in-Some.ensures)
          c.if-tag-eq-END.false _ c.op_of.ensures _
          c.in_ok-act.ensures _ _ _ refl) c.carry_out-p.ensures,
    )
