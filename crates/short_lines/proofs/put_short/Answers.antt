-- `short_lines::put_short` meets its contract: where it says yes, the tests that led there pick the definition's case. Assumes nothing.
use Prim.Native.Nat.{◌<◌}
use mathlib.Core.Path.{refl, sym, ◌∙◌}
use borrow.Author.Tests.{ltb-false}
use native.Mathlib.Omega.{arith}
use Rattle.panel.specs.Slots.{slot_of, handed_from}
use Rattle.panel.proofs.LimitLaws.{slice_read}
use Rattle.looks.specs.Look.{slice_no}
use Rattle.short_lines.proofs.ShortLaws.{put_fine}
use Rattle.short_lines.proofs.put_short.Goals as goal

pub overflow_add-slot : goal.overflow_add-slot
overflow_add-slot c =
    omega (
      arith,
      c.flipped.ensures,
      c.slice_of.ensures,
      slice_read c.args.packed (omega arith),
      ltb-false c.args.word handed_from (sym c.skips.ensures ∙ c.if-skips.false),
    )

pub returns : goal.returns
returns c =
    let a = c.args in
    let room : slot_of a.word (slice_no a.packed) < a.slots = omega (
      arith,
      c.if-slot-slots.false,
      c.flipped.ensures,
      c.slice_of.ensures,
    ) in (
      sym c.step_of.ensures ∙ c.if-step_of-ne0.false,
      rw (
        put_fine a.slots a.word (slice_no a.packed) a.s (sym c.skips.ensures ∙ c.if-skips.false) room,
        c.put.ensures,
        c.flipped.ensures,
        c.slice_of.ensures,
      )
          refl,
    )
