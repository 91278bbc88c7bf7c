-- The words of an answer fix what code answers: no two answers of code are told in the same words. So what the theorems say of an answer's words
-- they say of code's own answer, of each public call (the laws of `answer_told` and `verdict_told` stand in the ToldLaws of `panel`).
-- Assumes nothing.
use mathlib.Core.Path.{◌≡◌, refl, sym, ap, ◌∙◌}
use Prim.Native.Nat.{◌<◌}
use native.Mathlib.Omega.{arith}
use Rattle.std.specs.Prelude.{Result, Ok, Err, ⊤, Option, Some, None, ℕ, Float, cond, eqb}
use Rattle.panel.specs.Refusals.{no_of}
use Rattle.panel.specs.Kinds.{refused_at}
use Rattle.panel.specs.declared.refusals.Refusal.{Refusal}
use Rattle.panel.specs.declared.kinds.Refused as E
use Rattle.panel.specs.declared.kinds.Running.{Running}
use Rattle.panel.proofs.ToldLaws.{no_once}
use Rattle.path_count.specs.Counted.{counted_told}
use Rattle.path_count.specs.declared.kinds.Stopped.{Stopped}
use Rattle.frame.specs.Framed.{framed_told}
use Rattle.frame.specs.declared.kinds.Stage.{Stage}
use Rattle.frame.specs.declared.kinds.FrameRefused.{FrameRefused}
use Rattle.paint.specs.Drawn.{drawn_told}
use Rattle.paint.specs.Parts.{part_no}
use Rattle.paint.specs.declared.kinds.Part.{Part}
use Rattle.paint.specs.declared.kinds.DrawRefused.{DrawRefused}
use Rattle.new_lines.specs.Recounted.{recounted_told}
use Rattle.new_lines.specs.declared.RecountRefused.{RecountRefused}
use Rattle.boxes.specs.Boxed.{boxed_told}
use Rattle.sizes.specs.Measured.{measured_told}
use Rattle.sizes.specs.declared.Room.{Room}
use Rattle.tile_check.specs.Checked.{checked_told}
use Rattle.tile_check.specs.declared.kinds.Fault.{Fault}
use Rattle.pixel.specs.Covered.{covered_told}
use Rattle.pixel.specs.Coloured.{coloured_told}
use Rattle.ppm_write.specs.Written.{written_told}
use Rattle.ppm_read.specs.Answer as Read
use Rattle.present.specs.Present.{number_told}
use Rattle.svg.specs.Answer as Svg
use Rattle.svg.specs.declared.TextRefused.{TextRefused}

abbrev stopped : Refusal → ℕ → Running → Stopped
stopped why i s = record { why = why; item = i; running = s }

pub counted_fixed : (r s : Result Running Stopped) → counted_told r ≡ counted_told s → r ≡ s
counted_fixed (Ok x) (Ok y) e = let q : x ≡ y = cc in ap Ok q
counted_fixed (Ok x) (Err b) e = let z : ◌≡◌ {A = ℕ} 0 1 = cc in absurd (omega arith)
counted_fixed (Err a) (Ok y) e = let z : ◌≡◌ {A = ℕ} 0 1 = cc in absurd (omega arith)
counted_fixed (Err a) (Err b) e =
    let n : no_of a.why ≡ no_of b.why = cc in
    let w : a.why ≡ b.why = no_once a.why b.why n in
    let i : a.item ≡ b.item = cc in
    let s : a.running ≡ b.running = cc in
    ap Err (ap (λ (why : Refusal). stopped why a.item a.running) w ∙ ap (λ (n : ℕ). stopped b.why n a.running) i ∙ ap (stopped b.why b.item) s)

abbrev frame_refused : Stage → Refusal → ℕ → Running → FrameRefused
frame_refused at why i s = record { stage = at; why = why; item = i; running = s }

pub framed_fixed : (r s : Result Running FrameRefused) → framed_told r ≡ framed_told s → r ≡ s
framed_fixed (Ok x) (Ok y) e = let q : x ≡ y = cc in ap Ok q
framed_fixed (Ok x) (Err b) e = let z : ◌≡◌ {A = ℕ} 0 1 = cc in absurd (omega arith)
framed_fixed (Err a) (Ok y) e = let z : ◌≡◌ {A = ℕ} 0 1 = cc in absurd (omega arith)
framed_fixed (Err a) (Err b) e =
    let n : no_of a.why ≡ no_of b.why = cc in
    let w : a.why ≡ b.why = no_once a.why b.why n in
    let t : a.stage ≡ b.stage = cc in
    let i : a.item ≡ b.item = cc in
    let s : a.running ≡ b.running = cc in
    ap Err
    (ap (λ (at : Stage). frame_refused at a.why a.item a.running) t ∙ ap (λ (why : Refusal). frame_refused b.stage why a.item a.running) w
    ∙ ap (λ (n : ℕ). frame_refused b.stage b.why n a.running) i ∙ ap (frame_refused b.stage b.why b.item) s)

of_part : ℕ → Option Part
of_part n =
    cond (eqb n 1) (Some (Part.Frame Stage.Lent))
    (cond (eqb n 2) (Some (Part.Frame Stage.Count))
    (cond (eqb n 3) (Some (Part.Frame Stage.Backdrop))
    (cond (eqb n 4) (Some (Part.Frame Stage.HandOut))
    (cond (eqb n 5) (Some (Part.Frame Stage.Tile))
    (cond (eqb n 6) (Some Part.Lists)
    (cond (eqb n 7) (Some Part.Fine) None))))))

of_part-no : (a : Part) → of_part (part_no a) ≡ Some a
unfolding of_part
of_part-no (Part.Frame Stage.Lent) = refl
of_part-no (Part.Frame Stage.Count) = refl
of_part-no (Part.Frame Stage.Backdrop) = refl
of_part-no (Part.Frame Stage.HandOut) = refl
of_part-no (Part.Frame Stage.Tile) = refl
of_part-no Part.Lists = refl
of_part-no Part.Fine = refl

part_once : (a b : Part) → part_no a ≡ part_no b → a ≡ b
part_once a b e = let s : Some a ≡ Some b = sym (of_part-no a) ∙ ap of_part e ∙ of_part-no b in cc

abbrev draw_refused : Part → Refusal → ℕ → Running → DrawRefused
draw_refused at why i s = record { part = at; why = why; item = i; running = s }

pub drawn_fixed : (r s : Result Running DrawRefused) → drawn_told r ≡ drawn_told s → r ≡ s
drawn_fixed (Ok x) (Ok y) e = let q : x ≡ y = cc in ap Ok q
drawn_fixed (Ok x) (Err b) e = let z : ◌≡◌ {A = ℕ} 0 1 = cc in absurd (omega arith)
drawn_fixed (Err a) (Ok y) e = let z : ◌≡◌ {A = ℕ} 0 1 = cc in absurd (omega arith)
drawn_fixed (Err a) (Err b) e =
    let n : no_of a.why ≡ no_of b.why = cc in
    let w : a.why ≡ b.why = no_once a.why b.why n in
    let m : part_no a.part ≡ part_no b.part = cc in
    let t : a.part ≡ b.part = part_once a.part b.part m in
    let i : a.item ≡ b.item = cc in
    let s : a.running ≡ b.running = cc in
    ap Err
    (ap (λ (at : Part). draw_refused at a.why a.item a.running) t ∙ ap (λ (why : Refusal). draw_refused b.part why a.item a.running) w
    ∙ ap (λ (n : ℕ). draw_refused b.part b.why n a.running) i ∙ ap (draw_refused b.part b.why b.item) s)

abbrev recount_refused : Refusal → ℕ → ℕ → RecountRefused
recount_refused why i m = record { why = why; item = i; made = m }

pub recounted_fixed : (r s : Result ℕ RecountRefused) → recounted_told r ≡ recounted_told s → r ≡ s
recounted_fixed (Ok x) (Ok y) e = let q : x ≡ y = cc in ap Ok q
recounted_fixed (Ok x) (Err b) e = let z : ◌≡◌ {A = ℕ} 0 1 = cc in absurd (omega arith)
recounted_fixed (Err a) (Ok y) e = let z : ◌≡◌ {A = ℕ} 0 1 = cc in absurd (omega arith)
recounted_fixed (Err a) (Err b) e =
    let n : no_of a.why ≡ no_of b.why = cc in
    let w : a.why ≡ b.why = no_once a.why b.why n in
    let i : a.item ≡ b.item = cc in
    let m : a.made ≡ b.made = cc in
    ap Err (ap (λ (why : Refusal). recount_refused why a.item a.made) w ∙ ap (λ (n : ℕ). recount_refused b.why n a.made) i ∙ ap (recount_refused b.why b.item) m)

pub boxed_fixed : (r s : Result ℕ E.Refused) → boxed_told r ≡ boxed_told s → r ≡ s
boxed_fixed (Ok x) (Ok y) e = let q : x ≡ y = cc in ap Ok q
boxed_fixed (Ok x) (Err b) e = let z : ◌≡◌ {A = ℕ} 0 1 = cc in absurd (omega arith)
boxed_fixed (Err a) (Ok y) e = let z : ◌≡◌ {A = ℕ} 0 1 = cc in absurd (omega arith)
boxed_fixed (Err a) (Err b) e =
    let n : no_of a.why ≡ no_of b.why = cc in
    let w : a.why ≡ b.why = no_once a.why b.why n in
    let i : a.item ≡ b.item = cc in
    ap Err (ap (λ (why : Refusal). refused_at why a.item) w ∙ ap (refused_at b.why) i)

pub measured_fixed : (r s : Result Room E.Refused) → measured_told r ≡ measured_told s → r ≡ s
measured_fixed (Ok x) (Ok y) e = let q : x ≡ y = cc in ap Ok q
measured_fixed (Ok x) (Err b) e = let z : ◌≡◌ {A = ℕ} 0 1 = cc in absurd (omega arith)
measured_fixed (Err a) (Ok y) e = let z : ◌≡◌ {A = ℕ} 0 1 = cc in absurd (omega arith)
measured_fixed (Err a) (Err b) e =
    let n : no_of a.why ≡ no_of b.why = cc in
    let w : a.why ≡ b.why = no_once a.why b.why n in
    let i : a.item ≡ b.item = cc in
    ap Err (ap (λ (why : Refusal). refused_at why a.item) w ∙ ap (refused_at b.why) i)

-- a table's entry at fault, and that all is right
pub found_fixed : (x y : Option Fault) → checked_told (Ok x) ≡ checked_told (Ok y) → x ≡ y
found_fixed None None e = refl
found_fixed None (Some (Fault.Reference m)) e = let z : ◌≡◌ {A = ℕ} 0 1 = cc in absurd (omega arith)
found_fixed (Some (Fault.Reference n)) None e = let z : ◌≡◌ {A = ℕ} 0 1 = cc in absurd (omega arith)
found_fixed (Some (Fault.Reference n)) (Some (Fault.Reference m)) e = let q : n ≡ m = cc in cc
found_fixed (Some (Fault.Reference n)) (Some (Fault.Count m)) e = let z : ◌≡◌ {A = ℕ} 0 1 = cc in absurd (omega arith)
found_fixed (Some (Fault.Reference n)) (Some (Fault.Backdrop m)) e = let z : ◌≡◌ {A = ℕ} 0 1 = cc in absurd (omega arith)
found_fixed (Some (Fault.Reference n)) (Some (Fault.Slots m)) e = let z : ◌≡◌ {A = ℕ} 0 1 = cc in absurd (omega arith)
found_fixed None (Some (Fault.Count m)) e = let z : ◌≡◌ {A = ℕ} 0 1 = cc in absurd (omega arith)
found_fixed (Some (Fault.Count n)) None e = let z : ◌≡◌ {A = ℕ} 0 1 = cc in absurd (omega arith)
found_fixed (Some (Fault.Count n)) (Some (Fault.Reference m)) e = let z : ◌≡◌ {A = ℕ} 0 1 = cc in absurd (omega arith)
found_fixed (Some (Fault.Count n)) (Some (Fault.Count m)) e = let q : n ≡ m = cc in cc
found_fixed (Some (Fault.Count n)) (Some (Fault.Backdrop m)) e = let z : ◌≡◌ {A = ℕ} 0 1 = cc in absurd (omega arith)
found_fixed (Some (Fault.Count n)) (Some (Fault.Slots m)) e = let z : ◌≡◌ {A = ℕ} 0 1 = cc in absurd (omega arith)
found_fixed None (Some (Fault.Backdrop m)) e = let z : ◌≡◌ {A = ℕ} 0 1 = cc in absurd (omega arith)
found_fixed (Some (Fault.Backdrop n)) None e = let z : ◌≡◌ {A = ℕ} 0 1 = cc in absurd (omega arith)
found_fixed (Some (Fault.Backdrop n)) (Some (Fault.Reference m)) e = let z : ◌≡◌ {A = ℕ} 0 1 = cc in absurd (omega arith)
found_fixed (Some (Fault.Backdrop n)) (Some (Fault.Count m)) e = let z : ◌≡◌ {A = ℕ} 0 1 = cc in absurd (omega arith)
found_fixed (Some (Fault.Backdrop n)) (Some (Fault.Backdrop m)) e = let q : n ≡ m = cc in cc
found_fixed (Some (Fault.Backdrop n)) (Some (Fault.Slots m)) e = let z : ◌≡◌ {A = ℕ} 0 1 = cc in absurd (omega arith)
found_fixed None (Some (Fault.Slots m)) e = let z : ◌≡◌ {A = ℕ} 0 1 = cc in absurd (omega arith)
found_fixed (Some (Fault.Slots n)) None e = let z : ◌≡◌ {A = ℕ} 0 1 = cc in absurd (omega arith)
found_fixed (Some (Fault.Slots n)) (Some (Fault.Reference m)) e = let z : ◌≡◌ {A = ℕ} 0 1 = cc in absurd (omega arith)
found_fixed (Some (Fault.Slots n)) (Some (Fault.Count m)) e = let z : ◌≡◌ {A = ℕ} 0 1 = cc in absurd (omega arith)
found_fixed (Some (Fault.Slots n)) (Some (Fault.Backdrop m)) e = let z : ◌≡◌ {A = ℕ} 0 1 = cc in absurd (omega arith)
found_fixed (Some (Fault.Slots n)) (Some (Fault.Slots m)) e = let q : n ≡ m = cc in cc

apart : (x : Option Fault) (b : E.Refused) → checked_told (Ok x) ≡ checked_told (Err b) → ⊥
apart None b e = let z : ◌≡◌ {A = ℕ} 0 1 = cc in absurd (omega arith)
apart (Some (Fault.Reference n)) b e = let z : ◌≡◌ {A = ℕ} 0 1 = cc in absurd (omega arith)
apart (Some (Fault.Count n)) b e = let z : ◌≡◌ {A = ℕ} 0 1 = cc in absurd (omega arith)
apart (Some (Fault.Backdrop n)) b e = let z : ◌≡◌ {A = ℕ} 0 1 = cc in absurd (omega arith)
apart (Some (Fault.Slots n)) b e = let z : ◌≡◌ {A = ℕ} 0 1 = cc in absurd (omega arith)

pub checked_fixed : (r s : Result (Option Fault) E.Refused) → checked_told r ≡ checked_told s → r ≡ s
checked_fixed (Ok x) (Ok y) e = ap Ok (found_fixed x y e)
checked_fixed (Ok x) (Err b) e = absurd (apart x b e)
checked_fixed (Err a) (Ok y) e = absurd (apart y a (sym e))
checked_fixed (Err a) (Err b) e =
    let n : no_of a.why ≡ no_of b.why = cc in
    let w : a.why ≡ b.why = no_once a.why b.why n in
    let i : a.item ≡ b.item = cc in
    ap Err (ap (λ (why : Refusal). refused_at why a.item) w ∙ ap (refused_at b.why) i)

pub covered_fixed : (r s : Result Float Refusal) → covered_told r ≡ covered_told s → r ≡ s
covered_fixed (Ok x) (Ok y) e = let q : x ≡ y = cc in ap Ok q
covered_fixed (Ok x) (Err b) e = let z : ◌≡◌ {A = ℕ} 0 1 = cc in absurd (omega arith)
covered_fixed (Err a) (Ok y) e = let z : ◌≡◌ {A = ℕ} 0 1 = cc in absurd (omega arith)
covered_fixed (Err a) (Err b) e = let n : no_of a ≡ no_of b = cc in ap Err (no_once a b n)

pub coloured_fixed : (r s : Result ℕ Refusal) → coloured_told r ≡ coloured_told s → r ≡ s
coloured_fixed (Ok x) (Ok y) e = let q : x ≡ y = cc in ap Ok q
coloured_fixed (Ok x) (Err b) e = let z : ◌≡◌ {A = ℕ} 0 1 = cc in absurd (omega arith)
coloured_fixed (Err a) (Ok y) e = let z : ◌≡◌ {A = ℕ} 0 1 = cc in absurd (omega arith)
coloured_fixed (Err a) (Err b) e = let n : no_of a ≡ no_of b = cc in ap Err (no_once a b n)

pub written_fixed : (r s : Result ℕ Refusal) → written_told r ≡ written_told s → r ≡ s
written_fixed (Ok x) (Ok y) e = let q : x ≡ y = cc in ap Ok q
written_fixed (Ok x) (Err b) e = let z : ◌≡◌ {A = ℕ} 0 1 = cc in absurd (omega arith)
written_fixed (Err a) (Ok y) e = let z : ◌≡◌ {A = ℕ} 0 1 = cc in absurd (omega arith)
written_fixed (Err a) (Err b) e = let n : no_of a ≡ no_of b = cc in ap Err (no_once a b n)

pub read_fixed : (r s : Result (ℕ × ℕ) Refusal) → Read.answer_told r ≡ Read.answer_told s → r ≡ s
read_fixed (Ok x) (Ok y) e = let u : x.0 ≡ y.0 = cc in let v : x.1 ≡ y.1 = cc in ap Ok (ap (λ (n : ℕ). (n, x.1)) u ∙ ap (λ (n : ℕ). (y.0, n)) v)
read_fixed (Ok x) (Err b) e = let z : ◌≡◌ {A = ℕ} 0 1 = cc in absurd (omega arith)
read_fixed (Err a) (Ok y) e = let z : ◌≡◌ {A = ℕ} 0 1 = cc in absurd (omega arith)
read_fixed (Err a) (Err b) e = let n : no_of a ≡ no_of b = cc in ap Err (no_once a b n)

abbrev text_refused : Refusal → ℕ → TextRefused
text_refused why at = record { why = why; at = at }

pub svg_fixed : (r s : Result ℕ TextRefused) → Svg.answer_told r ≡ Svg.answer_told s → r ≡ s
svg_fixed (Ok x) (Ok y) e = let q : x ≡ y = cc in ap Ok q
svg_fixed (Ok x) (Err b) e = let z : ◌≡◌ {A = ℕ} 0 1 = cc in absurd (omega arith)
svg_fixed (Err a) (Ok y) e = let z : ◌≡◌ {A = ℕ} 0 1 = cc in absurd (omega arith)
svg_fixed (Err a) (Err b) e =
    let n : no_of a.why ≡ no_of b.why = cc in
    let w : a.why ≡ b.why = no_once a.why b.why n in
    let p : a.at ≡ b.at = cc in
    ap Err (ap (λ (why : Refusal). text_refused why a.at) w ∙ ap (text_refused b.why) p)

-- a refusal's number is none of those that refuse nothing
named : (a : Refusal) → 0 < no_of a
named Refusal.NotWhole = omega arith
named Refusal.TooMany = omega arith
named Refusal.BadBox = omega arith
named Refusal.BadRange = omega arith
named Refusal.LineNumber = omega arith
named Refusal.Coordinate = omega arith
named Refusal.NoSuch = omega arith
named Refusal.CountOver = omega arith
named Refusal.NoRoom = omega arith
named Refusal.Outside = omega arith
named Refusal.SumOver = omega arith
named Refusal.Crooked = omega arith
named Refusal.PastEnd = omega arith
named Refusal.Unknown = omega arith
named Refusal.TooLong = omega arith
named Refusal.BadScreen = omega arith
named Refusal.BadSize = omega arith
named Refusal.BadFile = omega arith
named Refusal.OffTile = omega arith
named Refusal.BadSegment = omega arith
named Refusal.BadText = omega arith
named Refusal.TooDeep = omega arith
named Refusal.LeftOpen = omega arith

pub number_fixed : (r s : Result ⊤ Refusal) → number_told r ≡ number_told s → r ≡ s
number_fixed (Ok x) (Ok y) e = refl
number_fixed (Ok x) (Err b) e = absurd (omega (arith, e, named b))
number_fixed (Err a) (Ok y) e = absurd (omega (arith, e, named a))
number_fixed (Err a) (Err b) e = ap Err (no_once a b e)
