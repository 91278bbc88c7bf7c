-- A drawing's promise leaves one answer only, and no cheat meets it. Assumes nothing.
use mathlib.Core.Path.{◌≡◌, refl, sym, ap, ◌∙◌}
use mathlib.Core.List.{List, [], ◌∷◌}
use Prim.Native.Nat.{ℕ}
use native.Mathlib.Omega.{arith}
use lib.IntN.{ℤ, pos}
use lib.Ieee.{Float}
use Rattle.panel.specs.Kinds.{running_of}
use Rattle.panel.specs.Refusals.{not_whole}
use Rattle.panel.specs.Pieces.{Pieces, pieces}
use Rattle.backdrop.specs.Backdrop.{backdrop_of, sum_paths}
use Rattle.frame.specs.Frame.{frame_of, checks_of, drawn_of, placed_of}
use Rattle.write_lists.specs.Lists.{call_answer, regions_of, answer_of, lists_of, write_lists_of}
use Rattle.paint.specs.Paint.{paper_of, painted_of}
use Rattle.paint.specs.Drawn.{Drawn, Done, Refused}
use Rattle.draw.specs.Draw.{Out, lent_no, framed_of, draw_of, DrawMet}
use Rattle.theorems.proofs.StarredTable.{computing}
use Rattle.call_theorems.specs.Cheats.{Once, Shut}
use Rattle.call_theorems.proofs.Cheats.{shut, apart}

drawn_once : (a b : Drawn) → paper_of a ≡ paper_of b → a ≡ b
drawn_once (Done r) (Done s) e =
    let p : r.lines ≡ s.lines = cc in
    let q : r.refs ≡ s.refs = cc in
    λ i. Done (record { lines = p i; refs = q i })
drawn_once (Done r) (Refused at n item s) e = let z : ◌≡◌ {A = ℕ} 0 1 = cc in absurd (omega arith)
drawn_once (Refused at n item r) (Done s) e = let z : ◌≡◌ {A = ℕ} 0 1 = cc in absurd (omega arith)
drawn_once (Refused at n item r) (Refused by m other s) e =
    let a : n ≡ m = cc in
    let t : at ≡ by = cc in
    let b : item ≡ other = cc in
    let p : r.lines ≡ s.lines = cc in
    let q : r.refs ≡ s.refs = cc in
    λ i. Refused (t i) (a i) (b i) (record { lines = p i; refs = q i })

-- all that was lent to be changed
abbrev DrawMemory : Type 0
DrawMemory = List ℤ × List ℕ × List ℕ × List ℕ × Pieces × List ℕ × List ℕ

pub one_draw : (nos : List ℕ) (coords : List Float) (paths paints : List ℕ) (bs : List ℤ) (ts ks rs : List ℕ) (sg : Pieces) (width cols rows : ℕ) (ws px : List ℕ)
    → Once Drawn DrawMemory (λ a m. DrawMet nos coords paths paints bs ts ks rs sg width cols rows ws px a m.0 m.1 m.2 m.3 m.4 m.5 m.6)
one_draw nos coords paths paints bs ts ks rs sg width cols rows ws px a b m n p q =
    let e = p ∙ sym q in (
      drawn_once a b (ap (λ (o : Out). o.paper) e),
      ap (λ (o : Out). (o.backs, o.stored, o.tally, o.refs, o.pieces, o.words, o.pixels)) e,
    )

-- no line and no path over one tile, which is cleared, and a screen of no tile; and a tally too short

abbrev no_slot : Pieces
no_slot = pieces [] []

abbrev DrawAt : (ks : List ℕ) → Drawn → DrawMemory → Type 0
DrawAt ks a m = DrawMet [] [] [] [] (pos 5 ∷ []) (3 ∷ []) ks [] no_slot 0 0 0 [] [] a m.0 m.1 m.2 m.3 m.4 m.5 m.6

abbrev Refuses : Drawn → Type 0
Refuses (Done s) = ⊥
Refuses (Refused at n item s) = Unit {0}

abbrev lent : DrawMemory
lent = (pos 5 ∷ [], 3 ∷ [], 8 ∷ [], [], no_slot, [], [])

abbrev short : DrawMemory
short = (pos 5 ∷ [], 3 ∷ [], [], [], no_slot, [], [])

abbrev after : DrawMemory
after = (pos 0 ∷ [], 0 ∷ [], 0 ∷ [], [], no_slot, [], [])

pub draw_shut : Shut Drawn DrawMemory Refuses (DrawAt (8 ∷ [])) (DrawAt []) lent
unfolding computing draw_of framed_of painted_of frame_of checks_of drawn_of placed_of backdrop_of sum_paths call_answer regions_of answer_of lists_of write_lists_of
draw_shut =
    shut Drawn DrawMemory Refuses (DrawAt (8 ∷ [])) (DrawAt []) lent (Done (running_of 0 0)) (Refused lent_no not_whole 0 (running_of 0 0)) after short
    (one_draw [] [] [] [] (pos 5 ∷ []) (3 ∷ []) (8 ∷ []) [] no_slot 0 0 0 [] []) (one_draw [] [] [] [] (pos 5 ∷ []) (3 ∷ []) [] [] no_slot 0 0 0 [] [])
    refl refl (λ h. h) tt (λ e. apart (0 ∷ []) (3 ∷ []) 0 (λ z. omega arith) (ap (λ (m : DrawMemory). m.1) e))
