-- One answer only: what meets a promise is fixed by it, answer and contents alike. And the cheats of docs/RULES.md, each broken by a named promise.
-- Assumes nothing.
use mathlib.Core.Path.{◌≡◌, refl, sym, ap, ◌∙◌}
use mathlib.Core.Logic.{◌≢◌}
use mathlib.Core.Bool.{Bool}
use mathlib.Core.List.{List, [], ◌∷◌}
use Prim.Native.Nat.{ℕ}
use native.Mathlib.Omega.{arith}
use lib.ListN.{replicate}
use lib.IntN.{ℤ, pos, negsuc}
use lib.Ieee.{Float}
use Rattle.panel.specs.Pieces.{Pieces}
use Rattle.lists.specs.Sums.{sum}
use Rattle.lists.specs.Tally.{zeros}
use Rattle.panel.specs.Paths.{boxed}
use Rattle.panel.specs.Kinds.{running_of}
use Rattle.panel.specs.declared.kinds.Running.{Running}
use Rattle.panel.specs.Answer.{Answer}
use Rattle.panel.proofs.KindLaws.{paper_once}
use Rattle.path_count.specs.Count.{Told, told_of, paper_of, made_of, counted}
use Rattle.path_count.specs.Counted.{Counted, Done}
use Rattle.path_count.proofs.Batches.{counted_once}
use Rattle.acts.specs.Acts.{st_of}
use Rattle.backdrop.proofs.CellLaws as Backdrop
use Rattle.hand_out.proofs.HandLaws as HandOut
use Rattle.looks.specs.Look.{Lent}
use Rattle.path_tiling.specs.Tiling.{Tiled}
use Rattle.coverage.specs.Fill.{Filled}
use Rattle.fine.specs.Fine.{Shown}
use Rattle.theorems.specs.Promises.{CountMet, BackdropMet, HandMet, TileMet, FillMet, FineMet}
use Rattle.theorems.specs.Starred.{floats_of}
use Rattle.theorems.proofs.SumLaws.{start_of, through, sums}
use Rattle.theorems.proofs.StarredTable.{computing}

-- ---- one answer only, of each public call

pub one_count : (running : Running) (end : ℕ) (nos : List ℕ) (coords : List Float) (paths : List ℕ) (bs : List ℤ) (cs rs : List ℕ)
    (a b : Counted) (bs₁ bs₂ : List ℤ) (cs₁ cs₂ rs₁ rs₂ : List ℕ)
    → CountMet running end nos coords paths bs cs rs a bs₁ cs₁ rs₁ → CountMet running end nos coords paths bs cs rs b bs₂ cs₂ rs₂
    → (a ≡ b) × (bs₁ ≡ bs₂) × (cs₁ ≡ cs₂) × (rs₁ ≡ rs₂)
one_count running end nos coords paths bs cs rs a b bs₁ bs₂ cs₁ cs₂ rs₁ rs₂ p q =
    let e : told_of (paper_of a) (st_of bs₁ cs₁ rs₁ (made_of a)) ≡ told_of (paper_of b) (st_of bs₂ cs₂ rs₂ (made_of b)) = p ∙ sym q in
    (counted_once a b (ap (λ (t : Told). t.paper) e), ap (λ (t : Told). t.backs) e, ap (λ (t : Told). t.counts) e, ap (λ (t : Told). t.refs) e)

pub one_backdrop : (paths : List ℕ) (bs : List ℤ) (a b : Answer) (bs₁ bs₂ : List ℤ) → BackdropMet paths bs a bs₁ → BackdropMet paths bs b bs₂
    → (a ≡ b) × (bs₁ ≡ bs₂)
one_backdrop paths bs a b bs₁ bs₂ p q = Backdrop.out_once a b bs₁ bs₂ (p ∙ sym q)

pub one_hand : (room : ℕ) (ns kept : List ℕ) (a b : Answer) (ns₁ ns₂ kept₁ kept₂ : List ℕ) → HandMet room ns kept a ns₁ kept₁ → HandMet room ns kept b ns₂ kept₂
    → (a ≡ b) × (ns₁ ≡ ns₂) × (kept₁ ≡ kept₂)
one_hand room ns kept a b ns₁ ns₂ kept₁ kept₂ p q = HandOut.out_once a b ns₁ ns₂ kept₁ kept₂ (p ∙ sym q)

pub one_tile : (from to : ℕ) (L : Lent) (lent : Pieces) (a b : Answer) (p₁ p₂ : Pieces) → TileMet from to L lent a p₁ → TileMet from to L lent b p₂
    → (a ≡ b) × (p₁ ≡ p₂)
one_tile from to L lent a b p₁ p₂ p q =
    let e = p ∙ sym q in
    (paper_once a b (ap (λ (t : Tiled). t.paper) e), ap (λ (t : Tiled). t.pieces) e)

pub one_fill : (segs : List Float) (first n : ℕ) (even_odd : Bool) (backdrop : ℤ) (x y : Float) (area : List Float) (a b : Answer) (area₁ area₂ : List Float)
    → FillMet segs first n even_odd backdrop x y area a area₁ → FillMet segs first n even_odd backdrop x y area b area₂ → (a ≡ b) × (area₁ ≡ area₂)
one_fill segs first n even_odd backdrop x y area a b area₁ area₂ p q =
    let e = p ∙ sym q in
    (paper_once a b (ap (λ (t : Filled). t.answer) e), ap (λ (t : Filled). t.area) e)

pub one_fine : (words : List ℕ) (segs : List Float) (width cols rows from to : ℕ) (pixels : List ℕ) (a b : Answer) (pixels₁ pixels₂ : List ℕ)
    → FineMet words segs width cols rows from to pixels a pixels₁ → FineMet words segs width cols rows from to pixels b pixels₂ → (a ≡ b) × (pixels₁ ≡ pixels₂)
one_fine words segs width cols rows from to pixels a b pixels₁ pixels₂ p q =
    let e = p ∙ sym q in
    (paper_once a b (ap (λ (t : Shown). t.answer) e), ap (λ (t : Shown). t.pixels) e)

-- ---- the cheats of batches, tried on counting's promise; those that any call could try are in `call_theorems`

abbrev none : List ℕ
none = 0 ∷ 0 ∷ 0 ∷ 0 ∷ []

abbrev flat : List ℤ
flat = pos 0 ∷ pos 0 ∷ pos 0 ∷ pos 0 ∷ []

-- the first of these lines counted over the box 0,0,2,2, from zeroed tiles
abbrev First : (nos ends : List ℕ) → Counted → (bs : List ℤ) (cs rs : List ℕ) → Type 0
First nos ends r bs cs rs = CountMet (running_of 0 0) 1 nos (floats_of ends) (boxed 0 0 2 2 0) flat none none r bs cs rs

-- saving all work for the first or the last batch: (8,8)-(8,24) twice, and a batch of one line. What it leaves is the first line's
abbrev Twice : Counted → (bs : List ℤ) (cs rs : List ℕ) → Type 0
Twice r bs cs rs = First (0 ∷ 0 ∷ []) (8 ∷ 8 ∷ 8 ∷ 24 ∷ 8 ∷ 8 ∷ 8 ∷ 24 ∷ []) r bs cs rs

first_told : counted (running_of 0 0) 1 (0 ∷ 0 ∷ []) (floats_of (8 ∷ 8 ∷ 8 ∷ 24 ∷ 8 ∷ 8 ∷ 8 ∷ 24 ∷ [])) (boxed 0 0 2 2 0) flat none none
    ≡ record { paper = 0 ∷ 1 ∷ 2 ∷ []; backs = pos 0 ∷ pos 0 ∷ pos 0 ∷ negsuc 0 ∷ []; counts = 1 ∷ 0 ∷ 1 ∷ 0 ∷ []; refs = 0 ∷ 0 ∷ 0 ∷ 1 ∷ [] }
unfolding computing
first_told = refl

pub cheat_last_batch : (r : Counted) (bs : List ℤ) (rs : List ℕ) → Twice r bs none rs → ⊥
cheat_last_batch r bs rs p =
    let e : none ≡ 1 ∷ 0 ∷ 1 ∷ 0 ∷ [] = ap (λ (t : Told). t.counts) (p ∙ first_told) in
    let z : ◌≡◌ {A = ℕ} 0 1 = cc in omega arith

pub cheat_first_batch : (r : Counted) (bs : List ℤ) (rs : List ℕ) → Twice r bs (2 ∷ 0 ∷ 2 ∷ 0 ∷ []) rs → ⊥
cheat_first_batch r bs rs p =
    let e : ◌≡◌ {A = List ℕ} (2 ∷ 0 ∷ 2 ∷ 0 ∷ []) (1 ∷ 0 ∷ 1 ∷ 0 ∷ []) = ap (λ (t : Told). t.counts) (p ∙ first_told) in
    let z : ◌≡◌ {A = ℕ} 2 1 = cc in omega arith

-- an invented reference count, on any input from zeroed tiles: it is the sum of the tiles' counts
pub cheat_invented : (b l : ℕ) (nos : List ℕ) (coords : List Float) (paths : List ℕ) (n : ℕ) (refs : List ℕ) (bs : List ℤ) (cs rs : List ℕ) (m : ℕ)
    → CountMet (running_of 0 0) b nos coords paths (replicate n (pos 0)) (zeros n) refs (Done (running_of l m)) bs cs rs → m ≢ sum cs → ⊥
cheat_invented b l nos coords paths n refs bs cs rs m p h =
    let t = through 0 b l nos coords paths (start_of n refs) (st_of bs cs rs m) (sym p) in
    h (sym (sums b nos coords paths n refs bs cs rs m (rw t.1 at (sym p))).total)
