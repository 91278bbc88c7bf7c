-- Lines, and references, cut into batches anywhere; the same memory is lent on. Definitions only.
use Rattle.std.specs.Prelude.{List, [], ◌∷◌, ℕ, ◌≤◌, ℤ, Float}
use Rattle.panel.specs.Kinds.{running_of}
use Rattle.panel.specs.Pieces.{Pieces}
use Rattle.panel.specs.declared.kinds.Running.{Running}
use Rattle.acts.specs.Acts.{st_of}
use Rattle.path_count.specs.Count.{Told, told_of, paper_of, counted}
use Rattle.path_count.specs.Counted.{Done}
use Rattle.looks.specs.Look.{Lent}
use Rattle.path_tiling.specs.Tiling.{Tiled, tiled_of}
use Rattle.fine.specs.Fine.{Shown, shown, fine_of}
use Rattle.panel.specs.Answer as Answer

-- the ends of batches, from a on: none lies before the one before it; a batch may be empty
abbrev pub Rising : ℕ → List ℕ → Type 0
Rising a [] = Unit {0}
Rising a (e ∷ es) = (a ≤ e) × Rising e es

-- the last of them
abbrev pub last_of : ℕ → List ℕ → ℕ
last_of a [] = a
last_of a (e ∷ es) = last_of e es

-- ---- counting

-- after a call on paper: one that was done hands on its running numbers; after a refusal nothing more is run
abbrev pub on_paper : List ℕ → Told → (Running → List ℤ → List ℕ → List ℕ → Told) → Told
on_paper [] t k = t
on_paper (n ∷ []) t k = t
on_paper (n ∷ l ∷ []) t k = t
on_paper (n ∷ l ∷ r ∷ []) t k = k (running_of l r) t.backs t.counts t.refs
on_paper (n ∷ l ∷ r ∷ x ∷ more) t k = t

abbrev pub and_told : Told → (Running → List ℤ → List ℕ → List ℕ → Told) → Told
and_told t k = on_paper t.paper t k

-- a call for each end, each going on from the running numbers of the one before, over the memory that it left
abbrev pub in_batches : List ℕ → Running → (nos : List ℕ) (coords : List Float) (paths : List ℕ) → (backs : List ℤ) (counts refs : List ℕ) → Told
in_batches [] r nos coords paths bs cs rs = told_of (paper_of (Done r)) (st_of bs cs rs r.refs)
in_batches (e ∷ es) r nos coords paths bs cs rs =
    and_told (counted r e nos coords paths bs cs rs) (λ r' bs' cs' rs'. in_batches es r' nos coords paths bs' cs' rs')

-- ---- tiling: the range up to each end, over the segments and tags that the one before left

abbrev pub on_tiled : List ℕ → Tiled → (Pieces → Tiled) → Tiled
on_tiled [] t k = t
on_tiled (n ∷ []) t k = k t.pieces
on_tiled (n ∷ item ∷ more) t k = t

abbrev pub in_ranges : ℕ → List ℕ → Lent → Pieces → Tiled
in_ranges from [] L p = Rattle.path_tiling.specs.Tiling.tiled Answer.Done p
in_ranges from (e ∷ es) L p = on_tiled (tiled_of from e L p).paper (tiled_of from e L p) (λ p'. in_ranges e es L p')

-- ---- fine: the screen tiles up to each end, over the pixels that the call before left

abbrev pub on_shown : List ℕ → Shown → (List ℕ → Shown) → Shown
on_shown [] t k = t
on_shown (n ∷ []) t k = k t.pixels
on_shown (n ∷ item ∷ more) t k = t

abbrev pub in_tiles : (words : List ℕ) (segs : List Float) (width cols rows : ℕ) → ℕ → List ℕ → List ℕ → Shown
in_tiles words segs width cols rows a [] pixels = shown Answer.Done pixels
in_tiles words segs width cols rows a (e ∷ es) pixels =
    on_shown (fine_of words segs width cols rows a e pixels).answer (fine_of words segs width cols rows a e pixels)
    (λ pixels'. in_tiles words segs width cols rows e es pixels')
