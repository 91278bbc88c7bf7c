-- What lines and paths need: one answer only of what a caller in C or Rust sees; and no cheat meets its promise. Assumes nothing.
use mathlib.Core.Path.{◌≡◌, refl, sym, ap, ◌∙◌}
use mathlib.Core.List.{List, [], ◌∷◌}
use Prim.Native.Nat.{ℕ, ◌*◌}
use native.Mathlib.Omega.{arith}
use lib.Ieee.{Float}
use Rattle.panel.specs.Paths.{boxed}
use Rattle.panel.specs.Refusals.{done_no, not_whole}
use Rattle.commands.specs.Numbers.{tile_words}
use Rattle.sizes.specs.Refs.{plan_size, line_size, lines_size, refs_of}
use Rattle.sizes.specs.Words.{tiles_of, pairs_to, words_of}
use Rattle.sizes.specs.Sizes.{call_answer, sizes_of}
use Rattle.groatpocket.specs.CallSizes.{SizesSeen, GpSizesMet}
use Rattle.theorems.specs.Starred.{floats_of}
use Rattle.theorems.proofs.StarredTable.{computing}
use Rattle.call_theorems.specs.Cheats.{Once, Shut, RefusesNo}
use Rattle.call_theorems.proofs.Cheats.{shut}

pub one_gp_sizes : (nos : List ℕ) (coords : List Float) (paths : List ℕ) (cols rows : ℕ) (r s t₁ t₂ m₁ m₂ w₁ w₂ i j : ℕ)
    → GpSizesMet nos coords paths cols rows r t₁ m₁ w₁ i → GpSizesMet nos coords paths cols rows s t₂ m₂ w₂ j
    → (r ≡ s) × (t₁ ≡ t₂) × (m₁ ≡ m₂) × (w₁ ≡ w₂) × (i ≡ j)
one_gp_sizes nos coords paths cols rows r s t₁ t₂ m₁ m₂ w₁ w₂ i j p q =
    let e = p ∙ sym q in (
      ap (λ (x : SizesSeen). x.number) e,
      ap (λ (x : SizesSeen). x.tiles) e,
      ap (λ (x : SizesSeen). x.made) e,
      ap (λ (x : SizesSeen). x.words) e,
      ap (λ (x : SizesSeen). x.item) e,
    )

-- ---- (8,8)-(8,24) over the box 0,0,2,2 and a screen of as many tiles; and paths of one word

-- the four numbers behind the pointers
abbrev SizesMemory : Type 0
SizesMemory = ℕ × ℕ × ℕ × ℕ

abbrev SizesAt : (paths : List ℕ) → ℕ → SizesMemory → Type 0
SizesAt paths r m = GpSizesMet (0 ∷ []) (floats_of (8 ∷ 8 ∷ 8 ∷ 24 ∷ [])) paths 2 2 r m.0 m.1 m.2 m.3

once_sizes : (paths : List ℕ) → Once ℕ SizesMemory (SizesAt paths)
once_sizes paths a b m n p q =
    let e = one_gp_sizes (0 ∷ []) (floats_of (8 ∷ 8 ∷ 8 ∷ 24 ∷ [])) paths 2 2 a b m.0 n.0 m.1 n.1 m.2 n.2 m.3 n.3 p q in
    (e.0, λ i. (e.1 i, e.2 i, e.3 i, e.4 i))

pub sizes_shut : Shut ℕ SizesMemory RefusesNo (SizesAt (boxed 0 0 2 2 0)) (SizesAt (0 ∷ [])) (7, 7, 7, 7)
unfolding computing sizes_of call_answer refs_of lines_size line_size plan_size tiles_of words_of pairs_to
sizes_shut =
    shut ℕ SizesMemory RefusesNo (SizesAt (boxed 0 0 2 2 0)) (SizesAt (0 ∷ [])) (7, 7, 7, 7)
    done_no not_whole (4, 2, 4 * tile_words, 0) (0, 0, 0, 0) (once_sizes (boxed 0 0 2 2 0)) (once_sizes (0 ∷ []))
    refl refl (λ h. h refl) (λ e. omega arith) (λ e. let z : ◌≡◌ {A = ℕ} 4 7 = ap (λ (m : SizesMemory). m.0) e in omega arith)
