-- What the parts of counting tell each other of a walk's steps: that its tiles are lent, and the words noted for the write. Only proofs lean on
-- this: no promise of a public call does. Definitions only.
use Rattle.std.specs.Prelude.{◌≡◌, List, ℕ, ◌+◌, ◌-◌, ◌≤◌, ◌<◌, get_or}
use Rattle.panel.specs.Limits.{most_tiles}
use Rattle.panel.specs.Paths.{end_of}
use Rattle.panel.specs.declared.kinds.Path.{Path}
use Rattle.walk.specs.Step.{Boxed}
use Rattle.strides.specs.Words.{word_tile, word_marks, word_next}
use Rattle.acts.specs.Acts.{Hit, on}

-- a path's tiles are among those lent: so many backdrops, so many counts
pub record OnTiles (b : Path) (backs counts : ℕ) : Type 0 where
  pub boxed : Boxed b
  pub within : end_of b ≤ counts
  pub paired : backs ≡ counts
  pub few : counts ≤ most_tiles

-- ---- what the check notes of a step for the write: its word

-- where the step of a word falls
abbrev pub hit_by : ℕ → Hit
hit_by k = on (word_tile k) (word_marks k)

-- the word says where a step falls, and that tile and the one it marks are among those lent
pub record Told (h : Hit) (k tiles : ℕ) : Type 0 where
  pub falls : h ≡ hit_by k
  pub below : word_next k < tiles

-- the first n words are those of the steps from step a on
abbrev pub Notes : (ℕ → Hit) → (a n : ℕ) → List ℕ → ℕ → Type 0
Notes f a n ks tiles = (j : ℕ) → j < n → Told (f (a + j)) (get_or ks j 0) tiles

-- where step i falls, by the words of the steps from step a on
abbrev pub hits_by : List ℕ → (a i : ℕ) → Hit
hits_by ks a i = hit_by (get_or ks (i - a) 0)

-- so many steps are noted at most
abbrev pub note_words : ℕ
note_words = 256
