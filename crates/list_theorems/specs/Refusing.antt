-- When the writer says no, beyond 1 to 4: the grounds of 15 and 9, in the words of docs/RULES.md; and when a list written is refused: the ground of 20.
-- Definitions only.
use Rattle.std.specs.Prelude.{◌≡◌, ◌≢◌, ◌↔◌, ◌⊎◌, List, [], ◌∷◌, ℕ, ◌+◌, ◌*◌, ◌≤◌, ◌<◌, length, Float}
use Rattle.panel.specs.Limits.{most_slots, most_commands}
use Rattle.panel.specs.Refusals.{done_no, no_room_word, too_long_word}
use Rattle.panel.specs.Segments.{segment_at, Straight}
use Rattle.commands.specs.Numbers.{tile_words}
use Rattle.pairs.specs.Pairs.{Tables, tile_pairs}
use Rattle.lay_pairs.specs.Layout.{commands_of}
use Rattle.write_lists.specs.Lists.{regions_of, Left}
use Rattle.pairs.specs.declared.Pair.{Pair}
use Rattle.pairs.specs.declared.Pair.TheVariants.{Fill, Solid}

-- one of the list has the property
abbrev pub Some : {A : Type 0} → (A → Type 0) → List A → Type 0
Some P [] = ⊥
Some P (x ∷ xs) = P x ⊎ Some P xs

-- 15: screen tile t is the first whose list has more commands than may be, JUMPs counted and END not
pub record FirstLong (s : Tables) (cols rows t : ℕ) : Type 0 where
  pub on_screen_lem : t < cols * rows
  pub long : most_commands < commands_of (tile_pairs s cols t)
  pub earlier : (u : ℕ) → u < t → commands_of (tile_pairs s cols u) ≤ most_commands

abbrev pub AllShort : Tables → (cols rows : ℕ) → Type 0
AllShort s cols rows = (t : ℕ) → t < cols * rows → commands_of (tile_pairs s cols t) ≤ most_commands

-- 9: a FILL's slots leave the room named or run past the limit
abbrev pub SlotsOut : ℕ → Pair → Type 0
SlotsOut room (Fill count rule first backdrop colour) = (room < first + count) ⊎ (most_slots < first + count)
SlotsOut room (Solid colour) = ⊥

-- on some screen tile; or a region doesn't fit the words lent
abbrev pub NoRoom : Tables → (cols rows room lent : ℕ) → Type 0
NoRoom s cols rows room lent =
    (lent < tile_words * regions_of s cols rows)
    ⊎ ((t : ℕ) × (t < cols * rows) × Some (SlotsOut room) (tile_pairs s cols t))

-- 20: a FILL of the pair has a crooked segment, an end outside its tile or a y_edge not finite
abbrev pub CrookedPair : List Float → Pair → Type 0
CrookedPair segments (Fill count rule first backdrop colour) = (j : ℕ) × (j < count) × (Straight (segment_at segments (first + j)) → ⊥)
CrookedPair segments (Solid colour) = ⊥

-- after a call that isn't refused for 1 to 4
pub record ListsExact (s : Tables) (cols rows room : ℕ) (ws : List ℕ) (o : Left) : Type 0 where
  pub fifteen : (t : ℕ) → (o.paper ≡ too_long_word ∷ t ∷ []) ↔ FirstLong s cols rows t
  pub nine : (o.paper ≡ no_room_word ∷ 0 ∷ []) ↔ (AllShort s cols rows × NoRoom s cols rows room (length ws))
  pub none : (o.paper ≡ done_no ∷ []) ↔ (AllShort s cols rows × (NoRoom s cols rows room (length ws) → ⊥))
  -- a refusal writes no word
  pub kept : o.paper ≢ done_no ∷ [] → o.words ≡ ws
