-- A check computed: (8,8)-(8,24) over the box 0,0,2,2 makes two references, of tiles 0 and 2. The tables that our own calls make of it are answered yes, in
-- both orders; each kind of damage is named. So no answer is given always. Assumes nothing.
use mathlib.Core.Path.{◌≡◌, refl}
use mathlib.Core.List.{List, [], ◌∷◌}
use Prim.Native.Nat.{ℕ}
use lib.IntN.{ℤ, pos, negsuc}
use lib.ListN.{replicate}
use Rattle.panel.specs.Paths.{boxed}
use Rattle.panel.specs.Refusals.{not_whole}
use Rattle.panel.specs.Refs.{packed}
use Rattle.panel.specs.Slots.{not32}
use Rattle.meeting.specs.First.{first_from}
use Rattle.meeting.specs.Meeting.{meets_earlier}
use Rattle.made.specs.Made.{plan_made, made_of}
use Rattle.entries.specs.Entries.{first_count_fault, slot_fault, first_slot_fault}
use Rattle.own_count.specs.Own.{own_to}
use Rattle.tile_check.specs.Faults.{ref_fault, first_ref_fault, first_back_fault}
use Rattle.tile_check.specs.Tables.{work_words, tables_of, asked_of, looked_of, checked_of}
use Rattle.tile_check.specs.Checked.{Checked, Yes, Reference, Count, Backdrop, Slots, Refused}
use Rattle.theorems.specs.Starred.{floats_of}
use Rattle.theorems.proofs.StarredTable.{computing}

-- what is answered of these references, counts, backdrops and stored words, with room for two segments
abbrev said : (refs counts : List ℕ) (backs : List ℤ) (stored : List ℕ) → Checked
said refs counts backs stored =
    (checked_of (0 ∷ []) (floats_of (8 ∷ 8 ∷ 8 ∷ 24 ∷ [])) (boxed 0 0 2 2 0) refs counts backs stored 2 (replicate (work_words 4 1 3) 7)).answer

abbrev pub refs : List ℕ
refs = 0 ∷ 0 ∷ 0 ∷ 1 ∷ []

abbrev pub counts : List ℕ
counts = 1 ∷ 0 ∷ 1 ∷ 0 ∷ []

abbrev pub backs : List ℤ
backs = pos 0 ∷ pos 0 ∷ pos 0 ∷ negsuc 0 ∷ []

abbrev pub stored : List ℕ
stored = not32 0 ∷ 0 ∷ not32 1 ∷ 0 ∷ []

-- names all that a check computes with
unfoldable pub looking : ℕ
unfolding computing checked_of asked_of looked_of tables_of own_to made_of plan_made first_from ref_fault first_ref_fault first_count_fault first_back_fault first_slot_fault
    slot_fault meets_earlier
looking = 0

-- as our own calls leave them; in the other order; with any words where a tile has no slots; with the slots changed about
pub yes_said : said refs counts backs stored ≡ Yes
unfolding looking
yes_said = refl

pub yes_order : said (0 ∷ 1 ∷ 0 ∷ 0 ∷ []) counts backs stored ≡ Yes
unfolding looking
yes_order = refl

pub yes_stored : said refs counts backs (not32 1 ∷ 5 ∷ not32 0 ∷ not32 0 ∷ []) ≡ Yes
unfolding looking
yes_stored = refl

-- a reference twice; a step that isn't made; a slice number that reaches the count; a line that isn't there
pub no_twice : said (0 ∷ 1 ∷ 0 ∷ 1 ∷ []) counts backs stored ≡ Reference 1
unfolding looking
no_twice = refl

pub no_step : said (0 ∷ 0 ∷ 0 ∷ 2 ∷ []) counts backs stored ≡ Reference 1
unfolding looking
no_step = refl

pub no_slice : said (0 ∷ packed 1 0 ∷ 0 ∷ 1 ∷ []) counts backs stored ≡ Reference 0
unfolding looking
no_slice = refl

pub no_line : said (0 ∷ 0 ∷ 0 ∷ 1 ∷ 1 ∷ 0 ∷ []) counts backs stored ≡ Reference 2
unfolding looking
no_line = refl

-- one that is missing is named last: after a count, a backdrop or slots at fault
pub no_missing : said (0 ∷ 0 ∷ []) counts backs stored ≡ Reference 1
unfolding looking
no_missing = refl

pub no_count : said (0 ∷ 0 ∷ []) (1 ∷ 1 ∷ 1 ∷ 0 ∷ []) (replicate 4 (pos 0)) stored ≡ Count 1
unfolding looking
no_count = refl

pub no_backdrop : said (0 ∷ 0 ∷ []) counts (replicate 4 (pos 0)) (replicate 4 (not32 0)) ≡ Backdrop 3
unfolding looking
no_backdrop = refl

-- over an earlier tile's; past the room
pub no_over : said (0 ∷ 0 ∷ []) counts backs (replicate 4 (not32 0)) ≡ Slots 2
unfolding looking
no_over = refl

pub no_past : said refs counts backs (not32 2 ∷ 0 ∷ not32 1 ∷ 0 ∷ []) ≡ Slots 0
unfolding looking
no_past = refl

-- refused: a list that isn't whole
pub no_whole : said (0 ∷ []) counts backs stored ≡ Refused not_whole 0
unfolding looking
no_whole = refl
