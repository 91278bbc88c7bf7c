-- The ways in which a check of another's tables ends: each has its answer, its ground in the words of docs/RULES.md, and what is left in the working
-- room. The call's promise is met where one of them holds, and nowhere else. Definitions only.
use Rattle.std.specs.Prelude.{◌≡◌, Bool, true, false, List, ℕ, ◌≤◌, ◌<◌, min, length, ℤ, Float}
use Rattle.lists.specs.Run.{done}
use Rattle.panel.specs.Limits.{most_slots}
use Rattle.panel.specs.Refusals.{no_room_word}
use Rattle.panel.specs.Checks.{Check, first_no}
use Rattle.panel.specs.Paths.{paths_answer}
use Rattle.panel.specs.Answer as Answer
use Rattle.panel.specs.Verdict.{Fine}
use Rattle.acts.specs.Acts.{St}
use Rattle.made.specs.MadeAt.{Made}
use Rattle.made.specs.Made.{made_of}
use Rattle.entries.specs.Entries.{count_fault, slot_fault}
use Rattle.own_count.specs.Own.{own_to, own_ran}
use Rattle.tile_check.specs.Faults.{ref_count, ref_fault, back_fault}
use Rattle.tile_check.specs.Tables.{lent_checks, work_words, cleared}
use Rattle.tile_check.specs.Checked.{Checked, Yes, Reference, Count, Backdrop, Slots, Refused}
use Rattle.theorems.specs.Refusing.{RowWhy, PathsWhy, LineWhy}

-- ---- the tables

-- entry j is the first of n at fault
pub record FirstAt (fault : ℕ → Bool) (n j : ℕ) : Type 0 where
  pub inside : j < n
  pub at_fault : fault j ≡ true
  pub before : (i : ℕ) → i < j → fault i ≡ false

-- none of n is
abbrev pub NoneAt : (ℕ → Bool) → ℕ → Type 0
NoneAt fault n = (i : ℕ) → i < n → fault i ≡ false

-- the faults of each table beside what our own count left, and how many entries it has
module _ (made : ℕ → ℕ → Made) (ours : St) (refs counts : List ℕ) (backs : List ℤ) (stored : List ℕ) (room : ℕ) where
  abbrev pub ref_faults : ℕ → Bool
  ref_faults = ref_fault made ours.counts refs

  abbrev pub count_faults : ℕ → Bool
  count_faults = count_fault counts ours.counts

  abbrev pub back_faults : ℕ → Bool
  back_faults = back_fault backs ours.backs

  abbrev pub slot_faults : ℕ → Bool
  slot_faults = slot_fault (min room most_slots) counts stored

  -- no entry of any table is at fault
  pub record NoFault : Type 0 where
    pub of_refs : NoneAt ref_faults (ref_count refs)
    pub of_counts : NoneAt count_faults (length counts)
    pub of_backs : NoneAt back_faults (length backs)
    pub of_slots : NoneAt slot_faults (length counts)

  pub data TablesWay (x : Checked) : Type 0 where
    -- the first reference at fault
    reference : (j : ℕ) → x ≡ Reference j → FirstAt ref_faults (ref_count refs) j → TablesWay x
    -- where none is, the first count
    count : (t : ℕ) → x ≡ Count t → NoneAt ref_faults (ref_count refs) → FirstAt count_faults (length counts) t → TablesWay x
    -- where none is either, the first backdrop
    backdrop : (t : ℕ) → x ≡ Backdrop t → NoneAt ref_faults (ref_count refs) → NoneAt count_faults (length counts) → FirstAt back_faults (length backs) t → TablesWay x
    -- where none is either, the first tile whose slots are at fault
    slots : (t : ℕ) → x ≡ Slots t → NoneAt ref_faults (ref_count refs) → NoneAt count_faults (length counts) → NoneAt back_faults (length backs)
        → FirstAt slot_faults (length counts) t → TablesWay x
    -- no entry is at fault, and there are fewer references than our lines make: the place after the last
    missing : x ≡ Reference (ref_count refs) → NoFault → ref_count refs < ours.made → TablesWay x
    -- no entry is at fault, and none is missing
    fine : x ≡ Yes → NoFault → ours.made ≤ ref_count refs → TablesWay x

-- ---- the call

module _ (nos : List ℕ) (coords : List Float) (paths refs counts : List ℕ) (backs : List ℤ) (stored : List ℕ) (room : ℕ) (work : List ℕ) where
  -- what is asked of the lengths lent
  abbrev pub lent_row : List Check
  lent_row = lent_checks (length nos) (length coords) (length refs) (length counts) (length backs) (length stored)

  -- so many words of working room
  abbrev pub asked : ℕ
  asked = work_words (length counts) (length nos) (ref_count refs)

  -- 1 of a length; 1 to 4 of the paths; 9 where the working room is too short
  pub data AskedWhy (n item : ℕ) : Type 0 where
    lengths : RowWhy n lent_row → item ≡ 0 → AskedWhy n item
    of_paths : first_no lent_row ≡ Fine → PathsWhy paths (length counts) n item → AskedWhy n item
    working : first_no lent_row ≡ Fine → paths_answer paths (length counts) ≡ Answer.Done → n ≡ no_room_word → item ≡ 0 → length work < asked → AskedWhy n item

  -- or none of these
  pub record Asked : Type 0 where
    pub whole : first_no lent_row ≡ Fine
    pub passed : paths_answer paths (length counts) ≡ Answer.Done
    pub enough : asked ≤ length work

  pub data CheckWay (x : Checked) (work' : List ℕ) : Type 0 where
    -- 1 to 4, and 9 of the working room: nothing changes
    lent_refused : (n item : ℕ) → x ≡ Refused n item → AskedWhy n item → work' ≡ work → CheckWay x work'
    -- our own count is refused at line l, the first: those before it leave u
    line_refused : (n l : ℕ) (u : St) → x ≡ Refused n l → Asked → l < length nos → own_to nos coords paths (length counts) l ≡ done u
        → LineWhy nos coords paths most_slots l u n → work' ≡ cleared asked work → CheckWay x work'
    -- our own count is done, and the tables are looked at
    looked : (ours : St) → Asked → own_ran nos coords paths (length counts) ≡ done ours
        → TablesWay (made_of nos coords paths) ours refs counts backs stored room x → work' ≡ cleared asked work → CheckWay x work'
