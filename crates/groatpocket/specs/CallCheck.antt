-- What a caller sees of a check of another's tables, and the same read off what its definition leaves. Definitions only.
use Rattle.std.specs.Prelude.{ℕ, ◌≡◌, List, ℤ, Float}
use Rattle.panel.specs.Refusals.{done_no}
use Rattle.tile_check.specs.Tables as Check
use Rattle.tile_check.specs.Checked.{Checked}
use Rattle.tile_check.specs.Checked.{Yes, Reference, Count, Backdrop, Slots, Refused}

-- a yes and a no are no refusal
abbrev pub number_on : Checked → ℕ
number_on Yes = done_no
number_on (Reference j) = done_no
number_on (Count t) = done_no
number_on (Backdrop t) = done_no
number_on (Slots t) = done_no
number_on (Refused n item) = n

-- what was found: nothing where it is refused; yes; or the table that is at fault
abbrev pub found_on : Checked → ℕ
found_on (Refused n item) = 0
found_on Yes = 1
found_on (Reference j) = 2
found_on (Count t) = 3
found_on (Backdrop t) = 4
found_on (Slots t) = 5

-- the entry at fault, or the refusal's item; a yes names none
abbrev pub item_on : Checked → ℕ
item_on Yes = 0
item_on (Reference j) = j
item_on (Count t) = t
item_on (Backdrop t) = t
item_on (Slots t) = t
item_on (Refused n item) = item

-- the number, what was found, the entry's or the item's; then the working room
pub record CheckSeen : Type 0 where
  pub number : ℕ
  pub found : ℕ
  pub item : ℕ
  pub work : List ℕ

abbrev pub check_lent : ℕ → ℕ → ℕ → List ℕ → CheckSeen
check_lent n f i w = record { number = n; found = f; item = i; work = w }

abbrev pub check_seen : Check.Out → CheckSeen
check_seen o = check_lent (number_on o.answer) (found_on o.answer) (item_on o.answer) o.work

-- the call's promise: what a caller sees is what the check's definition leaves
abbrev pub GpCheckMet : (nos : List ℕ) (coords : List Float) (paths refs counts : List ℕ) (backs : List ℤ) (stored : List ℕ) (room : ℕ) (work : List ℕ)
    → (r found item : ℕ) (work' : List ℕ) → Type 0
GpCheckMet nos coords paths refs counts backs stored room work r found item work' =
    check_lent r found item work' ≡ check_seen (Check.checked_of nos coords paths refs counts backs stored room work)
