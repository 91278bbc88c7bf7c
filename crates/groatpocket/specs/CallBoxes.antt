-- What a caller sees of the call for boxes, and the same read off what its definition leaves. Definitions only.
use Rattle.std.specs.Prelude.{ℕ, ◌≡◌, List, Float}
use Rattle.panel.specs.Refusals.{done_no}
use Rattle.boxes.specs.Boxes as Boxes
use Rattle.boxes.specs.Boxed.{Boxed}
use Rattle.boxes.specs.Boxed.{Done, Refused}

-- the number; the tiles that the boxes take in all, 0 where it refuses; the item's number, 0 where it is done
abbrev pub number_on : Boxed → ℕ
number_on (Done t) = done_no
number_on (Refused n item) = n

abbrev pub tiles_on : Boxed → ℕ
tiles_on (Done t) = t
tiles_on (Refused n item) = 0

abbrev pub item_on : Boxed → ℕ
item_on (Done t) = 0
item_on (Refused n item) = item

-- and the paths and the working room lent
pub record BoxesSeen : Type 0 where
  pub number : ℕ
  pub tiles : ℕ
  pub item : ℕ
  pub paths : List ℕ
  pub work : List ℕ

abbrev pub boxes_lent : (number tiles item : ℕ) → (paths work : List ℕ) → BoxesSeen
boxes_lent n t i ps ws = record { number = n; tiles = t; item = i; paths = ps; work = ws }

abbrev pub boxes_seen : Boxes.Out → BoxesSeen
boxes_seen o = boxes_lent (number_on o.answer) (tiles_on o.answer) (item_on o.answer) o.paths o.work

-- the promise: what a caller sees is what the definition leaves
abbrev pub GpBoxesMet : (nos : List ℕ) (coords : List Float) (beams : List ℕ) (m : ℕ) (paths work : List ℕ) → (r tiles item : ℕ) (paths' work' : List ℕ) → Type 0
GpBoxesMet nos coords beams m paths work r tiles item paths' work' =
    boxes_lent r tiles item paths' work' ≡ boxes_seen (Boxes.boxes_of nos coords beams m paths work)
