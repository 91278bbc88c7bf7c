-- What a done drawing shows. Definitions only.
use Rattle.std.specs.Prelude.{◌≡◌, List, ℕ, length, Float}
use Rattle.theorems.specs.Drawn.{drawn}
use Rattle.picture.specs.Picture.{picture_of}

-- the pixels afterwards are the picture of all the lines lent
abbrev pub ShowsLines : (nos : List ℕ) (coords : List Float) (paths paints : List ℕ) (width cols rows : ℕ) (pixels pixels' : List ℕ) → Type 0
ShowsLines nos coords paths paints width cols rows pixels pixels' =
    pixels' ≡ picture_of paths paints (drawn nos coords (length nos)) width cols rows pixels
