-- What the theorem on the picture speaks of: calls that are done, one after another, from lines to pixels. Definitions only.
use Rattle.std.specs.Prelude.{◌≡◌, List, ℕ, ◌*◌, Float}
use Rattle.panel.specs.Answer.{Done}
use Rattle.fine.specs.Fine.{shown, fine_of}
use Rattle.theorems.specs.Drawn.{Drawn}
use Rattle.list_theorems.specs.Written.{Holds}
use Rattle.picture.specs.Picture.{picture_of}

-- fine over all screen tiles is done, and leaves the picture of these lines
abbrev pub Shows : (paths paints : List ℕ) → List Drawn → (cols rows : ℕ) (words : List ℕ) (segments : List Float) → Type 0
Shows paths paints lines cols rows words segments =
    (width : ℕ) (pixels : List ℕ) → Holds width cols rows pixels
    → fine_of words segments width cols rows 0 (cols * rows) pixels ≡ shown Done (picture_of paths paints lines width cols rows pixels)
