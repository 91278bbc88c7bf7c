-- A line as it was found, and a reference by it. Assumes nothing.
--     found_fits   a line that was found has a path that passed its checks
--     look_is      a reference, by its words and its line as it was found
use Prim.Native.Nat.{ℕ, ◌<◌}
use mathlib.Core.Path.{◌≡◌, refl}
use mathlib.Core.Bool.{Bool, true, false, cond}
use mathlib.Core.List.{List}
use lib.ListN.{length, get_or}
use lib.Dec.{ltb}
use lib.Ieee.{Float}
use borrow.Author.Tests.{ltb-true}
use Rattle.util.specs.declared.Vec2.{Vec2}
use Rattle.panel.specs.Refusals.{no_such, coordinate}
use Rattle.panel.specs.Paths.{path_at, path_count, paths_answer}
use Rattle.panel.specs.declared.kinds.Path.{Path}
use Rattle.panel.specs.Answer.{Done}
use Rattle.panel.proofs.PathLaws.{checked}
use Rattle.walk.specs.Page.{line_of}
use Rattle.walk.specs.Lent as Lines
use Rattle.walk.specs.Lent.{reached_of, walked_of, walk_at}
use Rattle.walk.specs.Walked.{Walked}
use Rattle.walk.specs.Walked as Found
use Rattle.walk.proofs.Boxes.{fits_boxed}
use Rattle.walk.proofs.Lines.{skipped}
use Rattle.walk.proofs.Walks.{line_starts}
use Rattle.looks.specs.Look.{Lent, line_at, packed_at, FoundFits, found_of, found_to, look_of}

-- ---- a line that was found

fits_if : (n : ℕ) (t : Bool) (a b : Walked) → (t ≡ true → FoundFits n a) → FoundFits n b → FoundFits n (cond t a b)
fits_if n true a b f g = f refl
fits_if n false a b f g = g

walked_fits : (n : ℕ) (p0 p1 : Vec2) (b : Path) → FoundFits n (Found.Line (line_of p0 p1) b) → FoundFits n (walked_of p0 p1 b)
unfolding walked_of
walked_fits n p0 p1 b h = fits_if n (skipped p0 p1 b) Found.Skipped (Found.Line (line_of p0 p1) b) (λ e. tt) h

pub found_fits : (ns : List ℕ) (cs : List Float) (ps : List ℕ) (n l : ℕ) → paths_answer ps n ≡ Done → FoundFits n (found_of ns cs ps l)
unfolding found_of walk_at
found_fits ns cs ps n l e =
    let c = checked ps n e in
    let path : ℕ = get_or ns l 0 in
    let p0 : Vec2 = (Lines.line_at cs l).p0 in
    let p1 : Vec2 = (Lines.line_at cs l).p1 in
    let found : Walked = walked_of p0 p1 (path_at ps path) in
    let there : Walked = cond (ltb path (path_count ps)) found (Found.Refused no_such) in
    let fits : reached_of p0 p1 ≡ true → path < path_count ps → FoundFits n found =
    λ r h. walked_fits n p0 p1 (path_at ps path) (fits_boxed (path_at ps path) n c.tiled (c.fits path h), (c.fits path h).within, line_starts p0 p1 r) in
    fits_if n (ltb l (length ns)) (cond (reached_of p0 p1) there (Found.Refused coordinate)) (Found.Refused no_such)
    (λ _. fits_if n (reached_of p0 p1) there (Found.Refused coordinate)
    (λ r. fits_if n (ltb path (path_count ps)) found (Found.Refused no_such) (λ h. fits r (ltb-true path (path_count ps) h)) tt) tt) tt

-- ---- a reference

pub look_is : (L : Lent) (slots k : ℕ)
    → look_of L slots k ≡ found_to L.stored slots (packed_at L.refs k) (found_of L.path_nos L.coords L.paths (line_at L.refs k))
unfolding look_of
look_is L slots k = refl
