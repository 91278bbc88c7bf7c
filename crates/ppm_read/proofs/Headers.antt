-- A header's reading goes alike from what the code holds of its numbers and from what is meant.
-- Assumes nothing.
use mathlib.Core.Path.{◌≡◌, refl, sym, ap, ◌∙◌}
use mathlib.Core.List.{List}
use mathlib.Core.Bool.{Bool, true, false, cond}
use Prim.Native.Nat.{ℕ, ◌+◌, ◌<◌}
use lib.Seq.{drop-drop}
use lib.Dec.{eqb}
use borrow.Author.Tests.{eq-eqb, ne_eqb}
use lib.ListN.{length, drop}
use Rattle.ppm_write.specs.Bytes.{magic, largest}
use Rattle.ppm_read.specs.declared.Stage.TheVariants.{Start}
use Rattle.ppm_read.specs.Number.{Number}
use Rattle.ppm_read.specs.Number.{At}
use Rattle.ppm_read.specs.Header.{Got, got, none, number_from, Header, size, no_header, on_number, then_number, starts_with, header_of}
use Rattle.ppm_read.specs.Held.{held, held_got, held_header, got_of, Within}
use Rattle.ppm_read.proofs.Held.{held_held, held_largest}

-- the header from its largest value on, from its height on, and from its width on
abbrev pub from_most : ℕ → ℕ → ℕ → List ℕ → Header
from_most w h most r = cond (eqb most largest) (size w h (drop 1 r)) no_header

abbrev pub from_height : ℕ → ℕ → List ℕ → Header
from_height w h r = then_number r (from_most w h)

abbrev pub from_width : ℕ → List ℕ → Header
from_width w r = then_number r (from_height w)

-- what goes on from a number, and can't tell it from what the code holds of it
abbrev pub Alike : (ℕ → List ℕ → Header) → Type 0
Alike go = (n : ℕ) (r : List ℕ) → held_header (go (held n) r) ≡ held_header (go n r)

on_held : (g : Got) (go : ℕ → List ℕ → Header) → Alike go → held_header (on_number (held_got g) go) ≡ held_header (on_number g go)
on_held (got n r) go alike = alike n r
on_held none go alike = refl

-- the reading of one number more, by what the code found
pub number_then : (file bs : List ℕ) (go : ℕ → List ℕ → Header) (x y : Number) (end : Header)
    → Alike go
    → held_got (got_of file x) ≡ held_got (number_from false Start bs)
    → x ≡ y
    → held_header (then_number bs go) ≡ end
    → held_header (on_number (got_of file y) go) ≡ end
number_then file bs go x y end alike e same inv =
    let e' : held_got (got_of file y) ≡ held_got (number_from false Start bs) = cc in
    sym (on_held (got_of file y) go alike)
    ∙ ap (λ (g : Got). held_header (on_number g go)) e'
    ∙ on_held (number_from false Start bs) go alike
    ∙ inv

on_both : (g : Got) (go go' : ℕ → List ℕ → Header)
    → ((n : ℕ) (r : List ℕ) → held_header (go n r) ≡ held_header (go' n r))
    → held_header (on_number g go) ≡ held_header (on_number g go')
on_both (got n r) go go' same = same n r
on_both none go go' same = refl

pub alike_most : (w h : ℕ) → Alike (from_most w h)
alike_most w h n r = ap (λ (t : Bool). held_header (cond t (size w h (drop 1 r)) no_header)) (held_largest n)

size_same : (t : Bool) (w h w' h' : ℕ) (r : List ℕ) → held w ≡ held w' → held h ≡ held h'
    → held_header (cond t (size w h r) no_header) ≡ held_header (cond t (size w' h' r) no_header)
size_same true w h w' h' r e f = rw (e, f)
size_same false w h w' h' r e f = refl

pub alike_height : (w : ℕ) → Alike (from_height w)
alike_height w n r =
    on_both
    (number_from false Start r)
    (from_most w (held n))
    (from_most w n)
    (λ most r'. size_same (eqb most largest) w (held n) w n (drop 1 r') refl (held_held n))

pub alike_width : Alike from_width
alike_width n r =
    on_both
    (number_from false Start r)
    (from_height (held n))
    (from_height n)
    (λ h r'.
    on_both
    (number_from false Start r')
    (from_most (held n) h)
    (from_most n h)
    (λ most r''. size_same (eqb most largest) (held n) h n h (drop 1 r'') (held_held n) refl))

pub header_none : (file : List ℕ) → starts_with magic file ≡ false → no_header ≡ header_of file
unfolding header_of
header_none file e = rw e

pub header_some : (file : List ℕ) → starts_with magic file ≡ true → then_number (drop (length magic) file) from_width ≡ header_of file
unfolding header_of
header_some file e = rw e

-- the end of a header: another largest value, and the right one
pub most_wrong : (file : List ℕ) (w h most at : ℕ) (end : Header) → (most ≡ largest → ⊥)
    → held_header (from_most w h most (drop at file)) ≡ end
    → no_header ≡ end
most_wrong file w h most at end ne e = rw (ne_eqb most largest ne) at e

pub most_right : (file : List ℕ) (w h most at : ℕ) (end : Header) → most ≡ largest
    → held_header (from_most w h most (drop at file)) ≡ end
    → held_header (size w h (drop (at + 1) file)) ≡ end
most_right file w h most at end eq e = rw (eq-eqb most largest eq, drop-drop 1 at file) at e

-- a number's place lies in the file
pub at_within : (file : List ℕ) (x : Number) (n at : ℕ) → Within file x → x ≡ At n at → at < length file
at_within file x n at h e = rw e at h
