-- What a byte's kind says of it, and what it says of a byte's kind. Assumes nothing.
use mathlib.Core.Path.{◌≡◌, refl, sym, ap, ◌∙◌}
use mathlib.Core.Bool.{Bool, true, false, cond, ◌||◌}
use mathlib.Core.Logic.{◌⊎◌, inl, inr, ⊎_elim}
use Prim.Native.Nat.{ℕ, ◌+◌, ◌-◌, ◌≤◌}
use native.Mathlib.Omega.{arith}
use lib.Dec.{leb, ltb, eqb}
use borrow.Author.Tests.{eqb-true, leb-true}
use Rattle.ppm_write.specs.Bytes.{newline, blank, zero_byte, ten}
use Rattle.panel.proofs.BoolLaws.{both}
use Rattle.ppm_read.specs.Bytes.{hash, tab, vertical_tab, form_feed, return, is_hash, is_line, is_blank, is_white, is_digit, kind_of}
use Rattle.ppm_read.specs.declared.Kind.{Kind}
use Rattle.ppm_read.specs.declared.Kind.TheVariants.{Hash, Line, Blank, Digit, Other}

pub data View : ℕ → Kind → Type 0 where
  hashes : {b : ℕ} → is_hash b ≡ true → View b Hash
  ends : {b : ℕ} → is_line b ≡ true → View b Line
  blanks : {b : ℕ} → is_line b ≡ false → is_blank b ≡ true → View b Blank
  digits : {b d : ℕ} → is_line b ≡ false → is_digit b ≡ true → b - zero_byte ≡ d → View b (Digit d)
  others : {b : ℕ} → is_hash b ≡ false → is_line b ≡ false → is_blank b ≡ false → is_digit b ≡ false → View b Other

pub view : (b : ℕ) → View b (kind_of b)
unfolding kind_of
view b = go (is_hash b) refl (is_line b) refl (is_blank b) refl (is_digit b) refl
  where
    go :
        (h : Bool) → is_hash b ≡ h →
        (l : Bool) → is_line b ≡ l →
        (k : Bool) → is_blank b ≡ k →
        (d : Bool) → is_digit b ≡ d →
        View b (cond h Hash (cond l Line (cond k Blank (cond d (Digit (b - zero_byte)) Other))))
    go true eh l el k ek d ed = hashes eh
    go false eh true el k ek d ed = ends el
    go false eh false el true ek d ed = blanks el ek
    go false eh false el false ek true ed = digits el ed refl
    go false eh false el false ek false ed = others eh el ek ed

either : (x y : Bool) → x || y ≡ true → (x ≡ true) ⊎ (y ≡ true)
either true y e = inl refl
either false y e = inr e

same : (b n : ℕ) → n ≤ blank → eqb b n ≡ true → b ≤ blank
same b n h e = omega (arith, eqb-true b n e)

pub line_white : (b : ℕ) → is_line b ≡ true → is_white b ≡ true
line_white b e = rw e

pub blank_white : (b : ℕ) → is_line b ≡ false → is_blank b ≡ true → is_white b ≡ true
blank_white b l e = rw (l, e)

pub white_most : (b : ℕ) → is_white b ≡ true → b ≤ blank
white_most b e =
    ⊎_elim
    (λ l. ⊎_elim (same b newline (omega arith)) (same b return (omega arith)) (either (eqb b newline) (eqb b return) l))
    (λ k.
    ⊎_elim
    (λ k₂.
    ⊎_elim
    (λ k₃. ⊎_elim (same b blank (omega arith)) (same b tab (omega arith)) (either (eqb b blank) (eqb b tab) k₃))
    (same b vertical_tab (omega arith))
    (either (eqb b blank || eqb b tab) (eqb b vertical_tab) k₂))
    (same b form_feed (omega arith))
    (either (eqb b blank || eqb b tab || eqb b vertical_tab) (eqb b form_feed) k))
    (either (is_line b) (is_blank b) e)

pub digit_least : (b : ℕ) → is_digit b ≡ true → zero_byte ≤ b
digit_least b e = leb-true zero_byte b (both (leb zero_byte b) (ltb b (zero_byte + ten)) e).0

pub hash_is : (b : ℕ) → is_hash b ≡ true → b ≡ hash
hash_is b e = eqb-true b hash e

pub never : false ≡ true → ⊥
never e = let z : ◌≡◌ {A = ℕ} 0 1 = cc in omega arith

pub kind_hash : (b : ℕ) → is_hash b ≡ true → kind_of b ≡ Hash
unfolding kind_of
kind_hash b e = rw e

pub kind_line : (b : ℕ) → is_line b ≡ true → kind_of b ≡ Line
kind_line b e = go (kind_of b) (view b)
  where
    go : (k : Kind) → View b k → k ≡ Line
    go Hash (hashes h) = absurd (omega (arith, hash_is b h, white_most b (line_white b e)))
    go Line (ends l) = refl
    go Blank (blanks l k) = absurd (never (sym l ∙ e))
    go (Digit d) (digits l g v) = absurd (never (sym l ∙ e))
    go Other (others h l k g) = absurd (never (sym l ∙ e))

pub kind_white : (b : ℕ) → is_white b ≡ true → (kind_of b ≡ Line) ⊎ (kind_of b ≡ Blank)
kind_white b e = go (kind_of b) (view b)
  where
    go : (k : Kind) → View b k → (k ≡ Line) ⊎ (k ≡ Blank)
    go Hash (hashes h) = absurd (omega (arith, hash_is b h, white_most b e))
    go Line (ends l) = inl refl
    go Blank (blanks l k) = inr refl
    go (Digit d) (digits l g v) = absurd (omega (arith, digit_least b g, white_most b e))
    go Other (others h l k g) = let q : false ≡ true = rw (l, k) at e in absurd (never q)

pub kind_digit : (b : ℕ) → is_digit b ≡ true → kind_of b ≡ Digit (b - zero_byte)
kind_digit b e = go (kind_of b) (view b)
  where
    go : (k : Kind) → View b k → k ≡ Digit (b - zero_byte)
    go Hash (hashes h) = absurd (omega (arith, hash_is b h, digit_least b e))
    go Line (ends l) = absurd (omega (arith, digit_least b e, white_most b (line_white b l)))
    go Blank (blanks l k) = absurd (omega (arith, digit_least b e, white_most b (blank_white b l k)))
    go (Digit d) (digits l g v) = ap Digit (sym v)
    go Other (others h l k g) = absurd (never (sym g ∙ e))
