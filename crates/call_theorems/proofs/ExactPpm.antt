-- Exact at the call: the picture's writer and reader. A promise is met where one of the call's ways holds, and nowhere else. Assumes nothing.
use mathlib.Core.Path.{◌≡◌, refl, sym, ◌∙◌}
use mathlib.Core.Logic.{◌↔◌, ◌⊎◌, inl, inr}
use mathlib.Core.Bool.{Bool, true, false, ◌&&◌, false≢true}
use mathlib.Core.List.{List, ◌++◌}
use Prim.Native.Nat.{ℕ, ◌*◌, ◌≤◌, ◌<◌}
use native.Mathlib.Decide.{dec_lt, ℕ_discrete}
use native.Mathlib.Omega.{arith}
use lib.Dec.{leb}
use lib.ListN.{length, drop}
use borrow.Author.Tests.{le-leb, lt-leb, leb-false, eq-eqb, ne_eqb}
use Rattle.panel.specs.Limits.{side_most}
use Rattle.panel.specs.Refusals.{not_whole, no_room_word, bad_size, bad_file}
use Rattle.ppm_write.specs.Bytes.{pixel_bytes}
use Rattle.ppm_write.specs.File.{file_of}
use Rattle.ppm_write.specs.Write.{side_ok, write_of, WriteMet}
use Rattle.ppm_write.specs.Written.{Written}
use Rattle.ppm_read.specs.Header.{Header, size, no_header, header_of}
use Rattle.ppm_read.specs.Grammar.{IsHeader}
use Rattle.ppm_read.specs.Read.{read_of, ReadMet}
use Rattle.ppm_read.specs.Answer as Read
use Rattle.ppm_read.proofs.Language.{sound, complete}
use Rattle.theorems.proofs.Exact.{no_clash}
use Rattle.call_theorems.specs.Ways.{BadSide, BadSides, WriteWay, bad_size_lem, miscounted, no_place, file_written, ReadWay, no_header_lem, bad_sides, bad_raster, no_bytes, picture_read}
use Rattle.call_theorems.proofs.OneAnswer.{one_write, one_read}

-- ---- the test of a side

and_false : (a b : Bool) → (a && b) ≡ false → (a ≡ false) ⊎ (b ≡ false)
and_false true b e = inr e
and_false false b e = inl refl

side_bad : (n : ℕ) → side_ok n ≡ false → BadSide n
side_bad n e = go (and_false (leb 1 n) (leb n side_most) e)
  where
    go : (leb 1 n ≡ false) ⊎ (leb n side_most ≡ false) → BadSide n
    go (inl h) = inl (leb-false 1 n h)
    go (inr h) = inr (leb-false n side_most h)

bad_side : (n : ℕ) → BadSide n → side_ok n ≡ false
bad_side n (inl h) = rw (lt-leb 1 n h)
bad_side n (inr h) = go (leb 1 n)
  where
    go : (b : Bool) → (b && leb n side_most) ≡ false
    go true = lt-leb n side_most h
    go false = refl

sides_bad : (w h : ℕ) → (side_ok w && side_ok h) ≡ false → BadSides w h
sides_bad w h e = go (and_false (side_ok w) (side_ok h) e)
  where
    go : (side_ok w ≡ false) ⊎ (side_ok h ≡ false) → BadSides w h
    go (inl f) = inl (side_bad w f)
    go (inr f) = inr (side_bad h f)

bad_both : (w h : ℕ) → BadSides w h → (side_ok w && side_ok h) ≡ false
bad_both w h (inl f) = rw (bad_side w f)
bad_both w h (inr f) = go (side_ok w)
  where
    go : (b : Bool) → (b && side_ok h) ≡ false
    go true = bad_side h f
    go false = refl

good_both : (w h : ℕ) → (BadSides w h → ⊥) → (side_ok w && side_ok h) ≡ true
good_both w h f = go (side_ok w && side_ok h) refl
  where
    go : (b : Bool) → (side_ok w && side_ok h) ≡ b → b ≡ true
    go true e = refl
    go false e = absurd (f (sides_bad w h e))

sides_good : (w h : ℕ) → (side_ok w && side_ok h) ≡ true → BadSides w h → ⊥
sides_good w h e f = false≢true (sym (bad_both w h f) ∙ e)

-- ---- the writer

module _ (pixels : List ℕ) (w h : ℕ) (out : List ℕ) where
  abbrev file : List ℕ
  file = file_of pixels w h

  met_size : (side_ok w && side_ok h) ≡ false → WriteMet pixels w h out (Written.Refused bad_size) out
  unfolding write_of
  met_size e = rw e

  met_number : (side_ok w && side_ok h) ≡ true → (length pixels ≡ w * h → ⊥) → WriteMet pixels w h out (Written.Refused not_whole) out
  unfolding write_of
  met_number e n = rw (e, ne_eqb (length pixels) (w * h) n)

  met_room : (side_ok w && side_ok h) ≡ true → length pixels ≡ w * h → length out < length file → WriteMet pixels w h out (Written.Refused no_room_word) out
  unfolding write_of
  met_room e n r = rw (e, eq-eqb (length pixels) (w * h) n, lt-leb (length file) (length out) r)

  met_file : (side_ok w && side_ok h) ≡ true → length pixels ≡ w * h → length file ≤ length out
      → WriteMet pixels w h out (Written.Done (length file)) (file ++ drop (length file) out)
  unfolding write_of
  met_file e n r = rw (e, eq-eqb (length pixels) (w * h) n, le-leb (length file) (length out) r)

  module _ (x : Written) (out' : List ℕ) where
    write_why : WriteMet pixels w h out x out' → WriteWay pixels w h out x out'
    write_why p = go (side_ok w && side_ok h) refl (ℕ_discrete (length pixels) (w * h)) (dec_lt (length out) (length file))
      where
        go : (b : Bool) → (side_ok w && side_ok h) ≡ b → Dec (length pixels ≡ w * h) → Dec (length out < length file) → WriteWay pixels w h out x out'
        go false q d r = let e = one_write pixels w h out x (Written.Refused bad_size) out' out p (met_size q) in bad_size_lem e.0 (sides_bad w h q) e.1
        go true q (no d) r = let e = one_write pixels w h out x (Written.Refused not_whole) out' out p (met_number q d) in miscounted e.0 (sides_good w h q) d e.1
        go true q (yes d) (yes r) = let e = one_write pixels w h out x (Written.Refused no_room_word) out' out p (met_room q d r) in no_place e.0 (sides_good w h q) d r e.1
        go true q (yes d) (no r) =
            let e = one_write pixels w h out x (Written.Done (length file)) out' (file ++ drop (length file) out) p (met_file q d (omega arith)) in
            file_written e.0 (sides_good w h q) d (omega arith) e.1

    write_back : WriteWay pixels w h out x out' → WriteMet pixels w h out x out'
    write_back (bad_size_lem ex b eo) = rw (ex, eo) (met_size (bad_both w h b))
    write_back (miscounted ex g n eo) = rw (ex, eo) (met_number (good_both w h g) n)
    write_back (no_place ex g n r eo) = rw (ex, eo) (met_room (good_both w h g) n r)
    write_back (file_written ex g n r eo) = rw (ex, eo) (met_file (good_both w h g) n r)

    -- The picture's writer is exact
    pub write_call_exact : WriteMet pixels w h out x out' ↔ WriteWay pixels w h out x out'
    write_call_exact = (write_why, write_back)

-- ---- the reader

module _ (file out : List ℕ) where
  met_none : header_of file ≡ no_header → ReadMet file out (Read.Refused bad_file) out
  unfolding read_of
  met_none e = rw e

  module _ (w h : ℕ) (raster : List ℕ) (found : header_of file ≡ size w h raster) where
    met_sides : (side_ok w && side_ok h) ≡ false → ReadMet file out (Read.Refused bad_size) out
    unfolding read_of
    met_sides e = rw (found, e)

    met_raster : (side_ok w && side_ok h) ≡ true → (length raster ≡ w * h * pixel_bytes → ⊥) → ReadMet file out (Read.Refused bad_file) out
    unfolding read_of
    met_raster e n = rw (found, e, ne_eqb (length raster) (w * h * pixel_bytes) n)

    met_bytes : (side_ok w && side_ok h) ≡ true → length raster ≡ w * h * pixel_bytes → length out < length raster → ReadMet file out (Read.Refused no_room_word) out
    unfolding read_of
    met_bytes e n r = rw (found, e, eq-eqb (length raster) (w * h * pixel_bytes) n, lt-leb (length raster) (length out) r)

    met_picture : (side_ok w && side_ok h) ≡ true → length raster ≡ w * h * pixel_bytes → length raster ≤ length out
        → ReadMet file out (Read.Done w h) (raster ++ drop (length raster) out)
    unfolding read_of
    met_picture e n r = rw (found, e, eq-eqb (length raster) (w * h * pixel_bytes) n, le-leb (length raster) (length out) r)

  -- no header is read where there is none
  none_found : ((w h : ℕ) (raster : List ℕ) → IsHeader file w h raster → ⊥) → header_of file ≡ no_header
  none_found f = go (header_of file) refl
    where
      go : (x : Header) → header_of file ≡ x → header_of file ≡ no_header
      go no_header e = e
      go (size w h raster) e = absurd (f w h raster (sound file w h raster e))

  module _ (x : Read.Answer) (out' : List ℕ) where
    read_why : ReadMet file out x out' → ReadWay file out x out'
    read_why p = go (header_of file) refl
      where
        go : (v : Header) → header_of file ≡ v → ReadWay file out x out'
        go no_header q =
            let e = one_read file out x (Read.Refused bad_file) out' out p (met_none q) in
            no_header_lem e.0 (λ w h raster i. let z : no_header ≡ size w h raster = sym q ∙ complete file w h raster i in no_clash cc) e.1
        go (size w h raster) q = at (side_ok w && side_ok h) refl (ℕ_discrete (length raster) (w * h * pixel_bytes)) (dec_lt (length out) (length raster))
          where
            is : IsHeader file w h raster
            is = sound file w h raster q

            at : (b : Bool) → (side_ok w && side_ok h) ≡ b → Dec (length raster ≡ w * h * pixel_bytes) → Dec (length out < length raster) → ReadWay file out x out'
            at false s d r = let e = one_read file out x (Read.Refused bad_size) out' out p (met_sides w h raster q s) in bad_sides w h raster is e.0 (sides_bad w h s) e.1
            at true s (no d) r = let e = one_read file out x (Read.Refused bad_file) out' out p (met_raster w h raster q s d) in bad_raster w h raster is e.0 (sides_good w h s) d e.1
            at true s (yes d) (yes r) =
                let e = one_read file out x (Read.Refused no_room_word) out' out p (met_bytes w h raster q s d r) in
                no_bytes w h raster is e.0 (sides_good w h s) d r e.1
            at true s (yes d) (no r) =
                let e = one_read file out x (Read.Done w h) out' (raster ++ drop (length raster) out) p (met_picture w h raster q s d (omega arith)) in
                picture_read w h raster is e.0 (sides_good w h s) d (omega arith) e.1

    read_back : ReadWay file out x out' → ReadMet file out x out'
    read_back (no_header_lem ex f eo) = rw (ex, eo) (met_none (none_found f))
    read_back (bad_sides w h raster i ex b eo) = rw (ex, eo) (met_sides w h raster (complete file w h raster i) (bad_both w h b))
    read_back (bad_raster w h raster i ex g n eo) = rw (ex, eo) (met_raster w h raster (complete file w h raster i) (good_both w h g) n)
    read_back (no_bytes w h raster i ex g n r eo) = rw (ex, eo) (met_bytes w h raster (complete file w h raster i) (good_both w h g) n r)
    read_back (picture_read w h raster i ex g n r eo) = rw (ex, eo) (met_picture w h raster (complete file w h raster i) (good_both w h g) n r)

    -- The picture's reader is exact
    pub read_call_exact : ReadMet file out x out' ↔ ReadWay file out x out'
    read_call_exact = (read_why, read_back)
