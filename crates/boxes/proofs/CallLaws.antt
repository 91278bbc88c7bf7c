-- The call, by what its checks find; and that the working room tells the boxes of the definition. Assumes nothing.
use mathlib.Core.Path.{◌≡◌, sym, ap, ◌∙◌}
use mathlib.Core.Logic.{inr}
use mathlib.Core.List.{List, map}
use Prim.Native.Nat.{ℕ, ◌+◌, ◌*◌, ◌/◌, ◌%◌, ◌≤◌, ◌<◌}
use native.Mathlib.Decide.{dec_lt}
use native.Mathlib.Omega.{arith}
use lib.ListN.{length, get_or}
use lib.Seq.{sets, ext_get_or}
use lib.Ieee.{Float}
use borrow.Author.Tests.{eqb-true, leb-true, le-leb, lt-leb}
use Rattle.lists.specs.Sums.{sum, from}
use Rattle.ranges.specs.Ranges.{cleared_of}
use Rattle.ranges.proofs.RangeLaws.{length_cleared, cleared_in, cleared_out}
use Rattle.panel.specs.Limits.{most_paths, most_tiles}
use Rattle.panel.specs.Refusals.{too_many}
use Rattle.panel.specs.Widths.{path_words, line_floats}
use Rattle.panel.specs.Checks.{first_no}
use Rattle.panel.specs.Verdict.{Fine, Against}
use Rattle.panel.specs.Answer as Answer
use Rattle.panel.proofs.CheckLaws.{all_ok, unless_no, unless_fine}
use Rattle.end_tiles.specs.Lines.{lines_from}
use Rattle.end_tiles.proofs.LineLaws.{each_line}
use Rattle.path_reach.specs.Room.{box_words}
use Rattle.path_reach.specs.Words.{gather_from}
use Rattle.path_reach.proofs.WordLaws.{length_gather, gather_out}
use Rattle.box_records.specs.Records.{area_of_word, records_from}
use Rattle.box_records.specs.Told.{box_in}
use Rattle.box_records.proofs.RowLaws.{length_records, records_same, sets_whole, sum_same}
use Rattle.boxes.specs.Boxes.{ends_from, box_of, tiles_of, lent_checks, asked_of, boxes_of, BoxesMet}
use Rattle.boxes.specs.Boxed.{Done, Refused}
use Rattle.boxes.proofs.WordLaws.{gather_told, box_told}

-- what the lengths tell where none is refused
pub record Lent (nn nc np nb nw : ℕ) : Type 0 where
  pub lines : nn * line_floats ≤ nc
  pub paths : nb * path_words ≡ np
  pub few : nb ≤ most_paths
  pub room : nb * box_words ≤ nw

pub lent_told : (nn nc np nb nw : ℕ) → first_no (lent_checks nn nc np nb nw) ≡ Fine → Lent nn nc np nb nw
lent_told nn nc np nb nw e =
    let k = all_ok (lent_checks nn nc np nb nw) e in
    let n : nn ≡ nc / line_floats = eqb-true _ _ k.1.0 in
    let w : np % path_words ≡ 0 = eqb-true _ _ k.1.1.0 in
    let b : nb ≡ np / path_words = eqb-true _ _ k.1.1.1.0 in
    record { lines = omega arith; paths = omega arith; few = leb-true _ _ k.1.1.1.1.0; room = leb-true (nb * box_words) nw k.1.1.1.1.1.0 }

-- the room for n paths, cleared, and then with all lines gathered
abbrev pub blank_of : ℕ → List ℕ → List ℕ
blank_of n work = cleared_of 0 0 (n * box_words) work

abbrev pub full_of : (nos : List ℕ) (coords : List Float) → ℕ → List ℕ → List ℕ
full_of nos coords n work = gather_from nos coords (length nos) 0 (blank_of n work)

module _ (nos : List ℕ) (coords : List Float) (beams : List ℕ) (m : ℕ) (paths work : List ℕ) where
  module _ (why : ℕ) (e : first_no (lent_checks (length nos) (length coords) (length paths) (length beams) (length work)) ≡ Against why) where
    pub boxes_lent : BoxesMet nos coords beams m paths work (Refused why 0) paths work
    unfolding boxes_of asked_of
    boxes_lent = rw (unless_no _ why 0 (lines_from nos coords (length beams) (length nos) 0) e)

  module _ (f : first_no (lent_checks (length nos) (length coords) (length paths) (length beams) (length work)) ≡ Fine) where
    asked_fine : asked_of nos coords beams paths work ≡ lines_from nos coords (length beams) (length nos) 0
    unfolding asked_of
    asked_fine = unless_fine _ 0 _ f

    pub boxes_line : (why item : ℕ) → lines_from nos coords (length beams) (length nos) 0 ≡ Answer.Refused why item
        → BoxesMet nos coords beams m paths work (Refused why item) paths work
    unfolding boxes_of
    boxes_line why item e = rw (asked_fine, e)

    module _ (e : lines_from nos coords (length beams) (length nos) 0 ≡ Answer.Done) where
      lent : Lent (length nos) (length coords) (length paths) (length beams) (length work)
      lent = lent_told _ _ _ _ _ f

      length_blank : length (blank_of (length beams) work) ≡ length work
      length_blank = length_cleared 0 0 (length beams * box_words) work

      pub box_is : (k : ℕ) → k < length beams → (t : ℕ) → box_in (full_of nos coords (length beams) work) m k t ≡ box_of nos coords m k t
      box_is k h t =
          let z : (j : ℕ) → j < length beams * box_words → get_or (blank_of (length beams) work) j 0 ≡ 0 = λ j q. cleared_in 0 0 (length beams * box_words) work j (omega arith) (omega
          arith) (omega (arith, lent.room)) in
          box_told (full_of nos coords (length beams) work) m k t (ends_from nos coords k (length nos) 0)
          (gather_told nos coords k (length nos) 0 (blank_of (length beams) work) 0 0 0 0 (omega (arith, lent.room, length_blank))
          (record {
            left = z (k * box_words) (omega arith);
            top = z (k * box_words + 1) (omega arith);
            right = z (k * box_words + 2) (omega arith);
            bottom = z (k * box_words + 3) (omega arith);
          }))

      pub tiles_is : sum (map (λ k. area_of_word (box_in (full_of nos coords (length beams) work) m k 0)) (from 0 (length beams))) ≡ tiles_of nos coords m (length beams)
      tiles_is =
          sum_same (λ k. area_of_word (box_in (full_of nos coords (length beams) work) m k 0)) (λ k. area_of_word (box_of nos coords m k 0)) (length beams) 0
          (λ k p q. ap area_of_word (box_is k (omega arith) 0))

      pub records_is : sets paths 0 (records_from (box_in (full_of nos coords (length beams) work) m) beams (length beams) 0 0) ≡ records_from (box_of nos coords m) beams (length beams) 0 0
      records_is =
          sets_whole (records_from (box_in (full_of nos coords (length beams) work) m) beams (length beams) 0 0) paths (length_records (box_in (full_of nos coords (length beams) work)
          m) beams (length beams) 0 0 ∙ lent.paths)
          ∙ records_same (box_in (full_of nos coords (length beams) work) m) (box_of nos coords m) beams (length beams) 0 0 (λ k p q t. box_is k (omega arith) t)

      pub room_is : cleared_of 0 0 (length beams * box_words) (full_of nos coords (length beams) work) ≡ cleared_of 0 0 (length beams * box_words) work
      room_is =
          let n = length beams * box_words in
          let long : length (full_of nos coords (length beams) work) ≡ length work = length_gather nos coords (length nos) 0 (blank_of (length beams) work) ∙ length_blank in
          ext_get_or 0 (cleared_of 0 0 n (full_of nos coords (length beams) work)) (cleared_of 0 0 n work) (length_cleared 0 0 n (full_of nos coords (length beams) work) ∙ long ∙ sym
          (length_cleared 0 0 n work))
          (λ j h. go j (omega (arith, length_cleared 0 0 n (full_of nos coords (length beams) work), long)) (dec_lt j n))
        where
          same : (j : ℕ) → length beams * box_words ≤ j → j < length work → get_or (full_of nos coords (length beams) work) j 0 ≡ get_or work j 0
          same j p q =
              gather_out nos coords (length beams) (length nos) 0 (blank_of (length beams) work) (λ i a b. (each_line nos coords (length beams) (length nos) 0 e i a b).there) j p
              ∙ cleared_out 0 0 (length beams * box_words) work j (inr (omega arith)) q

          go : (j : ℕ) → j < length work → Dec (j < length beams * box_words)
              → get_or (cleared_of 0 0 (length beams * box_words) (full_of nos coords (length beams) work)) j 0 ≡ get_or (cleared_of 0 0 (length beams * box_words) work) j 0
          go j h (yes p) =
              cleared_in 0 0 (length beams * box_words) (full_of nos coords (length beams) work) j (omega arith) (omega arith) (omega (
                arith,
                length_gather nos coords (length nos)
                    0 (blank_of (length beams) work),
                length_blank,
              ))
              ∙ sym (cleared_in 0 0 (length beams * box_words) work j (omega arith) (omega arith) h)
          go j h (no p) =
              cleared_out 0 0 (length beams * box_words) (full_of nos coords (length beams) work) j (inr (omega arith)) (omega (
                arith,
                length_gather nos coords (length nos) 0
                    (blank_of (length beams) work),
                length_blank,
              ))
              ∙ same j (omega arith) h
              ∙ sym (cleared_out 0 0 (length beams * box_words) work j (inr (omega arith)) h)

      -- how the call ends
      pub boxes_many : (tiles : ℕ) → tiles ≡ sum (map (λ k. area_of_word (box_in (full_of nos coords (length beams) work) m k 0)) (from 0 (length beams))) → most_tiles < tiles → (us : List ℕ)
          → us ≡ cleared_of 0 0 (length beams * box_words) (full_of nos coords (length beams) work) → BoxesMet nos coords beams m paths work (Refused too_many 0) paths us
      unfolding boxes_of
      boxes_many tiles t h us u =
          let n : tiles_of nos coords m (length beams) ≡ tiles = sym tiles_is ∙ sym t in
          rw (asked_fine, e, n, lt-leb tiles most_tiles h, u, room_is)

      pub boxes_done : (tiles : ℕ) → tiles ≡ sum (map (λ k. area_of_word (box_in (full_of nos coords (length beams) work) m k 0)) (from 0 (length beams))) → tiles ≤ most_tiles → (ps us : List ℕ)
          → ps ≡ sets paths 0 (records_from (box_in (full_of nos coords (length beams) work) m) beams (length beams) 0 0) → us ≡ cleared_of 0 0 (length beams * box_words) (full_of nos
          coords (length beams) work)
          → BoxesMet nos coords beams m paths work (Done tiles) ps us
      unfolding boxes_of
      boxes_done tiles t h ps us p u =
          let n : tiles_of nos coords m (length beams) ≡ tiles = sym tiles_is ∙ sym t in
          rw (asked_fine, e, n, le-leb tiles most_tiles h, u, room_is, p, records_is)
