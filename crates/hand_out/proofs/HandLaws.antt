-- The laws of hand-out: a turn of its loop, where a tile's slots begin, and what a stored word reads back as. Assumes nothing.
use mathlib.Core.Path.{◌≡◌, refl, sym, ap, ◌∙◌}
use mathlib.Core.Bool.{true, false}
use mathlib.Core.List.{List, [], ◌∷◌, ◌++◌, append-nil}
use mathlib.Core.Logic.{◌≢◌}
use Prim.Native.Nat.{ℕ, zero, suc, ◌+◌, ◌≤◌, ◌<◌, ◌^◌}
use native.Mathlib.Nat.{not-suc-le-zero, le_of_suc-le-suc, zero-add}
use native.Mathlib.Numerals.{add-one}
use native.Mathlib.Omega.{arith}
use lib.ListN.{length, get_or, set, take, drop, drop_of_length-le}
use lib.Seq.{take-suc, drop-cons, set_at, get_or_at, append_snoc, length-take-le, take_all}
use borrow.Author.Tests.{le-ltb}
use Rattle.lists.specs.Sums.{sum, first, first_suc, first_within, first_apart, placed, placed_once}
use Rattle.panel.specs.Limits.{most_slots}
use Rattle.panel.proofs.LimitLaws.{small}
use Rattle.panel.specs.Slots.{not32, handed_from, skips}
use Rattle.panel.specs.Checks.{first_no}
use Rattle.panel.specs.Verdict.{Fine}
use Rattle.panel.specs.Answer.{Answer}
use Rattle.panel.specs.Answer.{Done}
use Rattle.panel.proofs.KindLaws.{paper_once}
use Rattle.hand_out.specs.HandOut.{word_for, hand, Out, out_of, hand_checks, hand_out_of}

pub stored_some : (n f : ℕ) → n ≢ 0 → word_for n f ≡ not32 f
stored_some zero f h = absurd (h refl)
stored_some (suc n) f h = refl

pub length_hand : (f : ℕ) (ns : List ℕ) → length (hand f ns) ≡ length ns
length_hand f [] = refl
length_hand f (n ∷ ns) = ap suc (length_hand (f + n) ns)

-- T3. Tile t's first slot is the sum of the counts before it
pub hand_at : (f : ℕ) (ns : List ℕ) (t : ℕ) → t < length ns → get_or (hand f ns) t 0 ≡ word_for (get_or ns t 0) (f + first ns t)
hand_at f [] t h = absurd (not-suc-le-zero h)
hand_at f (n ∷ ns) zero h = ap (word_for n) (omega arith)
hand_at f (n ∷ ns) (suc t) h = hand_at (f + n) ns t (le_of_suc-le-suc h) ∙ ap (word_for (get_or ns t 0)) (omega arith)

-- the tiles before and those from there on: a turn of a loop over the tiles
pub hand_append : (f : ℕ) (ms ns : List ℕ) → hand f (ms ++ ns) ≡ hand f ms ++ hand (f + sum ms) ns
hand_append f [] ns = ap (λ (k : ℕ). hand k ns) (omega arith)
hand_append f (m ∷ ms) ns =
    ap (λ (r : List ℕ). word_for m f ∷ r) (hand_append (f + m) ms ns ∙ ap (λ (k : ℕ). hand (f + m) ms ++ hand k ns) (omega arith))

-- the store that a loop over the tiles makes at tile t, in place
pub hand_step : (ns : List ℕ) (t : ℕ) → t < length ns
    → set (hand 0 (take t ns) ++ drop t ns) t (word_for (get_or ns t 0) (first ns t)) ≡ hand 0 (take (suc t) ns) ++ drop (suc t) ns
hand_step ns t h =
    let w : ℕ = word_for (get_or ns t 0) (first ns t) in
    let len : length (hand 0 (take t ns)) ≡ t = length_hand 0 (take t ns) ∙ length-take-le t ns (omega arith) in
    let grown : hand 0 (take (suc t) ns) ≡ hand 0 (take t ns) ++ (w ∷ []) =
    ap (hand 0) (take-suc ns t 0 h) ∙ hand_append 0 (take t ns) (get_or ns t 0 ∷ []) ∙ rw (zero-add (first ns t)) in
    ap (λ (r : List ℕ). set (hand 0 (take t ns) ++ r) t w) (drop-cons ns t 0 h)
    ∙ set_at (hand 0 (take t ns)) (get_or ns t 0) (drop (suc t) ns) w t len
    ∙ sym (append_snoc (hand 0 (take t ns)) w (drop (suc t) ns))
    ∙ ap (λ (r : List ℕ). r ++ drop (suc t) ns) (sym grown)

-- and the tile's count, kept in the tally
pub keep_step : (ns kept : List ℕ) (t : ℕ) → length ns ≡ length kept → t < length ns
    → set (take t ns ++ drop t kept) t (get_or ns t 0) ≡ take (suc t) ns ++ drop (suc t) kept
keep_step ns kept t e h =
    ap (λ (r : List ℕ). set (take t ns ++ r) t (get_or ns t 0)) (drop-cons kept t 0 (omega arith))
    ∙ set_at (take t ns) (get_or kept t 0) (drop (suc t) kept) (get_or ns t 0) t (length-take-le t ns (omega arith))
    ∙ sym (append_snoc (take t ns) (get_or ns t 0) (drop (suc t) kept))
    ∙ ap (λ (r : List ℕ). r ++ drop (suc t) kept) (sym (take-suc ns t 0 h))

-- the element that such a loop reads at t is still the old one
pub hand_reads : (ns : List ℕ) (t : ℕ) → t < length ns → get_or (hand 0 (take t ns) ++ drop t ns) t 0 ≡ get_or ns t 0
hand_reads ns t h =
    ap (λ (r : List ℕ). get_or (hand 0 (take t ns) ++ r) t 0) (drop-cons ns t 0 h)
    ∙ get_or_at (hand 0 (take t ns)) (get_or ns t 0) (drop (suc t) ns) 0 t (length_hand 0 (take t ns) ∙ length-take-le t ns (omega arith))

-- a turn of the loop, in the loop's own terms: what the tiles hold, the next slot, and the word w that is stored
pub hand_turn : (ns tiles : List ℕ) (next t w : ℕ) → t < length ns → next ≡ first ns t → tiles ≡ hand 0 (take t ns) ++ drop t ns
    → w ≡ word_for (get_or tiles t 0) next → (next + get_or tiles t 0 ≡ first ns (t + 1)) × (set tiles t w ≡ hand 0 (take (t + 1) ns) ++ drop (t + 1) ns)
hand_turn ns tiles next t w h n a q =
    let reads : get_or tiles t 0 ≡ get_or ns t 0 = rw a (hand_reads ns t h) in
    let word : w ≡ word_for (get_or ns t 0) (first ns t) = cc in
    rw (reads, add-one) (omega (arith, first_suc ns t), rw (a, word) (hand_step ns t h))

-- the tally's turn, by the count that is read off the tiles; and the loop's end
pub keep_turn : (ns kept tiles tally : List ℕ) (t : ℕ) → length ns ≡ length kept → t < length ns → tiles ≡ hand 0 (take t ns) ++ drop t ns
    → tally ≡ take t ns ++ drop t kept → set tally t (get_or tiles t 0) ≡ take (t + 1) ns ++ drop (t + 1) kept
keep_turn ns kept tiles tally t e h a b =
    let reads : get_or tiles t 0 ≡ get_or ns t 0 = rw a (hand_reads ns t h) in
    rw (reads, add-one, b) (keep_step ns kept t e h)

pub hand_end : (ns : List ℕ) (t : ℕ) → length ns ≤ t → hand 0 (take t ns) ++ drop t ns ≡ hand 0 ns
hand_end ns t h = rw (take_all t ns h, drop_of_length-le ns h) (append-nil (hand 0 ns))

pub keep_end : (ns kept : List ℕ) (t : ℕ) → length ns ≤ t → length kept ≤ t → take t ns ++ drop t kept ≡ ns
keep_end ns kept t h k = rw (take_all t ns h, drop_of_length-le kept k) (append-nil ns)

-- ---- read back

-- a tile that is not empty gives its first slot back
pub stored_first : (n f : ℕ) → 0 < n → f < 2 ^ 32 → not32 (word_for n f) ≡ f
stored_first zero f h k = absurd (not-suc-le-zero h)
stored_first (suc n) f h k = omega arith

pub stored_taken : (n f : ℕ) → 0 < n → f < 2 ^ 31 → skips (word_for n f) ≡ false
stored_taken zero f h k = absurd (not-suc-le-zero h)
stored_taken (suc n) f h k = le-ltb (not32 f) handed_from (omega arith)

pub stored_empty : (f : ℕ) → skips (word_for 0 f) ≡ true
stored_empty f = refl

-- ---- a call that was done

module _ (ns : List ℕ) (few : sum ns ≤ most_slots) where
  first_small : (t : ℕ) → first ns t ≤ 2 ^ 24
  first_small t = omega (arith, first_within ns t, small.slots)

  -- tile t's first slot is the sum of the counts before it
  pub word_at : (t : ℕ) → t < length ns → get_or (hand 0 ns) t 0 ≡ word_for (get_or ns t 0) (first ns t)
  word_at t h = hand_at 0 ns t h ∙ ap (word_for (get_or ns t 0)) (zero-add (first ns t))

  -- a stored word reads back as its tile's first slot
  pub reads_back : (t : ℕ) → t < length ns → 0 < get_or ns t 0 → not32 (get_or (hand 0 ns) t 0) ≡ first ns t
  reads_back t h k = rw (word_at t h) (stored_first (get_or ns t 0) (first ns t) k (omega (arith, first_small t)))

  -- tiling skips exactly the empty tiles
  pub skips_empty : (t : ℕ) → t < length ns → get_or ns t 0 ≡ 0 → skips (get_or (hand 0 ns) t 0) ≡ true
  skips_empty t h e = rw (word_at t h, e) (stored_empty (first ns t))

  pub skips_no_other : (t : ℕ) → t < length ns → 0 < get_or ns t 0 → skips (get_or (hand 0 ns) t 0) ≡ false
  skips_no_other t h k = rw (word_at t h) (stored_taken (get_or ns t 0) (first ns t) k (omega (arith, first_small t)))

-- ---- the slots of a tile: from its first, as many as its count

abbrev pub HasSlot : List ℕ → ℕ → ℕ → Type 0
HasSlot ns t k = (first ns t ≤ k) × (k < first ns t + get_or ns t 0)

-- they rise with the tile's number
pub slots_rise : (ns : List ℕ) (t u j k : ℕ) → t < u → HasSlot ns t j → HasSlot ns u k → j < k
slots_rise ns t u j k h a b = omega (arith, first_apart ns t u h)

-- no slot is two tiles'
pub slots_once : (ns : List ℕ) (t u k : ℕ) → HasSlot ns t k → HasSlot ns u k → t ≡ u
slots_once ns t u k a b = placed_once ns k t u a.0 a.1 b.0 b.1

-- they lie below the sum, and each slot below the sum is some tile's
pub slots_within : (ns : List ℕ) (t k : ℕ) → HasSlot ns t k → k < sum ns
slots_within ns t k a = omega (arith, first_within ns t)

pub slots_fill : (ns : List ℕ) (k : ℕ) → k < sum ns → (t : ℕ) × (t < length ns) × HasSlot ns t k
slots_fill ns k h = let w = placed ns k h in (w.place, w.inside, (w.low, w.high))

-- ---- the call, by what its checks find

module _ (room : ℕ) (ns kept : List ℕ) where
  pub call_done : first_no (hand_checks room ns (length kept)) ≡ Fine → hand_out_of room ns kept ≡ out_of Done (hand 0 ns) ns
  unfolding hand_out_of
  call_done e = rw e

-- the promise admits one answer only, and one list each
pub out_once : (a b : Answer) (ts us ks ls : List ℕ) → out_of a ts ks ≡ out_of b us ls → (a ≡ b) × (ts ≡ us) × (ks ≡ ls)
out_once a b ts us ks ls e = (paper_once a b (ap (λ (o : Out). o.paper) e), ap (λ (o : Out). o.stored) e, ap (λ (o : Out). o.tally) e)
