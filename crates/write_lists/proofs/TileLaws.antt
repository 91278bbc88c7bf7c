-- The screen's tiles one by one: those left, checked or written from here, come to the same as all of them. Assumes nothing.
use mathlib.Core.Path.{◌≡◌, refl, sym, ap, ◌∙◌}
use mathlib.Core.Bool.{Bool, true, false, ◌&&◌, and-true, and_assoc}
use mathlib.Core.List.{List, [], ◌∷◌}
use Prim.Native.Nat.{ℕ, zero, suc, ◌+◌, ◌*◌, ◌/◌, ◌≤◌, ◌<◌}
use native.Mathlib.Nat.{zero-mul}
use native.Mathlib.Omega.{arith}
use borrow.Author.Tests.{eqb-true, leb-true}
use lib.Dec.{leb}
use lib.ListN.{length}
use Rattle.lists.specs.Sums.{from}
use Rattle.panel.specs.Limits.{most_tiles, most_slots, most_commands}
use Rattle.panel.specs.Refusals.{too_long_word}
use Rattle.panel.specs.Widths.{path_words, paint_words}
use Rattle.panel.specs.Checks.{first_no, unless}
use Rattle.panel.specs.Paths.{paths_answer}
use Rattle.panel.specs.Answer.{Answer}
use Rattle.panel.specs.Answer.{Done, Refused}
use Rattle.panel.proofs.CheckLaws.{all_ok, unless_done}
use Rattle.panel.proofs.BoolLaws.{both}
use Rattle.commands.specs.Numbers.{tile_words}
use Rattle.pairs.specs.Pairs.{Tables, tile_pairs}
use Rattle.lay_pairs.specs.Layout.{laid, jumps_of, own_words, pen_of, commands_of, written}
use Rattle.lay_pairs.specs.Slots.{slots_fit, all_fit}
use Rattle.write_lists.specs.Lists.{lent_checks, call_answer, long_from, fresh_of, fills_fit, room_checks, lists_from, regions_of, then_check, answer_of, lists_of, left, write_lists_of}
use Rattle.pairs.specs.Ready.{Ready}
use Rattle.lay_pairs.specs.Room.{words_named, Room}
use Rattle.tile_list.specs.Weight.{no_weight, weigh_all}
use Rattle.write_lists.specs.Ready.{tiles_answer}
use Rattle.pairs.specs.declared.Pair.{Pair}
use Rattle.pairs.specs.declared.Pair.TheVariants.{Fill, Solid}
use Rattle.tile_list.specs.declared.weigh.Weight.{Weight}
use Rattle.tile_list.proofs.WeighLaws.{weighed_pairs, weighed_jumps, weighed_slots}
use Rattle.lay_pairs.proofs.LayLaws.{written_append, length_written}

-- ---- checked

-- a tile's weight
pub record Weighed (room : ℕ) (ps : List Pair) (w : Weight) : Type 0 where
  pub pairs : w.pairs ≡ length ps
  pub jumps : w.jumps ≡ jumps_of own_words ps
  pub slots : w.slots ≡ all_fit room ps

pub weighed : (room : ℕ) (ps : List Pair) (w : Weight) → w ≡ weigh_all room ps no_weight → Weighed room ps w
weighed room ps w e =
    rw e
    (record {
      pairs = weighed_pairs room ps no_weight ∙ omega arith;
      jumps = weighed_jumps room ps no_weight ∙ omega arith;
      slots = weighed_slots room ps no_weight;
    })

module _ (s : Tables) (cols room n lent fresh : ℕ) (slots : Bool) where
  pub answer_long : (t : ℕ) (ts : List ℕ) → leb (commands_of (tile_pairs s cols t)) most_commands ≡ false
      → tiles_answer s cols room n lent fresh slots (t ∷ ts) ≡ Refused too_long_word t
  unfolding tiles_answer
  answer_long t ts e = rw e

  pub answer_turn : (t : ℕ) (ts : List ℕ) (fresh' : ℕ) (slots' : Bool) → leb (commands_of (tile_pairs s cols t)) most_commands ≡ true
      → fresh' ≡ fresh + jumps_of own_words (tile_pairs s cols t) → slots' ≡ slots && all_fit room (tile_pairs s cols t)
      → tiles_answer s cols room n lent fresh' slots' ts ≡ tiles_answer s cols room n lent fresh slots (t ∷ ts)
  unfolding tiles_answer
  answer_turn t ts fresh' slots' e f g =
      let sum : fresh' + fresh_of s cols ts ≡ fresh + (jumps_of own_words (tile_pairs s cols t) + fresh_of s cols ts) = omega arith in
      let both : slots' && fills_fit s cols room ts ≡ slots && (all_fit room (tile_pairs s cols t) && fills_fit s cols room ts) =
      ap (λ (b : Bool). b && fills_fit s cols room ts) g ∙ and_assoc slots (all_fit room (tile_pairs s cols t)) (fills_fit s cols room ts) in
      rw (e, sum, both)

  pub answer_end : tiles_answer s cols room n lent fresh slots [] ≡ unless (first_no (room_checks (n + fresh) lent slots)) 0 Done
  unfolding tiles_answer
  answer_end = let sum : fresh + 0 ≡ fresh = omega arith in rw (sum, and-true slots)

-- ---- written

-- with these tiles left and the next fresh region there, it comes to the same as all n from the start
pub record Tiled (s : Tables) (cols n fresh : ℕ) (ts : List ℕ) (words words₀ : List ℕ) : Type 0 where
  pub same : length words ≡ length words₀
  pub sum : fresh + tile_words * fresh_of s cols ts ≡ tile_words * (n + fresh_of s cols (from 0 n))
  pub slots : fills_fit s cols most_slots ts ≡ true
  pub memory : written (lists_from s cols fresh ts) words ≡ written (lists_from s cols (tile_words * n) (from 0 n)) words₀

module _ (s : Tables) (cols n : ℕ) (words₀ : List ℕ) where
  pub tiled_start : fills_fit s cols most_slots (from 0 n) ≡ true → Tiled s cols n (tile_words * n) (from 0 n) words₀ words₀
  tiled_start e = record { same = refl; sum = omega arith; slots = e; memory = refl }

  module _ (t fresh : ℕ) (ts words : List ℕ) (i : Tiled s cols n fresh (t ∷ ts) words words₀) where
    pub tiled_turn : (fresh' : ℕ) (words' : List ℕ) → fresh' ≡ fresh + tile_words * jumps_of own_words (tile_pairs s cols t)
        → words' ≡ written (laid (pen_of t fresh) (tile_pairs s cols t)) words → Tiled s cols n fresh' ts words' words₀
    tiled_turn fresh' words' e f =
        let chunks = laid (pen_of t fresh) (tile_pairs s cols t) in
        let next = fresh + tile_words * jumps_of own_words (tile_pairs s cols t) in
        rw (e, f)
        (record {
          same = length_written chunks words ∙ i.same;
          sum = omega (arith, i.sum);
          slots = (both (all_fit most_slots (tile_pairs s cols t)) (fills_fit s cols most_slots ts) i.slots).1;
          memory = sym (written_append chunks (lists_from s cols next ts) words) ∙ i.memory;
        })

    pub tile_room : t < n → tile_words * (n + fresh_of s cols (from 0 n)) ≤ length words₀ → tile_words * (n + fresh_of s cols (from 0 n)) ≤ words_named
        → Room (pen_of t fresh) (tile_pairs s cols t) (length words)
    tile_room h k m =
        record { here = omega (arith, i.same); jump = omega arith; fresh = omega (arith, i.same, i.sum); named = omega (arith, i.sum) }

    pub tile_slots : all_fit most_slots (tile_pairs s cols t) ≡ true
    tile_slots = (both (all_fit most_slots (tile_pairs s cols t)) (fills_fit s cols most_slots ts) i.slots).0

-- ---- the call

-- 1 to 4 passed
pub call_ready : (s : Tables) (cols rows : ℕ) → call_answer s cols rows ≡ Done → Ready s × (cols * rows ≤ most_tiles)
unfolding call_answer
call_ready s cols rows e =
    let np = length s.paths in
    let nc = length s.paints in
    let nb = length s.backdrops in
    let ns = length s.stored in
    let nk = length s.tally in
    let d = unless_done (first_no (lent_checks np nc nb ns nk cols rows)) 0 (paths_answer s.paths nb) e in
    let c = all_ok (lent_checks np nc nb ns nk cols rows) d.0 in (
      record { paints = eqb-true nc (paint_words * (np / path_words)) c.1.0; stored = eqb-true ns nb c.1.1.0; tally = eqb-true nk nb c.1.1.1.0; passed = d.1 },
      leb-true (cols * rows) most_tiles c.1.1.1.1.0,
    )

-- a screen that has a tile has a column
pub has_columns : (cols rows : ℕ) → 0 < cols * rows → 0 < cols
has_columns zero rows h = absurd (omega (arith, zero-mul rows))
has_columns (suc cols) rows h = omega arith

-- one check after another
pub then_done : (a b : Answer) → then_check a b ≡ Done → (a ≡ Done) × (b ≡ Done)
then_done Done b e = (refl, e)
then_done (Refused n i) b e = let z : ◌≡◌ {A = ℕ} 0 1 = cc in absurd (omega arith)

-- slots that fit a room named fit the limit
slots_most : (room : ℕ) (p : Pair) → slots_fit room p ≡ true → slots_fit most_slots p ≡ true
slots_most room (Fill count rule first backdrop colour) e =
    let f = both (leb (first + count) room) (leb (first + count) most_slots) e in
    rw f.1
slots_most room (Solid colour) e = refl

all_most : (room : ℕ) (ps : List Pair) → all_fit room ps ≡ true → all_fit most_slots ps ≡ true
all_most room [] e = refl
all_most room (p ∷ ps) e = let f = both (slots_fit room p) (all_fit room ps) e in rw (slots_most room p f.0) (all_most room ps f.1)

fills_most : (s : Tables) (cols room : ℕ) (ts : List ℕ) → fills_fit s cols room ts ≡ true → fills_fit s cols most_slots ts ≡ true
fills_most s cols room [] e = refl
fills_most s cols room (t ∷ ts) e =
    let f = both (all_fit room (tile_pairs s cols t)) (fills_fit s cols room ts) e in
    rw (all_most room (tile_pairs s cols t) f.0) (fills_most s cols room ts f.1)

-- 15 and 9 passed
pub tiles_ready : (s : Tables) (cols room n lent : ℕ) → tiles_answer s cols room n lent 0 true (from 0 n) ≡ Done
    → (tile_words * (n + fresh_of s cols (from 0 n)) ≤ lent) × (fills_fit s cols most_slots (from 0 n) ≡ true)
unfolding tiles_answer
tiles_ready s cols room n lent e =
    let need = tile_words * (n + (0 + fresh_of s cols (from 0 n))) in
    let checks = room_checks (n + (0 + fresh_of s cols (from 0 n))) lent (fills_fit s cols room (from 0 n)) in
    let d = unless_done (first_no checks) 0 Done (then_done (long_from s cols (from 0 n)) (unless (first_no checks) 0 Done) e).1 in
    let c = all_ok checks d.0 in
    (omega (arith, leb-true need lent c.0), fills_most s cols room (from 0 n) c.1.0)

module _ (s : Tables) (cols rows room : ℕ) (ws : List ℕ) where
  answer_is : call_answer s cols rows ≡ Done → answer_of s cols rows room (length ws) ≡ tiles_answer s cols room (cols * rows) (length ws) 0 true (from 0 (cols * rows))
  unfolding answer_of regions_of tiles_answer
  answer_is e = let sum : 0 + fresh_of s cols (from 0 (cols * rows)) ≡ fresh_of s cols (from 0 (cols * rows)) = omega arith in rw (e, sum)

  pub call_no : (a : Answer) {n item : ℕ} → a ≡ Refused n item → a ≡ call_answer s cols rows → left a ws ≡ write_lists_of s cols rows room ws
  unfolding write_lists_of answer_of
  call_no a e q = rw (← q, e)

  pub tiles_no : (a : Answer) {n item : ℕ} → call_answer s cols rows ≡ Done → a ≡ Refused n item
      → a ≡ tiles_answer s cols room (cols * rows) (length ws) 0 true (from 0 (cols * rows)) → left a ws ≡ write_lists_of s cols rows room ws
  unfolding write_lists_of
  tiles_no a d e q = rw (answer_is d, ← q, e)

  pub call_done : (ws' : List ℕ) → call_answer s cols rows ≡ Done → tiles_answer s cols room (cols * rows) (length ws) 0 true (from 0 (cols * rows)) ≡ Done
      → ws' ≡ written (lists_from s cols (tile_words * (cols * rows)) (from 0 (cols * rows))) ws → left Done ws' ≡ write_lists_of s cols rows room ws
  unfolding write_lists_of lists_of
  call_done ws' d e f = rw (answer_is d, e, f)
