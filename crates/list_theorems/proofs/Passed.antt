-- What a call that is done has been checked for, and what it left. Assumes nothing.
use mathlib.Core.Path.{◌≡◌, refl, sym, ap, subst}
use mathlib.Core.Bool.{Bool, true, false, cond}
use mathlib.Core.List.{List, [], ◌∷◌}
use Prim.Native.Nat.{ℕ, zero, suc, ◌+◌, ◌*◌, ◌≤◌, ◌<◌}
use native.Mathlib.Decide.{ℕ_discrete}
use native.Mathlib.Omega.{arith}
use lib.Dec.{leb}
use lib.ListN.{length}
use borrow.Author.Tests.{leb-true}
use Rattle.lists.specs.Run.{All}
use Rattle.lists.specs.Sums.{from}
use Rattle.panel.specs.Limits.{most_tiles, most_slots, most_commands}
use Rattle.panel.specs.Refusals.{too_long_word}
use Rattle.panel.specs.Paths.{paths_answer}
use Rattle.panel.specs.Answer.{Answer, Done, Refused}
use Rattle.panel.proofs.CheckLaws.{all_ok, unless_done}
use Rattle.panel.proofs.KindLaws.{paper_once}
use Rattle.panel.proofs.BoolLaws.{both}
use Rattle.commands.specs.Numbers.{tile_words}
use Rattle.pairs.specs.Pairs.{Tables, tile_pairs}
use Rattle.lay_pairs.specs.Layout.{commands_of, written}
use Rattle.lay_pairs.specs.Slots.{slots_fit, all_fit}
use Rattle.write_lists.specs.Lists.{lent_checks, call_answer, long_from, fills_fit, room_checks, screen_tiles, regions_of, answer_of, lists_of, Left, left, on_done, write_lists_of}
use Rattle.pairs.specs.declared.Pair.{Pair}
use Rattle.pairs.specs.declared.Pair.TheVariants.{Fill, Solid}
use Rattle.write_lists.proofs.TileLaws.{then_done}
use Rattle.list_theorems.proofs.Regions.{Filled}

-- ---- one check after another

pub not_done : {P : Type 0} (n i : ℕ) → Refused n i ≡ Done → P
not_done n i e = let z : ◌≡◌ {A = ℕ} 0 1 = cc in absurd (omega arith)

long_done : (b : Bool) (a : Answer) (t : ℕ) → cond b a (Refused too_long_word t) ≡ Done → (b ≡ true) × (a ≡ Done)
long_done true a t e = (refl, e)
long_done false a t e = not_done too_long_word t e

-- ---- every tile

slots_filled : (room : ℕ) (p : Pair) → slots_fit room p ≡ true → Filled room p
slots_filled room (Fill count rule first backdrop colour) e = leb-true (first + count) room (both (leb (first + count) room) (leb (first + count) most_slots) e).0
slots_filled room (Solid colour) e = tt

all_filled : (room : ℕ) (ps : List Pair) → all_fit room ps ≡ true → All (Filled room) ps
all_filled room [] e = tt
all_filled room (p ∷ ps) e = let f = both (slots_fit room p) (all_fit room ps) e in (slots_filled room p f.0, all_filled room ps f.1)

module _ (s : Tables) (cols : ℕ) where
  pub few_commands : (n t u : ℕ) → t ≤ u → u < t + n → long_from s cols (from t n) ≡ Done → commands_of (tile_pairs s cols u) ≤ most_commands
  few_commands zero t u h k e = absurd (omega arith)
  few_commands (suc n) t u h k e = go (ℕ_discrete t u) (few_commands n (suc t) u) (long_done (leb (commands_of (tile_pairs s cols t)) most_commands) (long_from s cols (from (suc t) n)) t e)
    where
      go : Dec (t ≡ u) → (suc t ≤ u → u < suc t + n → long_from s cols (from (suc t) n) ≡ Done → commands_of (tile_pairs s cols u) ≤ most_commands)
          → (leb (commands_of (tile_pairs s cols t)) most_commands ≡ true) × (long_from s cols (from (suc t) n) ≡ Done) → commands_of (tile_pairs s cols u) ≤ most_commands
      go (yes q) ih f = subst (λ (v : ℕ). commands_of (tile_pairs s cols v) ≤ most_commands) q (leb-true (commands_of (tile_pairs s cols t)) most_commands f.0)
      go (no q) ih f = ih (omega arith) (omega arith) f.1

  tile_filled : (room n t u : ℕ) → t ≤ u → u < t + n → fills_fit s cols room (from t n) ≡ true → All (Filled room) (tile_pairs s cols u)
  tile_filled room zero t u h k e = absurd (omega arith)
  tile_filled room (suc n) t u h k e = go (ℕ_discrete t u) (tile_filled room n (suc t) u) (both (all_fit room (tile_pairs s cols t)) (fills_fit s cols room (from (suc t) n)) e)
    where
      go : Dec (t ≡ u) → (suc t ≤ u → u < suc t + n → fills_fit s cols room (from (suc t) n) ≡ true → All (Filled room) (tile_pairs s cols u))
          → (all_fit room (tile_pairs s cols t) ≡ true) × (fills_fit s cols room (from (suc t) n) ≡ true) → All (Filled room) (tile_pairs s cols u)
      go (yes q) ih f = subst (λ (v : ℕ). All (Filled room) (tile_pairs s cols v)) q (all_filled room (tile_pairs s cols t) f.0)
      go (no q) ih f = ih (omega arith) (omega arith) f.1

-- ---- the call

pub record Passed (s : Tables) (cols rows room : ℕ) (ws words : List ℕ) : Type 0 where
  pub few_tiles : cols * rows ≤ most_tiles
  pub short : (t : ℕ) → t < cols * rows → commands_of (tile_pairs s cols t) ≤ most_commands
  pub regions : tile_words * regions_of s cols rows ≤ length ws
  pub filled : (t : ℕ) → t < cols * rows → All (Filled room) (tile_pairs s cols t)
  pub are : words ≡ written (lists_of s cols rows) ws

left_done : (a : Answer) (old new words : List ℕ) → on_done a old new ≡ left Done words → (a ≡ Done) × (words ≡ new)
left_done Done old new words e = (refl, sym (ap (λ (l : Left). l.words) e))
left_done (Refused n i) old new words e = not_done n i (paper_once (Refused n i) Done (ap (λ (l : Left). l.paper) e))

pub passed : (s : Tables) (cols rows room : ℕ) (ws words : List ℕ) → write_lists_of s cols rows room ws ≡ left Done words → Passed s cols rows room ws words
unfolding write_lists_of answer_of call_answer
passed s cols rows room ws words e =
    let a = left_done (answer_of s cols rows room (length ws)) ws (written (lists_of s cols rows) ws) words e in
    let b = then_done (call_answer s cols rows) _ a.0 in
    let c = then_done (long_from s cols (screen_tiles cols rows)) _ b.1 in
    let d = all_ok (room_checks (regions_of s cols rows) (length ws) (fills_fit s cols room (screen_tiles cols rows))) (unless_done _ 0 Done c.1).0 in
    let f = all_ok (lent_checks (length s.paths) (length s.paints) (length s.backdrops) (length s.stored) (length s.tally) cols rows)
    (unless_done _ 0 (paths_answer s.paths (length s.backdrops)) b.0).0 in
    record {
      few_tiles = leb-true (cols * rows) most_tiles f.1.1.1.1.0;
      short = λ t h. few_commands s cols (cols * rows) 0 t (omega arith) (omega arith) c.0;
      regions = leb-true (tile_words * regions_of s cols rows) (length ws) d.0;
      filled = λ t h. tile_filled s cols room (cols * rows) 0 t (omega arith) (omega arith) d.1.0;
      are = a.1;
    }
