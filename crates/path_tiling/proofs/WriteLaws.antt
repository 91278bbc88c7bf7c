-- The writes of a range, and of a call. Assumes nothing.
--     range_made     where each write comes from
--     range_good     each write's slot is among the slots, and both ends of its segment lie in the tile, for every input
--     range_append   two ranges one after another are one
--     calls_join     two calls one after another are one; then_tiled says it of the segments and tags
use Prim.Native.Nat.{ℕ, zero, suc, ◌+◌, ◌-◌, ◌/◌, ◌≤◌}
use native.Mathlib.Omega.{arith}
use mathlib.Core.Path.{◌≡◌, refl, sym, ap, ◌∙◌}
use mathlib.Core.List.{List, [], ◌∷◌}
use lib.ListN.{length}
use borrow.Author.Tests.{le-leb}
use Rattle.lists.specs.Run.{All, act_all_append}
use Rattle.panel.specs.Widths.{ref_words}
use Rattle.panel.specs.Answer.{Answer}
use Rattle.panel.specs.Answer.{Done, Refused}
use Rattle.looks.specs.Look.{Lent, packed_at, look_of}
use Rattle.panel.specs.Pieces.{Pieces, placed}
use Rattle.path_tiling.specs.Tiling.{Write, write_of, Range, range, look_then_word, range_of, slots_of, applied, whole_of, checks_of, checked_then, call_of, tiled, range_tiled, then_on, then_range, Made}
use Rattle.looks.specs.Looked.{Look}
use Rattle.looks.specs.Looked.{Put, Empty, Against}
use Rattle.looks.proofs.PutLaws.{Good, put_good}
use Rattle.looks.proofs.FoundLaws.{look_is}
use Rattle.looks.proofs.OneLaws.{AsLong, long_self, long_then, long_placed}

-- ---- where writes come from

all_more : {A : Type 0} {P Q : A → Type 0} → ((x : A) → P x → Q x) → (xs : List A) → All P xs → All Q xs
all_more f [] ps = tt
all_more f (x ∷ xs) ps = (f x ps.0, all_more f xs ps.1)

module _ (L : Lent) (slots : ℕ) where
  more : (n k : ℕ) (w : Write) → Made L slots n (suc k) w → Made L slots (suc n) k w
  more n k w m = record { low = omega (arith, m.low); high = omega (arith, m.high); looked = m.looked; line = m.line; path = m.path; tag = m.tag }

  pub range_made : (n k : ℕ) → All (Made L slots n k) (range_of L slots n k).writes
  unfolding range_of
  range_made zero k = tt
  range_made (suc n) k = go (look_of L slots k) refl (all_more (more n k) (range_of L slots n (suc k)).writes (range_made n (suc k)))
    where
      go : (l : Look) → look_of L slots k ≡ l → All (Made L slots (suc n) k) (range_of L slots n (suc k)).writes
          → All (Made L slots (suc n) k) (look_then_word L k l (range_of L slots n (suc k))).writes
      go (Put slot s) e h = (record { low = omega arith; high = omega arith; looked = e; line = refl; path = refl; tag = refl }, h)
      go Empty e h = h
      go (Against why) e h = tt

  made_good : (n k : ℕ) (w : Write) → Made L slots n k w → Good slots w.slot w.segment
  made_good n k w m = put_good L.stored slots (packed_at L.refs w.ref) _ (sym (look_is L slots w.ref) ∙ m.looked)

  pub range_good : (n k : ℕ) → All (λ w. Good slots w.slot w.segment) (range_of L slots n k).writes
  range_good n k = all_more (made_good n k) (range_of L slots n k).writes (range_made n k)

  -- ---- one range after another

  look_then : (k : ℕ) (l : Look) (r next : Range) → look_then_word L k l (then_range r next) ≡ then_range (look_then_word L k l r) next
  look_then k (Put slot s) r next = go r.answer
    where
      w : Write
      w = write_of L k slot.0 s

      go : (a : Answer) → range (w ∷ (then_on a r.writes next).writes) (then_on a r.writes next).answer ≡ then_on a (w ∷ r.writes) next
      go Done = refl
      go (Refused why item) = refl
  look_then k Empty r next = refl
  look_then k (Against why) r next = refl

  pub range_append : (n m k : ℕ) → range_of L slots (n + m) k ≡ then_range (range_of L slots n k) (range_of L slots m (k + n))
  unfolding range_of
  range_append zero m k =
      let here : k + 0 ≡ k = omega arith in
      let all : 0 + m ≡ m = omega arith in
      rw (here, all)
  range_append (suc n) m k =
      let left : suc n + m ≡ suc (n + m) = omega arith in
      let right : k + suc n ≡ suc k + n = omega arith in
      rw (left, right, range_append n m (suc k)) (look_then k (look_of L slots k) (range_of L slots n (suc k)) (range_of L slots m (suc k + n)))

-- ---- one call after another

pub long_applied : (ws : List Write) (p : Pieces) → AsLong p (applied ws p)
long_applied [] p = long_self p
long_applied (w ∷ ws) p =
    long_then (long_placed w.slot w.segment w.tag p) (long_applied ws (placed w.slot w.segment w.tag p))

pub length_applied : (ws : List Write) (p : Pieces) → length (applied ws p).segments ≡ length p.segments
length_applied ws p = (long_applied ws p).segments

-- where the first is not refused, the second starts from the segments and tags that the first left
pub then_tiled : (r next : Range) (p : Pieces) → r.answer ≡ Done → range_tiled (then_range r next) p ≡ range_tiled next (applied r.writes p)
then_tiled r next p e =
    rw e (ap (λ (l : Pieces). tiled next.answer l) (act_all_append (λ w. placed w.slot w.segment w.tag) r.writes next.writes p))

-- and where it is, that is the answer
pub then_refused : (r next : Range) (why item : ℕ) → r.answer ≡ Refused why item → then_range r next ≡ range r.writes (Refused why item)
then_refused r next why item e = rw e

module _ (from mid to : ℕ) (L : Lent) (p : Pieces) (f : from ≤ mid) (g : mid ≤ to) (h : to ≤ length L.refs / ref_words) where
  checks_first : checks_of from mid L p ≡ checks_of from to L p
  unfolding checks_of whole_of
  checks_first =
      rw (
        le-leb from mid f,
        le-leb from to (omega arith),
        le-leb mid (length L.refs / ref_words) (omega arith),
        le-leb to (length L.refs / ref_words) h,
      )

  checks_next : (q : Pieces) → AsLong p q → checks_of mid to L q ≡ checks_of from to L p
  unfolding checks_of whole_of
  checks_next q e = rw (e.segments, e.tags, le-leb mid to g, le-leb from to (omega arith))

  pub calls_join : call_of from to L p ≡ then_range (call_of from mid L p) (call_of mid to L (applied (call_of from mid L p).writes p))
  unfolding call_of
  calls_join =
      rw (
        checks_first,
        checks_next _ (long_applied (checked_then (checks_of from to L p) (range_of L (slots_of (length p.segments)) (mid - from) from)).writes p),
        length_applied (checked_then (checks_of from to L p) (range_of L (slots_of (length p.segments)) (mid - from) from)).writes p,
      )
      (go (checks_of from to L p))
    where
      slots : ℕ
      slots = slots_of (length p.segments)

      go : (a : Answer)
          → checked_then a (range_of L slots (to - from) from)
          ≡ then_range (checked_then a (range_of L slots (mid - from) from)) (checked_then a (range_of L slots (to - mid) mid))
      go Done =
          let sum : to - from ≡ (mid - from) + (to - mid) = omega arith in
          let here : from + (mid - from) ≡ mid = omega arith in
          rw sum (range_append L slots (mid - from) (to - mid) from ∙ rw here)
      go (Refused why item) = refl
