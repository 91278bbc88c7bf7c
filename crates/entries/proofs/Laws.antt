-- The loops over another's counts and slots: one turn of each, and its end. Assumes nothing.
use mathlib.Core.Path.{◌≡◌, refl, ap, subst, ◌∙◌}
use mathlib.Core.Bool.{Bool, true, false, not, cond, ◌&&◌}
use mathlib.Core.Logic.{⊎_elim}
use mathlib.Core.List.{List}
use Prim.Native.Nat.{ℕ, ◌+◌, ◌≤◌, ◌<◌, ◌^◌}
use native.Mathlib.Nat.{le_refl}
use native.Mathlib.Numerals.{add-one}
use native.Mathlib.Omega.{arith}
use lib.Dec.{ltb}
use lib.ListN.{length, get_or, set, length-set}
use lib.Seq.{get_or-set_same, get_or-set_other}
use borrow.Author.Tests.{eq-eqb, ne_eqb, lt-ltb, ltb-false}
use Rattle.lists.specs.Sums.{first, first_suc, first_apart}
use Rattle.lists.specs.GridLaws.{le_or_lt}
use Rattle.meeting.specs.First.{first_of}
use Rattle.meeting.specs.Meeting.{meets_earlier, first_meeting, starts_at, lens_in}
use Rattle.meeting.specs.Found.{KeptBelow}
use Rattle.meeting.proofs.FirstLaws.{first_is, first_most, first_missed, first_or}
use Rattle.meeting.proofs.Stores.{there_any}
use Rattle.meeting.proofs.Windows.{meeting_same}
use Rattle.entries.specs.Entries.{count_fault, first_count_fault, first_slot, slot_count, past_room, slot_fault, first_slot_fault}
use Rattle.entries.specs.Noted.{noted_slot, SlotsNoted, SlotsTo, SumsNoted}

-- what is so of each number below t, and of t
pub below_next : (p : ℕ → Bool) (t : ℕ) → ((i : ℕ) → i < t → p i ≡ false) → p t ≡ false → (i : ℕ) → i < t + 1 → p i ≡ false
below_next p t f e i h =
    ⊎_elim (λ (q : t ≤ i). let s : t ≡ i = omega arith in subst (λ (k : ℕ). p k ≡ false) s e) (λ (q : i < t). f i q) (le_or_lt t i)

-- ---- counts

pub count_same : (counts ours : List ℕ) (t : ℕ) → get_or counts t 0 ≡ get_or ours t 0 → count_fault counts ours t ≡ false
count_same counts ours t e = ap not (eq-eqb (get_or counts t 0) (get_or ours t 0) e)

pub count_here : (counts ours : List ℕ) (t : ℕ) → t < length counts → ((i : ℕ) → i < t → count_fault counts ours i ≡ false) → (get_or counts t 0 ≡ get_or ours t 0 → ⊥)
    → t ≡ first_count_fault counts ours
unfolding first_count_fault
count_here counts ours t h f n =
    first_is (count_fault counts ours) (length counts) t (omega arith) (λ q. ap not (ne_eqb (get_or counts t 0) (get_or ours t 0) n)) f

pub count_end : (counts ours : List ℕ) (t : ℕ) → t ≡ length counts → ((i : ℕ) → i < t → count_fault counts ours i ≡ false) → t ≡ first_count_fault counts ours
unfolding first_count_fault
count_end counts ours t h f = first_is (count_fault counts ours) (length counts) t (omega arith) (λ q. absurd (omega arith)) f

-- ---- slots

pub slots_store : (counts stored ws₀ ws : List ℕ) (at t w : ℕ) → at + t < length ws → KeptBelow at ws₀ ws → w ≡ noted_slot (slot_count counts t) (get_or stored t 0)
    → SlotsNoted counts stored ws at t → KeptBelow at ws₀ (set ws (at + t) w) × SlotsNoted counts stored (set ws (at + t) w) at (t + 1)
slots_store counts stored ws₀ ws at t w h k e f = (
  record {
    same_length = length-set ws (at + t) w ∙ k.same_length;
    kept = λ j l. get_or-set_other ws (at + t) j w 0 (λ q. omega arith) ∙ k.kept j l;
  },
  λ i l. ⊎_elim
      (λ (q : t ≤ i). let s : t ≡ i = omega arith in
      subst (λ (m : ℕ). get_or (set ws (at + t) w) (at + m) 0 ≡ noted_slot (slot_count counts m) (get_or stored m 0)) s (get_or-set_same ws (at + t) w 0 h ∙ e))
      (λ (q : i < t). get_or-set_other ws (at + t) (at + i) w 0 (λ r. omega arith) ∙ f i q)
      (le_or_lt t i),
)

pub past_here : (room : ℕ) (counts stored : List ℕ) (t : ℕ) → t < length counts → ((i : ℕ) → i < t → past_room room counts stored i ≡ false)
    → past_room room counts stored t ≡ true → t ≡ first_of (past_room room counts stored) (length counts)
past_here room counts stored t h f e = first_is (past_room room counts stored) (length counts) t (omega arith) (λ q. e) f

pub past_end : (room : ℕ) (counts stored : List ℕ) (t : ℕ) → t ≡ length counts → ((i : ℕ) → i < t → past_room room counts stored i ≡ false)
    → t ≡ first_of (past_room room counts stored) (length counts)
past_end room counts stored t h f = first_is (past_room room counts stored) (length counts) t (omega arith) (λ q. absurd (omega arith)) f

pub slots_most : (room : ℕ) (counts stored ws ws' : List ℕ) (at r : ℕ) → SlotsTo room counts stored ws ws' at r → r ≤ length counts
slots_most room counts stored ws ws' at r s = omega (arith, s.first_past, first_most (past_room room counts stored) (length counts))

-- the first of those that lie past the room, then the first meeting among those before it
slots_or : (room : ℕ) (counts stored : List ℕ) → first_meeting (first_slot stored) (slot_count counts) (first_of (past_room room counts stored) (length counts))
    ≡ first_slot_fault room counts stored
unfolding first_slot_fault slot_fault first_meeting
slots_or room counts stored = first_or (past_room room counts stored) (meets_earlier (first_slot stored) (slot_count counts)) (length counts)

module _ (room : ℕ) (counts stored ws ws' : List ℕ) (at n : ℕ) (s : SlotsTo room counts stored ws ws' at n) where
  long : (i : ℕ) → i < n → lens_in counts i ≡ slot_count counts i
  long i h = there_any counts i 1 0 (omega (arith, slots_most room counts stored ws ws' at n s))

  -- a tile that has slots has its first one noted
  own : (i : ℕ) → i < n → 0 < lens_in counts i → starts_at ws' at i ≡ first_slot stored i
  own i h g = s.noted i h ∙ ap (λ (b : Bool). cond b (first_slot stored i) 0) (lt-ltb 0 (slot_count counts i) (omega (arith, long i h)))

  pub slots_whole : (r : ℕ) → r ≡ first_meeting (starts_at ws' at) (lens_in counts) n → r ≡ first_slot_fault room counts stored
  slots_whole r e =
      e
      ∙ meeting_same (starts_at ws' at) (first_slot stored) (lens_in counts) (slot_count counts) n own long
      ∙ ap (λ (k : ℕ). first_meeting (first_slot stored) (slot_count counts) k) s.first_past
      ∙ slots_or room counts stored

  -- what is noted lies within the room
  pub slots_low : (i : ℕ) → i < n → starts_at ws' at i ≤ room
  slots_low i h =
      let c = slot_count counts i in
      go (ltb 0 c) refl (s.noted i h) (first_missed (past_room room counts stored) (length counts) i (omega (arith, s.first_past)))
    where
      go : (b : Bool) → ltb 0 (slot_count counts i) ≡ b → get_or ws' (at + i) 0 ≡ cond (ltb 0 (slot_count counts i)) (first_slot stored i) 0
          → (ltb 0 (slot_count counts i) && ltb room (first_slot stored i + slot_count counts i)) ≡ false → starts_at ws' at i ≤ room
      go true p e q =
          let within : ltb room (first_slot stored i + slot_count counts i) ≡ false = rw p at q in
          let is : get_or ws' (at + i) 0 ≡ first_slot stored i = rw p at e in
          omega (arith, is, ltb-false room (first_slot stored i + slot_count counts i) within)
      go false p e q =
          let is : get_or ws' (at + i) 0 ≡ 0 = rw p at e in
          omega (arith, is)

-- ---- sums

pub first_mono : (l : List ℕ) (t u : ℕ) → t ≤ u → first l t ≤ first l u
first_mono l t u h =
    ⊎_elim (λ (q : u ≤ t). let s : t ≡ u = omega arith in rw s (le_refl (first l u))) (λ (q : t < u). omega (arith, first_apart l t u q)) (le_or_lt u t)

pub sums_turn : (ws₀ ws : List ℕ) (at n t sum : ℕ) → t < n → n ≤ at → at + n ≤ length ws₀ → first ws₀ n < 2 ^ 32 → KeptBelow at ws₀ ws → SumsNoted ws₀ ws at t → sum ≡ first ws₀ t
    → KeptBelow at ws₀ (set ws (at + t) sum) × SumsNoted ws₀ (set ws (at + t) sum) at (t + 1) × (sum + get_or ws t 0 ≡ first ws₀ (t + 1)) × (sum + get_or ws t 0 < 2 ^ 32)
sums_turn ws₀ ws at n t sum h na fits small k f e = (
  record {
    same_length = length-set ws (at + t) sum ∙ k.same_length;
    kept = λ j l. get_or-set_other ws (at + t) j sum 0 (λ q. omega arith) ∙ k.kept j l;
  },
  (λ i l. ⊎_elim
      (λ (q : t ≤ i). let s : t ≡ i = omega arith in
      subst (λ (m : ℕ). get_or (set ws (at + t) sum) (at + m) 0 ≡ first ws₀ m) s (get_or-set_same ws (at + t) sum 0 there ∙ e))
      (λ (q : i < t). get_or-set_other ws (at + t) (at + i) sum 0 (λ r. omega arith) ∙ f i q)
      (le_or_lt t i)),
  next,
  omega (arith, next, first_mono ws₀ (t + 1) n (omega arith)),
)
  where
    there : at + t < length ws
    there = omega (arith, k.same_length)

    next : sum + get_or ws t 0 ≡ first ws₀ (t + 1)
    next = omega (arith, k.kept t (omega arith), first_suc ws₀ t, ap (first ws₀) (add-one t))
