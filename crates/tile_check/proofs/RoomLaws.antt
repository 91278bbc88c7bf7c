-- The working room: what it holds of our own count stays where only words behind it change; the keys noted behind it.
-- Assumes nothing.
use mathlib.Core.Path.{◌≡◌, refl, sym, ap, ap₂, ◌∙◌}
use mathlib.Core.Bool.{Bool, true, false}
use mathlib.Core.Logic.{◌⊎◌, inl, inr}
use mathlib.Core.List.{List, [], map}
use Prim.Native.Nat.{ℕ, ◌+◌, ◌-◌, ◌≤◌, ◌<◌, min}
use native.Mathlib.Nat.{not-suc-le-zero}
use native.Mathlib.Omega.{arith}
use lib.ListN.{length, get_or, set, take, drop, length-take, length-drop, length-set}
use lib.Seq.{ext_get_or, get_or-take, get_or-drop, take-take, get_or-set_same, get_or-set_other}
use lib.Ieee.{Float}
use Rattle.float32.proofs.Tests.{below_or_not}
use Rattle.lists.specs.Run.{done}
use Rattle.lists.specs.Sums.{sum, first}
use Rattle.acts.specs.Acts.{st_of}
use Rattle.meeting.specs.Found.{KeptBelow}
use Rattle.meeting.proofs.Stores.{kept_store}
use Rattle.meeting.proofs.FirstLaws.{first_most, first_is}
use Rattle.entries.specs.Noted.{SumsNoted}
use Rattle.made.specs.MadeAt.{Made}
use Rattle.own_count.specs.Own.{own_ran}
use Rattle.own_count.specs.View.{back_of, view_of, StartsNoted}
use Rattle.own_count.proofs.LineLaws.{view_made}
use Rattle.tile_check.specs.Faults.{stray_ref}
use Rattle.tile_check.specs.Keys.{step_key, slice_key, sums_at, own_end, RoomHas, KeysNoted, NotedTo}
use Rattle.tile_check.proofs.StartLaws.{own_fewer}

-- ---- lists that agree before a place

take_same : (a : ℕ) (us ws : List ℕ) → length us ≡ length ws → ((k : ℕ) → k < a → get_or us k 0 ≡ get_or ws k 0) → take a us ≡ take a ws
take_same a us ws e f =
    ext_get_or 0 (take a us) (take a ws) (length-take a us ∙ ap (min a) e ∙ sym (length-take a ws))
    (λ k h. let g : k < a = omega (arith, length-take a us) in get_or-take a us k 0 g ∙ f k g ∙ sym (get_or-take a ws k 0 g))

module _ (tiles : ℕ) (ws ws' : List ℕ) (m : ℕ) (e : length ws' ≡ length ws) (f : (k : ℕ) → k < tiles + tiles → get_or ws' k 0 ≡ get_or ws k 0) where
  pub counts_same : take tiles ws' ≡ take tiles ws
  counts_same = take_same tiles ws' ws e (λ k h. f k (omega arith))

  pub view_same : view_of tiles ws' m ≡ view_of tiles ws m
  unfolding view_of
  view_same =
      ap₂ (λ (b c : List ℕ). st_of (map back_of b) c [] m)
      (take_same tiles (drop tiles ws') (drop tiles ws) (length-drop tiles ws' ∙ ap (λ (n : ℕ). n - tiles) e ∙ sym (length-drop tiles ws))
      (λ k h. get_or-drop tiles ws' k 0 ∙ f (tiles + k) (omega arith) ∙ sym (get_or-drop tiles ws k 0)))
      counts_same

module _ (nos : List ℕ) (coords : List Float) (paths : List ℕ) (tiles m : ℕ) (ws ws' : List ℕ) where
  -- our own count stays, and so do the starts
  pub room_kept : KeptBelow (own_end tiles (length nos)) ws ws' → RoomHas nos coords paths tiles m ws → RoomHas nos coords paths tiles m ws'
  room_kept k h =
      record {
        own = h.own ∙ ap done (sym (view_same tiles ws ws' m k.same_length (λ i l. k.kept i (omega arith))));
        starts = λ l g. k.kept (tiles + tiles + l) (omega arith) ∙ h.starts l g;
        sums =
            λ t g.
            k.kept (sums_at tiles (length nos) + t) (omega arith)
            ∙ h.sums t g
            ∙ ap (λ (l : List ℕ). first l t) (sym (counts_same tiles ws ws' m k.same_length (λ i l. k.kept i (omega arith))));
      }

  -- the starts of the tiles are noted
  pub room_made : own_ran nos coords paths tiles ≡ done (view_of tiles ws m) → StartsNoted nos coords paths tiles ws (tiles + tiles) (length nos)
      → KeptBelow (sums_at tiles (length nos)) ws ws' → SumsNoted ws ws' (sums_at tiles (length nos)) tiles → RoomHas nos coords paths tiles m ws'
  room_made own starts k s =
      record {
        own = own ∙ ap done (sym (view_same tiles ws ws' m k.same_length (λ i l. k.kept i (omega arith))));
        starts = λ l g. k.kept (tiles + tiles + l) (omega arith) ∙ starts l g;
        sums =
            λ t g.
            s t g
            ∙ ap sum (sym (take-take t tiles ws (omega arith)))
            ∙ ap (λ (l : List ℕ). first l t) (sym (counts_same tiles ws ws' m k.same_length (λ i l. k.kept i (omega arith))));
      }

-- ---- no more are counted than made

pub view_counts : (n : ℕ) (ws : List ℕ) (m : ℕ) → (view_of n ws m).counts ≡ take n ws
unfolding view_of
view_counts n ws m = refl

pub counted_most : (nos : List ℕ) (coords : List Float) (paths : List ℕ) (tiles m : ℕ) (ws : List ℕ)
    → own_ran nos coords paths tiles ≡ done (view_of tiles ws m) → sum (take tiles ws) ≤ m
counted_most nos coords paths tiles m ws e =
    omega (arith, own_fewer nos coords paths tiles (length nos) (view_of tiles ws m) e, ap sum (view_counts tiles ws m), view_made tiles ws m)

-- ---- one reference more is noted

module _ (made : ℕ → ℕ → Made) (start : ℕ → ℕ) (ours refs ws₀ ws : List ℕ) (a n j s l : ℕ) (h : j < n) (fits : a + n + n ≤ length ws) where
  abbrev put : List ℕ
  put = set (set ws (a + j) s) (a + n + j) l

  pub noted_kept : KeptBelow a ws₀ ws → KeptBelow a ws₀ (set (set ws (a + j) s) (a + n + j) l)
  noted_kept k = kept_store a (a + n + j) l ws₀ (set ws (a + j) s) (omega arith) (kept_store a (a + j) s ws₀ ws (omega arith) k)

  first_at : get_or put (a + j) 0 ≡ s
  first_at = get_or-set_other (set ws (a + j) s) (a + n + j) (a + j) l 0 (λ e. absurd (omega arith)) ∙ get_or-set_same ws (a + j) s 0 (omega arith)

  second_at : get_or put (a + n + j) 0 ≡ l
  second_at = get_or-set_same (set ws (a + j) s) (a + n + j) l 0 (omega (arith, length-set ws (a + j) s))

  stays : (k : ℕ) → (k ≡ a + j → ⊥) → (k ≡ a + n + j → ⊥) → get_or put k 0 ≡ get_or ws k 0
  stays k p q = get_or-set_other (set ws (a + j) s) (a + n + j) k l 0 q ∙ get_or-set_other ws (a + j) k s 0 p

  pub noted_more : KeysNoted made start ours refs ws a (a + n) j → s ≡ step_key made start refs j → l ≡ slice_key made ours refs j
      → KeysNoted made start ours refs (set (set ws (a + j) s) (a + n + j) l) a (a + n) (j + 1)
  noted_more k es el = record { steps = λ i g. one i g (below_or_not i j); slices = λ i g. two i g (below_or_not i j) }
    where
      one : (i : ℕ) → i < j + 1 → (i < j) ⊎ (j ≤ i) → get_or put (a + i) 0 ≡ step_key made start refs i
      one i g (inl p) = stays (a + i) (λ e. absurd (omega arith)) (λ e. absurd (omega arith)) ∙ k.steps i p
      one i g (inr p) = let e : i ≡ j = omega arith in rw e (first_at ∙ es)

      two : (i : ℕ) → i < j + 1 → (i < j) ⊎ (j ≤ i) → get_or put (a + n + i) 0 ≡ slice_key made ours refs i
      two i g (inl p) = stays (a + n + i) (λ e. absurd (omega arith)) (λ e. absurd (omega arith)) ∙ k.slices i p
      two i g (inr p) = let e : i ≡ j = omega arith in rw e (second_at ∙ el)

-- those so far aren't stray
pub fine_more : (p : ℕ → Bool) (j : ℕ) → ((i : ℕ) → i < j → p i ≡ false) → p j ≡ false → (i : ℕ) → i < j + 1 → p i ≡ false
fine_more p j h e i g = go (below_or_not i j)
  where
    go : (i < j) ⊎ (j ≤ i) → p i ≡ false
    go (inl l) = h i l
    go (inr l) = let q : i ≡ j = omega arith in rw q e

pub noted_none : (made : ℕ → ℕ → Made) (start : ℕ → ℕ) (ours refs ws : List ℕ) (a b : ℕ) → KeysNoted made start ours refs ws a b 0
noted_none made start ours refs ws a b = record { steps = λ j h. absurd (not-suc-le-zero h); slices = λ j h. absurd (not-suc-le-zero h) }

pub noted_to_lem : (made : ℕ → ℕ → Made) (start : ℕ → ℕ) (ours refs ws ws' : List ℕ) (a n r : ℕ) → r ≤ n → (r < n → stray_ref made ours refs r ≡ true)
    → ((i : ℕ) → i < r → stray_ref made ours refs i ≡ false) → KeptBelow a ws ws' → KeysNoted made start ours refs ws' a (a + n) r
    → NotedTo made start ours refs ws ws' a n r
noted_to_lem made start ours refs ws ws' a n r l e f k w = record { first_stray = first_is (stray_ref made ours refs) n r l e f; kept = k; noted = w }

pub noted_most : (made : ℕ → ℕ → Made) (start : ℕ → ℕ) (ours refs ws ws' : List ℕ) (a n r : ℕ) → NotedTo made start ours refs ws ws' a n r → r ≤ n
noted_most made start ours refs ws ws' a n r h = omega (arith, h.first_stray, first_most (stray_ref made ours refs) n)
