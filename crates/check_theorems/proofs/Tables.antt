-- The tables beside our own count: the answer is one of the ways, and the only one. Assumes nothing.
use mathlib.Core.Path.{◌≡◌, refl, sym, ◌∙◌}
use mathlib.Core.Logic.{◌↔◌}
use mathlib.Core.Bool.{Bool}
use mathlib.Core.List.{List}
use Prim.Native.Nat.{ℕ, ◌≤◌, ◌<◌}
use native.Mathlib.Omega.{arith}
use native.Mathlib.Decide.{dec_lt}
use lib.ListN.{length}
use lib.IntN.{ℤ}
use borrow.Author.Tests.{lt-ltb, le-ltb}
use Rattle.acts.specs.Acts.{St}
use Rattle.meeting.specs.First.{first_of}
use Rattle.meeting.proofs.FirstLaws.{first_most, first_hit, first_missed, first_is}
use Rattle.made.specs.MadeAt.{Made}
use Rattle.entries.specs.Entries.{first_count_fault, first_slot_fault}
use Rattle.tile_check.specs.Faults.{ref_count, first_ref_fault, first_back_fault}
use Rattle.tile_check.specs.Tables.{no_if, tables_of}
use Rattle.tile_check.specs.Checked.{Checked, Yes, Reference, Count, Backdrop, Slots}
use Rattle.check_theorems.specs.Ways.{FirstAt, NoneAt, ref_faults, count_faults, back_faults, slot_faults, NoFault, TablesWay, reference, count, backdrop, slots, missing, fine}

-- ---- one table

module _ (fault : ℕ → Bool) (n : ℕ) where
  first_at : first_of fault n < n → FirstAt fault n (first_of fault n)
  first_at h = record { inside = h; at_fault = first_hit fault n h; before = first_missed fault n }

  none_at : (first_of fault n < n → ⊥) → NoneAt fault n
  none_at h i q = first_missed fault n i (omega (arith, first_most fault n))

  is_first : (j : ℕ) → FirstAt fault n j → j ≡ first_of fault n
  is_first j w = first_is fault n j (omega (arith, w.inside)) (λ h. w.at_fault) w.before

  is_none : NoneAt fault n → n ≡ first_of fault n
  is_none w = first_is fault n n (omega arith) (λ h. absurd (omega arith)) w

  named : (name : ℕ → Checked) (next : Checked) (j : ℕ) → FirstAt fault n j → no_if name (first_of fault n) n next ≡ name j
  named name next j w =
      let e = is_first j w in
      rw (← e, lt-ltb j n w.inside)

  passes : (name : ℕ → Checked) (next : Checked) → NoneAt fault n → no_if name (first_of fault n) n next ≡ next
  passes name next w = rw (le-ltb (first_of fault n) n (omega (arith, is_none w)))

-- ---- all of them

module _ (made : ℕ → ℕ → Made) (ours : St) (refs counts : List ℕ) (backs : List ℤ) (stored : List ℕ) (room : ℕ) where
  abbrev R : ℕ → Bool
  R = ref_faults made ours refs counts backs stored room

  abbrev C : ℕ → Bool
  C = count_faults made ours refs counts backs stored room

  abbrev B : ℕ → Bool
  B = back_faults made ours refs counts backs stored room

  abbrev S : ℕ → Bool
  S = slot_faults made ours refs counts backs stored room

  abbrev last : Checked
  last = no_if Reference (ref_count refs) ours.made Yes

  abbrev slots_on : Checked
  slots_on = no_if Slots (first_of S (length counts)) (length counts) last

  abbrev backs_on : Checked
  backs_on = no_if Backdrop (first_of B (length backs)) (length backs) slots_on

  abbrev counts_on : Checked
  counts_on = no_if Count (first_of C (length counts)) (length counts) backs_on

  in_order : tables_of made ours refs counts backs stored room ≡ no_if Reference (first_of R (ref_count refs)) (ref_count refs) counts_on
  unfolding tables_of first_ref_fault first_count_fault first_back_fault first_slot_fault
  in_order = refl

  abbrev Way : Checked → Type 0
  Way = TablesWay made ours refs counts backs stored room

  module _ (x : Checked) where
    by_refs : NoneAt R (ref_count refs) → tables_of made ours refs counts backs stored room ≡ counts_on
    by_refs r = in_order ∙ passes R (ref_count refs) Reference counts_on r

    by_counts : NoneAt R (ref_count refs) → NoneAt C (length counts) → tables_of made ours refs counts backs stored room ≡ backs_on
    by_counts r c = by_refs r ∙ passes C (length counts) Count backs_on c

    by_backs : NoneAt R (ref_count refs) → NoneAt C (length counts) → NoneAt B (length backs) → tables_of made ours refs counts backs stored room ≡ slots_on
    by_backs r c b = by_counts r c ∙ passes B (length backs) Backdrop slots_on b

    by_all : NoFault made ours refs counts backs stored room → tables_of made ours refs counts backs stored room ≡ last
    by_all w = by_backs w.of_refs w.of_counts w.of_backs ∙ passes S (length counts) Slots last w.of_slots

    back : Way x → x ≡ tables_of made ours refs counts backs stored room
    back (reference j e w) = e ∙ sym (in_order ∙ named R (ref_count refs) Reference counts_on j w)
    back (count t e r w) = e ∙ sym (by_refs r ∙ named C (length counts) Count backs_on t w)
    back (backdrop t e r c w) = e ∙ sym (by_counts r c ∙ named B (length backs) Backdrop slots_on t w)
    back (slots t e r c b w) = e ∙ sym (by_backs r c b ∙ named S (length counts) Slots last t w)
    back (missing e w h) = e ∙ sym (by_all w ∙ rw (lt-ltb (ref_count refs) ours.made h))
    back (fine e w h) = e ∙ sym (by_all w ∙ rw (le-ltb (ref_count refs) ours.made h))

    why : x ≡ tables_of made ours refs counts backs stored room → Way x
    why e = go (dec_lt (first_of R (ref_count refs)) (ref_count refs))
      where
        end : NoFault made ours refs counts backs stored room → Dec (ref_count refs < ours.made) → Way x
        end w (yes h) = missing (e ∙ by_all w ∙ rw (lt-ltb (ref_count refs) ours.made h)) w h
        end w (no h) = let q : ours.made ≤ ref_count refs = omega arith in fine (e ∙ by_all w ∙ rw (le-ltb (ref_count refs) ours.made q)) w q

        third : NoneAt R (ref_count refs) → NoneAt C (length counts) → NoneAt B (length backs) → Dec (first_of S (length counts) < length counts) → Way x
        third r c b (yes h) =
            let w = first_at S (length counts) h in
            slots (first_of S (length counts)) (e ∙ by_backs r c b ∙ named S (length counts) Slots last (first_of S (length counts)) w) r c b w
        third r c b (no h) = end (record { of_refs = r; of_counts = c; of_backs = b; of_slots = none_at S (length counts) h }) (dec_lt (ref_count refs) ours.made)

        second : NoneAt R (ref_count refs) → NoneAt C (length counts) → Dec (first_of B (length backs) < length backs) → Way x
        second r c (yes h) =
            let w = first_at B (length backs) h in
            backdrop (first_of B (length backs)) (e ∙ by_counts r c ∙ named B (length backs) Backdrop slots_on (first_of B (length backs)) w) r c w
        second r c (no h) = third r c (none_at B (length backs) h) (dec_lt (first_of S (length counts)) (length counts))

        first : NoneAt R (ref_count refs) → Dec (first_of C (length counts) < length counts) → Way x
        first r (yes h) =
            let w = first_at C (length counts) h in
            count (first_of C (length counts)) (e ∙ by_refs r ∙ named C (length counts) Count backs_on (first_of C (length counts)) w) r w
        first r (no h) = second r (none_at C (length counts) h) (dec_lt (first_of B (length backs)) (length backs))

        go : Dec (first_of R (ref_count refs) < ref_count refs) → Way x
        go (yes h) =
            let w = first_at R (ref_count refs) h in
            reference (first_of R (ref_count refs)) (e ∙ in_order ∙ named R (ref_count refs) Reference counts_on (first_of R (ref_count refs)) w) w
        go (no h) = first (none_at R (ref_count refs) h) (dec_lt (first_of C (length counts)) (length counts))

    -- a no names the first entry at fault, and there is one
    pub tables_exact : (x ≡ tables_of made ours refs counts backs stored room) ↔ Way x
    tables_exact = (why, back)

  -- a yes: no entry is at fault, and none is missing
  pub yes_fine : Yes ≡ tables_of made ours refs counts backs stored room → NoFault made ours refs counts backs stored room × (ours.made ≤ ref_count refs)
  yes_fine e = go (why Yes e)
    where
      go : Way Yes → NoFault made ours refs counts backs stored room × (ours.made ≤ ref_count refs)
      go (reference j q w) = let z : ◌≡◌ {A = ℕ} 0 1 = cc in absurd (omega arith)
      go (count t q r w) = let z : ◌≡◌ {A = ℕ} 0 1 = cc in absurd (omega arith)
      go (backdrop t q r c w) = let z : ◌≡◌ {A = ℕ} 0 1 = cc in absurd (omega arith)
      go (slots t q r c b w) = let z : ◌≡◌ {A = ℕ} 0 1 = cc in absurd (omega arith)
      go (missing q w h) = let z : ◌≡◌ {A = ℕ} 0 1 = cc in absurd (omega arith)
      go (fine q w h) = (w, h)

  pub fine_yes : NoFault made ours refs counts backs stored room → ours.made ≤ ref_count refs → Yes ≡ tables_of made ours refs counts backs stored room
  fine_yes w h = back Yes (fine refl w h)
