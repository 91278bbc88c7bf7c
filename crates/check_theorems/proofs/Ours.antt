-- Our own count, where it is done: its references apart from memory, in order, and what it leaves of them. Assumes nothing.
use mathlib.Core.Path.{◌≡◌, sym, ap, ◌∙◌}
use mathlib.Core.List.{List, [], ◌∷◌}
use Prim.Native.Nat.{ℕ, ◌-◌, ◌≤◌, ◌<◌}
use native.Mathlib.Omega.{arith}
use lib.ListN.{length, get_or, length-replicate}
use lib.IntN.{pos}
use lib.Ieee.{Float}
use Rattle.lists.specs.Run.{done, All}
use Rattle.lists.specs.Sums.{sum, from}
use Rattle.lists.specs.Tally.{Below, count_sum}
use Rattle.panel.specs.Limits.{most_slots}
use Rattle.panel.specs.Paths.{end_of, paths_answer}
use Rattle.panel.specs.Answer.{Done}
use Rattle.panel.proofs.PathLaws.{checked}
use Rattle.acts.specs.Acts.{St}
use Rattle.path_count.specs.Count.{batch}
use Rattle.own_count.specs.Own.{zeroed, own_to, own_ran}
use Rattle.theorems.specs.Events.{Event, EventOwn, tiles_ev, counts_of}
use Rattle.theorems.proofs.Counting.{Counted, batch_counted, length_tiles}
use Rattle.theorems.proofs.BatchLaws.{SameLengths, same_lengths}
use Rattle.check_theorems.proofs.Lines.{all_events, LineGoes, batch_goes}

-- references that are on their own paths' tiles are on tiles that there are
own_below : (nos : List ℕ) (coords : List Float) (paths : List ℕ) (n : ℕ) → paths_answer paths n ≡ Done → (es : List Event) → All (EventOwn nos coords paths) es
    → Below n (tiles_ev es)
own_below nos coords paths n passed [] o = tt
own_below nos coords paths n passed (e ∷ es) o =
    let p = o.0 in
    let f = (checked paths n passed).fits (get_or nos e.line 0) p.path_in in
    let w : end_of p.box ≤ n = rw p.box_is f.within in
    (omega (arith, p.held.1), own_below nos coords paths n passed es o.1)

module _ (nos : List ℕ) (coords : List Float) (paths : List ℕ) (n : ℕ) (passed : paths_answer paths n ≡ Done) (ours : St)
    (ran : own_ran nos coords paths n ≡ done ours) where
  as_batch : batch nos coords paths most_slots 0 (length nos) (zeroed n) ≡ done ours
  unfolding own_to
  as_batch = ran

  abbrev pub own : List Event
  own = all_events nos coords paths (length nos)

  counted : Counted nos coords paths n passed most_slots (from 0 (length nos)) (zeroed n) ours
  counted =
      let z : length nos - 0 ≡ length nos = omega arith in
      rw z at (batch_counted nos coords paths n passed most_slots 0 (length nos) (zeroed n) ours as_batch)

  pub goes : (l : ℕ) → l < length nos → LineGoes nos coords paths l
  goes = batch_goes nos coords paths n passed most_slots (length nos) (zeroed n) ours as_batch

  pub made_is : ours.made ≡ length own
  made_is = omega (arith, counted.moved.made)

  pub counts_are : ours.counts ≡ counts_of n (tiles_ev own)
  counts_are = counted.moved.counts

  pub tiles_in_lem : Below n (tiles_ev own)
  tiles_in_lem = own_below nos coords paths n passed own counted.own

  pub all_own : All (EventOwn nos coords paths) own
  all_own = counted.own

  -- the counts' sum is the number of references
  pub total : sum ours.counts ≡ ours.made
  total = ap sum counts_are ∙ count_sum n (tiles_ev own) tiles_in_lem ∙ length_tiles own ∙ sym made_is

  lengths : SameLengths (zeroed n) ours
  lengths = same_lengths nos coords paths n passed most_slots 0 (length nos) (zeroed n) ours as_batch

  pub counts_long : length ours.counts ≡ n
  counts_long = lengths.counts ∙ length-replicate n 0

  pub backs_long : length ours.backs ≡ n
  backs_long = lengths.backs ∙ length-replicate n (pos 0)

  -- no more than the limit
  pub few : ours.made ≤ most_slots
  few = omega (arith, counted.fits (omega arith))
