-- `hexlist::scan::Scan::feed` meets its contract. The loop's invariant: what is left of the text, from here, gives what the whole gives from the start. Assumes nothing.
use mathlib.Core.Path.{◌≡◌, sym, ◌∙◌}
use mathlib.Core.List.{List}
use Prim.Native.Nat.{ℕ, ◌+◌, ◌≤◌, ◌<◌}
use native.Mathlib.Numerals.{add-one}
use native.Mathlib.Omega.{arith}
use lib.ListN.{length, drop, get_or}
use lib.Seq.{drop-cons, drop-length}
use Rattle.hexlist.specs.Text.{State, take_of, feed_of}
use Rattle.hexlist.proofs.scan.Scan.feed.Goals as goal

turn : (text : List ℕ) (i : ℕ) (s t : State) → i < length text → t ≡ take_of (get_or text i 0) s → feed_of (drop (i + 1) text) t ≡ feed_of (drop i text) s
unfolding feed_of
turn text i s t h e = rw (e, add-one i, drop-cons text i 0 h)

done : (text : List ℕ) (i : ℕ) (s : State) → length text ≤ i → i ≤ length text → feed_of (drop i text) s ≡ s
unfolding feed_of
done text i s h l = let e : i ≡ length text = omega arith in rw (e, drop-length)

pub loop-b-preserved : goal.loop-b-preserved
loop-b-preserved c = let l = c.loop-b in turn c.args.text.now l.b-index _ _ (omega arith) c.take-scan.ensures ∙ l.invariant

pub returns : goal.returns
returns c = let l = c.loop-b in sym (done c.args.text.now l.b-index _ (omega arith) (omega arith)) ∙ l.invariant
