-- Exact at the call: the ways in which a recount ends. Each has its answer, its ground in the words of docs/RULES.md, and what is left in all that was
-- lent. The promise is met where one of them holds, and nowhere else. Definitions only.
use Rattle.std.specs.Prelude.{◌≡◌, List, ℕ, ◌/◌, ◌<◌, length, get_or, ℤ, pos, Float}
use Rattle.lists.specs.Run.{done}
use Rattle.panel.specs.Widths.{ref_words}
use Rattle.panel.specs.Paths.{path_at}
use Rattle.panel.specs.Answer as Answer
use Rattle.acts.specs.Acts.{St, st_of}
use Rattle.acts.specs.Line.{batch_of}
use Rattle.new_lines.specs.Own.{own_step, lines_ran}
use Rattle.new_lines.specs.Recounted.{Recounted, Done, Refused}
use Rattle.kept_range.specs.Kept.{cleared_for, kept_from}
use Rattle.recount.specs.Recount.{asked_of}
use Rattle.recount_theorems.specs.Refusing.{AskedWhy, OwnWhy}

pub data RecountWay (p : ℕ) (line_nos nos : List ℕ) (coords : List Float) (paths : List ℕ) (bs : List ℤ) (cs rs : List ℕ) (kb : List ℤ) (kc : List ℕ)
    (x : Recounted) (bs' : List ℤ) (cs' rs' : List ℕ) (kb' : List ℤ) (kc' : List ℕ) : Type 0 where
  -- before the lines, by the first check that fails: nothing changes
  asked_refused : (n item : ℕ) → x ≡ Refused n item 0
      → AskedWhy p paths (length line_nos) (length nos) (length coords) (length bs) (length cs) (length rs) (length kb) (length kc) n item
      → bs' ≡ bs → cs' ≡ cs → rs' ≡ rs → kb' ≡ kb → kc' ≡ kc → RecountWay p line_nos nos coords paths bs cs rs kb kc x bs' cs' rs' kb' kc'
  -- the line at place k is refused, the first: backdrops and counts are as before, all of them; the references of the lines before it are made, and the
  -- range is kept
  line_refused : (n k : ℕ) (u : St) → x ≡ Refused n (get_or line_nos k 0) u.made
      → asked_of p paths (length line_nos) (length nos) (length coords) (length bs) (length cs) (length rs) (length kb) (length kc) ≡ Answer.Done → k < length nos
      → batch_of (λ j. own_step p nos coords paths (length rs / ref_words) (get_or line_nos j 0) j) 0 k (cleared_for (path_at paths p) bs cs rs) ≡ done u
      → OwnWhy p nos coords paths (length rs / ref_words) (get_or line_nos k 0) k u n → bs' ≡ bs → cs' ≡ cs → rs' ≡ u.refs
      → kb' ≡ kept_from (pos 0) (path_at paths p) bs kb → kc' ≡ kept_from 0 (path_at paths p) cs kc → RecountWay p line_nos nos coords paths bs cs rs kb kc x bs' cs' rs' kb' kc'
  -- all lines are counted into the range, zeroed; and it is kept
  all_recounted : (m : ℕ) → x ≡ Done m
      → asked_of p paths (length line_nos) (length nos) (length coords) (length bs) (length cs) (length rs) (length kb) (length kc) ≡ Answer.Done
      → lines_ran p line_nos nos coords paths (length rs / ref_words) (cleared_for (path_at paths p) bs cs rs) ≡ done (st_of bs' cs' rs' m)
      → kb' ≡ kept_from (pos 0) (path_at paths p) bs kb → kc' ≡ kept_from 0 (path_at paths p) cs kc → RecountWay p line_nos nos coords paths bs cs rs kb kc x bs' cs' rs' kb' kc'
