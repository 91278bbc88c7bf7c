-- A run of references, tiled as long as they name one line, which was found once. Only proofs lean on this: no promise of a public call does.
-- Definitions only.
use Rattle.std.specs.Prelude.{Result, Ok, Err, ℕ, zero, suc, ◌-◌, ◌*◌, ◌/◌, ◌≤◌, ◌<◌, ◌≡◌, cond, List, eqb, length}
use Rattle.panel.specs.Widths.{line_floats, ref_words, segment_floats}
use Rattle.panel.specs.Paths.{paths_answer}
use Rattle.panel.specs.Pieces.{Pieces, placed}
use Rattle.panel.specs.Refusals.{no_of}
use Rattle.panel.specs.declared.kinds.Refused as E
use Rattle.panel.specs.Answer.{Answer, Done, Refused}
use Rattle.walk.specs.Walked.{Walked}
use Rattle.looks.specs.Look.{Lent, line_at, packed_at, tag_of, found_of, found_to}
use Rattle.looks.specs.Looked.{Look, Put, Empty, Against}

-- how far a run goes: up to `next`, or up to the refusal of `next`; and the segments and tags afterwards
pub record Run : Type 0 where
  pub answer : Answer
  pub next : ℕ
  pub pieces : Pieces

abbrev pub run : Answer → ℕ → Pieces → Run
run a k p = record { answer = a; next = k; pieces = p }

-- what code answers, in these words: a reference refused is the one that it stops at
abbrev pub ran_of : Result ℕ E.Refused → Pieces → Run
ran_of (Ok next) p = run Done next p
ran_of (Err e) p = run (Refused (no_of e.why) e.item) e.item p

-- reference k, with its line's tag, and then the rest, on the segments and tags as they are then; a reference refused ends the run
abbrev pub look_on : ℕ → ℕ → Look → (Pieces → Run) → Pieces → Run
look_on tag k (Put slot s) rest p = rest (placed slot.0 s tag p)
look_on tag k Empty rest p = rest p
look_on tag k (Against why) rest p = run (Refused why k) k p

-- n references from reference k on, up to the first that names another line than this, which has this tag
unfoldable pub run_of : (stored : List ℕ) (slots : ℕ) (refs : List ℕ) → Walked → (tag line n k : ℕ) → Pieces → Run
run_of stored slots refs found tag line zero k p = run Done k p
run_of stored slots refs found tag line (suc n) k p =
    cond (eqb (line_at refs k) line)
    (look_on tag k (found_to stored slots (packed_at refs k) found) (run_of stored slots refs found tag line n (suc k)) p)
    (run Done k p)

-- the references from reference k up to `to` that name line l, which is found once with its tag
abbrev pub line_run : Lent → (slots l to k : ℕ) → Pieces → Run
line_run L slots l to k p = run_of L.stored slots L.refs (found_of L.path_nos L.coords L.paths l) (tag_of L l) l (to - k) k p

-- what is known of the lent where there is a reference left, with so many slots
pub record Some (from to : ℕ) (L : Lent) (slots : ℕ) (p : Pieces) : Type 0 where
  pub some : from < to
  pub there : to ≤ length L.refs / ref_words
  pub lines : length L.path_nos * line_floats ≤ length L.coords
  pub paths : paths_answer L.paths (length L.stored) ≡ Done
  pub room : slots * segment_floats ≤ length p.segments
  pub tagged : slots ≤ length p.tags
