-- A run of references that name one line, turn by turn. Assumes nothing.
--     turned, stopped, other, over   a turn of the loop over a run: a reference that is fine, one that is not, one of another line, none left
--     run_goes, run_some             how far a run goes
--     tagged                         a line's tag
use Prim.Native.Nat.{ℕ, zero, suc, ◌+◌, ◌-◌, ◌≤◌, ◌<◌}
use native.Mathlib.Omega.{arith}
use native.Mathlib.Nat.{le_refl}
use native.Mathlib.Numerals.{add-one}
use mathlib.Core.Path.{◌≡◌, refl, sym, ap, ◌∙◌}
use mathlib.Core.Bool.{Bool, true, false, cond}
use mathlib.Core.List.{List}
use lib.ListN.{get_or}
use lib.Dec.{eqb}
use Rattle.panel.specs.Paths.{beam_at}
use Rattle.panel.specs.Pieces.{Pieces, placed}
use Rattle.panel.specs.Answer.{Done, Refused}
use Rattle.panel.specs.Verdict.{Verdict}
use Rattle.walk.specs.Walked.{Walked}
use Rattle.looks.specs.Look.{line_at, packed_at, found_to}
use Rattle.looks.specs.One.{One, one, one_of}
use Rattle.looks.specs.Looked.{Look, Put, Empty, Against}
use Rattle.looks.proofs.OneLaws.{AsLong, long_self, long_then, long_placed, one_long}
use Rattle.line_runs.specs.Runs.{Run, run, look_on, run_of}

-- ---- a reference of a run, by the verdict on it
fine_on : (tag k : ℕ) (l : Look) (rest : Pieces → Run) (p p' : Pieces) → one Verdict.Fine p' ≡ one_of tag l p → look_on tag k l rest p ≡ rest p'
fine_on tag k (Put slot s) rest p p' e = ap (λ (o : One). rest o.pieces) (sym e)
fine_on tag k Empty rest p p' e = ap (λ (o : One). rest o.pieces) (sym e)
fine_on tag k (Against why) rest p p' e =
    let v : Verdict.Fine ≡ Verdict.Against why = ap (λ (o : One). o.verdict) e in
    let z : ◌≡◌ {A = ℕ} 0 1 = cc in absurd (omega arith)

against_on : (tag k : ℕ) (l : Look) (rest : Pieces → Run) (why : ℕ) (p p' : Pieces) → one (Verdict.Against why) p' ≡ one_of tag l p
    → look_on tag k l rest p ≡ run (Refused why k) k p'
against_on tag k (Put slot s) rest why p p' e =
    let v : Verdict.Against why ≡ Verdict.Fine = ap (λ (o : One). o.verdict) e in
    let z : ◌≡◌ {A = ℕ} 0 1 = cc in absurd (omega arith)
against_on tag k Empty rest why p p' e =
    let v : Verdict.Against why ≡ Verdict.Fine = ap (λ (o : One). o.verdict) e in
    let z : ◌≡◌ {A = ℕ} 0 1 = cc in absurd (omega arith)
against_on tag k (Against why') rest why p p' e =
    let v : Verdict.Against why ≡ Verdict.Against why' = ap (λ (o : One). o.verdict) e in
    let w : why' ≡ why = cc in
    let s : p ≡ p' = sym (ap (λ (o : One). o.pieces) e) in
    rw (w, s)

-- ---- the loop over a run
module _ (stored : List ℕ) (slots : ℕ) (refs : List ℕ) (found : Walked) (tag line : ℕ) where
  left_of : ℕ → ℕ → Pieces → Run
  left_of to k p = run_of stored slots refs found tag line (to - k) k p

  run_suc : (n k : ℕ) (p : Pieces)
      → run_of stored slots refs found tag line (suc n) k p
      ≡ cond (eqb (line_at refs k) line) (look_on tag k (found_to stored slots (packed_at refs k) found) (run_of stored slots refs found tag line n (suc k)) p) (run Done k p)
  unfolding run_of
  run_suc n k p = refl

  run_none : (k : ℕ) (p : Pieces) → run_of stored slots refs found tag line 0 k p ≡ run Done k p
  unfolding run_of
  run_none k p = refl

  -- what holds at each turn
  pub record Running (from to : ℕ) (p₀ p : Pieces) (k : ℕ) : Type 0 where
    pub low : from ≤ k
    pub high : k ≤ to
    pub long : AsLong p₀ p
    pub left : run_of stored slots refs found tag line (to - k) k p ≡ run_of stored slots refs found tag line (to - from) from p₀

  module _ (from to : ℕ) (p₀ p : Pieces) (k : ℕ) (g : Running from to p₀ p k) where
    pub other : k < to → eqb (line_at refs k) line ≡ false → run Done k p ≡ run_of stored slots refs found tag line (to - from) from p₀
    other h e =
        let one_more : to - k ≡ suc (to - suc k) = omega arith in
        let here : run_of stored slots refs found tag line (to - k) k p ≡ run Done k p = rw (one_more, run_suc (to - suc k) k p, e) refl in
        sym here ∙ g.left

    pub stopped : (v : Verdict) (p' : Pieces) (why : ℕ) → k < to → eqb (line_at refs k) line ≡ true
        → one v p' ≡ one_of tag (found_to stored slots (packed_at refs k) found) p → v ≡ Verdict.Against why
        → run (Refused why k) k p' ≡ run_of stored slots refs found tag line (to - from) from p₀
    stopped v p' why h e o q =
        let one_more : to - k ≡ suc (to - suc k) = omega arith in
        let here : run_of stored slots refs found tag line (to - k) k p ≡ run (Refused why k) k p' =
        rw (one_more, run_suc (to - suc k) k p, e)
        (against_on tag k (found_to stored slots (packed_at refs k) found) (run_of stored slots refs found tag line (to - suc k) (suc k)) why p p' (rw q at o)) in
        sym here ∙ g.left

    pub turned : (v : Verdict) (p' : Pieces) → k < to → eqb (line_at refs k) line ≡ true
        → one v p' ≡ one_of tag (found_to stored slots (packed_at refs k) found) p → v ≡ Verdict.Fine
        → Running from to p₀ p' (k + 1)
    turned v p' h e o q =
        let one_more : to - k ≡ suc (to - suc k) = omega arith in
        let here : run_of stored slots refs found tag line (to - k) k p ≡ run_of stored slots refs found tag line (to - (k + 1)) (k + 1) p' =
        rw (one_more, add-one, run_suc (to - suc k) k p, e)
        (fine_on tag k (found_to stored slots (packed_at refs k) found) (run_of stored slots refs found tag line (to - suc k) (suc k)) p p' (rw q at o)) in
        record {
          low = omega (arith, g.low);
          high = omega arith;
          long = long_then g.long (one_long tag (found_to stored slots (packed_at refs k) found) v p p' o);
          left = sym here ∙ g.left;
        }

    pub over : to ≤ k → run Done to p ≡ run_of stored slots refs found tag line (to - from) from p₀
    over h =
        let none_left : to - k ≡ 0 = omega arith in
        let same : to ≡ k = omega (arith, g.high) in
        let here : run_of stored slots refs found tag line (to - k) k p ≡ run Done k p = rw (none_left, run_none k p) refl in
        ap (λ (n : ℕ). run Done n p) same ∙ sym here ∙ g.left

  -- how far a run goes, and that it leaves as many segments and tags
  pub record Goes (k n : ℕ) (p : Pieces) (r : Run) : Type 0 where
    pub low : k ≤ r.next
    pub high : r.next ≤ k + n
    pub long : AsLong p r.pieces

  look_long : (k : ℕ) (l : Look) (rest : Pieces → Run) (n : ℕ) (p : Pieces)
      → ((q : Pieces) → Goes (suc k) n q (rest q)) → Goes k (suc n) p (look_on tag k l rest p)
  look_long k (Put slot s) rest n p h =
      let g = h (placed slot.0 s tag p) in
      record { low = omega (arith, g.low); high = omega (arith, g.high); long = long_then (long_placed slot.0 s tag p) g.long }
  look_long k Empty rest n p h =
      let g = h p in
      record { low = omega (arith, g.low); high = omega (arith, g.high); long = g.long }
  look_long k (Against why) rest n p h = record { low = le_refl _; high = omega arith; long = long_self p }

  pub run_goes : (n k : ℕ) (p : Pieces) → Goes k n p (run_of stored slots refs found tag line n k p)
  unfolding run_of
  run_goes zero k p = record { low = le_refl _; high = omega arith; long = long_self p }
  run_goes (suc n) k p = go (λ q. run_goes n (suc k) q) (eqb (line_at refs k) line)
    where
      go : ((q : Pieces) → Goes (suc k) n q (run_of stored slots refs found tag line n (suc k) q)) → (t : Bool)
          → Goes k (suc n) p (cond t (look_on tag k (found_to stored slots (packed_at refs k) found) (run_of stored slots refs found tag line n (suc k)) p) (run Done k p))
      go h true = look_long k (found_to stored slots (packed_at refs k) found) (run_of stored slots refs found tag line n (suc k)) n p h
      go h false = record { low = le_refl _; high = omega arith; long = long_self p }

  -- a run whose first reference names the line, and which is not refused, has it
  pub run_some : (n k : ℕ) (p : Pieces) → eqb (line_at refs k) line ≡ true → 0 < n
      → (run_of stored slots refs found tag line n k p).answer ≡ Done → k < (run_of stored slots refs found tag line n k p).next
  unfolding run_of
  run_some zero k p e h a = absurd (omega arith)
  run_some (suc n) k p e h a = rw e (go (found_to stored slots (packed_at refs k) found) (rw e at a))
    where
      go : (l : Look) → (look_on tag k l (run_of stored slots refs found tag line n (suc k)) p).answer ≡ Done
          → k < (look_on tag k l (run_of stored slots refs found tag line n (suc k)) p).next
      go (Put slot s) a = omega (arith, (run_goes n (suc k) (placed slot.0 s tag p)).low)
      go Empty a = omega (arith, (run_goes n (suc k) p).low)
      go (Against why) a = let z : ◌≡◌ {A = ℕ} 0 1 = cc in absurd (omega arith)

-- ---- a line's tag, read in two steps

pub tagged : (nos ps : List ℕ) (l path tag : ℕ) → path ≡ get_or nos l 0 → tag ≡ beam_at ps path → tag ≡ beam_at ps (get_or nos l 0)
tagged nos ps l path tag e f = f ∙ ap (beam_at ps) e
