-- What the checks tell, the working room cleared, and the call's answers. Assumes nothing.
use mathlib.Core.Path.{◌≡◌, refl, sym, ap, ◌∙◌}
use mathlib.Core.Bool.{Bool, true, false, ◌||◌}
use mathlib.Core.List.{List, ◌++◌}
use mathlib.Core.Logic.{◌⊎◌, inl, inr}
use Prim.Native.Nat.{ℕ, ◌+◌, ◌-◌, ◌*◌, ◌/◌, ◌≤◌, ◌<◌}
use native.Mathlib.Decide.{dec_lt}
use native.Mathlib.Omega.{arith}
use lib.Dec.{leb}
use lib.ListN.{length, get_or, take, drop, replicate, length-append, length-drop, length-replicate, get_or-replicate, get_or-append, get_or-eq_default}
use lib.Seq.{ext_get_or, get_or-append-add, length-take-le}
use lib.Ieee.{Float}
use borrow.Author.Tests.{eqb-true, leb-true, leb-false, lt-ltb, le-ltb}
use Rattle.float32.proofs.Tests.{below_or_not}
use Rattle.panel.specs.Limits.{most_lines}
use Rattle.panel.specs.Widths.{line_floats}
use Rattle.panel.specs.Checks.{first_no}
use Rattle.panel.specs.Verdict.{Verdict}
use Rattle.panel.specs.Verdict.{Fine, Against}
use Rattle.panel.specs.Answer.{Refused}
use Rattle.panel.proofs.CheckLaws.{all_ok}
use Rattle.ranges.specs.Ranges.{cleared_of}
use Rattle.ranges.proofs.RangeLaws.{length_cleared, cleared_in, cleared_out}
use Rattle.meeting.proofs.FirstLaws.{first_missed}
use Rattle.outlines.specs.Outlines.{first_open}
use Rattle.outlines.specs.Call.{room_words, lent_checks, bad_line, first_bad, bad_answer, open_if, cleared, outlines_of, OutlinesMet}
use Rattle.outlines.specs.Told.{HasWords, Ready, Clear}
use Rattle.outlines.proofs.Least.{clash}

-- ---- the room, cleared

pub all_clear : (ws : List ℕ) → Clear (cleared_of 0 0 (length ws) ws)
all_clear ws k = go (dec_lt k (length ws))
  where
    go : Dec (k < length ws) → get_or (cleared_of 0 0 (length ws) ws) k 0 ≡ 0
    go (yes h) = cleared_in 0 0 (length ws) ws k (omega arith) (omega arith) h
    go (no h) = get_or-eq_default (cleared_of 0 0 (length ws) ws) 0 (omega (arith, length_cleared 0 0 (length ws) ws))

-- a part that was lent and came back, cleared in the whole
pub cleared_is : (n : ℕ) (part work : List ℕ) → n ≤ length work → length part ≡ n → cleared_of 0 0 n (part ++ drop n work) ≡ cleared n work
cleared_is n part work h e =
    ext_get_or 0 (cleared_of 0 0 n (part ++ drop n work)) (cleared n work) (length_cleared 0 0 n (part ++ drop n work) ∙ long)
    (λ i g. at i (omega (arith, length_cleared 0 0 n (part ++ drop n work))) (below_or_not i n))
  where
    whole : length (part ++ drop n work) ≡ length work
    whole = length-append part (drop n work) ∙ omega (arith, length-drop n work)

    long : length (part ++ drop n work) ≡ length (cleared n work)
    long = whole ∙ sym (length-append (replicate n 0) (drop n work) ∙ omega (arith, length-drop n work, length-replicate {A = ℕ} n 0))

    at : (i : ℕ) → i < length (part ++ drop n work) → (i < n) ⊎ (n ≤ i) → get_or (cleared_of 0 0 n (part ++ drop n work)) i 0 ≡ get_or (cleared n work) i 0
    at i g (inl l) =
        cleared_in 0 0 n (part ++ drop n work) i (omega arith) (omega arith) g
        ∙ sym (get_or-append (replicate n 0) (drop n work) 0 i (omega (arith, length-replicate {A = ℕ} n 0)) ∙ get_or-replicate n i 0 0 l)
    at i g (inr l) =
        let p : length part + (i - n) ≡ i = omega arith in
        let q : length {A = ℕ} (replicate n 0) + (i - n) ≡ i = omega (arith, length-replicate {A = ℕ} n 0) in
        cleared_out 0 0 n (part ++ drop n work) i (inr (omega arith)) g
        ∙ ap (λ (k : ℕ). get_or (part ++ drop n work) k 0) (sym p)
        ∙ get_or-append-add part (drop n work) (i - n) 0
        ∙ sym (ap (λ (k : ℕ). get_or (cleared n work) k 0) (sym q) ∙ get_or-append-add (replicate n 0) (drop n work) (i - n) 0)

-- ---- what is ready

pub ready_same : (nos : List ℕ) (fs : List Float) (ws ws' : List ℕ) → length ws' ≡ length ws → Ready nos fs ws → Ready nos fs ws'
ready_same nos fs ws ws' e r =
    record { few = r.few; lines = r.lines; words = λ l h. let w : HasWords ws (get_or nos l 0) = r.words l h in omega arith }

split : (a b : Bool) → (a || b) ≡ false → (a ≡ false) × (b ≡ false)
split true b e = absurd (clash refl e)
split false b e = (refl, e)

module _ (nos : List ℕ) (paths : ℕ) where
  -- a line before the first bad one has a number that counting takes, and a path
  good : (l : ℕ) → l < first_bad nos paths → (l < most_lines) × (get_or nos l 0 < paths)
  unfolding first_bad
  good l h =
      let s = split (leb most_lines l) (leb paths (get_or nos l 0)) (first_missed (bad_line nos paths) (length nos) l h) in
      (leb-false most_lines l s.0, leb-false paths (get_or nos l 0) s.1)

  pub bad_most : first_bad nos paths ≤ most_lines
  bad_most = go (dec_lt most_lines (first_bad nos paths))
    where
      go : Dec (most_lines < first_bad nos paths) → first_bad nos paths ≤ most_lines
      go (yes h) = absurd (omega (arith, (good most_lines h).0))
      go (no h) = omega arith

  module _ (fs : List Float) (work : List ℕ) (e : first_no (lent_checks (length nos) (length fs) paths (length work)) ≡ Fine) where
    pub has_room : paths * room_words ≤ length work
    has_room = leb-true (paths * room_words) (length work) (all_ok (lent_checks (length nos) (length fs) paths (length work)) e).1.1.1.0

    pub ready : length nos ≤ first_bad nos paths → Ready nos fs (take (paths * room_words) work)
    ready h =
        let k = all_ok (lent_checks (length nos) (length fs) paths (length work)) e in
        let n : length nos ≡ length fs / line_floats = eqb-true _ _ k.1.0 in
        record {
          few = omega (arith, bad_most);
          lines = omega arith;
          words = λ l g. let p : get_or nos l 0 < paths = (good l (omega arith)).1 in omega (arith, length-take-le (paths * room_words) work has_room);
        }

-- ---- the call's answers

module _ (nos : List ℕ) (fs : List Float) (paths : ℕ) (work : List ℕ) (v : Verdict) (e : v ≡ first_no (lent_checks (length nos) (length fs) paths (length work))) where
  pub met_refused : (n : ℕ) → v ≡ Against n → OutlinesMet nos fs paths work (Refused n 0) work
  unfolding outlines_of
  met_refused n q = sym (rw (sym e ∙ q))

  pub met_bad : v ≡ Fine → first_bad nos paths < length nos → OutlinesMet nos fs paths work (bad_answer (first_bad nos paths)) work
  unfolding outlines_of
  met_bad q h = sym (rw (sym e ∙ q, lt-ltb (first_bad nos paths) (length nos) h))

  pub met_open : v ≡ Fine → length nos ≤ first_bad nos paths → OutlinesMet nos fs paths work (open_if (first_open nos fs) (length nos)) (cleared (paths * room_words) work)
  unfolding outlines_of
  met_open q h = sym (rw (sym e ∙ q, le-ltb (first_bad nos paths) (length nos) h))
