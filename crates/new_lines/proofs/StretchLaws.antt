-- A stretch of lines is a batch of counting's own: what it comes to, and the lines after it.
-- Assumes nothing.
use mathlib.Core.Path.{◌≡◌, refl, sym, ap, ◌∙◌}
use mathlib.Core.List.{List, [], ◌∷◌}
use Prim.Native.Nat.{ℕ, zero, suc, ◌+◌, ◌-◌, ◌*◌, ◌<◌, ◌≤◌}
use native.Mathlib.Nat.{add-zero}
use native.Mathlib.Omega.{arith}
use lib.ListN.{length, get_or, drop}
use lib.IntN.{ℤ}
use lib.Ieee.{Float}
use Rattle.lists.specs.Run.{Step, taken, halted, Ran, done, refused, and_then}
use Rattle.panel.specs.Paths.{path_count}
use Rattle.panel.specs.Refusals.{done_no}
use Rattle.panel.specs.Widths.{line_floats}
use Rattle.acts.specs.Acts.{St, st_of}
use Rattle.acts.specs.Line.{Refusal, batch_of}
use Rattle.acts.proofs.Lines.{batch_cut, batch_goes, batch_stops, batch_ends}
use Rattle.walked_lines.specs.Line.{line_step}
use Rattle.path_count.specs.Count.{Told, told_of}
use Rattle.path_count.specs.Runs.{batch_from, from_told}
use Rattle.stretches.specs.Stretches.{InOrder}
use Rattle.new_lines.specs.Own.{own_step, lines_told}
use Rattle.new_lines.proofs.OwnLaws.{own_rest}

-- ---- what they come to

module _ (line_nos : List ℕ) (first : ℕ) where
  -- a batch numbered from first on, and then the lines after it: what a recount tells
  abbrev pub then_told : Ran St Refusal → (St → Ran St Refusal) → Told
  then_told (done t) more = lines_told line_nos (more t)
  then_told (refused t why) more = told_of (why.no ∷ (first + why.line) ∷ t.made ∷ []) t

  -- the same by counting's answer for the batch
  module _ (n : ℕ) (bs : List ℤ) (cs rs : List ℕ) (made : ℕ) (more : St → Ran St Refusal) where
    pub told_done : (lines : ℕ) (o : Ran St Refusal) → told_of (done_no ∷ lines ∷ made ∷ []) (st_of bs cs rs made) ≡ from_told first n o
        → lines_told line_nos (more (st_of bs cs rs made)) ≡ then_told o more
    told_done lines (done t) e =
        let ps : done_no ∷ lines ∷ made ∷ [] ≡ done_no ∷ n ∷ t.made ∷ [] = ap (λ (x : Told). x.paper) e in
        let p : made ≡ t.made = cc in
        let b : bs ≡ t.backs = ap (λ (x : Told). x.backs) e in
        let c : cs ≡ t.counts = ap (λ (x : Told). x.counts) e in
        let r : rs ≡ t.refs = ap (λ (x : Told). x.refs) e in
        let q : st_of bs cs rs made ≡ t = λ i. st_of (b i) (c i) (r i) (p i) in
        ap (λ (u : St). lines_told line_nos (more u)) q
    told_done lines (refused t why) e =
        let ps : done_no ∷ lines ∷ made ∷ [] ≡ why.no ∷ (first + why.line) ∷ why.line ∷ t.made ∷ [] = ap (λ (x : Told). x.paper) e in
        let z : ◌≡◌ {A = ℕ} 0 1 = cc in absurd (omega arith)

    pub told_refused : (m item lines : ℕ) (o : Ran St Refusal) → told_of (m ∷ item ∷ lines ∷ made ∷ []) (st_of bs cs rs made) ≡ from_told first n o
        → told_of (m ∷ item ∷ made ∷ []) (st_of bs cs rs made) ≡ then_told o more
    told_refused m item lines (done t) e =
        let ps : m ∷ item ∷ lines ∷ made ∷ [] ≡ done_no ∷ n ∷ t.made ∷ [] = ap (λ (x : Told). x.paper) e in
        let z : ◌≡◌ {A = ℕ} 0 1 = cc in absurd (omega arith)
    told_refused m item lines (refused t why) e =
        let ps : m ∷ item ∷ lines ∷ made ∷ [] ≡ why.no ∷ (first + why.line) ∷ why.line ∷ t.made ∷ [] = ap (λ (x : Told). x.paper) e in
        let w : m ≡ why.no = cc in
        let l : item ≡ first + why.line = cc in
        let p : made ≡ t.made = cc in
        let b : bs ≡ t.backs = ap (λ (x : Told). x.backs) e in
        let c : cs ≡ t.counts = ap (λ (x : Told). x.counts) e in
        let r : rs ≡ t.refs = ap (λ (x : Told). x.refs) e in
        λ i. told_of (w i ∷ l i ∷ p i ∷ []) (st_of (b i) (c i) (r i) (p i))

module _ (p : ℕ) (line_nos nos : List ℕ) (coords : List Float) (paths : List ℕ) (room k n : ℕ) (h : p < path_count paths) (o : InOrder p line_nos nos k n)
    (ns : List ℕ) (fs : List Float) (en : ns ≡ drop k nos) (ef : fs ≡ drop (k * line_floats) coords) where
  -- the step of the line at a place among all, and of that at a place in the stretch
  abbrev own : ℕ → St → Step St ℕ
  own j = own_step p nos coords paths room (get_or line_nos j 0) j

  abbrev part : ℕ → St → Step St ℕ
  part j = line_step ns fs paths room (get_or line_nos k 0 + j) j

  same_step : (j : ℕ) → j < n → (s : St) → part j s ≡ own (k + j) s
  same_step j q s =
      own_rest p nos coords paths room (get_or line_nos k 0 + j) k j s h (o j q).0 ns fs en ef
      ∙ ap (λ (l : ℕ). own_step p nos coords paths room l (k + j) s) (sym (o j q).1)

  module _ (more : St → Ran St Refusal) where
    -- from line j of the stretch on, by the lines that are left of it
    from_line : (d j : ℕ) (s : St) → n - j ≡ d → j ≤ n
        → lines_told line_nos (and_then (batch_of own (k + j) (k + n - (k + j)) s) more) ≡ then_told line_nos (get_or line_nos k 0) (batch_of part j (n - j) s) more
    from_line zero j s e q =
        ap (λ (x : Ran St Refusal). lines_told line_nos (and_then x more)) (sym (batch_ends own (k + j) (k + n) s (batch_of own (k + j) (k + n - (k + j)) s) (omega arith) refl))
        ∙ ap (λ (x : Ran St Refusal). then_told line_nos (get_or line_nos k 0) x more) (batch_ends part j n s (batch_of part j (n - j) s) (omega arith) refl)
    from_line (suc d) j s e q = go (own (k + j) s) refl (λ s'. from_line d (j + 1) s' (omega arith) (omega arith))
      where
        go : (x : Step St ℕ) → own (k + j) s ≡ x
            → ((s' : St) → lines_told line_nos (and_then (batch_of own (k + (j + 1)) (k + n - (k + (j + 1))) s') more) ≡ then_told line_nos (get_or line_nos k 0) (batch_of part (j + 1) (n - (j + 1)) s') more)
            → lines_told line_nos (and_then (batch_of own (k + j) (k + n - (k + j)) s) more) ≡ then_told line_nos (get_or line_nos k 0) (batch_of part j (n - j) s) more
        go (taken s') f ih =
            let m : k + (j + 1) ≡ k + j + 1 = omega arith in
            ap (λ (x : Ran St Refusal). lines_told line_nos (and_then x more)) (sym (batch_goes own (k + j) (k + n) s (omega arith) _ refl s' f)
            ∙ ap (λ (i : ℕ). batch_of own i (k + n - i) s') (sym m))
            ∙ ih s'
            ∙ ap (λ (x : Ran St Refusal). then_told line_nos (get_or line_nos k 0) x more) (batch_goes part j n s (omega arith) _ refl s' (same_step j (omega arith) s ∙ f))
        go (halted m) f ih =
            ap (λ (x : Ran St Refusal). lines_told line_nos (and_then x more)) (sym (batch_stops own (k + j) (k + n) s (omega arith) _ refl m f))
            ∙ ap (λ (l : ℕ). told_of (m ∷ l ∷ s.made ∷ []) s) (o j (omega arith)).1
            ∙ ap (λ (x : Ran St Refusal). then_told line_nos (get_or line_nos k 0) x more) (batch_stops part j n s (omega arith) _ refl m (same_step j (omega arith) s ∙ f))

  -- all lines from line k on: the stretch as a batch of its own, and then the lines after it
  pub stretch_first : (s : St) → k + n ≤ length nos
      → lines_told line_nos (batch_of own k (length nos - k) s)
      ≡ then_told line_nos (get_or line_nos k 0) (batch_from (get_or line_nos k 0) ns fs paths room 0 n s) (batch_of own (k + n) (length nos - (k + n)))
  stretch_first s q =
      let z : k + 0 ≡ k = add-zero k in
      ap (lines_told line_nos) (batch_cut own k (k + n) (length nos) s (omega arith) q)
      ∙ ap (λ (i : ℕ). lines_told line_nos (and_then (batch_of own i (k + n - i) s) (batch_of own (k + n) (length nos - (k + n))))) (sym z)
      ∙ from_line (batch_of own (k + n) (length nos - (k + n))) n 0 s (omega arith) (omega arith)
