-- What a new line that is taken does, and all of them: as counting has it. A line's number need not be its place, so the line is read as if it were
-- lent at the place of its number. Assumes nothing.
use mathlib.Core.Path.{◌≡◌, sym, ap, subst, ◌∙◌}
use mathlib.Core.List.{List, [], ◌∷◌, map}
use Prim.Native.Nat.{ℕ, ◌+◌, ◌*◌, ◌<◌}
use native.Mathlib.Nat.{add-zero}
use native.Mathlib.Omega.{arith}
use lib.ListN.{length, get_or, replicate, length-replicate}
use lib.Seq.{get_or-append-add}
use lib.Ieee.{Float, nan}
use Rattle.lists.specs.Run.{Step, taken, halted, done, run, run_cons_done, All, act_all}
use Rattle.lists.specs.Tally.{tally, zeros}
use Rattle.lists.specs.Order as Order
use Rattle.panel.specs.Widths.{line_floats}
use Rattle.panel.specs.Paths.{path_count, paths_answer}
use Rattle.panel.specs.Answer.{Done}
use Rattle.panel.specs.Lines.{line_at}
use Rattle.walk.specs.Lent.{walk_at}
use Rattle.acts.specs.Acts.{St}
use Rattle.acts.specs.Line.{at_line}
use Rattle.walked_lines.specs.Line.{line_step}
use Rattle.new_lines.specs.Own.{own_step}
use Rattle.new_lines.proofs.OwnLaws.{own_same, own_taken}
use Rattle.theorems.specs.Drawn.{Drawn, drawn_at, walk_of, acts_by, tiles_of, marks_of, OwnLine}
use Rattle.theorems.specs.Events.{events_in}
use Rattle.theorems.proofs.Counting.{Moved, moved_append, lined}
use Rattle.recount_theorems.specs.Lines.{own_events_at, own_events, lent_nos, lent_coords, four_of}

-- ---- one line, lent at the place of its number

module _ (nos : List ℕ) (coords : List Float) (k l : ℕ) where
  no_at : get_or (lent_nos nos k l) l 0 ≡ get_or nos k 0
  no_at =
      let long : length (zeros l) ≡ l = length-replicate l 0 in
      let e : length (zeros l) + 0 ≡ l = omega (arith, long) in
      ap (λ (j : ℕ). get_or (lent_nos nos k l) j 0) (sym e) ∙ get_or-append-add (zeros l) (get_or nos k 0 ∷ []) 0 0

  ends_at_lem : line_at (lent_coords coords k l) l ≡ line_at coords k
  unfolding line_at
  ends_at_lem =
      let first = ap (λ (j : ℕ). get_or (lent_coords coords k l) j nan) (sym (add-zero (l * line_floats))) ∙ at 0 in
      λ i. record { p0 = record { x = first i; y = at 1 i }; p1 = record { x = at 2 i; y = at 3 i } }
    where
      at : (j : ℕ) → get_or (lent_coords coords k l) (l * line_floats + j) nan ≡ get_or (four_of (line_at coords k)) j nan
      at j =
          let e : length (replicate (l * line_floats) nan) + j ≡ l * line_floats + j = ap (λ (n : ℕ). n + j) (length-replicate (l * line_floats) nan) in
          ap (λ (n : ℕ). get_or (lent_coords coords k l) n nan) (sym e) ∙ get_or-append-add (replicate (l * line_floats) nan) (four_of (line_at coords k)) j nan

  drawn_at_lem : drawn_at (lent_nos nos k l) (lent_coords coords k l) l ≡ drawn_at nos coords k
  drawn_at_lem = λ i. record { path = no_at i; ends = ends_at_lem i }

  pub step_at : (paths : List ℕ) (room : ℕ) (s : St) → line_step (lent_nos nos k l) (lent_coords coords k l) paths room l l s ≡ line_step nos coords paths room l k s
  unfolding line_step walk_at
  step_at paths room s = rw (no_at, ends_at_lem)

-- ---- a line that is taken

module _ (p : ℕ) (line_nos nos : List ℕ) (coords : List Float) (paths : List ℕ) (n : ℕ) (passed : paths_answer paths n ≡ Done) (h : p < path_count paths) where
  pub record Owned (room k : ℕ) (s u : St) : Type 0 where
    pub moved : Moved (own_events_at line_nos nos coords paths k) s u
    pub counts : u.counts ≡ tally s.counts (tiles_of paths (drawn_at nos coords k))
    pub backs : u.backs ≡ Order.mark (marks_of paths (drawn_at nos coords k)) s.backs
    pub line : OwnLine paths (drawn_at nos coords k)
    pub path : get_or nos k 0 ≡ p

  pub owned : (room k : ℕ) (s u : St) → own_step p nos coords paths room (get_or line_nos k 0) k s ≡ taken u → Owned room k s u
  owned room k s u e =
      let l = get_or line_nos k 0 in
      let q = own_taken p nos coords paths room l k s u e in
      let f = step_at nos coords k l paths room s ∙ sym (own_same p nos coords paths room l k s h q) ∙ e in
      let r = lined (lent_nos nos k l) (lent_coords coords k l) paths n passed room l s u f in
      let d = drawn_at_lem nos coords k l in
      record {
        moved = subst (λ (x : Drawn). Moved (events_in l (acts_by (walk_of paths x))) s u) d r.moved;
        counts = r.counts ∙ ap (λ (x : Drawn). tally s.counts (tiles_of paths x)) d;
        backs = r.backs ∙ ap (λ (x : Drawn). Order.mark (marks_of paths x) s.backs) d;
        line = subst (OwnLine paths) d r.line;
        path = q;
      }

  -- ---- all of them

  pub record AllOwned (ks : List ℕ) (s u : St) : Type 0 where
    pub moved : Moved (own_events line_nos nos coords paths ks) s u
    pub counts : u.counts ≡ act_all (λ d c. tally c (tiles_of paths d)) (map (drawn_at nos coords) ks) s.counts
    pub backs : u.backs ≡ act_all (λ d. Order.mark (marks_of paths d)) (map (drawn_at nos coords) ks) s.backs
    pub lines : All (OwnLine paths) (map (drawn_at nos coords) ks)
    pub named : All (λ d. d.path ≡ p) (map (drawn_at nos coords) ks)

  at_taken : (l : ℕ) (o : Step St ℕ) (u : St) → at_line l o ≡ taken u → o ≡ taken u
  at_taken l (taken s) u e = let q : s ≡ u = cc in ap taken q
  at_taken l (halted m) u e = let z : ◌≡◌ {A = ℕ} 0 1 = cc in absurd (omega arith)

  pub all_owned : (room : ℕ) (ks : List ℕ) (s u : St) → run (λ k t. at_line k (own_step p nos coords paths room (get_or line_nos k 0) k t)) ks s ≡ done u → AllOwned ks s u
  all_owned room [] s u e =
      let q : u ≡ s = cc in
      record {
        moved = record { made = omega (arith, ap (λ (t : St). t.made) q); counts = ap (λ (t : St). t.counts) q; refs = ap (λ (t : St). t.refs) q };
        counts = ap (λ (t : St). t.counts) q;
        backs = ap (λ (t : St). t.backs) q;
        lines = tt;
        named = tt;
      }
  all_owned room (k ∷ ks) s u e =
      let w = run_cons_done (λ k t. at_line k (own_step p nos coords paths room (get_or line_nos k 0) k t)) k ks s u e in
      let t = w.0 in
      let one = owned room k s t (at_taken k (own_step p nos coords paths room (get_or line_nos k 0) k s) t w.1) in
      let more = all_owned room ks t u w.2 in
      record {
        moved = moved_append (own_events_at line_nos nos coords paths k) (own_events line_nos nos coords paths ks) s t u one.moved more.moved;
        counts = more.counts ∙ ap (act_all (λ d c. tally c (tiles_of paths d)) (map (drawn_at nos coords) ks)) one.counts;
        backs = more.backs ∙ ap (act_all (λ d. Order.mark (marks_of paths d)) (map (drawn_at nos coords) ks)) one.backs;
        lines = (one.line, more.lines);
        named = (one.path, more.named);
      }
