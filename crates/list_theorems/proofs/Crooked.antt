-- A list written over any segments: a screen tile is refused with 20 exactly where a FILL of its pairs has a crooked segment, at the first such FILL, and
-- for nothing else. docs/THEOREMS.md, "Lists written". Assumes nothing.
use mathlib.Core.Path.{◌≡◌, refl, sym, ap, ◌∙◌}
use mathlib.Core.Logic.{◌↔◌, ◌⊎◌, inl, inr}
use mathlib.Core.Bool.{Bool, true, false, cond}
use mathlib.Core.List.{List, [], ◌∷◌, ◌++◌}
use Prim.Native.Nat.{ℕ, suc, ◌+◌, ◌-◌, ◌*◌, ◌/◌, ◌≤◌, ◌<◌}
use native.Mathlib.Nat.{add-zero}
use native.Mathlib.Omega.{arith}
use lib.ListN.{length, get_or}
use lib.Ieee.{Float}
use borrow.Author.Tests.{lt-ltb, le-leb}
use Rattle.lists.specs.Run.{All}
use Rattle.panel.specs.Limits.{most_commands}
use Rattle.panel.specs.Refusals.{bad_segment}
use Rattle.panel.specs.Segments.{segment_at}
use Rattle.panel.specs.Widths.{segment_floats}
use Rattle.panel.specs.Verdict.{Verdict, Fine, Against}
use Rattle.panel.proofs.HeldLaws.{not_straight, crooked_not}
use Rattle.coverage.specs.Ground.{straight_from, ground_of}
use Rattle.coverage.proofs.Crooked.{crooked_at, first_crooked}
use Rattle.reader.specs.Look.{look_at}
use Rattle.reader.specs.Looked.{Word}
use Rattle.commands.specs.Numbers.{fill_no, encode, fill_words, tile_words, start_of}
use Rattle.commands.specs.Moves.{op_of, count_of, on_ground, fill_move, whole_move, move_of, ends, trace_of, end_of}
use Rattle.commands.specs.declared.steps.Act.TheVariants as Act
use Rattle.commands.specs.Move.{Refused, Goes}
use Rattle.commands.proofs.Traced.{trace_stop}
use Rattle.commands.proofs.Encoded.{Stands, act_goes, end_goes}
use Rattle.screen_tile.specs.Tile.{tile_trace, ends_at}
use Rattle.pairs.specs.Pairs.{Tables, tile_pairs, fill_rule, cover_of}
use Rattle.lay_pairs.specs.Layout.{pair_words, pair_size, chunk, pen_at, fits, jump_if, turned, past, laid, jump_count, left_at, jumps_of, own_words}
use Rattle.write_lists.specs.Lists.{lists_of}
use Rattle.pairs.specs.declared.Pair.{Pair}
use Rattle.pairs.specs.declared.Pair.TheVariants.{Fill, Solid}
use Rattle.list_theorems.specs.Refusing.{Some, CrookedPair}
use Rattle.list_theorems.specs.Written.{Wrote}
use Rattle.list_theorems.proofs.Writes.{first_stands}
use Rattle.list_theorems.proofs.Regions.{ChunkStands, Filled, pair_goes}
use Rattle.list_theorems.proofs.Apart.{tile_among}
use Rattle.list_theorems.proofs.Passed.{passed}
use Rattle.list_theorems.proofs.Written.{stand}

-- ---- how a pair's FILL is taken, and a row of pairs

abbrev ground_pair : List Float → Pair → Verdict
ground_pair segs (Fill count rule first backdrop colour) = ground_of segs first count
ground_pair segs (Solid colour) = Fine

abbrev then_to : Verdict → Verdict → Verdict
then_to Fine v = v
then_to (Against n) v = Against n

abbrev stop_of : List Float → List Pair → Verdict
stop_of segs [] = Fine
stop_of segs (p ∷ ps) = then_to (ground_pair segs p) (stop_of segs ps)

-- ---- a FILL that is refused, read where it stands

module _ (ws : List ℕ) (segs : List Float) where
  module _ (at rule first backdrop k : ℕ) (h : ground_of segs first (count_of rule) ≡ Against k) (s : Stands ws at (encode (Act.Fill rule first backdrop))) where
    is_fill : get_or ws at 0 ≡ fill_no
    is_fill = rw add-zero at (s.each 0 (omega arith))

    read_stop : move_of (op_of (get_or ws at 0)) ws segs at ≡ Refused k
    unfolding op_of move_of whole_move fill_move
    read_stop =
        let r = s.room in
        let a : get_or ws (at + 1) 0 ≡ rule = s.each 1 (omega arith) in
        let b : get_or ws (at + 2) 0 ≡ first = s.each 2 (omega arith) in
        let c : get_or ws (at + 3) 0 ≡ backdrop = s.each 3 (omega arith) in
        rw (is_fill, le-leb fill_words (length ws - at) (omega arith), a, b, c)
        (ap (λ (v : Verdict). on_ground v (Goes (Act.Fill rule first backdrop) (at + fill_words))) h)

    fill_stops : (n : ℕ) → trace_of (suc n) ws segs at ≡ ends (Against k)
    fill_stops n =
        let r = s.room in
        let look : look_at ws at ≡ Word fill_no = rw (lt-ltb at (length ws) (omega arith), is_fill) in
        trace_stop ws segs at fill_no look (λ e. absurd (omega arith)) (op_of fill_no) refl (Refused k)
        (sym read_stop ∙ ap (λ (x : ℕ). move_of (op_of x) ws segs at) is_fill) n k refl

  -- a pair: refused, or how those after it end
  pair_ends : (n at : ℕ) (p : Pair) (v : Verdict) → Stands ws at (pair_words p) → end_of (trace_of n ws segs (at + pair_size p)) ≡ v
      → end_of (trace_of (suc (suc n)) ws segs at) ≡ then_to (ground_pair segs p) v
  pair_ends n at (Solid colour) v s e = ap end_of (pair_goes ws segs n at (Solid colour) tt s) ∙ e
  pair_ends n at (Fill count rule first backdrop colour) v s e = go (ground_of segs first count) refl
    where
      go : (u : Verdict) → ground_of segs first count ≡ u → end_of (trace_of (suc (suc n)) ws segs at) ≡ then_to (ground_of segs first count) v
      go Fine q = ap end_of (pair_goes ws segs n at (Fill count rule first backdrop colour) q s) ∙ e ∙ ap (λ (u : Verdict). then_to u v) (sym q)
      go (Against k) q =
          let c : count_of (fill_rule count rule) ≡ count = omega arith in
          ap end_of
          (fill_stops at (fill_rule count rule) first backdrop k (ap (ground_of segs first) c ∙ q)
          (first_stands ws at (encode (cover_of (Fill count rule first backdrop colour))) (encode (Act.Color colour)) s) (suc n))
          ∙ ap (λ (u : Verdict). then_to u v) (sym q)

  -- the whole list, where so many commands are allowed
  list_ends_as : (ps : List Pair) (n at left fresh : ℕ) → 2 * length ps + jumps_of left ps ≤ n → All (ChunkStands ws) (laid (pen_at at left fresh) ps)
      → end_of (trace_of n ws segs at) ≡ stop_of segs ps
  list_ends_as [] n at left fresh m s = ap end_of (end_goes ws segs at 0 n s.0)
  list_ends_as (p ∷ ps) n at left fresh m s = go (fits p left) (list_ends_as ps) m s
    where
      go : (b : Bool) → ((k at left fresh : ℕ) → 2 * length ps + jumps_of left ps ≤ k → All (ChunkStands ws) (laid (pen_at at left fresh) ps) → end_of (trace_of k ws segs at) ≡ stop_of segs ps)
          → 2 * length (p ∷ ps) + (jump_count b + jumps_of (left_at b left - pair_size p) ps) ≤ n
          → All (ChunkStands ws) ((jump_if b (pen_at at left fresh) ++ (chunk (turned b (pen_at at left fresh)).at (pair_words p) ∷ [])) ++ laid (past p (turned b (pen_at at left fresh))) ps)
          → end_of (trace_of n ws segs at) ≡ then_to (ground_pair segs p) (stop_of segs ps)
      go true ih m s =
          let k = n - 2 in
          let e : n ≡ suc (suc k) = omega arith in
          ap (λ (i : ℕ). end_of (trace_of i ws segs at)) e
          ∙ pair_ends k at p (stop_of segs ps) s.0 (ih k (at + pair_size p) (left - pair_size p) fresh (omega arith) s.1)
      go false ih m s =
          let k = n - 3 in
          let e : n ≡ suc (suc (suc k)) = omega arith in
          ap (λ (i : ℕ). end_of (trace_of i ws segs at)) e
          ∙ ap end_of (act_goes ws segs at fresh (suc (suc k)) Act.Jump tt s.0)
          ∙ pair_ends k fresh p (stop_of segs ps) s.1.0 (ih k (fresh + pair_size p) (tile_words - pair_size p) (fresh + tile_words) (omega arith) s.1.1)

-- ---- its ground

module _ (segs : List Float) (room : ℕ) (enough : room ≤ length segs / segment_floats) where
  -- a pair whose slots are in the room is taken, or refused with 20
  which : (p : Pair) → Filled room p
      → ((ground_pair segs p ≡ Fine) × (CrookedPair segs p → ⊥)) ⊎ ((ground_pair segs p ≡ Against bad_segment) × CrookedPair segs p)
  which (Solid colour) f = inl (refl, λ x. x)
  which (Fill count rule first backdrop colour) f = go (straight_from segs first count) refl
    where
      there : (b : Bool) → straight_from segs first count ≡ b → ground_of segs first count ≡ cond b Fine (Against bad_segment)
      there b q = rw (le-leb (first + count) (length segs / segment_floats) (omega arith), q)

      go : (b : Bool) → straight_from segs first count ≡ b
          → ((ground_of segs first count ≡ Fine) × (CrookedPair segs (Fill count rule first backdrop colour) → ⊥))
          ⊎ ((ground_of segs first count ≡ Against bad_segment) × CrookedPair segs (Fill count rule first backdrop colour))
      go true q = inl (there true q, λ c. clash (sym (crooked_at segs first count c.0 c.1 (not_straight (segment_at segs (first + c.0)) c.2)) ∙ q))
        where
          clash : false ≡ true → ⊥
          clash e = let z : ◌≡◌ {A = ℕ} 0 1 = cc in absurd (omega arith)
      go false q = let w = first_crooked segs first count q in inr (there false q, (w.0, w.1, crooked_not (segment_at segs (first + w.0)) w.3))

  stop_why : (n : ℕ) (ps : List Pair) → All (Filled room) ps → stop_of segs ps ≡ Against n → (n ≡ bad_segment) × Some (CrookedPair segs) ps
  stop_why n [] f e = let z : ◌≡◌ {A = ℕ} 0 1 = cc in absurd (omega arith)
  stop_why n (p ∷ ps) f e = go (which p f.0) (stop_why n ps f.1)
    where
      go : ((ground_pair segs p ≡ Fine) × (CrookedPair segs p → ⊥)) ⊎ ((ground_pair segs p ≡ Against bad_segment) × CrookedPair segs p)
          → (stop_of segs ps ≡ Against n → (n ≡ bad_segment) × Some (CrookedPair segs) ps) → (n ≡ bad_segment) × (CrookedPair segs p ⊎ Some (CrookedPair segs) ps)
      go (inl h) ih = let w = ih (sym (ap (λ (v : Verdict). then_to v (stop_of segs ps)) h.0) ∙ e) in (w.0, inr w.1)
      go (inr h) ih =
          let d : Against bad_segment ≡ Against n = sym (ap (λ (v : Verdict). then_to v (stop_of segs ps)) h.0) ∙ e in
          let k : n ≡ bad_segment = cc in
          (k, inl h.1)

  stop_halts : (ps : List Pair) → All (Filled room) ps → Some (CrookedPair segs) ps → stop_of segs ps ≡ Against bad_segment
  stop_halts [] f s = absurd s
  stop_halts (p ∷ ps) f s = go (which p f.0) (stop_halts ps f.1) s
    where
      go : ((ground_pair segs p ≡ Fine) × (CrookedPair segs p → ⊥)) ⊎ ((ground_pair segs p ≡ Against bad_segment) × CrookedPair segs p)
          → (Some (CrookedPair segs) ps → stop_of segs ps ≡ Against bad_segment) → CrookedPair segs p ⊎ Some (CrookedPair segs) ps
          → then_to (ground_pair segs p) (stop_of segs ps) ≡ Against bad_segment
      go (inl h) ih (inl c) = absurd (h.1 c)
      go (inl h) ih (inr c) = ap (λ (v : Verdict). then_to v (stop_of segs ps)) h.0 ∙ ih c
      go (inr h) ih c = ap (λ (v : Verdict). then_to v (stop_of segs ps)) h.0

-- ---- of a list written: whatever segments fill the room told
pub crooked_exact : (s : Tables) (cols rows room : ℕ) (ws words : List ℕ) → Wrote s cols rows room ws words → (segs : List Float) → room ≤ length segs / segment_floats
    → (t : ℕ) → t < cols * rows → (n : ℕ) → (ends_at words segs t ≡ Against n) ↔ ((n ≡ bad_segment) × Some (CrookedPair segs) (tile_pairs s cols t))
unfolding tile_trace lists_of
crooked_exact s cols rows room ws words wrote segs enough t h n =
    let p = passed s cols rows room ws words wrote in
    let w = tile_among s cols (ChunkStands words) (cols * rows) 0 (tile_words * (cols * rows)) t (omega arith) (omega arith) (stand s cols rows room ws words wrote) in
    let e : ends_at words segs t ≡ stop_of segs (tile_pairs s cols t) =
    list_ends_as words segs (tile_pairs s cols t) most_commands (start_of t) own_words w.0 (p.short t h) w.1 in (
      λ q. stop_why segs room enough n (tile_pairs s cols t) (p.filled t h) (sym e ∙ q),
      λ q. e ∙ stop_halts segs room enough (tile_pairs s cols t) (p.filled t h) q.1 ∙ ap Against (sym q.0),
    )
