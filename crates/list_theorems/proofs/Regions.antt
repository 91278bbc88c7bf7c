-- A list laid out in regions: its chunks lie apart, so all of them stand once they are written, and the commands read there are its pairs'. Assumes nothing.
use mathlib.Core.Path.{◌≡◌, refl, sym, ap, subst, ◌∙◌}
use mathlib.Core.Bool.{Bool, true, false}
use mathlib.Core.Logic.{◌⊎◌, inl, inr}
use mathlib.Core.List.{List, [], ◌∷◌, ◌++◌}
use Prim.Native.Nat.{ℕ, suc, ◌+◌, ◌-◌, ◌*◌, ◌≤◌, ◌<◌}
use native.Mathlib.Omega.{arith}
use lib.ListN.{length, get_or, length-append}
use lib.Seq.{sets, length-sets}
use lib.Ieee.{Float}
use Rattle.lists.specs.Cells.{get_d_sets_before, get_d_sets_after}
use Rattle.lists.specs.Run.{All}
use Rattle.commands.specs.Numbers.{encode, tile_words}
use Rattle.panel.specs.Verdict.{Fine}
use Rattle.coverage.specs.Ground.{ground_of}
use Rattle.commands.specs.Moves.{count_of, does, trace_of}
use Rattle.commands.specs.declared.steps.Act.TheVariants as Act
use Rattle.commands.proofs.Encoded.{Stands, written_stands, act_goes, end_goes}
use Rattle.pairs.specs.Pairs.{fill_rule, cover_of, colour_of}
use Rattle.lay_pairs.specs.Layout.{pair_words, pair_size, Chunk, chunk, pen_at, fits, jump_if, turned, past, laid, jump_count, left_at, jumps_of, written}
use Rattle.pairs.specs.declared.Pair.{Pair}
use Rattle.pairs.specs.declared.Pair.TheVariants.{Fill, Solid}
use Rattle.list_theorems.specs.Traced.{jump_then, pair_then, list_trace}
use Rattle.list_theorems.proofs.Writes.{other_stands, first_stands, then_stands}

-- ---- chunks in memory

abbrev pub ChunkStands : List ℕ → Chunk → Type 0
ChunkStands ws c = Stands ws c.place c.words

abbrev pub Apart : Chunk → Chunk → Type 0
Apart c d = (c.place + length c.words ≤ d.place) ⊎ (d.place + length d.words ≤ c.place)

abbrev pub AllApart : List Chunk → Type 0
AllApart [] = Unit {0}
AllApart (c ∷ cs) = All (Apart c) cs × AllApart cs

abbrev pub InWords : ℕ → Chunk → Type 0
InWords n c = c.place + length c.words ≤ n

stays : (c : Chunk) (cs : List Chunk) (ws : List ℕ) → All (Apart c) cs → ChunkStands ws c → ChunkStands (written cs ws) c
stays c [] ws a s = s
stays c (d ∷ cs) ws a s = stays c cs (sets ws d.place d.words) a.1 (other_stands ws c.place c.words d.place d.words a.0 s)

pub all_stand : (cs : List Chunk) (ws : List ℕ) → AllApart cs → All (InWords (length ws)) cs → All (ChunkStands (written cs ws)) cs
all_stand [] ws a h = tt
all_stand (c ∷ cs) ws a h =
    let ws' = sets ws c.place c.words in (
      stays c cs ws' a.0 (written_stands ws c.place c.words h.0),
      all_stand cs ws' a.1 (subst (λ (n : ℕ). All (InWords n) cs) (sym (length-sets ws c.place c.words)) h.1),
    )

-- a word that no chunk is over
abbrev pub Off : ℕ → Chunk → Type 0
Off i c = (i < c.place) ⊎ (c.place + length c.words ≤ i)

pub word_stays : (cs : List Chunk) (ws : List ℕ) (i : ℕ) → All (Off i) cs → get_or (written cs ws) i 0 ≡ get_or ws i 0
word_stays [] ws i h = refl
word_stays (c ∷ cs) ws i h = word_stays cs (sets ws c.place c.words) i h.1 ∙ go h.0
  where
    go : Off i c → get_or (sets ws c.place c.words) i 0 ≡ get_or ws i 0
    go (inl b) = get_d_sets_before c.words ws c.place i 0 b
    go (inr b) = get_d_sets_after c.words ws c.place i 0 b

-- ---- the commands of chunks that stand

-- a FILL's segments are among so many
abbrev pub Filled : ℕ → Pair → Type 0
Filled room (Fill count rule first backdrop colour) = first + count ≤ room
Filled room (Solid colour) = Unit {0}

-- nor are they refused
abbrev pub Drawn : List Float → Pair → Type 0
Drawn segs (Fill count rule first backdrop colour) = ground_of segs first count ≡ Fine
Drawn segs (Solid colour) = Unit {0}

module _ (ws : List ℕ) (segs : List Float) where
  cover_goes : (n at : ℕ) (p : Pair) → Drawn segs p → Stands ws at (encode (cover_of p))
      → trace_of (suc n) ws segs at ≡ does (cover_of p) (trace_of n ws segs (at + length (encode (cover_of p))))
  cover_goes n at (Fill count rule first backdrop colour) h s =
      let e : count_of (fill_rule count rule) ≡ count = omega arith in
      act_goes ws segs at 0 n _ (ap (ground_of segs first) e ∙ h) s
  cover_goes n at (Solid colour) h s = act_goes ws segs at 0 n Act.Solid tt s

  pub pair_goes : (n at : ℕ) (p : Pair) → Drawn segs p → Stands ws at (pair_words p) → trace_of (suc (suc n)) ws segs at ≡ pair_then p (trace_of n ws segs (at + pair_size p))
  pair_goes n at p h s =
      let vs = encode (cover_of p) in
      let us = encode (Act.Color (colour_of p)) in
      let e : at + length vs + length us ≡ at + pair_size p = omega (arith, length-append vs us) in
      cover_goes (suc n) at p h (first_stands ws at vs us s)
      ∙ ap (does (cover_of p))
      (act_goes ws segs (at + length vs) 0 n (Act.Color (colour_of p)) tt (then_stands ws at vs us s)
      ∙ ap (λ (k : ℕ). does (Act.Color (colour_of p)) (trace_of n ws segs k)) e)

  -- the whole list, where so many commands are allowed
  pub list_goes : (ps : List Pair) (n at left fresh : ℕ) → All (Drawn segs) ps → 2 * length ps + jumps_of left ps ≤ n → All (ChunkStands ws) (laid (pen_at at left fresh) ps)
      → trace_of n ws segs at ≡ list_trace left ps
  unfolding list_trace
  list_goes [] n at left fresh h m s = end_goes ws segs at 0 n s.0
  list_goes (p ∷ ps) n at left fresh h m s = go (fits p left) (λ k at left fresh. list_goes ps k at left fresh h.1) m s
    where
      go : (b : Bool) → ((k at left fresh : ℕ) → 2 * length ps + jumps_of left ps ≤ k → All (ChunkStands ws) (laid (pen_at at left fresh) ps) → trace_of k ws segs at ≡ list_trace left ps)
          → 2 * length (p ∷ ps) + (jump_count b + jumps_of (left_at b left - pair_size p) ps) ≤ n
          → All (ChunkStands ws) ((jump_if b (pen_at at left fresh) ++ (chunk (turned b (pen_at at left fresh)).at (pair_words p) ∷ [])) ++ laid (past p (turned b (pen_at at left fresh))) ps)
          → trace_of n ws segs at ≡ jump_then b (pair_then p (list_trace (left_at b left - pair_size p) ps))
      go true ih m s =
          let k = n - 2 in
          let e : n ≡ suc (suc k) = omega arith in
          ap (λ (i : ℕ). trace_of i ws segs at) e
          ∙ pair_goes k at p h.0 s.0
          ∙ ap (pair_then p) (ih k (at + pair_size p) (left - pair_size p) fresh (omega arith) s.1)
      go false ih m s =
          let k = n - 3 in
          let e : n ≡ suc (suc (suc k)) = omega arith in
          ap (λ (i : ℕ). trace_of i ws segs at) e
          ∙ act_goes ws segs at fresh (suc (suc k)) Act.Jump tt s.0
          ∙ ap (does Act.Jump)
          (pair_goes k fresh p h.0 s.1.0
          ∙ ap (pair_then p) (ih k (fresh + pair_size p) (tile_words - pair_size p) (fresh + tile_words) (omega arith) s.1.1))
