-- The chunks of all screen tiles' lists lie in the regions that are theirs, no two of them over each other. Assumes nothing.
use mathlib.Core.Path.{◌≡◌, refl, subst}
use mathlib.Core.Bool.{Bool, true, false}
use mathlib.Core.Logic.{◌⊎◌, inl, inr, ⊎_elim}
use mathlib.Core.List.{List, [], ◌∷◌, ◌++◌}
use Prim.Native.Nat.{ℕ, zero, suc, ◌+◌, ◌-◌, ◌*◌, ◌≤◌, ◌<◌}
use native.Mathlib.Omega.{arith}
use native.Mathlib.Decide.{dec_lt, ℕ_discrete}
use lib.ListN.{length}
use borrow.Author.Tests.{leb-true}
use Rattle.lists.specs.Run.{All, all_append}
use Rattle.lists.specs.Sums.{from}
use Rattle.commands.specs.Numbers.{encode_to, jump_words, tile_words, start_of}
use Rattle.commands.specs.declared.steps.Act.TheVariants.{Jump}
use Rattle.pairs.specs.Pairs.{Tables, tile_pairs}
use Rattle.lay_pairs.specs.Layout.{pair_words, pair_size, Chunk, chunk, pen_at, fits, jump_if, turned, past, laid, jump_count, left_at, jumps_of, own_words, pen_of}
use Rattle.write_lists.specs.Lists.{fresh_of, lists_from}
use Rattle.pairs.specs.declared.Pair.{Pair}
use Rattle.pairs.specs.declared.Pair.TheVariants.{Fill, Solid}
use Rattle.list_theorems.proofs.Regions.{Apart, AllApart, Off}

-- ---- lists of chunks

pub all_first : {A : Type 0} (P : A → Type 0) (xs ys : List A) → All P (xs ++ ys) → All P xs
all_first P [] ys p = tt
all_first P (x ∷ xs) ys p = (p.0, all_first P xs ys p.1)

pub all_then : {A : Type 0} (P : A → Type 0) (xs ys : List A) → All P (xs ++ ys) → All P ys
all_then P [] ys p = p
all_then P (x ∷ xs) ys p = all_then P xs ys p.1

pub all_map : {A : Type 0} (P Q : A → Type 0) → ((x : A) → P x → Q x) → (xs : List A) → All P xs → All Q xs
all_map P Q f [] p = tt
all_map P Q f (x ∷ xs) p = (f x p.0, all_map P Q f xs p.1)

apart_append : (xs ys : List Chunk) → AllApart xs → AllApart ys → All (λ c. All (Apart c) ys) xs → AllApart (xs ++ ys)
apart_append [] ys a b c = b
apart_append (x ∷ xs) ys a b c = (all_append (Apart x) xs ys a.0 c.0, apart_append xs ys a.1 b c.1)

-- ---- where they lie: from a up to b, or from f up to g

abbrev In : ℕ → ℕ → ℕ → ℕ → Chunk → Type 0
In a b f g c = ((a ≤ c.place) × (c.place + length c.words ≤ b)) ⊎ ((f ≤ c.place) × (c.place + length c.words ≤ g))

pair_most : (p : Pair) → pair_size p + jump_words ≤ tile_words
pair_most (Fill count rule first backdrop colour) = omega arith
pair_most (Solid colour) = omega arith

-- one tile's: its own region's, from the pen on, or its fresh ones'
laid_in : (ps : List Pair) (at left fresh : ℕ) → jump_words ≤ left → All (In at (at + left) fresh (fresh + tile_words * jumps_of left ps)) (laid (pen_at at left fresh) ps)
laid_in [] at left fresh h = (inl (omega arith, omega arith), tt)
laid_in (p ∷ ps) at left fresh h = go (fits p left) refl (laid_in ps)
  where
    go : (b : Bool) → fits p left ≡ b
        → ((at left fresh : ℕ) → jump_words ≤ left → All (In at (at + left) fresh (fresh + tile_words * jumps_of left ps)) (laid (pen_at at left fresh) ps))
        → All (In at (at + left) fresh (fresh + tile_words * (jump_count b + jumps_of (left_at b left - pair_size p) ps)))
        ((jump_if b (pen_at at left fresh) ++ (chunk (turned b (pen_at at left fresh)).at (pair_words p) ∷ [])) ++ laid (past p (turned b (pen_at at left fresh))) ps)
    go true e ih =
        let f : pair_size p + jump_words ≤ left = leb-true (pair_size p + jump_words) left e in (
          inl (omega arith, omega arith),
          all_map _ _ (λ c. ⊎_elim (λ q. inl (omega arith, omega arith)) (λ q. inr (omega arith, omega arith)))
              (laid (pen_at (at + pair_size p) (left - pair_size p) fresh) ps) (ih (at + pair_size p) (left - pair_size p) fresh (omega arith)),
        )
    go false e ih =
        let f : pair_size p + jump_words ≤ tile_words = pair_most p in (
          inl (omega arith, omega arith),
          (
            inr (omega arith, omega arith),
            all_map _ _ (λ c. ⊎_elim (λ q. inr (omega arith, omega arith)) (λ q. inr (omega arith, omega arith)))
                (laid (pen_at (fresh + pair_size p) (tile_words - pair_size p) (fresh + tile_words)) ps)
                (ih (fresh + pair_size p) (tile_words - pair_size p) (fresh + tile_words) (omega arith)),
          ),
        )

-- the next one begins where the one before has ended
laid_apart : (ps : List Pair) (at left fresh : ℕ) → jump_words ≤ left → at + left ≤ fresh → AllApart (laid (pen_at at left fresh) ps)
laid_apart [] at left fresh h k = (tt, tt)
laid_apart (p ∷ ps) at left fresh h k = go (fits p left) refl (laid_apart ps)
  where
    go : (b : Bool) → fits p left ≡ b → ((at left fresh : ℕ) → jump_words ≤ left → at + left ≤ fresh → AllApart (laid (pen_at at left fresh) ps))
        → AllApart ((jump_if b (pen_at at left fresh) ++ (chunk (turned b (pen_at at left fresh)).at (pair_words p) ∷ [])) ++ laid (past p (turned b (pen_at at left fresh))) ps)
    go true e ih =
        let f : pair_size p + jump_words ≤ left = leb-true (pair_size p + jump_words) left e in
        let rest = laid_in ps (at + pair_size p) (left - pair_size p) fresh (omega arith) in (
          all_map _ (Apart (chunk at (pair_words p))) (λ c. ⊎_elim (λ q. inl (omega arith)) (λ q. inl (omega arith))) (laid (pen_at (at + pair_size p) (left - pair_size p) fresh) ps) rest,
          ih (at + pair_size p) (left - pair_size p) fresh (omega arith) (omega arith),
        )
    go false e ih =
        let f : pair_size p + jump_words ≤ tile_words = pair_most p in
        let cs = laid (pen_at (fresh + pair_size p) (tile_words - pair_size p) (fresh + tile_words)) ps in
        let rest = laid_in ps (fresh + pair_size p) (tile_words - pair_size p) (fresh + tile_words) (omega arith) in (
          (inl (omega arith), all_map _ (Apart (chunk at (encode_to fresh Jump))) (λ c. ⊎_elim (λ q. inl (omega arith)) (λ q. inl (omega arith))) cs rest),
          (
            all_map _ (Apart (chunk fresh (pair_words p))) (λ c. ⊎_elim (λ q. inl (omega arith)) (λ q. inl (omega arith))) cs rest,
            ih (fresh + pair_size p) (tile_words - pair_size p) (fresh + tile_words) (omega arith) (omega arith),
          ),
        )

-- ---- all tiles from t on, n of them, where the next fresh region is at `fresh`
module _ (s : Tables) (cols : ℕ) where
  tile_in_lem : (t fresh : ℕ) → All (In (tile_words * t) (tile_words * (t + 1)) fresh (fresh + tile_words * jumps_of own_words (tile_pairs s cols t))) (laid (pen_of t fresh) (tile_pairs s cols t))
  tile_in_lem t fresh =
      all_map _ _ (λ c. ⊎_elim (λ q. inl (omega arith, omega arith)) (λ q. inr (omega arith, omega arith))) (laid (pen_of t fresh) (tile_pairs s cols t))
      (laid_in (tile_pairs s cols t) (start_of t) own_words fresh (omega arith))

  pub lists_in : (n t fresh : ℕ) → All (In (tile_words * t) (tile_words * (t + n)) fresh (fresh + tile_words * fresh_of s cols (from t n))) (lists_from s cols fresh (from t n))
  lists_in zero t fresh = tt
  lists_in (suc n) t fresh =
      let j = jumps_of own_words (tile_pairs s cols t) in
      all_append _ (laid (pen_of t fresh) (tile_pairs s cols t)) (lists_from s cols (fresh + tile_words * j) (from (suc t) n))
      (all_map _ _ (λ c. ⊎_elim (λ q. inl (omega arith, omega arith)) (λ q. inr (omega arith, omega arith))) (laid (pen_of t fresh) (tile_pairs s cols t)) (tile_in_lem t fresh))
      (all_map _ _ (λ c. ⊎_elim (λ q. inl (omega arith, omega arith)) (λ q. inr (omega arith, omega arith)))
      (lists_from s cols (fresh + tile_words * j) (from (suc t) n)) (lists_in n (suc t) (fresh + tile_words * j)))

  pub lists_apart : (n t fresh : ℕ) → tile_words * (t + n) ≤ fresh → AllApart (lists_from s cols fresh (from t n))
  lists_apart zero t fresh h = tt
  lists_apart (suc n) t fresh h =
      let j = jumps_of own_words (tile_pairs s cols t) in
      let mine = laid (pen_of t fresh) (tile_pairs s cols t) in
      let rest = lists_from s cols (fresh + tile_words * j) (from (suc t) n) in
      apart_append mine rest (laid_apart (tile_pairs s cols t) (start_of t) own_words fresh (omega arith) (omega arith)) (lists_apart n (suc t) (fresh + tile_words * j) (omega arith))
      (all_map _ (λ c. All (Apart c) rest) (λ c q. all_map _ (Apart c) (λ d r. across c d q r) rest (lists_in n (suc t) (fresh + tile_words * j))) mine (tile_in_lem t fresh))
    where
      across : (c d : Chunk) → In (tile_words * t) (tile_words * (t + 1)) fresh (fresh + tile_words * jumps_of own_words (tile_pairs s cols t)) c
          → In (tile_words * suc t) (tile_words * (suc t + n)) (fresh + tile_words * jumps_of own_words (tile_pairs s cols t))
          (fresh + tile_words * jumps_of own_words (tile_pairs s cols t) + tile_words * fresh_of s cols (from (suc t) n)) d → Apart c d
      across c d (inl q) (inl r) = inl (omega arith)
      across c d (inl q) (inr r) = inl (omega arith)
      across c d (inr q) (inl r) = inr (omega arith)
      across c d (inr q) (inr r) = inl (omega arith)

  -- one of the tiles: its chunks are among them
  pub tile_among : (P : Chunk → Type 0) (n t fresh u : ℕ) → t ≤ u → u < t + n → All P (lists_from s cols fresh (from t n)) → (f : ℕ) × All P (laid (pen_of u f) (tile_pairs s cols u))
  tile_among P zero t fresh u h k p = absurd (omega arith)
  tile_among P (suc n) t fresh u h k p = go (ℕ_discrete t u) (tile_among P n (suc t) (fresh + tile_words * jumps_of own_words (tile_pairs s cols t)) u)
    where
      go : Dec (t ≡ u) → (suc t ≤ u → u < suc t + n → All P (lists_from s cols (fresh + tile_words * jumps_of own_words (tile_pairs s cols t)) (from (suc t) n)) →
          (f : ℕ) × All P (laid (pen_of u f) (tile_pairs s cols u)))
          → (f : ℕ) × All P (laid (pen_of u f) (tile_pairs s cols u))
      go (yes e) ih = (
        fresh,
        subst (λ (v : ℕ). All P (laid (pen_of v fresh) (tile_pairs s cols v))) e
            (all_first P (laid (pen_of t fresh) (tile_pairs s cols t))
            (lists_from s cols (fresh + tile_words * jumps_of own_words (tile_pairs s cols t)) (from (suc t) n)) p),
      )
      go (no e) ih = ih (omega arith) (omega arith) (all_then P (laid (pen_of t fresh) (tile_pairs s cols t))
          (lists_from s cols (fresh + tile_words * jumps_of own_words (tile_pairs s cols t)) (from (suc t) n)) p)

  -- no chunk is over the first word of a tile's own region
  pub first_off : (n t fresh u : ℕ) → tile_words * u < fresh → All (Off (tile_words * u)) (lists_from s cols fresh (from t n))
  first_off zero t fresh u h = tt
  first_off (suc n) t fresh u h =
      let j = jumps_of own_words (tile_pairs s cols t) in
      all_append (Off (tile_words * u)) (laid (pen_of t fresh) (tile_pairs s cols t)) (lists_from s cols (fresh + tile_words * j) (from (suc t) n))
      (all_map _ (Off (tile_words * u)) (λ c. ⊎_elim (λ q. go c q (dec_lt t u)) (λ q. inl (omega arith))) (laid (pen_of t fresh) (tile_pairs s cols t))
      (laid_in (tile_pairs s cols t) (start_of t) own_words fresh (omega arith)))
      (first_off n (suc t) (fresh + tile_words * j) u (omega arith))
    where
      go : (c : Chunk) → (start_of t ≤ c.place) × (c.place + length c.words ≤ start_of t + own_words) → Dec (t < u) → Off (tile_words * u) c
      go c q (yes d) = inr (omega arith)
      go c q (no d) = inl (omega arith)
