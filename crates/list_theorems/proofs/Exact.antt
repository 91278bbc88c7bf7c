-- The writer's refusals are exact: 15 and 9, and neither writes a word. Assumes nothing.
use mathlib.Core.Path.{◌≡◌, refl, sym, ap, subst}
use mathlib.Core.Bool.{Bool, true, false, cond, ◌&&◌}
use mathlib.Core.Logic.{◌≢◌, ◌⊎◌, inl, inr, ⊎_elim}
use mathlib.Core.List.{List, [], ◌∷◌}
use Prim.Native.Nat.{ℕ, zero, suc, ◌+◌, ◌*◌, ◌≤◌, ◌<◌}
use native.Mathlib.Decide.{dec_lt, ℕ_discrete}
use native.Mathlib.Omega.{arith}
use lib.Dec.{leb}
use lib.ListN.{length}
use borrow.Author.Tests.{le-leb, lt-leb, leb-true, leb-false}
use Rattle.lists.specs.Sums.{from}
use Rattle.panel.specs.Limits.{most_slots, most_commands}
use Rattle.panel.specs.Refusals.{done_no, no_room_word, too_long_word}
use Rattle.panel.specs.Checks.{check, first_no, unless}
use Rattle.panel.specs.Answer.{Answer, Done, Refused}
use Rattle.commands.specs.Numbers.{tile_words}
use Rattle.panel.proofs.BoolLaws.{one_false}
use Rattle.pairs.specs.Pairs.{Tables, tile_pairs}
use Rattle.lay_pairs.specs.Layout.{commands_of, written}
use Rattle.lay_pairs.specs.Slots.{slots_fit, all_fit}
use Rattle.write_lists.specs.Lists.{call_answer, long_from, fills_fit, regions_of, then_check, answer_of, lists_of, on_done, write_lists_of}
use Rattle.pairs.specs.declared.Pair.{Pair}
use Rattle.pairs.specs.declared.Pair.TheVariants.{Fill, Solid}
use Rattle.list_theorems.specs.Refusing.{Some, FirstLong, AllShort, SlotsOut, NoRoom, ListsExact}
use Rattle.list_theorems.proofs.Passed.{not_done, few_commands}

-- ---- two tests

false_and : (a b : Bool) → (a ≡ false) ⊎ (b ≡ false) → (a && b) ≡ false
false_and true b (inl e) = let z : ◌≡◌ {A = ℕ} 0 1 = cc in absurd (omega arith)
false_and true b (inr e) = e
false_and false b e = refl

-- ---- 9: some FILL

module _ (room : ℕ) where
  slots_out : (p : Pair) → slots_fit room p ≡ false → SlotsOut room p
  slots_out (Fill count rule first backdrop colour) e =
      ⊎_elim (λ f. inl (leb-false (first + count) room f)) (λ f. inr (leb-false (first + count) most_slots f)) (one_false (leb (first + count) room) (leb (first + count) most_slots) e)
  slots_out (Solid colour) e = let z : ◌≡◌ {A = ℕ} 0 1 = cc in absurd (omega arith)

  out_slots : (p : Pair) → SlotsOut room p → slots_fit room p ≡ false
  out_slots (Fill count rule first backdrop colour) h =
      false_and (leb (first + count) room) (leb (first + count) most_slots) (⊎_elim (λ f. inl (lt-leb (first + count) room f)) (λ f. inr (lt-leb (first + count) most_slots f)) h)
  out_slots (Solid colour) h = absurd h

  some_out : (ps : List Pair) → all_fit room ps ≡ false → Some (SlotsOut room) ps
  some_out [] e = let z : ◌≡◌ {A = ℕ} 0 1 = cc in absurd (omega arith)
  some_out (p ∷ ps) e = go (one_false (slots_fit room p) (all_fit room ps) e) (some_out ps)
    where
      go : (slots_fit room p ≡ false) ⊎ (all_fit room ps ≡ false) → (all_fit room ps ≡ false → Some (SlotsOut room) ps) → SlotsOut room p ⊎ Some (SlotsOut room) ps
      go (inl f) ih = inl (slots_out p f)
      go (inr f) ih = inr (ih f)

  out_some : (ps : List Pair) → Some (SlotsOut room) ps → all_fit room ps ≡ false
  out_some [] h = absurd h
  out_some (p ∷ ps) (inl h) = false_and (slots_fit room p) (all_fit room ps) (inl (out_slots p h))
  out_some (p ∷ ps) (inr h) = false_and (slots_fit room p) (all_fit room ps) (inr (out_some ps h))

  module _ (s : Tables) (cols : ℕ) where
    tile_out : (n t : ℕ) → fills_fit s cols room (from t n) ≡ false → (u : ℕ) × (t ≤ u) × (u < t + n) × Some (SlotsOut room) (tile_pairs s cols u)
    tile_out zero t e = let z : ◌≡◌ {A = ℕ} 0 1 = cc in absurd (omega arith)
    tile_out (suc n) t e = go (one_false (all_fit room (tile_pairs s cols t)) (fills_fit s cols room (from (suc t) n)) e) (tile_out n (suc t))
      where
        go : (all_fit room (tile_pairs s cols t) ≡ false) ⊎ (fills_fit s cols room (from (suc t) n) ≡ false)
            → (fills_fit s cols room (from (suc t) n) ≡ false → (u : ℕ) × (suc t ≤ u) × (u < suc t + n) × Some (SlotsOut room) (tile_pairs s cols u))
            → (u : ℕ) × (t ≤ u) × (u < t + suc n) × Some (SlotsOut room) (tile_pairs s cols u)
        go (inl f) ih = (t, omega arith, omega arith, some_out (tile_pairs s cols t) f)
        go (inr f) ih = let w = ih f in (w.0, omega arith, omega arith, w.3)

    out_tile : (n t u : ℕ) → t ≤ u → u < t + n → Some (SlotsOut room) (tile_pairs s cols u) → fills_fit s cols room (from t n) ≡ false
    out_tile zero t u a b h = absurd (omega arith)
    out_tile (suc n) t u a b h = go (ℕ_discrete t u) (out_tile n (suc t) u)
      where
        go : Dec (t ≡ u) → (suc t ≤ u → u < suc t + n → Some (SlotsOut room) (tile_pairs s cols u) → fills_fit s cols room (from (suc t) n) ≡ false)
            → (all_fit room (tile_pairs s cols t) && fills_fit s cols room (from (suc t) n)) ≡ false
        go (yes e) ih = false_and (all_fit room (tile_pairs s cols t)) (fills_fit s cols room (from (suc t) n)) (inl (out_some (tile_pairs s cols t) (rw e h)))
        go (no e) ih = false_and (all_fit room (tile_pairs s cols t)) (fills_fit s cols room (from (suc t) n)) (inr (ih (omega arith) (omega arith) h))

-- ---- 15: the first tile that is too long

abbrev pub commands_at : Tables → ℕ → ℕ → ℕ
commands_at s cols t = commands_of (tile_pairs s cols t)

module _ (s : Tables) (cols : ℕ) where
  long_first : (n t k u : ℕ) → long_from s cols (from t n) ≡ Refused k u
      → (t ≤ u) × (u < t + n) × (most_commands < commands_at s cols u) × ((v : ℕ) → t ≤ v → v < u → commands_at s cols v ≤ most_commands)
  long_first zero t k u e = not_done k u (sym e)
  long_first (suc n) t k u e = go (leb (commands_at s cols t) most_commands) refl (long_first n (suc t) k u) e
    where
      go : (b : Bool) → leb (commands_at s cols t) most_commands ≡ b
          → (long_from s cols (from (suc t) n) ≡ Refused k u → (suc t ≤ u) × (u < suc t + n) × (most_commands < commands_at s cols u) ×
          ((v : ℕ) → suc t ≤ v → v < u → commands_at s cols v ≤ most_commands))
          → cond b (long_from s cols (from (suc t) n)) (Refused too_long_word t) ≡ Refused k u
          → (t ≤ u) × (u < t + suc n) × (most_commands < commands_at s cols u) × ((v : ℕ) → t ≤ v → v < u → commands_at s cols v ≤ most_commands)
      go true q ih f = let w = ih f in (omega arith, omega arith, w.2, λ v a b. at v a b (ℕ_discrete t v) w.3)
        where
          at : (v : ℕ) → t ≤ v → v < u → Dec (t ≡ v) → ((v : ℕ) → suc t ≤ v → v < u → commands_at s cols v ≤ most_commands) → commands_at s cols v ≤ most_commands
          at v a b (yes d) r = subst (λ (x : ℕ). commands_at s cols x ≤ most_commands) d (leb-true (commands_at s cols t) most_commands q)
          at v a b (no d) r = r v (omega arith) b
      go false q ih f =
          let d : t ≡ u = cc in
          (omega arith, omega arith, subst (λ (x : ℕ). most_commands < commands_at s cols x) d (leb-false (commands_at s cols t) most_commands q), λ v a b. absurd (omega arith))

  first_long : (n t u : ℕ) → t ≤ u → u < t + n → most_commands < commands_at s cols u → ((v : ℕ) → t ≤ v → v < u → commands_at s cols v ≤ most_commands)
      → long_from s cols (from t n) ≡ Refused too_long_word u
  first_long zero t u a b h f = absurd (omega arith)
  first_long (suc n) t u a b h f = go (ℕ_discrete t u) (first_long n (suc t) u)
    where
      go : Dec (t ≡ u)
          → (suc t ≤ u → u < suc t + n → most_commands < commands_at s cols u → ((v : ℕ) → suc t ≤ v → v < u → commands_at s cols v ≤ most_commands) →
          long_from s cols (from (suc t) n) ≡ Refused too_long_word u)
          → cond (leb (commands_at s cols t) most_commands) (long_from s cols (from (suc t) n)) (Refused too_long_word t) ≡ Refused too_long_word u
      go (yes d) ih = rw (d, lt-leb (commands_at s cols u) most_commands h)
      go (no d) ih = rw (le-leb (commands_at s cols t) most_commands (f t (omega arith) (omega arith))) (ih (omega arith) (omega arith) h (λ v x y. f v (omega arith) y))

  pub short_done : (n t : ℕ) → ((v : ℕ) → t ≤ v → v < t + n → commands_at s cols v ≤ most_commands) → long_from s cols (from t n) ≡ Done
  short_done zero t f = refl
  short_done (suc n) t f = rw (le-leb (commands_at s cols t) most_commands (f t (omega arith) (omega arith))) (short_done n (suc t) (λ v x y. f v (omega arith) (omega arith)))

-- ---- the call

room_is : (a b : Bool) → unless (first_no (check a no_room_word ∷ check b no_room_word ∷ [])) 0 Done ≡ cond (a && b) Done (Refused no_room_word 0)
room_is true true = refl
room_is true false = refl
room_is false b = refl

clash : {P : Type 0} {n m k : ℕ} → n ∷ m ∷ [] ≡ k ∷ [] → P
clash e = let z : ◌≡◌ {A = ℕ} 0 1 = cc in absurd (omega arith)

module _ (s : Tables) (cols rows room : ℕ) (ws : List ℕ) (ok : call_answer s cols rows ≡ Done) where
  data Case : Type 0 where
    is_long : (t : ℕ) → FirstLong s cols rows t → answer_of s cols rows room (length ws) ≡ Refused too_long_word t → Case
    is_out : AllShort s cols rows → NoRoom s cols rows room (length ws) → answer_of s cols rows room (length ws) ≡ Refused no_room_word 0 → Case
    is_done : AllShort s cols rows → (NoRoom s cols rows room (length ws) → ⊥) → answer_of s cols rows room (length ws) ≡ Done → Case

  answer_is : (a : Answer) → long_from s cols (from 0 (cols * rows)) ≡ a → (b d : Bool) → leb (tile_words * regions_of s cols rows) (length ws) ≡ b
      → fills_fit s cols room (from 0 (cols * rows)) ≡ d → answer_of s cols rows room (length ws) ≡ then_check a (cond (b && d) Done (Refused no_room_word 0))
  unfolding answer_of
  answer_is a e b d f h = rw (ok, e, f, h) (ap (then_check a) (room_is b d))

  which : Case
  which = go (long_from s cols (from 0 (cols * rows))) refl (leb (tile_words * regions_of s cols rows) (length ws)) refl (fills_fit s cols room (from 0 (cols * rows))) refl
    where
      n : ℕ
      n = tile_words * regions_of s cols rows

      short : long_from s cols (from 0 (cols * rows)) ≡ Done → AllShort s cols rows
      short e t h = few_commands s cols (cols * rows) 0 t (omega arith) (omega arith) e

      fits : leb n (length ws) ≡ true → fills_fit s cols room (from 0 (cols * rows)) ≡ true → NoRoom s cols rows room (length ws) → ⊥
      fits f h (inl w) = let k = leb-true n (length ws) f in omega arith
      fits f h (inr w) =
          let k = out_tile room s cols (cols * rows) 0 w.0 (omega arith) (omega arith) w.2 in
          let z : ◌≡◌ {A = ℕ} 0 1 = cc in
          omega arith

      go : (a : Answer) → long_from s cols (from 0 (cols * rows)) ≡ a → (b : Bool) → leb n (length ws) ≡ b → (d : Bool)
          → fills_fit s cols room (from 0 (cols * rows)) ≡ d → Case
      go (Refused k t) e b f d h =
          let w = long_first s cols (cols * rows) 0 k t e in
          is_long t (record { on_screen_lem = omega arith; long = w.2; earlier = λ u r. w.3 u (omega arith) r })
          (answer_is (Refused too_long_word t) (first_long s cols (cols * rows) 0 t w.0 w.1 w.2 w.3) b d f h)
      go Done e true f true h = is_done (short e) (fits f h) (answer_is Done e true true f h)
      go Done e true f false h =
          let w = tile_out room s cols (cols * rows) 0 h in
          is_out (short e) (inr (w.0, omega arith, w.3)) (answer_is Done e true false f h)
      go Done e false f d h = is_out (short e) (inl (leb-false n (length ws) f)) (answer_is Done e false d f h)

  -- the first is one
  one_first : (t u : ℕ) → FirstLong s cols rows t → FirstLong s cols rows u → t ≡ u
  one_first t u a b = go (dec_lt t u) (dec_lt u t)
    where
      go : Dec (t < u) → Dec (u < t) → t ≡ u
      go (yes h) d = let x = a.long in let y = b.earlier t h in absurd (omega arith)
      go (no h) (yes d) = let x = b.long in let y = a.earlier u d in absurd (omega arith)
      go (no h) (no d) = omega arith

  pub lists_exact : ListsExact s cols rows room ws (write_lists_of s cols rows room ws)
  unfolding write_lists_of
  lists_exact = go which
    where
      go : Case → ListsExact s cols rows room ws (on_done (answer_of s cols rows room (length ws)) ws (written (lists_of s cols rows) ws))
      go (is_long t w e) =
          rw e record {
            fifteen = λ u. ((λ p. let d : t ≡ u = cc in subst (FirstLong s cols rows) d w), (λ v. rw (one_first t u w v)));
            nine = ((λ p. let z : ◌≡◌ {A = ℕ} too_long_word no_room_word = cc in absurd (omega arith)), (λ p. let x = w.long in let y = p.0 t w.on_screen_lem in absurd (omega arith)));
            none = ((λ p. clash p), (λ p. let x = w.long in let y = p.0 t w.on_screen_lem in absurd (omega arith)));
            kept = λ p. refl;
          }
      go (is_out a r e) =
          rw e record {
            fifteen = λ u. ((λ p. let z : ◌≡◌ {A = ℕ} no_room_word too_long_word = cc in absurd (omega arith)), (λ w. let x = w.long in let y = a u w.on_screen_lem in absurd (omega arith)));
            nine = ((λ p. (a, r)), (λ p. refl));
            none = ((λ p. clash p), (λ p. absurd (p.1 r)));
            kept = λ p. refl;
          }
      go (is_done a r e) =
          rw e record {
            fifteen = λ u. ((λ p. clash (sym p)), (λ w. let x = w.long in let y = a u w.on_screen_lem in absurd (omega arith)));
            nine = ((λ p. clash (sym p)), (λ p. absurd (r p.1)));
            none = ((λ p. (a, r)), (λ p. refl));
            kept = λ p. absurd (p refl);
          }

-- no refusal writes a word, 1 to 4 included
pub nothing_written : (s : Tables) (cols rows room : ℕ) (ws : List ℕ) → (write_lists_of s cols rows room ws).paper ≢ done_no ∷ [] → (write_lists_of s cols rows room ws).words ≡ ws
unfolding write_lists_of
nothing_written s cols rows room ws h = go (answer_of s cols rows room (length ws)) h
  where
    go : (a : Answer) → (on_done a ws (written (lists_of s cols rows) ws)).paper ≢ done_no ∷ [] → (on_done a ws (written (lists_of s cols rows) ws)).words ≡ ws
    go Done p = absurd (p refl)
    go (Refused n i) p = refl
