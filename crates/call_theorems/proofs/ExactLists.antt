-- Exact at the call: the list writer. Its promise is met where one of its ways holds, and nowhere else. Assumes nothing.
use mathlib.Core.Path.{◌≡◌, refl, sym, ap, ◌∙◌}
use mathlib.Core.Logic.{◌↔◌, ◌⊎◌, inl, inr}
use mathlib.Core.Bool.{Bool, true, false, cond}
use mathlib.Core.List.{List, [], ◌∷◌}
use Prim.Native.Nat.{ℕ, ◌*◌}
use lib.Dec.{leb}
use lib.ListN.{length}
use Rattle.panel.specs.Refusals.{no_room_word, too_long_word}
use Rattle.panel.specs.Limits.{most_commands}
use Rattle.panel.specs.Kinds.{paper_of}
use Rattle.panel.specs.Checks.{check, first_no, unless}
use Rattle.panel.specs.Paths.{paths_answer}
use Rattle.panel.specs.Answer.{Answer, Done, Refused}
use Rattle.panel.specs.Verdict.{Verdict, Fine, Against}
use Rattle.panel.proofs.CheckLaws.{unless_fine, unless_done}
use Rattle.panel.proofs.KindLaws.{paper_once}
use Rattle.commands.specs.Numbers.{tile_words}
use Rattle.pairs.specs.Pairs.{Tables, tile_pairs}
use Rattle.lay_pairs.specs.Layout.{commands_of, written}
use Rattle.write_lists.specs.Lists.{call_answer, long_from, fills_fit, room_checks, screen_tiles, regions_of, then_check, answer_of, lists_of, write_lists_of, ListsMet, Left}
use Rattle.theorems.proofs.Exact.{no_clash, row_exact}
use Rattle.theorems.proofs.ExactPaths.{paths_exact}
use Rattle.list_theorems.proofs.Written.{one_lists}
use Rattle.list_theorems.proofs.Exact.{lists_exact}
use Rattle.call_theorems.specs.Ways.{FirstWhy, Passes, lists_row, ListsWay, lists_refused, too_long, no_room, all_written}

long_no : (s : Tables) (cols : ℕ) (ts : List ℕ) (n t : ℕ) → long_from s cols ts ≡ Refused n t → n ≡ too_long_word
long_no s cols [] n t e = no_clash cc
long_no s cols (u ∷ ts) n t e = go (leb (commands_of (tile_pairs s cols u)) most_commands) e (long_no s cols ts n t)
  where
    go : (b : Bool) → cond b (long_from s cols ts) (Refused too_long_word u) ≡ Refused n t → (long_from s cols ts ≡ Refused n t → n ≡ too_long_word) → n ≡ too_long_word
    go true d ih = ih d
    go false d ih = let w : too_long_word ≡ n = cc in sym w

room_no : (a b : Bool) (n t : ℕ) → unless (first_no (check a no_room_word ∷ check b no_room_word ∷ [])) 0 Done ≡ Refused n t → (n ≡ no_room_word) × (t ≡ 0)
room_no true true n t e = no_clash cc
room_no true false n t e = let w : no_room_word ≡ n = cc in let z : 0 ≡ t = cc in (sym w, sym z)
room_no false b n t e = let w : no_room_word ≡ n = cc in let z : 0 ≡ t = cc in (sym w, sym z)

module _ (s : Tables) (cols rows room : ℕ) (ws : List ℕ) where
  abbrev Met : Answer → List ℕ → Type 0
  Met a after = ListsMet s cols rows room ws a after

  -- the first checks
  call_passes : (call_answer s cols rows ≡ Done) ↔ Passes (lists_row s cols rows) s.paths (length s.backdrops)
  unfolding call_answer
  call_passes = (
    (λ e. unless_done (first_no (lists_row s cols rows)) 0 (paths_answer s.paths (length s.backdrops)) e),
    (λ h. unless_fine (first_no (lists_row s cols rows)) 0 (paths_answer s.paths (length s.backdrops)) h.0 ∙ h.1),
  )

  call_why : (n item : ℕ) → (call_answer s cols rows ≡ Refused n item) ↔ FirstWhy (lists_row s cols rows) s.paths (length s.backdrops) n item
  unfolding call_answer
  call_why n item = (why (first_no (lists_row s cols rows)) refl, halts)
    where
      why : (v : Verdict) → first_no (lists_row s cols rows) ≡ v → unless v 0 (paths_answer s.paths (length s.backdrops)) ≡ Refused n item
          → FirstWhy (lists_row s cols rows) s.paths (length s.backdrops) n item
      why Fine q e = inr (q, (paths_exact s.paths (length s.backdrops) n item).0 e)
      why (Against m) q e =
          let w : m ≡ n = cc in
          let z : 0 ≡ item = cc in
          inl ((row_exact n (lists_row s cols rows)).0 (q ∙ ap Against w), sym z)

      halts : FirstWhy (lists_row s cols rows) s.paths (length s.backdrops) n item → unless (first_no (lists_row s cols rows)) 0 (paths_answer s.paths (length s.backdrops)) ≡ Refused n item
      halts (inl h) = rw ((row_exact n (lists_row s cols rows)).1 h.0, h.1)
      halts (inr h) = rw h.0 ((paths_exact s.paths (length s.backdrops) n item).1 h.1)

  met_call : (n item : ℕ) → call_answer s cols rows ≡ Refused n item → Met (Refused n item) ws
  unfolding write_lists_of answer_of
  met_call n item e = rw e

  -- what the whole answers, and what it leaves then
  met_no : (n item : ℕ) → answer_of s cols rows room (length ws) ≡ Refused n item → Met (Refused n item) ws
  unfolding write_lists_of
  met_no n item e = rw e

  met_done : answer_of s cols rows room (length ws) ≡ Done → Met Done (written (lists_of s cols rows) ws)
  unfolding write_lists_of
  met_done e = rw e

  -- after the first checks it refuses with 15, or with 9 and no item
  which : call_answer s cols rows ≡ Done → (n item : ℕ) → answer_of s cols rows room (length ws) ≡ Refused n item → (n ≡ too_long_word) ⊎ ((n ≡ no_room_word) × (item ≡ 0))
  unfolding answer_of
  which q n item h = go (long_from s cols (screen_tiles cols rows)) refl (rw q at h)
    where
      go : (v : Answer) → long_from s cols (screen_tiles cols rows) ≡ v
          → then_check v (unless (first_no (room_checks (regions_of s cols rows) (length ws) (fills_fit s cols room (screen_tiles cols rows)))) 0 Done) ≡ Refused n item
          → (n ≡ too_long_word) ⊎ ((n ≡ no_room_word) × (item ≡ 0))
      go Done e d =
          inr
          (room_no (leb (tile_words * regions_of s cols rows) (length ws)) (fills_fit s cols room (screen_tiles cols rows)) n item d)
      go (Refused m k) e d = let w : m ≡ n = cc in inl (sym w ∙ long_no s cols (screen_tiles cols rows) m k e)

  -- an answer on its paper is the answer
  said : (a : Answer) → (write_lists_of s cols rows room ws).paper ≡ paper_of a → answer_of s cols rows room (length ws) ≡ a
  said a e = go (answer_of s cols rows room (length ws)) refl
    where
      go : (v : Answer) → answer_of s cols rows room (length ws) ≡ v → answer_of s cols rows room (length ws) ≡ a
      go Done q = q ∙ paper_once Done a (ap (λ (l : Left). l.paper) (met_done q) ∙ e)
      go (Refused n item) q = q ∙ paper_once (Refused n item) a (ap (λ (l : Left). l.paper) (met_no n item q) ∙ e)

  module _ (x : Answer) (ws' : List ℕ) where
    why : Met x ws' → ListsWay s cols rows room ws x ws'
    why p = go (call_answer s cols rows) refl (answer_of s cols rows room (length ws)) refl
      where
        paper : (a : Answer) (after : List ℕ) → Met a after → (write_lists_of s cols rows room ws).paper ≡ paper_of a
        paper a after m = ap (λ (l : Left). l.paper) (sym m)

        go : (v : Answer) → call_answer s cols rows ≡ v → (a : Answer) → answer_of s cols rows room (length ws) ≡ a → ListsWay s cols rows room ws x ws'
        go (Refused n item) q a h = let e = one_lists s cols rows room ws x (Refused n item) ws' ws p (met_call n item q) in lists_refused n item e.0 ((call_why n item).0 q) e.1
        go Done q Done h =
            let e = one_lists s cols rows room ws x Done ws' (written (lists_of s cols rows) ws) p (met_done h) in
            let w = (lists_exact s cols rows room ws q).none.0 (paper Done (written (lists_of s cols rows) ws) (met_done h)) in
            all_written e.0 (call_passes.0 q) w.0 w.1 e.1
        go Done q (Refused n item) h = over n item h (which q n item h)
          where
            over : (n item : ℕ) → answer_of s cols rows room (length ws) ≡ Refused n item → ((n ≡ too_long_word) ⊎ ((n ≡ no_room_word) × (item ≡ 0))) → ListsWay s cols rows room ws x ws'
            over n item h (inl k) =
                let m : Met (Refused too_long_word item) ws = met_no too_long_word item (rw k at h) in
                let e = one_lists s cols rows room ws x (Refused too_long_word item) ws' ws p m in
                too_long item e.0 (call_passes.0 q) (((lists_exact s cols rows room ws q).fifteen item).0 (paper (Refused too_long_word item) ws m)) e.1
            over n item h (inr k) =
                let m : Met (Refused no_room_word 0) ws = met_no no_room_word 0 (rw (k.0, k.1) at h) in
                let e = one_lists s cols rows room ws x (Refused no_room_word 0) ws' ws p m in
                let w = (lists_exact s cols rows room ws q).nine.0 (paper (Refused no_room_word 0) ws m) in
                no_room e.0 (call_passes.0 q) w.0 w.1 e.1

    back : ListsWay s cols rows room ws x ws' → Met x ws'
    back (lists_refused n item ex w ew) = rw (ex, ew) (met_call n item ((call_why n item).1 w))
    back (too_long t ex ok w ew) =
        rw (ex, ew) (met_no too_long_word t (said (Refused too_long_word t) (((lists_exact s cols rows room ws (call_passes.1 ok)).fifteen t).1 w)))
    back (no_room ex ok a w ew) = rw (ex, ew) (met_no no_room_word 0 (said (Refused no_room_word 0) ((lists_exact s cols rows room ws (call_passes.1 ok)).nine.1 (a, w))))
    back (all_written ex ok a w ew) = rw (ex, ew) (met_done (said Done ((lists_exact s cols rows room ws (call_passes.1 ok)).none.1 (a, w))))

    -- The list writer is exact
    pub lists_call_exact : Met x ws' ↔ ListsWay s cols rows room ws x ws'
    lists_call_exact = (why, back)
