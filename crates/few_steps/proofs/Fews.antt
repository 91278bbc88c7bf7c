-- A line of few steps, counted as it goes: a step leaves what its acts leave, and taken back by its notes it leaves what was there before it.
-- Assumes nothing.
use mathlib.Core.Path.{◌≡◌, refl, sym, ap, ◌∙◌, subst}
use mathlib.Core.Bool.{Bool, true, false, not, cond, false≢true}
use mathlib.Core.List.{List}
use Prim.Native.Nat.{ℕ, zero, suc, ◌+◌, ◌-◌, ◌*◌, ◌<◌, ◌≤◌}
use native.Mathlib.Numerals.{add-one}
use native.Mathlib.Omega.{arith}
use lib.ListN.{length, get_or, set, length-set}
use lib.Seq.{get_or-set_same, get_or-set_other, set-get_or, set-set, set_comm}
use lib.IntN.{ℤ, pos, negsuc, ◌+ℤ◌, +ℤ_assoc, +ℤ_idr}
use borrow.Author.Tests.{lt-ltb}
use Rattle.lists.specs.Run.{done}
use Rattle.panel.specs.Limits.{most_count}
use Rattle.panel.specs.Refs.{line_at, packed_at, put_ref}
use Rattle.panel.specs.Signed.{in_i32}
use Rattle.panel.specs.Widths.{ref_words, step_range}
use Rattle.panel.specs.declared.kinds.Path.{Path}
use Rattle.walk.specs.declared.kinds.Pace.{Pace}
use Rattle.strides.specs.Strides.{Before}
use Rattle.strides.specs.Words.{word_of, word_tile, word_marks}
use Rattle.strides.proofs.WordLaws.{tile_told, marks_told}
use Rattle.acts.specs.Acts.{St, st_of, Hit, on, step_acts, steps_acts, run_acts, is_done, delta_of, packed}
use Rattle.acts.proofs.Laws.{write_hit, run_ends, steps_end}
use Rattle.hits.specs.Steps.{hit_at}
use Rattle.few_steps.specs.Few.{few_steps, step_notes, kept, Took, Came, Taken, Gone}

-- ---- one step taken back

-- what a mark added, the mark the other way takes off
mark_back : (b : ℤ) (up : Bool) → (b +ℤ delta_of up) +ℤ delta_of (not up) ≡ b
mark_back b true = +ℤ_assoc b (pos 1) (negsuc 0) ∙ +ℤ_idr b
mark_back b false = +ℤ_assoc b (negsuc 0) (pos 1) ∙ +ℤ_idr b

backs_back : (bs : List ℤ) (t : ℕ) (m up : Bool) → cond m (t + 1) t < length bs →
    let bs' = cond m (set bs (t + 1) (get_or bs (t + 1) (pos 0) +ℤ delta_of up)) bs in
    cond m (set bs' (t + 1) (get_or bs' (t + 1) (pos 0) +ℤ delta_of (not up))) bs' ≡ bs
backs_back bs t true up h =
    let v = get_or bs (t + 1) (pos 0) +ℤ delta_of up in
    ap (λ (z : ℤ). set (set bs (t + 1) v) (t + 1) z) (ap (λ (z : ℤ). z +ℤ delta_of (not up)) (get_or-set_same bs (t + 1) v (pos 0) h) ∙ mark_back (get_or bs (t + 1) (pos 0)) up)
    ∙ set-set bs (t + 1) v (get_or bs (t + 1) (pos 0))
    ∙ set-get_or bs (t + 1) (pos 0)
backs_back bs t false up h = refl

counts_back : (cs : List ℕ) (t : ℕ) → t < length cs → set (set cs t (get_or cs t 0 + 1)) t (get_or (set cs t (get_or cs t 0 + 1)) t 0 - 1) ≡ cs
counts_back cs t h =
    let e : get_or (set cs t (get_or cs t 0 + 1)) t 0 - 1 ≡ get_or cs t 0 = omega (arith, get_or-set_same cs t (get_or cs t 0 + 1) 0 h) in
    ap (λ (n : ℕ). set (set cs t (get_or cs t 0 + 1)) t n) e ∙ set-set cs t (get_or cs t 0 + 1) (get_or cs t 0) ∙ set-get_or cs t 0

-- the two words that stood at i are put back
words_back : (rs : List ℕ) (i l w a p : ℕ) → a ≡ get_or rs i 0 → p ≡ get_or rs (i + 1) 0 → set (set (set (set rs i l) (i + 1) w) i a) (i + 1) p ≡ rs
words_back rs i l w a p ea ep =
    ap (λ (r : List ℕ). set r (i + 1) p) (set_comm (set rs i l) (i + 1) i w a (λ e. omega (arith, e)))
    ∙ set-set (set (set rs i l) i a) (i + 1) w p
    ∙ ap (λ (r : List ℕ). set r (i + 1) p) (set-set rs i l a ∙ ap (set rs i) ea ∙ set-get_or rs i 0)
    ∙ ap (set rs (i + 1)) ep
    ∙ set-get_or rs (i + 1) 0

refs_back : (rs : List ℕ) (at l w a p : ℕ) → a ≡ line_at rs at → p ≡ packed_at rs at → put_ref at a p (put_ref at l w rs) ≡ rs
refs_back rs at l w a p ea ep =
    let e : at * ref_words ≡ ref_words * at = omega arith in
    words_back rs (ref_words * at) l w a p (ea ∙ ap (λ (i : ℕ). get_or rs i 0) e) (ep ∙ ap (λ (i : ℕ). get_or rs (i + 1) 0) e)

-- t and m are what its word says
module _ (up : Bool) (k a p at : ℕ) (s : St) (bs : List ℤ) (cs rs : List ℕ) (o : Took up k a p s (st_of bs cs rs (at + 1))) (t : ℕ) (et : t ≡ word_tile k) (m : Bool) (em : m ≡ word_marks k) where
  tile_is : t ≡ o.t
  tile_is = et ∙ ap word_tile o.word ∙ tile_told o.t o.m

  mark_is : m ≡ o.m
  mark_is = em ∙ ap word_marks o.word ∙ marks_told o.t o.m

  backs_are : bs ≡ cond o.m (set s.backs (o.t + 1) (get_or s.backs (o.t + 1) (pos 0) +ℤ delta_of up)) s.backs
  backs_are = ap (λ (x : St). x.backs) o.left

  counts_are : cs ≡ set s.counts o.t (get_or s.counts o.t 0 + 1)
  counts_are = ap (λ (x : St). x.counts) o.left

  at_is : at ≡ s.made
  at_is = let e : at + 1 ≡ s.made + 1 = ap (λ (x : St). x.made) o.left in omega arith

  refs_are : rs ≡ put_ref at o.line o.packs s.refs
  refs_are = ap (λ (x : St). x.refs) o.left ∙ ap (λ (n : ℕ). put_ref n o.line o.packs s.refs) (sym at_is)

  -- taken back so, it leaves what it was taken from
  pub undoes : (bs' : List ℤ) (cs' rs' : List ℕ) → cs' ≡ set cs t (get_or cs t 0 - 1)
      → bs' ≡ cond m (set bs (t + 1) (get_or bs (t + 1) (pos 0) +ℤ delta_of (not up))) bs
      → rs' ≡ put_ref at a p rs → st_of bs' cs' rs' at ≡ s
  undoes bs' cs' rs' ec eb er =
      let b : bs' ≡ s.backs = eb ∙ rw (mark_is, tile_is, backs_are) (backs_back s.backs o.t o.m up o.next) in
      let c : cs' ≡ s.counts = ec ∙ rw (tile_is, counts_are) (counts_back s.counts o.t o.tile) in
      let r : rs' ≡ s.refs =
      er ∙ ap (put_ref at a p) refs_are
      ∙ refs_back s.refs at o.line o.packs a p (o.named ∙ ap (line_at s.refs) (sym at_is)) (o.packed ∙ ap (packed_at s.refs) (sym at_is)) in
      rw (b, c, r, at_is)

  pub tile_lent : t < length cs
  tile_lent = rw (tile_is, counts_are, length-set s.counts o.t (get_or s.counts o.t 0 + 1)) o.tile

  -- its tile was counted
  pub counted_once : 1 ≤ get_or cs t 0
  counted_once = rw (tile_is, counts_are) (omega (arith, get_or-set_same s.counts o.t (get_or s.counts o.t 0 + 1) 0 o.tile))

  lent : (x : Bool) (v : ℤ) → length (cond x (set s.backs (o.t + 1) v) s.backs) ≡ length s.backs
  lent true v = length-set s.backs (o.t + 1) v
  lent false v = refl

  pub next_lent : cond m (t + 1) t < length bs
  next_lent = rw (mark_is, tile_is, backs_are, lent o.m (get_or s.backs (o.t + 1) (pos 0) +ℤ delta_of up)) o.next

  -- and its mark taken off leaves a backdrop that was there
  pub mark_fits : m ≡ true → in_i32 (get_or bs (t + 1) (pos 0) +ℤ delta_of (not up)) ≡ true
  mark_fits h =
      let e : o.m ≡ true = sym mark_is ∙ h in
      let v = get_or s.backs (o.t + 1) (pos 0) in
      rw (tile_is, rw e at backs_are, get_or-set_same s.backs (o.t + 1) (v +ℤ delta_of up) (pos 0) (rw e at o.next), mark_back v up) (rw e at o.fits)

  pub ref_lent : ref_words * at + ref_words ≤ length rs
  ref_lent =
      let e = length-set (set s.refs (ref_words * at) o.line) (ref_words * at + 1) o.packs in
      let f = length-set s.refs (ref_words * at) o.line in
      rw (refs_are) (omega (arith, e, f, o.room, at_is))

-- ---- the notes of steps

-- what is kept at three places is read there, and before them all is as it was
three_kept : (ks : List ℕ) (x k a p : ℕ) → x + 2 < length ks →
    let r = set (set (set ks x k) (x + 1) a) (x + 2) p in
    (get_or r x 0 ≡ k) × (get_or r (x + 1) 0 ≡ a) × (get_or r (x + 2) 0 ≡ p) × ((j : ℕ) → j < x → get_or r j 0 ≡ get_or ks j 0)
three_kept ks x k a p h =
    let f = set ks x k in
    let g = set f (x + 1) a in
    let lf : length f ≡ length ks = length-set ks x k in
    let lg : length g ≡ length f = length-set f (x + 1) a in (
      get_or-set_other g (x + 2) x p 0 (λ e. omega (arith, e)) ∙ get_or-set_other f (x + 1) x a 0 (λ e. omega (arith, e)) ∙ get_or-set_same ks x k 0 (omega arith),
      get_or-set_other g (x + 2) (x + 1) p 0 (λ e. omega (arith, e)) ∙ get_or-set_same f (x + 1) a 0 (omega (arith, lf)),
      get_or-set_same g (x + 2) p 0 (omega (arith, lf, lg)),
      λ j l. get_or-set_other g (x + 2) j p 0 (λ e. omega (arith, e, l)) ∙ get_or-set_other f (x + 1) j a 0 (λ e. omega (arith, e, l)) ∙ get_or-set_other ks x j k 0 (λ e. omega (arith, e, l)),
    )

-- notes that are the same up to step i tell of the same steps
came_same : (up : Bool) (ks ks' : List ℕ) (i : ℕ) (s s' : St) → ((j : ℕ) → j < step_notes * i → get_or ks' j 0 ≡ get_or ks j 0) → Came up ks i s s' → Came up ks' i s s'
came_same up ks ks' zero s s' h c = c
came_same up ks ks' (suc i) s s' h c = (
  c.0,
  came_same up ks ks' i s c.0 (λ j g. h j (omega (arith, g))) c.1,
  rw (h (step_notes * i) (omega arith), h (step_notes * i + 1) (omega arith), h (step_notes * i + 2) (omega arith)) c.2,
)

-- one step more
pub came_more : (up : Bool) (ks ks' : List ℕ) (i k a p : ℕ) (s s' r : St) → step_notes * i + 2 < length ks → ks' ≡ kept i k a p ks → Came up ks i s r → Took up k a p r s' → Came up ks' (i + 1) s s'
came_more up ks ks' i k a p s s' r h e c t =
    let q = three_kept ks (step_notes * i) k a p h in
    subst (λ (l : List ℕ). Came up l (i + 1) s s') (sym e)
    (subst (λ (n : ℕ). Came up (kept i k a p ks) n s s') (sym (add-one i))
    (r, came_same up ks (kept i k a p ks) i s r q.3 c, rw (q.0, q.1, q.2) t))

-- and one less
pub came_last : (up : Bool) (ks : List ℕ) (i made : ℕ) (s : St) (bs : List ℤ) (cs rs : List ℕ) → 0 < i → Came up ks i s (st_of bs cs rs (made + i))
    → (r : St) × Came up ks (i - 1) s r × Took up (get_or ks (step_notes * (i - 1)) 0) (get_or ks (step_notes * (i - 1) + 1) 0) (get_or ks (step_notes * (i - 1) + 2) 0) r (st_of bs cs rs (made + (i - 1) + 1))
came_last up ks i made s bs cs rs h c =
    let e : i ≡ suc (i - 1) = omega arith in
    let f : made + i ≡ made + (i - 1) + 1 = omega arith in
    subst (λ (n : ℕ). Came up ks n s (st_of bs cs rs (made + (i - 1) + 1))) e (subst (λ (n : ℕ). Came up ks i s (st_of bs cs rs n)) f c)

-- none
pub came_none : (up : Bool) (ks : List ℕ) (i made : ℕ) (s : St) (bs : List ℤ) (cs rs : List ℕ) → i ≤ 0 → Came up ks i s (st_of bs cs rs (made + i)) → st_of bs cs rs made ≡ s
came_none up ks i made s bs cs rs h c =
    let e : i ≡ 0 = omega arith in
    let f : made ≡ made + 0 = omega arith in
    let g : st_of bs cs rs (made + 0) ≡ s = subst (λ (n : ℕ). Came up ks n s (st_of bs cs rs (made + n))) e c in
    ap (λ (n : ℕ). st_of bs cs rs n) f ∙ g

-- ---- a step that passes

pub in_range : (i : ℕ) → i < few_steps → i < step_range
unfolding step_range
in_range i h = omega arith

not_leaves : (b c : Bool) → c ≡ not b → c ≡ false → b ≡ true
not_leaves true c e f = refl
not_leaves false c e f = absurd (false≢true (sym f ∙ e))

-- its mark stays within i32, as the test without a branch says
pub stays : (δ : ℤ) (bs : List ℤ) (t : ℕ) (m c : Bool) → c ≡ not (in_i32 (get_or bs (cond m (t + 1) t) (pos 0) +ℤ δ)) → c ≡ false → m ≡ true → in_i32 (get_or bs (t + 1) (pos 0) +ℤ δ) ≡ true
stays δ bs t true c e f g = not_leaves (in_i32 (get_or bs (t + 1) (pos 0) +ℤ δ)) c e f
stays δ bs t false c e f g = absurd (false≢true g)

-- so it runs through
step_runs : (δ : ℤ) (l : ℕ) (h : Hit) (i : ℕ) (bs : List ℤ) (cs rs : List ℕ) (at t : ℕ) (m : Bool) → h ≡ on t m → get_or cs t 0 < most_count
    → (m ≡ true → in_i32 (get_or bs (t + 1) (pos 0) +ℤ δ) ≡ true) → is_done (run_acts δ l (step_acts h i) (st_of bs cs rs at)) ≡ true
unfolding run_acts
step_runs δ l h i bs cs rs at t true e c b = rw (e, lt-ltb _ _ c, b refl)
step_runs δ l h i bs cs rs at t false e c b = rw (e, lt-ltb _ _ c)

state_is : (bs bs' : List ℤ) (cs cs' rs rs' : List ℕ) (n : ℕ) → bs' ≡ bs → cs' ≡ cs → rs' ≡ rs → st_of bs' cs' rs' n ≡ st_of bs cs rs n
state_is bs bs' cs cs' rs rs' n eb ec er = rw (eb, ec, er)

-- and, noted and written, it is taken
module _ (w : Pace) (b : Path) (up : Bool) (l i at z t : ℕ) (m : Bool) (k a p : ℕ) (ks ks' : List ℕ) (bs bs' : List ℤ) (cs cs' rs rs' : List ℕ) where
  pub takes : Before w (i + 1) z → hit_at w b i ≡ on t m → get_or cs t 0 < most_count → (m ≡ true → in_i32 (get_or bs (t + 1) (pos 0) +ℤ delta_of up) ≡ true)
      → k ≡ word_of t m → a ≡ line_at rs at → p ≡ packed_at rs at → ks' ≡ kept i k a p ks
      → t < length cs → cond m (t + 1) t < length bs → in_i32 (get_or bs (cond m (t + 1) t) (pos 0)) ≡ true → ref_words * at + ref_words ≤ length rs
      → cs' ≡ set cs t (get_or cs t 0 + 1) → rs' ≡ put_ref at l (packed (get_or cs t 0) i) rs → bs' ≡ cond m (set bs (t + 1) (get_or bs (t + 1) (pos 0) +ℤ delta_of up)) bs
      → Taken w b up l i z ks ks' (st_of bs cs rs at) (st_of bs' cs' rs' (at + 1))
  takes next e c g word named packs noted tile lent fits room ec er eb =
      record {
        k = k;
        a = a;
        p = p;
        next = next;
        ran = write_hit (delta_of up) l (hit_at w b i) i bs cs rs at (step_runs (delta_of up) l (hit_at w b i) i bs cs rs at t m e c g) t m e bs' cs' rs' ec er eb;
        noted = noted;
        took =
            record {
              t = t;
              m = m;
              line = l;
              packs = packed (get_or cs t 0) i;
              word = word;
              tile = tile;
              next = lent;
              fits = fits;
              room = room;
              named = named;
              packed = packs;
              left = state_is _ _ _ _ _ _ _ eb ec er;
            };
      }

-- ---- steps of a line, up to one that doesn't pass

module _ (w : Pace) (b : Path) (up : Bool) (l n i made at : ℕ) (ks : List ℕ) (s : St) (bs : List ℤ) (cs rs : List ℕ) (e : at ≡ made + i) (c : Came up ks i s (st_of bs cs rs at)) where
  pub gone : i ≤ n → (i ≡ n → done (st_of bs cs rs at) ≡ run_acts (delta_of up) l (steps_acts (hit_at w b) (n - 0) 0) s) → Gone w b up l n i ks s (st_of bs cs rs (made + i))
  gone h a = subst (λ (x : ℕ). Gone w b up l n i ks s (st_of bs cs rs x)) e (record { within = h; came = c; all = a })

  -- where a step wasn't taken, and all is as it was
  pub gone_so_far : i < n → (ks' : List ℕ) (bs' : List ℤ) (cs' rs' : List ℕ) → ks' ≡ ks → bs' ≡ bs → cs' ≡ cs → rs' ≡ rs → Gone w b up l n i ks' s (st_of bs' cs' rs' (made + i))
  gone_so_far h ks' bs' cs' rs' ek eb ec er = rw (ek, eb, ec, er) (gone (omega arith) (λ g. absurd (omega (arith, g))))

-- where none was
pub gone_none : (w : Pace) (b : Path) (up : Bool) (l n made : ℕ) (ks : List ℕ) (bs : List ℤ) (cs rs : List ℕ) → Gone w b up l n 0 ks (st_of bs cs rs made) (st_of bs cs rs (made + 0))
gone_none w b up l n made ks bs cs rs =
    gone w b up l n 0 made made ks (st_of bs cs rs made) bs cs rs (omega arith) refl (omega arith)
    (λ e. run_ends _ _ _ _ _ (steps_end (hit_at w b) 0 n (omega (arith, e))) refl)

-- where all were, the line is counted
pub gone_all : (w : Pace) (b : Path) (up : Bool) (l n r made : ℕ) (ks : List ℕ) (s : St) (bs : List ℤ) (cs rs : List ℕ) → Gone w b up l n r ks s (st_of bs cs rs (made + r)) → r ≡ n
    → done (st_of bs cs rs (made + n)) ≡ run_acts (delta_of up) l (steps_acts (hit_at w b) (n - 0) 0) s
gone_all w b up l n r made ks s bs cs rs g e = ap (λ (k : ℕ). done (st_of bs cs rs (made + k))) (sym e) ∙ g.all e

-- a state that is the same has the same in it
pub same_state : (bs bs' : List ℤ) (cs cs' rs rs' : List ℕ) (n : ℕ) → st_of bs' cs' rs' n ≡ st_of bs cs rs n → (bs' ≡ bs) × (cs' ≡ cs) × (rs' ≡ rs)
same_state bs bs' cs cs' rs rs' n e = (ap (λ (x : St). x.backs) e, ap (λ (x : St). x.counts) e, ap (λ (x : St). x.refs) e)
