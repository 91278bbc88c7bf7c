-- Why windows of flags find the first meeting: one range of a pass, and one window. Assumes nothing.
use mathlib.Core.Path.{◌≡◌, refl, sym, ap, subst, ◌∙◌}
use mathlib.Core.Bool.{Bool, true, false, ◌&&◌}
use mathlib.Core.Logic.{◌≢◌, ◌⊎◌, inl, inr, ⊎_elim}
use mathlib.Core.List.{List}
use Prim.Native.Nat.{ℕ, ◌+◌, ◌-◌, ◌*◌, ◌≤◌, ◌<◌, min, max}
use native.Mathlib.Nat.{add-mul, mul-add, mul-le-mul_right}
use native.Mathlib.Omega.{arith}
use lib.Dec.{ltb}
use lib.ListN.{length, get_or}
use borrow.Author.Tests.{ltb-false, lt-ltb, le-ltb}
use Rattle.lists.specs.GridLaws.{le_or_lt}
use Rattle.lists.specs.Sums.{sum}
use Rattle.meeting.specs.First.{some_below_word}
use Rattle.meeting.specs.Meeting.{meets, meets_earlier, first_meeting, starts_at, lens_in}
use Rattle.meeting.specs.Found.{Has, FlagStood, FlagsNew, MeetsAt, ApartIn, PassedTo, keys, place_of, window_end, Nearer, NextStart, FewPasses, KeptBelow, FlagRan}
use Rattle.meeting.proofs.Stores.{kept_trans, kept_less, OnesFrom, ones_new, sum_ones}
use Rattle.meeting.proofs.FirstLaws.{first_same, first_is, some_is, none_is}

module _ (start len : ℕ → ℕ) where
  -- what a flag v says of a key after the first i ranges
  abbrev pub FlagIs : (i key v : ℕ) → Type 0
  FlagIs i key v =
      ((v ≡ 0) × ((j : ℕ) → j < i → Has (start j) (len j) key → ⊥)) ⊎ ((v ≢ 0) × ((j : ℕ) × (j < i) × Has (start j) (len j) key))

  abbrev pub Flags : (i low free width : ℕ) → List ℕ → Type 0
  Flags i low free width ws = (p : ℕ) → p < width → FlagIs i (low + p) (get_or ws (free + p) 0)

  flag_past : (i key v : ℕ) → (Has (start i) (len i) key → ⊥) → FlagIs i key v → FlagIs (i + 1) key v
  flag_past i key v n f =
      ⊎_elim
      (λ a. inl (a.0, λ j h. ⊎_elim (λ (e : i ≤ j). let s : i ≡ j = omega arith in subst (λ (k : ℕ). Has (start k) (len k) key → ⊥) s n) (λ (e : j < i). a.1 j e) (le_or_lt i j)))
      (λ a. inr (a.0, (a.1.0, omega (arith, a.1.1), a.1.2)))
      f

  module _ (i low free width a b : ℕ) (ws : List ℕ) (ea : a ≡ place_of (start i) low width) (eb : b ≡ place_of (start i + len i) low width) where
    -- a key of the window that range i has, and one that it hasn't
    in_range : (p : ℕ) → p < width → Has (start i) (len i) (low + p) → (a ≤ p) × (p < b)
    unfolding place_of
    in_range p h k = (omega arith, omega arith)

    of_range : (p : ℕ) → p < width → a ≤ p → p < b → Has (start i) (len i) (low + p)
    unfolding place_of
    of_range p h l u = (omega arith, omega arith)

    pub pass_turn : (ws' : List ℕ) → FlagsNew ws ws' (free + a) (free + b) → Flags i low free width ws → Flags (i + 1) low free width ws'
    pass_turn ws' f g p h =
        ⊎_elim
        (λ (l : a ≤ p). ⊎_elim
        (λ (u : b ≤ p). subst (FlagIs (i + 1) (low + p)) (sym (f.after (free + p) (omega arith))) (flag_past i (low + p) _ (λ k. omega (arith, (in_range p h k).1)) (g p h)))
        (λ (u : p < b). inr ((λ e. omega (arith, f.now_flagged (free + p) (omega arith) (omega arith))), (i, omega arith, of_range p h l u)))
        (le_or_lt b p))
        (λ (u : p < a). subst (FlagIs (i + 1) (low + p)) (sym (f.before (free + p) (omega arith))) (flag_past i (low + p) _ (λ k. omega (arith, (in_range p h k).0)) (g p h)))
        (le_or_lt a p)

    pub pass_apart : (ws' : List ℕ) → FlagsNew ws ws' (free + a) (free + b) → Flags i low free width ws → ApartIn start len low (low + width) i
        → ApartIn start len low (low + width) (i + 1)
    pass_apart ws' f g old m j k hm hj lo hi hasm hasj =
        ⊎_elim
        (λ (e : i ≤ m). let s : m ≡ i = omega arith in own (omega arith) (subst (λ (q : ℕ). Has (start q) (len q) k) s hasm))
        (λ (e : m < i). old m j k e hj lo hi hasm hasj)
        (le_or_lt i m)
      where
        own : j < i → Has (start i) (len i) k → ⊥
        own ji has =
            let p : ℕ = k - low in
            let at : low + p ≡ k = omega arith in
            let small : p < width = omega arith in
            let r = in_range p small (rw at has) in
            ⊎_elim
            (λ z. z.1 j ji (rw at hasj))
            (λ z. z.0 (f.none (free + p) (omega (arith, r.0)) (omega (arith, r.1))))
            (g p small)

    pub pass_met : b ≤ width → FlagStood ws (free + a) (free + b) → Flags i low free width ws → MeetsAt start len i
    pass_met bw f g =
        let p : ℕ = f.place - free in
        let at : free + p ≡ f.place = omega (arith, f.low) in
        let small : p < width = omega (arith, f.low, f.high) in
        ⊎_elim
        (λ z. absurd (f.stood (ap (λ (q : ℕ). get_or ws q 0) (sym at) ∙ z.0)))
        (λ z. record {
          other = z.1.0;
          key = low + p;
          earlier = z.1.1;
          mine = of_range p small (omega (arith, f.low)) (omega (arith, f.high));
          its = z.1.2;
        })
        (g p small)

  -- ---- windows

  -- the common keys of the first n ranges, if any, are from a start at or past low on
  abbrev pub ApartBelow : (low n : ℕ) → Type 0
  ApartBelow low n = (i j : ℕ) → i < n → j < i → max (start i) (start j) < low → meets start len i j ≡ false

  pub next_turn : (end i least r : ℕ) → start i < keys → Nearer least (start i) end r → NextStart start end i least → NextStart start end (i + 1) r
  next_turn end i least r key q n =
      record {
        most = omega (arith, n.most, q.most);
        past = past;
        least = λ j h e. ⊎_elim (λ (s : i ≤ j). let same : i ≡ j = omega arith in go j same e) (λ (s : j < i). omega (arith, q.most, n.least j s e)) (le_or_lt i j);
        small = λ j h. ⊎_elim (λ (s : i ≤ j). let same : i ≡ j = omega arith in subst (λ (k : ℕ). start k < keys) same key) (λ (s : j < i). n.small j s) (le_or_lt i j);
        is_start = one;
      }
    where
      one : r < keys → (j : ℕ) × (j < i + 1) × (start j ≡ r)
      one h =
          ⊎_elim
          (λ (s : least ≤ r). let same : least ≡ r = omega (arith, q.most) in let w = n.is_start (omega arith) in (w.0, omega (arith, w.1), w.2 ∙ same))
          (λ (s : r < least). (i, omega arith, sym (q.own s)))
          (le_or_lt least r)

      past : r < keys → end ≤ r
      past h = ⊎_elim (λ (s : least ≤ r). omega (arith, q.most, n.past (omega arith))) (λ (s : r < least). q.past s) (le_or_lt least r)

      go : (j : ℕ) → i ≡ j → end ≤ start j → r ≤ start j
      go j same e = subst (λ (k : ℕ). end ≤ start k → r ≤ start k) same q.least e

  pub window_turn : (low width end best best' low' : ℕ) → ApartBelow low best → PassedTo start len low (low + width) best best'
      → end ≤ low + width → NextStart start end best' low' → ApartBelow low' best'
  window_turn low width end best best' low' old p e nx i j hi ji m = go (le_or_lt low (max (start i) (start j)))
    where
      m' : ℕ
      m' = max (start i) (start j)

      below : m' < end
      below =
          ⊎_elim
          (λ (q : end ≤ start i). absurd (omega (arith, nx.least i hi q)))
          (λ (q : start i < end). ⊎_elim (λ (r : end ≤ start j). absurd (omega (arith, nx.least j (omega arith) r))) (λ (r : start j < end). omega arith) (le_or_lt end (start j)))
          (le_or_lt end (start i))

      go : (low ≤ max (start i) (start j)) ⊎ (max (start i) (start j) < low) → meets start len i j ≡ false
      go (inr q) = old i j (omega (arith, p.within)) ji q
      go (inl q) =
          ⊎_elim
          (λ (r : min (start i + len i) (start j + len j) ≤ max (start i) (start j)). le-ltb _ _ r)
          (λ (r : max (start i) (start j) < min (start i + len i) (start j + len j)).
          absurd (p.apart i j (max (start i) (start j)) hi ji q (omega (arith, below)) (omega arith, omega arith) (omega arith, omega arith)))
          (le_or_lt (min (start i + len i) (start j + len j)) (max (start i) (start j)))

  pub met_earlier : (i : ℕ) → MeetsAt start len i → meets_earlier start len i ≡ true
  unfolding meets_earlier
  met_earlier i m =
      let u = start i in
      let v = start m.other in
      let common : max u v < min (u + len i) (v + len m.other) = omega (arith, m.mine.0, m.mine.1, m.its.0, m.its.1) in
      some_is (meets start len i) i m.other m.earlier (lt-ltb (max u v) (min (u + len i) (v + len m.other)) common)

  pub apart_earlier : (i n low : ℕ) → ApartBelow low n → i < n → ((j : ℕ) → j < n → start j < low) → meets_earlier start len i ≡ false
  unfolding meets_earlier
  apart_earlier i n low a h s =
      none_is (meets start len i) i (λ j ji. a i j h ji (omega (arith, s i h, s j (omega arith))))

  first_earlier : (i : ℕ) → i ≤ 0 → meets_earlier start len i ≡ false
  unfolding meets_earlier
  first_earlier i h = none_is (meets start len i) i (λ j ji. absurd (omega arith))

  pub meeting_is : (n low best : ℕ) → best ≤ n → (best < n → MeetsAt start len best) → ApartBelow low best → (1 < best → (j : ℕ) → j < best → start j < low)
      → best ≡ first_meeting start len n
  unfolding first_meeting
  meeting_is n low best w m a s =
      first_is (meets_earlier start len) n best w (λ h. met_earlier best (m h))
      (λ i h. ⊎_elim (λ (q : best ≤ 1). first_earlier i (omega arith)) (λ (q : 1 < best). apart_earlier i best low a h (s q)) (le_or_lt best 1))

-- ---- the same over the words of the room

pub place_fits : (key low width free len a : ℕ) → a ≡ place_of key low width → width ≡ len - free → free ≤ len → free + a ≤ len
unfolding place_of
place_fits key low width free len a ea ew h = omega arith

pub places_fit : (s n low width free len a b : ℕ) → a ≡ place_of s low width → b ≡ place_of (s + n) low width → width ≡ len - free → free ≤ len
    → (free + a ≤ free + b) × (free + b ≤ len)
unfolding place_of
places_fit s n low width free len a b ea eb ew h = (omega arith, omega arith)

module _ (ws₀ ws ls : List ℕ) (at n free low width i a b : ℕ) (fits : at + n ≤ free) (here : i < n) (kept : KeptBelow free ws₀ ws)
    (ea : a ≡ place_of (get_or ws (at + i) 0) low width) (eb : b ≡ place_of (get_or ws (at + i) 0 + lens_in ls i) low width)
    (flags : Flags (starts_at ws₀ at) (lens_in ls) i low free width ws) where
  same_start : get_or ws (at + i) 0 ≡ starts_at ws₀ at i
  same_start = kept.kept (at + i) (omega arith)

  ea' : a ≡ place_of (starts_at ws₀ at i) low width
  ea' = ea ∙ ap (λ (k : ℕ). place_of k low width) same_start

  eb' : b ≡ place_of (starts_at ws₀ at i + lens_in ls i) low width
  eb' = eb ∙ ap (λ (k : ℕ). place_of (k + lens_in ls i) low width) same_start

  module _ (ws' : List ℕ) (r : ℕ) (apart : ApartIn (starts_at ws₀ at) (lens_in ls) low (low + width) i) (k : KeptBelow (free + a) ws ws')
      (f : FlagRan ws ws' (free + a) (free + b) r) where
    pub pass_kept : KeptBelow free ws₀ ws'
    pass_kept = kept_trans free ws₀ ws ws' kept (kept_less (free + a) free ws ws' (omega arith) k)

    pub pass_goes : free + b ≤ r → Flags (starts_at ws₀ at) (lens_in ls) (i + 1) low free width ws' × ApartIn (starts_at ws₀ at) (lens_in ls) low (low + width) (i + 1)
    pass_goes h =
        let all : r ≡ free + b = omega (arith, f.to) in
        let new : FlagsNew ws ws' (free + a) (free + b) = subst (FlagsNew ws ws' (free + a)) all f.new in (
          pass_turn (starts_at ws₀ at) (lens_in ls) i low free width a b ws ea' eb' ws' new flags,
          pass_apart (starts_at ws₀ at) (lens_in ls) i low free width a b ws ea' eb' ws' new flags apart,
        )

    wide : b ≤ width
    unfolding place_of
    wide = omega (arith, eb)

    pub pass_stops : r < free + b → PassedTo (starts_at ws₀ at) (lens_in ls) low (low + width) n i
    pass_stops h =
        let stood : FlagStood ws (free + a) (free + b) = record { place = r; low = f.from; high = h; stood = f.stood h } in
        record {
          within = omega arith;
          met = λ q. pass_met (starts_at ws₀ at) (lens_in ls) i low free width a b ws ea' eb' wide stood flags;
          apart = apart;
        }

-- the words that a pass has looked at are flags that stand now
pub pass_words : (free a b r width words : ℕ) (ws₀ ws ws' : List ℕ) → free ≤ length ws₀ → width ≡ length ws₀ - free → KeptBelow free ws₀ ws' → FlagRan ws ws' a b r
    → OnesFrom free ws → sum ws ≡ sum ws₀ + words
    → OnesFrom free ws' × (sum ws' ≡ sum ws₀ + (words + (r - a))) × (words + (r - a) ≤ width)
pass_words free a b r width words ws₀ ws ws' fits ew kept f ones e =
    let new = ones_new free a r ws ws' f.new ones in
    let more : sum ws' ≡ sum ws₀ + (words + (r - a)) = omega (arith, f.more) in
    (new, more, omega (arith, kept.same_length, sum_ones free ws₀ ws' kept.same_length kept.kept new))

-- ranges that start the same
module _ (f g len : ℕ → ℕ) (n : ℕ) (same : (i : ℕ) → i < n → f i ≡ g i) where
  pub passed_same : (low high r : ℕ) → PassedTo f len low high n r → PassedTo g len low high n r
  passed_same low high r p =
      record {
        within = p.within;
        met = λ h. met h (p.met h);
        apart = λ i j k hi ji lo hk a b. p.apart i j k hi ji lo hk
            (subst (λ (s : ℕ). Has s (len i) k) (sym (same i (omega (arith, p.within)))) a) (subst (λ (s : ℕ). Has s (len j) k) (sym (same j (omega (arith, p.within)))) b);
      }
    where
      met : r < n → MeetsAt f len r → MeetsAt g len r
      met h m =
          record {
            other = m.other;
            key = m.key;
            earlier = m.earlier;
            mine = subst (λ (s : ℕ). Has s (len r) m.key) (same r h) m.mine;
            its = subst (λ (s : ℕ). Has s (len m.other) m.key) (same m.other (omega (arith, m.earlier))) m.its;
          }

  pub next_same : (end r m : ℕ) → m ≤ n → NextStart f end m r → NextStart g end m r
  next_same end r m h x =
      record {
        most = x.most;
        past = x.past;
        least = λ i l e. subst (λ (s : ℕ). r ≤ s) (same i (omega arith)) (x.least i l (subst (λ (s : ℕ). end ≤ s) (sym (same i (omega arith))) e));
        small = λ i l. subst (λ (s : ℕ). s < keys) (same i (omega arith)) (x.small i l);
        is_start = λ l. let w = x.is_start l in (w.0, w.1, sym (same w.0 (omega (arith, w.1))) ∙ w.2);
      }

pub both_true : (a b : Bool) → (a && b) ≡ true → (a ≡ true) × (b ≡ true)
both_true true b e = (refl, e)
both_true false b e = let z : ◌≡◌ {A = ℕ} 0 1 = cc in absurd (omega arith)

pub one_false : (a b : Bool) → (a && b) ≡ false → (a ≡ false) ⊎ (b ≡ false)
one_false true b e = inr e
one_false false b e = inl refl

-- ---- how many windows there are: so many passes before the one that begins at low

pub record Passes (start : ℕ → ℕ) (n width low passes : ℕ) : Type 0 where
  pub most : low < keys → passes ≤ low
  pub apart : low < keys → passes * width ≤ low
  pub inside : low < keys → (k : ℕ) → 0 < k → ((i : ℕ) → i < n → start i < k) → low < k
  pub few : FewPasses start n width passes

pub passes_none : (start : ℕ → ℕ) (n width : ℕ) → Passes start n width 0 0
passes_none start n width =
    record { most = λ h. omega arith; apart = λ h. omega arith; inside = λ h k z f. z; few = λ k z f. absurd (omega arith) }

pub passes_turn : (start : ℕ → ℕ) (n width low passes best low' : ℕ) → low < keys → 0 < width → 0 < n → best ≤ n → NextStart start (window_end low width) best low'
    → Passes start n width low passes → Passes start n width low' (passes + 1)
unfolding window_end
passes_turn start n width low passes best low' h w m b x p =
    record {
      most = λ q. omega (arith, x.past q, p.most h);
      apart = λ q. omega (arith, x.past q, p.apart h, add-mul passes 1 width);
      inside = λ q k z f. let s = x.is_start q in omega (arith, s.2, f s.0 (omega (arith, s.1)));
      few = λ k z f. omega (arith, p.apart h, p.inside h k (omega (arith, f 0 m)) f, add-mul passes 1 width);
    }

-- no pass looks at more words than the window has, and one
pub words_turn : (passes width words more : ℕ) → words ≤ passes * (width + 1) → more ≤ width + 1 → words + more ≤ (passes + 1) * (width + 1)
words_turn passes width words more h m = omega (arith, add-mul passes 1 (width + 1))

pub words_small : (start : ℕ → ℕ) (n width low passes words : ℕ) → low < keys → Passes start n width low passes → words ≤ passes * (width + 1) → words < keys + keys
words_small start n width low passes words h p w = omega (arith, p.most h, p.apart h, mul-add passes width 1)

-- nor at more ranges than there are
pub ranges_turn : (passes n ranges more : ℕ) → ranges ≤ passes * n → more ≤ n → ranges + more ≤ (passes + 1) * n
ranges_turn passes n ranges more h m = omega (arith, add-mul passes 1 n)

pub ranges_small : (start : ℕ → ℕ) (n width low passes ranges more : ℕ) → low < keys → n < keys → Passes start n width low passes → ranges ≤ passes * n → more ≤ n
    → ranges + more < keys * keys
ranges_small start n width low passes ranges more h few p r m =
    let most : passes + 1 ≤ keys = omega (arith, p.most h) in
    omega (arith, ranges_turn passes n ranges more r m, mul-le-mul_right n most)

-- one window of the whole: w₁ is cleared, w₂ is as the pass leaves it
pub windows_go : (ws₀ ws w₁ w₂ ls : List ℕ) (at n free low width best best' low' passes : ℕ) → at + n ≤ free → best ≤ n → width ≡ length ws₀ - free
    → KeptBelow free ws₀ ws → KeptBelow free ws w₁ → KeptBelow free w₁ w₂ → ApartBelow (starts_at ws₀ at) (lens_in ls) low best
    → (best < n → MeetsAt (starts_at ws₀ at) (lens_in ls) best)
    → PassedTo (starts_at w₁ at) (lens_in ls) low (low + (length w₁ - free)) best best' → NextStart (starts_at w₂ at) (window_end low width) best' low'
    → low < keys → 0 < width → 0 < n → Passes (starts_at ws₀ at) n width low passes
    → (best' ≤ n) × KeptBelow free ws₀ w₂ × (best' < n → MeetsAt (starts_at ws₀ at) (lens_in ls) best')
    × ApartBelow (starts_at ws₀ at) (lens_in ls) low' best' × (low' ≤ keys) × (0 < low' → (i : ℕ) → i < best' → starts_at ws₀ at i < keys)
    × Passes (starts_at ws₀ at) n width low' (passes + 1)
unfolding window_end
windows_go ws₀ ws w₁ w₂ ls at n free low width best best' low' passes fits most ew k₀ k₁ k₂ apart met passed next key wid some p₀ =
    let k₀₁ = kept_trans free ws₀ ws w₁ k₀ k₁ in
    let k₀₂ = kept_trans free ws₀ w₁ w₂ k₀₁ k₂ in
    let p = passed_same (starts_at w₁ at) (starts_at ws₀ at) (lens_in ls) best (λ i h. k₀₁.kept (at + i) (omega arith)) low (low + (length w₁ - free)) best' passed in
    let x = next_same (starts_at w₂ at) (starts_at ws₀ at) (lens_in ls) best' (λ i h. k₀₂.kept (at + i) (omega (arith, p.within))) (low + min width keys) low' best' (omega arith) next in
    let wide : low + min width keys ≤ low + (length w₁ - free) = omega (arith, k₀₁.same_length) in (
      omega (arith, p.within),
      k₀₂,
      (λ h. ⊎_elim (λ (q : best ≤ best'). let s : best' ≡ best = omega (arith, p.within) in rw s (met (omega arith))) (λ (q : best' < best). p.met q) (le_or_lt best best')),
      window_turn (starts_at ws₀ at) (lens_in ls) low (length w₁ - free) (low + min width keys) best best' low' apart p wide x,
      x.most,
      (λ h. x.small),
      passes_turn (starts_at ws₀ at) n width low passes best' low' key wid some (omega (arith, p.within)) x p₀,
    )

pub windows_less : (start : ℕ → ℕ) (low width n low' : ℕ) → low < keys → 0 < width → NextStart start (window_end low width) n low' → keys - low' < keys - low
unfolding window_end
windows_less start low width n low' h w x =
    ⊎_elim (λ (q : keys ≤ low'). omega arith) (λ (q : low' < keys). omega (arith, x.past q)) (le_or_lt keys low')

pub windows_end : (ws₀ ls : List ℕ) (at n low best : ℕ) → best ≤ n → (best < n → MeetsAt (starts_at ws₀ at) (lens_in ls) best) → ApartBelow (starts_at ws₀ at) (lens_in ls) low best
    → (0 < low → (i : ℕ) → i < best → starts_at ws₀ at i < keys) → (ltb 1 best && ltb low keys) ≡ false → best ≡ first_meeting (starts_at ws₀ at) (lens_in ls) n
windows_end ws₀ ls at n low best w m a small e =
    meeting_is (starts_at ws₀ at) (lens_in ls) n low best w m a
    (λ q j h. ⊎_elim (λ (f : ltb 1 best ≡ false). absurd (omega (arith, ltb-false 1 best f)))
    (λ (f : ltb low keys ≡ false). let past = ltb-false low keys f in omega (arith, small (omega arith) j h)) (one_false (ltb 1 best) (ltb low keys) e))

-- only the ranges looked at count, and a range of no keys meets none, wherever it starts
pub meeting_same : (f g l m : ℕ → ℕ) (n : ℕ) → ((i : ℕ) → i < n → 0 < l i → f i ≡ g i) → ((i : ℕ) → i < n → l i ≡ m i) → first_meeting f l n ≡ first_meeting g m n
unfolding first_meeting meets_earlier
meeting_same f g l m n e k =
    first_same (λ i. some_below_word (meets f l i) i) (λ i. some_below_word (meets g m i) i) n
    (λ i h. ap (λ (r : ℕ). ltb r i) (first_same (meets f l i) (meets g m i) i (λ j ji. pair i j h (omega arith))))
  where
    none : (start len : ℕ → ℕ) (i j : ℕ) → (len i ≤ 0) ⊎ (len j ≤ 0) → meets start len i j ≡ false
    none start len i j c =
        let least : min (start i + len i) (start j + len j) ≤ max (start i) (start j) = ⊎_elim (λ (p : len i ≤ 0). omega arith) (λ (p : len j ≤ 0). omega arith) c in
        le-ltb (max (start i) (start j)) (min (start i + len i) (start j + len j)) least

    pair : (i j : ℕ) → i < n → j < n → meets f l i j ≡ meets g m i j
    pair i j h hj =
        ⊎_elim
        (λ (p : l i ≤ 0). none f l i j (inl p) ∙ sym (none g m i j (inl (omega (arith, k i h)))))
        (λ (p : 0 < l i). ⊎_elim
        (λ (q : l j ≤ 0). none f l i j (inr q) ∙ sym (none g m i j (inr (omega (arith, k j hj)))))
        (λ (q : 0 < l j). rw (e i h p, e j hj q, k i h, k j hj))
        (le_or_lt (l j) 0))
        (le_or_lt (l i) 0)
