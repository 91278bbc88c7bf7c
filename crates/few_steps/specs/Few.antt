-- A line of few steps, counted as it goes and taken back where a step doesn't pass: what the functions tell each other. Only proofs lean on this: no
-- promise of a public call does. Definitions only.
use Rattle.std.specs.Prelude.{◌≡◌, Bool, true, cond, List, ℕ, zero, suc, ◌+◌, ◌-◌, ◌*◌, ◌<◌, ◌≤◌, length, get_or, set, ℤ, pos, ◌+ℤ◌}
use Rattle.lists.specs.Run.{done}
use Rattle.panel.specs.Refs.{line_at, packed_at, put_ref}
use Rattle.panel.specs.Signed.{in_i32}
use Rattle.panel.specs.Widths.{ref_words}
use Rattle.panel.specs.declared.kinds.Path.{Path}
use Rattle.walk.specs.declared.kinds.Pace.{Pace}
use Rattle.strides.specs.Strides.{Before}
use Rattle.strides.specs.Words.{word_of}
use Rattle.strides.specs.Last.{Last}
use Rattle.strides.specs.Last.{Z, Other as NoLast}
use Rattle.acts.specs.Acts.{St, st_of, step_acts, steps_acts, run_acts, delta_of}
use Rattle.hits.specs.Steps.{hit_at}
use Rattle.few_steps.specs.Direct.{Direct}
use Rattle.few_steps.specs.Direct.{On, Other}

-- a line of so many steps at most; and so many notes of each step
abbrev pub few_steps : ℕ
few_steps = 16

abbrev pub step_notes : ℕ
step_notes = 3

-- the notes of step i into their places
abbrev pub kept : (i k a p : ℕ) → List ℕ → List ℕ
kept i k a p ks = set (set (set ks (step_notes * i) k) (step_notes * i + 1) a) (step_notes * i + 2) p

-- a step was taken from s, and s' is what it left. Its word is k, and a and p are what stood where its reference is now
pub record Took (up : Bool) (k a p : ℕ) (s s' : St) : Type 0 where
  pub t : ℕ
  pub m : Bool
  pub line : ℕ
  pub packs : ℕ
  pub word : k ≡ word_of t m
  pub tile : t < length s.counts
  pub next : cond m (t + 1) t < length s.backs
  pub fits : in_i32 (get_or s.backs (cond m (t + 1) t) (pos 0)) ≡ true
  pub room : ref_words * s.made + ref_words ≤ length s.refs
  pub named : a ≡ line_at s.refs s.made
  pub packed : p ≡ packed_at s.refs s.made
  pub left : s' ≡ st_of (cond m (set s.backs (t + 1) (get_or s.backs (t + 1) (pos 0) +ℤ delta_of up)) s.backs) (set s.counts t (get_or s.counts t 0 + 1))
      (put_ref s.made line packs s.refs) (s.made + 1)

-- i steps were taken, one after another, from s to s', and these are their notes
abbrev pub Came : Bool → List ℕ → ℕ → (s s' : St) → Type 0
Came up ks zero s s' = s' ≡ s
Came up ks (suc i) s s' = (r : St) × Came up ks i s r × Took up (get_or ks (step_notes * i) 0) (get_or ks (step_notes * i + 1) 0) (get_or ks (step_notes * i + 2) 0) r s'

-- step i was taken from s, as the line's acts have it, and is noted; z is what the next step's is held against
pub record Taken (w : Pace) (b : Path) (up : Bool) (l i z : ℕ) (ks ks' : List ℕ) (s s' : St) : Type 0 where
  pub k : ℕ
  pub a : ℕ
  pub p : ℕ
  pub next : Before w (i + 1) z
  pub ran : done s' ≡ run_acts (delta_of up) l (step_acts (hit_at w b i) i) s
  pub noted : ks' ≡ kept i k a p ks
  pub took : Took up k a p s s'

-- what is said of step i: it was taken so; or all is as it was
abbrev pub TakenMet : Pace → Path → Bool → (l i at : ℕ) → (ks : List ℕ) (bs : List ℤ) (cs rs : List ℕ) → (ks' : List ℕ) (bs' : List ℤ) (cs' rs' : List ℕ) → Last → Type 0
TakenMet w b up l i at ks bs cs rs ks' bs' cs' rs' (Z z) = Taken w b up l i z ks ks' (st_of bs cs rs at) (st_of bs' cs' rs' (at + 1))
TakenMet w b up l i at ks bs cs rs ks' bs' cs' rs' NoLast = (ks' ≡ ks) × (bs' ≡ bs) × (cs' ≡ cs) × (rs' ≡ rs)

-- r steps of n were taken from s to s', and so noted; where they are all, s' is what the line's steps leave
pub record Gone (w : Pace) (b : Path) (up : Bool) (l n r : ℕ) (ks : List ℕ) (s s' : St) : Type 0 where
  pub within : r ≤ n
  pub came : Came up ks r s s'
  pub all : r ≡ n → done s' ≡ run_acts (delta_of up) l (steps_acts (hit_at w b) (n - 0) 0) s

-- a line of n steps is counted, and leaves what its steps make; or nothing is said, and what is lent is as it was
abbrev pub FewMet : Pace → Path → Bool → (l n made : ℕ) → (bs : List ℤ) (cs rs : List ℕ) → (bs' : List ℤ) (cs' rs' : List ℕ) → Direct → Type 0
FewMet w b up l n made bs cs rs bs' cs' rs' (On r) = (r ≡ n) × (done (st_of bs' cs' rs' (made + n)) ≡ run_acts (delta_of up) l (steps_acts (hit_at w b) (n - 0) 0) (st_of bs cs rs made))
FewMet w b up l n made bs cs rs bs' cs' rs' Other = (bs' ≡ bs) × (cs' ≡ cs) × (rs' ≡ rs)
