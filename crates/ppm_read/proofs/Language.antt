-- The reader reads exactly the files of the grammar (specs/Grammar.antt):
--     sound       where `header_of` finds a header, the file has that header and that raster
--     complete    where a file has a header, `header_of` finds it
--     one_reading a file has one header only
-- Assumes nothing.
use mathlib.Core.Path.{◌≡◌, refl, sym, ap, ◌∙◌}
use mathlib.Core.List.{List, [], ◌∷◌, ◌++◌}
use mathlib.Core.Bool.{Bool, true, false, cond, ◌&&◌}
use mathlib.Core.Logic.{◌⊎◌, inl, inr, ⊎_elim}
use Prim.Native.Nat.{ℕ, ◌+◌, ◌-◌, ◌*◌}
use native.Mathlib.Omega.{arith}
use lib.Dec.{eqb}
use lib.ListN.{length, drop}
use borrow.Author.Tests.{eqb-true}
use Rattle.ppm_write.specs.Bytes.{magic, zero_byte, ten, largest}
use Rattle.panel.proofs.BoolLaws.{both}
use Rattle.ppm_read.specs.declared.Kind.{Kind}
use Rattle.ppm_read.specs.declared.Kind.TheVariants.{Hash, Line, Blank, Digit, Other}
use Rattle.ppm_read.specs.declared.Stage.{Stage}
use Rattle.ppm_read.specs.declared.Stage.TheVariants.{Start, Gap, Digits}
use Rattle.ppm_read.specs.declared.Next.TheVariants.{To}
use Rattle.ppm_read.specs.Bytes.{is_hash, is_line, is_white, is_digit, kind_of}
use Rattle.ppm_read.specs.Header.{step_of, Got, got, after, number_from, Header, size, no_header, on_number, starts_with, header_of}
use Rattle.ppm_read.specs.Header as H
use Rattle.ppm_read.specs.Grammar.{Comments, White, Number, IsHeader}
use Rattle.ppm_read.specs.Grammar as G
use Rattle.ppm_read.proofs.Headers.{from_most, from_height, from_width}
use Rattle.ppm_read.proofs.ByteKinds.{View, hashes, ends, blanks, digits, others, view, line_white, blank_white, hash_is, never, kind_hash, kind_line, kind_white, kind_digit}

-- ---- what is read is of the grammar

-- White space, and digits, whose first comment is already open where c says so.
data WhiteIn (c : Bool) : List ℕ → List ℕ → Type 0 where
  one : {b : ℕ} {raw rest : List ℕ} → Comments c raw (b ∷ rest) → is_white b ≡ true → WhiteIn c raw rest
  more : {b : ℕ} {raw mid rest : List ℕ} → Comments c raw (b ∷ mid) → is_white b ≡ true → White mid rest → WhiteIn c raw rest

data NumberIn (c : Bool) : ℕ → List ℕ → ℕ → List ℕ → Type 0 where
  one : {b m n : ℕ} {raw rest : List ℕ} → Comments c raw (b ∷ rest) → is_digit b ≡ true → m * ten + (b - zero_byte) ≡ n → NumberIn c m raw n rest
  more : {b m n : ℕ} {raw mid rest : List ℕ} → Comments c raw (b ∷ mid) → is_digit b ≡ true → Number (m * ten + (b - zero_byte)) mid n rest → NumberIn c m raw n rest

white_of : {raw rest : List ℕ} → WhiteIn false raw rest → White raw rest
white_of (one c w) = G.White.one c w
white_of (more c w r) = G.White.more c w r

number_of : {m n : ℕ} {raw rest : List ℕ} → NumberIn false m raw n rest → Number m raw n rest
number_of (one c d e) = G.Number.one c d e
number_of (more c d r) = G.Number.more c d r

-- white space and a number; and a number; then comments, then rest
record Field (c : Bool) (raw : List ℕ) (n : ℕ) (rest : List ℕ) : Type 0 where
  text₁ : List ℕ
  text₂ : List ℕ
  gap : WhiteIn c raw text₁
  number : Number 0 text₁ n text₂
  tail : Comments false text₂ rest

record Tail (c : Bool) (m : ℕ) (raw : List ℕ) (n : ℕ) (rest : List ℕ) : Type 0 where
  text₂ : List ℕ
  number : NumberIn c m raw n text₂
  tail : Comments false text₂ rest

-- what a stage still has to read
abbrev Shape : Bool → Stage → List ℕ → ℕ → List ℕ → Type 0
Shape c Start raw n rest = Field c raw n rest
Shape c Gap raw n rest = Field c raw n rest ⊎ Tail c 0 raw n rest
Shape c (Digits m) raw n rest = (Comments c raw rest × (m ≡ n)) ⊎ Tail c m raw n rest

-- a byte before, that only the comments see
module _ (c c' : Bool) (raw raw' : List ℕ) (step : (rest : List ℕ) → Comments c raw rest → Comments c' raw' rest) where
  white_lift : {rest : List ℕ} → WhiteIn c raw rest → WhiteIn c' raw' rest
  white_lift (one k w) = one (step _ k) w
  white_lift (more k w r) = more (step _ k) w r

  number_lift : {m n : ℕ} {rest : List ℕ} → NumberIn c m raw n rest → NumberIn c' m raw' n rest
  number_lift (one k d e) = one (step _ k) d e
  number_lift (more k d r) = more (step _ k) d r

  field_lift : {n : ℕ} {rest : List ℕ} → Field c raw n rest → Field c' raw' n rest
  field_lift f = record {
    text₁ = f.text₁;
    text₂ = f.text₂;
    gap = white_lift f.gap;
    number = f.number;
    tail = f.tail;
  }

  tail_lift : {m n : ℕ} {rest : List ℕ} → Tail c m raw n rest → Tail c' m raw' n rest
  tail_lift t = record { text₂ = t.text₂; number = number_lift t.number; tail = t.tail }

  lift : (s : Stage) (n : ℕ) (rest : List ℕ) → Shape c s raw n rest → Shape c' s raw' n rest
  lift Start n rest f = field_lift f
  lift Gap n rest (inl f) = inl (field_lift f)
  lift Gap n rest (inr t) = inr (tail_lift t)
  lift (Digits m) n rest (inl (k, e)) = inl (step rest k, e)
  lift (Digits m) n rest (inr t) = inr (tail_lift t)

-- a byte of white space before
white_field : (b : ℕ) (bs : List ℕ) (n : ℕ) (rest : List ℕ) → is_white b ≡ true → Shape false Gap bs n rest → Field false (b ∷ bs) n rest
white_field b bs n rest w (inl f) = record {
  text₁ = f.text₁;
  text₂ = f.text₂;
  gap = more G.Comments.none w (white_of f.gap);
  number = f.number;
  tail = f.tail;
}
white_field b bs n rest w (inr t) = record {
  text₁ = bs;
  text₂ = t.text₂;
  gap = one G.Comments.none w;
  number = number_of t.number;
  tail = t.tail;
}

-- a digit before
digit_tail : (m b : ℕ) (bs : List ℕ) (n : ℕ) (rest : List ℕ) → is_digit b ≡ true → Shape false (Digits (m * ten + (b - zero_byte))) bs n rest → Tail false m (b ∷ bs) n rest
digit_tail m b bs n rest d (inl (k, e)) = record { text₂ = bs; number = one G.Comments.none d e; tail = k }
digit_tail m b bs n rest d (inr t) = record {
  text₂ = t.text₂;
  number = more G.Comments.none d (number_of t.number);
  tail = t.tail;
}

record Sound (c : Bool) (s : Stage) (bs : List ℕ) (n : ℕ) (rest : List ℕ) : Type 0 where
  byte : ℕ
  left : List ℕ
  starts : rest ≡ byte ∷ left
  white : is_white byte ≡ true
  shape : Shape c s bs n rest

sound_lift : (c c' : Bool) (b : ℕ) (bs : List ℕ) (s : Stage) (n : ℕ) (rest : List ℕ)
    → ((r : List ℕ) → Comments c bs r → Comments c' (b ∷ bs) r) → Sound c s bs n rest → Sound c' s (b ∷ bs) n rest
sound_lift c c' b bs s n rest step x = record {
  byte = x.byte;
  left = x.left;
  starts = x.starts;
  white = x.white;
  shape = lift c c' bs (b ∷ bs) step s n rest x.shape;
}

-- a number that ends at a byte of white space
sound_end : (m b : ℕ) (bs : List ℕ) (n : ℕ) (rest : List ℕ) → is_white b ≡ true → got m (b ∷ bs) ≡ got n rest → Sound false (Digits m) (b ∷ bs) n rest
sound_end m b bs n rest w e =
    let r : rest ≡ b ∷ bs = cc in
    let k : m ≡ n = cc in
    record { byte = b; left = bs; starts = r; white = w; shape = inl (rw r G.Comments.none, k) }

sound_white : (s : Stage) (b : ℕ) (bs : List ℕ) (n : ℕ) (rest : List ℕ) → is_white b ≡ true
    → ((c : Bool) (t : Stage) → number_from c t bs ≡ got n rest → Sound c t bs n rest)
    → after (step_of false s Blank) (b ∷ bs) (λ c t. number_from c t bs) ≡ got n rest
    → Sound false s (b ∷ bs) n rest
sound_white Start b bs n rest w ih e =
    let x = ih false Gap e in
    record { byte = x.byte; left = x.left; starts = x.starts; white = x.white; shape = white_field b bs n rest w x.shape }
sound_white Gap b bs n rest w ih e =
    let x = ih false Gap e in
    record { byte = x.byte; left = x.left; starts = x.starts; white = x.white; shape = inl (white_field b bs n rest w x.shape) }
sound_white (Digits m) b bs n rest w ih e = sound_end m b bs n rest w e

nothing : {n : ℕ} {rest : List ℕ} → H.none ≡ got n rest → ⊥
nothing e = let z : ◌≡◌ {A = ℕ} 0 1 = cc in omega arith

sound_digit : (s : Stage) (b d : ℕ) (bs : List ℕ) (n : ℕ) (rest : List ℕ) → is_digit b ≡ true → b - zero_byte ≡ d
    → ((c : Bool) (t : Stage) → number_from c t bs ≡ got n rest → Sound c t bs n rest)
    → after (step_of false s (Digit d)) (b ∷ bs) (λ c t. number_from c t bs) ≡ got n rest
    → Sound false s (b ∷ bs) n rest
sound_digit Start b d bs n rest g v ih e = absurd (nothing e)
sound_digit Gap b d bs n rest g v ih e =
    let x = ih false (Digits d) e in
    let q : d ≡ 0 * ten + (b - zero_byte) = omega (arith, v) in
    record {
      byte = x.byte;
      left = x.left;
      starts = x.starts;
      white = x.white;
      shape = inr (digit_tail 0 b bs n rest g (rw q at x.shape));
    }
sound_digit (Digits m) b d bs n rest g v ih e =
    let x = ih false (Digits (m * ten + d)) e in
    record {
      byte = x.byte;
      left = x.left;
      starts = x.starts;
      white = x.white;
      shape = inr (digit_tail m b bs n rest g (rw (sym v) at x.shape));
    }

hash_line : (b : ℕ) → is_hash b ≡ true → is_line b ≡ false
hash_line b e = rw (hash_is b e)

-- one byte
sound_step : (c : Bool) (s : Stage) (b : ℕ) (k : Kind) (bs : List ℕ) (n : ℕ) (rest : List ℕ) → View b k
    → ((c' : Bool) (t : Stage) → number_from c' t bs ≡ got n rest → Sound c' t bs n rest)
    → after (step_of c s k) (b ∷ bs) (λ c' t. number_from c' t bs) ≡ got n rest
    → Sound c s (b ∷ bs) n rest
sound_step true s b Hash bs n rest (hashes h) ih e = sound_lift true true b bs s n rest (λ r. G.Comments.inside (hash_line b h)) (ih true s e)
sound_step true s b Line bs n rest (ends l) ih e = sound_lift false true b bs s n rest (λ r. G.Comments.closes l) (ih false s e)
sound_step true s b Blank bs n rest (blanks l k) ih e = sound_lift true true b bs s n rest (λ r. G.Comments.inside l) (ih true s e)
sound_step true s b (Digit d) bs n rest (digits l g v) ih e = sound_lift true true b bs s n rest (λ r. G.Comments.inside l) (ih true s e)
sound_step true s b Other bs n rest (others h l k g) ih e = sound_lift true true b bs s n rest (λ r. G.Comments.inside l) (ih true s e)
sound_step false s b Hash bs n rest (hashes h) ih e = sound_lift true false b bs s n rest (λ r. G.Comments.opens h) (ih true s e)
sound_step false s b Line bs n rest (ends l) ih e = sound_white s b bs n rest (line_white b l) ih (line_blank s b bs n rest e)
  where
    line_blank : (t : Stage) (x : ℕ) (xs : List ℕ) (m : ℕ) (r : List ℕ)
        → after (step_of false t Line) (x ∷ xs) (λ c' u. number_from c' u xs) ≡ got m r
        → after (step_of false t Blank) (x ∷ xs) (λ c' u. number_from c' u xs) ≡ got m r
    line_blank Start x xs m r q = q
    line_blank Gap x xs m r q = q
    line_blank (Digits i) x xs m r q = q
sound_step false s b Blank bs n rest (blanks l k) ih e = sound_white s b bs n rest (blank_white b l k) ih e
sound_step false s b (Digit d) bs n rest (digits l g v) ih e = sound_digit s b d bs n rest g v ih e
sound_step false s b Other bs n rest (others h l k g) ih e = absurd (nothing e)

number_sound : (bs : List ℕ) (n : ℕ) (rest : List ℕ) (c : Bool) (s : Stage) → number_from c s bs ≡ got n rest → Sound c s bs n rest
unfolding number_from
number_sound [] n rest c s e = absurd (nothing e)
number_sound (b ∷ bs) n rest c s e = sound_step c s b (kind_of b) bs n rest (view b) (number_sound bs n rest) e

comments_then : {c : Bool} {x y z : List ℕ} → Comments c x y → Comments false y z → Comments c x z
comments_then G.Comments.none k = k
comments_then (G.Comments.opens h r) k = G.Comments.opens h (comments_then r k)
comments_then (G.Comments.inside l r) k = G.Comments.inside l (comments_then r k)
comments_then (G.Comments.closes l r) k = G.Comments.closes l (comments_then r k)

white_before : {x y z : List ℕ} → Comments false x y → White y z → White x z
white_before k (G.White.one r w) = G.White.one (comments_then k r) w
white_before k (G.White.more r w left) = G.White.more (comments_then k r) w left

number_as : {m n k : ℕ} {raw rest : List ℕ} → n ≡ k → Number m raw n rest → Number m raw k rest
number_as e x = rw e at x

comments_as : {c : Bool} {raw x y : List ℕ} → x ≡ y → Comments c raw x → Comments c raw y
comments_as e x = rw e at x

magic_split : (file : List ℕ) → starts_with magic file ≡ true → file ≡ magic ++ drop (length magic) file
magic_split [] e = let z : ◌≡◌ {A = ℕ} 0 1 = cc in absurd (omega arith)
magic_split (a ∷ []) e =
    let z : ◌≡◌ {A = ℕ} 0 1 = clash (both (eqb a 80) false e).1 in absurd (omega arith)
  where
    clash : false ≡ true → ◌≡◌ {A = ℕ} 0 1
    clash q = cc
magic_split (a ∷ b ∷ bs) e =
    let ea : a ≡ 80 = eqb-true a 80 (both (eqb a 80) (eqb b 54 && true) e).0 in
    let eb : b ≡ 54 = eqb-true b 54 (both (eqb b 54) true (both (eqb a 80) (eqb b 54 && true) e).1).0 in
    rw (ea, eb)

record Last (w h most : ℕ) (rest : List ℕ) (w' h' : ℕ) (raster : List ℕ) : Type 0 where
  width : w ≡ w'
  height : h ≡ h'
  most_is : most ≡ largest
  raster_is : drop 1 rest ≡ raster

last : (w h most : ℕ) (rest : List ℕ) (w' h' : ℕ) (raster : List ℕ) → from_most w h most rest ≡ size w' h' raster → Last w h most rest w' h' raster
last w h most rest w' h' raster e = go (eqb most largest) refl e
  where
    go : (t : Bool) → eqb most largest ≡ t → cond t (size w h (drop 1 rest)) no_header ≡ size w' h' raster → Last w h most rest w' h' raster
    go true q f = record { width = cc; height = cc; most_is = eqb-true most largest q; raster_is = cc }
    go false q f = let z : ◌≡◌ {A = ℕ} 0 1 = cc in absurd (omega arith)

module _ (text : List ℕ) (w' h' : ℕ) (raster : List ℕ) where
  -- the header, from its three numbers
  header_made : (r₁ r₂ r₃ : List ℕ) (w h most : ℕ)
      → Sound false Start text w r₁ → Sound false Start r₁ h r₂ → Sound false Start r₂ most r₃ → Last w h most r₃ w' h' raster
      → IsHeader (magic ++ text) w' h' raster
  header_made r₁ r₂ r₃ w h most s₁ s₂ s₃ l =
      let left : s₃.left ≡ raster = sym (ap (drop 1) s₃.starts) ∙ l.raster_is in
      let end : r₃ ≡ s₃.byte ∷ raster = s₃.starts ∙ ap (λ (r : List ℕ). s₃.byte ∷ r) left in
      record {
        text₀ = text;
        text₁ = s₁.shape.text₁;
        text₂ = s₁.shape.text₂;
        text₃ = s₂.shape.text₁;
        text₄ = s₂.shape.text₂;
        text₅ = s₃.shape.text₁;
        text₆ = s₃.shape.text₂;
        after = s₃.byte;
        start = refl;
        gap₁ = white_of s₁.shape.gap;
        width = number_as l.width s₁.shape.number;
        gap₂ = white_before s₁.shape.tail (white_of s₂.shape.gap);
        height = number_as l.height s₂.shape.number;
        gap₃ = white_before s₂.shape.tail (white_of s₃.shape.gap);
        most = number_as l.most_is s₃.shape.number;
        comments = comments_as end s₃.shape.tail;
        single = s₃.white;
      }

  from_most_lem : (r₁ r₂ : List ℕ) (w h : ℕ) → Sound false Start text w r₁ → Sound false Start r₁ h r₂
      → (g : Got) → number_from false Start r₂ ≡ g → on_number g (from_most w h) ≡ size w' h' raster
      → IsHeader (magic ++ text) w' h' raster
  from_most_lem r₁ r₂ w h s₁ s₂ (H.got n r) e q =
      header_made r₁ r₂ r w h n s₁ s₂ (number_sound r₂ n r false Start e) (last w h n r w' h' raster q)
  from_most_lem r₁ r₂ w h s₁ s₂ H.none e q = let z : ◌≡◌ {A = ℕ} 0 1 = cc in absurd (omega arith)

  from_height_lem : (r₁ : List ℕ) (w : ℕ) → Sound false Start text w r₁
      → (g : Got) → number_from false Start r₁ ≡ g → on_number g (from_height w) ≡ size w' h' raster
      → IsHeader (magic ++ text) w' h' raster
  from_height_lem r₁ w s₁ (H.got n r) e q =
      from_most_lem r₁ r w n s₁ (number_sound r₁ n r false Start e) (number_from false Start r) refl q
  from_height_lem r₁ w s₁ H.none e q = let z : ◌≡◌ {A = ℕ} 0 1 = cc in absurd (omega arith)

  from_width_lem : (g : Got) → number_from false Start text ≡ g → on_number g from_width ≡ size w' h' raster
      → IsHeader (magic ++ text) w' h' raster
  from_width_lem (H.got n r) e q =
      from_height_lem r n (number_sound text n r false Start e) (number_from false Start r) refl q
  from_width_lem H.none e q = let z : ◌≡◌ {A = ℕ} 0 1 = cc in absurd (omega arith)

pub sound : (file : List ℕ) (w h : ℕ) (raster : List ℕ) → header_of file ≡ size w h raster → IsHeader file w h raster
unfolding header_of
sound file w h raster = go (starts_with magic file) refl
  where
    go :
        (t : Bool) →
        starts_with magic file ≡ t →
        cond t (on_number (number_from false Start (drop (length magic) file)) from_width) no_header ≡ size w h raster →
        IsHeader file w h raster
    go true q e = rw (magic_split file q) (from_width_lem (drop (length magic) file) w h raster (number_from false Start (drop (length magic) file)) refl e)
    go false q e = let z : ◌≡◌ {A = ℕ} 0 1 = cc in absurd (omega arith)

-- ---- what is of the grammar is read

inside_step : (b : ℕ) (k : Kind) (s : Stage) → View b k → is_line b ≡ false → step_of true s k ≡ To true s
inside_step b Hash s (hashes h) e = refl
inside_step b Line s (ends l) e = absurd (never (sym e ∙ l))
inside_step b Blank s (blanks l k) e = refl
inside_step b (Digit d) s (digits l g v) e = refl
inside_step b Other s (others h l k g) e = refl

-- comments lead nowhere
pass : {c : Bool} {raw rest : List ℕ} → Comments c raw rest → (s : Stage) → number_from c s raw ≡ number_from false s rest
unfolding number_from
pass G.Comments.none s = refl
pass (G.Comments.opens {b} h r) s = rw (kind_hash b h) (pass r s)
pass (G.Comments.inside {b} l r) s = rw (inside_step b (kind_of b) s (view b) l) (pass r s)
pass (G.Comments.closes {b} l r) s = rw (kind_line b l) (pass r s)

-- a byte of white space: before a number, at two stages, and after it
data Waits : Stage → Type 0 where
  start : Waits Start
  gap : Waits Gap

white_step : (b : ℕ) (rest : List ℕ) (s : Stage) → Waits s → is_white b ≡ true → number_from false s (b ∷ rest) ≡ number_from false Gap rest
unfolding number_from
white_step b rest Start start w = ⊎_elim (λ e. rw e) (λ e. rw e) (kind_white b w)
white_step b rest Gap gap w = ⊎_elim (λ e. rw e) (λ e. rw e) (kind_white b w)
white_step b rest (Digits _) x3 w = elim x3 [ ]

stop_step : (b : ℕ) (rest : List ℕ) (n : ℕ) → is_white b ≡ true → number_from false (Digits n) (b ∷ rest) ≡ got n (b ∷ rest)
unfolding number_from
stop_step b rest n w = ⊎_elim (λ e. rw e) (λ e. rw e) (kind_white b w)

gap_run : {raw rest : List ℕ} → White raw rest → (s : Stage) → Waits s → number_from false s raw ≡ number_from false Gap rest
gap_run (G.White.one {b} {raw} {rest} k w) s t = pass k s ∙ white_step b rest s t w
gap_run (G.White.more {b} {raw} {mid} {rest} k w r) s t = pass k s ∙ white_step b mid s t w ∙ gap_run r Gap gap

digit_step : (m b : ℕ) (rest : List ℕ) → is_digit b ≡ true → number_from false (Digits m) (b ∷ rest) ≡ number_from false (Digits (m * ten + (b - zero_byte))) rest
unfolding number_from
digit_step m b rest g = rw (kind_digit b g)

first_step : (b : ℕ) (rest : List ℕ) → is_digit b ≡ true → number_from false Gap (b ∷ rest) ≡ number_from false (Digits (0 * ten + (b - zero_byte))) rest
unfolding number_from
first_step b rest g =
    let e : b - zero_byte ≡ 0 * ten + (b - zero_byte) = omega arith in
    rw (kind_digit b g) (ap (λ (n : ℕ). number_from false (Digits n) rest) e)

number_run : {m n : ℕ} {raw rest : List ℕ} → Number m raw n rest → number_from false (Digits m) raw ≡ number_from false (Digits n) rest
number_run (G.Number.one {b} {m} {n} {raw} {rest} k g e) =
    pass k (Digits m) ∙ digit_step m b rest g ∙ ap (λ (i : ℕ). number_from false (Digits i) rest) e
number_run (G.Number.more {b} {m} {n} {raw} {mid} {rest} k g r) = pass k (Digits m) ∙ digit_step m b mid g ∙ number_run r

number_start : {n : ℕ} {raw rest : List ℕ} → Number 0 raw n rest → number_from false Gap raw ≡ number_from false (Digits n) rest
number_start (G.Number.one {b} {m} {n} {raw} {rest} k g e) =
    pass k Gap ∙ first_step b rest g ∙ ap (λ (i : ℕ). number_from false (Digits i) rest) e
number_start (G.Number.more {b} {m} {n} {raw} {mid} {rest} k g r) = pass k Gap ∙ first_step b mid g ∙ number_run r

-- white space, a number, comments, and a byte of white space
field_run : (raw text₁ text₂ rest : List ℕ) (n b : ℕ) → White raw text₁ → Number 0 text₁ n text₂ → Comments false text₂ (b ∷ rest) → is_white b ≡ true
    → number_from false Start raw ≡ got n (b ∷ rest)
field_run raw text₁ text₂ rest n b space number comments w =
    gap_run space Start start ∙ number_start number ∙ pass comments (Digits n) ∙ stop_step b rest n w

record First (raw rest : List ℕ) : Type 0 where
  byte : ℕ
  left : List ℕ
  comments : Comments false raw (byte ∷ left)
  white : is_white byte ≡ true
  gap : White (byte ∷ left) rest

first : {raw rest : List ℕ} → White raw rest → First raw rest
first (G.White.one {b} {raw} {rest} k w) = record { byte = b; left = rest; comments = k; white = w; gap = G.White.one G.Comments.none w }
first (G.White.more {b} {raw} {mid} {rest} k w r) = record { byte = b; left = mid; comments = k; white = w; gap = G.White.more G.Comments.none w r }

text_complete : (text : List ℕ) (w h most : ℕ) (x₁ x₂ x₃ : List ℕ)
    → number_from false Start text ≡ got w x₁ → number_from false Start x₁ ≡ got h x₂ → number_from false Start x₂ ≡ got most x₃ → most ≡ largest
    → header_of (magic ++ text) ≡ size w h (drop 1 x₃)
unfolding header_of
text_complete text w h most x₁ x₂ x₃ e₁ e₂ e₃ l = rw (e₁, e₂, e₃, l)

pub complete : (file : List ℕ) (w h : ℕ) (raster : List ℕ) → IsHeader file w h raster → header_of file ≡ size w h raster
complete file w h raster x =
    let f₂ = first x.gap₂ in
    let f₃ = first x.gap₃ in
    ap header_of x.start
    ∙ text_complete
    x.text₀
    w
    h
    largest
    (f₂.byte ∷ f₂.left)
    (f₃.byte ∷ f₃.left)
    (x.after ∷ raster)
    (field_run x.text₀ x.text₁ x.text₂ f₂.left w f₂.byte x.gap₁ x.width f₂.comments f₂.white)
    (field_run (f₂.byte ∷ f₂.left) x.text₃ x.text₄ f₃.left h f₃.byte f₂.gap x.height f₃.comments f₃.white)
    (field_run (f₃.byte ∷ f₃.left) x.text₅ x.text₆ raster largest x.after f₃.gap x.most x.comments x.single)
    refl

pub one_reading : (file : List ℕ) (w h w' h' : ℕ) (r r' : List ℕ) → IsHeader file w h r → IsHeader file w' h' r' → size w h r ≡ size w' h' r'
one_reading file w h w' h' r r' x y = sym (complete file w h r x) ∙ complete file w' h' r' y
