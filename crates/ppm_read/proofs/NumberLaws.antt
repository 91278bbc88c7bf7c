-- A number's reading goes alike from what the code holds and from what is meant. Assumes nothing.
use mathlib.Core.Path.{◌≡◌, refl, sym, ap, ◌∙◌}
use mathlib.Core.List.{List, [], ◌∷◌}
use mathlib.Core.Bool.{Bool, true, false}
use Prim.Native.Nat.{ℕ, suc, ◌+◌, ◌≤◌, ◌<◌}
use native.Mathlib.Numerals.{add-one}
use lib.ListN.{length, get_or, drop, drop_of_length-le}
use lib.Seq.{drop-cons}
use Rattle.ppm_read.specs.declared.Kind.{Kind}
use Rattle.ppm_read.specs.declared.Kind.TheVariants.{Hash, Line, Blank, Digit, Other}
use Rattle.ppm_read.specs.declared.Stage.{Stage}
use Rattle.ppm_read.specs.declared.Stage.TheVariants.{Start, Gap, Digits}
use Rattle.ppm_read.specs.declared.Next.{Next}
use Rattle.ppm_read.specs.declared.Next.TheVariants.{To, Ends, Bad}
use Rattle.ppm_read.specs.Bytes.{kind_of}
use Rattle.ppm_read.specs.Header.{step_of, Got, got, none, after, number_from}
use Rattle.ppm_read.specs.Held.{held_stage, held_next, held_got}
use Rattle.ppm_read.proofs.Held.{held_held, held_digit}

stage_twice : (s : Stage) → held_stage (held_stage s) ≡ held_stage s
stage_twice Start = refl
stage_twice Gap = refl
stage_twice (Digits n) = rw (held_held n)

step_held : (c : Bool) (s : Stage) (k : Kind) → held_next (step_of c (held_stage s) k) ≡ held_next (step_of c s k)
step_held true s Hash = ap (To true) (stage_twice s)
step_held true s Line = ap (To false) (stage_twice s)
step_held true s Blank = ap (To true) (stage_twice s)
step_held true s (Digit d) = ap (To true) (stage_twice s)
step_held true s Other = ap (To true) (stage_twice s)
step_held false s Hash = ap (To true) (stage_twice s)
step_held false Start Line = refl
step_held false Gap Line = refl
step_held false (Digits n) Line = ap Ends (held_held n)
step_held false Start Blank = refl
step_held false Gap Blank = refl
step_held false (Digits n) Blank = ap Ends (held_held n)
step_held false Start (Digit d) = refl
step_held false Gap (Digit d) = refl
step_held false (Digits n) (Digit d) = ap (λ (m : ℕ). To false (Digits m)) (held_digit n d)
step_held false s Other = refl

-- two ways on that can't be told apart
after_held : (x : Next) (here : List ℕ) (go : Bool → Stage → Got)
    → ((c : Bool) (s : Stage) → held_got (go c (held_stage s)) ≡ held_got (go c s))
    → held_got (after (held_next x) here go) ≡ held_got (after x here go)
after_held (To c s) here go alike = alike c s
after_held (Ends n) here go alike = ap (λ (m : ℕ). got m here) (held_held n)
after_held Bad here go alike = refl

after_same : (x y : Next) (here : List ℕ) (go : Bool → Stage → Got)
    → ((c : Bool) (s : Stage) → held_got (go c (held_stage s)) ≡ held_got (go c s))
    → held_next x ≡ held_next y
    → held_got (after x here go) ≡ held_got (after y here go)
after_same x y here go alike e =
    sym (after_held x here go alike)
    ∙ ap (λ (z : Next). held_got (after z here go)) e
    ∙ after_held y here go alike

number_held : (bs : List ℕ) (c : Bool) (s : Stage) → held_got (number_from c (held_stage s) bs) ≡ held_got (number_from c s bs)
unfolding number_from
number_held [] c s = refl
number_held (b ∷ bs) c s =
    after_same
    (step_of c (held_stage s) (kind_of b))
    (step_of c s (kind_of b))
    (b ∷ bs)
    (λ c' s'. number_from c' s' bs)
    (number_held bs)
    (step_held c s (kind_of b))

-- one byte of the file, as the code steps over it
pub number_step : (file : List ℕ) (at : ℕ) (c : Bool) (s : Stage) (x : Next)
    → at < length file
    → held_next x ≡ held_next (step_of c s (kind_of (get_or file at 0)))
    → held_got (after x (drop at file) (λ c' s'. number_from c' s' (drop (at + 1) file))) ≡ held_got (number_from c s (drop at file))
unfolding number_from
number_step file at c s x h e =
    rw (add-one at, drop-cons file at 0 h)
    (after_same
    x
    (step_of c s (kind_of (get_or file at 0)))
    (get_or file at 0 ∷ drop (suc at) file)
    (λ c' s'. number_from c' s' (drop (suc at) file))
    (number_held (drop (suc at) file))
    e)

-- the file's end
pub number_end : (file : List ℕ) (at : ℕ) (c : Bool) (s : Stage) → length file ≤ at → none ≡ held_got (number_from c s (drop at file))
unfolding number_from
number_end file at c s h = rw (drop_of_length-le file h)

-- a turn of the reading loop: x is where the byte leads
pub number_turn : (file : List ℕ) (at : ℕ) (c : Bool) (s : Stage) (kind : Kind) (x y : Next) (end : Got)
    → at < length file
    → held_got (number_from c s (drop at file)) ≡ end
    → kind ≡ kind_of (get_or file at 0)
    → held_next x ≡ held_next (step_of c s kind)
    → x ≡ y
    → held_got (after y (drop at file) (λ c' s'. number_from c' s' (drop (at + 1) file))) ≡ end
number_turn file at c s kind x y end h inv k e same =
    let e' : held_next y ≡ held_next (step_of c s (kind_of (get_or file at 0))) = cc in
    number_step file at c s y h e' ∙ inv
