-- Lists changed place by place, and what a command that goes on has been checked for. Assumes nothing.
use mathlib.Core.Path.{◌≡◌, refl, subst, ◌∙◌}
use mathlib.Core.Bool.{Bool, true, false, cond}
use mathlib.Core.List.{List}
use Prim.Native.Nat.{ℕ, ◌+◌, ◌-◌, ◌<◌}
use native.Mathlib.Omega.{arith}
use lib.Dec.{leb}
use lib.ListN.{length, get_or}
use lib.Ieee.{Float}
use Rattle.lists.specs.Grid.{mapi}
use Rattle.lists.specs.GridLaws.{mapi_is, get_d_mapi, length_mapi}
use Rattle.panel.specs.Refusals.{past_end}
use Rattle.panel.specs.Verdict.{Verdict}
use Rattle.panel.specs.Verdict.{Fine, Against}
use Rattle.coverage.specs.Ground.{ground_of}
use Rattle.coverage.proofs.Grounds.{ground_room}
use Rattle.commands.specs.Moves.{count_of, on_ground, fill_move, whole_move, move_of}
use Rattle.commands.specs.Numbers.{words_of}
use Rattle.commands.specs.Pixel.{Within}
use Rattle.commands.specs.declared.steps.Op.{Op}
use Rattle.commands.specs.declared.steps.Op.TheVariants as Op'
use Rattle.commands.specs.declared.steps.Act.{Act}
use Rattle.commands.specs.declared.steps.Act.TheVariants.{Fill, Solid, Color, Jump}
use Rattle.commands.specs.Move.{Move}
use Rattle.commands.specs.Move.{Refused, Goes}

-- ---- lists
pub unchanged : {A : Type 0} (d : A) (l : List A) → l ≡ mapi (λ k x. x) l
unchanged d l = mapi_is (λ k x. x) l l d d refl (λ k h. refl)

pub mapi_cong : {A B : Type 0} (d : A) (e : B) (f g : ℕ → A → B) (l : List A) → ((k : ℕ) (x : A) → k < length l → f k x ≡ g k x) → mapi f l ≡ mapi g l
mapi_cong d e f g l h = mapi_is g l (mapi f l) d e (length_mapi f l) (λ k lt. get_d_mapi f l k d e lt ∙ h k (get_or l k d) lt)

-- ---- a command that goes on has its segments among those lent
pick_goes : (b : Bool) (m : Move) (k : ℕ) (a : Act) (n : ℕ) → cond b m (Refused k) ≡ Goes a n → (b ≡ true) × (m ≡ Goes a n)
pick_goes true m k a n e = (refl, e)
pick_goes false m k a n e = let z : ◌≡◌ {A = ℕ} 0 1 = cc in absurd (omega arith)

ground_goes : (v : Verdict) (m : Move) (a : Act) (n : ℕ) → on_ground v m ≡ Goes a n → (v ≡ Fine) × (m ≡ Goes a n)
ground_goes Fine m a n e = (refl, e)
ground_goes (Against k) m a n e = let z : ◌≡◌ {A = ℕ} 0 1 = cc in absurd (omega arith)

whole_within : (o : Op) (ws : List ℕ) (segs : List Float) (at : ℕ) (a : Act) (n : ℕ) → whole_move o ws segs at ≡ Goes a n → Within a (length segs)
unfolding whole_move fill_move
whole_within Op'.Fill ws segs at a n e =
    let p = ground_goes (ground_of segs (get_or ws (at + 2) 0) (count_of (get_or ws (at + 1) 0))) _ a n e in
    let f : Fill (get_or ws (at + 1) 0) (get_or ws (at + 2) 0) (get_or ws (at + 3) 0) ≡ a = same p.1 in
    subst (λ (z : Act). Within z (length segs)) f (ground_room segs (get_or ws (at + 2) 0) (count_of (get_or ws (at + 1) 0)) p.0)
  where
    same : {x y : Act} {i j : ℕ} → Goes x i ≡ Goes y j → x ≡ y
    same e = cc
whole_within Op'.Solid ws segs at a n e = let f : Solid ≡ a = cc in subst (λ (z : Act). Within z (length segs)) f tt
whole_within Op'.Color ws segs at a n e = let f : Color (get_or ws (at + 1) 0) ≡ a = cc in subst (λ (z : Act). Within z (length segs)) f tt
whole_within Op'.Jump ws segs at a n e = let f : Jump ≡ a = cc in subst (λ (z : Act). Within z (length segs)) f tt
whole_within Op'.Unknown ws segs at a n e = let z : ◌≡◌ {A = ℕ} 0 1 = cc in absurd (omega arith)

pub move_within : (o : Op) (ws : List ℕ) (segs : List Float) (at : ℕ) (a : Act) (n : ℕ) → move_of o ws segs at ≡ Goes a n → Within a (length segs)
unfolding move_of
move_within o ws segs at a n e = whole_within o ws segs at a n (pick_goes (leb (words_of o) (length ws - at)) (whole_move o ws segs at) past_end a n e).1
