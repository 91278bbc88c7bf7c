-- The cheats that a promise must shut out, of any call: refusing all, one constant answer, doing nothing. A promise at one input is P : it asks P a m of an
-- answer a and of what was lent, m, as it is afterwards. Definitions only.
use Rattle.std.specs.Prelude.{◌≡◌, ◌≢◌, ℕ, zero, suc}
use Rattle.panel.specs.Refusals.{done_no}
use Rattle.panel.specs.Answer.{Answer}
use Rattle.path_count.specs.Counted.{Counted}
use Rattle.frame.specs.Framed.{Framed}
use Rattle.ppm_write.specs.Written.{Written}
use Rattle.ppm_read.specs.Answer as Read
use Rattle.tile_check.specs.Checked.{Checked}
use Rattle.boxes.specs.Boxed.{Boxed}
use Rattle.svg.specs.Answer as Svg

-- it admits one answer, and one content of what was lent
abbrev pub Once : (A M : Type 0) → (A → M → Type 0) → Type 0
Once A M P = (a b : A) (m n : M) → P a m → P b n → (a ≡ b) × (m ≡ n)

-- P is the promise at an input that is not refused, before which `before` was lent; Q at one that is refused. None of these meets both
pub record Shut (A M : Type 0) (Refuses : A → Type 0) (P Q : A → M → Type 0) (before : M) : Type 0 where
  -- refusing all, with whatever number, and whatever it leaves
  pub refusing : (a : A) (m : M) → Refuses a → P a m → ⊥
  -- one constant answer, whatever it is and whatever it leaves
  pub constant : (a : A) (m n : M) → P a m → Q a n → ⊥
  -- doing nothing, whatever it answers
  pub nothing : (a : A) → P a before → ⊥

-- ---- an answer that refuses, of each kind

abbrev pub Refuses : Answer → Type 0
Refuses Answer.Done = ⊥
Refuses (Answer.Refused n item) = Unit {0}

abbrev pub RefusesCount : Counted → Type 0
RefusesCount (Counted.Done s) = ⊥
RefusesCount (Counted.Refused n item s) = Unit {0}

abbrev pub RefusesFrame : Framed → Type 0
RefusesFrame (Framed.Done s) = ⊥
RefusesFrame (Framed.Refused at n item s) = Unit {0}

abbrev pub RefusesWrite : Written → Type 0
RefusesWrite (Written.Done n) = ⊥
RefusesWrite (Written.Refused n) = Unit {0}

abbrev pub RefusesRead : Read.Answer → Type 0
RefusesRead (Read.Done w h) = ⊥
RefusesRead (Read.Refused n) = Unit {0}

-- an answer that is a number alone
abbrev pub RefusesNumber : ℕ → Type 0
RefusesNumber zero = ⊥
RefusesNumber (suc n) = Unit {0}

abbrev pub RefusesBoxes : Boxed → Type 0
RefusesBoxes (Boxed.Done t) = ⊥
RefusesBoxes (Boxed.Refused n item) = Unit {0}

abbrev pub RefusesSvg : Svg.Answer → Type 0
RefusesSvg (Svg.Done n) = ⊥
RefusesSvg (Svg.Refused n at) = Unit {0}

-- what a caller in C or Rust sees of a recount: the number, the item's, the references made
pub record RecountTold : Type 0 where
  pub number : ℕ
  pub at : ℕ
  pub made : ℕ

abbrev pub recount_told : (n item m : ℕ) → RecountTold
recount_told n item m = record { number = n; at = item; made = m }

-- and of a pixel: the number alone
abbrev pub RefusesNo : ℕ → Type 0
RefusesNo n = n ≢ done_no

abbrev pub RefusesRecount : RecountTold → Type 0
RefusesRecount a = RefusesNo a.number

abbrev pub RefusesCheck : Checked → Type 0
RefusesCheck Checked.Yes = ⊥
RefusesCheck (Checked.Reference j) = ⊥
RefusesCheck (Checked.Count t) = ⊥
RefusesCheck (Checked.Backdrop t) = ⊥
RefusesCheck (Checked.Slots t) = ⊥
RefusesCheck (Checked.Refused n item) = Unit {0}
