-- The P6 header as a grammar, apart from the reader and in the words of Netpbm's pages ppm(5) and
-- pbm(5): "P6", white space, width, white space, height, white space, largest value, and a single byte
-- of white space; before that byte, what stands from a "#" through the next newline or carriage return
-- is ignored. `X raw .. rest` says that raw is X and then rest. proofs/Language.antt shows that
-- header_of reads exactly these files. Definitions only.
use Rattle.std.specs.Prelude.{ℕ, ◌+◌, ◌-◌, ◌*◌, ◌≡◌, List, ◌∷◌, ◌++◌, Bool, true, false}
use Rattle.ppm_write.specs.Bytes.{magic, zero_byte, ten, largest}
use Rattle.ppm_read.specs.Bytes.{is_hash, is_line, is_white, is_digit}

-- comments, none or more; true: what is left of one, and more
pub data Comments : Bool → List ℕ → List ℕ → Type 0 where
  none : {rest : List ℕ} → Comments false rest rest
  opens : {b : ℕ} {raw rest : List ℕ} → is_hash b ≡ true → Comments true raw rest → Comments false (b ∷ raw) rest
  inside : {b : ℕ} {raw rest : List ℕ} → is_line b ≡ false → Comments true raw rest → Comments true (b ∷ raw) rest
  closes : {b : ℕ} {raw rest : List ℕ} → is_line b ≡ true → Comments false raw rest → Comments true (b ∷ raw) rest

-- white space, one byte or more, each with what comments stand before it
pub data White : List ℕ → List ℕ → Type 0 where
  one : {b : ℕ} {raw rest : List ℕ} → Comments false raw (b ∷ rest) → is_white b ≡ true → White raw rest
  more : {b : ℕ} {raw mid rest : List ℕ} → Comments false raw (b ∷ mid) → is_white b ≡ true → White mid rest → White raw rest

-- digits, one or more, that make n after those that make m
pub data Number : ℕ → List ℕ → ℕ → List ℕ → Type 0 where
  one :
      {b m n : ℕ} {raw rest : List ℕ} →
      Comments false raw (b ∷ rest) →
      is_digit b ≡ true →
      m * ten + (b - zero_byte) ≡ n →
      Number m raw n rest
  more :
      {b m n : ℕ} {raw mid rest : List ℕ} →
      Comments false raw (b ∷ mid) →
      is_digit b ≡ true →
      Number (m * ten + (b - zero_byte)) mid n rest →
      Number m raw n rest

pub record IsHeader (file : List ℕ) (w h : ℕ) (raster : List ℕ) : Type 0 where
  pub text₀ : List ℕ
  pub text₁ : List ℕ
  pub text₂ : List ℕ
  pub text₃ : List ℕ
  pub text₄ : List ℕ
  pub text₅ : List ℕ
  pub text₆ : List ℕ
  pub after : ℕ
  pub start : file ≡ magic ++ text₀
  pub gap₁ : White text₀ text₁
  pub width : Number 0 text₁ w text₂
  pub gap₂ : White text₂ text₃
  pub height : Number 0 text₃ h text₄
  pub gap₃ : White text₄ text₅
  pub most : Number 0 text₅ largest text₆
  pub comments : Comments false text₆ (after ∷ raster)
  pub single : is_white after ≡ true
