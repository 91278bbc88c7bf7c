-- One line more: the room's words, and the least line after which an ended outline stands open. Assumes nothing.
use mathlib.Core.Path.{◌≡◌, refl, sym, ap, subst, ◌∙◌}
use mathlib.Core.Bool.{Bool, true, false, cond, ◌&&◌}
use mathlib.Core.List.{List}
use Prim.Native.Nat.{ℕ, ◌+◌, ◌-◌, ◌*◌, ◌<◌}
use native.Mathlib.Decide.{ℕ_discrete}
use native.Mathlib.Omega.{arith}
use lib.Dec.{ltb}
use lib.ListN.{length, get_or, set, length-set}
use lib.Seq.{get_or-set_same, get_or-set_other}
use lib.Ieee.{Float}
use borrow.Author.Tests.{lt-ltb, ltb-true}
use Rattle.outlines.specs.Outlines.{last_of, before, reaches, goes_on, head_of, meets}
use Rattle.outlines.specs.Call.{room_words}
use Rattle.outlines.specs.Told.{HasWords, Noted, turned, Clear}
use Rattle.outlines.proofs.Lasts.{last_mine, last_other, last_none}
use Rattle.outlines.proofs.Heads.{head_step}

-- a line that reaches another is one
reaches_some : (fs : List Float) (last l : ℕ) → reaches fs last l ≡ true → 0 < last
reaches_some fs last l e = go (ltb 0 last) refl e
  where
    go : (t : Bool) → ltb 0 last ≡ t → (t && meets fs (last - 1) l) ≡ true → 0 < last
    go true q h = ltb-true 0 last q
    go false q h = let z : ◌≡◌ {A = ℕ} 0 1 = cc in absurd (omega arith)

pub reaches_is : (fs : List Float) (last l : ℕ) → 0 < last → reaches fs last l ≡ meets fs (last - 1) l
reaches_is fs last l h = ap (λ (t : Bool). t && meets fs (last - 1) l) (lt-ltb 0 last h)

module _ (nos : List ℕ) (fs : List Float) where
  pub noted_none : (ws : List ℕ) → Clear ws → Noted nos fs 0 ws
  noted_none ws h = record { lasts = λ p g. h (p * room_words + 1) ∙ sym (last_none nos p); heads = λ p g k. absurd (omega (arith, last_none nos p)) }

  module _ (i : ℕ) (ws : List ℕ) (k : Noted nos fs i ws) (hw : HasWords ws (get_or nos i 0)) where
    abbrev p : ℕ
    p = get_or nos i 0

    abbrev at : ℕ
    at = p * room_words

    abbrev head : ℕ
    head = cond (reaches fs (get_or ws (at + 1) 0) i) (get_or ws at 0) i

    abbrev once : List ℕ
    once = set ws at head

    abbrev ws' : List ℕ
    ws' = turned fs ws p i

    pub turned_length : length (turned fs ws (get_or nos i 0) i) ≡ length ws
    turned_length = length-set once (at + 1) (i + 1) ∙ length-set ws at head

    stays : (j : ℕ) → (j ≡ at → ⊥) → (j ≡ at + 1 → ⊥) → get_or ws' j 0 ≡ get_or ws j 0
    stays j a b = get_or-set_other once (at + 1) j (i + 1) 0 b ∙ get_or-set_other ws at j head 0 a

    last_there : get_or ws' (at + 1) 0 ≡ i + 1
    last_there = get_or-set_same once (at + 1) (i + 1) 0 (omega (arith, length-set ws at head))

    head_there : get_or ws' at 0 ≡ head
    head_there = get_or-set_other once (at + 1) at (i + 1) 0 (λ e. absurd (omega arith)) ∙ get_or-set_same ws at head 0 (omega arith)

    last_word : get_or ws (at + 1) 0 ≡ before nos i
    last_word = k.lasts p hw

    head_is : head ≡ head_of nos fs i
    head_is = ap (λ (w : ℕ). cond (reaches fs w i) (get_or ws at 0) i) last_word ∙ go (goes_on nos fs i) refl ∙ sym (head_step nos fs i)
      where
        go : (t : Bool) → goes_on nos fs i ≡ t → cond (goes_on nos fs i) (get_or ws at 0) i ≡ cond (goes_on nos fs i) (head_of nos fs (before nos i - 1)) i
        go true e = ap (λ (w : ℕ). cond (goes_on nos fs i) w i) (k.heads p hw (reaches_some fs (before nos i) i e))
        go false e = rw e

    pub noted_turn : Noted nos fs (i + 1) (turned fs ws (get_or nos i 0) i)
    noted_turn = record { lasts = λ q h. lasts q (words q h) (ℕ_discrete p q); heads = λ q h. heads q (words q h) (ℕ_discrete p q) }
      where
        words : (q : ℕ) → HasWords ws' q → HasWords ws q
        words q h = omega (arith, turned_length)

        lasts : (q : ℕ) → HasWords ws q → Dec (p ≡ q) → get_or ws' (q * room_words + 1) 0 ≡ last_of nos q (i + 1)
        lasts q h (yes e) = subst (λ (r : ℕ). get_or ws' (r * room_words + 1) 0 ≡ last_of nos r (i + 1)) e (last_there ∙ sym (last_mine nos p i refl))
        lasts q h (no e) = stays (q * room_words + 1) (λ a. absurd (omega arith)) (λ a. e (omega arith)) ∙ k.lasts q h ∙ sym (last_other nos q i e)

        mine : get_or ws' at 0 ≡ head_of nos fs (last_of nos p (i + 1) - 1)
        mine =
            let same : last_of nos p (i + 1) - 1 ≡ i = omega (arith, last_mine nos p i refl) in
            head_there ∙ head_is ∙ ap (head_of nos fs) (sym same)

        heads : (q : ℕ) → HasWords ws q → Dec (p ≡ q) → 0 < last_of nos q (i + 1) → get_or ws' (q * room_words) 0 ≡ head_of nos fs (last_of nos q (i + 1) - 1)
        heads q h (yes e) g = subst (λ (r : ℕ). get_or ws' (r * room_words) 0 ≡ head_of nos fs (last_of nos r (i + 1) - 1)) e mine
        heads q h (no e) g =
            let same : last_of nos q (i + 1) ≡ last_of nos q i = last_other nos q i e in
            stays (q * room_words) (λ a. e (omega arith)) (λ a. absurd (omega arith))
            ∙ k.heads q h (omega arith)
            ∙ ap (λ (m : ℕ). head_of nos fs (m - 1)) (sym same)

    -- what the turn looks at: the line before, and the first line of its outline
    pub turn_last : get_or ws (get_or nos i 0 * room_words + 1) 0 ≡ before nos i
    turn_last = last_word

    pub turn_head : 0 < get_or ws (get_or nos i 0 * room_words + 1) 0 → get_or ws (get_or nos i 0 * room_words) 0 ≡ head_of nos fs (get_or ws (get_or nos i 0 * room_words + 1) 0 - 1)
    turn_head h = k.heads p hw (omega (arith, last_word)) ∙ ap (λ (m : ℕ). head_of nos fs (m - 1)) (sym last_word)
