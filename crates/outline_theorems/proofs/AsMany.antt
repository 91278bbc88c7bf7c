-- Over closed outlines what a path's lines have at their starts adds up to what they have at their ends; so as many of them leave a side as come to it.
-- Assumes nothing.
use mathlib.Core.Path.{◌≡◌, refl, sym, ap, subst, ◌∙◌}
use mathlib.Core.Bool.{Bool, true, false, not, cond, ◌&&◌}
use mathlib.Core.List.{List}
use Prim.Native.Nat.{ℕ, zero, suc, ◌+◌, ◌-◌, ◌*◌, ◌≤◌, ◌<◌}
use native.Mathlib.Decide.{ℕ_discrete}
use native.Mathlib.Numerals.{add-one}
use native.Mathlib.Omega.{arith}
use lib.ListN.{length, get_or}
use lib.Ieee.{Float}
use Rattle.util.specs.declared.Vec2.{Vec2}
use Rattle.panel.specs.Widths.{line_floats}
use Rattle.meeting.proofs.FirstLaws.{first_missed}
use Rattle.outlines.specs.Outlines.{last_of, before, reaches, goes_on, head_of, meets, left_open, first_open}
use Rattle.outlines.proofs.Lasts.{last_none, last_mine, last_other, last_most, last_path}
use Rattle.outlines.proofs.Heads.{head_step, head_most}
use Rattle.outlines.proofs.Turns.{reaches_is}
use Rattle.outlines.proofs.Least.{clash}
use Rattle.outlines.proofs.Opens.{open_ended, open_last}
use Rattle.outline_theorems.specs.Closed.{Closed}
use Rattle.outline_theorems.specs.Crossings.{sum_of, start_of, end_of, one_if, leaving, coming, at_or_above}
use Rattle.outline_theorems.proofs.Same.{same_ends}
use Rattle.outline_theorems.proofs.Sums.{sum_none, sum_mine, sum_other, sum_adds, one_left, one_come}

module _ (nos : List ℕ) (fs : List Float) (c : Closed nos fs) where
  -- no line below their number is left open
  shut : (l : ℕ) → l < length nos → left_open nos fs l ≡ false
  unfolding first_open
  shut l h = first_missed (left_open nos fs) (length nos) l (subst (λ (m : ℕ). l < m) (sym c.none_open) h)

  lent : (l : ℕ) → l < length nos → l * line_floats + line_floats ≤ length fs
  lent l h = let m : length nos * line_floats ≤ length fs = c.lent in omega arith

  -- where a line's outline is closed, it ends at its first line's start
  back : (l : ℕ) → l < length nos → meets fs l (head_of nos fs l) ≡ true → end_of fs l ≡ start_of fs (head_of nos fs l)
  back l h e = same_ends fs c.floats l (head_of nos fs l) (lent l h) (lent (head_of nos fs l) (omega (arith, head_most nos fs l))) e

  -- another line of the path begins a new outline
  ended_shut : (i l : ℕ) → i < length nos → before nos i ≡ l + 1 → goes_on nos fs i ≡ false → end_of fs l ≡ start_of fs (head_of nos fs l)
  ended_shut i l h e g = go (meets fs l (head_of nos fs l)) refl
    where
      below : l < length nos
      below = omega (arith, last_most nos (get_or nos i 0) i)

      go : (t : Bool) → meets fs l (head_of nos fs l) ≡ t → end_of fs l ≡ start_of fs (head_of nos fs l)
      go true q = back l below q
      go false q = absurd (clash (open_ended nos fs l (record { by = i; early = h; next = e; apart = g; ajar = q })) (shut l below))

  -- none is to come
  last_shut : (p l : ℕ) → last_of nos p (length nos) ≡ l + 1 → end_of fs l ≡ start_of fs (head_of nos fs l)
  last_shut p l e = go (meets fs l (head_of nos fs l)) refl
    where
      below : l < length nos
      below = omega (arith, last_most nos p (length nos))

      mine : last_of nos (get_or nos l 0) (length nos) ≡ l + 1
      mine = ap (λ (q : ℕ). last_of nos q (length nos)) (last_path nos p (length nos) l e) ∙ e

      go : (t : Bool) → meets fs l (head_of nos fs l) ≡ t → end_of fs l ≡ start_of fs (head_of nos fs l)
      go true q = back l below q
      go false q = absurd (clash (open_last nos fs l mine q) (shut l below))

  module _ (f : Vec2 → ℕ) (p : ℕ) where
    abbrev starts : ℕ → ℕ
    starts i = sum_of nos (λ l. f (start_of fs l)) p i

    abbrev ends : ℕ → ℕ
    ends i = sum_of nos (λ l. f (end_of fs l)) p i

    -- after i lines: nothing yet, or all outlines but the last come back, and the last is at line l's end
    record At (i : ℕ) : Type 0 where
      pub none : last_of nos p i ≡ 0 → starts i ≡ ends i
      pub some : (l : ℕ) → last_of nos p i ≡ l + 1 → starts i + f (end_of fs l) ≡ ends i + f (start_of fs (head_of nos fs l))

    at_none : At 0
    at_none = record { none = λ e. sum_none nos _ p ∙ sym (sum_none nos _ p); some = λ l e. absurd (omega (arith, last_none nos p)) }

    -- a line that begins an outline is its first
    head_new : (i : ℕ) → goes_on nos fs i ≡ false → head_of nos fs i ≡ i
    head_new i e = head_step nos fs i ∙ ap (λ (t : Bool). cond t (head_of nos fs (before nos i - 1)) i) e

    head_on : (i : ℕ) → goes_on nos fs i ≡ true → head_of nos fs i ≡ head_of nos fs (before nos i - 1)
    head_on i e = head_step nos fs i ∙ ap (λ (t : Bool). cond t (head_of nos fs (before nos i - 1)) i) e

    -- line i's own start stands for the end of what came before it
    key : (i : ℕ) → i < length nos → get_or nos i 0 ≡ p → At i → starts i + f (start_of fs i) ≡ ends i + f (start_of fs (head_of nos fs i))
    key i h e a = go (before nos i) refl (goes_on nos fs i) refl
      where
        same : before nos i ≡ last_of nos p i
        same = ap (λ (q : ℕ). last_of nos q i) e

        go : (b : ℕ) → before nos i ≡ b → (t : Bool) → goes_on nos fs i ≡ t → starts i + f (start_of fs i) ≡ ends i + f (start_of fs (head_of nos fs i))
        go zero q t r =
            let new : goes_on nos fs i ≡ false = ap (λ (m : ℕ). reaches fs m i) q in
            omega (arith, a.none (sym same ∙ q), ap (λ (k : ℕ). f (start_of fs k)) (head_new i new))
        go (suc m) q true r =
            let less : before nos i - 1 ≡ m = omega arith in
            let below : m < length nos = omega (arith, last_most nos (get_or nos i 0) i) in
            let joined : meets fs m i ≡ true = ap (λ (k : ℕ). meets fs k i) (sym less) ∙ sym (reaches_is fs (before nos i) i (omega arith)) ∙ r in
            let point = ap f (same_ends fs c.floats m i (lent m below) (lent i h) joined) in
            let head = ap (λ (k : ℕ). f (start_of fs k)) (head_on i r ∙ ap (head_of nos fs) less) in
            omega (arith, a.some m (sym same ∙ q ∙ sym (add-one m)), point, head)
        go (suc m) q false r =
            let closed = ap f (ended_shut i m h (q ∙ sym (add-one m)) r) in
            omega (arith, a.some m (sym same ∙ q ∙ sym (add-one m)), closed, ap (λ (k : ℕ). f (start_of fs k)) (head_new i r))

    at_next : (i : ℕ) → i < length nos → At i → At (suc i)
    at_next i h a = go (ℕ_discrete (get_or nos i 0) p)
      where
        next : last_of nos p (i + 1) ≡ last_of nos p (suc i)
        next = ap (last_of nos p) (add-one i)

        go : Dec (get_or nos i 0 ≡ p) → At (suc i)
        go (yes e) =
            record {
              none = λ q. absurd (omega (arith, next, last_mine nos p i e));
              some =
                  λ l q.
                  let is : l ≡ i = omega (arith, next, last_mine nos p i e) in
                  omega (
                    arith,
                    sum_mine nos (λ k. f (start_of fs k)) p i e,
                    sum_mine nos (λ k. f (end_of fs k)) p i e,
                    key i h e a,
                    ap (λ (k : ℕ). f (end_of fs k)) is,
                    ap (λ (k : ℕ). f (start_of fs (head_of nos fs k))) is,
                  );
            }
        go (no e) =
            let same : last_of nos p (suc i) ≡ last_of nos p i = sym next ∙ last_other nos p i e in
            record {
              none = λ q. omega (arith, sum_other nos (λ k. f (start_of fs k)) p i e, sum_other nos (λ k. f (end_of fs k)) p i e, a.none (sym same ∙ q));
              some = λ l q. omega (arith, sum_other nos (λ k. f (start_of fs k)) p i e, sum_other nos (λ k. f (end_of fs k)) p i e, a.some l (sym same ∙ q));
            }

    at_all : (i : ℕ) → i ≤ length nos → At i
    at_all zero h = at_none
    at_all (suc i) h = at_next i (omega arith) (at_all i (omega arith))

    -- what the lines of a path have at their starts, and at their ends
    pub as_much : sum_of nos (λ l. f (start_of fs l)) p (length nos) ≡ sum_of nos (λ l. f (end_of fs l)) p (length nos)
    as_much = go (last_of nos p (length nos)) refl (at_all (length nos) (omega arith))
      where
        go : (b : ℕ) → last_of nos p (length nos) ≡ b → At (length nos) → starts (length nos) ≡ ends (length nos)
        go zero q a = a.none q
        go (suc l) q a = omega (arith, a.some l (q ∙ sym (add-one l)), ap f (last_shut p l (q ∙ sym (add-one l))))

  -- as many leave a side as come to it
  pub as_many : (t : Vec2 → Bool) (p : ℕ) → leaving nos fs t p (length nos) ≡ coming nos fs t p (length nos)
  as_many t p =
      omega (
        arith,
        as_much (λ v. one_if (t v)) p,
        sum_adds nos (λ l. one_if (t (start_of fs l) && not (t (end_of fs l)))) (λ l. one_if (t (start_of fs l) && t (end_of fs l))) (λ l. one_if (t (start_of fs l))) p
            (λ l. one_left (t (start_of fs l)) (t (end_of fs l))) (length nos),
        sum_adds nos (λ l. one_if (not (t (start_of fs l)) && t (end_of fs l))) (λ l. one_if (t (start_of fs l) && t (end_of fs l))) (λ l. one_if (t (end_of fs l))) p
            (λ l. one_come (t (start_of fs l)) (t (end_of fs l))) (length nos),
      )

  -- of every height: as many lines go down past it as up
  pub as_many_down : (h : Float) (p : ℕ) → leaving nos fs (at_or_above h) p (length nos) ≡ coming nos fs (at_or_above h) p (length nos)
  as_many_down h p = as_many (at_or_above h) p
