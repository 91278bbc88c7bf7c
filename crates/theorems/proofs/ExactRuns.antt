-- Refusals are exact: a batch of counting stops before the first line refused. Assumes nothing.
use mathlib.Core.Path.{◌≡◌, refl, sym, ap, ◌∙◌}
use mathlib.Core.Logic.{◌↔◌}
use mathlib.Core.List.{List}
use Prim.Native.Nat.{ℕ, zero, suc, ◌+◌, ◌-◌, ◌<◌}
use native.Mathlib.Omega.{arith}
use lib.Ieee.{Float}
use Rattle.lists.specs.Run.{Step, taken, halted, Ran, done, refused, run, on_step, and_then}
use Rattle.lists.specs.Sums.{from}
use Rattle.acts.specs.Acts.{St}
use Rattle.acts.specs.Line.{Refusal, at_line, batch_of}
use Rattle.acts.proofs.Lines.{batch_append}
use Rattle.walked_lines.specs.Line.{line_step}
use Rattle.path_count.specs.Count.{batch}
use Rattle.theorems.specs.Refusing.{BatchWhy}
use Rattle.theorems.proofs.Exact.{no_clash}

-- ---- a batch

module _ (f : ℕ → St → Step St ℕ) where
  pub record Halted (a n : ℕ) (s u : St) (why : Refusal) : Type 0 where
    pub at : ℕ
    pub inside : at < n
    pub line : why.line ≡ a + at
    pub ran : batch_of f a at s ≡ done u
    pub halts : f (a + at) u ≡ halted why.no

  pub batch_why : (n a : ℕ) (s u : St) (why : Refusal) → batch_of f a n s ≡ refused u why → Halted a n s u why
  unfolding batch_of
  batch_why zero a s u why e = no_clash cc
  batch_why (suc n) a s u why e = go (f a s) refl e (batch_why n (suc a))
    where
      go : (o : Step St ℕ) → f a s ≡ o → on_step (at_line a o) s (run (λ l t. at_line l (f l t)) (from (suc a) n)) ≡ refused u why
          → ((s u : St) (why : Refusal) → batch_of f (suc a) n s ≡ refused u why → Halted (suc a) n s u why) → Halted a (suc n) s u why
      go (taken t) q d ih =
          let r = ih t u why d in
          let z : suc a + r.at ≡ a + suc r.at = omega arith in
          record {
            at = suc r.at;
            inside = omega (arith, r.inside);
            line = r.line ∙ z;
            ran = ap (λ (o : Step St ℕ). on_step (at_line a o) s (run (λ l t. at_line l (f l t)) (from (suc a) r.at))) q ∙ r.ran;
            halts = rw z at r.halts;
          }
      go (halted m) q d ih =
          let z : a + 0 ≡ a = omega arith in
          let p : s ≡ u = cc in
          let w : record { no = m; line = a } ≡ why = cc in
          record {
            at = 0;
            inside = omega arith;
            line = sym (ap (λ (x : Refusal). x.line) w) ∙ sym z;
            ran = ap done p;
            halts = rw (z, ← p) (q ∙ ap (λ (x : Refusal). halted x.no) w);
          }

  one_halts : (m a : ℕ) (u : St) (k : ℕ) → f a u ≡ halted k → batch_of f a (suc m) u ≡ refused u (record { no = k; line = a })
  unfolding batch_of
  one_halts m a u k e = ap (λ (o : Step St ℕ). on_step (at_line a o) u (run (λ l t. at_line l (f l t)) (from (suc a) m))) e

  pub batch_halts : (n a j : ℕ) (s u : St) (k : ℕ) → j < n → batch_of f a j s ≡ done u → f (a + j) u ≡ halted k → batch_of f a n s ≡ refused u (record { no = k; line = a + j })
  batch_halts n a j s u k h e g =
      let z : n ≡ j + suc (n - suc j) = omega arith in
      ap (λ (i : ℕ). batch_of f a i s) z
      ∙ batch_append f a j (suc (n - suc j)) s
      ∙ ap (λ (o : Ran St Refusal). and_then o (batch_of f (a + j) (suc (n - suc j)))) e
      ∙ one_halts (n - suc j) (a + j) u k g

module _ (nos : List ℕ) (coords : List Float) (paths : List ℕ) (room a b : ℕ) (s u : St) (why : Refusal) where
  -- a batch is refused, before line why.line and with why.no, where that is the first line refused, and nowhere else
  pub batch_exact : (batch nos coords paths room a b s ≡ refused u why) ↔ BatchWhy nos coords paths room a b s u why
  batch_exact = (told, back)
    where
      f : ℕ → St → Step St ℕ
      f l t = line_step nos coords paths room l l t

      told : batch nos coords paths room a b s ≡ refused u why → BatchWhy nos coords paths room a b s u why
      told e =
          let r = batch_why f (b - a) a s u why e in
          let z : a + r.at ≡ why.line = sym r.line in
          let y : r.at ≡ why.line - a = omega arith in
          record {
            from_a = omega arith;
            below_b = omega (arith, r.inside);
            ran = rw y at r.ran;
            halts = rw z at r.halts;
          }

      back : BatchWhy nos coords paths room a b s u why → batch nos coords paths room a b s ≡ refused u why
      back r =
          let z : a + (why.line - a) ≡ why.line = omega (arith, r.from_a) in
          let w : record { no = why.no; line = a + (why.line - a) } ≡ why = λ i. record { no = why.no; line = z i } in
          batch_halts f (b - a) a (why.line - a) s u why.no (omega (arith, r.from_a, r.below_b)) r.ran (rw z r.halts)
          ∙ ap (refused u) w
