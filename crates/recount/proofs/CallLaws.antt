-- The call, by what its checks find and what its lines come to. Assumes nothing.
use mathlib.Core.Path.{◌≡◌, refl, sym, ap, ◌∙◌}
use mathlib.Core.List.{List}
use Prim.Native.Nat.{ℕ, ◌*◌, ◌/◌, ◌%◌, ◌<◌}
use native.Mathlib.Omega.{arith}
use lib.ListN.{length}
use lib.IntN.{ℤ}
use lib.Ieee.{Float}
use borrow.Author.Tests.{ltb-true, eqb-true}
use Rattle.panel.specs.Widths.{line_floats}
use Rattle.panel.specs.Checks.{first_no, unless}
use Rattle.panel.specs.Paths.{path_at, path_count, paths_answer}
use Rattle.panel.specs.Verdict.{Verdict}
use Rattle.panel.specs.Verdict.{Fine, Against}
use Rattle.panel.specs.Answer.{Answer}
use Rattle.panel.proofs.CheckLaws.{all_ok, unless_no, unless_fine, unless_done}
use Rattle.new_lines.specs.Recounted.{Refused}
use Rattle.kept_range.specs.Kept.{Out, out_of, tiles_in, redrawn_of}
use Rattle.recount.specs.Recount.{lent_checks, range_checks, and_answer, asked_of, recounted_of}

-- ---- the checks

module _ (p : ℕ) (paths : List ℕ) (nl nn nc nb nt nr kb kc : ℕ) where
  module _ (v : Verdict) (ev : v ≡ first_no (lent_checks nl nn nc nb nt nr)) where
    pub asked_lent : (n : ℕ) → v ≡ Against n → Answer.Refused n 0 ≡ asked_of p paths nl nn nc nb nt nr kb kc
    unfolding asked_of
    asked_lent n e = sym (unless_no _ n 0 _ (sym ev ∙ e))

    module _ (f : v ≡ Fine) (a : Answer) (ea : a ≡ paths_answer paths nt) where
      from_paths : asked_of p paths nl nn nc nb nt nr kb kc ≡ and_answer a (unless (first_no (range_checks p paths kb kc)) 0 Answer.Done)
      unfolding asked_of
      from_paths =
          unless_fine _ 0 _ (sym ev ∙ f)
          ∙ ap (λ (x : Answer). and_answer x (unless (first_no (range_checks p paths kb kc)) 0 Answer.Done)) (sym ea)

      pub asked_path : (n item : ℕ) → a ≡ Answer.Refused n item → a ≡ asked_of p paths nl nn nc nb nt nr kb kc
      asked_path n item e =
          e ∙ ap (λ (x : Answer). and_answer x (unless (first_no (range_checks p paths kb kc)) 0 Answer.Done)) (sym e) ∙ sym from_paths

      module _ (g : a ≡ Answer.Done) (w : Verdict) (ew : w ≡ first_no (range_checks p paths kb kc)) where
        from_range : asked_of p paths nl nn nc nb nt nr kb kc ≡ unless w 0 Answer.Done
        from_range =
            from_paths ∙ ap (λ (x : Answer). and_answer x (unless (first_no (range_checks p paths kb kc)) 0 Answer.Done)) g
            ∙ ap (λ (x : Verdict). unless x 0 Answer.Done) (sym ew)

        pub asked_range : (n : ℕ) → w ≡ Against n → Answer.Refused n 0 ≡ asked_of p paths nl nn nc nb nt nr kb kc
        asked_range n e = sym (from_range ∙ ap (λ (x : Verdict). unless x 0 Answer.Done) e)

        pub asked_fine : w ≡ Fine → Answer.Done ≡ asked_of p paths nl nn nc nb nt nr kb kc
        asked_fine e = sym (from_range ∙ ap (λ (x : Verdict). unless x 0 Answer.Done) e)

  -- what they tell where none fails
  pub record Asked : Type 0 where
    pub lined : nl ≡ nn
    pub whole : nn * line_floats ≡ nc
    pub paired : nb ≡ nt
    pub passed : paths_answer paths nt ≡ Answer.Done
    pub there : p < path_count paths
    pub backs : kb ≡ tiles_in (path_at paths p)
    pub counts : kc ≡ tiles_in (path_at paths p)

  and_done : (a b : Answer) → and_answer a b ≡ Answer.Done → (a ≡ Answer.Done) × (b ≡ Answer.Done)
  and_done Answer.Done b e = (refl, e)
  and_done (Answer.Refused n item) b e = let z : ◌≡◌ {A = ℕ} 0 1 = cc in absurd (omega arith)

  pub asked_done : asked_of p paths nl nn nc nb nt nr kb kc ≡ Answer.Done → Asked
  unfolding asked_of
  asked_done e =
      let u = unless_done (first_no (lent_checks nl nn nc nb nt nr)) 0 (and_answer (paths_answer paths nt) (unless (first_no (range_checks p paths kb kc)) 0 Answer.Done)) e in
      let a = and_done (paths_answer paths nt) (unless (first_no (range_checks p paths kb kc)) 0 Answer.Done) u.1 in
      let w = unless_done (first_no (range_checks p paths kb kc)) 0 Answer.Done a.1 in
      let k = all_ok (lent_checks nl nn nc nb nt nr) u.0 in
      let r = all_ok (range_checks p paths kb kc) w.0 in
      let c : nc % line_floats ≡ 0 = eqb-true _ _ k.0 in
      let n : nn ≡ nc / line_floats = eqb-true _ _ k.1.0 in
      let l : nl ≡ nc / line_floats = eqb-true _ _ k.1.1.0 in
      record {
        lined = omega arith;
        whole = omega arith;
        paired = eqb-true _ _ k.1.1.1.0;
        passed = a.0;
        there = ltb-true _ _ r.0;
        backs = eqb-true _ _ r.1.0;
        counts = eqb-true _ _ r.1.1.0;
      }

-- ---- the call

module _ (p : ℕ) (line_nos nos : List ℕ) (coords : List Float) (paths : List ℕ) (bs : List ℤ) (cs rs : List ℕ) (kb : List ℤ) (kc : List ℕ)
    (a : Answer) (ea : a ≡ asked_of p paths (length line_nos) (length nos) (length coords) (length bs) (length cs) (length rs) (length kb) (length kc)) where
  pub recount_no : (n item : ℕ) → a ≡ Answer.Refused n item → out_of (Refused n item 0) bs cs rs kb kc ≡ recounted_of p line_nos nos coords paths bs cs rs kb kc
  unfolding recounted_of
  recount_no n item e = rw (← ea, e)

  pub recount_goes : (o : Out) → a ≡ Answer.Done → o ≡ redrawn_of p line_nos nos coords paths bs cs rs kb kc → o ≡ recounted_of p line_nos nos coords paths bs cs rs kb kc
  unfolding recounted_of
  recount_goes o e q = rw (← ea, e) q
