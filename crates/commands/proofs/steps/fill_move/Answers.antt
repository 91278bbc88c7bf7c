-- `commands::steps::fill_move` meets its contract. Assumes nothing.
use mathlib.Core.Path.{◌≡◌, ap, ◌∙◌}
use mathlib.Core.List.{List}
use Prim.Native.Nat.{ℕ, ◌+◌}
use lib.ListN.{get_or}
use lib.Ieee.{Float}
use Rattle.panel.specs.Verdict.{Verdict}
use Rattle.coverage.specs.Ground.{ground_of}
use Rattle.commands.specs.Numbers.{fill_words}
use Rattle.commands.specs.Moves.{count_of, on_ground, fill_move}
use Rattle.commands.specs.declared.steps.Act.TheVariants.{Fill}
use Rattle.std.specs.Prelude.{Result, Ok, Err, IsErrAnd}
use Rattle.panel.specs.declared.refusals.Refusal.{Refusal}
use Rattle.panel.specs.Refusals.{no_of}
use Rattle.commands.specs.declared.steps.Act.{Act}
use Rattle.commands.specs.Move.{Move, Refused, Goes, move_told}
use Rattle.commands.proofs.steps.fill_move.Goals as goal

module _ (ws : List ℕ) (segs : List Float) (at : ℕ) where
  ends : Move
  ends = Goes (Fill (get_or ws (at + 1) 0) (get_or ws (at + 2) 0) (get_or ws (at + 3) 0)) (at + fill_words)

  -- whatever the ground's answer
  by_ground : (v : Verdict) → v ≡ ground_of segs (get_or ws (at + 2) 0) (count_of (get_or ws (at + 1) 0)) → on_ground v ends ≡ fill_move ws segs at
  unfolding fill_move ends
  by_ground v e = ap (λ (x : Verdict). on_ground x ends) e

handed_on : (r : Result (Act × ℕ) Refusal) (why : Refusal) → IsErrAnd r (λ e. e ≡ why) → move_told r ≡ Refused (no_of why)
handed_on (Ok x) why h = absurd h
handed_on (Err e) why h = ap (λ (e : Refusal). Refused (no_of e)) h

pub returns-in_err-ground : goal.returns-in_err-ground
returns-in_err-ground c =
    let a = c.args in
    handed_on _ _ c.from_residual.ensures.1 ∙ by_ground a.words.now a.segments.now a.at _ c.in_err-ground.ensures

pub returns : goal.returns
unfolding ends
returns c =
    let a = c.args in
    by_ground a.words.now a.segments.now a.at _ c.in_ok-ground.ensures
