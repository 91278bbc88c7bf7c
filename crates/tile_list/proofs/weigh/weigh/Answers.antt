-- `tile_list::weigh::weigh` meets its contract. The loop's invariant: what the paths left put there, weighed from here, comes to the same as all
-- of it. Assumes nothing.
use mathlib.Core.Path.{◌≡◌, sym, ap, ◌∙◌}
use mathlib.Core.List.{List}
use Prim.Native.Nat.{◌+◌, ◌%◌, ◌/◌}
use native.Mathlib.Omega.{arith}
use lib.ListN.{drop, get_or}
use Rattle.pairs.specs.Pairs.{on_path, put_list}
use Rattle.pairs.specs.Lent.{tables_of}
use Rattle.tile_list.specs.Weight.{weigh_all}
use Rattle.pairs.specs.declared.Pair.{Pair}
use Rattle.tile_list.proofs.WeighLaws.{put_light, weigh_next}
use Rattle.near.proofs.NearLaws.{list_turn}
use Rattle.tile_list.proofs.weigh.weigh.Goals.{in-Some, in_default}
use Rattle.tile_list.proofs.weigh.weigh.Goals as goal

pub loop-p-preserved : goal.loop-p-preserved
loop-p-preserved c =
    let a = c.args in
    let s = tables_of a.lent.now in
    let l = c.loop-p in
    let put = c.on_path.result in
    let x = a.t % a.cols in
    let y = a.t / a.cols in
    let p = get_or a.near.now l.p-index 0 in
    let here : c.match-on_path.w ≡ weigh_all a.room (on_path s x y p) l.w =
    elim c.match-on_path.branch [
      | in-Some w ↦ w.w-is ∙ w.weigh_pair-w.ensures ∙ ap (λ (hs : List Pair). weigh_all a.room hs l.w) w.in-Some.ensures
      | in_default w ↦ w.w-is ∙ ap (λ (hs : List Pair). weigh_all a.room hs l.w) w.in_default.ensures
    ] in
    let is : c.match-on_path.w ≡ weigh_all a.room (put_list put) l.w = here ∙ ap (λ (hs : List Pair). weigh_all a.room hs l.w) (sym c.on_path.ensures) in (
      rw is (put_light a.room l.p-index put l.w l.invariant.0),
      weigh_next s x y p (drop (l.p-index + 1) a.near.now) (drop l.p-index a.near.now) a.room (put_list put) l.w c.match-on_path.w
          (list_turn a.near.now l.p-index (omega arith)) c.on_path.ensures is ∙ l.invariant.1,
    )
