-- `pairs::on_path` meets its contract. Assumes nothing.
use mathlib.Core.Path.{◌≡◌, sym, ap, ◌∙◌}
use mathlib.Core.Bool.{true}
use Prim.Native.Nat.{ℕ, ◌<◌}
use native.Mathlib.Omega.{arith}
use lib.ListN.{length}
use Rattle.panel.specs.Paths.{path_at, tile_of}
use Rattle.panel.specs.declared.kinds.Path.{Path}
use Rattle.pairs.specs.Pairs.{in_box, by_path}
use Rattle.pairs.specs.Lent.{tables_of}
use Rattle.pairs.proofs.PairLaws.{path_outside, path_inside, paint_there, tiles_few, tile_there}
use Rattle.pairs.proofs.on_path.Goals as goal

pub returns-then-not-in_box : goal.returns-then-not-in_box
returns-then-not-in_box c =
    let a = c.args in
    let s = tables_of a.lent.now in
    let at : c.path_at-b.result ≡ path_at s.paths a.p = c.path_at-b.ensures in
    path_outside s a.x a.y a.p (ap (λ (b : Path). in_box b a.x a.y) (sym at) ∙ sym c.in_box.ensures ∙ c.if-not-in_box.true)

pub tile_in-t-requires : goal.tile_in-t-requires
tile_in-t-requires c =
    let a = c.args in
    let s = tables_of a.lent.now in
    let at : c.path_at-b.result ≡ path_at s.paths a.p = c.path_at-b.ensures in (
      sym c.in_box.ensures ∙ c.if-not-in_box.false,
      rw at
          (tiles_few s c.requires.0 a.p
          c.requires.1),
    )

pub by_path-requires : goal.by_path-requires
by_path-requires c =
    let a = c.args in
    let s = tables_of a.lent.now in
    let at : c.path_at-b.result ≡ path_at s.paths a.p = c.path_at-b.ensures in
    let inside : in_box (path_at s.paths a.p) a.x a.y ≡ true = ap (λ (b : Path). in_box b a.x a.y) (sym at) ∙ sym
    c.in_box.ensures ∙ c.if-not-in_box.false in
    let e : c.tile_in-t.result ≡ tile_of (path_at s.paths a.p) a.x a.y = c.tile_in-t.ensures ∙ ap (λ (b : Path). tile_of b a.x a.y) at in
    let h : tile_of (path_at s.paths a.p) a.x a.y < length s.backdrops = tile_there s
    c.requires.0 a.p
    c.requires.1 a.x a.y inside in
    let r = c.requires.0 in
    (paint_there s r a.p c.requires.1, omega (arith, e, h), omega (arith, e, h, r.stored), omega (arith, e, h, r.tally))

pub returns : goal.returns
returns c =
    let a = c.args in
    let s = tables_of a.lent.now in
    let at : c.path_at-b.result ≡ path_at s.paths a.p = c.path_at-b.ensures in
    let inside : in_box (path_at s.paths a.p) a.x a.y ≡ true = ap (λ (b : Path). in_box b a.x a.y) (sym at) ∙ sym
    c.in_box.ensures ∙ c.if-not-in_box.false in
    let e : c.tile_in-t.result ≡ tile_of (path_at s.paths a.p) a.x a.y = c.tile_in-t.ensures ∙ ap (λ (b : Path). tile_of b a.x a.y) at in
    c.by_path.ensures ∙ ap (λ (t : ℕ). by_path s a.p t) e ∙ path_inside s a.x a.y a.p inside
