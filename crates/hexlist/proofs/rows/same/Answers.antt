-- `hexlist::rows::same` meets its contract: what is left, from element i on, says what the whole says. Assumes nothing.
use mathlib.Core.Path.{◌≡◌, sym, ap, ◌∙◌}
use mathlib.Core.Bool.{Bool}
use Prim.Native.Nat.{ℕ}
use Rattle.hexlist.specs.Rows.{word_of}
use Rattle.hexlist.proofs.Loops.{row_more, row_less, row_done}
use Rattle.hexlist.proofs.rows.same.Goals as goal

-- what the test told of the element and its word
told : {A : Type 0} (is : A → ℕ → Bool) (x y : A) (r t : Bool) (v w : ℕ) → r ≡ is x v → x ≡ y → v ≡ w → r ≡ t → is y w ≡ t
told is x y r t v w e k h g = sym (e ∙ ap (λ z. is z v) k ∙ ap (is y) h) ∙ g

pub returns-then-not-is_word : goal.returns-then-not-is_word
returns-then-not-is_word g c =
    let a = c.args in
    let l = c.loop-i in
    let x = c.index-found-i in
    row_less g.T.Element.is_value (word_of a.words.now a.base a.code) x.result a.found.now l.i c.loop-i-test.true
    (told g.T.Element.is_value x.result _ _ _ _ _ c.is_word.ensures x.is c.element.ensures c.if-not-is_word.true) ∙ l.invariant

pub loop-i-preserved : goal.loop-i-preserved
loop-i-preserved g c =
    let a = c.args in
    let l = c.loop-i in
    let x = c.index-found-i in
    row_more g.T.Element.is_value (word_of a.words.now a.base a.code) x.result a.found.now l.i c.loop-i-test.true
    (told g.T.Element.is_value x.result _ _ _ _ _ c.is_word.ensures x.is c.element.ensures c.if-not-is_word.false) ∙ l.invariant

pub returns : goal.returns
returns g c =
    let a = c.args in
    let l = c.loop-i in
    row_done g.T.Element.is_value (word_of a.words.now a.base a.code) a.found.now l.i c.loop-i-test.false l.auto.i-end ∙ l.invariant
