-- Laws of what code answers, in the words of the definitions. Assumes nothing.
use mathlib.Core.Path.{◌≡◌, refl, sym, ap, ◌∙◌}
use native.Mathlib.Omega.{arith}
use Rattle.std.specs.Prelude.{Result, Ok, Err, ⊤, IsErrAnd, Option, Some, None, ℕ, cond, eqb}
use Rattle.panel.specs.declared.refusals.Refusal.{Refusal}
use Rattle.panel.specs.declared.kinds.Refused as E
use Rattle.panel.specs.Refusals.{no_of}
use Rattle.panel.specs.Kinds.{refused_at}
use Rattle.panel.specs.Verdict.{verdict_told}
use Rattle.panel.specs.Answer.{answer_told, Refused}

-- a refusal that `?` hands on blames no item
pub handed_on : (r : Result ⊤ E.Refused) (why : Refusal) → IsErrAnd r (λ e. e ≡ refused_at why 0) → answer_told r ≡ Refused (no_of why) 0
handed_on (Ok x) why h = absurd h
handed_on (Err e) why h = ap (λ (e : E.Refused). Refused (no_of e.why) e.item) h

-- ---- the number names the refusal, so the words fix what code answers

of_no : ℕ → Option Refusal
of_no n =
    cond (eqb n 1) (Some Refusal.NotWhole)
    (cond (eqb n 2) (Some Refusal.TooMany)
    (cond (eqb n 3) (Some Refusal.BadBox)
    (cond (eqb n 4) (Some Refusal.BadRange)
    (cond (eqb n 5) (Some Refusal.LineNumber)
    (cond (eqb n 6) (Some Refusal.Coordinate)
    (cond (eqb n 7) (Some Refusal.NoSuch)
    (cond (eqb n 8) (Some Refusal.CountOver)
    (cond (eqb n 9) (Some Refusal.NoRoom)
    (cond (eqb n 10) (Some Refusal.Outside)
    (cond (eqb n 11) (Some Refusal.SumOver)
    (cond (eqb n 12) (Some Refusal.Crooked)
    (cond (eqb n 13) (Some Refusal.PastEnd)
    (cond (eqb n 14) (Some Refusal.Unknown)
    (cond (eqb n 15) (Some Refusal.TooLong)
    (cond (eqb n 16) (Some Refusal.BadScreen)
    (cond (eqb n 17) (Some Refusal.BadSize)
    (cond (eqb n 18) (Some Refusal.BadFile)
    (cond (eqb n 19) (Some Refusal.OffTile)
    (cond (eqb n 20) (Some Refusal.BadSegment)
    (cond (eqb n 21) (Some Refusal.BadText)
    (cond (eqb n 22) (Some Refusal.TooDeep)
    (cond (eqb n 23) (Some Refusal.LeftOpen) None))))))))))))))))))))))

of_no-no : (a : Refusal) → of_no (no_of a) ≡ Some a
unfolding of_no
of_no-no Refusal.NotWhole = refl
of_no-no Refusal.TooMany = refl
of_no-no Refusal.BadBox = refl
of_no-no Refusal.BadRange = refl
of_no-no Refusal.LineNumber = refl
of_no-no Refusal.Coordinate = refl
of_no-no Refusal.NoSuch = refl
of_no-no Refusal.CountOver = refl
of_no-no Refusal.NoRoom = refl
of_no-no Refusal.Outside = refl
of_no-no Refusal.SumOver = refl
of_no-no Refusal.Crooked = refl
of_no-no Refusal.PastEnd = refl
of_no-no Refusal.Unknown = refl
of_no-no Refusal.TooLong = refl
of_no-no Refusal.BadScreen = refl
of_no-no Refusal.BadSize = refl
of_no-no Refusal.BadFile = refl
of_no-no Refusal.OffTile = refl
of_no-no Refusal.BadSegment = refl
of_no-no Refusal.BadText = refl
of_no-no Refusal.TooDeep = refl
of_no-no Refusal.LeftOpen = refl

pub no_once : (a b : Refusal) → no_of a ≡ no_of b → a ≡ b
no_once a b e = let s : Some a ≡ Some b = sym (of_no-no a) ∙ ap of_no e ∙ of_no-no b in cc

pub verdict_once : (r s : Result ⊤ Refusal) → verdict_told r ≡ verdict_told s → r ≡ s
verdict_once (Ok x) (Ok y) e = refl
verdict_once (Ok x) (Err b) e = let z : ◌≡◌ {A = ℕ} 0 1 = cc in absurd (omega arith)
verdict_once (Err a) (Ok y) e = let z : ◌≡◌ {A = ℕ} 0 1 = cc in absurd (omega arith)
verdict_once (Err a) (Err b) e = let n : no_of a ≡ no_of b = cc in ap Err (no_once a b n)

pub answer_once : (r s : Result ⊤ E.Refused) → answer_told r ≡ answer_told s → r ≡ s
answer_once (Ok x) (Ok y) e = refl
answer_once (Ok x) (Err b) e = let z : ◌≡◌ {A = ℕ} 0 1 = cc in absurd (omega arith)
answer_once (Err a) (Ok y) e = let z : ◌≡◌ {A = ℕ} 0 1 = cc in absurd (omega arith)
answer_once (Err a) (Err b) e =
    let n : no_of a.why ≡ no_of b.why = cc in
    let i : a.item ≡ b.item = cc in
    ap Err (ap (λ (w : Refusal). refused_at w a.item) (no_once a.why b.why n) ∙ ap (refused_at b.why) i)
