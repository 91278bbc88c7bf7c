-- One answer only: what meets the promise of the picture's writer or reader, or of an exported call, is fixed by it, answer and contents alike. The stages'
-- own calls have theirs in `theorems` and `list_theorems`. Assumes nothing.
use mathlib.Core.Path.{◌≡◌, sym, ap, ◌∙◌}
use mathlib.Core.List.{List}
use Prim.Native.Nat.{ℕ}
use lib.IntN.{ℤ}
use lib.Ieee.{Float}
use Rattle.panel.specs.Pieces.{Pieces}
use Rattle.looks.specs.Look.{Lent}
use Rattle.pairs.specs.Pairs.{Tables}
use Rattle.ppm_write.specs.Write.{Left, WriteMet}
use Rattle.ppm_write.specs.Written.{Written}
use Rattle.ppm_write.proofs.Answers as Wrote
use Rattle.ppm_read.specs.Read.{ReadMet}
use Rattle.ppm_read.specs.Answer.{Answer}
use Rattle.ppm_read.proofs.Answers as Read
use Rattle.groatpocket.specs.Seen.{Seen, seen, SeenAt, seen_at}
use Rattle.groatpocket.specs.Calls.{CountSeen, GpFillMet, GpBackdropMet, GpHandMet, GpTileMet, GpFineMet, GpFineRowsMet, GpCountMet}
use Rattle.groatpocket.specs.CallFrame.{FrameSeen, GpFrameMet}
use Rattle.groatpocket.specs.CallDraw.{DrawSeen, GpDrawMet}
use Rattle.groatpocket.specs.CallLists.{GpListsMet}
use Rattle.groatpocket.specs.CallPixel.{GpPixelAreaMet, GpPixelMet}
use Rattle.groatpocket.specs.CallRecount.{RecountSeen, GpRecountMet}
use Rattle.groatpocket.specs.CallPpm.{ReadSeen, GpWriteMet, GpReadMet}
use Rattle.groatpocket.specs.CallSvg.{SvgSeen, GpSvgMet}

-- ---- the picture's writer and reader, whole

pub one_write : (pixels : List ℕ) (w h : ℕ) (out : List ℕ) (a b : Written) (out₁ out₂ : List ℕ) → WriteMet pixels w h out a out₁ → WriteMet pixels w h out b out₂
    → (a ≡ b) × (out₁ ≡ out₂)
one_write pixels w h out a b out₁ out₂ p q =
    let e = p ∙ sym q in
    (Wrote.one_answer a b (ap (λ (l : Left). l.answer) e), ap (λ (l : Left). l.bytes) e)

pub one_read : (file out : List ℕ) (a b : Answer) (out₁ out₂ : List ℕ) → ReadMet file out a out₁ → ReadMet file out b out₂ → (a ≡ b) × (out₁ ≡ out₂)
one_read file out a b out₁ out₂ p q =
    let e = p ∙ sym q in
    (Read.one_answer a b (ap (λ (l : Left). l.answer) e), ap (λ (l : Left). l.bytes) e)

-- ---- the exported calls: two things seen that are one are alike in each part

same_seen : {L : Type 0} (r s : ℕ) (l m : L) (o : Seen L) → seen r l ≡ o → seen s m ≡ o → (r ≡ s) × (l ≡ m)
same_seen {L} r s l m o p q = let e : seen r l ≡ seen s m = p ∙ sym q in (ap (λ (x : Seen L). x.number) e, ap (λ (x : Seen L). x.lent) e)

same_seen_at : {L : Type 0} (r s i j : ℕ) (l m : L) (o : SeenAt L) → seen_at r i l ≡ o → seen_at s j m ≡ o → (r ≡ s) × (i ≡ j) × (l ≡ m)
same_seen_at {L} r s i j l m o p q =
    let e : seen_at r i l ≡ seen_at s j m = p ∙ sym q in
    (ap (λ (x : SeenAt L). x.number) e, ap (λ (x : SeenAt L). x.at) e, ap (λ (x : SeenAt L). x.lent) e)

pub one_gp_fill : (segs : List Float) (first n flag : ℕ) (backdrop : ℤ) (x y : Float) (area : List Float) (r s : ℕ) (area₁ area₂ : List Float)
    → GpFillMet segs first n flag backdrop x y area r area₁ → GpFillMet segs first n flag backdrop x y area s area₂ → (r ≡ s) × (area₁ ≡ area₂)
one_gp_fill segs first n flag backdrop x y area r s area₁ area₂ p q = same_seen r s area₁ area₂ _ p q

pub one_gp_backdrop : (paths : List ℕ) (bs : List ℤ) (r s i j : ℕ) (bs₁ bs₂ : List ℤ) → GpBackdropMet paths bs r i bs₁ → GpBackdropMet paths bs s j bs₂
    → (r ≡ s) × (i ≡ j) × (bs₁ ≡ bs₂)
one_gp_backdrop paths bs r s i j bs₁ bs₂ p q = same_seen_at r s i j bs₁ bs₂ _ p q

pub one_gp_hand : (room : ℕ) (ns kept : List ℕ) (r s : ℕ) (ns₁ ns₂ kept₁ kept₂ : List ℕ) → GpHandMet room ns kept r ns₁ kept₁ → GpHandMet room ns kept s ns₂ kept₂
    → (r ≡ s) × (ns₁ ≡ ns₂) × (kept₁ ≡ kept₂)
one_gp_hand room ns kept r s ns₁ ns₂ kept₁ kept₂ p q =
    let e = p ∙ sym q in
    (ap (λ (x : Seen (List ℕ × List ℕ)). x.number) e, ap (λ (x : Seen (List ℕ × List ℕ)). x.lent.0) e, ap (λ (x : Seen (List ℕ × List ℕ)). x.lent.1) e)

pub one_gp_tile : (from to : ℕ) (L : Lent) (lent : Pieces) (r s i j : ℕ) (p₁ p₂ : Pieces) → GpTileMet from to L lent r i p₁ → GpTileMet from to L lent s j p₂
    → (r ≡ s) × (i ≡ j) × (p₁ ≡ p₂)
one_gp_tile from to L lent r s i j p₁ p₂ p q = same_seen_at r s i j p₁ p₂ _ p q

pub one_gp_fine : (words : List ℕ) (segs : List Float) (width cols rows from to : ℕ) (pixels : List ℕ) (r s i j : ℕ) (pixels₁ pixels₂ : List ℕ)
    → GpFineMet words segs width cols rows from to pixels r i pixels₁ → GpFineMet words segs width cols rows from to pixels s j pixels₂
    → (r ≡ s) × (i ≡ j) × (pixels₁ ≡ pixels₂)
one_gp_fine words segs width cols rows from to pixels r s i j pixels₁ pixels₂ p q = same_seen_at r s i j pixels₁ pixels₂ _ p q

pub one_gp_fine_rows : (words : List ℕ) (segs : List Float) (width cols rows first end : ℕ) (pixels : List ℕ) (r s i j : ℕ) (pixels₁ pixels₂ : List ℕ)
    → GpFineRowsMet words segs width cols rows first end pixels r i pixels₁ → GpFineRowsMet words segs width cols rows first end pixels s j pixels₂
    → (r ≡ s) × (i ≡ j) × (pixels₁ ≡ pixels₂)
one_gp_fine_rows words segs width cols rows first end pixels r s i j pixels₁ pixels₂ p q = same_seen_at r s i j pixels₁ pixels₂ _ p q

pub one_gp_count : (l m end : ℕ) (nos : List ℕ) (coords : List Float) (paths : List ℕ) (bs : List ℤ) (cs rs : List ℕ) (r s i j l₁ l₂ m₁ m₂ : ℕ) (bs₁ bs₂ : List ℤ) (cs₁ cs₂ rs₁ rs₂ : List ℕ)
    → GpCountMet l m end nos coords paths bs cs rs r i l₁ m₁ bs₁ cs₁ rs₁ → GpCountMet l m end nos coords paths bs cs rs s j l₂ m₂ bs₂ cs₂ rs₂
    → (r ≡ s) × (i ≡ j) × (l₁ ≡ l₂) × (m₁ ≡ m₂) × (bs₁ ≡ bs₂) × (cs₁ ≡ cs₂) × (rs₁ ≡ rs₂)
one_gp_count l m end nos coords paths bs cs rs r s i j l₁ l₂ m₁ m₂ bs₁ bs₂ cs₁ cs₂ rs₁ rs₂ p q =
    let e = p ∙ sym q in (
      ap (λ (x : CountSeen). x.number) e,
      ap (λ (x : CountSeen). x.at) e,
      ap (λ (x : CountSeen). x.lines) e,
      ap (λ (x : CountSeen). x.made) e,
      ap (λ (x : CountSeen). x.backs) e,
      ap (λ (x : CountSeen). x.counts) e,
      ap (λ (x : CountSeen). x.refs) e,
    )

pub one_gp_recount : (p : ℕ) (line_nos nos : List ℕ) (coords : List Float) (paths : List ℕ) (bs : List ℤ) (cs rs : List ℕ) (kb : List ℤ) (kc : List ℕ) (r s i j m₁ m₂ : ℕ)
    (bs₁ bs₂ : List ℤ) (cs₁ cs₂ rs₁ rs₂ : List ℕ) (kb₁ kb₂ : List ℤ) (kc₁ kc₂ : List ℕ)
    → GpRecountMet p line_nos nos coords paths bs cs rs kb kc r i m₁ bs₁ cs₁ rs₁ kb₁ kc₁ → GpRecountMet p line_nos nos coords paths bs cs rs kb kc s j m₂ bs₂ cs₂ rs₂ kb₂ kc₂
    → (r ≡ s) × (i ≡ j) × (m₁ ≡ m₂) × (bs₁ ≡ bs₂) × (cs₁ ≡ cs₂) × (rs₁ ≡ rs₂) × (kb₁ ≡ kb₂) × (kc₁ ≡ kc₂)
one_gp_recount p line_nos nos coords paths bs cs rs kb kc r s i j m₁ m₂ bs₁ bs₂ cs₁ cs₂ rs₁ rs₂ kb₁ kb₂ kc₁ kc₂ d e =
    let q = d ∙ sym e in (
      ap (λ (x : RecountSeen). x.number) q,
      ap (λ (x : RecountSeen). x.at) q,
      ap (λ (x : RecountSeen). x.made) q,
      ap (λ (x : RecountSeen). x.backs) q,
      ap (λ (x : RecountSeen). x.counts) q,
      ap (λ (x : RecountSeen). x.refs) q,
      ap (λ (x : RecountSeen). x.kept_backs) q,
      ap (λ (x : RecountSeen). x.kept_counts) q,
    )

pub one_gp_frame : (nos : List ℕ) (coords : List Float) (paths : List ℕ) (bs : List ℤ) (ts ks rs : List ℕ) (sg : Pieces) (r s at₁ at₂ i j l₁ l₂ m₁ m₂ : ℕ)
    (bs₁ bs₂ : List ℤ) (ts₁ ts₂ ks₁ ks₂ rs₁ rs₂ : List ℕ) (sg₁ sg₂ : Pieces)
    → GpFrameMet nos coords paths bs ts ks rs sg r at₁ i l₁ m₁ bs₁ ts₁ ks₁ rs₁ sg₁ → GpFrameMet nos coords paths bs ts ks rs sg s at₂ j l₂ m₂ bs₂ ts₂ ks₂ rs₂ sg₂
    → (r ≡ s) × (at₁ ≡ at₂) × (i ≡ j) × (l₁ ≡ l₂) × (m₁ ≡ m₂) × (bs₁ ≡ bs₂) × (ts₁ ≡ ts₂) × (ks₁ ≡ ks₂) × (rs₁ ≡ rs₂) × (sg₁ ≡ sg₂)
one_gp_frame nos coords paths bs ts ks rs sg r s at₁ at₂ i j l₁ l₂ m₁ m₂ bs₁ bs₂ ts₁ ts₂ ks₁ ks₂ rs₁ rs₂ sg₁ sg₂ p q =
    let e = p ∙ sym q in (
      ap (λ (x : FrameSeen). x.told.number) e,
      ap (λ (x : FrameSeen). x.told.stage) e,
      ap (λ (x : FrameSeen). x.told.item) e,
      ap (λ (x : FrameSeen). x.told.lines) e,
      ap (λ (x : FrameSeen). x.told.made) e,
      ap (λ (x : FrameSeen). x.backs) e,
      ap (λ (x : FrameSeen). x.stored) e,
      ap (λ (x : FrameSeen). x.tally) e,
      ap (λ (x : FrameSeen). x.refs) e,
      ap (λ (x : FrameSeen). x.pieces) e,
    )

pub one_gp_draw : (nos : List ℕ) (coords : List Float) (paths paints : List ℕ) (bs : List ℤ) (ts ks rs : List ℕ) (sg : Pieces) (width cols rows : ℕ) (ws px : List ℕ)
    (r s at₁ at₂ i j l₁ l₂ m₁ m₂ : ℕ) (bs₁ bs₂ : List ℤ) (ts₁ ts₂ ks₁ ks₂ rs₁ rs₂ : List ℕ) (sg₁ sg₂ : Pieces) (ws₁ ws₂ px₁ px₂ : List ℕ)
    → GpDrawMet nos coords paths paints bs ts ks rs sg width cols rows ws px r at₁ i l₁ m₁ bs₁ ts₁ ks₁ rs₁ sg₁ ws₁ px₁
    → GpDrawMet nos coords paths paints bs ts ks rs sg width cols rows ws px s at₂ j l₂ m₂ bs₂ ts₂ ks₂ rs₂ sg₂ ws₂ px₂
    → (r ≡ s) × (at₁ ≡ at₂) × (i ≡ j) × (l₁ ≡ l₂) × (m₁ ≡ m₂) × (bs₁ ≡ bs₂) × (ts₁ ≡ ts₂) × (ks₁ ≡ ks₂) × (rs₁ ≡ rs₂) × (sg₁ ≡ sg₂) × (ws₁ ≡ ws₂) × (px₁ ≡ px₂)
one_gp_draw nos coords paths paints bs ts ks rs sg width cols rows ws px r s at₁ at₂ i j l₁ l₂ m₁ m₂ bs₁ bs₂ ts₁ ts₂ ks₁ ks₂ rs₁ rs₂ sg₁ sg₂ ws₁ ws₂ px₁ px₂ p q =
    let e = p ∙ sym q in (
      ap (λ (x : DrawSeen). x.told.number) e,
      ap (λ (x : DrawSeen). x.told.stage) e,
      ap (λ (x : DrawSeen). x.told.item) e,
      ap (λ (x : DrawSeen). x.told.lines) e,
      ap (λ (x : DrawSeen). x.told.made) e,
      ap (λ (x : DrawSeen). x.backs) e,
      ap (λ (x : DrawSeen). x.stored) e,
      ap (λ (x : DrawSeen). x.tally) e,
      ap (λ (x : DrawSeen). x.refs) e,
      ap (λ (x : DrawSeen). x.pieces) e,
      ap (λ (x : DrawSeen). x.words) e,
      ap (λ (x : DrawSeen). x.pixels) e,
    )

pub one_gp_lists : (t : Tables) (cols rows room : ℕ) (ws : List ℕ) (r s i j : ℕ) (ws₁ ws₂ : List ℕ) → GpListsMet t cols rows room ws r i ws₁ → GpListsMet t cols rows room ws s j ws₂
    → (r ≡ s) × (i ≡ j) × (ws₁ ≡ ws₂)
one_gp_lists t cols rows room ws r s i j ws₁ ws₂ p q = same_seen_at r s i j ws₁ ws₂ _ p q

pub one_gp_write : (pixels : List ℕ) (w h : ℕ) (out : List ℕ) (r s i j : ℕ) (out₁ out₂ : List ℕ) → GpWriteMet pixels w h out r i out₁ → GpWriteMet pixels w h out s j out₂
    → (r ≡ s) × (i ≡ j) × (out₁ ≡ out₂)
one_gp_write pixels w h out r s i j out₁ out₂ p q = same_seen_at r s i j out₁ out₂ _ p q

pub one_gp_read : (file out : List ℕ) (r s w₁ w₂ h₁ h₂ : ℕ) (out₁ out₂ : List ℕ) → GpReadMet file out r w₁ h₁ out₁ → GpReadMet file out s w₂ h₂ out₂
    → (r ≡ s) × (w₁ ≡ w₂) × (h₁ ≡ h₂) × (out₁ ≡ out₂)
one_gp_read file out r s w₁ w₂ h₁ h₂ out₁ out₂ p q =
    let e = p ∙ sym q in (ap (λ (x : ReadSeen). x.number) e, ap (λ (x : ReadSeen). x.width) e, ap (λ (x : ReadSeen). x.height) e, ap (λ (x : ReadSeen). x.bytes) e)

pub one_gp_pixel_area : (segs : List Float) (first n flag : ℕ) (backdrop : ℤ) (x y : Float) (column row : ℕ) (old : Float) (r s : ℕ) (a b : Float)
    → GpPixelAreaMet segs first n flag backdrop x y column row old r a → GpPixelAreaMet segs first n flag backdrop x y column row old s b → (r ≡ s) × (a ≡ b)
one_gp_pixel_area segs first n flag backdrop x y column row old r s a b p q = same_seen r s a b _ p q

pub one_gp_pixel : (ws : List ℕ) (segs : List Float) (t column row old r s px qx : ℕ)
    → GpPixelMet ws segs t column row old r px → GpPixelMet ws segs t column row old s qx → (r ≡ s) × (px ≡ qx)
one_gp_pixel ws segs t column row old r s px qx p q = same_seen r s px qx _ p q

pub one_gp_svg : (text : List ℕ) (d path : ℕ) (ps : List ℕ) (cs : List Float) (r s l₁ l₂ at₁ at₂ : ℕ) (ps₁ ps₂ : List ℕ) (cs₁ cs₂ : List Float)
    → GpSvgMet text d path ps cs r l₁ at₁ ps₁ cs₁ → GpSvgMet text d path ps cs s l₂ at₂ ps₂ cs₂
    → (r ≡ s) × (l₁ ≡ l₂) × (at₁ ≡ at₂) × (ps₁ ≡ ps₂) × (cs₁ ≡ cs₂)
one_gp_svg text d path ps cs r s l₁ l₂ at₁ at₂ ps₁ ps₂ cs₁ cs₂ p q =
    let e = p ∙ sym q in (
      ap (λ (x : SvgSeen). x.number) e,
      ap (λ (x : SvgSeen). x.lines) e,
      ap (λ (x : SvgSeen). x.place) e,
      ap (λ (x : SvgSeen). x.paths) e,
      ap (λ (x : SvgSeen). x.coords) e,
    )
