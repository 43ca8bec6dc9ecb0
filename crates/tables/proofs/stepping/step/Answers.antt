-- `tables::stepping::step` meets its contract: a record without cells, a load, or a store. Assumes nothing.
use mathlib.Core.Path.{refl, ◌≡◌, sym, ap, subst, ◌∙◌}
use mathlib.Core.List.{List}
use Prim.Native.Nat.{ℕ}
use lib.Dec.{T}
use Rattle.operations.specs.Record.{Effect}
use Rattle.operations.proofs.Sound.{load-or-store}
use Rattle.steps.specs.Step as Step
use Rattle.steps.specs.States.{held}
use Rattle.memories.specs.Effects.{SpanFits}
use Rattle.memories.proofs.Described.{load-described, store-described, load-span, store-span}
use Rattle.tables.proofs.stepping.step.Goals as goal

-- under the code's names for the rows and the count
as-named : (widths : List ℕ) {a x like y base k n m : ℕ} → a ≡ x → like ≡ y → base ≡ k → n ≡ m → SpanFits widths x y k m → SpanFits widths a like base n
as-named widths e f g h = subst (λ (F : Type 0). F) (λ ι. SpanFits widths (sym e ι) (sym f ι) (sym g ι) (sym h ι))

pub load_to-requires : goal.load_to-requires
load_to-requires c =
    let widths = c.args.width.now in (
      c.requires.fits,
      as-named widths refl refl refl refl (load-span widths c.args.r c.if-r-eq-LOAD.true c.requires.passed),
    )

pub returns-then-r-eq-LOAD : goal.returns-then-r-eq-LOAD
returns-then-r-eq-LOAD c =
    let widths = c.args.width.now in
    let rows = held c.args.mask.now c.args.value.now in
    c.load_to.ensures
    ∙ ap (λ (es : List Effect). Step.step widths es rows) (sym (load-described widths c.args.r c.if-r-eq-LOAD.true))

pub store-requires : goal.store-requires
store-requires c =
    let widths = c.args.width.now in (
      c.requires.fits,
      as-named widths refl refl refl refl (store-span widths c.args.r (load-or-store c.args.r.kind c.requires.passed.kind_known (subst T (sym (sym c.has_cells.ensures ∙ c.if-not-has_cells.false)) tt) c.if-r-eq-LOAD.false) c.requires.passed),
    )

pub returns : goal.returns
returns c =
    let widths = c.args.width.now in
    let rows = held c.args.mask.now c.args.value.now in
    c.store.ensures
    ∙ ap (λ (es : List Effect). Step.step widths es rows) (sym (store-described widths c.args.r (load-or-store c.args.r.kind c.requires.passed.kind_known (subst T (sym (sym c.has_cells.ensures ∙ c.if-not-has_cells.false)) tt) c.if-r-eq-LOAD.false)))
