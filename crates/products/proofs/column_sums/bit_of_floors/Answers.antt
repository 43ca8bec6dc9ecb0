-- `bit_of_floors` meets its contract: two i64 are equal where their bits are, and the lowest bit is the number modulo 2. Assumes nothing.
use mathlib.Core.Path.{sym, ap, ◌∙◌}
use mathlib.Core.Bool.{Bool, cond}
use mir.Val.{of_z}
use mir.Syntax.{w64}
use borrow.Author.Tests.{eq-eqb, ne_eqb}
use Rattle.vectors.specs.declared.OutputBit.TheVariants.{Zero, One}
use Rattle.products.specs.ColumnSum.{mod_two}
use Rattle.products.proofs.Floors.{same-floors, other-floors}
use Rattle.products.proofs.Held.{same_bits, lowest-bit}
use Rattle.products.proofs.column_sums.bit_of_floors.Goals as goal

pub returns-then-low-high : goal.returns-then-low-high
returns-then-low-high c = sym (other-floors c.args.low c.args.high (λ e. c.if-low-high.true (ap (of_z w64) e)))

pub returns-then-low-eq1 : goal.returns-then-low-eq1
returns-then-low-eq1 c =
    sym (same-floors c.args.low c.args.high (same_bits c.ranges.low c.ranges.high c.if-low-high.false)
    ∙ ap (λ (t : Bool). cond t One Zero) (eq-eqb (mod_two c.args.low) 1 (sym (lowest-bit c.args.low c.ranges.low) ∙ c.if-low-eq1.true)))

pub returns : goal.returns
returns c =
    sym (same-floors c.args.low c.args.high (same_bits c.ranges.low c.ranges.high c.if-low-high.false)
    ∙ ap (λ (t : Bool). cond t One Zero) (ne_eqb (mod_two c.args.low) 1 (λ e. c.if-low-eq1.false (lowest-bit c.args.low c.ranges.low ∙ e))))
