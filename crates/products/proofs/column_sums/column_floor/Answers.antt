-- `column_floor` meets its contract: the shift of an i64 rounds down. Assumes nothing.
use mathlib.Core.Path.{ap, ◌∙◌}
use Prim.Native.Nat.{◌^◌}
use lib.IntN.{ℤ}
use lib.Signed.{shr_z, mag_shr}
use mir.Val.{to_z, of_z, SFits}
use mir.ValLaws.{sfits_le}
use mir.Facts.{to_z-of_z}
use mir.Syntax.{w64}
use Rattle.products.specs.ColumnSum.{column_floor}
use Rattle.products.proofs.column_sums.column_floor.Goals as goal

pub returns : goal.returns
unfolding column_floor
returns c =
    let k = c.args.k in
    let z = c.column_sum.result in
    let f : SFits w64 z = record { sfits = c.column_sum.type_inv } in
    ap (λ (y : ℤ). to_z w64 (of_z w64 (shr_z y (2 ^ k)))) (to_z-of_z f)
    ∙ to_z-of_z (sfits_le (mag_shr z (2 ^ k)) f)
    ∙ ap (λ (y : ℤ). shr_z y (2 ^ k)) c.column_sum.ensures
