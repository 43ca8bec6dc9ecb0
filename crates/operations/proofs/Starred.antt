-- The starred examples of 01 hold: computed over the whole table from `best` and the plain numbers. Assumes nothing.
use mathlib.Core.Path.{◌≡◌, refl}
use Rattle.bits.specs.Bit.{bit, number}
use Rattle.bits.specs.Below.{some_below, all_below}
use Rattle.vectors.specs.Choice.{coversb, some_choice}
use Rattle.vectors.specs.Best.{may, best}
use Rattle.operations.specs.Arithmetic.{op_add, op_sub, op_neg, op_mul, op_eq, op_ult, op_slt, op_ite}
use Rattle.operations.specs.Result.{result_of}
use Rattle.operations.specs.Examples.{starred, computed, stated}

pub starred-hold : computed ≡ stated
unfolding computed stated starred result_of best may some_choice coversb some_below all_below number bit op_add op_sub op_neg op_mul op_eq op_ult op_slt op_ite
starred-hold = refl
