-- `clocks::settle_in` meets its contract: the start rows are the first of the room. Assumes nothing.
use mathlib.Core.Path.{sym}
use lib.Seq.{length-take-le}
use Rattle.clocks.proofs.settle_in.Goals as goal

pub slice_bounds-settle_rounds-end-2 : goal.slice_bounds-settle_rounds-end-2
slice_bounds-settle_rounds-end-2 c = sym (length-take-le _ _ c.requires.1.masks)

pub slice_bounds-settle_rounds-end-4 : goal.slice_bounds-settle_rounds-end-4
slice_bounds-settle_rounds-end-4 c = sym (length-take-le _ _ c.requires.1.values)

pub settle_rounds-requires : goal.settle_rounds-requires
settle_rounds-requires c =
    (c.requires.0, record { masks_length = length-take-le _ _ c.requires.1.masks; values_length = length-take-le _ _ c.requires.1.values })
