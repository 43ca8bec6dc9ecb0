-- `cases::compare_pair` is safe and ends: the parts that it compares lie within their buffers. Assumes nothing but what libc and os do.
use Rattle.std.proofs.Common.{sym, rules}
use lib.Seq.{length-take-le}
use Rattle.evaluation.proofs.Inputs.{input-within}
use Rattle.cases.proofs.compare_pair.Goals as goal

pub slice_bounds-out-end : goal.slice_bounds-out-end
slice_bounds-out-end c = input-within c.evaluate_input-m.ensures (search rules)

pub slice_bounds-ne-end : goal.slice_bounds-ne-end
slice_bounds-ne-end c = sym (length-take-le _ _ (input-within c.evaluate_input-m.ensures (search rules)))
