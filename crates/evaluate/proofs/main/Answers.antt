-- `evaluate::main` is safe and ends, and lends buffers with the room that `evaluate_input` asks for: what is printed lies within the buffer. Assumes nothing.
use Rattle.std.proofs.Common.{sym, rules}
use lib.Seq.{length-take-le}
use Rattle.evaluation.proofs.Inputs.{input-within}
use Rattle.evaluate.proofs.main.Goals as goal

pub slice_bounds-out-end : goal.slice_bounds-out-end
slice_bounds-out-end c = input-within c.evaluate_input-m.ensures (search rules)

pub slice_bounds-write_all-end : goal.slice_bounds-write_all-end
slice_bounds-write_all-end c = sym (length-take-le _ _ (input-within c.evaluate_input-m.ensures (search rules)))
