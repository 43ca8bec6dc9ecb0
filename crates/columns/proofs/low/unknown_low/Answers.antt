-- `unknown_low` meets its contract: the columns below c are those of the operands' lowest c bits. Assumes nothing.
use Rattle.columns.proofs.LowBits.{low-settled}
use Rattle.columns.proofs.low.unknown_low.Goals as goal

pub returns : goal.returns
returns c i e = let a = c.args in low-settled i a.ma a.va a.mb a.vb a.low c.by_every_choice.result e c.by_every_choice.ensures
