-- `lossless_trials::draws::remainder` meets its contract: a remainder by n is below n. Assumes nothing.
use Rattle.std.proofs.Common.{mod-lt}
use Rattle.lossless_trials.proofs.draws.remainder.Goals as goal

pub returns : goal.returns
returns c = mod-lt c.args.x c.requires
