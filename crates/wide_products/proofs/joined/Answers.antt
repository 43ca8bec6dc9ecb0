-- `joined` meets its contract. Assumes nothing.
use mathlib.Core.Path.{refl}
use Rattle.wide_products.proofs.joined.Goals as goal

pub returns : goal.returns
returns c w = refl
