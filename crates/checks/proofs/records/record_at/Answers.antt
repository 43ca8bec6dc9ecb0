-- `checks::records::record_at` meets its contract: the six words from its first on. Assumes nothing.
use mathlib.Core.Path.{sym}
use Prim.Native.Nat.{◌*◌}
use native.Mathlib.Omega.{arith}
use Rattle.operations.specs.Limits.{record_words}
use Rattle.checks.proofs.Naming.{record-words}
use Rattle.checks.proofs.records.record_at.Goals as goal

pub returns : goal.returns
returns c =
    let a = c.args in
    sym (record-words a.words.now (record_words * a.i) (omega arith))
