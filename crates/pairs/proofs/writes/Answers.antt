-- `pairs::writes` meets its contract: the row t, or for a store the rows of its span. Assumes nothing.
use mathlib.Core.Path.{sym, ◌∙◌}
use mathlib.Core.Bool.{Bool}
use Prim.Native.Nat.{ℕ}
use native.Mathlib.Omega.{arith}
use borrow.Author.Tests.{lt-leb}
use lib.Dec.{eqb}
use Rattle.operations.proofs.Sound.{only_store}
use Rattle.checks.proofs.Memory.{store-targets, row-targets}
use Rattle.pairs.proofs.Targets.{before-span, from-base}
use Rattle.pairs.proofs.writes.Goals as goal

abbrev is-row : ℕ → ℕ → Bool
is-row i j = eqb j i

pub returns-then-r-ne-STORE : goal.returns-then-r-ne-STORE
returns-then-r-ne-STORE c =
    sym (row-targets (is-row c.args.i) c.args.r (only_store c.args.r.kind c.requires c.if-r-ne-STORE.true))

pub returns-then-base-i : goal.returns-then-base-i
returns-then-base-i c =
    let l = c.if-base-i.true in
    from-base c.args.r.c c.args.r.p c.args.i (omega arith)
    ∙ sym (store-targets (is-row c.args.i) c.args.r c.if-r-ne-STORE.false)

pub returns-else-base-i : goal.returns-else-base-i
returns-else-base-i c =
    let l = c.if-base-i.false in
    lt-leb _ _ l ∙ sym (store-targets (is-row c.args.i) c.args.r c.if-r-ne-STORE.false ∙ before-span c.args.r.c c.args.r.p c.args.i (omega arith))
