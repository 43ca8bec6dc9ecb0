-- `checks::rows::check_bit` meets its contract: its one test. Assumes nothing.
use mathlib.Core.Path.{sym, ◌∙◌}
use mathlib.Core.List.{[]}
use borrow.Author.Tests.{le-leb, lt-leb}
use Rattle.checks.specs.Checks.{bit_outside}
use Rattle.checks.proofs.Verdicts.{hits, clears}
use Rattle.checks.proofs.rows.check_bit.Goals as goal

pub returns-then-w-k : goal.returns-then-w-k
returns-then-w-k c = c.refuse.ensures ∙ sym (hits (record { fails = bit_outside c.args.w c.args.k; number = 15; place = c.args.i }) [] (le-leb c.args.w c.args.k c.if-w-k.true))

pub returns : goal.returns
returns c = sym (clears (record { fails = bit_outside c.args.w c.args.k; number = 15; place = c.args.i }) (lt-leb c.args.w c.args.k c.if-w-k.false))
