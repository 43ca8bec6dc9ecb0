-- `witness_search::case_of` meets its contract: the lowest unknown bit of a vector that has one. Assumes nothing.
use mathlib.Core.Path.{◌≡◌}
use mathlib.Core.Logic.{◌≢◌}
use Prim.Native.Nat.{ℕ, ◌≤◌}
use native.Mathlib.Omega.{arith}
use borrow.Author.Tests.{eq-eqb, ne_eqb}
use Rattle.witness_search.specs.declared.Operands.{Operands}
use Rattle.witness_search.specs.Search.{lowest_cleared, lowest_as, case_of}
use Rattle.witness_search.proofs.case_of.Goals as goal

some_left : (m : ℕ) → m ≢ 0 → 1 ≤ m
some_left m h = omega arith

in-first : (o : Operands) (b m v : ℕ) → o.a.mask ≢ 0 → m ≡ lowest_cleared o.a.mask → v ≡ lowest_as o.a.mask o.a.value b
    → ◌≡◌ {A = Operands} (record { a = record { mask = m; value = v }; b = o.b }) (case_of o b)
unfolding case_of
in-first o b m v n e f = rw (ne_eqb o.a.mask 0 n) (λ ι. record { a = record { mask = e ι; value = f ι }; b = o.b })

in-second : (o : Operands) (b m v : ℕ) → o.a.mask ≡ 0 → m ≡ lowest_cleared o.b.mask → v ≡ lowest_as o.b.mask o.b.value b
    → ◌≡◌ {A = Operands} (record { a = o.a; b = record { mask = m; value = v } }) (case_of o b)
unfolding case_of
in-second o b m v n e f = rw (eq-eqb o.a.mask 0 n) (λ ι. record { a = o.a; b = record { mask = e ι; value = f ι } })

pub lowest_as-second-requires : goal.lowest_as-second-requires
lowest_as-second-requires c = (some_left c.args.o.b.mask (c.requires.1 c.if-o-eq0.true), c.requires.0)

pub returns-then-o-eq0 : goal.returns-then-o-eq0
returns-then-o-eq0 c =
    in-second c.args.o c.args.b c.lowest_as-second.result.mask c.lowest_as-second.result.value c.if-o-eq0.true c.lowest_as-second.ensures.0 c.lowest_as-second.ensures.1

pub lowest_as-first-requires : goal.lowest_as-first-requires
lowest_as-first-requires c = (some_left c.args.o.a.mask c.if-o-eq0.false, c.requires.0)

pub returns : goal.returns
returns c =
    in-first c.args.o c.args.b c.lowest_as-first.result.mask c.lowest_as-first.result.value c.if-o-eq0.false c.lowest_as-first.ensures.0 c.lowest_as-first.ensures.1
