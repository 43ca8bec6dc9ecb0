-- `operations::named_twice` meets its contract: the word computes to the digits of the kinds, and words differ in no bit where they are one. Assumes nothing.
use mathlib.Core.Path.{◌≡◌, sym, ap, ◌∙◌}
use mathlib.Core.Bool.{Bool, true, false, ◌&&◌}
use Prim.Native.Nat.{ℕ}
use native.Mathlib.Nat.{lt_of_lt_of_le}
use native.Mathlib.Omega.{arith}
use native.Mathlib.Decide.{ℕ_discrete}
use borrow.Author.Tests.{lt-ltb, le-ltb, eq-eqb, ne_eqb}
use lib.Bits.{bit_xor, xor_self, xor_lt}
use lib.Dec.{ltb, eqb}
use Rattle.bits.specs.Bit.{digit}
use Rattle.bits.proofs.Words.{xor-zero}
use Rattle.operations.specs.Kinds.{kind_of}
use Rattle.operations.proofs.Lookup.{kinds-few, kind-below}
use Rattle.operations.proofs.Digits.{digits_of, correlated-is}
use Rattle.operations.proofs.named_twice.Goals as goal

differ-below : (a b : ℕ) (c : Bool) → ltb (bit_xor a b) (digit c) ≡ (c && eqb a b)
differ-below a b false = le-ltb (bit_xor a b) 0 (omega arith)
differ-below a b true =
    elim (ℕ_discrete (bit_xor a b) 0) [
      | yes z ↦ lt-ltb (bit_xor a b) 1 (omega arith) ∙ sym (eq-eqb a b (xor-zero a b z))
      | no d ↦ le-ltb (bit_xor a b) 1 (omega arith) ∙ sym (ne_eqb a b (λ e. d (ap (bit_xor a) (sym e) ∙ xor_self a)))
    ]

pub returns : goal.returns
unfolding digits_of
returns c =
    let a = c.args in
    ap (ltb (bit_xor a.a a.b)) (c.digit.ensures ∙ correlated-is a.kind c.requires) ∙ differ-below a.a a.b (kind_of a.kind).correlated

pub overflow_cast-result : goal.overflow_cast-result
overflow_cast-result c = record { fits = lt_of_lt_of_le (xor_lt 32 c.args.a c.args.b c.ranges.a.fits c.ranges.b.fits) (omega arith) }

pub digit-requires : goal.digit-requires
digit-requires c = omega (arith, kinds-few, kind-below c.args.kind c.requires)
