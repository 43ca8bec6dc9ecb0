-- `column_bit` meets its contract: the pair mask decides, and each of its cases is a law of algorithm 2. Assumes nothing.
use mathlib.Core.Path.{◌≡◌, sym, ap, ◌∙◌}
use mathlib.Core.Logic.{◌≢◌}
use Prim.Native.Nat.{ℕ, ◌*◌, ◌%◌, ◌^◌, ◌<◌}
use native.Mathlib.Nat.{lt_of_le_of_lt}
use native.Mathlib.Omega.{arith}
use lib.Bits.{bit_and, and_le_l}
use lib.Count.{count_trailing_zeros}
use Rattle.std.proofs.Common.{List, get_or}
use Rattle.bits.proofs.Words.{shifted_one}
use Rattle.bits.proofs.LowestBit.{lowest}
use Rattle.products.proofs.Algorithm.{no-pair-bit, some-pairs-bit, lone-within, lone-pair-bit}
use Rattle.products.proofs.column_bit.Goals as goal

is-lone : (n : ℕ) → n < 2 ^ 32 → n ≢ 0 → n ≡ 1 * 2 ^ count_trailing_zeros 32 n % 2 ^ 32 → n ≡ 2 ^ count_trailing_zeros 32 n
is-lone n h z e = e ∙ shifted_one 32 (count_trailing_zeros 32 n) (lowest 32 n z h).0

pub returns-then-pairs-eq0 : goal.returns-then-pairs-eq0
returns-then-pairs-eq0 c w h F G =
    let a = c.args in
    let are = ap (bit_and a.ma) (c.partners.ensures a.mb (ap (λ (r : List ℕ). get_or r 2 0) c.requires.1)) in
    no-pair-bit w a.ma a.va a.mb a.vb a.k h F G _ are c.if-pairs-eq0.true _ _
    c.extreme_factors.ensures c.settled_bit.ensures

pub overflow_shl-lone : goal.overflow_shl-lone
overflow_shl-lone c =
    let a = c.args in
    (lowest 32 (bit_and a.ma c.partners.result) c.if-pairs-eq0.false (lt_of_le_of_lt (and_le_l a.ma c.partners.result) c.ranges.ma.fits)).0

pub returns-then-pairs-lone : goal.returns-then-pairs-lone
returns-then-pairs-lone c w h F G =
    let a = c.args in
    let n = bit_and a.ma c.partners.result in
    let are = ap (bit_and a.ma) (c.partners.ensures a.mb (ap (λ (r : List ℕ). get_or r 2 0) c.requires.1)) in
    let below : n < 2 ^ 32 = lt_of_le_of_lt (and_le_l a.ma c.partners.result) c.ranges.ma.fits in
    let l = lowest 32 n c.if-pairs-eq0.false below in
    some-pairs-bit w a.ma a.va a.mb a.vb a.k h F G _ are 32 (count_trailing_zeros 32 n) below l.0 l.1
    (λ d. c.if-pairs-lone.true (d ∙ sym (shifted_one 32 (count_trailing_zeros 32 n) l.0)))

pub with_pair-y-requires : goal.with_pair-y-requires
with_pair-y-requires c =
    let a = c.args in
    let g = c.requires.0 in
    let n = bit_and a.ma c.partners.result in
    let are = ap (bit_and a.ma) (c.partners.ensures a.mb (ap (λ (r : List ℕ). get_or r 2 0) c.requires.1)) in
    let below : n < 2 ^ 32 = lt_of_le_of_lt (and_le_l a.ma c.partners.result) c.ranges.ma.fits in (
      lone-within g.width a.ma a.va a.mb a.vb a.k g.below g.formed.first g.formed.second _ are _ (is-lone n below c.if-pairs-eq0.false c.if-pairs-lone.false),
      omega (arith, g.below, g.formed.most),
    )

pub returns : goal.returns
returns c w h F G =
    let a = c.args in
    let n = bit_and a.ma c.partners.result in
    let are = ap (bit_and a.ma) (c.partners.ensures a.mb (ap (λ (r : List ℕ). get_or r 2 0) c.requires.1)) in
    let below : n < 2 ^ 32 = lt_of_le_of_lt (and_le_l a.ma c.partners.result) c.ranges.ma.fits in
    lone-pair-bit w a.ma a.va a.mb a.vb a.k h F G _ are _ (is-lone n below c.if-pairs-eq0.false c.if-pairs-lone.false) _ _ _
    c.extreme_factors-x.ensures c.with_pair-y.ensures c.settled_bit-2.ensures
