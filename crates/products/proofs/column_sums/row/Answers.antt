-- `row` meets its contract: the word is 2 ^ k more than the row. Assumes nothing.
use mathlib.Core.Path.{◌≡◌, ap, ap₂, ◌∙◌}
use Prim.Native.Nat.{ℕ, ◌+◌, ◌-◌, ◌*◌, ◌%◌, ◌^◌, ◌<◌}
use native.Mathlib.Nat.{mul-add, mul-one, mod-lt, lt_of_le_of_lt}
use native.Mathlib.Omega.{arith}
use lib.Bits.{bit_and, bit_xor, xor_lt, and_le_l}
use lib.IntN.{pos, ◌-ℤ◌}
use lib.Pow.{pow_pos}
use Rattle.bits.specs.Bit.{bit}
use Rattle.bits.proofs.Bits.{bit-lt}
use Rattle.products.specs.Factors.{low_row}
use Rattle.products.proofs.Integers.{minus_pos, minus-unique}
use Rattle.bits.proofs.Words.{shifted_one}
use Rattle.products.proofs.Words.{raised-word}
use Rattle.products.proofs.Held.{sub-fits, sub_held}
use Rattle.products.proofs.column_sums.row.Goals as goal

-- 2 ^ k is taken away
lowered : (k l s : ℕ) → s < 2 → pos (l + 2 ^ k * (1 - s)) -ℤ pos (2 ^ k) ≡ pos l -ℤ pos (2 ^ k * s)
lowered k l s h =
    let e : 1 - s + s ≡ 1 = omega arith in
    minus-unique _ _ _ _ _ _ (minus_pos (l + 2 ^ k * (1 - s)) (2 ^ k)) (minus_pos l (2 ^ k * s))
    (omega (arith, mul-add (2 ^ k) (1 - s) s, ap (λ (x : ℕ). 2 ^ k * x) e, mul-one (2 ^ k)))

pub overflow_cast-result : goal.overflow_cast-result
overflow_cast-result c = record { sfits = omega (arith, (xor_lt 32 _ (1 * 2 ^ c.args.k % 2 ^ 32) (lt_of_le_of_lt (and_le_l (c.args.b * 2 ^ c.args.i % 2 ^ 32) c.width_mask.result) (mod-lt _ (pow_pos 32))) (mod-lt (1 * 2 ^ c.args.k) (pow_pos 32)))) }

pub overflow_sub-result : goal.overflow_sub-result
overflow_sub-result c = sub-fits (bit_xor (bit_and (c.args.b * 2 ^ c.args.i % 2 ^ 32) c.width_mask.result) (1 * 2 ^ c.args.k % 2 ^ 32)) (1 * 2 ^ c.args.k % 2 ^ 32) (omega (arith, (xor_lt 32 _ (1 * 2 ^ c.args.k % 2 ^ 32) (lt_of_le_of_lt (and_le_l (c.args.b * 2 ^ c.args.i % 2 ^ 32) c.width_mask.result) (mod-lt _ (pow_pos 32))) (mod-lt (1 * 2 ^ c.args.k) (pow_pos 32))))) (omega (arith, (mod-lt (1 * 2 ^ c.args.k) (pow_pos 32))))

pub returns : goal.returns
returns c =
    let a = c.args in
    let h = c.requires in
    let e = shifted_one 32 a.k h.1 in
    sub_held (bit_xor (bit_and (c.args.b * 2 ^ c.args.i % 2 ^ 32) c.width_mask.result) (1 * 2 ^ c.args.k % 2 ^ 32)) (1 * 2 ^ c.args.k % 2 ^ 32) (omega (arith, (xor_lt 32 _ (1 * 2 ^ c.args.k % 2 ^ 32) (lt_of_le_of_lt (and_le_l (c.args.b * 2 ^ c.args.i % 2 ^ 32) c.width_mask.result) (mod-lt _ (pow_pos 32))) (mod-lt (1 * 2 ^ c.args.k) (pow_pos 32))))) (omega (arith, (mod-lt (1 * 2 ^ c.args.k) (pow_pos 32))))
    ∙ ap₂ (λ (x y : ℕ). pos x -ℤ pos y) (raised-word 32 a.k a.i a.b _ _ h.0 h.1 c.width_mask.ensures e) e
    ∙ lowered a.k (low_row a.k a.i a.b) (bit a.b (a.k - a.i)) (bit-lt a.b (a.k - a.i))
