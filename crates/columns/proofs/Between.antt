-- Columns above the highest bit in which the least and the greatest exact product differ. Assumes nothing.
use Rattle.std.proofs.Common.{◌≡◌, ℕ, ◌-◌, ◌*◌, ◌^◌, ◌<◌, ◌≤◌, lt_of_le_of_lt, mul-le-mul, arith}
use lib.Bits.{bit_or, bit_xor, or_lt, xor_lt}
use lib.Count.{count_leading_zeros, leading_length}
use Rattle.bits.specs.Bit.{bit}
use Rattle.bits.proofs.SameBits.{same_from}
use Rattle.vectors.specs.Row.{row}
use Rattle.vectors.proofs.Rows.{value-least, top-greatest}
use Rattle.columns.specs.Settled.{KnownFrom}
use Rattle.columns.proofs.ProductMask.{product-steady}

-- an exact product of words fits a word twice as wide
pub product-fits : (a b : ℕ) → a < 2 ^ 32 → b < 2 ^ 32 → a * b < 2 ^ 64
product-fits a b h l = lt_of_le_of_lt (mul-le-mul {n₁ = a} {m₁ = b} {n₂ = 2 ^ 32 - 1} {m₂ = 2 ^ 32 - 1} (omega arith) (omega arith)) (omega arith)

pub settled-above : (ma va mb vb x z : ℕ) → ma < 2 ^ 32 → va < 2 ^ 32 → mb < 2 ^ 32 → vb < 2 ^ 32 → x ≡ va * vb → z ≡ bit_or va ma * bit_or vb mb
    → KnownFrom ma va mb vb (64 - count_leading_zeros 64 (bit_xor x z))
settled-above ma va mb vb x z hma hva hmb hvb ex ez w F k l h =
    let hx : x < 2 ^ 64 = omega (arith, product-fits va vb hva hvb) in
    let hz : z < 2 ^ 64 = omega (arith, product-fits (bit_or va ma) (bit_or vb mb) (or_lt 32 va ma hva hma) (or_lt 32 vb mb hvb hmb)) in
    let (n, i, j, o) = leading_length 64 (bit_xor x z) (xor_lt 64 x z hx hz) in
    product-steady w ma va mb vb k h (bit x k) (λ a b ca cb.
    let lo : va * vb ≤ a * b = mul-le-mul (value-least (row w ma va) a F.first ca) (value-least (row w mb vb) b F.second cb) in
    let hi : a * b ≤ bit_or va ma * bit_or vb mb = mul-le-mul (top-greatest (row w ma va) a F.first ca) (top-greatest (row w mb vb) b F.second cb) in
    same_from 64 x z n hx hz j (a * b) k (omega arith) (omega arith) (omega arith))
