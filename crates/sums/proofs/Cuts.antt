-- The bits of a word of v bits that are not in a mask, cut to w bits. Assumes nothing.
use Rattle.std.proofs.Common.{◌≡◌, ℕ, ◌+◌, ◌-◌, ◌%◌, ◌^◌, ◌<◌, ◌≤◌, ap, ◌∙◌, arith}
use lib.Bits.{bit_and, and_mask}
use lib.Pow.{not_mod}

pub not-cut : (w v m : ℕ) → w ≤ v → m < 2 ^ w → bit_and (2 ^ v - 1 - m) (2 ^ w - 1) ≡ 2 ^ w - 1 - m
not-cut w v m h l =
    let e : v ≡ v - w + w = omega arith in
    and_mask (2 ^ v - 1 - m) w ∙ ap (λ (k : ℕ). (2 ^ k - 1 - m) % 2 ^ w) e ∙ not_mod (v - w) w l
