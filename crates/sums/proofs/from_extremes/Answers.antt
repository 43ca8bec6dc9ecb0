-- `sums::from_extremes` meets its contract: the width's mask cuts both words. Assumes nothing.
use Rattle.std.proofs.Common.{◌≡◌, ◌-◌, ◌%◌, ◌^◌, ap, ◌∙◌, mod-lt, pow_pos}
use lib.Bits.{bit_and, bit_or, bit_xor, and_mask}
use Rattle.sums.proofs.Cuts.{not-cut}
use Rattle.sums.proofs.from_extremes.Goals as goal

pub returns : goal.returns
returns c =
    let a = c.args in
    let n = bit_or a.unknown (bit_xor a.least a.greatest) in
    let e : bit_and n c.width_mask-ones.result ≡ n % 2 ^ a.w = ap (bit_and n) c.width_mask-ones.ensures ∙ and_mask n a.w in
    let m = bit_and n c.width_mask-ones.result in
    (e, ap (bit_and a.least) (ap (bit_and (2 ^ 32 - 1 - m)) c.width_mask-ones.ensures ∙ not-cut a.w 32 m c.requires.1 (rw e (mod-lt n (pow_pos a.w)))))
