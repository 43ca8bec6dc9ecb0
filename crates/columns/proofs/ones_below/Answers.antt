-- `ones_below` meets its contract. Assumes nothing.
use Rattle.std.proofs.Common.{◌≡◌, ℕ, ◌-◌, ◌^◌, min, sym, ap, ◌∙◌, arith, pow_pos}
use Rattle.bits.proofs.Words.{shifted_one}
use Rattle.columns.proofs.ones_below.Goals as goal

pub returns-then-n-ge32 : goal.returns-then-n-ge32
returns-then-n-ge32 c = let e : min c.args.n 32 ≡ 32 = omega arith in ap (λ (x : ℕ). 2 ^ x - 1) (sym e)

pub overflow_sub-result : goal.overflow_sub-result
overflow_sub-result c = let e = shifted_one 32 c.args.n (omega arith) in let p = pow_pos c.args.n in omega arith

pub returns : goal.returns
returns c =
    let n = c.args.n in
    let e : n ≡ min n 32 = omega arith in
    ap (λ (x : ℕ). x - 1) (shifted_one 32 n (omega arith) ∙ ap (λ (x : ℕ). 2 ^ x) e)
