-- `unknown_among` meets its contract. The loop's invariant: the columns in rest are left. Assumes nothing.
use mathlib.Core.Logic.{◌≢◌}
use native.Mathlib.Nat.{le_refl, lt_of_lt_of_le}
use native.Mathlib.Omega.{arith}
use lib.Pow.{pow_mono}
use lib.Count.{count_trailing_zeros}
use Rattle.bits.specs.Bit.{bit}
use Rattle.bits.proofs.Bits.{bit-lt}
use Rattle.bits.proofs.LowestBit.{lowest, lowest-below, clear-less}
use Rattle.columns.proofs.ProductMask.{product-below}
use Rattle.columns.proofs.Parts.{part-below}
use Rattle.products.proofs.Unsettled.{worked-start, left-next, worked-next, worked-end, granted-word}
use Rattle.products.proofs.unknown_among.Goals as goal

pub loop-rest-init : goal.loop-rest-init
loop-rest-init c = let u = c.args.unsettled in ((λ j. le_refl (bit u j)), (λ w F h. worked-start _ u))

pub unknown_column-found-requires : goal.unknown_column-found-requires
unknown_column-found-requires c =
    let a = c.args in
    let l = c.loop-rest in
    let f = part-below 32 a.unsettled l.rest (granted-word a.ma a.va a.mb a.vb a.unsettled c.requires) l.invariant.0 in
    let k = count_trailing_zeros 32 l.rest in
    let e = (lowest 32 l.rest (λ z. omega arith) f).1 in
    let p = l.invariant.0 k in
    let b = bit-lt a.unsettled k in
    (c.requires k (omega arith), c.reverse_words-reverses.ensures)

pub loop-rest-smaller : goal.loop-rest-smaller
loop-rest-smaller c = clear-less c.loop-rest.rest (λ z. omega arith)

pub loop-rest-preserved : goal.loop-rest-preserved
loop-rest-preserved c =
    let u = c.args.unsettled in
    let l = c.loop-rest in
    let n : l.rest ≢ 0 = λ z. omega arith in (
      left-next u l.rest l.invariant.0,
      (λ w F h.
          let b = part-below w u l.rest h l.invariant.0 in
          let f = lt_of_lt_of_le b (pow_mono F.most) in
          worked-next 32 _ u l.found l.rest _ n f (c.unknown_column-found.ensures w (lowest-below 32 w l.rest n f b) F) l.invariant.0 (l.invariant.1 w F h)),
    )

pub returns : goal.returns
returns c w F h =
    let a = c.args in
    let l = c.loop-rest in
    worked-end w _ a.unsettled l.found l.rest h (product-below w a.ma a.va a.mb a.vb) (omega arith) (l.invariant.1 w F h)
