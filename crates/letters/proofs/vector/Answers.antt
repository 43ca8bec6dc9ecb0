-- `letters::vector`: the bytes passed are letters, and m and v are the mask and value that they stand for. Assumes nothing.
use mathlib.Core.Path.{refl}
use native.Mathlib.Omega.{arith}
use lib.ListN.{get_or}
use Rattle.letters.specs.Model.{edition_model}
use Rattle.letters.proofs.ReadVectors.{too_short, too_long, no-letter, begin, more, done, mask_lt, value-lt, fits_word}
use Rattle.letters.proofs.vector.Goals as goal

pub returns-then-len-eq0 : goal.returns-then-len-eq0
returns-then-len-eq0 c = too_short (edition_model c.args.e).letters c.args.f.now c.if-len-eq0.true

pub returns-then-len-gt-WIDTH_LIMIT : goal.returns-then-len-gt-WIDTH_LIMIT
returns-then-len-gt-WIDTH_LIMIT c = too_long (edition_model c.args.e).letters c.args.f.now c.if-len-gt-WIDTH_LIMIT.true

pub loop-i-init : goal.loop-i-init
loop-i-init c = (refl, omega arith, begin (edition_model c.args.e).letters c.args.f.now)

pub returns-then-not-is_letter : goal.returns-then-not-is_letter
returns-then-not-is_letter c =
    no-letter (edition_model c.args.e).letters c.args.f.now c.loop-i.i (omega arith) c.is_letter.result c.is_letter.ensures c.if-not-is_letter.true

pub overflow_mul-m : goal.overflow_mul-m
overflow_mul-m c =
    let i = c.loop-i in omega (arith, fits_word i.i i.m 0 i.invariant.2.mask_below (omega arith) (omega arith))

pub overflow_add-m : goal.overflow_add-m
overflow_add-m c =
    let i = c.loop-i in omega (arith, fits_word i.i i.m c.mask_bit.result i.invariant.2.mask_below (omega arith) (mask_lt (edition_model c.args.e).letters (get_or c.args.f.now i.i 0) c.mask_bit.result c.mask_bit.ensures))

pub overflow_mul-v : goal.overflow_mul-v
overflow_mul-v c =
    let i = c.loop-i in omega (arith, fits_word i.i i.v 0 i.invariant.2.value_below (omega arith) (omega arith))

pub overflow_add-v : goal.overflow_add-v
overflow_add-v c =
    let i = c.loop-i in omega (arith, fits_word i.i i.v c.value_bit.result i.invariant.2.value_below (omega arith) (value-lt (edition_model c.args.e).letters (get_or c.args.f.now i.i 0) c.value_bit.result c.value_bit.ensures))

pub loop-i-preserved : goal.loop-i-preserved
loop-i-preserved c =
    let i = c.loop-i in
    let r = c.is_letter in (
      refl,
      omega arith,
      more (edition_model c.args.e).letters c.args.f.now i.i i.m i.v c.mask_bit.result c.value_bit.result r.result (omega arith) r.ensures c.if-not-is_letter.false
          c.mask_bit.ensures c.value_bit.ensures i.invariant.2,
    )

pub returns : goal.returns
returns c =
    done (edition_model c.args.e).letters c.args.f.now c.loop-i.i c.loop-i.m c.loop-i.v (omega arith) (omega arith) c.if-len-eq0.false c.if-len-gt-WIDTH_LIMIT.false c.loop-i.invariant.2
