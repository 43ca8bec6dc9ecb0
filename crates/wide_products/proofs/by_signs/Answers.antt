-- `by_signs` meets its contract: the cases of the signs that are unknown. Assumes nothing.
use mathlib.Core.Path.{◌≡◌, sym, ap, ap₂, ◌∙◌}
use mathlib.Core.Bool.{Bool}
use mathlib.Core.List.{[], ◌∷◌}
use Prim.Native.Nat.{ℕ, ◌^◌, ◌≤◌, ◌<◌}
use lib.Bits.{bit_and, bit_or}
use Rattle.bits.specs.Limits.{width_limit}
use Rattle.vectors.specs.Row.{Row, row, WellFormed}
use Rattle.operations.specs.Arithmetic.{op_mul}
use Rattle.operations.specs.Encoding.{sign_place}
use Rattle.operations.specs.Result.{Ready}
use Rattle.operations.specs.Wide.{counted_as}
use Rattle.wide_products.specs.Apart.{Operand, by_operand, multiplied}
use Rattle.wide_products.proofs.Kernel.{wide, same_operand, same-result, mul-ready, left_formed, low-formed, high-formed, high_below, left_is, apart-is}
use Rattle.wide_products.proofs.by_signs.Goals as goal

ready : (wt : ℕ) → wt ≤ width_limit → 1 ≤ wt → {m x n y : ℕ} → WellFormed (row wt m x) → WellFormed (row wt n y)
    → (wt ≤ width_limit) × Ready op_mul wt 0 (row wt m x ∷ row wt n y ∷ [])
ready wt h l F G = (h, mul-ready wt _ _ _ _ l F G)

-- the product as a function of the first operand, extended
abbrev product : {wt t n y : ℕ} → Operand wt t n y → Row → Row
product {wt} B p = by_operand B (multiplied wt p)

-- the number with the sign 1, extended
raised : (wt t m x y : ℕ) (O : Operand wt t m x) → (bit_and m t ≡ 0 → ⊥)
    → ((signed : Bool) (w : ℕ) → t ≡ sign_place signed w → 1 ≤ w → w ≤ wt → bit_or x t < 2 ^ w → y ≡ counted_as signed wt w (bit_or x t))
    → y ≡ counted_as O.signed wt O.width (bit_or x t)
raised wt t m x y O d e = let F = O.factor in e O.signed O.width O.place_is F.least F.most (high_below _ _ _ _ O d)

-- the first sign is known where the packed mask lacks it
lacking : (m n s : ℕ) → m ≡ n → bit_and m s ≡ 0 → bit_and n s ≡ 0
lacking m n s e z = ap (λ (x : ℕ). bit_and x s) (sym e) ∙ z

-- ---- the second sign alone is unknown

pub extended-y1-requires : goal.extended-y1-requires
extended-y1-requires c = (wide _ _ _ _ c.requires.2, c.requires.0)

pub mul-requires : goal.mul-requires
mul-requires c =
    let a = c.args in
    let u = c.from-first in
    let d = c.requires.3 (lacking _ _ a.s u.ensures.0 c.if-first-s-eq0.true) in
    ready a.wt c.requires.0 (wide _ _ _ _ c.requires.2) (left_formed _ _ _ _ (same_operand u.ensures.0 u.ensures.1 c.requires.1)) (low-formed _ _ _ _ c.requires.2 d)

pub mul-requires-then-first-s-eq0 : goal.mul-requires-then-first-s-eq0
mul-requires-then-first-s-eq0 c =
    let a = c.args in
    let u = c.from-first in
    let B = c.requires.2 in
    let d = c.requires.3 (lacking _ _ a.s u.ensures.0 c.if-first-s-eq0.true) in
    ready a.wt c.requires.0 (wide _ _ _ _ B) (left_formed _ _ _ _ (same_operand u.ensures.0 u.ensures.1 c.requires.1))
    (high-formed _ _ _ _ B d _ (raised _ _ _ _ _ B d c.extended-y1.ensures))

pub returns-then-first-s-eq0 : goal.returns-then-first-s-eq0
returns-then-first-s-eq0 c A B =
    let a = c.args in
    let wt = a.wt in
    let u = c.from-first in
    let d = c.requires.3 (lacking _ _ a.s u.ensures.0 c.if-first-s-eq0.true) in
    left_is _ _ _ _ (same_operand u.ensures.0 u.ensures.1 A) c.if-first-s-eq0.true (product B)
    (apart-is _ _ _ _ B d _ (raised _ _ _ _ _ B d c.extended-y1.ensures) (multiplied wt (row wt u.result.mask u.result.value)) c.mul.ensures c.mul-then-first-s-eq0.ensures
    (ap₂ (row wt) c.from.ensures.0 c.from.ensures.1 ∙ c.joined.ensures wt))
    ∙ same-result u.ensures.0 u.ensures.1 A (product B)

-- ---- the first sign is unknown

pub extended-x1-requires : goal.extended-x1-requires
extended-x1-requires c = (wide _ _ _ _ c.requires.2, c.requires.0)

pub mul-requires-then-mb-t-eq0 : goal.mul-requires-then-mb-t-eq0
mul-requires-then-mb-t-eq0 c =
    let u = c.from-first in
    let B = c.requires.2 in
    let A = same_operand u.ensures.0 u.ensures.1 c.requires.1 in
    ready c.args.wt c.requires.0 (wide _ _ _ _ B) (low-formed _ _ _ _ A c.if-first-s-eq0.false) (left_formed _ _ _ _ B)

pub mul-requires-then-mb-t-eq0-2 : goal.mul-requires-then-mb-t-eq0-2
mul-requires-then-mb-t-eq0-2 c =
    let u = c.from-first in
    let B = c.requires.2 in
    let A = same_operand u.ensures.0 u.ensures.1 c.requires.1 in
    let d = c.if-first-s-eq0.false in
    ready c.args.wt c.requires.0 (wide _ _ _ _ B) (high-formed _ _ _ _ A d _ (raised _ _ _ _ _ A d c.extended-x1.ensures)) (left_formed _ _ _ _ B)

pub returns-then-mb-t-eq0 : goal.returns-then-mb-t-eq0
returns-then-mb-t-eq0 c A' B =
    let wt = c.args.wt in
    let u = c.from-first in
    let A = same_operand u.ensures.0 u.ensures.1 A' in
    let d = c.if-first-s-eq0.false in
    let l = c.if-mb-t-eq0.true in
    apart-is _ _ _ _ A d _ (raised _ _ _ _ _ A d c.extended-x1.ensures) (product B)
    (left_is _ _ _ _ B l (multiplied wt _) c.mul-then-mb-t-eq0.ensures) (left_is _ _ _ _ B l (multiplied wt _) c.mul-then-mb-t-eq0-2.ensures)
    (ap₂ (row wt) c.from-then-mb-t-eq0.ensures.0 c.from-then-mb-t-eq0.ensures.1 ∙ c.joined-then-mb-t-eq0.ensures wt)
    ∙ same-result u.ensures.0 u.ensures.1 A' (product B)

-- ---- both are

pub extended-y1-requires-2 : goal.extended-y1-requires-2
extended-y1-requires-2 c = (wide _ _ _ _ c.requires.2, c.requires.0)

pub mul-requires-2 : goal.mul-requires-2
mul-requires-2 c =
    let u = c.from-first in
    let B = c.requires.2 in
    let A = same_operand u.ensures.0 u.ensures.1 c.requires.1 in
    ready c.args.wt c.requires.0 (wide _ _ _ _ B) (low-formed _ _ _ _ A c.if-first-s-eq0.false) (low-formed _ _ _ _ B c.if-mb-t-eq0.false)

pub mul-requires-3 : goal.mul-requires-3
mul-requires-3 c =
    let u = c.from-first in
    let B = c.requires.2 in
    let A = same_operand u.ensures.0 u.ensures.1 c.requires.1 in
    let h = c.if-mb-t-eq0.false in
    ready c.args.wt c.requires.0 (wide _ _ _ _ B) (low-formed _ _ _ _ A c.if-first-s-eq0.false) (high-formed _ _ _ _ B h _ (raised _ _ _ _ _ B h c.extended-y1-2.ensures))

pub mul-requires-4 : goal.mul-requires-4
mul-requires-4 c =
    let u = c.from-first in
    let B = c.requires.2 in
    let A = same_operand u.ensures.0 u.ensures.1 c.requires.1 in
    let d = c.if-first-s-eq0.false in
    ready c.args.wt c.requires.0 (wide _ _ _ _ B) (high-formed _ _ _ _ A d _ (raised _ _ _ _ _ A d c.extended-x1.ensures)) (low-formed _ _ _ _ B c.if-mb-t-eq0.false)

pub mul-requires-5 : goal.mul-requires-5
mul-requires-5 c =
    let u = c.from-first in
    let B = c.requires.2 in
    let A = same_operand u.ensures.0 u.ensures.1 c.requires.1 in
    let d = c.if-first-s-eq0.false in
    let h = c.if-mb-t-eq0.false in
    ready c.args.wt c.requires.0 (wide _ _ _ _ B) (high-formed _ _ _ _ A d _ (raised _ _ _ _ _ A d c.extended-x1.ensures))
    (high-formed _ _ _ _ B h _ (raised _ _ _ _ _ B h c.extended-y1-2.ensures))

pub returns : goal.returns
returns c A' B =
    let wt = c.args.wt in
    let u = c.from-first in
    let A = same_operand u.ensures.0 u.ensures.1 A' in
    let d = c.if-first-s-eq0.false in
    let h = c.if-mb-t-eq0.false in
    let y = raised _ _ _ _ _ B h c.extended-y1-2.ensures in
    apart-is _ _ _ _ A d _ (raised _ _ _ _ _ A d c.extended-x1.ensures) (product B)
    (apart-is _ _ _ _ B h _ y (multiplied wt _) c.mul-2.ensures c.mul-3.ensures (c.joined-p.ensures wt))
    (apart-is _ _ _ _ B h _ y (multiplied wt _) c.mul-4.ensures c.mul-5.ensures (c.joined-q.ensures wt))
    (ap₂ (row wt) c.from-2.ensures.0 c.from-2.ensures.1 ∙ c.joined-2.ensures wt)
    ∙ same-result u.ensures.0 u.ensures.1 A' (product B)
