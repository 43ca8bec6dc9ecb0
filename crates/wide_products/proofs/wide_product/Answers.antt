-- `wide_product` meets its contract: `mul` where no sign is unknown, else the cases, and the theorem. Assumes nothing.
use mathlib.Core.Path.{◌≡◌, ap, ap₂, ◌∙◌, sym}
use mathlib.Core.Bool.{Bool}
use mathlib.Core.List.{[], ◌∷◌}
use Prim.Native.Nat.{ℕ, ◌^◌, ◌≤◌, ◌<◌}
use native.Mathlib.Nat.{le_trans}
use lib.Bits.{bit_and}
use lib.Dec.{T}
use Rattle.bits.specs.Limits.{width_limit}
use Rattle.bits.proofs.Words.{or-zero}
use Rattle.vectors.specs.Row.{Row, row}
use Rattle.vectors.specs.Best.{best}
use Rattle.operations.specs.Arithmetic.{op_mul}
use Rattle.operations.specs.Encoding.{sign_place}
use Rattle.operations.specs.Result.{Ready}
use Rattle.operations.specs.Wide.{wide_number, counted_as}
use Rattle.wide_products.specs.Apart.{Factor, Operand, by_operand, sign_unknown, multiplied, wide_vector}
use Rattle.wide_products.proofs.Kernel.{same_operand, same-result, mul-ready, left_formed, sign-none, sign-left}
use Rattle.wide_products.proofs.WideBest.{both-known, wide-best}
use Rattle.wide_products.proofs.wide_product.Goals as goal

long : {wt : ℕ} {r : Row} → Factor wt r → 1 ≤ wt
long F = le_trans F.least F.most

-- an operand as the code holds it
abbrev operand : (signed : Bool) (w v : ℕ) {wt t m x : ℕ} → Factor wt (row w m v) → t ≡ sign_place signed w
    → ((s : Bool) (k : ℕ) → t ≡ sign_place s k → 1 ≤ k → k ≤ wt → v < 2 ^ k → x ≡ counted_as s wt k v) → Operand wt t m x
operand signed w v F p e =
    record {
      signed = signed;
      width = w;
      value = v;
      factor = F;
      place_is = p;
      number_is = e signed w p F.least F.most F.formed.value_below;
    }

-- the best result for two operands
abbrev best_of : {wt s m x t n y : ℕ} → Operand wt s m x → Operand wt t n y → Row
best_of {wt} {s} {m} {x} {t} {n} A B = best wt (wide_number A.signed B.signed wt (A.width ∷ B.width ∷ [])) (row A.width m A.value ∷ row B.width n B.value ∷ [])

-- ---- no sign is unknown: the product of the extended operands

ready : {wt s m x t n y : ℕ} → wt ≤ width_limit → Operand wt s m x → Operand wt t n y → (wt ≤ width_limit) × Ready op_mul wt 0 (row wt m x ∷ row wt n y ∷ [])
ready {wt} h A B = (h, mul-ready wt _ _ _ _ (long A.factor) (left_formed _ _ _ _ A) (left_formed _ _ _ _ B))

is-best : {wt s m x t n y : ℕ} (A : Operand wt s m x) (B : Operand wt t n y)
    → (T (sign_unknown A.signed (row A.width m A.value)) → ⊥) → (T (sign_unknown B.signed (row B.width n B.value)) → ⊥)
    → multiplied wt (row wt m x) (row wt n y) ≡ best_of A B
is-best {wt} {s} {m} {x} {t} {n} {y} A B K L =
    ap₂ (λ (i j : ℕ). multiplied wt (row wt m i) (row wt n j)) A.number_is B.number_is
    ∙ both-known A.signed B.signed wt (row A.width m A.value) (row B.width n B.value) A.factor B.factor K L

pub extended-x-requires : goal.extended-x-requires
extended-x-requires c = (long c.requires.1, c.requires.0)

pub extended-y-requires : goal.extended-y-requires
extended-y-requires c = (long c.requires.1, c.requires.0)

pub mul-requires : goal.mul-requires
mul-requires c =
    let a = c.args in
    ready c.requires.0 (operand a.sa a.wa a.a.value c.requires.1 c.sign_place-s.ensures c.extended-x.ensures)
    (operand a.sb a.wb a.b.value c.requires.2 c.sign_place-t.ensures c.extended-y.ensures)

pub returns-then-a-b-eq0 : goal.returns-then-a-b-eq0
returns-then-a-b-eq0 c =
    let a = c.args in
    let (z, z') = or-zero a.a.mask a.b.mask c.if-a-b-eq0.true in
    c.mul.ensures
    ∙ is-best (operand a.sa a.wa a.a.value c.requires.1 c.sign_place-s.ensures c.extended-x.ensures)
    (operand a.sb a.wb a.b.value c.requires.2 c.sign_place-t.ensures c.extended-y.ensures)
    (sign-none a.sa (row a.wa a.a.mask a.a.value) z) (sign-none a.sb (row a.wb a.b.mask a.b.value) z')

pub mul_unknown-requires : goal.mul_unknown-requires
mul_unknown-requires c =
    let a = c.args in
    ready c.requires.0 (operand a.sa a.wa a.a.value c.requires.1 c.sign_place-s.ensures c.extended-x.ensures)
    (operand a.sb a.wb a.b.value c.requires.2 c.sign_place-t.ensures c.extended-y.ensures)

pub returns : goal.returns
returns c =
    let a = c.args in
    let A = operand a.sa a.wa a.a.value c.requires.1 c.sign_place-s.ensures c.extended-x.ensures in
    let B = operand a.sb a.wb a.b.value c.requires.2 c.sign_place-t.ensures c.extended-y.ensures in
    c.mul_unknown.ensures ∙ is-best A B (sign-left _ _ _ _ A c.if-a-s-ne0.false) (sign-left _ _ _ _ B c.if-b-t-ne0.false)

-- ---- a sign is unknown

-- the packed mask is the mask
packed-mask : (m n t : ℕ) → m ≡ n → bit_and m t ≡ 0 → bit_and n t ≡ 0
packed-mask m n t e z = ap (λ (x : ℕ). bit_and x t) (sym e) ∙ z

apart-is-best : {wt s m x k z t n y : ℕ} (e : k ≡ m) (f : z ≡ x) (A : Operand wt s m x) (B : Operand wt t n y)
    → by_operand (same_operand {t = s} e f A) (λ p. by_operand B (multiplied wt p)) ≡ best_of A B
unfolding wide_vector
apart-is-best {wt} {s} {m} {x} {k} {z} {t} {n} {y} e f A B =
    same-result e f A (λ p. by_operand B (multiplied wt p)) ∙ wide-best A.signed B.signed wt (row A.width m A.value) (row B.width n B.value) A.factor B.factor

pub by_signs-requires : goal.by_signs-requires
by_signs-requires c =
    let a = c.args in
    let u = c.from-packed in (
      c.requires.0,
      same_operand u.ensures.0 u.ensures.1 (operand a.sa a.wa a.a.value c.requires.1 c.sign_place-s.ensures c.extended-x.ensures),
      operand a.sb a.wb a.b.value c.requires.2 c.sign_place-t.ensures c.extended-y.ensures,
      (λ z z'. c.if-a-s-ne0.true (packed-mask _ _ _ u.ensures.0 z)),
    )

pub by_signs-requires-then-b-t-ne0 : goal.by_signs-requires-then-b-t-ne0
by_signs-requires-then-b-t-ne0 c =
    let a = c.args in
    let u = c.from-packed in (
      c.requires.0,
      same_operand u.ensures.0 u.ensures.1 (operand a.sa a.wa a.a.value c.requires.1 c.sign_place-s.ensures c.extended-x.ensures),
      operand a.sb a.wb a.b.value c.requires.2 c.sign_place-t.ensures c.extended-y.ensures,
      (λ z z'. c.if-b-t-ne0.true z'),
    )

pub returns-then-a-s-ne0 : goal.returns-then-a-s-ne0
returns-then-a-s-ne0 c =
    let a = c.args in
    let u = c.from-packed in
    let A = operand a.sa a.wa a.a.value c.requires.1 c.sign_place-s.ensures c.extended-x.ensures in
    let B = operand a.sb a.wb a.b.value c.requires.2 c.sign_place-t.ensures c.extended-y.ensures in
    ap₂ (row a.wt) c.from.ensures.0 c.from.ensures.1
    ∙ c.by_signs.ensures (same_operand u.ensures.0 u.ensures.1 A) B
    ∙ apart-is-best u.ensures.0 u.ensures.1 A B

pub returns-then-b-t-ne0 : goal.returns-then-b-t-ne0
returns-then-b-t-ne0 c =
    let a = c.args in
    let u = c.from-packed in
    let A = operand a.sa a.wa a.a.value c.requires.1 c.sign_place-s.ensures c.extended-x.ensures in
    let B = operand a.sb a.wb a.b.value c.requires.2 c.sign_place-t.ensures c.extended-y.ensures in
    ap₂ (row a.wt) c.from-then-b-t-ne0.ensures.0 c.from-then-b-t-ne0.ensures.1
    ∙ c.by_signs-then-b-t-ne0.ensures (same_operand u.ensures.0 u.ensures.1 A) B
    ∙ apart-is-best u.ensures.0 u.ensures.1 A B
