-- What the code of the wide products needs of its definitions. Assumes nothing.
--   wide-factors       what the checks give the kernel
--   same_operand, same-result   an operand said in another way
--   mul-ready          two vectors of one width are what `mul` asks for
--   sign-none          no bit is unknown, so no sign is
--   left_formed, low-formed, high-formed   the vectors that the code makes of an operand: extended, and in both cases of its sign
--   left_is, apart-is  both branches of the code are `by_sign`
use mathlib.Core.Path.{◌≡◌, refl, sym, ap, ap₂, ◌∙◌, subst}
use mathlib.Core.Bool.{Bool, true, false, cond}
use mathlib.Core.List.{List, [], ◌∷◌}
use Prim.Native.Nat.{ℕ, ◌+◌, ◌-◌, ◌*◌, ◌%◌, ◌^◌, ◌≤◌, ◌<◌}
use native.Mathlib.Nat.{le_trans, one-mul}
use native.Mathlib.Omega.{arith}
use lib.Dec.{T, eqb→eq}
use lib.Bits.{bit_and, bit_or, bit_xor, or_lt, or_shifted_r, xor_self}
use lib.Pow.{pow-lt}
use Rattle.bits.specs.Bit.{bit}
use Rattle.bits.proofs.Bits.{bit-of-zero}
use Rattle.vectors.specs.Row.{Row, row, WellFormed}
use Rattle.vectors.specs.Hull.{join}
use Rattle.logic.proofs.Planes.{turned-top}
use Rattle.operations.specs.Arithmetic.{op_mul}
use Rattle.operations.specs.Wide.{counted_as, wide_kind}
use Rattle.operations.specs.Result.{Ready}
use Rattle.operations.proofs.TwoRows.{two_ready}
use Rattle.wide_products.specs.Apart.{Factor, Operand, sign_unknown, sign_as, extended_row, by_sign, by_operand}
use Rattle.wide_products.proofs.Extensions.{extended-formed}
use Rattle.wide_products.proofs.SignCases.{sign-is-unknown, value_room, sign_as-factor}
use Rattle.wide_products.proofs.SignPlaces.{counted-small, unknown-place, place-known, place-unknown}

pub wide-factors : (n : ℕ) (name : List ℕ) (sa sb : Bool) (wt p : ℕ) (ra rb : Row) → Ready (wide_kind n name sa sb) wt p (ra ∷ rb ∷ []) → Factor wt ra × Factor wt rb
wide-factors n name sa sb wt p ra rb R =
    let d : wt ≡ ra.width + rb.width = eqb→eq wt (ra.width + rb.width) R.fits in (
      record { formed = R.formed.0; least = R.widths.0; most = omega arith },
      record { formed = R.formed.1.0; least = R.widths.1.0; most = omega arith },
    )

-- an operand whose mask and number are said in another way, and what is made of it
pub same_operand : {wt t m x n y : ℕ} → m ≡ n → x ≡ y → Operand wt t n y → Operand wt t m x
same_operand {wt} e f O =
    record {
      signed = O.signed;
      width = O.width;
      value = O.value;
      factor = subst (λ (k : ℕ). Factor wt (row O.width k O.value)) (sym e) O.factor;
      place_is = O.place_is;
      number_is = f ∙ O.number_is;
    }

pub same-result : {wt t m x n y : ℕ} (e : m ≡ n) (f : x ≡ y) (O : Operand wt t n y) (g : Row → Row) → by_operand (same_operand {t = t} e f O) g ≡ by_operand O g
unfolding same_operand
same-result {wt} e f O g = ap (λ (k : ℕ). by_sign O.signed (row O.width k O.value) (λ q. g (extended_row O.signed wt q))) e

pub mul-ready : (wt m x n y : ℕ) → 1 ≤ wt → WellFormed (row wt m x) → WellFormed (row wt n y) → Ready op_mul wt 0 (row wt m x ∷ row wt n y ∷ [])
unfolding op_mul
mul-ready = two_ready op_mul refl refl refl

pub sign-none : (signed : Bool) (r : Row) → r.mask ≡ 0 → T (sign_unknown signed r) → ⊥
sign-none signed r e u = let b = sign-is-unknown signed r u in let z = ap (λ (m : ℕ). bit m (r.width - 1)) e ∙ bit-of-zero (r.width - 1) in omega arith

-- ---- an operand as the code holds it

module _ (wt t m x : ℕ) (O : Operand wt t m x) where
  abbrev w : ℕ
  w = O.width

  abbrev v : ℕ
  v = O.value

  abbrev r : Row
  r = row w m v

  abbrev F : Factor wt r
  F = O.factor

  abbrev number : ℕ → ℕ
  number = counted_as O.signed wt w

  abbrev extended_to : Row → Row
  extended_to = extended_row O.signed wt

  pub wide : 1 ≤ wt
  wide = le_trans F.least F.most

  left-row : row wt m x ≡ extended_to r
  left-row = ap (row wt m) O.number_is

  pub left_formed : WellFormed (row wt m x)
  left_formed = subst WellFormed (sym left-row) (extended-formed O.signed wt r F)

  pub sign-left : bit_and m t ≡ 0 → T (sign_unknown O.signed r) → ⊥
  sign-left e = place-known O.signed r (ap (bit_and m) (sym O.place_is) ∙ e)

  pub left_is : bit_and m t ≡ 0 → (g : Row → Row) {z : Row} → z ≡ g (row wt m x) → z ≡ by_operand O g
  unfolding by_sign
  left_is e g k = k ∙ ap g left-row ∙ chosen (sign_unknown O.signed r) (sign-left e)
    where
      chosen : (b : Bool) → (T b → ⊥) → g (extended_to r) ≡ cond b (join (g (extended_to (sign_as 0 r))) (g (extended_to (sign_as 1 r)))) (g (extended_to r))
      chosen true h = absurd (h tt)
      chosen false h = refl

  module _ (d : bit_and m t ≡ 0 → ⊥) where
    unknown : T (sign_unknown O.signed r)
    unknown = place-unknown O.signed r (λ e. d (ap (bit_and m) O.place_is ∙ e))

    top_set : bit m (w - 1) ≡ 1
    top_set = sign-is-unknown O.signed r unknown

    place : t ≡ 2 ^ (w - 1)
    place = O.place_is ∙ unknown-place O.signed r unknown

    room : v < 2 ^ (w - 1)
    room = value_room r F.formed F.least top_set

    value_is : x ≡ v
    value_is = O.number_is ∙ counted-small O.signed wt w v room

    rest_is : bit_xor m t ≡ m % 2 ^ (w - 1)
    rest_is =
        ap (bit_xor m) place
        ∙ turned-top w m F.least F.formed.mask_below
        ∙ ap (λ (b : ℕ). bit_xor b 1 * 2 ^ (w - 1) + m % 2 ^ (w - 1)) top_set
        ∙ omega (arith, ap (λ (b : ℕ). b * 2 ^ (w - 1)) (xor_self 1))

    high_is : bit_or x t ≡ 1 * 2 ^ (w - 1) + v
    high_is = ap₂ bit_or value_is (place ∙ sym (one-mul (2 ^ (w - 1)))) ∙ or_shifted_r 1 (w - 1) v room

    pub high_below : bit_or x t < 2 ^ w
    high_below =
        let k : w - 1 < w = (let l = F.least in omega arith) in
        or_lt w x t (subst (λ (y : ℕ). y < 2 ^ w) (sym value_is) F.formed.value_below) (subst (λ (y : ℕ). y < 2 ^ w) (sym place) (pow-lt k))

    case-formed : (b : ℕ) → b < 2 → {p : Row} → p ≡ extended_to (sign_as b r) → WellFormed p
    case-formed b h e = subst WellFormed (sym e) (extended-formed O.signed wt (sign_as b r) (sign_as-factor O.signed wt r F unknown b h))

    low-row : row wt (bit_xor m t) x ≡ extended_to (sign_as 0 r)
    low-row = let z : v ≡ 0 * 2 ^ (w - 1) + v = omega arith in ap₂ (row wt) rest_is (O.number_is ∙ ap number z)

    high-row : (y : ℕ) → y ≡ number (bit_or x t) → row wt (bit_xor m t) y ≡ extended_to (sign_as 1 r)
    high-row y e = ap₂ (row wt) rest_is (e ∙ ap number high_is)

    pub low-formed : WellFormed (row wt (bit_xor m t) x)
    low-formed = case-formed 0 (omega arith) low-row

    pub high-formed : (y : ℕ) → y ≡ number (bit_or x t) → WellFormed (row wt (bit_xor m t) y)
    high-formed y e = case-formed 1 (omega arith) (high-row y e)

    pub apart-is : (y : ℕ) → y ≡ number (bit_or x t) → (g : Row → Row) {p q z : Row} → p ≡ g (row wt (bit_xor m t) x) → q ≡ g (row wt (bit_xor m t) y) → z ≡ join p q → z ≡ by_operand O g
    unfolding by_sign
    apart-is y ey g a b k = k ∙ ap₂ join (a ∙ ap g low-row) (b ∙ ap g (high-row y ey)) ∙ chosen (sign_unknown O.signed r) unknown
      where
        chosen : (b : Bool) → T b → join (g (extended_to (sign_as 0 r))) (g (extended_to (sign_as 1 r))) ≡ cond b (join (g (extended_to (sign_as 0 r))) (g (extended_to (sign_as 1 r)))) (g (extended_to r))
        chosen true h = refl
        chosen false h = absurd h
