-- An unknown sign taken as 0 and as 1: two vectors that together cover the same numbers. Assumes nothing.
--   sign-is-unknown                the top bit of the mask is 1;  value_room   and the value is below it
--   sign_as-factor                  each case is a vector of the same width
--   sign_as-inside, sign_as-apart    the cases lie inside, and every covered number is covered by one of them
--   sign_as-known                   the sign is known in each
use mathlib.Core.Path.{◌≡◌, refl, sym, ap, ◌∙◌, subst}
use mathlib.Core.Bool.{Bool}
use mathlib.Core.Logic.{◌≢◌, ◌⊎◌}
use Prim.Native.Nat.{ℕ, suc, ◌+◌, ◌-◌, ◌*◌, ◌^◌, ◌≤◌, ◌<◌}
use native.Mathlib.Nat.{le_refl, mod-le, lt_of_le_of_lt, pow-suc}
use native.Mathlib.Decide.{dec_lt}
use native.Mathlib.Omega.{arith}
use lib.Dec.{T, eqb→eq}
use lib.Arith.{digits_lt}
use Rattle.bits.specs.Bit.{bit, is_set}
use Rattle.bits.proofs.Bits.{bit-zero, bit-above}
use Rattle.bits.proofs.Bools.{T-right}
use Rattle.bits.proofs.Shifts.{bit-low, bit_high, bit-mod, bit-mod-above, top-zero}
use Rattle.vectors.specs.Row.{Row, WellFormed, Covers, Inside}
use Rattle.vectors.proofs.Narrowed.{Narrows, narrowed-formed, narrowed-inside, narrowed-apart}
use Rattle.wide_products.specs.Apart.{Factor, sign_unknown, sign_as}

pub sign-is-unknown : (signed : Bool) (r : Row) → T (sign_unknown signed r) → bit r.mask (r.width - 1) ≡ 1
unfolding sign_unknown is_set
sign-is-unknown signed r t = eqb→eq (bit r.mask (r.width - 1)) 1 (T-right signed (is_set r.mask (r.width - 1)) t)

module _ (r : Row) (F : WellFormed r) (l : 1 ≤ r.width) (e : bit r.mask (r.width - 1) ≡ 1) where
  abbrev top : ℕ
  top = r.width - 1

  suc-top : r.width ≡ suc top
  suc-top = omega arith

  pub value_room : r.value < 2 ^ top
  value_room = top-zero r.value top (subst (λ (w : ℕ). r.value < 2 ^ w) suc-top F.value_below) (F.apart top e)

  value_below : (b : ℕ) → b < 2 → (sign_as b r).value < 2 ^ r.width
  value_below b h = subst (λ (w : ℕ). b * 2 ^ top + r.value < 2 ^ w) (sym suc-top) (let d = digits_lt h value_room in omega (arith, pow-suc 2 top))

  -- a plane that has the row's bits below the top one, and is below the width, has them at every place but that
  other-bits : (m n : ℕ) → m < 2 ^ r.width → n < 2 ^ r.width → ((k : ℕ) → k < top → bit n k ≡ bit m k) → (k : ℕ) → k ≢ top → bit n k ≡ bit m k
  other-bits m n hm hn e k d =
      elim (dec_lt k top) [
        | yes l ↦ e k l
        | no l ↦
            let a : r.width ≤ k = (let u = suc-top in omega arith) in
            bit-above r.width n k hn a ∙ sym (bit-above r.width m k hm a)
      ]

  narrows : (b : ℕ) → b < 2 → Narrows r top b (sign_as b r)
  narrows b h =
      let z : top ≡ 0 + top = omega arith in
      record {
        width_is = refl;
        unknown = e;
        mask_at = bit-mod-above r.mask top top (le_refl top);
        mask_other = other-bits r.mask (sign_as b r).mask F.mask_below (lt_of_le_of_lt (mod-le r.mask (2 ^ top)) F.mask_below) (bit-mod r.mask top);
        value_at = ap (bit (b * 2 ^ top + r.value)) z ∙ bit_high b top r.value 0 value_room ∙ bit-zero b ∙ omega arith;
        value_other = other-bits r.value (sign_as b r).value F.value_below (value_below b h) (bit-low b top r.value);
      }

  sign_as-formed : (b : ℕ) → b < 2 → WellFormed (sign_as b r)
  sign_as-formed b h = narrowed-formed r top b (sign_as b r) F (narrows b h)

  pub sign_as-inside : (b : ℕ) → b < 2 → Inside (sign_as b r) r
  sign_as-inside b h = narrowed-inside r top b (sign_as b r) F (narrows b h)

  pub sign_as-apart : (n : ℕ) → Covers r n → Covers (sign_as 0 r) n ⊎ Covers (sign_as 1 r) n
  sign_as-apart = narrowed-apart r top (sign_as 0 r) (sign_as 1 r) F (narrows 0 (omega arith)) (narrows 1 (omega arith))

pub sign_as-factor : (signed : Bool) (wt : ℕ) (r : Row) → Factor wt r → T (sign_unknown signed r) → (b : ℕ) → b < 2 → Factor wt (sign_as b r)
sign_as-factor signed wt r F t b h = record { formed = sign_as-formed r F.formed F.least (sign-is-unknown signed r t) b h; least = F.least; most = F.most }

pub sign_as-known : (signed : Bool) (b : ℕ) (r : Row) → T (sign_unknown signed (sign_as b r)) → ⊥
sign_as-known signed b r t =
    let z = sign-is-unknown signed (sign_as b r) t in
    let u = bit-mod-above r.mask (r.width - 1) (r.width - 1) (omega arith) in
    omega arith
