-- One argument for add, sub and neg, over the carry: bit k of x + y + c, where the terms x and y are covered by two vectors. Assumes nothing.
--   Terms p q x y   p covers x, and q covers y
--   AsSum w c p q left right f rows   f is such a sum modulo 2 ^ w: a choice ns has the terms left ns and right ns, and each two terms have a choice
use Rattle.std.proofs.Common.{◌≡◌, ℕ, suc, ◌+◌, ◌/◌, ◌%◌, ◌^◌, ◌<◌, ◌≤◌, ◌⊎◌, List, sym, ap, ◌∙◌, ap₂, inl, inr, arith}
use lib.Pow.{shr_mono}
use Rattle.bits.specs.Bit.{bit}
use Rattle.bits.proofs.Bits.{bit-cases}
use Rattle.bits.proofs.Shifts.{bit-mod}
use Rattle.vectors.specs.Lists.{All}
use Rattle.vectors.specs.Row.{Row, WellFormed, Covers}
use Rattle.vectors.specs.Choice.{Chosen}
use Rattle.vectors.proofs.Rows.{top, covers-value, covers-top}
use Rattle.vectors.proofs.Bests.{Gives}
use Rattle.sums.proofs.CarryIn.{lowest, carry_in, carry_in-lt, floor-carry, floor-bit}
use Rattle.sums.proofs.Covered.{low_least, low-greatest, flipped, covers-raised}

pub record Terms (p q : Row) (x y : ℕ) : Type 0 where
  pub left_covered : Covers p x
  pub right_covered : Covers q y

pub record AsSum (w c : ℕ) (p q : Row) (left right f : List ℕ → ℕ) (rows : List Row) : Type 0 where
  pub carry_lt : c < 2
  pub rows_formed : All WellFormed rows
  pub left_formed : WellFormed p
  pub right_formed : WellFormed q
  pub left_wide : w ≤ p.width
  pub right_wide : w ≤ q.width
  pub terms : (ns : List ℕ) → Chosen rows ns → Terms p q (left ns) (right ns)
  pub sum_is : (ns : List ℕ) → Chosen rows ns → f ns ≡ (left ns + right ns + c) % 2 ^ w
  pub choice : (x y : ℕ) → Terms p q x y → (ns : List ℕ) × Chosen rows ns × (left ns ≡ x) × (right ns ≡ y)

module _ {w c : ℕ} {p q : Row} {left right f : List ℕ → ℕ} {rows : List Row} (S : AsSum w c p q left right f rows) where
  -- the least terms and the greatest
  pub values : Terms p q p.value q.value
  values = record { left_covered = covers-value p S.left_formed; right_covered = covers-value q S.right_formed }

  pub tops : Terms p q (top p) (top q)
  tops = record { left_covered = covers-top p S.left_formed; right_covered = covers-top q S.right_formed }

module _ {w c : ℕ} {p q : Row} {left right f : List ℕ → ℕ} {rows : List Row} (S : AsSum w c p q left right f rows) (k : ℕ) (h : k < w) where
  pub sum-bit : (ns : List ℕ) → Chosen rows ns → bit (f ns) k ≡ bit (left ns + right ns + c) k
  sum-bit ns C = ap (λ (n : ℕ). bit n k) (S.sum_is ns C) ∙ bit-mod (left ns + right ns + c) w k h

  -- the least and the greatest sum of the lowest k + 1 bits
  pub lowest-least : (x y : ℕ) → Terms p q x y → lowest c k p.value q.value ≤ lowest c k x y
  lowest-least x y T =
      let l = low_least p x S.left_formed T.left_covered (suc k) (omega arith) in
      let r = low_least q y S.right_formed T.right_covered (suc k) (omega arith) in
      omega arith

  pub lowest-greatest : (x y : ℕ) → Terms p q x y → lowest c k x y ≤ lowest c k (top p) (top q)
  lowest-greatest x y T =
      let l = low-greatest p x S.left_formed T.left_covered (suc k) (omega arith) in
      let r = low-greatest q y S.right_formed T.right_covered (suc k) (omega arith) in
      omega arith

  -- where the floors of these are equal, all sums have one bit
  pub settled : lowest c k p.value q.value / 2 ^ k ≡ lowest c k (top p) (top q) / 2 ^ k
      → (x y : ℕ) → Terms p q x y → bit (x + y + c) k ≡ lowest c k p.value q.value / 2 ^ k % 2
  settled e x y T =
      let l = shr_mono k (lowest-least x y T) in
      let r = shr_mono k (lowest-greatest x y T) in
      let z : lowest c k x y / 2 ^ k ≡ lowest c k p.value q.value / 2 ^ k = omega arith in
      floor-bit c k x y S.carry_lt ∙ ap (λ (n : ℕ). n % 2) z

  -- where the bits of both vectors are known, the floors of two sums differ by the carry at most, so sums with one bit have one floor
  pub same-floor : bit p.mask k ≡ 0 → bit q.mask k ≡ 0 → (x y x' y' : ℕ) → Terms p q x y → Terms p q x' y'
      → bit (x + y + c) k ≡ bit (x' + y' + c) k → lowest c k x y / 2 ^ k ≡ lowest c k x' y' / 2 ^ k
  same-floor l r x y x' y' T T' e =
      let u = carry_in-lt c k x y in
      let u' = carry_in-lt c k x' y' in
      let z = sym (floor-bit c k x y S.carry_lt) ∙ e ∙ floor-bit c k x' y' S.carry_lt in
      omega (arith, at x y T, at x' y' T')
    where
      at : (x y : ℕ) → Terms p q x y → lowest c k x y / 2 ^ k ≡ bit p.value k + bit q.value k + carry_in c k x y
      at x y T =
          floor-carry c k x y S.carry_lt
          ∙ ap₂ (λ (m n : ℕ). m + n + carry_in c k x y)
          (T.left_covered.agrees k (omega arith) l)
          (T.right_covered.agrees k (omega arith) r)

  -- two sums that differ at bit k
  pub gives_both : (x y x' y' : ℕ) → Terms p q x y → Terms p q x' y' → bit (x + y + c) k + bit (x' + y' + c) k ≡ 1 → Gives f rows k 0 × Gives f rows k 1
  gives_both x y x' y' T T' e =
      elim (bit-cases (x + y + c) k) [
        | inl z ↦ (gives x y 0 T z, gives x' y' 1 T' (omega arith))
        | inr z ↦ (gives x' y' 0 T' (omega arith), gives x y 1 T z)
      ]
    where
      gives : (x y b : ℕ) → Terms p q x y → bit (x + y + c) k ≡ b → Gives f rows k b
      gives x y b T e =
          let (ns, C, l, r) = S.choice x y T in
          record { numbers = ns; chosen = C; gives = sum-bit ns C ∙ ap₂ (λ (m n : ℕ). bit (m + n + c) k) l r ∙ e }

  -- an unknown bit of one term, flipped alone
  pub unknown-term : (bit p.mask k ≡ 1) ⊎ (bit q.mask k ≡ 1) → Gives f rows k 0 × Gives f rows k 1
  unknown-term (inl e) =
      let s : p.value + 2 ^ k + q.value + c ≡ p.value + q.value + c + 2 ^ k = omega arith in
      gives_both p.value q.value (p.value + 2 ^ k) q.value (values S)
      (record {
        left_covered = covers-raised p k S.left_formed (omega arith) e;
        right_covered = (values S).right_covered;
      })
      (rw s (flipped (p.value + q.value + c) k))
  unknown-term (inr e) =
      let s : p.value + (q.value + 2 ^ k) + c ≡ p.value + q.value + c + 2 ^ k = omega arith in
      gives_both p.value q.value p.value (q.value + 2 ^ k) (values S)
      (record {
        left_covered = (values S).left_covered;
        right_covered = covers-raised q k S.right_formed (omega arith) e;
      })
      (rw s (flipped (p.value + q.value + c) k))
