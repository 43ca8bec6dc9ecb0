-- add, sub and neg are sums of two terms and a carry: a + b, a + (2 ^ w - 1 - b) + 1 and 0 + (2 ^ w - 1 - a) + 1, modulo 2 ^ w. Assumes nothing.
use Rattle.std.proofs.Common.{◌≡◌, ℕ, ◌+◌, ◌-◌, ◌%◌, ◌^◌, ◌<◌, [], ◌∷◌, sym, refl, ap, add-zero, arith, pow_pos}
use Rattle.bits.proofs.Bits.{bit-of-zero}
use Rattle.vectors.specs.Row.{Row, row, WellFormed}
use Rattle.vectors.proofs.Rows.{covers-value}
use Rattle.vectors.proofs.Operands.{chosen_at}
use Rattle.vectors.proofs.BestLaws.{known-covers}
use Rattle.operations.specs.Kind.{first, second}
use Rattle.operations.specs.Arithmetic.{op_add, op_sub, op_neg}
use Rattle.operations.specs.Result.{Ready}
use Rattle.sums.proofs.Complements.{opposite, complement, complement-formed, covers-opposite, opposite-covers}
use Rattle.sums.proofs.Sums.{AsSum}

opposite-twice : (w n : ℕ) → n < 2 ^ w → opposite w (opposite w n) ≡ n
opposite-twice w n h = omega arith

-- the vector that covers 0 alone
abbrev pub zeros : ℕ → Row
zeros w = row w 0 0

zeros-formed : (w : ℕ) → WellFormed (zeros w)
zeros-formed w = record { mask_below = pow_pos w; value_below = pow_pos w; apart = λ k e. bit-of-zero k }

module _ (w ma va mb vb : ℕ) where
  pub add-sum : Ready op_add w 0 (row w ma va ∷ row w mb vb ∷ [])
      → AsSum w 0 (row w ma va) (row w mb vb) first second (op_add.plain w (w ∷ w ∷ []) 0) (row w ma va ∷ row w mb vb ∷ [])
  unfolding op_add
  add-sum R =
      record {
        carry_lt = omega arith;
        rows_formed = R.formed;
        left_formed = R.formed.0;
        right_formed = R.formed.1.0;
        left_wide = omega arith;
        right_wide = omega arith;
        terms = λ ns C. record {
          left_covered = chosen_at (row w ma va ∷ row w mb vb ∷ []) ns C 0;
          right_covered = chosen_at (row w ma va ∷ row w mb vb ∷ []) ns C 1;
        };
        sum_is = λ ns C. ap (λ (n : ℕ). n % 2 ^ w) (sym (add-zero (first ns + second ns)));
        choice = λ x y T. (x ∷ y ∷ [], (T.left_covered, (T.right_covered, tt)), refl, refl);
      }

  pub sub-sum : Ready op_sub w 0 (row w ma va ∷ row w mb vb ∷ [])
      → AsSum w 1 (row w ma va) (complement (row w mb vb)) first (λ ns. opposite w (second ns)) (op_sub.plain w (w ∷ w ∷ []) 0) (row w ma va ∷ row w mb vb ∷ [])
  unfolding op_sub
  sub-sum R =
      record {
        carry_lt = omega arith;
        rows_formed = R.formed;
        left_formed = R.formed.0;
        right_formed = complement-formed (row w mb vb) R.formed.1.0;
        left_wide = omega arith;
        right_wide = omega arith;
        terms = λ ns C. record {
          left_covered = chosen_at (row w ma va ∷ row w mb vb ∷ []) ns C 0;
          right_covered = covers-opposite (row w mb vb) R.formed.1.0 (second ns) (chosen_at (row w ma va ∷ row w mb vb ∷ []) ns C 1);
        };
        sum_is = λ ns C.
            let l = (chosen_at (row w ma va ∷ row w mb vb ∷ []) ns C 1).below in
            let e : 2 ^ w + first ns - second ns ≡ first ns + opposite w (second ns) + 1 = omega arith in
            ap (λ (n : ℕ). n % 2 ^ w) e;
        choice = λ x y T. (
          x ∷ opposite w y ∷ [],
          (T.left_covered, (opposite-covers (row w mb vb) R.formed.1.0 y T.right_covered, tt)),
          refl,
          opposite-twice w y T.right_covered.below,
        );
      }

pub neg_sum : (w m v : ℕ) → Ready op_neg w 0 (row w m v ∷ [])
    → AsSum w 1 (zeros w) (complement (row w m v)) (λ ns. 0) (λ ns. opposite w (first ns)) (op_neg.plain w (w ∷ []) 0) (row w m v ∷ [])
unfolding op_neg
neg_sum w m v R =
    record {
      carry_lt = omega arith;
      rows_formed = R.formed;
      left_formed = zeros-formed w;
      right_formed = complement-formed (row w m v) R.formed.0;
      left_wide = omega arith;
      right_wide = omega arith;
      terms = λ ns C. record {
        left_covered = covers-value (zeros w) (zeros-formed w);
        right_covered = covers-opposite (row w m v) R.formed.0 (first ns) (chosen_at (row w m v ∷ []) ns C 0);
      };
      sum_is = λ ns C.
          let l = (chosen_at (row w m v ∷ []) ns C 0).below in
          let e : 2 ^ w - first ns ≡ 0 + opposite w (first ns) + 1 = omega arith in
          ap (λ (n : ℕ). n % 2 ^ w) e;
      choice = λ x y T. (
        opposite w y ∷ [],
        (opposite-covers (row w m v) R.formed.0 y T.right_covered, tt),
        sym (known-covers (zeros w) x (zeros-formed w) refl T.left_covered),
        opposite-twice w y T.right_covered.below,
      );
    }
