-- The rule for the bits of a sum holds of the results of add, sub and neg, for every width. Assumes nothing.
use Rattle.std.proofs.Common.{◌≡◌, ℕ, suc, ◌+◌, ◌-◌, ◌/◌, ◌%◌, ◌^◌, ◌<◌, List, [], ◌∷◌, sym, ap, ◌∙◌, ap₂, inl, inr, add-zero, mod-lt, arith, pow_pos}
use native.Mathlib.Nat.{zero-mod}
use Rattle.bits.specs.Bit.{bit}
use Rattle.bits.proofs.Bits.{bit-cases}
use Rattle.vectors.specs.Row.{Row, row}
use Rattle.vectors.specs.Choice.{Chosen}
use Rattle.vectors.specs.Best.{best}
use Rattle.vectors.specs.Hull.{Results}
use Rattle.vectors.proofs.Rows.{top}
use Rattle.vectors.proofs.Operands.{chosen_at}
use Rattle.vectors.proofs.Bests.{Gives, ByBits, best-by-bits}
use Rattle.operations.specs.Kind.{first, second}
use Rattle.operations.specs.Arithmetic.{op_add, op_sub, op_neg}
use Rattle.operations.specs.Result.{result_of, Ready}
use Rattle.sums.specs.Rule.{lowest_sum, lowest_difference, lowest_negation, Extremes, SumRule}
use Rattle.sums.proofs.CarryIn.{lowest}
use Rattle.sums.proofs.Complements.{opposite, opposite-low}
use Rattle.sums.proofs.Sums.{Terms, AsSum, values, tops, sum-bit, lowest-least, lowest-greatest, settled, same-floor, unknown-term}
use Rattle.sums.proofs.AsSums.{add-sum, sub-sum, neg_sum}

module _ {w c : ℕ} {p q : Row} {left right f : List ℕ → ℕ} {rows : List Row} (S : AsSum w c p q left right f rows) (k : ℕ) (h : k < w) (g : List ℕ → ℕ)
    (G : (ns : List ℕ) → Chosen rows ns → g ns ≡ lowest c k (left ns) (right ns)) where
  reached : (x y : ℕ) → Terms p q x y → Results g rows (lowest c k x y)
  reached x y T = let (ns, C, l, r) = S.choice x y T in record { numbers = ns; chosen = C; gives = G ns C ∙ ap₂ (lowest c k) l r }

  extremes : Extremes g rows (lowest c k p.value q.value) (lowest c k (top p) (top q))
  extremes =
      record {
        low_reached = reached p.value q.value (values S);
        high_reached = reached (top p) (top q) (tops S);
        low_least = λ ns C. rw (G ns C) (lowest-least S k h (left ns) (right ns) (S.terms ns C));
        high_greatest = λ ns C. rw (G ns C) (lowest-greatest S k h (left ns) (right ns) (S.terms ns C));
      }

  B : ByBits w f rows (best w f rows)
  B = best-by-bits w f rows

  -- no bit is 0 and 1 where all choices agree
  never : (b : ℕ) → ((ns : List ℕ) → Chosen rows ns → bit (f ns) k ≡ b) → Gives f rows k 0 × Gives f rows k 1 → ⊥
  never b all (u, v) = omega (arith, u.gives, v.gives, all u.numbers u.chosen, all v.numbers v.chosen)

  -- a known bit of the result: no term's bit is unknown, and all sums have the bit
  known-term : bit (best w f rows).mask k ≡ 0 → (m : ℕ) → (bit m k ≡ 1 → Gives f rows k 0 × Gives f rows k 1) → bit m k ≡ 0
  known-term e m u = elim (bit-cases m k) [ inl z ↦ z | inr z ↦ absurd (never (bit (best w f rows).value k) (B.known k h e) (u z)) ]

  known-sum : bit (best w f rows).mask k ≡ 0 → (x y : ℕ) → Terms p q x y → bit (x + y + c) k ≡ bit (best w f rows).value k
  known-sum e x y T =
      let (ns, C, l, r) = S.choice x y T in
      ap₂ (λ (m n : ℕ). bit (m + n + c) k) (sym l) (sym r) ∙ sym (sum-bit S k h ns C) ∙ B.known k h e ns C

  floors-of-known : bit (best w f rows).mask k ≡ 0 → lowest c k p.value q.value / 2 ^ k ≡ lowest c k (top p) (top q) / 2 ^ k
  floors-of-known e =
      same-floor S k h (known-term e p.mask (λ z. unknown-term S k h (inl z))) (known-term e q.mask (λ z. unknown-term S k h (inr z)))
      p.value q.value (top p) (top q) (values S) (tops S)
      (known-sum e p.value q.value (values S) ∙ sym (known-sum e (top p) (top q) (tops S)))

  known-of-floors : lowest c k p.value q.value / 2 ^ k ≡ lowest c k (top p) (top q) / 2 ^ k → bit (best w f rows).mask k ≡ 0
  known-of-floors e =
      elim (bit-cases (best w f rows).mask k) [
        | inl z ↦ z
        | inr z ↦ absurd (never (lowest c k p.value q.value / 2 ^ k % 2)
            (λ ns C. sum-bit S k h ns C ∙ settled S k h e (left ns) (right ns) (S.terms ns C)) (B.unknown k h z))
      ]

  sum-rule : SumRule g rows k (best w f rows)
  sum-rule =
      record {
        low = lowest c k p.value q.value;
        high = lowest c k (top p) (top q);
        extremes = extremes;
        known_iff = (floors-of-known, known-of-floors);
        value_is = λ e. sym (known-sum e p.value q.value (values S)) ∙ settled S k h (floors-of-known e) p.value q.value (values S);
      }

-- ---- the three kinds

module _ (w k : ℕ) (h : k < w) where
  pub add-rule : (ma va mb vb : ℕ) → Ready op_add w 0 (row w ma va ∷ row w mb vb ∷ [])
      → SumRule (lowest_sum k) (row w ma va ∷ row w mb vb ∷ []) k (result_of op_add w 0 (row w ma va ∷ row w mb vb ∷ []))
  unfolding result_of
  add-rule ma va mb vb R = sum-rule (add-sum w ma va mb vb R) k h (lowest_sum k) (λ ns C. sym (add-zero (lowest_sum k ns)))

  -- the lowest k + 1 bits of a difference, as a sum
  difference : (x y : ℕ) → y < 2 ^ w → 2 ^ suc k + x % 2 ^ suc k - y % 2 ^ suc k ≡ lowest 1 k x (opposite w y)
  difference x y l = omega (arith, opposite-low w (suc k) y l h, mod-lt y (pow_pos (suc k)))

  pub sub-rule : (ma va mb vb : ℕ) → Ready op_sub w 0 (row w ma va ∷ row w mb vb ∷ [])
      → SumRule (lowest_difference k) (row w ma va ∷ row w mb vb ∷ []) k (result_of op_sub w 0 (row w ma va ∷ row w mb vb ∷ []))
  unfolding result_of
  sub-rule ma va mb vb R =
      sum-rule (sub-sum w ma va mb vb R) k h (lowest_difference k)
      (λ ns C. difference (first ns) (second ns) (chosen_at (row w ma va ∷ row w mb vb ∷ []) ns C 1).below)

  negation : (y : ℕ) → y < 2 ^ w → 2 ^ suc k - y % 2 ^ suc k ≡ lowest 1 k 0 (opposite w y)
  negation y l =
      let z : 2 ^ suc k ≡ 2 ^ suc k + 0 % 2 ^ suc k = omega (arith, zero-mod (2 ^ suc k)) in
      ap (λ (n : ℕ). n - y % 2 ^ suc k) z ∙ difference 0 y l

  pub neg-rule : (m v : ℕ) → Ready op_neg w 0 (row w m v ∷ []) → SumRule (lowest_negation k) (row w m v ∷ []) k (result_of op_neg w 0 (row w m v ∷ []))
  unfolding result_of
  neg-rule m v R = sum-rule (neg_sum w m v R) k h (lowest_negation k) (λ ns C. negation (first ns) (chosen_at (row w m v ∷ []) ns C 0).below)
