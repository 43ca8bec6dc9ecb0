-- When two operands may be equal and when they may differ, by their masks and values, for every width. Assumes nothing.
--   clash n ..   the bits known in both that differ, in a word of n bits: where there is none they may be equal
--   loose ..     the bits unknown in one or different: where there is one they may differ
use Rattle.std.proofs.Common.{◌≡◌, ℕ, ◌-◌, ◌^◌, ◌<◌, ◌≤◌, min, max, Bool, not, T, eqb, List, [], ◌∷◌, get_or, sym, ap, ◌∙◌, subst, ap₂, inl, inr, lt_of_lt_of_le, lt_of_le_of_lt, arith, eqb→eq, T_not, pow_pos, pow_mono}
use native.Mathlib.Decide.{ℕ_discrete}
use lib.Dec.{eqb_refl, not_T}
use lib.Bits.{bit_and, bit_or, bit_xor, differ, and_le_l, or_lt, or_comm, xor_lt, xor_self}
use Rattle.bits.specs.Bit.{bit, digit}
use Rattle.bits.proofs.Bools.{eq→eqb}
use Rattle.bits.proofs.Bits.{bit-lt, bit-cases, bit-or, bit-xor, bit-ext, bit-of-zero}
use Rattle.bits.proofs.SameBits.{differ-cases}
use Rattle.vectors.specs.Row.{row, WellFormed, Covers}
use Rattle.vectors.specs.Choice.{Chosen}
use Rattle.vectors.specs.Best.{best}
use Rattle.vectors.proofs.Rows.{covers-value, covers-top, top-sum}
use Rattle.vectors.proofs.BestLaws.{known-covers}
use Rattle.bits.proofs.Words.{bit-clear, or-zero, xor-zero}
use Rattle.vectors.proofs.Operands.{chosen_at}
use Rattle.logic.proofs.Tests.{Tells, Tested, tests-best}

abbrev pub clash : ℕ → ℕ → ℕ → ℕ → ℕ → ℕ
clash n ma va mb vb = bit_and (bit_xor va vb) (2 ^ n - 1 - bit_or ma mb)

abbrev pub loose : ℕ → ℕ → ℕ → ℕ → ℕ
loose ma va mb vb = bit_or (bit_or ma mb) (bit_xor va vb)

abbrev pub equal : List ℕ → Bool
equal ns = eqb (get_or ns 0 0) (get_or ns 1 0)

-- where no bit known in both differs, the bits set in either value make a number that both cover
meets : (w m v m' v' : ℕ) → WellFormed (row w m v) → WellFormed (row w m' v')
    → ((k : ℕ) → k < w → bit m k ≡ 0 → bit m' k ≡ 0 → bit v k ≡ bit v' k) → Covers (row w m v) (bit_or v v')
meets w m v m' v' F G same =
    record {
      below = or_lt w v v' F.value_below G.value_below;
      agrees = λ k l e. bit-or v v' k ∙ elim (bit-cases m' k) [
        | inl z ↦ let d = same k l e z in omega arith
        | inr z ↦ let d = G.apart k z in omega arith
      ];
    }

module _ (w n ma va mb vb : ℕ) (i : w ≤ n) (A : WellFormed (row w ma va)) (B : WellFormed (row w mb vb)) where
  clash-bit : (k : ℕ) → k < w → bit (clash n ma va mb vb) k ≡ min (differ (bit va k) (bit vb k)) (1 - max (bit ma k) (bit mb k))
  clash-bit k l =
      bit-clear n (bit_xor va vb) (bit_or ma mb) k (lt_of_lt_of_le (or_lt w ma mb A.mask_below B.mask_below) (pow_mono i)) (lt_of_lt_of_le l i)
      ∙ ap₂ (λ (x y : ℕ). min x (1 - y)) (bit-xor va vb k) (bit-or ma mb k)

  clash-below : clash n ma va mb vb < 2 ^ w
  clash-below = lt_of_le_of_lt (and_le_l _ _) (xor_lt w va vb A.value_below B.value_below)

  no-clash : clash n ma va mb vb ≡ 0 → (k : ℕ) → k < w → bit ma k ≡ 0 → bit mb k ≡ 0 → bit va k ≡ bit vb k
  no-clash e k l p q =
      let z = sym (clash-bit k l) ∙ ap (λ (x : ℕ). bit x k) e ∙ bit-of-zero k in
      elim (differ-cases (bit va k) (bit vb k) (bit-lt va k) (bit-lt vb k)) [ inl d ↦ d.0 | inr d ↦ absurd (omega arith) ]

  clash-zero : ((k : ℕ) → k < w → bit ma k ≡ 0 → bit mb k ≡ 0 → bit va k ≡ bit vb k) → clash n ma va mb vb ≡ 0
  clash-zero same = bit-ext w (clash n ma va mb vb) 0 clash-below (pow_pos w) (λ k l. clash-bit k l ∙ at k l ∙ sym (bit-of-zero k))
    where
      at : (k : ℕ) → k < w → min (differ (bit va k) (bit vb k)) (1 - max (bit ma k) (bit mb k)) ≡ 0
      at k l =
          elim (bit-cases ma k) [
            | inr p ↦ omega arith
            | inl p ↦ elim (bit-cases mb k) [
              | inr q ↦ omega arith
              | inl q ↦ elim (differ-cases (bit va k) (bit vb k) (bit-lt va k) (bit-lt vb k)) [
                | inl d ↦ omega arith
                | inr d ↦ let e = same k l p q in absurd (omega arith)
              ]
            ]
          ]

  may-equal : Tells (row w ma va ∷ row w mb vb ∷ []) equal (eqb (clash n ma va mb vb) 0)
  may-equal =
      record {
        some = λ t.
            let e = no-clash (eqb→eq (clash n ma va mb vb) 0 t) in
            let x = meets w ma va mb vb A B e in
            let y = subst (Covers (row w mb vb)) (or_comm vb va) (meets w mb vb ma va B A (λ k l p q. sym (e k l q p))) in
            (bit_or va vb ∷ bit_or va vb ∷ [], (x, (y, tt)), eqb_refl (bit_or va vb));
        every = λ ns c t.
            let x = chosen_at (row w ma va ∷ row w mb vb ∷ []) ns c 0 in
            let y = chosen_at (row w ma va ∷ row w mb vb ∷ []) ns c 1 in
            let e = eqb→eq (get_or ns 0 0) (get_or ns 1 0) t in
            eq→eqb (clash-zero (λ k l p q. sym (x.agrees k l p) ∙ ap (λ (z : ℕ). bit z k) e ∙ y.agrees k l q));
      }

  may-differ : Tells (row w ma va ∷ row w mb vb ∷ []) (λ ns. not (equal ns)) (not (eqb (loose ma va mb vb) 0))
  may-differ =
      record {
        some = λ t. some (λ e. T_not (eqb (loose ma va mb vb) 0) t (eq→eqb e));
        every = λ ns c t. not_T (eqb (loose ma va mb vb) 0) (λ u. every ns c t (eqb→eq (loose ma va mb vb) 0 u));
      }
    where
      differs : (x y : ℕ) → (x ≡ y → ⊥) → T (not (eqb x y))
      differs x y d = not_T (eqb x y) (λ t. d (eqb→eq x y t))

      some : (loose ma va mb vb ≡ 0 → ⊥) → (ns : List ℕ) × Chosen (row w ma va ∷ row w mb vb ∷ []) ns × T (not (equal ns))
      some z =
          let x = covers-value (row w ma va) A in
          let y = covers-value (row w mb vb) B in
          let s = top-sum (row w ma va) A in
          let r = top-sum (row w mb vb) B in
          elim (ℕ_discrete va vb) [
            | no d ↦ (va ∷ vb ∷ [], (x, (y, tt)), differs va vb d)
            | yes e ↦ elim (ℕ_discrete ma 0) [
              | no d ↦ (bit_or va ma ∷ vb ∷ [], (covers-top (row w ma va) A, (y, tt)), differs (bit_or va ma) vb (λ i. omega arith))
              | yes p ↦ elim (ℕ_discrete mb 0) [
                | no d ↦ (va ∷ bit_or vb mb ∷ [], (x, (covers-top (row w mb vb) B, tt)), differs va (bit_or vb mb) (λ i. omega arith))
                | yes q ↦ absurd (z (ap₂ bit_or (ap₂ bit_or p q) (ap (bit_xor va) (sym e) ∙ xor_self va)))
              ]
            ]
          ]

      every : (ns : List ℕ) → Chosen (row w ma va ∷ row w mb vb ∷ []) ns → T (not (equal ns)) → loose ma va mb vb ≡ 0 → ⊥
      every ns c t e =
          let (u, d) = or-zero (bit_or ma mb) (bit_xor va vb) e in
          let (p, q) = or-zero ma mb u in
          let x = known-covers (row w ma va) (get_or ns 0 0) A p (chosen_at (row w ma va ∷ row w mb vb ∷ []) ns c 0) in
          let y = known-covers (row w mb vb) (get_or ns 1 0) B q (chosen_at (row w ma va ∷ row w mb vb ∷ []) ns c 1) in
          T_not (equal ns) t (eq→eqb (x ∙ xor-zero va vb d ∙ sym y))

  pub equality-best : (m v : ℕ) → Tested (not (eqb (loose ma va mb vb) 0)) (eqb (clash n ma va mb vb) 0) m v
      → row 1 m v ≡ best 1 (λ ns. digit (equal ns)) (row w ma va ∷ row w mb vb ∷ [])
  equality-best m v = tests-best equal (row w ma va ∷ row w mb vb ∷ []) (not (eqb (loose ma va mb vb) 0)) (eqb (clash n ma va mb vb) 0) m v (A, (B, tt)) may-differ may-equal
