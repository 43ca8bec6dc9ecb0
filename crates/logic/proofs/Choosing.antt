-- ite: the row that a known condition picks, and the join of both rows where the condition is unknown, for every width. Assumes nothing.
use Rattle.std.proofs.Common.{◌≡◌, ℕ, zero, suc, ◌<◌, cond, eqb, ◌⊎◌, List, [], ◌∷◌, get_or, refl, ap, ◌∙◌, subst, inl, inr, arith}
use Rattle.bits.specs.Bit.{bit}
use Rattle.vectors.specs.Row.{Row, row, WellFormed, Covers}
use Rattle.vectors.specs.Hull.{Hull, Results, join}
use Rattle.vectors.proofs.Rows.{covers-value}
use Rattle.vectors.proofs.Hulls.{hull-row, hull-iff}
use Rattle.vectors.proofs.Joins.{hull-join}
use Rattle.vectors.proofs.Bests.{best-of-hull}
use Rattle.vectors.proofs.BestLaws.{known-covers}
use Rattle.operations.specs.Arithmetic.{op_ite}
use Rattle.operations.specs.Result.{result_of, Ready}
use Rattle.logic.proofs.Bitwise.{bit-one}
use Rattle.vectors.proofs.Operands.{no_row, chosen_at}

module _ (w ma va mb vb mc vc : ℕ) (R : Ready op_ite w 0 (row w ma va ∷ row w mb vb ∷ row 1 mc vc ∷ [])) where
  rows : List Row
  rows = row w ma va ∷ row w mb vb ∷ row 1 mc vc ∷ []

  picks : List ℕ → ℕ
  picks ns = cond (eqb (get_or ns 2 0) 1) (get_or ns 0 0) (get_or ns 1 0)

  A : WellFormed (row w ma va)
  A = R.formed.0

  B : WellFormed (row w mb vb)
  B = R.formed.1.0

  C : WellFormed (row 1 mc vc)
  C = R.formed.1.1.0

  -- the numbers that the condition may pick
  Picked : ℕ → Type 0
  Picked n = (Covers (row 1 mc vc) 1 × Covers (row w ma va) n) ⊎ (Covers (row 1 mc vc) 0 × Covers (row w mb vb) n)

  by_condition : (n x y c : ℕ) → Covers (row w ma va) x → Covers (row w mb vb) y → Covers (row 1 mc vc) c → cond (eqb c 1) x y ≡ n → Picked n
  unfolding Picked
  by_condition n x y zero p q s e = inr (s, subst (Covers (row w mb vb)) e q)
  by_condition n x y (suc zero) p q s e = inl (s, subst (Covers (row w ma va)) e p)
  by_condition n x y (suc (suc c)) p q s e = absurd (let l = s.below in omega arith)

  picked : (n : ℕ) → Results picks rows n → Picked n
  unfolding rows picks
  picked n r =
      let at : (i : ℕ) → Covers (get_or rows i no_row) (get_or r.numbers i 0) = chosen_at rows r.numbers r.chosen in
      by_condition n (get_or r.numbers 0 0) (get_or r.numbers 1 0) (get_or r.numbers 2 0) (at 0) (at 1) (at 2) r.gives

  result : (n : ℕ) → Picked n → Results picks rows n
  unfolding rows picks Picked A B
  result n (inl p) = record { numbers = n ∷ vb ∷ 1 ∷ []; chosen = (p.1, (covers-value (row w mb vb) B, (p.0, tt))); gives = refl }
  result n (inr p) = record { numbers = va ∷ n ∷ 0 ∷ []; chosen = (covers-value (row w ma va) A, (p.1, (p.0, tt))); gives = refl }

  -- the best vector for what the condition may pick is the kind's result
  by-hull : (r : Row) → Hull w Picked r → r ≡ result_of op_ite w 0 rows
  unfolding rows picks result_of op_ite
  by-hull r H = best-of-hull w picks rows r R.formed (hull-iff w Picked (Results picks rows) r result picked H)

  pub ite-join : mc ≡ 1 → join (row w ma va) (row w mb vb) ≡ result_of op_ite w 0 (row w ma va ∷ row w mb vb ∷ row 1 mc vc ∷ [])
  unfolding rows Picked A B
  ite-join e =
      by-hull (join (row w ma va) (row w mb vb))
      (hull-iff w (λ n. Covers (row w ma va) n ⊎ Covers (row w mb vb) n) Picked _ (λ n s. elim s [ inl p ↦ inl (any 1 (omega arith), p) | inr p ↦ inr (any 0 (omega arith), p) ])
      (λ n s. elim s [ inl p ↦ inl p.1 | inr p ↦ inr p.1 ])
      (hull-join w _ _ (row w ma va) (row w mb vb) (hull-row (row w ma va) A) (hull-row (row w mb vb) B)
      (record { member = va; is_inside = covers-value (row w ma va) A }) (record { member = vb; is_inside = covers-value (row w mb vb) B })))
    where
      any : (c : ℕ) → c < 2 → Covers (row 1 mc vc) c
      any c l = record { below = l; agrees = λ k h z. absurd (let u = ap (λ (x : ℕ). bit x k) e ∙ bit-one 1 (omega arith) k h in omega arith) }

  pub ite-first : mc ≡ 0 → vc ≡ 1 → row w ma va ≡ result_of op_ite w 0 (row w ma va ∷ row w mb vb ∷ row 1 mc vc ∷ [])
  unfolding rows Picked A C
  ite-first e f =
      by-hull (row w ma va)
      (hull-iff w (Covers (row w ma va)) Picked _ (λ n p. inl (subst (Covers (row 1 mc vc)) f (covers-value (row 1 mc vc) C), p))
      (λ n s. elim s [ inl p ↦ p.1 | inr p ↦ absurd (let z = known-covers (row 1 mc vc) 0 C e p.0 in omega arith) ])
      (hull-row (row w ma va) A))

  pub ite-second : mc ≡ 0 → vc ≡ 0 → row w mb vb ≡ result_of op_ite w 0 (row w ma va ∷ row w mb vb ∷ row 1 mc vc ∷ [])
  unfolding rows Picked B C
  ite-second e f =
      by-hull (row w mb vb)
      (hull-iff w (Covers (row w mb vb)) Picked _ (λ n p. inr (subst (Covers (row 1 mc vc)) f (covers-value (row 1 mc vc) C), p))
      (λ n s. elim s [ inl p ↦ absurd (let z = known-covers (row 1 mc vc) 1 C e p.0 in omega arith) | inr p ↦ p.1 ])
      (hull-row (row w mb vb) B))
