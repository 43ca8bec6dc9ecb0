-- `store_row` is the best result of a store for one cell, for every width. Assumes nothing.
use mathlib.Core.Path.{◌≡◌, refl, sym, ◌∙◌, subst}
use mathlib.Core.Bool.{Bool, true, false, not, cond}
use mathlib.Core.Logic.{◌≢◌, ◌⊎◌, inl, inr}
use mathlib.Core.List.{List, [], ◌∷◌}
use Prim.Native.Nat.{ℕ}
use native.Mathlib.Decide.{ℕ_discrete}
use native.Mathlib.Omega.{arith}
use lib.Dec.{T, T_not, not_T, eqb, eqb→eq}
use lib.Bits.{or_disjoint}
use Rattle.bits.proofs.Bits.{bit-cases}
use Rattle.bits.proofs.Bools.{eq→eqb, when_true, when_false, by_cond}
use Rattle.vectors.specs.Row.{Row, WellFormed, Covers}
use Rattle.vectors.specs.Choice.{Chosen}
use Rattle.vectors.specs.Best.{best}
use Rattle.vectors.specs.Hull.{Hull, Results, join}
use Rattle.vectors.proofs.Rows.{top, covers-value, covers-top, and-of-apart}
use Rattle.vectors.proofs.Hulls.{hull-iff}
use Rattle.vectors.proofs.Joins.{hull-join}
use Rattle.vectors.proofs.Bests.{best-of-hull}
use Rattle.vectors.proofs.BestLaws.{known-covers}
use Rattle.operations.specs.Memory.{store_number}
use Rattle.lookups.specs.Lookup.{names, store_row}
use Rattle.lookups.proofs.Named.{names-covered, covered-named, Cell, hull-cell, some-cell}

-- an address with an unknown bit covers another number than i too
other-address : (a : Row) → WellFormed a → (i : ℕ) → a.mask ≢ 0 → (x : ℕ) × Covers a x × (x ≢ i)
other-address a A i e =
    let apart = and-of-apart a.width a.value a.mask A.value_below A.mask_below (λ k v. elim (bit-cases a.mask k) [ inl z ↦ z | inr z ↦ (let y = A.apart k z in omega arith) ]) in
    let sum = or_disjoint a.value a.mask apart in
    elim (ℕ_discrete a.value i) [
      | yes p ↦ (top a, covers-top a A, λ q. e (omega arith))
      | no p ↦ (a.value, covers-value a A, p)
    ]

module _ (w i : ℕ) (a d c : Row) (A : WellFormed a) (D : Cell w d) (C : Cell w c) where
  abbrev Stored : ℕ → Type 0
  Stored n = Results (store_number i) (a ∷ d ∷ c ∷ []) n

  written : (n : ℕ) → Covers a i → Covers d n → Stored n
  written n ca cd = record { numbers = i ∷ n ∷ c.value ∷ []; chosen = (ca, (cd, (covers-value c C.formed, tt))); gives = when_true (eqb i i) n c.value (eq→eqb {m = i} refl) }

  kept : (x n : ℕ) → Covers a x → x ≢ i → Covers c n → Stored n
  kept x n ca e cc = record { numbers = x ∷ d.value ∷ n ∷ []; chosen = (ca, (covers-value d D.formed, (cc, tt))); gives = when_false (eqb x i) d.value n (not_T (eqb x i) (λ t. e (eqb→eq x i t))) }

  -- every result is the data, with the address i, or the cell, with another
  which : (n : ℕ) → Stored n → (Covers a i × Covers d n) ⊎ ((x : ℕ) × Covers a x × (x ≢ i) × Covers c n)
  which n R = subst (λ (m : ℕ). (Covers a i × Covers d m) ⊎ ((x : ℕ) × Covers a x × (x ≢ i) × Covers c m)) R.gives (go R.numbers R.chosen)
    where
      pick : (x y z : ℕ) (b : Bool) → (T b → x ≡ i) → (T (not b) → x ≢ i) → Covers a x → Covers d y → Covers c z → (Covers a i × Covers d (cond b y z)) ⊎ ((x : ℕ) × Covers a x × (x ≢ i) × Covers c (cond b y z))
      pick x y z true f g ca cd cc = inl (subst (Covers a) (f tt) ca, cd)
      pick x y z false f g ca cd cc = inr (x, ca, g tt, cc)

      go : (ns : List ℕ) → Chosen (a ∷ d ∷ c ∷ []) ns → (Covers a i × Covers d (store_number i ns)) ⊎ ((x : ℕ) × Covers a x × (x ≢ i) × Covers c (store_number i ns))
      go [] h = absurd h
      go (x ∷ []) h = absurd h.1
      go (x ∷ y ∷ []) h = absurd h.1.1
      go (x ∷ y ∷ z ∷ []) h = pick x y z (eqb x i) (eqb→eq x i) (λ t e. T_not (eqb x i) t (eq→eqb e)) h.0 h.1.0 h.1.1.0
      go (x ∷ y ∷ z ∷ u ∷ ns) h = absurd h.1.1.1

  store-hull : Hull w Stored (store_row i a d c)
  unfolding store_row
  store-hull =
      by_cond (Hull w Stored) (names a i) (cond (eqb a.mask 0) d (join c d)) c
      (λ t.
      let ca = covered-named a A i t in
      by_cond (Hull w Stored) (eqb a.mask 0) d (join c d) (λ u. known ca (eqb→eq a.mask 0 u)) (λ u. both ca (λ e. T_not (eqb a.mask 0) u (eq→eqb e))))
      (λ t.
      let no : ¬ Covers a i = λ ca. T_not (names a i) t (names-covered a A i ca) in
      hull-iff w (Covers c) Stored c
      (λ n x. kept a.value n (covers-value a A) (λ e. no (subst (Covers a) e (covers-value a A))) x)
      (λ n R. elim (which n R) [ inl x ↦ absurd (no x.0) | inr x ↦ x.3 ])
      (hull-cell w c C))
    where
      known : Covers a i → a.mask ≡ 0 → Hull w Stored d
      known ca e =
          hull-iff w (Covers d) Stored d (λ n x. written n ca x)
          (λ n R. elim (which n R) [
            | inl x ↦ x.1
            | inr x ↦ absurd (x.2 (known-covers a x.0 A e x.1 ∙ sym (known-covers a i A e ca)))
          ])
          (hull-cell w d D)

      both : Covers a i → a.mask ≢ 0 → Hull w Stored (join c d)
      both ca e =
          hull-iff w (λ n. Covers c n ⊎ Covers d n) Stored (join c d)
          (λ n x. elim x [
            | inl y ↦ let (z, cz, ne) = other-address a A i e in kept z n cz ne y
            | inr y ↦ written n ca y
          ])
          (λ n R. elim (which n R) [ inl x ↦ inr x.1 | inr x ↦ inl x.3 ])
          (hull-join w (Covers c) (Covers d) c d (hull-cell w c C) (hull-cell w d D) (some-cell w c C) (some-cell w d D))

  pub store-best : store_row i a d c ≡ best w (store_number i) (a ∷ d ∷ c ∷ [])
  store-best = best-of-hull w (store_number i) (a ∷ d ∷ c ∷ []) (store_row i a d c) (A, (D.formed, (C.formed, tt))) store-hull
