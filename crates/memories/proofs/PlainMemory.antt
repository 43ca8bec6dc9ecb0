-- What a load and a store do to the numbers of a plain run: a load replaces its target's number, a store one cell's number or none. Assumes nothing.
use mathlib.Core.Path.{◌≡◌, refl, sym, ap, ◌∙◌}
use mathlib.Core.List.{List, [], ◌∷◌, map}
use Prim.Native.Nat.{ℕ, zero, suc, ◌+◌, ◌≤◌, ◌<◌}
use native.Mathlib.Decide.{ℕ_discrete}
use native.Mathlib.Omega.{arith}
use lib.Dec.{not_T, eqb, eqb→eq}
use lib.ListN.{length, get_or, set, length-map, get_or-eq_default}
use lib.Seq.{set-get_or, get_or-set_other}
use Rattle.bits.proofs.Bools.{eq→eqb, when_true, when_false}
use Rattle.bits.specs.Counted.{listed}
use Rattle.bits.proofs.Listed.{get_or-from, length-listed}
use Rattle.vectors.proofs.ListParts.{listed-map}
use Rattle.steps.specs.Step.{set_all, operand_numbers, plain_step}
use Rattle.operations.specs.Memory.{span}
use Rattle.memories.specs.Effects.{load_effect, store_effect, store_effects}

-- ---- a load

pub plain-load : (t a base n : ℕ) (ns : List ℕ) → get_or ns a 0 < n → plain_step (load_effect t a base n ∷ []) ns ≡ set ns t (get_or ns (base + get_or ns a 0) 0)
unfolding plain_step
plain-load t a base n ns h = ap (set ns t) (ap (λ (l : List ℕ). get_or l (get_or ns a 0) 0) (listed-map (λ i. get_or ns i 0) (λ i. i) base n) ∙ get_or-from (λ i. get_or ns i 0) 0 base n (get_or ns a 0) h)

pub plain-load-past : (t a base n : ℕ) (ns : List ℕ) → n ≤ get_or ns a 0 → plain_step (load_effect t a base n ∷ []) ns ≡ set ns t 0
unfolding plain_step
plain-load-past t a base n ns h =
    let e : length (map (λ i. get_or ns i 0) (span base n)) ≡ n = length-map (span base n) (λ i. get_or ns i 0) ∙ length-listed (λ i. i) base n in
    ap (set ns t) (get_or-eq_default (map (λ i. get_or ns i 0) (span base n)) 0 (omega arith))

-- ---- a store

module _ (a d base : ℕ) (ns₀ : List ℕ) where
  abbrev x : ℕ
  x = get_or ns₀ a 0

  -- the numbers ns once the cells i, i + 1, .. , of which there are n, have been set as the store leaves them
  unfoldable cells : ℕ → ℕ → List ℕ → List ℕ
  cells i n ns = set_all (λ e. e.target) (λ e. e.value (operand_numbers ns₀ e)) (listed (store_effect a d base) i n) ns

  -- the cells i and up have their numbers of before the record
  abbrev Kept : ℕ → List ℕ → Type 0
  Kept i ns = (j : ℕ) → i ≤ j → get_or ns (base + j) 0 ≡ get_or ns₀ (base + j) 0

  -- a cell that the address does not name
  skip : (n i : ℕ) (ns : List ℕ) → ¬ (x ≡ i) → Kept i ns → cells i (suc n) ns ≡ cells (suc i) n ns
  unfolding cells listed
  skip n i ns h K =
      ap (λ (v : ℕ). cells (suc i) n (set ns (base + i) v)) (when_false (eqb x i) (get_or ns₀ d 0) (get_or ns₀ (base + i) 0) (not_T (eqb x i) (λ t. h (eqb→eq x i t))) ∙ sym (K i (omega arith)))
      ∙ ap (cells (suc i) n) (set-get_or ns (base + i) 0)

  others : (n i : ℕ) (ns : List ℕ) → ((j : ℕ) → i ≤ j → j < i + n → ¬ (x ≡ j)) → Kept i ns → cells i n ns ≡ ns
  unfolding cells listed
  others zero i ns h K = refl
  others (suc n) i ns h K = skip n i ns (h i (omega arith) (omega arith)) K ∙ others n (suc i) ns (λ j l u. h j (omega arith) (omega arith)) (λ j l. K j (omega arith))

  named : (n i : ℕ) (ns : List ℕ) → i ≤ x → x < i + n → Kept i ns → cells i n ns ≡ set ns (base + x) (get_or ns₀ d 0)
  unfolding cells listed
  named zero i ns l u K = absurd (omega arith)
  named (suc n) i ns l u K =
      elim (ℕ_discrete x i) [
        | yes e ↦
            ap (λ (v : ℕ). cells (suc i) n (set ns (base + i) v)) (when_true (eqb x i) (get_or ns₀ d 0) (get_or ns₀ (base + i) 0) (eq→eqb e))
            ∙ others n (suc i) (set ns (base + i) (get_or ns₀ d 0)) (λ j l u f. omega arith)
            (λ j l. get_or-set_other ns (base + i) (base + j) (get_or ns₀ d 0) 0 (λ f. omega arith) ∙ K j (omega arith))
            ∙ ap (λ (k : ℕ). set ns (base + k) (get_or ns₀ d 0)) (sym e)
        | no e ↦ skip n i ns e K ∙ named n (suc i) ns (omega arith) (omega arith) (λ j l. K j (omega arith))
      ]

  pub plain-store : (n : ℕ) → x < n → plain_step (store_effects a d base n) ns₀ ≡ set ns₀ (base + x) (get_or ns₀ d 0)
  unfolding plain_step store_effects cells
  plain-store n h = named n 0 ns₀ (omega arith) (omega arith) (λ j l. refl)

  pub plain-store-past : (n : ℕ) → n ≤ x → plain_step (store_effects a d base n) ns₀ ≡ ns₀
  unfolding plain_step store_effects cells
  plain-store-past n h = others n 0 ns₀ (λ j l u e. omega arith) (λ j l. refl)
