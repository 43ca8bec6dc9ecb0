-- A store as the code makes it, cell after cell, from the cell of the least address to that of the greatest. Assumes nothing.
--   rest i s       the rows s once cells i, i + 1, .. have been put as the store leaves them
--   Storing i s    the store's loop stands before cell i with the rows s
use mathlib.Core.Path.{◌≡◌, refl, sym, ap, ◌∙◌}
use mathlib.Core.Logic.{◌≢◌}
use mathlib.Core.Bool.{not, cond}
use mathlib.Core.List.{List}
use Prim.Native.Nat.{ℕ, zero, suc, ◌+◌, ◌-◌, ◌≤◌, ◌<◌, min}
use native.Mathlib.Nat.{add-zero, sub_self, zero-add}
use native.Mathlib.Numerals.{add-one}
use native.Mathlib.Omega.{arith}
use lib.Dec.{T, not_T, eqb, eqb→eq}
use lib.ListN.{length, get_or, set, length-set}
use lib.Bits.{bit_or}
use lib.Seq.{set-get_or}
use Rattle.bits.proofs.Bools.{eq→eqb, when_true, when_false}
use Rattle.vectors.specs.Row.{Row, row, WellFormed, Covers}
use Rattle.vectors.specs.Hull.{join}
use Rattle.vectors.proofs.Rows.{covers-value, value-least, top-greatest}
use Rattle.vectors.proofs.BestLaws.{known-covers}
use Rattle.operations.specs.Record.{Effect, width_at}
use Rattle.checks.specs.Table.{State, row_at}
use Rattle.bits.specs.Counted.{listed}
use Rattle.steps.specs.Step.{put, put_all, result, step}
use Rattle.steps.specs.States.{StateFits}
use Rattle.steps.proofs.Put.{row_other}
use Rattle.memories.specs.Effects.{store_effect, store_effects, SpanFits}
use Rattle.lookups.specs.Lookup.{greatest, names, join_if, store_row}
use Rattle.lookups.proofs.Named.{names-covered, covered-named}
use Rattle.lookups.proofs.Stores.{store-best}

-- ---- the three cases of a cell

store_other : (i : ℕ) (a d c : Row) → WellFormed a → ¬ Covers a i → store_row i a d c ≡ c
unfolding store_row
store_other i a d c A h = when_false (names a i) (cond (eqb a.mask 0) d (join c d)) c (not_T (names a i) (λ t. h (covered-named a A i t)))

store-known : (i : ℕ) (a d c : Row) → WellFormed a → Covers a i → a.mask ≡ 0 → store_row i a d c ≡ d
unfolding store_row
store-known i a d c A h e = when_true (names a i) (cond (eqb a.mask 0) d (join c d)) c (names-covered a A i h) ∙ when_true (eqb a.mask 0) d (join c d) (eq→eqb e)

store-doubtful : (i : ℕ) (a d c : Row) → T (not (eqb a.mask 0)) → store_row i a d c ≡ join_if (names a i) c d
unfolding store_row
store-doubtful i a d c e = ap (λ (r : Row). cond (names a i) r c) (when_false (eqb a.mask 0) d (join c d) e)

-- ---- cell after cell

module _ (widths : List ℕ) (s₀ : State) (a d base n : ℕ) where
  abbrev address : Row
  address = row_at widths s₀ a

  abbrev given : Row
  given = row_at widths s₀ d

  abbrev cell : ℕ → Row
  cell i = row_at widths s₀ (base + i)

  unfoldable pub rest : ℕ → State → State
  rest i s = put_all (λ e. e.target) (result widths s₀) (listed (store_effect a d base) i (n - i)) s

  -- the rows from cell i on are as before the record
  abbrev Kept : ℕ → State → Type 0
  Kept i s = (j : ℕ) → i ≤ j → row_at widths s (base + j) ≡ cell j

  pub record Storing (i : ℕ) (s : State) : Type 0 where
    pub masks_length : length s.masks ≡ length s₀.masks
    pub values_length : length s.values ≡ length s₀.values
    pub kept : Kept i s
    pub whole : step widths (store_effects a d base n) s₀ ≡ rest i s

  module _ (S : StateFits widths s₀) (F : SpanFits widths a d base n) where
    formed : WellFormed address
    formed = S.formed a F.address_in

    pub cell-result : (i : ℕ) → i < n → store_row i address given (cell i) ≡ result widths s₀ (store_effect a d base i)
    cell-result i h =
        store-best (width_at widths (base + i)) i address given (cell i) formed (record { width_is = sym (F.cell_width i h); formed = S.formed d F.like_in })
        (record { width_is = refl; formed = S.formed (base + i) (let l = F.span_in in omega arith) })

    kept_put : (i : ℕ) (s : State) (r : Row) → Kept i s → Kept (i + 1) (put s (base + i) r)
    kept_put i s r K j l = row_other widths s (base + i) r (base + j) (λ e. omega arith) ∙ K j (omega arith)

    rest-start : step widths (store_effects a d base n) s₀ ≡ rest 0 s₀
    unfolding step store_effects rest
    rest-start =
        let e : n ≡ n - 0 = omega arith in
        ap (λ (k : ℕ). put_all (λ (e : Effect). e.target) (result widths s₀) (listed (store_effect a d base) 0 k) s₀) e

    rest_end : (s : State) → rest n s ≡ s
    unfolding rest listed
    rest_end s = ap (λ (k : ℕ). put_all (λ (e : Effect). e.target) (result widths s₀) (listed (store_effect a d base) n k) s) (sub_self n)

    rest-next : (i : ℕ) → i < n → (s : State) → rest i s ≡ rest (i + 1) (put s (base + i) (store_row i address given (cell i)))
    unfolding rest listed
    rest-next i h s =
        let e : n - i ≡ suc (n - (i + 1)) = omega arith in
        ap (λ (k : ℕ). put_all (λ (e : Effect). e.target) (result widths s₀) (listed (store_effect a d base) i k) s) e
        ∙ ap (λ (r : Row). put_all (λ (e : Effect). e.target) (result widths s₀) (listed (store_effect a d base) (suc i) (n - (i + 1))) (put s (base + i) r)) (sym (cell-result i h))
        ∙ ap (λ (k : ℕ). put_all (λ (e : Effect). e.target) (result widths s₀) (listed (store_effect a d base) k (n - (i + 1))) (put s (base + i) (store_row i address given (cell i)))) (sym (add-one i))

    put_same : (s : State) (i : ℕ) → put s i (row_at widths s i) ≡ s
    put_same s i = λ ι. record { masks = set-get_or s.masks i 0 ι; values = set-get_or s.values i 0 ι }

    -- cells that the address cannot name
    rest-skips : (s : State) (j i : ℕ) → i + j ≤ n → ((k : ℕ) → i ≤ k → k < i + j → ¬ Covers address k) → Kept i s → rest i s ≡ rest (i + j) s
    rest-skips s zero i h never K = ap (λ (k : ℕ). rest k s) (sym (add-zero i))
    rest-skips s (suc j) i h never K =
        let e : i + 1 + j ≡ i + suc j = omega arith in
        rest-next i (omega arith) s
        ∙ ap (λ (r : Row). rest (i + 1) (put s (base + i) r)) (store_other i address given (cell i) formed (never i (omega arith) (omega arith)) ∙ sym (K i (omega arith)))
        ∙ ap (rest (i + 1)) (put_same s (base + i))
        ∙ rest-skips s j (i + 1) (omega arith) (λ k l u. never k (omega arith) (omega arith)) (λ k l. K k (omega arith))
        ∙ ap (λ (k : ℕ). rest k s) e

    -- those below the least address, and those above the greatest
    rest_below : (k : ℕ) → k ≤ n → k ≤ address.value → step widths (store_effects a d base n) s₀ ≡ rest k s₀
    rest_below k h l =
        rest-start
        ∙ rest-skips s₀ k 0 (omega arith) (λ i g u c. let v = value-least address i formed c in omega arith) (λ j g. refl)
        ∙ ap (λ (i : ℕ). rest i s₀) (zero-add k)

    rest-above : (i : ℕ) → i ≤ n → (s : State) → Kept i s → ((k : ℕ) → i ≤ k → k < n → ¬ Covers address k) → rest i s ≡ s
    rest-above i h s K never =
        let e : i + (n - i) ≡ n = omega arith in
        rest-skips s (n - i) i (omega arith) (λ k l u. never k l (omega arith)) K ∙ ap (λ (k : ℕ). rest k s) e ∙ rest_end s

    -- ---- no address below n

    pub store-past : n ≤ address.value → s₀ ≡ step widths (store_effects a d base n) s₀
    store-past h = sym (rest_below n (omega arith) h ∙ rest_end s₀)

    -- ---- one known address below n

    pub store-one : address.mask ≡ 0 → address.value < n → put s₀ (base + address.value) given ≡ step widths (store_effects a d base n) s₀
    store-one e h =
        let x = address.value in
        sym (rest_below x (omega arith) (omega arith)
        ∙ rest-next x h s₀
        ∙ ap (λ (r : Row). rest (x + 1) (put s₀ (base + x) r)) (store-known x address given (cell x) formed (covers-value address formed) e)
        ∙ rest-above (x + 1) (omega arith) (put s₀ (base + x) given) (kept_put x s₀ given (λ j g. refl)) (λ k l u c. let y = known-covers address k formed e c in omega arith))

    -- ---- the loop of a doubtful address

    module _ (end : ℕ) (ee : end ≡ min n (suc (greatest address))) (h : address.value < n) (doubtful : address.mask ≢ 0) where
      pub storing-start : (address.value ≤ end) × Storing address.value s₀
      storing-start =
          let l = top-greatest address address.value formed (covers-value address formed) in
          (omega arith, record { masks_length = refl; values_length = refl; kept = λ j g. refl; whole = rest_below address.value (omega arith) (omega arith) })

      pub storing-turn : (i : ℕ) → i < end → (s : State) → Storing i s → (m v : ℕ) → ((w : ℕ) → row w m v ≡ join_if (eqb (bit_or i address.mask) (greatest address)) (row w (get_or s.masks (base + i) 0) (get_or s.values (base + i) 0)) (row w given.mask given.value))
          → Storing (i + 1) (record { masks = set s.masks (base + i) m; values = set s.values (base + i) v })
      unfolding names
      storing-turn i l s G m v e =
          record {
            masks_length = length-set s.masks (base + i) m ∙ G.masks_length;
            values_length = length-set s.values (base + i) v ∙ G.values_length;
            kept = kept_put i s (row w m v) G.kept;
            whole = G.whole ∙ rest-next i (omega arith) s ∙ ap (λ (r : Row). rest (i + 1) (put s (base + i) r)) (sym is);
          }
        where
          w : ℕ
          w = width_at widths (base + i)

          is : row w m v ≡ store_row i address given (cell i)
          is =
              e w
              ∙ (λ ι. join_if (eqb (bit_or i address.mask) (greatest address)) (G.kept i (omega arith) ι) (row (F.cell_width i (omega arith) ι) given.mask given.value))
              ∙ sym (store-doubtful i address given (cell i) (not_T (eqb address.mask 0) (λ z. doubtful (eqb→eq address.mask 0 z))))

      pub storing-end : (i : ℕ) → end ≤ i → i ≤ end → (s : State) → Storing i s → s ≡ step widths (store_effects a d base n) s₀
      storing-end i l l' s G = sym (G.whole ∙ rest-above i (omega arith) s G.kept (λ k g f c. let y = top-greatest address k formed c in omega arith))
