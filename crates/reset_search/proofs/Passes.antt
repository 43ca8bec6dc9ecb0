-- The loops of the pass: open rows rising, and of each row bits rising. Assumes nothing.
--   AtBit t c i k s   the loop over the bits of row i at bit k;   AtRow t c i s   the loop over the rows at row i:
--                     t has the rows as lent, s are the rows as they then are
use mathlib.Core.Path.{◌≡◌, sym, ap, ◌∙◌, subst}
use mathlib.Core.Logic.{◌≢◌}
use mathlib.Core.List.{List, ◌++◌}
use Prim.Native.Nat.{ℕ, suc, ◌+◌, ◌-◌, ◌≤◌, ◌<◌}
use native.Mathlib.Nat.{sub-zero}
use native.Mathlib.Numerals.{add-one}
use native.Mathlib.Omega.{arith}
use lib.ListN.{length, get_or}
use borrow.Author.Tests.{ne_eqb}
use Rattle.bits.specs.Counted.{listed, rising}
use Rattle.operations.specs.Record.{width_at}
use Rattle.checks.specs.Table.{State, Table, start_of, with_rows}
use Rattle.checks.specs.Model.{lent}
use Rattle.steps.specs.States.{StateFits, held}
use Rattle.tables.proofs.FullRuns.{accepted-from, full-ready}
use Rattle.conclusions.specs.declared.Conclusion.{Conclusion}
use Rattle.conclusions.specs.Pass.{position, bits_in, visit, walk, pass_rows}
use Rattle.steps.specs.Encoding.{OwnRows}
use Rattle.conclusions.specs.Encoding.{InTable}
use Rattle.reset_search.specs.Encoding.{TrialReady, PassReady}
use Rattle.conclusions.proofs.OpenBits.{row-all}
use Rattle.conclusions.proofs.Visits.{visit-fits, visit-same, walk-fits, walk-append, walk_same}

module _ (t : Table) (c : Conclusion) where
  -- ---- the bits of a row from bit k on

  abbrev pub bits_from : ℕ → ℕ → State → State
  bits_from i k s = walk t c (listed (position i) k (width_at t.widths i - k)) s

  bits-start : (i : ℕ) (s : State) → get_or t.locks i 0 ≡ 0 → walk t c (bits_in t i) s ≡ bits_from i 0 s
  bits-start i s o = simp (o, sub-zero)

  bits-step : (i k : ℕ) (s : State) → k < width_at t.widths i → bits_from i k s ≡ bits_from i (k + 1) (visit t c s (position i k))
  unfolding walk listed
  bits-step i k s h =
      let e : width_at t.widths i - k ≡ suc (width_at t.widths i - (k + 1)) = omega arith in
      ap (λ (m : ℕ). walk t c (listed (position i) k m) s) e
      ∙ ap (λ (j : ℕ). walk t c (listed (position i) j (width_at t.widths i - (k + 1))) (visit t c s (position i k))) (sym (add-one k))

  bits-end : (i k : ℕ) (s : State) → width_at t.widths i ≤ k → bits_from i k s ≡ s
  unfolding walk listed
  bits-end i k s h = let e : width_at t.widths i - k ≡ 0 = omega arith in ap (λ (m : ℕ). walk t c (listed (position i) k m) s) e

  -- ---- the open rows from row i on

  abbrev pub rows_from : ℕ → State → State
  rows_from i s = walk t c (rising (bits_in t) i (length t.widths - i)) s

  rows_step : (i : ℕ) (s : State) → i < length t.widths → rows_from i s ≡ rows_from (i + 1) (walk t c (bits_in t i) s)
  unfolding rising
  rows_step i s h =
      let e : length t.widths - i ≡ suc (length t.widths - (i + 1)) = omega arith in
      ap (λ (m : ℕ). walk t c (rising (bits_in t) i m) s) e
      ∙ ap (λ (j : ℕ). walk t c (bits_in t i ++ rising (bits_in t) j (length t.widths - (i + 1))) s) (sym (add-one i))
      ∙ walk-append t c (bits_in t i) (rising (bits_in t) (i + 1) (length t.widths - (i + 1))) s

  rows_end : (i : ℕ) (s : State) → length t.widths ≤ i → rows_from i s ≡ s
  unfolding walk rising
  rows_end i s h = let e : length t.widths - i ≡ 0 = omega arith in ap (λ (m : ℕ). walk t c (rising (bits_in t) i m) s) e

-- ---- the two loops, in the code's terms

pub record AtBit (t : Table) (c : Conclusion) (i k : ℕ) (s : State) : Type 0 where
  pub fits : StateFits t.widths s
  pub rest_is : walk t c (bits_in t i) (start_of t) ≡ bits_from t c i k s

pub record AtRow (t : Table) (c : Conclusion) (i : ℕ) (s : State) : Type 0 where
  pub fits : StateFits t.widths s
  pub rest_is : pass_rows t c ≡ rows_from t c i s

-- what a visit asks of the rows as they then are
pub trial-ready : (t : Table) (c : Conclusion) (tm tv : List ℕ) → PassReady t c tm tv → (s : State) → StateFits t.widths s → (um uv : List ℕ) → OwnRows t.widths um uv
    → TrialReady t.widths s t.words c um uv
trial-ready t c tm tv R s S um uv U = record { steps = full-ready t R.accepted s S; named = R.named; trial_rows = U }

-- and what the visits of a row ask
pub pass-ready : (t : Table) (c : Conclusion) (tm tv : List ℕ) → PassReady t c tm tv → (s : State) → StateFits t.widths s → (um uv : List ℕ) → OwnRows t.widths um uv
    → PassReady (with_rows t s) c um uv
pass-ready t c tm tv R s S um uv U = record { accepted = accepted-from t R.accepted s S; named = R.named; trial_rows = U }

module _ (t : Table) (c : Conclusion) where
  -- a locked row is left alone
  pub bit-none : (i : ℕ) → get_or t.locks i 0 ≢ 0 → start_of t ≡ walk t c (bits_in t i) (start_of t)
  unfolding walk
  bit-none i d = simp (ne_eqb _ _ d)

  pub bit-start : (i : ℕ) → get_or t.locks i 0 ≡ 0 → StateFits t.widths (start_of t) → AtBit t c i 0 (start_of t)
  bit-start i o S = record { fits = S; rest_is = bits-start t c i (start_of t) o }

  pub bit-next : (i k : ℕ) (s s' : State) → InTable t.widths i k → AtBit t c i k s → s' ≡ visit (with_rows t s) c s (position i k) → AtBit t c i (k + 1) s'
  bit-next i k s s' P I e =
      let f = e ∙ visit-same t s c s (position i k) in
      record {
        fits = subst (StateFits t.widths) (sym f) (visit-fits t c s (position i k) I.fits P);
        rest_is = I.rest_is ∙ bits-step t c i k s P.at_in ∙ ap (bits_from t c i (k + 1)) (sym f);
      }

  pub bit-end : (i k : ℕ) (s : State) → width_at t.widths i ≤ k → AtBit t c i k s → s ≡ walk t c (bits_in t i) (start_of t)
  bit-end i k s h I = sym (I.rest_is ∙ bits-end t c i k s h)

  pub row-start : StateFits t.widths (start_of t) → AtRow t c 0 (start_of t)
  row-start S = record { fits = S; rest_is = ap (λ (m : ℕ). walk t c (rising (bits_in t) 0 m) (start_of t)) (sym (sub-zero (length t.widths))) }

  pub row_next : (i : ℕ) (s s' : State) → i < length t.widths → AtRow t c i s → s' ≡ walk (with_rows t s) c (bits_in t i) s → AtRow t c (i + 1) s'
  row_next i s s' h I e =
      let f = e ∙ walk_same t s c (bits_in t i) s in
      record {
        fits = subst (StateFits t.widths) (sym f) (walk-fits t c (bits_in t i) (row-all (λ p. InTable t.widths p.row p.at) t i (λ o k m. record { row_in = h; at_in = m })) s I.fits);
        rest_is = I.rest_is ∙ rows_step t c i s h ∙ ap (rows_from t c (i + 1)) (sym f);
      }

  pub row-end : (i : ℕ) (s : State) → length t.widths ≤ i → AtRow t c i s → s ≡ pass_rows t c
  row-end i s h I = sym (I.rest_is ∙ rows_end t c i s h)

-- ---- rows that are left alone, with the slices for variables

-- those of a locked row
pub locked_row : (widths locks masks values words : List ℕ) (c : Conclusion) (i : ℕ) → get_or locks i 0 ≢ 0
    → held masks values ≡ walk (lent widths locks masks values words) c (bits_in (lent widths locks masks values words) i) (held masks values)
locked_row widths locks masks values words c i d = bit-none (lent widths locks masks values words) c i d
