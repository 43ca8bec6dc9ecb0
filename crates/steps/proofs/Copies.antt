-- A list copied over another, entry by entry. Assumes nothing.
--   Copied from to i   the entries before i are copied
use mathlib.Core.Path.{◌≡◌, sym, ap, ◌∙◌}
use mathlib.Core.List.{List}
use Prim.Native.Nat.{ℕ, ◌+◌, ◌≤◌, ◌<◌}
use native.Mathlib.Decide.{ℕ_discrete}
use native.Mathlib.Omega.{arith}
use lib.ListN.{length, get_or, set, length-set}
use Rattle.vectors.proofs.Rows.{and-of-apart}
use Rattle.operations.specs.Record.{width_at}
use Rattle.checks.specs.Table.{State}
use Rattle.steps.specs.States.{StateFits}
use Rattle.steps.specs.Encoding.{Copyable, OwnRows}
use lib.Seq.{ext_get_or, get_or-set_same, get_or-set_other}

pub record Copied (from to : List ℕ) (i : ℕ) : Type 0 where
  pub same_length : length to ≡ length from
  pub same : (j : ℕ) → j < i → get_or to j 0 ≡ get_or from j 0

pub copied-start : (from to : List ℕ) → length to ≡ length from → Copied from to 0
copied-start from to e = record { same_length = e; same = λ j l. absurd (omega arith) }

pub copied_next : (from to : List ℕ) (i x : ℕ) → x ≡ get_or from i 0 → i < length from → Copied from to i → Copied from (set to i x) (i + 1)
copied_next from to i x f h C =
    record {
      same_length = length-set to i x ∙ C.same_length;
      same = λ j l. elim (ℕ_discrete j i) [
        | yes e ↦ ap (λ (k : ℕ). get_or (set to i x) k 0) e ∙ get_or-set_same to i x 0 (let z = C.same_length in omega arith) ∙ f ∙ ap (λ (k : ℕ). get_or from k 0) (sym e)
        | no d ↦ get_or-set_other to i j x 0 d ∙ C.same j (omega arith)
      ];
    }

pub copied-end : (from to : List ℕ) (i : ℕ) → length from ≤ i → Copied from to i → to ≡ from
copied-end from to i h C = ext_get_or 0 to from C.same_length (λ j l. C.same j (let z = C.same_length in omega arith))

-- rows that fit can be copied
pub copyable : (widths : List ℕ) (s : State) (tm tv : List ℕ) → StateFits widths s → OwnRows widths tm tv → Copyable s tm tv
copyable widths s tm tv S T =
    record {
      values_length = S.values_length ∙ sym S.masks_length;
      to_masks = T.masks_length ∙ sym S.masks_length;
      to_values = T.values_length ∙ sym S.masks_length;
      apart = λ i h.
          let F = S.formed i (let l = S.masks_length in omega arith) in
          and-of-apart (width_at widths i) (get_or s.masks i 0) (get_or s.values i 0) F.mask_below F.value_below F.apart;
    }
