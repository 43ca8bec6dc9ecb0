-- What witnesses finds, by the output bit of the operation: known, it refuses as 16; unknown, both values are possible. Assumes nothing.
use mathlib.Core.Path.{◌≡◌, refl, sym, ap, subst, ◌∙◌}
use mathlib.Core.Bool.{not}
use mathlib.Core.Logic.{⊎_elim}
use mathlib.Core.List.{[], ◌∷◌}
use Prim.Native.Nat.{ℕ, ◌<◌}
use native.Mathlib.Omega.{arith}
use types.Run.{OneOf}
use denote.Enum.Declared.{tag_of}
use lib.Dec.{T}
use Rattle.bits.specs.Bit.{bit, is_set}
use Rattle.bits.proofs.Numbers.{is_set-true, is_set-false}
use Rattle.vectors.specs.Row.{Row}
use Rattle.vectors.specs.declared.OutputBit.{OutputBit}
use Rattle.vectors.specs.declared.OutputBit.TheVariants.{Zero, One, Unknown}
use Rattle.vectors.specs.OutputBits.{output_bit, output_mask}
use Rattle.vectors.specs.contracts.OutputBit as output-bit
use Rattle.vectors.proofs.Told.{mask-bit-of}
use Rattle.operations.specs.Kinds.{kind_of}
use Rattle.operations.specs.Result.{result_of}
use Rattle.witness_search.specs.Search.{may_be, Asked, Sought}
use Rattle.witness_search.proofs.Search.{possible-of}
use Rattle.checks.specs.Check.{done, refused, Check, placed, Passed}
use Rattle.checks.specs.Model.{judged}
use Rattle.checks.proofs.Verdicts.{hits, clears, verdict-passed}
use Rattle.vector_calls.specs.Calls.{both_rows}
use Rattle.vector_calls.specs.Witnesses.{operation_faults, witness_checks}

-- after `let .. else` the other arm knows the tag alone
pub not-unknown : (b : OutputBit) → OneOf (0 ∷ 1 ∷ []) (tag_of output-bit.the_type b) → output_mask b ≡ 0
not-unknown Zero h = refl
not-unknown One h = refl
not-unknown Unknown h = absurd (⊎_elim (λ (e : ◌≡◌ {A = ℕ} 2 0). omega arith) (λ (e : ◌≡◌ {A = ℕ} 2 1). omega arith) h)

module _ (kind w ma va mb vb k : ℕ) (x : OutputBit) (e : x ≡ output_bit (result_of (kind_of kind) w 0 (both_rows w ma va mb vb)) k) where
  abbrev result : Row
  result = result_of (kind_of kind) w 0 (both_rows w ma va mb vb)

  abbrev known : Check
  known = record { fails = not (is_set result.mask k); number = 16; place = 0 }

  mask_is : bit result.mask k ≡ output_mask x
  mask_is = sym (mask-bit-of result k x (output_mask x) e refl)

  module _ (P : Passed (placed 0 (operation_faults kind w ma va mb vb k))) where
    on : judged (witness_checks kind w ma va mb vb k) ≡ judged (known ∷ [])
    unfolding witness_checks
    on = verdict-passed (placed 0 (operation_faults kind w ma va mb vb k)) (known ∷ []) tt P

    pub known-refused : output_mask x ≡ 0 → judged (witness_checks kind w ma va mb vb k) ≡ refused 16 0
    known-refused z = on ∙ hits known [] (ap not (is_set-false result.mask k (mask_is ∙ z)))

    pub unknown-done : x ≡ Unknown → judged (witness_checks kind w ma va mb vb k) ≡ done tt
    unknown-done u = on ∙ clears known (ap not (is_set-true result.mask k (mask_is ∙ ap output_mask u)))

  -- an unknown bit may be either
  pub either-sought : Asked kind w k (record { a = record { mask = ma; value = va }; b = record { mask = mb; value = vb } }) → x ≡ Unknown
      → (d : ℕ) → d < 2 → Sought kind w k d (record { a = record { mask = ma; value = va }; b = record { mask = mb; value = vb } })
  either-sought A u d l =
      record {
        asked = A;
        value = l;
        possible = subst T (ap (λ (b : OutputBit). may_be b d) (sym u ∙ e) ∙ possible-of kind w k d (record { a = record { mask = ma; value = va }; b = record { mask = mb; value = vb } }) A l) tt;
      }
