-- What the checks of a table ensure of a record's effects, and of a whole program. Assumes nothing.
--   Fit widths e             the effect's rows are in the table, and its number fits the target
--   FitRecord widths es      all effects of a record fit, on distinct targets
--   FitProgram P             every record of P fits
use mathlib.Core.Path.{◌≡◌, sym, ap, subst, ◌∙◌}
use mathlib.Core.List.{List, [], ◌∷◌, map, map-map}
use Prim.Native.Nat.{ℕ, ◌^◌, ◌<◌}
use lib.Dec.{T}
use lib.ListN.{length, get_or}
use Rattle.vectors.specs.Lists.{All, Distinct}
use Rattle.vectors.proofs.Lists.{all_map, all_both, all-for, all_of-all}
use Rattle.operations.specs.Kind.{is_row}
use Rattle.operations.specs.Kinds.{is_kind}
use Rattle.operations.specs.Record.{Effect, width_at, Part, whole_part, parts_of, effect_of, effects_of, rows_named, target_rows, kind_in, target_word, kind_word, parameter_word, named_twice, again}
use Rattle.operations.specs.Faults.{part_fits}
use Rattle.operations.specs.Result.{Below}
use Rattle.operations.proofs.Bounded.{kind-bounded}
use Rattle.operations.proofs.Twice.{starts_twice, named-starts, again-once, again-below, once-all}
use Rattle.operations.proofs.Parts.{one-part, part-targets, targets-distinct, parts_all, parts-start}
use Rattle.checks.specs.Accepted.{RecordPassed}
use Rattle.steps.specs.Step.{operand_numbers, Program}

pub record Fit (widths : List ℕ) (e : Effect) : Type 0 where
  pub target_in : e.target < length widths
  pub operands_in : All (λ i. i < length widths) e.operands
  pub value_below : (ns : List ℕ) → Below (map (width_at widths) e.operands) ns → e.value ns < 2 ^ width_at widths e.target

pub record FitRecord (widths : List ℕ) (es : List Effect) : Type 0 where
  pub fit : All (Fit widths) es
  pub distinct : Distinct (map (λ e. e.target) es)

abbrev pub FitProgram : Program → Type 0
FitProgram P = (i : ℕ) → i < P.count → FitRecord P.widths (P.effects i)

-- the rows that the effects of a record write
pub effect-targets : (widths words : List ℕ) → map (λ e. e.target) (effects_of widths words) ≡ target_rows words
unfolding effects_of effect_of
effect-targets widths words = map-map (λ (e : Effect). e.target) (effect_of widths words) (parts_of words) ∙ part-targets words

-- a record that passed checks 6 to 9 fits, whatever its kind
module _ (widths words : List ℕ) (R : RecordPassed widths words) where
  effect-fits : (q : Part) → (q.target < length widths) × All (λ i. i < length widths) q.operands → T (part_fits widths words q) × (T (named_twice words) → T (starts_twice q.operands))
      → Fit widths (effect_of widths words q)
  unfolding effect_of
  effect-fits q I F =
      record {
        target_in = I.0;
        operands_in = once-all (named_twice words) (λ i. i < length widths) q.operands I.1;
        value_below = λ ns c.
            kind-bounded (kind_word words) (width_at widths q.target) q.parameter (map (width_at widths) q.operands) (again (named_twice words) ns) F.0
            (again-below (named_twice words) (width_at widths) q.operands ns F.1 c);
      }

  pub effects-fit : FitRecord widths (effects_of widths words)
  unfolding effects_of
  effects-fit =
      record {
        fit = all_map (Fit widths) (effect_of widths words) (λ q h. h) (parts_of words)
            (all_both effect-fits (parts_of words) (parts_all words (λ i. i < length widths) R.targets_in R.operands_in)
            (all_both (λ q f s. (f, s)) (parts_of words) (all_of-all (part_fits widths words) (parts_of words) R.widths_are_fit)
            (all-for (λ (t : T (named_twice words)) (q : Part). T (starts_twice q.operands)) (parts_of words) (parts-start words R.kind_known))));
        distinct = subst Distinct (sym (effect-targets widths words)) (targets-distinct words);
      }

-- of a record that writes one row: that effect alone
pub one-effect : (widths words : List ℕ) → T (is_row (kind_in words).use_t) → effects_of widths words ≡ effect_of widths words (whole_part words) ∷ []
unfolding effects_of
one-effect widths words t = ap (map (effect_of widths words)) (one-part words t)

-- "a row named twice gives its one number twice": the plain number is the kind's, of the numbers of all rows that the words name
pub plain-number : (widths words : List ℕ) → T (is_kind (kind_word words)) → (ns : List ℕ)
    → (effect_of widths words (whole_part words)).value (operand_numbers ns (effect_of widths words (whole_part words)))
    ≡ (kind_in words).plain (width_at widths (target_word words)) (map (width_at widths) (rows_named words)) (parameter_word words) (map (λ i. get_or ns i 0) (rows_named words))
unfolding effect_of rows_named
plain-number widths words h ns =
    ap ((kind_in words).plain (width_at widths (target_word words)) (map (width_at widths) (rows_named words)) (parameter_word words))
    (again-once (named_twice words) (λ i. get_or ns i 0) (rows_named words) (λ t. named-starts words h t _))
