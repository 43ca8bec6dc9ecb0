-- The effects of a record that is a load or a store, and what its checks give. Assumes nothing.
use mathlib.Core.Path.{◌≡◌, refl, sym, ap, ◌∙◌, subst}
use mathlib.Core.List.{List, [], ◌∷◌}
use Prim.Native.Nat.{ℕ, ◌+◌, ◌<◌}
use native.Mathlib.Omega.{arith}
use lib.Dec.{T, eqb, eqb→eq}
use Rattle.vectors.specs.Lists.{all_of}
use Rattle.vectors.proofs.Lists.{all_of-all}
use Rattle.vectors.proofs.ListParts.{listed-map, all_listed}
use Rattle.operations.specs.Kinds.{kind_of}
use Rattle.operations.specs.Memory.{span}
use Rattle.operations.specs.declared.Record.{Record}
use Rattle.operations.specs.Record.{words_of, width_at, rows_named, target_rows, named_twice, cell_part, parts_of, effect_of, effects_of}
use Rattle.checks.specs.Accepted.{RecordPassed}
use Rattle.checks.proofs.RecordChecks.{span-within}
use Rattle.checks.proofs.Memory.{words, load_fits, store-fits}
use Rattle.memories.specs.Effects.{load_effect, store_effects, SpanFits}

module _ (widths : List ℕ) (r : Record) where
  load_is : effects_of widths (words 24 r) ≡ load_effect r.t r.a r.c r.p ∷ []
  unfolding effects_of effect_of parts_of rows_named named_twice kind_of
  load_is = refl

  store_is : effects_of widths (words 25 r) ≡ store_effects r.a r.b r.c r.p
  unfolding effects_of effect_of parts_of named_twice kind_of store_effects
  store_is = listed-map (effect_of widths (words 25 r)) (cell_part (words 25 r)) 0 r.p

  pub load-described : r.kind ≡ 24 → effects_of widths (words_of r) ≡ load_effect r.t r.a r.c r.p ∷ []
  load-described e = ap (λ (k : ℕ). effects_of widths (words k r)) e ∙ load_is

  pub store-described : r.kind ≡ 25 → effects_of widths (words_of r) ≡ store_effects r.a r.b r.c r.p
  store-described e = ap (λ (k : ℕ). effects_of widths (words k r)) e ∙ store_is

  -- ---- what the checks give

  cell-widths : (like : ℕ) → T (all_of (λ i. eqb (width_at widths like) (width_at widths i)) (span r.c r.p)) → (i : ℕ) → i < r.p → width_at widths (r.c + i) ≡ width_at widths like
  cell-widths like t i h =
      sym (eqb→eq (width_at widths like) (width_at widths (r.c + i))
      (all_listed (λ j. T (eqb (width_at widths like) (width_at widths j))) (λ j. j) r.c r.p (all_of-all _ (span r.c r.p) t) (r.c + i) (omega arith) (omega arith)))

  as-words : {k : ℕ} → r.kind ≡ k → RecordPassed widths (words_of r) → RecordPassed widths (words k r)
  as-words e R = subst (λ (k : ℕ). RecordPassed widths (words k r)) e R

  pub load-span : r.kind ≡ 24 → RecordPassed widths (words_of r) → SpanFits widths r.a r.t r.c r.p
  unfolding kind_of rows_named target_rows
  load-span e R =
      let S = as-words e R in
      record {
        address_in = S.operands_in.0;
        like_in = S.targets_in.0;
        span_in = span-within widths (words 24 r) S tt;
        cell_width = cell-widths r.t (subst T (load_fits widths r e) R.widths_are_fit);
      }

  pub store-span : r.kind ≡ 25 → RecordPassed widths (words_of r) → SpanFits widths r.a r.b r.c r.p
  unfolding kind_of rows_named
  store-span e R =
      let S = as-words e R in
      record {
        address_in = S.operands_in.0;
        like_in = S.operands_in.1.0;
        span_in = span-within widths (words 25 r) S tt;
        cell_width = cell-widths r.b (subst T (store-fits widths r e) R.widths_are_fit);
      }
