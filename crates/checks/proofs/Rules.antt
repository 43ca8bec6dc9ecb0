-- A rule asks for the widths of the operand rows that the words name, in order, and for no more. Assumes nothing.
use mathlib.Core.Path.{◌≡◌, refl, sym, ap, subst, ◌∙◌}
use mathlib.Core.Bool.{Bool, not}
use mathlib.Core.List.{List, [], ◌∷◌, map}
use Prim.Native.Nat.{ℕ, ◌<◌}
use lib.Dec.{T, T_not}
use Rattle.bits.proofs.Bools.{T-left, T-right}
use Rattle.operations.specs.Kind.{asks, Use, as_row, Rule, same_width, same_widths, taken_width, joined_widths, extended_width, compared_widths, chosen_widths, cell_widths, is_row, is_base}
use Rattle.operations.specs.Kinds.{is_kind, kind_of}
use Rattle.operations.specs.Record.{width_at, used, used_last}
use Rattle.operations.specs.Faults.{widths_fit}
use Rattle.operations.specs.declared.descriptions.WidthRule.{WidthRule}
use Rattle.operations.specs.declared.descriptions.WidthRule.TheVariants.{CellWidths}
use Rattle.operations.specs.Encoding.{rule_model}
use Rattle.operations.proofs.Sound.{row_is, suits, first-is-row, rule-suits}
use Rattle.operations.proofs.Parts.{one-fits}
use Rattle.checks.specs.Encoding.{Reads}

-- the widths that a rule asks for, of a kind without cells
as_read : (widths : List ℕ) (wt a b p c : ℕ) (r : Rule) (ub uc : Use) → T (suits r ub uc) → T (not (is_base uc))
    → asks r wt (map (width_at widths) (a ∷ used ub b (used_last uc (c ∷ [])))) p ≡ asks r wt (width_at widths a ∷ width_at widths b ∷ width_at widths c ∷ []) p
as_read widths wt a b p c same_width ub uc t z = refl
as_read widths wt a b p c same_widths ub uc t z = rw (row_is ub t) refl
as_read widths wt a b p c taken_width ub uc t z = refl
as_read widths wt a b p c joined_widths ub uc t z = rw (row_is ub t) refl
as_read widths wt a b p c extended_width ub uc t z = refl
as_read widths wt a b p c compared_widths ub uc t z = rw (row_is ub t) refl
as_read widths wt a b p c chosen_widths ub uc t z = rw (row_is ub (T-left (is_row ub) (is_row uc) t), row_is uc (T-right (is_row ub) (is_row uc) t)) refl
as_read widths wt a b p c cell_widths ub uc t z = absurd (T_not (is_base uc) z t)

-- they are widths of rows that are there
reads_in : (n b c : ℕ) (r : Rule) (ub uc : Use) → T (suits r ub uc) → (ub ≡ as_row → b < n) → (uc ≡ as_row → c < n) → Reads r n b c
reads_in n b c same_width ub uc t f g = tt
reads_in n b c same_widths ub uc t f g = f (row_is ub t)
reads_in n b c taken_width ub uc t f g = tt
reads_in n b c joined_widths ub uc t f g = f (row_is ub t)
reads_in n b c extended_width ub uc t f g = tt
reads_in n b c compared_widths ub uc t f g = f (row_is ub t)
reads_in n b c chosen_widths ub uc t f g = (f (row_is ub (T-left (is_row ub) (is_row uc) t)), g (row_is uc (T-right (is_row ub) (is_row uc) t)))
reads_in n b c cell_widths ub uc t f g = tt

-- the rule of cells is another one
not-cells : (rule : WidthRule) (r : Rule) (ub uc : Use) → rule_model rule ≡ r → T (suits r ub uc) → T (not (is_base uc)) → rule ≡ CellWidths → ⊥
not-cells rule r ub uc e t z f = T_not (is_base uc) z (subst (λ (s : Rule). T (suits s ub uc)) (sym e ∙ ap rule_model f) t)

module _ (kind : ℕ) (h : T (is_kind kind)) (none : T (not (is_base (kind_of kind).use_c))) (rule : WidthRule) (e : rule_model rule ≡ (kind_of kind).rule) where
  pub no-cells : rule ≡ CellWidths → ⊥
  no-cells = not-cells rule (kind_of kind).rule (kind_of kind).use_b (kind_of kind).use_c e (rule-suits kind h) none

  pub reads_of : (n b c : ℕ) → ((kind_of kind).use_b ≡ as_row → b < n) → ((kind_of kind).use_c ≡ as_row → c < n) → Reads (rule_model rule) n b c
  reads_of n b c f g = subst (λ (r : Rule). Reads r n b c) (sym e) (reads_in n b c (kind_of kind).rule (kind_of kind).use_b (kind_of kind).use_c (rule-suits kind h) f g)

  -- the code's answer
  pub fits-of : (widths : List ℕ) (t a b p c : ℕ) (r : Bool) → r ≡ asks (rule_model rule) (width_at widths t) (width_at widths a ∷ width_at widths b ∷ width_at widths c ∷ []) p
      → r ≡ widths_fit widths (kind ∷ t ∷ a ∷ b ∷ p ∷ c ∷ [])
  fits-of widths t a b p c r q =
      q ∙ (λ ι. asks (e ι) (width_at widths t) (width_at widths a ∷ width_at widths b ∷ width_at widths c ∷ []) p)
      ∙ sym (as_read widths (width_at widths t) a b p c (kind_of kind).rule (kind_of kind).use_b (kind_of kind).use_c (rule-suits kind h) none)
      ∙ (let rest = used (kind_of kind).use_b b (used_last (kind_of kind).use_c (c ∷ [])) in
      λ ι. asks (kind_of kind).rule (width_at widths t) (map (width_at widths) (used (sym (first-is-row kind h) ι) a rest)) p)
      ∙ sym (one-fits widths (kind ∷ t ∷ a ∷ b ∷ p ∷ c ∷ []) h none)
