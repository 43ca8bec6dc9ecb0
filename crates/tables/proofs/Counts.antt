-- What a count that passed its checks gives. Assumes nothing.
use mathlib.Core.Path.{◌≡◌, sym, ap, ◌∙◌}
use Prim.Native.Nat.{ℕ, ◌*◌, ◌%◌, ◌^◌, ◌≤◌}
use native.Mathlib.Nat.{one-mul}
use native.Mathlib.Omega.{arith}
use lib.Count.{ones, ones-le}
use lib.ListN.{get_or}
use lib.Pow.{shl_exact}
use Rattle.bits.proofs.Bits.{ones_in-ones}
use Rattle.vectors.specs.Row.{unknowns}
use Rattle.checks.specs.Check.{Answer, done}
use Rattle.checks.specs.Table.{Table, row_at, start_of}
use Rattle.checks.specs.Checks.{count_checks}
use Rattle.checks.specs.Model.{judged}
use Rattle.checks.proofs.Verdicts.{done-of-passed, passed-of-done}
use Rattle.table_checks.proofs.Counts.{row-good}
use Rattle.tables.specs.declared.Counted.{Counted}
use Rattle.tables.specs.Run.{count_of}

module _ (t : Table) (i : ℕ) (e : judged (count_checks t i) ≡ done tt) where
  -- the ones of the mask, and the unknown bits of the row
  abbrev n : ℕ
  n = ones (get_or t.masks i 0)

  abbrev u : ℕ
  u = unknowns (row_at t.widths (start_of t) i)

  ones-unknown : n ≡ u
  ones-unknown = sym (ones_in-ones _ _ (row-good t i e).formed.mask_below)

  pub count_small : n ≤ 32
  count_small = let h = ones-le _ _ (row-good t i e).formed.mask_below in let k = (row-good t i e).width_most in omega arith

  power : 1 * 2 ^ n % 2 ^ 64 ≡ 2 ^ u
  power = shl_exact {a = 1} 1 n 64 (omega arith) (omega (arith, count_small)) ∙ one-mul (2 ^ n) ∙ ap (λ (m : ℕ). 2 ^ m) ones-unknown

  pub count-is : ◌≡◌ {A = Answer Counted} (done (record { unknown = n; choices = 1 * 2 ^ n % 2 ^ 64 })) (count_of t i)
  unfolding count_of
  count-is =
      (λ ι. done (record { unknown = ones-unknown ι; choices = power ι }))
      ∙ sym (done-of-passed (count_checks t i) (record { unknown = u; choices = 2 ^ u }) (passed-of-done (count_checks t i) tt tt e))
