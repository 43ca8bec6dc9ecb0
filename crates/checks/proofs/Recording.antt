-- Checks 9 and 10 of a record. Assumes nothing.
use mathlib.Core.Path.{◌≡◌, refl}
use mathlib.Core.Bool.{Bool, true, false, not}
use mathlib.Core.List.{List, [], ◌∷◌}
use Prim.Native.Nat.{ℕ}
use Rattle.operations.specs.Faults.{fault, target_locked, lock_fault}
use Rattle.checks.specs.Check.{done, refused, verdict, placed}
use Rattle.checks.specs.Model.{judged}
use Rattle.checks.specs.Encoding.{lock_with}

-- ---- check 9

pub fits-passed : (b : Bool) (i : ℕ) → b ≡ true → judged (placed i (fault (not b) 9 ∷ [])) ≡ done tt
unfolding verdict
fits-passed b i e = simp e

pub fits_refused : (b : Bool) (i : ℕ) → b ≡ false → judged (placed i (fault (not b) 9 ∷ [])) ≡ refused 9 i
unfolding verdict
fits_refused b i e = simp e

-- ---- check 10

module _ (b : Bool) (locks words : List ℕ) (i : ℕ) where
  pub lock-refused : b ≡ true → target_locked locks words ≡ true → judged (lock_with b locks words i) ≡ refused 10 i
  unfolding verdict lock_fault
  lock-refused e h = rw e (simp h)

  pub lock-open : b ≡ true → target_locked locks words ≡ false → judged (lock_with b locks words i) ≡ done tt
  unfolding verdict lock_fault
  lock-open e h = rw e (simp h)

  pub lock-unasked : b ≡ false → judged (lock_with b locks words i) ≡ done tt
  unfolding verdict
  lock-unasked e = rw e refl
