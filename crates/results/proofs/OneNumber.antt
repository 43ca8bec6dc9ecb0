-- Results of kinds over one row, whose number is taken for both operands. Assumes nothing.
--   as_row, as-constant   a kind that gives that number again, and a kind that gives one number whatever it is
--   moved-again           a kind that moves bits moves them also then
use mathlib.Core.Path.{◌≡◌, refl, sym, ap, ◌∙◌, subst}
use mathlib.Core.Bool.{true}
use mathlib.Core.Logic.{inl, inr}
use mathlib.Core.List.{List, [], ◌∷◌}
use Prim.Native.Nat.{ℕ, zero, suc, ◌^◌, ◌<◌}
use native.Mathlib.Nat.{not-suc-le-zero}
use lib.ListN.{get_or}
use Rattle.bits.specs.Bit.{bit}
use Rattle.vectors.specs.Row.{Row, row, Covers}
use Rattle.vectors.proofs.Operands.{one-chosen}
use Rattle.vectors.proofs.BestLaws.{best-constant, best-is-row}
use Rattle.operations.specs.Kind.{Kind}
use Rattle.operations.specs.Record.{again}
use Rattle.operations.specs.Result.{Below, result_once, Ready}
use Rattle.operations.proofs.Twice.{again-below}
use Rattle.logic.proofs.Moving.{From, Moved}

module _ (k : Kind) (wt p : ℕ) (r : Row) (R : Ready k wt p (r ∷ r ∷ [])) where
  -- the plain number of one number for both operands
  abbrev both : ℕ → ℕ
  both n = k.plain wt (r.width ∷ r.width ∷ []) p (n ∷ n ∷ [])

  pub as_row : r.width ≡ wt → ((n : ℕ) → both n ≡ n) → result_once true k wt p (r ∷ r ∷ []) ≡ r
  unfolding result_once
  as_row e same =
      best-is-row wt _ (r ∷ []) r R.formed.0 e (R.formed.0, tt)
      (one-chosen r (λ ns. Covers r (k.plain wt (r.width ∷ r.width ∷ []) p (again true ns))) (λ n c. subst (Covers r) (sym (same n)) c))
      (λ n c. record { numbers = n ∷ []; chosen = (c, tt); gives = same n })

  pub as-constant : (m : ℕ) → m < 2 ^ wt → ((n : ℕ) → both n ≡ m) → result_once true k wt p (r ∷ r ∷ []) ≡ row wt 0 m
  unfolding result_once
  as-constant m h same =
      best-constant wt _ (r ∷ []) m (R.formed.0, tt) h (one-chosen r (λ ns. k.plain wt (r.width ∷ r.width ∷ []) p (again true ns) ≡ m) (λ n c. same n))

-- ---- kinds that move bits

pub below_again : (w : ℕ) (ns : List ℕ) → Below (w ∷ []) ns → Below (w ∷ w ∷ []) (again true ns)
below_again w ns b = again-below true (λ i. w) (0 ∷ 0 ∷ []) ns (λ t. tt) b

first-again : (ns : List ℕ) → get_or (again true ns) 0 0 ≡ get_or ns 0 0
first-again [] = refl
first-again (n ∷ ns) = refl

second-again : (ns : List ℕ) → get_or (again true ns) 1 0 ≡ get_or ns 0 0
second-again [] = refl
second-again (n ∷ ns) = refl

from-again : (f : List ℕ → ℕ) (w k operand place : ℕ) → place < get_or (w ∷ w ∷ []) operand 0
    → ((ns : List ℕ) → Below (w ∷ w ∷ []) ns → bit (f ns) k ≡ bit (get_or ns operand 0) place) → From (λ ns. f (again true ns)) (w ∷ []) k
from-again f w k zero place h m =
    record { operand = 0; place = place; inside = h; moves = λ ns b. m (again true ns) (below_again w ns b) ∙ ap (λ (x : ℕ). bit x place) (first-again ns) }
from-again f w k (suc zero) place h m =
    record { operand = 0; place = place; inside = h; moves = λ ns b. m (again true ns) (below_again w ns b) ∙ ap (λ (x : ℕ). bit x place) (second-again ns) }
from-again f w k (suc (suc i)) place h m = absurd (not-suc-le-zero h)

pub moved-again : (f : List ℕ → ℕ) (w k : ℕ) → Moved f (w ∷ w ∷ []) k → Moved (λ ns. f (again true ns)) (w ∷ []) k
moved-again f w k (inl z) = inl (λ ns b. z (again true ns) (below_again w ns b))
moved-again f w k (inr m) = inr (from-again f w k m.operand m.place m.inside m.moves)
