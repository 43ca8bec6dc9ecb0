-- Two vectors of one width are what a kind of two operands asks for. Assumes nothing.
use mathlib.Core.Path.{◌≡◌, sym, subst}
use mathlib.Core.Bool.{not}
use mathlib.Core.List.{[], ◌∷◌}
use Prim.Native.Nat.{ℕ, ◌≤◌}
use lib.Dec.{T, eqb, eqb_refl}
use Rattle.bits.proofs.Bools.{T_and}
use Rattle.vectors.specs.Row.{row, WellFormed}
use Rattle.operations.specs.Kind.{Use, Rule, Kind, unused, same_widths, asks}
use Rattle.operations.specs.Faults.{misused}
use Rattle.operations.specs.Result.{arity, Ready}

pub two_ready : (j : Kind) → arity j ≡ 2 → j.rule ≡ same_widths → j.use_p ≡ unused
    → (w m x n y : ℕ) → 1 ≤ w → WellFormed (row w m x) → WellFormed (row w n y) → Ready j w 0 (row w m x ∷ row w n y ∷ [])
two_ready j a r u w m x n y l F G =
    record {
      count = sym a;
      formed = (F, (G, tt));
      wide = l;
      widths = (l, (l, tt));
      fits = subst (λ (z : Rule). T (asks z w (w ∷ w ∷ []) 0)) (sym r) (T_and (eqb w w) (eqb w w) (eqb_refl w) (eqb_refl w));
      parameter = subst (λ (z : Use). T (not (misused z 0))) (sym u) tt;
    }
