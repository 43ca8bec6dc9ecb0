-- Inside, by known bits: where the outer vector is known, the inner one is, and has the same bit. Assumes nothing.
use mathlib.Core.Path.{◌≡◌, sym, ◌∙◌, subst}
use Prim.Native.Nat.{ℕ, ◌^◌, ◌<◌}
use Rattle.bits.specs.Bit.{bit}
use Rattle.vectors.specs.Row.{Row, WellFormed, Covers, Inside, KnownAs}
use Rattle.vectors.proofs.Rows.{covers-value}
use Rattle.vectors.proofs.Hulls.{hull-all, hull-row}

module _ (p q : Row) (e : p.width ≡ q.width) where
  pub inside-known : WellFormed p → Inside p q → (k : ℕ) → k < q.width → bit q.mask k ≡ 0 → KnownAs p k (bit q.value k)
  inside-known F I k h z =
      record {
        known = hull-all p.width (Covers p) p (hull-row p F) k (subst (λ (w : ℕ). k < w) (sym e) h) (bit q.value k) (λ n c. (I n c).agrees k h z);
        as_value = (I p.value (covers-value p F)).agrees k h z;
      }

  pub inside-of-known : ((k : ℕ) → k < q.width → bit q.mask k ≡ 0 → KnownAs p k (bit q.value k)) → Inside p q
  inside-of-known f n c =
      record {
        below = subst (λ (w : ℕ). n < 2 ^ w) e c.below;
        agrees = λ k h z. c.agrees k (subst (λ (w : ℕ). k < w) (sym e) h) (f k h z).known ∙ (f k h z).as_value;
      }
