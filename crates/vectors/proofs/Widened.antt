-- A vector joined with another of its width: around both, and more unknown bits unless the other lies inside. Assumes nothing.
use mathlib.Core.Path.{◌≡◌, sym, ◌∙◌, subst}
use mathlib.Core.Logic.{◌⊎◌, inl, inr}
use Prim.Native.Nat.{ℕ, zero, suc, ◌/◌, ◌%◌, ◌≤◌, ◌<◌}
use native.Mathlib.Omega.{arith}
use lib.Count.{ones_in}
use Rattle.bits.specs.Bit.{bit}
use Rattle.bits.proofs.Bits.{bit-zero, bit-suc, bit-cases, bit-lt, ones_in-mono}
use Rattle.vectors.specs.Row.{Row, WellFormed, Covers, Inside, unknowns}
use Rattle.vectors.specs.Hull.{Hull, join}
use Rattle.vectors.proofs.Rows.{covers-value}
use Rattle.vectors.proofs.Hulls.{Inhabited, hull-covers, hull-least, hull-iff, hull-unique, hull-row}
use Rattle.vectors.proofs.Insides.{inside-known, inside-of-known}
use Rattle.vectors.proofs.Joins.{hull-join}

covered : (p : Row) → WellFormed p → Inhabited (Covers p)
covered p F = record { member = p.value; is_inside = covers-value p F }

module _ (p q : Row) (F : WellFormed p) (G : WellFormed q) (e : p.width ≡ q.width) where
  -- the hull of one at the width of the other
  other-hull : Hull p.width (Covers q) q
  other-hull = subst (λ (w : ℕ). Hull w (Covers q) q) (sym e) (hull-row q G)

  -- vectors that lie inside each other are one
  pub inside_both : Inside p q → Inside q p → p ≡ q
  inside_both I J = hull-unique p.width (Covers p) p q (covered p F) (hull-row p F) (hull-iff p.width (Covers q) (Covers p) q J I other-hull)

  pub join-hull : Hull p.width (λ n. Covers p n ⊎ Covers q n) (join p q)
  join-hull = hull-join p.width (Covers p) (Covers q) p q (hull-row p F) other-hull (covered p F) (covered q G)

  pub join-left : Inside p (join p q)
  join-left n c = hull-covers p.width (λ m. Covers p m ⊎ Covers q m) (join p q) join-hull n (inl c) c.below

  pub join-right : Inside q (join p q)
  join-right n c = hull-covers p.width (λ m. Covers p m ⊎ Covers q m) (join p q) join-hull n (inr c) (rw e c.below)

  -- with a vector that lies inside, it stays
  pub join-same : Inside q p → join p q ≡ p
  join-same I =
      hull-unique p.width (Covers p) (join p q) p (covered p F)
      (hull-iff p.width (λ m. Covers p m ⊎ Covers q m) (Covers p) (join p q) one (λ n c. inl c) join-hull) (hull-row p F)
    where
      one : (n : ℕ) → Covers p n ⊎ Covers q n → Covers p n
      one n (inl c) = c
      one n (inr c) = I n c

  -- an outer vector has no fewer unknown bits
  pub inside-unknowns : Inside p q → unknowns p ≤ unknowns q
  inside-unknowns I = hull-least p.width (Covers p) p (hull-row p F) q (sym e) I

-- bits that are no fewer, in all no more, are the same
ones-same : (w m n : ℕ) → ((k : ℕ) → k < w → bit m k ≤ bit n k) → ones_in w n ≤ ones_in w m → (k : ℕ) → k < w → bit m k ≡ bit n k
unfolding ones_in
ones-same zero m n h l k i = absurd (omega arith)
ones-same (suc w) m n h l zero i =
    let low : m % 2 ≤ n % 2 = rw (bit-zero m, bit-zero n) at (h 0 (omega arith)) in
    let high = ones_in-mono w (m / 2) (n / 2) (λ j a. rw (bit-suc m j, bit-suc n j) at (h (suc j) (omega arith))) in
    omega (arith, bit-zero m, bit-zero n)
ones-same (suc w) m n h l (suc k) i =
    let low : m % 2 ≤ n % 2 = rw (bit-zero m, bit-zero n) at (h 0 (omega arith)) in
    bit-suc m k ∙ ones-same w (m / 2) (n / 2) (λ j a. rw (bit-suc m j, bit-suc n j) at (h (suc j) (omega arith))) (omega arith) k (omega arith) ∙ sym (bit-suc n k)

-- an outer vector that has no more unknown bits lies inside
module _ (p q : Row) (F : WellFormed p) (G : WellFormed q) (e : p.width ≡ q.width) (I : Inside p q) where
  more : (k : ℕ) → k < q.width → bit p.mask k ≤ bit q.mask k
  more k h = elim (bit-cases q.mask k) [ inl z ↦ (let i = (inside-known p q e F I k h z).known in omega arith) | inr z ↦ (let b = bit-lt p.mask k in omega arith) ]

  pub inside_back : unknowns q ≤ unknowns p → Inside q p
  inside_back l =
      inside-of-known q p (sym e)
      (λ k h z.
      let h' : k < q.width = rw (sym e) h in
      let same = ones-same q.width p.mask q.mask more (rw e at l) k h' in
      let i = inside-known p q e F I k h' (sym same ∙ z) in
      record { known = sym same ∙ z; as_value = sym i.as_value })
