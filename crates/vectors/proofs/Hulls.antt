-- What follows for the best vector that covers a set of numbers. Assumes nothing.
--   Inhabited P   the set P has a number
use mathlib.Core.Path.{◌≡◌, refl, sym, ◌∙◌}
use mathlib.Core.Logic.{inl, inr}
use Prim.Native.Nat.{ℕ, ◌^◌, ◌≤◌, ◌<◌}
use native.Mathlib.Omega.{arith}
use Rattle.bits.specs.Bit.{bit}
use Rattle.bits.proofs.Bits.{bit-lt, bit-cases, bit-ext, ones_in-mono}
use Rattle.vectors.specs.Row.{Row, WellFormed, Covers, Inside, unknowns}
use Rattle.vectors.specs.Hull.{Shows, Hull}
use Rattle.vectors.proofs.Rows.{covered-bit}

pub record Inhabited (P : ℕ → Type 0) : Type 0 where
  pub member : ℕ
  pub is_inside : P member

module _ (w : ℕ) (P : ℕ → Type 0) (r : Row) (H : Hull w P r) where
  pub hull-covers : (n : ℕ) → P n → n < 2 ^ w → Covers r n
  hull-covers n p h = record { below = rw H.width_is h; agrees = λ k l e. H.known k (rw H.width_is at l) e n p }

  -- where all agree the bit is known
  pub hull-all : (k : ℕ) → k < w → (b : ℕ) → ((n : ℕ) → P n → bit n k ≡ b) → bit r.mask k ≡ 0
  hull-all k h b all =
      elim (bit-cases r.mask k) [
        | inl e ↦ e
        | inr e ↦
            let (p, q) = H.unknown k h e in
            let x = all p.shown p.within in
            let y = all q.shown q.within in
            let x' = p.shows in
            let y' = q.shows in
            absurd (omega arith)
      ]

  -- it has the fewest unknown bits
  pub hull-least : (q : Row) → q.width ≡ w → ((n : ℕ) → P n → Covers q n) → unknowns r ≤ unknowns q
  hull-least q e all = rw (H.width_is, e) (ones_in-mono w r.mask q.mask more)
    where
      more : (k : ℕ) → k < w → bit r.mask k ≤ bit q.mask k
      more k h =
          elim (bit-cases q.mask k) [
            | inl z ↦ let u = hull-all k h (bit q.value k) (λ n p. (all n p).agrees k (rw e h) z) in omega arith
            | inr z ↦ let u = bit-lt r.mask k in omega arith
          ]

pub shows-imp : (P Q : ℕ → Type 0) → ((n : ℕ) → P n → Q n) → (k b : ℕ) → Shows P k b → Shows Q k b
shows-imp P Q f k b s = record { shown = s.shown; within = f s.shown s.within; shows = s.shows }

-- two sets with the same numbers have the same best vector
pub hull-iff : (w : ℕ) (P Q : ℕ → Type 0) (r : Row) → ((n : ℕ) → P n → Q n) → ((n : ℕ) → Q n → P n) → Hull w P r → Hull w Q r
hull-iff w P Q r f g H =
    record {
      width_is = H.width_is;
      formed = H.formed;
      unknown = λ k h e. let (a, b) = H.unknown k h e in (shows-imp P Q f k 0 a, shows-imp P Q f k 1 b);
      known = λ k h e n q. H.known k h e n (g n q);
    }

-- a set has one best vector
pub hull-unique : (w : ℕ) (P : ℕ → Type 0) (r s : Row) → Inhabited P → Hull w P r → Hull w P s → r ≡ s
hull-unique w P r s S H J = λ ι. record { width = (H.width_is ∙ sym J.width_is) ι; mask = masks ι; value = values ι }
  where
    below : (t : Row) → Hull w P t → (t.mask < 2 ^ w) × (t.value < 2 ^ w)
    below t K = (rw K.width_is at K.formed.mask_below, rw K.width_is at K.formed.value_below)

    mask-bit : (k : ℕ) → k < w → bit r.mask k ≡ bit s.mask k
    mask-bit k h =
        elim (bit-cases r.mask k) [
          | inl e ↦ e ∙ sym (hull-all w P s J k h (bit r.value k) (H.known k h e))
          | inr e ↦ elim (bit-cases s.mask k) [
            | inl e' ↦ hull-all w P r H k h (bit s.value k) (J.known k h e') ∙ sym e'
            | inr e' ↦ e ∙ sym e'
          ]
        ]

    masks : r.mask ≡ s.mask
    masks = bit-ext w r.mask s.mask (below r H).0 (below s J).0 mask-bit

    value-bit : (k : ℕ) → k < w → bit r.value k ≡ bit s.value k
    value-bit k h =
        elim (bit-cases r.mask k) [
          | inl e ↦ sym (H.known k h e S.member S.is_inside) ∙ J.known k h (sym (mask-bit k h) ∙ e) S.member S.is_inside
          | inr e ↦ H.formed.apart k e ∙ sym (J.formed.apart k (sym (mask-bit k h) ∙ e))
        ]

    values : r.value ≡ s.value
    values = bit-ext w r.value s.value (below r H).1 (below s J).1 value-bit

-- a smaller set has its best vector inside
pub hull-mono : (w : ℕ) (P Q : ℕ → Type 0) (p q : Row) → Inhabited P → ((n : ℕ) → P n → Q n) → Hull w P p → Hull w Q q → Inside p q
hull-mono w P Q p q S sub H J n c =
    record {
      below = rw J.width_is (rw H.width_is at c.below);
      agrees = λ k h z.
          let h' : k < w = rw J.width_is at h in
          let all : (m : ℕ) → P m → bit m k ≡ bit q.value k = λ m x. J.known k h' z m (sub m x) in
          let z' = hull-all w P p H k h' (bit q.value k) all in
          c.agrees k (rw H.width_is h') z' ∙ sym (H.known k h' z' S.member S.is_inside) ∙ all S.member S.is_inside;
    }

-- a well-formed row is the best vector for what it covers
pub hull-row : (r : Row) → WellFormed r → Hull r.width (Covers r) r
hull-row r F =
    record {
      width_is = refl;
      formed = F;
      unknown = λ k h e. (
        (let p = covered-bit r F k 0 (omega arith) (inl e) in record { shown = p.0; within = p.1; shows = p.2 }),
        (let p = covered-bit r F k 1 (omega arith) (inl e) in record { shown = p.0; within = p.1; shows = p.2 }),
      );
      known = λ k h e n c. c.agrees k h e;
    }
