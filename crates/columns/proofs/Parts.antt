-- The parts of a mask, in order: a part has no bit that the mask has not. Assumes nothing.
--   Part m s     s is a part of m
--   next-part    below the part s, the greatest is (s - 1) & m
use Rattle.std.proofs.Common.{◌≡◌, ℕ, zero, suc, ◌+◌, ◌-◌, ◌*◌, ◌/◌, ◌%◌, ◌^◌, ◌<◌, ◌≤◌, min, refl, ◌∙◌, ap₂, lt_of_le_of_lt, arith}
use lib.Bits.{bit_and, and_step, and_le_l}
use Rattle.bits.specs.Bit.{bit}
use Rattle.bits.proofs.Bits.{bit-zero, bit-suc, bit-and, bit-above, bit-ext, half-below}
use Rattle.bits.proofs.Numbers.{below-of-bits}
use Rattle.bits.proofs.Words.{le-of-bits}

abbrev pub Part : ℕ → ℕ → Type 0
Part m s = (k : ℕ) → bit s k ≤ bit m k

pub part-and : (m s : ℕ) → Part m (bit_and s m)
part-and m s k = let e = bit-and s m k in omega arith

pub part-below : (w m s : ℕ) → m < 2 ^ w → Part m s → s < 2 ^ w
part-below w m s h p = below-of-bits w s (λ k l. let e = bit-above w m k h l in let q = p k in omega arith)

pub part-le : (w m s : ℕ) → m < 2 ^ w → Part m s → s ≤ m
part-le w m s h p = le-of-bits w s m (part-below w m s h p) h (λ k l. p k)

half-part : (m s : ℕ) → Part m s → Part (m / 2) (s / 2)
half-part m s p k = let e = bit-suc m k in let f = bit-suc s k in let q = p (suc k) in omega arith

low_part : (m s : ℕ) → Part m s → s % 2 ≤ m % 2
low_part m s p = let e = bit-zero m in let f = bit-zero s in let q = p 0 in omega arith

part-kept : (w m s : ℕ) → s < 2 ^ w → Part m s → bit_and s m ≡ s
part-kept w m s h p = bit-ext w (bit_and s m) s (lt_of_le_of_lt (and_le_l s m) h) h (λ k l. bit-and s m k ∙ (let q = p k in omega arith))

-- one bit lower: what is left after taking 1 depends on the lowest bit
next-half : (w m s t : ℕ) → s < 2 ^ suc w → Part m s → Part m t → t < s → (t / 2 < s / 2 → t / 2 ≤ bit_and (s / 2 - 1) (m / 2)) → t ≤ bit_and (s - 1) m
next-half w m s t h p q l r = go (s % 2) refl
  where
    step : (x y : ℕ) → (s - 1) / 2 ≡ x → (s - 1) % 2 ≡ y → bit_and (s - 1) m ≡ bit_and x (m / 2) * 2 + min y (m % 2)
    step x y e f = and_step (s - 1) m ∙ ap₂ (λ (n o : ℕ). bit_and n (m / 2) * 2 + min o (m % 2)) e f

    go : (d : ℕ) → s % 2 ≡ d → t ≤ bit_and (s - 1) m
    go zero e =
        let b = step (s / 2 - 1) 1 (omega arith) (omega arith) in
        let c = r (omega arith) in
        let u = low_part m t q in
        omega arith
    go (suc d) e =
        let b = step (s / 2) 0 (omega arith) (omega arith) in
        let c = part-kept w (m / 2) (s / 2) (half-below w s h) (half-part m s p) in
        omega arith

pub next-part : (w m s t : ℕ) → s < 2 ^ w → Part m s → Part m t → t < s → t ≤ bit_and (s - 1) m
next-part zero m s t h p q l = absurd (omega arith)
next-part (suc w) m s t h p q l =
    next-half w m s t h p q l (λ r. next-part w (m / 2) (s / 2) (t / 2) (half-below w s h) (half-part m s p) (half-part m t q) r)
