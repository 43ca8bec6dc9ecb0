-- The number of SMT-LIB's rotate_left: rotated by p, position k stands at (k + p) modulo the width. Assumes nothing.
use mathlib.Core.Path.{◌≡◌, refl, sym, ap, subst, ◌∙◌}
use mathlib.Core.Bool.{Bool, cond, ◌&&◌}
use Prim.Native.Nat.{ℕ, zero, suc, ◌+◌, ◌-◌, ◌*◌, ◌/◌, ◌%◌, ◌≤◌, ◌<◌}
use native.Mathlib.Nat.{add-zero, mod-eq_of_lt, mod_self, mod-one, mod-lt, mod-add-mod, mod-add-div', add-mul-mod_self_right}
use native.Mathlib.Decide.{dec_lt, ℕ_discrete}
use native.Mathlib.Omega.{arith}
use borrow.Author.Tests.{eq-eqb, ne_eqb}
use lib.Dec.{T, eqb, eqb→eq}
use Rattle.bits.specs.Bit.{is_set, digit, number}
use Rattle.bits.specs.Below.{some_below}
use Rattle.bits.proofs.Bits.{number-below, bit-number}
use Rattle.bits.proofs.Bools.{T_and, T-left, T-right, eq→eqb}
use Rattle.bits.proofs.Below.{some_below-intro, some_below-elim}
use Rattle.operations.specs.Bitvector.{Bitvector, extract, concat}
use Rattle.operations.specs.SmtLib.{rotate_left}
use Rattle.operations.proofs.SmtBits.{T-ext}
use Rattle.operations.proofs.SmtNat.{Is, Is_at, Is-of}
use Rattle.operations.proofs.SmtMoves.{concat-low, concat-high}

-- ---- rotated by one, at width 2 and up

abbrev turned : Bitvector → Bitvector
turned s = concat (extract (s.width - 2) 0 s) (extract (s.width - 1) (s.width - 1) s)

turned-width : (s : Bitvector) → 2 ≤ s.width → (turned s).width ≡ s.width
unfolding concat extract
turned-width s l = omega arith

turned-at : (s : Bitvector) (k : ℕ) → 2 ≤ s.width → k < s.width → (turned s).at ((k + 1) % s.width) ≡ s.at k
unfolding extract
turned-at s k l m =
    elim (dec_lt (k + 1) s.width) [
      | yes j ↦
          let e : 0 + (k + 1 - (s.width - 1 - (s.width - 1) + 1)) ≡ k = omega arith in
          ap (turned s).at (mod-eq_of_lt j)
          ∙ concat-high (extract (s.width - 2) 0 s) (extract (s.width - 1) (s.width - 1) s) (k + 1) (omega arith)
          ∙ ap s.at e
      | no j ↦
          let d : k + 1 ≡ s.width = omega arith in
          let e : s.width - 1 + 0 ≡ k = omega arith in
          ap (λ (x : ℕ). (turned s).at (x % s.width)) d
          ∙ ap (turned s).at (mod_self s.width)
          ∙ concat-low (extract (s.width - 2) 0 s) (extract (s.width - 1) (s.width - 1) s) 0 (omega arith)
          ∙ ap s.at e
    ]

-- ---- rotated by p

rotate-width : (p : ℕ) (s : Bitvector) → 1 ≤ s.width → (rotate_left p s).width ≡ s.width
unfolding rotate_left
rotate-width zero s l = refl
rotate-width (suc p) s l =
    elim (ℕ_discrete s.width 1) [
      | yes e ↦ ap (λ (b : Bool). (cond b s (rotate_left p (turned s))).width) (eq-eqb s.width 1 e)
      | no d ↦
          let m : 2 ≤ s.width = omega arith in
          let e = turned-width s m in
          ap (λ (b : Bool). (cond b s (rotate_left p (turned s))).width) (ne_eqb s.width 1 d)
          ∙ rotate-width p (turned s) (omega arith)
          ∙ e
    ]

rotate-at : (p : ℕ) (s : Bitvector) (k : ℕ) → k < s.width → (rotate_left p s).at ((k + p) % s.width) ≡ s.at k
unfolding rotate_left
rotate-at zero s k l = ap (λ (x : ℕ). s.at (x % s.width)) (add-zero k) ∙ ap s.at (mod-eq_of_lt l)
rotate-at (suc p) s k l =
    elim (ℕ_discrete s.width 1) [
      | yes e ↦
          let z : k ≡ 0 = omega arith in
          ap (λ (b : Bool). (cond b s (rotate_left p (turned s))).at ((k + suc p) % s.width)) (eq-eqb s.width 1 e)
          ∙ ap (λ (x : ℕ). s.at ((k + suc p) % x)) e
          ∙ ap s.at (mod-one (k + suc p) ∙ sym z)
      | no d ↦
          let m : 2 ≤ s.width = omega arith in
          let e = turned-width s m in
          let j : k + suc p ≡ k + 1 + p = omega arith in
          ap (λ (b : Bool). (cond b s (rotate_left p (turned s))).at ((k + suc p) % s.width)) (ne_eqb s.width 1 d)
          ∙ ap (rotate_left p (turned s)).at (ap (λ (x : ℕ). x % s.width) j ∙ sym (mod-add-mod (k + 1) s.width p) ∙ ap (λ (x : ℕ). ((k + 1) % s.width + p) % x) (sym e))
          ∙ rotate-at p (turned s) ((k + 1) % s.width) (omega (arith, mod-lt (k + 1) {m = s.width} (omega arith)))
          ∙ turned-at s k m l
    ]

-- ---- the number

-- the position that a rotation by p takes to j
origin : (w p j : ℕ) → j < w → ((j + (w - p % w)) % w + p) % w ≡ j
origin w p j l =
    let r = mod-lt p {m = w} (omega arith) in
    let e : j + (w - p % w) + p ≡ j + (1 + p / w) * w = omega (arith, mod-add-div' p w) in
    mod-add-mod (j + (w - p % w)) w p
    ∙ ap (λ (x : ℕ). x % w) e
    ∙ add-mul-mod_self_right j (1 + p / w) w
    ∙ mod-eq_of_lt l

rotated-bit : {w a : ℕ} {s : Bitvector} (p : ℕ) → 1 ≤ w → Is w a s → (j : ℕ) → j < w
    → some_below w (λ k. eqb ((k + p) % w) j && is_set a k) ≡ (rotate_left p s).at j
rotated-bit {w} {a} {s} p l h j m = T-ext _ _ there back
  where
    goes : ℕ → Bool
    goes k = eqb ((k + p) % w) j && is_set a k

    from : (k : ℕ) → k < w → (k + p) % w ≡ j → is_set a k ≡ (rotate_left p s).at j
    from k n e =
        Is_at h k n
        ∙ sym (rotate-at p s k (omega (arith, h.width_is)))
        ∙ ap (λ (x : ℕ). (rotate_left p s).at ((k + p) % x)) h.width_is
        ∙ ap (rotate_left p s).at e

    there : T (some_below w goes) → T ((rotate_left p s).at j)
    there t =
        let r = some_below-elim w goes t in
        let e = eqb→eq ((r.0 + p) % w) j (T-left (eqb ((r.0 + p) % w) j) (is_set a r.0) r.2) in
        subst T (from r.0 r.1 e) (T-right (eqb ((r.0 + p) % w) j) (is_set a r.0) r.2)

    back : T ((rotate_left p s).at j) → T (some_below w goes)
    back t =
        let k = (j + (w - p % w)) % w in
        let n : k < w = mod-lt (j + (w - p % w)) {m = w} l in
        some_below-intro w goes k n (T_and (eqb ((k + p) % w) j) (is_set a k) (eq→eqb (origin w p j m)) (subst T (sym (from k n (origin w p j m))) t))

pub rotl-is : {w a : ℕ} {s : Bitvector} (p : ℕ) → 1 ≤ w → Is w a s
    → Is w (number w (λ j. some_below w (λ k. eqb ((k + p) % w) j && is_set a k))) (rotate_left p s)
rotl-is {w} {a} {s} p l h =
    Is-of (rotate-width p s (omega (arith, h.width_is)) ∙ h.width_is) (number-below w _)
    (λ j m. bit-number w _ j m ∙ ap digit (rotated-bit p l h j m))
