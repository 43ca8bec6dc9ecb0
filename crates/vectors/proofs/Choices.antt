-- The tests of covering and of choices mean what they say; choices exist, and widen with their rows. Assumes nothing.
use mathlib.Core.Path.{◌≡◌}
use mathlib.Core.Bool.{Bool, not, ◌||◌}
use mathlib.Core.Logic.{inl, inr}
use mathlib.Core.List.{List, [], ◌∷◌}
use Prim.Native.Nat.{ℕ, ◌^◌, ◌<◌}
use native.Mathlib.Omega.{arith}
use lib.Dec.{T, T_not, not_T, ltb, eqb, ltb→lt, lt→ltb, eqb→eq}
use Rattle.bits.specs.Bit.{bit}
use Rattle.bits.proofs.Bits.{bit-cases}
use Rattle.bits.proofs.Bools.{T_and, T-left, T-right, T-inl, T-inr, T-or, eq→eqb}
use Rattle.bits.proofs.Below.{some_below-intro, some_below-elim, all_below-intro, all_below-elim}
use Rattle.vectors.specs.Lists.{All, Pointwise}
use Rattle.vectors.specs.Row.{Row, WellFormed, Covers, Inside}
use Rattle.vectors.specs.Choice.{Chosen, coversb, some_choice}
use Rattle.vectors.proofs.Rows.{covers-value}

pub covers-of-test : (r : Row) (n : ℕ) → T (coversb r n) → Covers r n
unfolding coversb
covers-of-test r n t =
    record {
      below = ltb→lt n (2 ^ r.width) (T-left (ltb n (2 ^ r.width)) _ t);
      agrees = λ k h e. at k e (all_below-elim r.width _ (T-right (ltb n (2 ^ r.width)) _ t) k h);
    }
  where
    at : (k : ℕ) → bit r.mask k ≡ 0 → T (not (eqb (bit r.mask k) 0) || eqb (bit n k) (bit r.value k)) → bit n k ≡ bit r.value k
    at k e t = elim (T-or (not (eqb (bit r.mask k) 0)) _ t) [
      | inl u ↦ absurd (T_not (eqb (bit r.mask k) 0) u (eq→eqb e))
      | inr u ↦ eqb→eq (bit n k) (bit r.value k) u
    ]

pub test-of-covers : (r : Row) (n : ℕ) → Covers r n → T (coversb r n)
unfolding coversb
test-of-covers r n c =
    T_and (ltb n (2 ^ r.width)) _ (lt→ltb n (2 ^ r.width) c.below) (all_below-intro r.width _ at)
  where
    at : (k : ℕ) → k < r.width → T (not (eqb (bit r.mask k) 0) || eqb (bit n k) (bit r.value k))
    at k h = elim (bit-cases r.mask k) [
      | inl e ↦ T-inr (not (eqb (bit r.mask k) 0)) _ (eq→eqb (c.agrees k h e))
      | inr e ↦ T-inl (not (eqb (bit r.mask k) 0)) _ (not_T (eqb (bit r.mask k) 0) (λ t. let z = eqb→eq (bit r.mask k) 0 t in omega arith))
    ]

pub some_choice-intro : (rows : List Row) (p : List ℕ → Bool) (ns : List ℕ) → Chosen rows ns → T (p ns) → T (some_choice rows p)
unfolding some_choice
some_choice-intro [] p [] c t = t
some_choice-intro [] p (n ∷ ns) c t = absurd c
some_choice-intro (r ∷ rs) p [] c t = absurd c
some_choice-intro (r ∷ rs) p (n ∷ ns) c t =
    some_below-intro (2 ^ r.width) _ n c.0.below
    (T_and (coversb r n) _ (test-of-covers r n c.0) (some_choice-intro rs (λ ms. p (n ∷ ms)) ns c.1 t))

pub some_choice-elim : (rows : List Row) (p : List ℕ → Bool) → T (some_choice rows p) → (ns : List ℕ) × Chosen rows ns × T (p ns)
unfolding some_choice
some_choice-elim [] p t = ([], tt, t)
some_choice-elim (r ∷ rs) p t =
    let (n, h, u) = some_below-elim (2 ^ r.width) _ t in
    let (ns, c, v) = some_choice-elim rs (λ ms. p (n ∷ ms)) (T-right (coversb r n) _ u) in
    (n ∷ ns, (covers-of-test r n (T-left (coversb r n) _ u), c), v)

-- well-formed rows leave a choice: their values
pub some-chosen : (rows : List Row) → All WellFormed rows → (ns : List ℕ) × Chosen rows ns
some-chosen [] f = ([], tt)
some-chosen (r ∷ rs) f = let (ns, c) = some-chosen rs f.1 in (r.value ∷ ns, (covers-value r f.0, c))

pub chosen-inside : (ps qs : List Row) (ns : List ℕ) → Pointwise Inside ps qs → Chosen ps ns → Chosen qs ns
chosen-inside [] [] ns i c = c
chosen-inside [] (q ∷ qs) ns i c = absurd i
chosen-inside (p ∷ ps) [] ns i c = absurd i
chosen-inside (p ∷ ps) (q ∷ qs) [] i c = c
chosen-inside (p ∷ ps) (q ∷ qs) (n ∷ ns) i c = (i.0 n c.0, chosen-inside ps qs ns i.1 c.1)
