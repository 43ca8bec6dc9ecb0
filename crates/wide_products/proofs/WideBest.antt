-- The kernel of the wide products gives the best vector, by one argument over both signs. Assumes nothing.
--   both-known   no sign is unknown: `mul` of the extended operands
--   by-sign      an unknown sign taken apart, at any place of the operands and for any function
--   wide-best    the theorem
use mathlib.Core.Path.{◌≡◌, refl, ap₂, ◌∙◌}
use mathlib.Core.Bool.{Bool, true, false, cond}
use mathlib.Core.List.{List, [], ◌∷◌, ◌++◌}
use Prim.Native.Nat.{ℕ, ◌*◌, ◌%◌, ◌^◌}
use native.Mathlib.Omega.{arith}
use lib.Dec.{T}
use Rattle.vectors.specs.Lists.{All}
use Rattle.vectors.specs.Row.{Row, row, WellFormed, Covers}
use Rattle.vectors.specs.Choice.{Chosen}
use Rattle.vectors.specs.Best.{best}
use Rattle.vectors.specs.Hull.{Results, join}
use Rattle.vectors.proofs.Operands.{cons-chosen, one-chosen}
use Rattle.vectors.proofs.BestLaws.{best-carried}
use Rattle.vectors.proofs.Apart.{best-place}
use Rattle.operations.specs.Arithmetic.{op_mul}
use Rattle.operations.specs.Wide.{counted_as, wide_number}
use Rattle.operations.specs.Result.{result_of}
use Rattle.wide_products.specs.Apart.{Factor, sign_unknown, sign_as, by_sign, extended_row, multiplied, wide_vector}
use Rattle.wide_products.proofs.Extensions.{extended-covers, covers-extended}
use Rattle.wide_products.proofs.SignCases.{sign-is-unknown, sign_as-factor, sign_as-inside, sign_as-apart, sign_as-known}

-- a choice from two rows
two-chosen : (p q : Row) (P : List ℕ → Type 0) → ((x y : ℕ) → Covers p x → Covers q y → P (x ∷ y ∷ [])) → (ns : List ℕ) → Chosen (p ∷ q ∷ []) ns → P ns
two-chosen p q P h = cons-chosen p (q ∷ []) P (λ x ms c. one-chosen q (λ ns. P (x ∷ ns)) (λ y d. h x y c d) ms)

pub both-known : (sa sb : Bool) (wt : ℕ) (p q : Row) → Factor wt p → Factor wt q → (T (sign_unknown sa p) → ⊥) → (T (sign_unknown sb q) → ⊥)
    → multiplied wt (extended_row sa wt p) (extended_row sb wt q) ≡ best wt (wide_number sa sb wt (p.width ∷ q.width ∷ [])) (p ∷ q ∷ [])
unfolding result_of op_mul
both-known sa sb wt p q P Q K L =
    best-carried wt g f (extended_row sa wt p ∷ extended_row sb wt q ∷ []) (p ∷ q ∷ []) (P.formed, (Q.formed, tt))
    (two-chosen (extended_row sa wt p) (extended_row sb wt q) (λ ns. Results f (p ∷ q ∷ []) (g ns))
    (λ x y c d.
    let (i, e) = covers-extended sa wt p P K x c in
    let (j, e') = covers-extended sb wt q Q L y d in
    record { numbers = x % 2 ^ p.width ∷ y % 2 ^ q.width ∷ []; chosen = (i, (j, tt)); gives = ap₂ (λ (m n : ℕ). m * n % 2 ^ wt) e e' }))
    (two-chosen p q (λ ns. Results g (extended_row sa wt p ∷ extended_row sb wt q ∷ []) (f ns))
    (λ x y c d. record {
      numbers = counted_as sa wt p.width x ∷ counted_as sb wt q.width y ∷ [];
      chosen = (extended-covers sa wt p P K x c, (extended-covers sb wt q Q L y d, tt));
      gives = refl;
    }))
  where
    f : List ℕ → ℕ
    f = wide_number sa sb wt (p.width ∷ q.width ∷ [])

    g : List ℕ → ℕ
    g = op_mul.plain wt (wt ∷ wt ∷ []) 0

-- f gives the best vector wherever the operand's sign is not unknown: taken apart, it gives it at any vector
by-sign : (signed : Bool) (wt w : ℕ) (h : List ℕ → ℕ) (before after : List Row) (f : Row → Row) (r : Row) → Factor wt r
    → ((x : Row) → WellFormed x → All WellFormed (before ++ x ∷ after))
    → ((m v : ℕ) → Factor wt (row r.width m v) → (T (sign_unknown signed (row r.width m v)) → ⊥) → f (row r.width m v) ≡ best w h (before ++ row r.width m v ∷ after))
    → by_sign signed r f ≡ best w h (before ++ r ∷ after)
unfolding by_sign
by-sign signed wt w h before after f r F E G = go (sign_unknown signed r) (λ t. t) (λ t. t)
  where
    apart : T (sign_unknown signed r) → join (f (sign_as 0 r)) (f (sign_as 1 r)) ≡ best w h (before ++ r ∷ after)
    apart t =
        let e = sign-is-unknown signed r t in
        let A = sign_as-factor signed wt r F t 0 (omega arith) in
        let B = sign_as-factor signed wt r F t 1 (omega arith) in
        ap₂ join (G _ _ A (sign_as-known signed 0 r)) (G _ _ B (sign_as-known signed 1 r))
        ∙ best-place w h before after r (sign_as 0 r) (sign_as 1 r) (E r F.formed) (E (sign_as 0 r) A.formed) (E (sign_as 1 r) B.formed)
        (sign_as-inside r F.formed F.least e 0 (omega arith)) (sign_as-inside r F.formed F.least e 1 (omega arith)) (sign_as-apart r F.formed F.least e)

    go : (b : Bool) → (T b → T (sign_unknown signed r)) → (T (sign_unknown signed r) → T b) → cond b (join (f (sign_as 0 r)) (f (sign_as 1 r))) (f r) ≡ best w h (before ++ r ∷ after)
    go true t u = apart (t tt)
    go false t u = G r.mask r.value F u

pub wide-best : (sa sb : Bool) (wt : ℕ) (ra rb : Row) → Factor wt ra → Factor wt rb → wide_vector sa sb wt ra rb ≡ best wt (wide_number sa sb wt (ra.width ∷ rb.width ∷ [])) (ra ∷ rb ∷ [])
unfolding wide_vector
wide-best sa sb wt ra rb A B =
    by-sign sa wt wt f [] (rb ∷ []) _ ra A (λ x F. (F, (B.formed, tt)))
    (λ m v P K.
    by-sign sb wt wt f (row ra.width m v ∷ []) [] _ rb B (λ y F. (P.formed, (F, tt)))
    (λ n u Q L. both-known sa sb wt (row ra.width m v) (row rb.width n u) P Q K L))
  where
    f : List ℕ → ℕ
    f = wide_number sa sb wt (ra.width ∷ rb.width ∷ [])
