-- `best` is the best vector that covers an operation's results, and no other vector is; `best_of` is the best vector for the numbers that pass a test. Assumes nothing.
--   Gives f rows k b     some choice of covered operands gives b at bit k
--   ByBits w f rows r    r told bit by bit: what a routine that computes a result has to show
use mathlib.Core.Path.{◌≡◌, refl, sym, ap, ◌∙◌}
use mathlib.Core.Bool.{Bool, true, false, not, ◌&&◌}
use mathlib.Core.Logic.{inl, inr}
use mathlib.Core.List.{List}
use Prim.Native.Nat.{ℕ, ◌^◌, ◌<◌}
use native.Mathlib.Decide.{dec_lt}
use native.Mathlib.Omega.{arith}
use lib.Dec.{T, eqb→eq}
use Rattle.bits.specs.Bit.{bit, digit}
use Rattle.bits.proofs.Bits.{bit-cases, bit-above, bit-number, number-below}
use Rattle.bits.proofs.Below.{some_below-intro, some_below-elim}
use Rattle.bits.proofs.Bools.{T_and, T-left, T-right, eq→eqb}
use Rattle.vectors.specs.Lists.{All}
use Rattle.vectors.specs.Row.{Row, WellFormed}
use Rattle.vectors.specs.Choice.{Chosen}
use Rattle.vectors.specs.Best.{vector_by_bits, may, best, shown, best_of}
use Rattle.vectors.specs.Hull.{Shows, Hull, Results}
use Rattle.vectors.proofs.Choices.{some_choice-intro, some_choice-elim, some-chosen}
use Rattle.vectors.proofs.Hulls.{Inhabited, hull-unique}

pub record Gives (f : List ℕ → ℕ) (rows : List Row) (k b : ℕ) : Type 0 where
  pub numbers : List ℕ
  pub chosen : Chosen rows numbers
  pub gives : bit (f numbers) k ≡ b

pub record ByBits (w : ℕ) (f : List ℕ → ℕ) (rows : List Row) (r : Row) : Type 0 where
  pub width_is : r.width ≡ w
  pub formed : WellFormed r
  pub unknown : (k : ℕ) → k < w → bit r.mask k ≡ 1 → Gives f rows k 0 × Gives f rows k 1
  pub known : (k : ℕ) → k < w → bit r.mask k ≡ 0 → (ns : List ℕ) → Chosen rows ns → bit (f ns) k ≡ bit r.value k

-- ---- bit by bit is the hull of the results

shows-of-gives : (f : List ℕ → ℕ) (rows : List Row) (k b : ℕ) → Gives f rows k b → Shows (Results f rows) k b
shows-of-gives f rows k b g = record { shown = f g.numbers; within = record { numbers = g.numbers; chosen = g.chosen; gives = refl }; shows = g.gives }

pub hull-of-bits : (w : ℕ) (f : List ℕ → ℕ) (rows : List Row) (r : Row) → ByBits w f rows r → Hull w (Results f rows) r
hull-of-bits w f rows r B =
    record {
      width_is = B.width_is;
      formed = B.formed;
      unknown = λ k h e. let (p, q) = B.unknown k h e in (shows-of-gives f rows k 0 p, shows-of-gives f rows k 1 q);
      known = λ k h e n s. ap (λ (x : ℕ). bit x k) (sym s.gives) ∙ B.known k h e s.numbers s.chosen;
    }

pub some_result : (f : List ℕ → ℕ) (rows : List Row) → All WellFormed rows → Inhabited (Results f rows)
some_result f rows F = let (ns, c) = some-chosen rows F in record { member = f ns; is_inside = record { numbers = ns; chosen = c; gives = refl } }

-- ---- a vector told bit by bit, and `best`

digit-apart : (a b : Bool) → digit (a && b) ≡ 1 → digit (b && not a) ≡ 0
digit-apart true true e = refl
digit-apart true false e = refl
digit-apart false b e = absurd (omega arith)

digit-both : (a b : Bool) → digit (a && b) ≡ 1 → T a × T b
digit-both true true e = (tt, tt)
digit-both true false e = omega arith
digit-both false b e = absurd (omega arith)

digit-one : (a b : Bool) → digit (a && b) ≡ 0 → T b → digit (b && not a) ≡ 1
digit-one true true e t = omega arith
digit-one true false e t = absurd t
digit-one false true e t = refl
digit-one false false e t = absurd t

digit-zero : (a b : Bool) → digit (a && b) ≡ 0 → T a → digit (b && not a) ≡ 0
digit-zero true true e t = refl
digit-zero true false e t = refl
digit-zero false b e t = absurd t

-- what each bit may be, told for a set of numbers, gives its best vector
module _ (w : ℕ) (P : ℕ → Type 0) (may : ℕ → ℕ → Bool) (shows : (b k : ℕ) → T (may b k) → Shows P k b) (shown : (b k n : ℕ) → P n → bit n k ≡ b → T (may b k)) where
  pub hull-by-bits : Hull w P (vector_by_bits w may)
  hull-by-bits =
      record {
        width_is = refl;
        formed = record {
          mask_below = number-below w _;
          value_below = number-below w _;
          apart = λ k e. elim (dec_lt k w) [
            | yes h ↦ bit-number w _ k h ∙ digit-apart (may 0 k) (may 1 k) (sym (bit-number w _ k h) ∙ e)
            | no h ↦ bit-above w _ k (number-below w _) (omega arith)
          ];
        };
        unknown = λ k h e. let (t, u) = digit-both (may 0 k) (may 1 k) (sym (bit-number w _ k h) ∙ e) in (shows 0 k t, shows 1 k u);
        known = λ k h e n p.
            let z = sym (bit-number w _ k h) ∙ e in
            elim (bit-cases n k) [
              | inl v ↦ v ∙ sym (bit-number w _ k h ∙ digit-zero (may 0 k) (may 1 k) z (shown 0 k n p v))
              | inr v ↦ v ∙ sym (bit-number w _ k h ∙ digit-one (may 0 k) (may 1 k) z (shown 1 k n p v))
            ];
      }

module _ (w : ℕ) (f : List ℕ → ℕ) (rows : List Row) where
  pub may-elim : (b k : ℕ) → T (may f rows b k) → Gives f rows k b
  unfolding may
  may-elim b k t =
      let (ns, c, u) = some_choice-elim rows _ t in
      record { numbers = ns; chosen = c; gives = eqb→eq (bit (f ns) k) b u }

  pub may-intro : (b k : ℕ) (ns : List ℕ) → Chosen rows ns → bit (f ns) k ≡ b → T (may f rows b k)
  unfolding may
  may-intro b k ns c e = some_choice-intro rows _ ns c (eq→eqb e)

  pub best-hull : Hull w (Results f rows) (best w f rows)
  unfolding best
  best-hull =
      hull-by-bits w (Results f rows) (may f rows) (λ b k t. shows-of-gives f rows k b (may-elim b k t))
      (λ b k n s e. may-intro b k s.numbers s.chosen (ap (λ (x : ℕ). bit x k) s.gives ∙ e))

  gives-of-shows : (k b : ℕ) → Shows (Results f rows) k b → Gives f rows k b
  gives-of-shows k b s =
      let R = s.within in
      record { numbers = R.numbers; chosen = R.chosen; gives = ap (λ (x : ℕ). bit x k) R.gives ∙ s.shows }

  pub best-by-bits : ByBits w f rows (best w f rows)
  best-by-bits =
      record {
        width_is = best-hull.width_is;
        formed = best-hull.formed;
        unknown = λ k h e. let (p, q) = best-hull.unknown k h e in (gives-of-shows k 0 p, gives-of-shows k 1 q);
        known = λ k h e ns c. best-hull.known k h e (f ns) (record { numbers = ns; chosen = c; gives = refl });
      }

-- the best vector for the numbers that pass a test
pub best_of-hull : (w : ℕ) (p : ℕ → Bool) (P : ℕ → Type 0) → ((n : ℕ) → T (p n) → P n) → ((n : ℕ) → P n → (n < 2 ^ w) × T (p n)) → Hull w P (best_of w p)
unfolding best_of
best_of-hull w p P passed tests =
    hull-by-bits w P (shown w p)
    (λ b k t.
    let (n, l, u) = some_below-elim (2 ^ w) _ t in
    record { shown = n; within = passed n (T-left (p n) _ u); shows = eqb→eq (bit n k) b (T-right (p n) _ u) })
    (λ b k n x e. let (l, t) = tests n x in some_below-intro (2 ^ w) _ n l (T_and (p n) _ t (eq→eqb e)))

-- ---- and it is the only such vector

pub best-of-hull : (w : ℕ) (f : List ℕ → ℕ) (rows : List Row) (r : Row) → All WellFormed rows → Hull w (Results f rows) r → r ≡ best w f rows
best-of-hull w f rows r F H = hull-unique w (Results f rows) r (best w f rows) (some_result f rows F) H (best-hull w f rows)

-- the law that each kernel's proof uses
pub best-from-bits : {w : ℕ} {f : List ℕ → ℕ} {rows : List Row} {r : Row} → All WellFormed rows → ByBits w f rows r → r ≡ best w f rows
best-from-bits {w} {f} {rows} {r} F B = best-of-hull w f rows r F (hull-of-bits w f rows r B)
