-- The law of kernels that answer a test by one bit: 1 if it holds, else 0. Assumes nothing.
--   Tells rows test b        b is true exactly if some choice of covered operands passes the test
--   Tested fails holds m v   mask and value of a test that may fail and may hold, as the two flags say
use Rattle.std.proofs.Common.{◌≡◌, ℕ, ◌<◌, Bool, true, false, not, ◌&&◌, T, List, sym, refl, ◌∙◌, ap₂, arith, T_not}
use lib.Dec.{not_T}
use Rattle.bits.specs.Bit.{bit, digit}
use Rattle.bits.proofs.Bools.{T_not-not}
use Rattle.bits.proofs.Bits.{bit-of-zero, digit_lt}
use Rattle.vectors.specs.Lists.{All}
use Rattle.vectors.specs.Row.{Row, row, WellFormed}
use Rattle.vectors.specs.Choice.{Chosen}
use Rattle.vectors.specs.Best.{best}
use Rattle.vectors.proofs.Choices.{some-chosen}
use Rattle.vectors.proofs.Bests.{best-from-bits}
use Rattle.vectors.proofs.BestLaws.{best-constant}
use Rattle.logic.proofs.Bitwise.{bit-one}

pub record Tells (rows : List Row) (test : List ℕ → Bool) (b : Bool) : Type 0 where
  pub some : T b → (ns : List ℕ) × Chosen rows ns × T (test ns)
  pub every : (ns : List ℕ) → Chosen rows ns → T (test ns) → T b

abbrev pub Tested : Bool → Bool → ℕ → ℕ → Type 0
Tested fails holds m v = (m ≡ digit (fails && holds)) × (v ≡ digit (holds && not fails))

digit-true : (b : Bool) → T b → digit b ≡ 1
digit-true true t = refl
digit-true false t = absurd t

digit-false : (b : Bool) → T (not b) → digit b ≡ 0
digit-false true t = absurd t
digit-false false t = refl

bit-digit : (b : Bool) (k : ℕ) → k < 1 → bit (digit b) k ≡ digit b
bit-digit b k h = bit-one (digit b) (digit_lt b) k h

-- 0 where the test cannot hold, 1 where it cannot fail, else X
tests-row : (test : List ℕ → Bool) (rows : List Row) (fails holds : Bool) → All WellFormed rows
    → Tells rows (λ ns. not (test ns)) fails → Tells rows test holds
    → row 1 (digit (fails && holds)) (digit (holds && not fails)) ≡ best 1 (λ ns. digit (test ns)) rows
tests-row test rows true true W Z O =
    best-from-bits W (record {
      width_is = refl;
      formed = record { mask_below = omega arith; value_below = omega arith; apart = λ k e. bit-of-zero k };
      unknown = λ k h e.
          let (ms, c, t) = Z.some tt in
          let (ns, d, u) = O.some tt in (
            record { numbers = ms; chosen = c; gives = bit-digit (test ms) k h ∙ digit-false (test ms) t },
            record { numbers = ns; chosen = d; gives = bit-digit (test ns) k h ∙ digit-true (test ns) u },
          );
      known = λ k h e. absurd (let x = bit-one 1 (omega arith) k h in omega arith);
    })
tests-row test rows true false W Z O =
    sym (best-constant 1 (λ ns. digit (test ns)) rows 0 W (omega arith) (λ ns c. digit-false (test ns) (not_T (test ns) (O.every ns c))))
tests-row test rows false true W Z O =
    sym (best-constant 1 (λ ns. digit (test ns)) rows 1 W (omega arith) (λ ns c. digit-true (test ns) (T_not-not (test ns) (not_T (not (test ns)) (Z.every ns c)))))
tests-row test rows false false W Z O =
    let (ns, c) = some-chosen rows W in
    absurd (T_not (test ns) (not_T (test ns) (O.every ns c)) (T_not-not (test ns) (not_T (not (test ns)) (Z.every ns c))))

pub tests-best : (test : List ℕ → Bool) (rows : List Row) (fails holds : Bool) (m v : ℕ) → All WellFormed rows
    → Tells rows (λ ns. not (test ns)) fails → Tells rows test holds → Tested fails holds m v → row 1 m v ≡ best 1 (λ ns. digit (test ns)) rows
tests-best test rows fails holds m v W Z O t = ap₂ (row 1) t.0 t.1 ∙ tests-row test rows fails holds W Z O

-- ---- the three answers

pub tested-0 : (fails holds : Bool) → T (not holds) → Tested fails holds 0 0
tested-0 true true t = absurd t
tested-0 true false t = (refl, refl)
tested-0 false true t = absurd t
tested-0 false false t = (refl, refl)

pub tested-X : (fails holds : Bool) → T fails → T holds → Tested fails holds 1 0
tested-X true true t u = (refl, refl)
tested-X true false t u = absurd u
tested-X false holds t u = absurd t

pub tested-1 : (fails holds : Bool) → T (not fails) → T holds → Tested fails holds 0 1
tested-1 true holds t u = absurd t
tested-1 false true t u = (refl, refl)
tested-1 false false t u = absurd u
