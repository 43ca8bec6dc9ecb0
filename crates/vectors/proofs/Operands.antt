-- One operand of a list of rows, and a choice from all of them. Assumes nothing.
--   no_row         the row past the end of a list; it covers 0
--   formed-at     each row is well formed;  chosen_at   each covers the number chosen for it
--   choose-at     a number that one row covers is part of a choice
--   below-chosen  each number chosen is below 2 to the power of its row's width
--   cons-chosen, one-chosen   what a choice from one row and more, and from one row alone, consists of
use mathlib.Core.Path.{◌≡◌, refl, sym}
use mathlib.Core.List.{List, [], ◌∷◌, map}
use Prim.Native.Nat.{ℕ, zero, suc, ◌^◌, ◌<◌}
use native.Mathlib.Nat.{not-suc-le-zero}
use native.Mathlib.Omega.{arith}
use lib.Arith.{lt-one}
use lib.ListN.{get_or}
use Rattle.bits.proofs.Bits.{bit-of-zero}
use Rattle.vectors.specs.Lists.{All, Pointwise}
use Rattle.vectors.specs.Row.{Row, row, WellFormed, Covers}
use Rattle.vectors.specs.Choice.{Chosen}
use Rattle.vectors.proofs.Rows.{covers-value}
use Rattle.vectors.proofs.Choices.{some-chosen}

abbrev pub no_row : Row
no_row = row 0 0 0

pub formed-at : (rows : List Row) → All WellFormed rows → (i : ℕ) → WellFormed (get_or rows i no_row)
formed-at [] F i = record { mask_below = omega arith; value_below = omega arith; apart = λ k e. bit-of-zero k }
formed-at (r ∷ rs) F zero = F.0
formed-at (r ∷ rs) F (suc i) = formed-at rs F.1 i

pub chosen_at : (rows : List Row) (ns : List ℕ) → Chosen rows ns → (i : ℕ) → Covers (get_or rows i no_row) (get_or ns i 0)
chosen_at [] [] c i = record { below = omega arith; agrees = λ k h e. absurd (not-suc-le-zero h) }
chosen_at [] (n ∷ ns) c i = absurd c
chosen_at (r ∷ rs) [] c i = absurd c
chosen_at (r ∷ rs) (n ∷ ns) c zero = c.0
chosen_at (r ∷ rs) (n ∷ ns) c (suc i) = chosen_at rs ns c.1 i

pub choose-at : (rows : List Row) → All WellFormed rows → (i n : ℕ) → Covers (get_or rows i no_row) n → (ns : List ℕ) × Chosen rows ns × (get_or ns i 0 ≡ n)
choose-at [] F i n c = ([], tt, sym (lt-one c.below))
choose-at (r ∷ rs) F zero n c = let (ns, d) = some-chosen rs F.1 in (n ∷ ns, (c, d), refl)
choose-at (r ∷ rs) F (suc i) n c = let (ns, d, e) = choose-at rs F.1 i n c in (r.value ∷ ns, (covers-value r F.0, d), e)

pub below-chosen : (rows : List Row) (ns : List ℕ) → Chosen rows ns → Pointwise (λ w n. n < 2 ^ w) (map (λ r. r.width) rows) ns
below-chosen [] [] c = tt
below-chosen [] (n ∷ ns) c = absurd c
below-chosen (r ∷ rs) [] c = absurd c
below-chosen (r ∷ rs) (n ∷ ns) c = (c.0.below, below-chosen rs ns c.1)

pub cons-chosen : (r : Row) (rest : List Row) (P : List ℕ → Type 0) → ((n : ℕ) (ms : List ℕ) → Covers r n → Chosen rest ms → P (n ∷ ms)) → (ns : List ℕ) → Chosen (r ∷ rest) ns → P ns
cons-chosen r rest P h [] c = absurd c
cons-chosen r rest P h (n ∷ ms) c = h n ms c.0 c.1

pub one-chosen : (r : Row) (P : List ℕ → Type 0) → ((n : ℕ) → Covers r n → P (n ∷ [])) → (ns : List ℕ) → Chosen (r ∷ []) ns → P ns
one-chosen r P h [] c = absurd c
one-chosen r P h (n ∷ []) c = h n c.0
one-chosen r P h (n ∷ m ∷ ms) c = absurd c.1
