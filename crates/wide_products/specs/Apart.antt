-- How the kernel of the wide products works (02, request 4). Cited by contracts of inner functions alone: no public contract rests on it.
--   Factor wt r                a well-formed vector of at least one and at most wt bits
--   Operand wt t m x           a factor as the code holds it: its mask m, the number x that its value counts as, and the place t of its sign
--   sign_unknown signed r       the vector is signed and its top bit is X
--   sign_as b r                 r with its unknown top bit taken as b
--   by_sign signed r f          f of r; where its sign is unknown, the join of f of both cases
--   extended_row signed wt r    r extended to wt bits: by its known top bit where it is signed, else by zeros
--   by_operand O g              the same of a factor that the code holds, for g of the extended vector
--   multiplied wt p q          the product of two vectors of width wt
--   wide_vector sa sb wt ra rb  the kernel's result: the product of the extended operands, by the signs of both
use Rattle.std.specs.Prelude.{◌≡◌, Bool, cond, ◌&&◌, [], ◌∷◌, ℕ, ◌+◌, ◌-◌, ◌*◌, ◌%◌, ◌^◌, ◌≤◌}
use Rattle.bits.specs.Bit.{is_set}
use Rattle.vectors.specs.Row.{Row, row, WellFormed}
use Rattle.vectors.specs.Hull.{join}
use Rattle.operations.specs.Arithmetic.{op_mul}
use Rattle.operations.specs.Encoding.{sign_place}
use Rattle.operations.specs.Wide.{counted_as}
use Rattle.operations.specs.Result.{result_of}

pub record Factor (wt : ℕ) (r : Row) : Type 0 where
  pub formed : WellFormed r
  pub least : 1 ≤ r.width
  pub most : r.width ≤ wt

pub record Operand (wt t m x : ℕ) : Type 0 where
  pub signed : Bool
  pub width : ℕ
  pub value : ℕ
  pub factor : Factor wt (row width m value)
  pub place_is : t ≡ sign_place signed width
  pub number_is : x ≡ counted_as signed wt width value

unfoldable pub sign_unknown : Bool → Row → Bool
sign_unknown signed r = signed && is_set r.mask (r.width - 1)

abbrev pub sign_as : ℕ → Row → Row
sign_as b r = row r.width (r.mask % 2 ^ (r.width - 1)) (b * 2 ^ (r.width - 1) + r.value)

-- "Where a signed operand's top bit is X, the two cases are taken apart and their results joined"
unfoldable pub by_sign : Bool → Row → (Row → Row) → Row
by_sign signed r f = cond (sign_unknown signed r) (join (f (sign_as 0 r)) (f (sign_as 1 r))) (f r)

abbrev pub extended_row : Bool → ℕ → Row → Row
extended_row signed wt r = row wt r.mask (counted_as signed wt r.width r.value)

abbrev pub multiplied : ℕ → Row → Row → Row
multiplied wt p q = result_of op_mul wt 0 (p ∷ q ∷ [])

-- the same of one operand, as the code holds it: g is a function of the extended vector
abbrev pub by_operand : {wt t m x : ℕ} → Operand wt t m x → (Row → Row) → Row
by_operand {wt} {t} {m} O g = by_sign O.signed (row O.width m O.value) (λ q. g (extended_row O.signed wt q))

unfoldable pub wide_vector : Bool → Bool → ℕ → Row → Row → Row
wide_vector sa sb wt ra rb = by_sign sa ra (λ p. by_sign sb rb (λ q. multiplied wt (extended_row sa wt p) (extended_row sb wt q)))
