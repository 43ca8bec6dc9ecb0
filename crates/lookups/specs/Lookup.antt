-- The vectors that a load and a store give, as the code makes them. Cited by contracts of inner functions alone: that they are the best ones is proved.
--   greatest a         the greatest number that the address row covers (its least one is its value)
--   names a i          the address row covers i
--   zero_row w          the vector 0 of width w;   join_if b r c   r, joined with c where b holds
--   join_named w a cells j   the cell of the least address, joined with those of the next j cells that the address may name
--   load_row w a cells  what a load gives;   store_row i a d c   what a store of the data d leaves in cell i, which was c
--   cell_rows w masks values   the cells of a span that is lent as two parts;   LoadReady   what a load takes for granted
use Rattle.std.specs.Prelude.{Bool, cond, List, ◌≡◌, ℕ, zero, suc, ◌+◌, ◌-◌, ◌<◌, min, leb, eqb, length, get_or}
use Rattle.std.specs.Int.Bits.{bit_or}
use Rattle.bits.specs.Counted.{listed}
use Rattle.vectors.specs.Row.{Row, row, WellFormed}
use Rattle.vectors.specs.Hull.{join}

abbrev pub greatest : Row → ℕ
greatest a = bit_or a.value a.mask

-- i agrees with the address at every known bit
unfoldable pub names : Row → ℕ → Bool
names a i = eqb (bit_or i a.mask) (greatest a)

abbrev pub zero_row : ℕ → Row
zero_row w = row w 0 0

abbrev pub join_if : Bool → Row → Row → Row
join_if b r c = cond b (join r c) r

unfoldable pub join_named : ℕ → Row → List Row → ℕ → Row
join_named w a cells zero = get_or cells a.value (zero_row w)
join_named w a cells (suc j) = join_if (names a (a.value + suc j)) (join_named w a cells j) (get_or cells (a.value + suc j) (zero_row w))

-- the join of the cells that the address can name, joined with 0 where it may be n or more
unfoldable pub load_row : ℕ → Row → List Row → Row
load_row w a cells =
    join_if (leb (length cells) (greatest a)) (join_named w a cells (min (length cells) (suc (greatest a)) - suc a.value)) (zero_row w)

-- as it is if the address cannot be i; the data if the address is known to be i; else the join of the two
unfoldable pub store_row : ℕ → Row → Row → Row → Row
store_row i a d c = cond (names a i) (cond (eqb a.mask 0) d (join c d)) c

abbrev pub cell_rows : ℕ → List ℕ → List ℕ → List Row
cell_rows w masks values = listed (λ i. row w (get_or masks i 0) (get_or values i 0)) 0 (length masks)

-- what an accepted table gives a load: a well-formed address, and cells of width w that are well formed
pub record LoadReady (w : ℕ) (a : Row) (masks values : List ℕ) : Type 0 where
  pub address : WellFormed a
  pub one_length : length values ≡ length masks
  pub formed : (i : ℕ) → i < length masks → WellFormed (row w (get_or masks i 0) (get_or values i 0))
