-- Which reset bits a conclusion rests on (02, request 9): the conclusion, and the pass over the known bits of open rows.
--   ended t i s               row i after a full run from the rows s
--   Concludes t c s           the conclusion c holds from the rows s;   concludesb t c s   the test of it
--   Position, position i k    bit k of row i
--   forget_bit r k             the vector r with its bit k X;   forget widths s p   the rows s with the bit p X
--   known_at s p               the bit p is known in the rows s
--   bits_in t i, open_bits t    the bits of row i if it is open; those of all open rows, rows rising, bits rising
--   visit t c s p             the rows s, the bit p X if it is known and the conclusion then keeps its value
--   walk t c ps s             the bits ps visited one after another, each from the rows that the visit before left
--   pass_rows t c              the start vectors that the pass over all open rows leaves
use Rattle.std.specs.Prelude.{Bool, cond, ◌&&◌, List, [], ◌∷◌, ℕ, ◌^◌, eqb, length, get_or}
use Rattle.std.specs.Int.Bits.{bit_or, bit_xor}
use Rattle.bits.specs.Bit.{bit}
use Rattle.bits.specs.Counted.{listed, rising}
use Rattle.vectors.specs.Row.{Row, row, KnownAs}
use Rattle.operations.specs.Record.{width_at}
use Rattle.checks.specs.Table.{State, row_at, Table, start_of}
use Rattle.steps.specs.Step.{put}
use Rattle.tables.specs.Run.{full_run}
use Rattle.conclusions.specs.declared.Conclusion.{Conclusion}

-- ---- the conclusion, 02's term: "a row and a bit known after a full run", and the value that it is known as

abbrev pub ended : Table → ℕ → State → Row
ended t i s = row_at t.widths (full_run t s) i

abbrev pub Concludes : Table → Conclusion → State → Type 0
Concludes t c s = KnownAs (ended t c.row s) c.at c.value

unfoldable pub concludesb : Table → Conclusion → State → Bool
concludesb t c s = eqb (bit (ended t c.row s).mask c.at) 0 && eqb (bit (ended t c.row s).value c.at) c.value

-- ---- a bit that becomes X

pub record Position : Type 0 where
  pub row : ℕ
  pub at : ℕ

abbrev pub position : ℕ → ℕ → Position
position i k = record { row = i; at = k }

-- its mask bit is 1; its value bit is set and turned, so it is 0
abbrev pub forget_bit : Row → ℕ → Row
forget_bit r k = row r.width (bit_or r.mask (2 ^ k)) (bit_xor (bit_or r.value (2 ^ k)) (2 ^ k))

abbrev pub forget : List ℕ → State → Position → State
forget widths s p = put s p.row (forget_bit (row_at widths s p.row) p.at)

abbrev pub known_at : State → Position → Bool
known_at s p = eqb (bit (get_or s.masks p.row 0) p.at) 0

-- ---- the pass

-- "visit the known bits of open rows, rows rising, bits rising": an open row has lock 0
abbrev pub bits_in : Table → ℕ → List Position
bits_in t i = cond (eqb (get_or t.locks i 0) 0) (listed (position i) 0 (width_at t.widths i)) []

abbrev pub open_bits : Table → List Position
open_bits t = rising (bits_in t) 0 (length t.widths)

-- "each becomes X if the conclusion keeps its value": a full run from the rows as they then are. A visit changes its own bit alone, so a bit is known
-- when it is visited exactly if it is known in the given rows.
unfoldable pub visit : Table → Conclusion → State → Position → State
visit t c s p = cond (known_at s p && concludesb t c (forget t.widths s p)) (forget t.widths s p) s

unfoldable pub walk : Table → Conclusion → List Position → State → State
walk t c [] s = s
walk t c (p ∷ ps) s = walk t c ps (visit t c s p)

-- "start from the given rows"
abbrev pub pass_rows : Table → Conclusion → State
pass_rows t c = walk t c (open_bits t) (start_of t)
