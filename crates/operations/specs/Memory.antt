-- Kinds 24 and 25: lookup memories (02, request 11). Each kind is described here and nowhere else.
--   span base n      the rows of a span, n cells from the base row on, in order
--   load_number ns    of the numbers of the address and of the cells, the number that a load gives
--   store_number i ns of the numbers of the address, of the data and of cell i, the number that a store leaves in that cell
--   op_load op_store
use Rattle.std.specs.Prelude.{false, cond, List, [], ◌∷◌, ℕ, eqb, get_or}
use Rattle.bits.specs.Counted.{listed}
use Rattle.operations.specs.Kind.{bytes, as_row, as_count, as_base, unused, Kind, first, second, third, cell_widths}

-- "n rows from the base"
abbrev pub span : ℕ → ℕ → List ℕ
span base n = listed (λ i. i) base n

-- "an address below n means the cell that many rows after the base: a load gives that cell's number"; "an address of n or more reads 0"
abbrev pub load_number : List ℕ → ℕ
load_number [] = 0
load_number (x ∷ cells) = get_or cells x 0

-- "a store replaces that cell's number alone with the data's"; "an address of n or more writes nothing"
abbrev pub store_number : ℕ → List ℕ → ℕ
store_number i ns = cond (eqb (first ns) i) (second ns) (third ns)

-- load: "n rows from the base (n is the parameter ..), address in the first row"
unfoldable pub op_load : Kind
op_load =
    record {
      number = 24;
      name = bytes "load";
      use_t = as_row;
      use_a = as_row;
      use_b = unused;
      use_p = as_count;
      use_c = as_base;
      correlated = false;
      rule = cell_widths;
      plain = λ wt ws p ns. load_number ns;
    }

-- store: "address first, data second, target word 0". Of one cell: p is the cell's number, and the operands are the address, the data and that cell.
unfoldable pub op_store : Kind
op_store =
    record {
      number = 25;
      name = bytes "store";
      use_t = unused;
      use_a = as_row;
      use_b = as_row;
      use_p = as_count;
      use_c = as_base;
      correlated = false;
      rule = cell_widths;
      plain = λ wt ws p ns. store_number p ns;
    }
