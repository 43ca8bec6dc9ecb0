-- Kinds 0 to 4: copy and the bitwise kinds (01, "Records" and "Points and plain runs"). Each kind is described here and nowhere else.
--   op_copy op_not op_and op_or op_xor
-- In a plain number, w is the width of the first operand, first ws, and a, b are the operands' numbers.
use Rattle.std.specs.Prelude.{true, false, ◌-◌, ◌^◌}
use Rattle.std.specs.Int.Bits.{bit_and, bit_or, bit_xor}
use Rattle.operations.specs.Kind.{bytes, as_row, unused, Kind, first, second, same_width, same_widths}

-- copy: a
unfoldable pub op_copy : Kind
op_copy =
    record {
      number = 0;
      name = bytes "copy";
      use_t = as_row;
      use_a = as_row;
      use_b = unused;
      use_p = unused;
      use_c = unused;
      correlated = false;
      rule = same_width;
      plain = λ wt ws p ns. first ns;
    }

-- not: 2^w - 1 - a
unfoldable pub op_not : Kind
op_not =
    record {
      number = 1;
      name = bytes "not";
      use_t = as_row;
      use_a = as_row;
      use_b = unused;
      use_p = unused;
      use_c = unused;
      correlated = false;
      rule = same_width;
      plain = λ wt ws p ns. 2 ^ first ws - 1 - first ns;
    }

-- and, or, xor: bit by bit
unfoldable pub op_and : Kind
op_and =
    record {
      number = 2;
      name = bytes "and";
      use_t = as_row;
      use_a = as_row;
      use_b = as_row;
      use_p = unused;
      use_c = unused;
      correlated = true;
      rule = same_widths;
      plain = λ wt ws p ns. bit_and (first ns) (second ns);
    }

unfoldable pub op_or : Kind
op_or =
    record {
      number = 3;
      name = bytes "or";
      use_t = as_row;
      use_a = as_row;
      use_b = as_row;
      use_p = unused;
      use_c = unused;
      correlated = true;
      rule = same_widths;
      plain = λ wt ws p ns. bit_or (first ns) (second ns);
    }

unfoldable pub op_xor : Kind
op_xor =
    record {
      number = 4;
      name = bytes "xor";
      use_t = as_row;
      use_a = as_row;
      use_b = as_row;
      use_p = unused;
      use_c = unused;
      correlated = true;
      rule = same_widths;
      plain = λ wt ws p ns. bit_xor (first ns) (second ns);
    }
