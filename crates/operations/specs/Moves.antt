-- Kinds 5 to 12: movement (01, "Records" and "Points and plain runs"). Each kind is described here and nowhere else.
--   op_shl op_lshr op_ashr op_rotl op_extract op_concat op_zext op_sext
-- In a plain number, w is the width of the first operand, first ws, and a, b are the operands' numbers.
use Rattle.std.specs.Prelude.{true, false, ◌&&◌, ◌+◌, ◌-◌, ◌*◌, ◌/◌, ◌%◌, ◌^◌, min, eqb}
use Rattle.bits.specs.Bit.{is_set, number}
use Rattle.bits.specs.Below.{some_below}
use Rattle.operations.specs.Kind.{bytes, as_row, as_number, unused, Kind, first, second, same_width, taken_width, joined_widths, extended_width}

-- shl: a · 2^p modulo 2^w. A shift by w or more gives zeros.
unfoldable pub op_shl : Kind
op_shl =
    record {
      number = 5;
      name = bytes "shl";
      use_t = as_row;
      use_a = as_row;
      use_b = unused;
      use_p = as_number;
      use_c = unused;
      correlated = false;
      rule = same_width;
      plain = λ wt ws p ns. first ns * 2 ^ p % 2 ^ first ws;
    }

-- lshr: floor(a / 2^p)
unfoldable pub op_lshr : Kind
op_lshr =
    record {
      number = 6;
      name = bytes "lshr";
      use_t = as_row;
      use_a = as_row;
      use_b = unused;
      use_p = as_number;
      use_c = unused;
      correlated = false;
      rule = same_width;
      plain = λ wt ws p ns. first ns / 2 ^ p;
    }

-- ashr: bit k is bit min(k + p, w - 1) of a
unfoldable pub op_ashr : Kind
op_ashr =
    record {
      number = 7;
      name = bytes "ashr";
      use_t = as_row;
      use_a = as_row;
      use_b = unused;
      use_p = as_number;
      use_c = unused;
      correlated = false;
      rule = same_width;
      plain = λ wt ws p ns. number (first ws) (λ k. is_set (first ns) (min (k + p) (first ws - 1)));
    }

-- rotl: bit k of a goes to bit (k + p) modulo w, so bit j is 1 exactly where some set bit k goes to j
unfoldable pub op_rotl : Kind
op_rotl =
    record {
      number = 8;
      name = bytes "rotl";
      use_t = as_row;
      use_a = as_row;
      use_b = unused;
      use_p = as_number;
      use_c = unused;
      correlated = false;
      rule = same_width;
      plain = λ wt ws p ns. number (first ws) (λ j. some_below (first ws) (λ k. eqb ((k + p) % first ws) j && is_set (first ns) k));
    }

-- extract: floor(a / 2^p) modulo 2^wt; p is the lowest bit taken
unfoldable pub op_extract : Kind
op_extract =
    record {
      number = 9;
      name = bytes "extract";
      use_t = as_row;
      use_a = as_row;
      use_b = unused;
      use_p = as_number;
      use_c = unused;
      correlated = false;
      rule = taken_width;
      plain = λ wt ws p ns. first ns / 2 ^ p % 2 ^ wt;
    }

-- concat: a · 2^wb + b
unfoldable pub op_concat : Kind
op_concat =
    record {
      number = 10;
      name = bytes "concat";
      use_t = as_row;
      use_a = as_row;
      use_b = as_row;
      use_p = unused;
      use_c = unused;
      correlated = true;
      rule = joined_widths;
      plain = λ wt ws p ns. first ns * 2 ^ second ws + second ns;
    }

-- zext: a
unfoldable pub op_zext : Kind
op_zext =
    record {
      number = 11;
      name = bytes "zext";
      use_t = as_row;
      use_a = as_row;
      use_b = unused;
      use_p = unused;
      use_c = unused;
      correlated = false;
      rule = extended_width;
      plain = λ wt ws p ns. first ns;
    }

-- sext: bit min(k, w - 1) of a
unfoldable pub op_sext : Kind
op_sext =
    record {
      number = 12;
      name = bytes "sext";
      use_t = as_row;
      use_a = as_row;
      use_b = unused;
      use_p = unused;
      use_c = unused;
      correlated = false;
      rule = extended_width;
      plain = λ wt ws p ns. number wt (λ k. is_set (first ns) (min k (first ws - 1)));
    }
