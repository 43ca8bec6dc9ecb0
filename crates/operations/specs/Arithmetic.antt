-- Kinds 13 to 20: sums, products, comparison and choice (01, "Records" and "Points and plain runs"). Each kind is described here and nowhere else.
--   op_add op_sub op_neg op_mul op_eq op_ult op_slt op_ite
-- In a plain number, w is the width of the first operand, first ws, and a, b are the operands' numbers.
use Rattle.std.specs.Prelude.{true, false, cond, ◌+◌, ◌-◌, ◌*◌, ◌%◌, ◌^◌, eqb, ltb}
use Rattle.bits.specs.Bit.{bit, digit}
use Rattle.operations.specs.Kind.{bytes, as_row, unused, Kind, first, second, third, same_width, same_widths, chosen_widths, compared_widths}

-- add: a + b modulo 2^w
unfoldable pub op_add : Kind
op_add =
    record {
      number = 13;
      name = bytes "add";
      use_t = as_row;
      use_a = as_row;
      use_b = as_row;
      use_p = unused;
      use_c = unused;
      correlated = true;
      rule = same_widths;
      plain = λ wt ws p ns. (first ns + second ns) % 2 ^ first ws;
    }

-- sub: a - b modulo 2^w. In natural numbers 2^w + a - b, since b is below 2^w.
unfoldable pub op_sub : Kind
op_sub =
    record {
      number = 14;
      name = bytes "sub";
      use_t = as_row;
      use_a = as_row;
      use_b = as_row;
      use_p = unused;
      use_c = unused;
      correlated = true;
      rule = same_widths;
      plain = λ wt ws p ns. (2 ^ first ws + first ns - second ns) % 2 ^ first ws;
    }

-- neg: 0 - a modulo 2^w
unfoldable pub op_neg : Kind
op_neg =
    record {
      number = 15;
      name = bytes "neg";
      use_t = as_row;
      use_a = as_row;
      use_b = unused;
      use_p = unused;
      use_c = unused;
      correlated = false;
      rule = same_width;
      plain = λ wt ws p ns. (2 ^ first ws - first ns) % 2 ^ first ws;
    }

-- mul: a · b modulo 2^w. "For mul the operands stay independent." (02, request 2)
unfoldable pub op_mul : Kind
op_mul =
    record {
      number = 16;
      name = bytes "mul";
      use_t = as_row;
      use_a = as_row;
      use_b = as_row;
      use_p = unused;
      use_c = unused;
      correlated = false;
      rule = same_widths;
      plain = λ wt ws p ns. first ns * second ns % 2 ^ first ws;
    }

-- eq: 1 if a = b, else 0
unfoldable pub op_eq : Kind
op_eq =
    record {
      number = 17;
      name = bytes "eq";
      use_t = as_row;
      use_a = as_row;
      use_b = as_row;
      use_p = unused;
      use_c = unused;
      correlated = true;
      rule = compared_widths;
      plain = λ wt ws p ns. digit (eqb (first ns) (second ns));
    }

-- ult: 1 if a < b, else 0
unfoldable pub op_ult : Kind
op_ult =
    record {
      number = 18;
      name = bytes "ult";
      use_t = as_row;
      use_a = as_row;
      use_b = as_row;
      use_p = unused;
      use_c = unused;
      correlated = true;
      rule = compared_widths;
      plain = λ wt ws p ns. digit (ltb (first ns) (second ns));
    }

-- slt: 1 if a < b once 2^w is taken from each number whose top bit is 1: each such 2^w is added on the other side
unfoldable pub op_slt : Kind
op_slt =
    record {
      number = 19;
      name = bytes "slt";
      use_t = as_row;
      use_a = as_row;
      use_b = as_row;
      use_p = unused;
      use_c = unused;
      correlated = true;
      rule = compared_widths;
      plain = λ wt ws p ns. digit (ltb (first ns + 2 ^ first ws * bit (second ns) (first ws - 1)) (second ns + 2 ^ first ws * bit (first ns) (first ws - 1)));
    }

-- ite: a if the condition's number is 1, else b; the condition is the sixth word (02, request 11)
unfoldable pub op_ite : Kind
op_ite =
    record {
      number = 20;
      name = bytes "ite";
      use_t = as_row;
      use_a = as_row;
      use_b = as_row;
      use_p = unused;
      use_c = as_row;
      correlated = true;
      rule = chosen_widths;
      plain = λ wt ws p ns. cond (eqb (third ns) 1) (first ns) (second ns);
    }
