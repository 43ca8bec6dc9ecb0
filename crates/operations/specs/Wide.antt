-- Kinds 21 to 23: products as wide as both operands (02, request 4). Each kind is described here and nowhere else.
--   sign_bit signed w n           the top bit of a number of w bits where it is signed, else 0
--   counted_as signed wt w n      the number that an operand of width w counts as, modulo 2^wt
--   wide_number sa sb wt ws ns    the product's plain number; sa, sb: whether the first, the second operand is signed
--   wide_kind n name sa sb        the kind of that number and name
--   op_umulw op_smulw op_sumulw
use Rattle.std.specs.Prelude.{Bool, true, false, ◌&&◌, List, ℕ, ◌+◌, ◌-◌, ◌*◌, ◌%◌, ◌^◌}
use Rattle.bits.specs.Bit.{is_set, digit}
use Rattle.operations.specs.Kind.{bytes, as_row, unused, Kind, first, second, joined_widths}

abbrev pub sign_bit : Bool → ℕ → ℕ → ℕ
sign_bit signed w n = digit (signed && is_set n (w - 1))

-- "a signed operand counted less 2 to the power of its own width where its top bit is 1": in natural numbers 2^wt more, since the product is modulo 2^wt
unfoldable pub counted_as : Bool → ℕ → ℕ → ℕ → ℕ
counted_as signed wt w n = n + sign_bit signed w n * (2 ^ wt - 2 ^ w)

-- "In a plain run the new number is the exact product modulo 2^wt"
abbrev pub wide_number : Bool → Bool → ℕ → List ℕ → List ℕ → ℕ
wide_number sa sb wt ws ns = counted_as sa wt (first ws) (first ns) * counted_as sb wt (second ws) (second ns) % 2 ^ wt

-- "with wt = wa + wb"; "the best one over independent operands, even where they are one row"
abbrev pub wide_kind : ℕ → List ℕ → Bool → Bool → Kind
wide_kind n name sa sb =
    record {
      number = n;
      name = name;
      use_t = as_row;
      use_a = as_row;
      use_b = as_row;
      use_p = unused;
      use_c = unused;
      correlated = false;
      rule = joined_widths;
      plain = λ wt ws p ns. wide_number sa sb wt ws ns;
    }

-- "umulw (both unsigned)"
unfoldable pub op_umulw : Kind
op_umulw = wide_kind 21 (bytes "umulw") false false

-- "smulw (both signed)"
unfoldable pub op_smulw : Kind
op_smulw = wide_kind 22 (bytes "smulw") true true

-- "sumulw (first signed, second unsigned)"
unfoldable pub op_sumulw : Kind
op_sumulw = wide_kind 23 (bytes "sumulw") true false
