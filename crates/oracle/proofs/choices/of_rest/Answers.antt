-- `oracle::choices::of_rest` is safe and ends: a number below 2^wa fits 32 bits. Assumes nothing.
use Rattle.std.proofs.Common.{lt_of_lt_of_le, pow_mono}
use Rattle.oracle.proofs.choices.of_rest.Goals as goal

pub of_condition-requires : goal.of_condition-requires
of_condition-requires c = (c.requires, lt_of_lt_of_le c.requires (pow_mono c.args.s.sized.first_most))
