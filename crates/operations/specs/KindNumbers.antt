-- The numbers of the declared kinds, those of the descriptions (01, "Records"; 02, requests 4 and 11).
--   kind_number k   the number of k
--   Names n r       r is the kind whose number is n, or an error where no kind has it
use Rattle.std.specs.Prelude.{◌≡◌, ℕ, T, not, Result, MatchResult}
use Rattle.operations.specs.declared.kind.Kind.{Kind}
use Rattle.operations.specs.declared.kind.Kind.TheVariants.{Copy, Not, And, Or, Xor, Shl, Lshr, Ashr, Rotl, Extract, Concat, Zext, Sext, Add, Sub, Neg, Mul, Eq, Ult, Slt, Ite, Umulw, Smulw, Sumulw, Load, Store}
use Rattle.operations.specs.declared.kind.UnknownKind.{UnknownKind}
use Rattle.operations.specs.Kinds.{is_kind}

abbrev pub kind_number : Kind → ℕ
kind_number Copy = 0
kind_number Not = 1
kind_number And = 2
kind_number Or = 3
kind_number Xor = 4
kind_number Shl = 5
kind_number Lshr = 6
kind_number Ashr = 7
kind_number Rotl = 8
kind_number Extract = 9
kind_number Concat = 10
kind_number Zext = 11
kind_number Sext = 12
kind_number Add = 13
kind_number Sub = 14
kind_number Neg = 15
kind_number Mul = 16
kind_number Eq = 17
kind_number Ult = 18
kind_number Slt = 19
kind_number Ite = 20
kind_number Umulw = 21
kind_number Smulw = 22
kind_number Sumulw = 23
kind_number Load = 24
kind_number Store = 25

abbrev pub Names : ℕ → Result Kind UnknownKind → Type 0
Names n r = MatchResult r (λ k. T (is_kind n) × (kind_number k ≡ n)) (λ e. (e.0 ≡ n) × T (not (is_kind n)))
