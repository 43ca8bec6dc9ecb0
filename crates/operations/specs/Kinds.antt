-- All kinds, and the kind that has a number (01, "Records"; 02, requests 4 and 11).
--   kinds       the kinds, numbers rising;   kind_count   how many there are
--   numbered n ks, find n ks   a kind of the list has the number n; the first that has it, else op_none
--   is_kind n    some kind has the number n
--   kind_of n    that kind; for a number that no kind has, op_none, which refusal 6 keeps from acting
use Rattle.std.specs.Prelude.{Bool, false, cond, ◌||◌, List, [], ◌∷◌, ℕ, eqb, length}
use Rattle.operations.specs.Kind.{as_row, unused, same_width, Kind}
use Rattle.operations.specs.Bitwise.{op_copy, op_not, op_and, op_or, op_xor}
use Rattle.operations.specs.Moves.{op_shl, op_lshr, op_ashr, op_rotl, op_extract, op_concat, op_zext, op_sext}
use Rattle.operations.specs.Arithmetic.{op_add, op_sub, op_neg, op_mul, op_eq, op_ult, op_slt, op_ite}
use Rattle.operations.specs.Wide.{op_umulw, op_smulw, op_sumulw}
use Rattle.operations.specs.Memory.{op_load, op_store}

-- Whoever unfolds the list unfolds the kinds with it.
unfoldable pub kinds : List Kind
unfolding op_copy op_not op_and op_or op_xor op_shl op_lshr op_ashr op_rotl op_extract op_concat op_zext op_sext op_add op_sub op_neg op_mul op_eq op_ult op_slt op_ite op_umulw op_smulw op_sumulw op_load op_store
kinds =
    op_copy
    ∷ op_not
    ∷ op_and
    ∷ op_or
    ∷ op_xor
    ∷ op_shl
    ∷ op_lshr
    ∷ op_ashr
    ∷ op_rotl
    ∷ op_extract
    ∷ op_concat
    ∷ op_zext
    ∷ op_sext
    ∷ op_add
    ∷ op_sub
    ∷ op_neg
    ∷ op_mul
    ∷ op_eq
    ∷ op_ult
    ∷ op_slt
    ∷ op_ite
    ∷ op_umulw
    ∷ op_smulw
    ∷ op_sumulw
    ∷ op_load
    ∷ op_store
    ∷ []

unfoldable pub kind_count : ℕ
unfolding kinds
kind_count = length kinds

abbrev pub op_none : Kind
op_none = record { number = 0; name = []; use_t = as_row; use_a = unused; use_b = unused; use_p = unused; use_c = unused; correlated = false; rule = same_width; plain = λ wt ws p ns. 0 }

abbrev pub numbered : ℕ → List Kind → Bool
numbered n [] = false
numbered n (k ∷ ks) = eqb k.number n || numbered n ks

abbrev pub find : ℕ → List Kind → Kind
find n [] = op_none
find n (k ∷ ks) = cond (eqb k.number n) k (find n ks)

unfoldable pub is_kind : ℕ → Bool
unfolding kinds
is_kind n = numbered n kinds

unfoldable pub kind_of : ℕ → Kind
unfolding kinds
kind_of n = find n kinds
