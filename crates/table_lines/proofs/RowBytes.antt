-- What a row line holds fits a byte. Assumes nothing.
--   bytes_fit   its lock and its width
use mathlib.Core.Path.{◌≡◌, sym, ◌∙◌, subst}
use mathlib.Core.Bool.{cond, ◌&&◌}
use mathlib.Core.List.{List, [], ◌∷◌, map}
use Prim.Native.Nat.{ℕ, ◌≤◌}
use native.Mathlib.Omega.{arith}
use lib.Dec.{eqb}
use lib.ListN.{length}
use Rattle.bits.proofs.Bools.{T-right, by_cond}
use Rattle.bits.proofs.Bits.{digit_lt}
use Rattle.bits.specs.Limits.{width_limit}
use Rattle.grammar.specs.Lists.{same}
use Rattle.vectors.specs.Lists.{all_of}
use Rattle.grammar.specs.Words.{Edition, number_count, six_for, row_word, op_word, locked_word}
use Rattle.grammar.specs.Print.{LineRow, Line, row_line, record_line, outside}
use Rattle.grammar.specs.Line.{is_number, number_of, is_vector, vector_of, is_lock, lock_of, is_name, number_named, row_of, record_in, line_of}
use Rattle.grammar.proofs.Vectors.{vector-tests}

abbrev Small : Line → Type 0
Small (row_line r) = (r.lock ≤ 1) × (r.vector.width ≤ width_limit)
Small (record_line ws) = Unit {0}
Small outside = Unit {0}

row_small : (ed : Edition) (fs : List (List ℕ)) → Small (row_of ed fs)
row_small ed [] = tt
row_small ed (lock ∷ []) = tt
row_small ed (lock ∷ vector ∷ []) =
    by_cond Small (is_lock lock && is_vector ed.letters vector) (row_line (record { lock = lock_of lock; vector = vector_of ed.letters vector })) outside
    (λ t. (omega (arith, digit_lt (same lock locked_word)), (vector-tests ed.letters vector (T-right (is_lock lock) (is_vector ed.letters vector) t)).few))
    (λ t. tt)
row_small ed (lock ∷ vector ∷ f ∷ fs) = tt

record-small : (ed : Edition) (fs : List (List ℕ)) → Small (record_in ed fs)
record-small ed [] = tt
record-small ed (name ∷ fs) =
    by_cond Small (is_name name ed.operations && eqb (length fs) (number_count ed) && all_of is_number fs)
    (record_line (number_named name ed.operations ∷ six_for ed (number_named name ed.operations) 0 (map number_of fs))) outside (λ t. tt) (λ t. tt)

line_small : (ed : Edition) (fs : List (List ℕ)) → Small (line_of ed fs)
unfolding line_of
line_small ed [] = tt
line_small ed (f ∷ fs) =
    by_cond Small (same f row_word) (row_of ed fs) (cond (same f op_word) (record_in ed fs) outside) (λ t. row_small ed fs)
    (λ t. by_cond Small (same f op_word) (record_in ed fs) outside (λ u. record-small ed fs) (λ u. tt))

pub bytes_fit : (ed : Edition) (fs : List (List ℕ)) (l : Line) → l ≡ line_of ed fs → (r : LineRow) → l ≡ row_line r → (r.lock ≤ 1) × (r.vector.width ≤ width_limit)
bytes_fit ed fs l e r o = subst Small (sym e ∙ o) (line_small ed fs)
