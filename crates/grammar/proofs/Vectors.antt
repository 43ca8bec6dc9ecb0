-- The letters of a vector in the grammar: the tests, by name, and the rows that have them. Assumes nothing.
--   Letters, vector-tests, vector-from   the tests of a vector
--   RowFits                              the rows whose lines are in the grammar
--   vector-is                            what is printed of such a row passes the tests
use mathlib.Core.Bool.{◌&&◌}
use mathlib.Core.List.{List}
use Prim.Native.Nat.{ℕ, ◌≤◌}
use native.Mathlib.Omega.{arith}
use lib.Dec.{T, leb, leb→le, le→leb}
use lib.ListN.{length}
use Rattle.bits.proofs.Bools.{T-left, T-right, T_and}
use Rattle.vectors.specs.Row.{WellFormed}
use Rattle.bits.specs.Limits.{width_limit}
use Rattle.vectors.specs.Lists.{all_of}
use Rattle.grammar.specs.Words.{Alphabet, three_letters}
use Rattle.grammar.specs.Print.{letters_of, LineRow}
use Rattle.grammar.specs.Line.{is_letter, is_vector}
use Rattle.grammar.proofs.Letters.{letters-length, letters-letters}

pub record Letters (a : Alphabet) (f : List ℕ) : Type 0 where
  pub some : 1 ≤ length f
  pub few : length f ≤ width_limit
  pub letters : T (all_of (is_letter a) f)

pub vector-tests : (a : Alphabet) (f : List ℕ) → T (is_vector a f) → Letters a f
unfolding is_vector
vector-tests a f t =
    let u = T-left (leb 1 (length f) && leb (length f) width_limit) (all_of (is_letter a) f) t in
    record {
      some = leb→le 1 (length f) (T-left (leb 1 (length f)) (leb (length f) width_limit) u);
      few = leb→le (length f) width_limit (T-right (leb 1 (length f)) (leb (length f) width_limit) u);
      letters = T-right (leb 1 (length f) && leb (length f) width_limit) (all_of (is_letter a) f) t;
    }

pub vector-from : (a : Alphabet) (f : List ℕ) → Letters a f → T (is_vector a f)
unfolding is_vector
vector-from a f v =
    T_and (leb 1 (length f) && leb (length f) width_limit) (all_of (is_letter a) f)
    (T_and (leb 1 (length f)) (leb (length f) width_limit) (le→leb 1 (length f) v.some) (le→leb (length f) width_limit v.few))
    v.letters

pub record RowFits (r : LineRow) : Type 0 where
  pub lock_most : r.lock ≤ 1
  pub width_least : 1 ≤ r.vector.width
  pub width_most : r.vector.width ≤ width_limit
  pub formed : WellFormed r.vector

pub vector-is : (r : LineRow) → RowFits r → T (is_vector three_letters (letters_of r.vector.width r.vector.mask r.vector.value))
vector-is r fits =
    let n = letters-length r.vector.width r.vector.mask r.vector.value in
    vector-from three_letters (letters_of r.vector.width r.vector.mask r.vector.value)
    (record { some = omega (arith, n, fits.width_least); few = omega (arith, n, fits.width_most); letters = letters-letters r.vector.width r.vector.mask r.vector.value })
