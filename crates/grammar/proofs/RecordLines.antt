-- Which rows and records have lines in the grammar, and the words of a record. Assumes nothing.
--   row_fits, record-fits  a row and a record of a table that passed have lines in the grammar
--   words-after-kind, words_length   the words of a record after its kind, and of all records
use mathlib.Core.Path.{◌≡◌, refl, sym, subst}
use mathlib.Core.Bool.{Bool}
use mathlib.Core.List.{List, [], ◌∷◌}
use Prim.Native.Nat.{ℕ, ◌*◌, ◌<◌}
use native.Mathlib.Nat.{div-add-mod'}
use native.Mathlib.Omega.{arith}
use lib.Dec.{T, leb, le→leb}
use lib.ListN.{length, drop}
use Rattle.vectors.specs.Lists.{all_of}
use Rattle.operations.specs.Limits.{record_words}
use Rattle.operations.specs.Kind.{Use}
use Rattle.operations.specs.Record.{target_word, first_word, second_word, parameter_word, sixth_word, kind_in}
use Rattle.checks.specs.Table.{Table, record_count, record_of}
use Rattle.checks.specs.Accepted.{TablePassed}
use Rattle.checks.proofs.Words.{record-length}
use Rattle.grammar.specs.Limits.{number_limit}
use Rattle.grammar.specs.Print.{line_row}
use Rattle.grammar.proofs.Tests.{all_cons, all_one}
use Rattle.grammar.proofs.WordUses.{WordFits, words-fit, word_small}
use Rattle.grammar.proofs.Vectors.{RowFits}
use Rattle.grammar.proofs.LineTrips.{RecordFits}

pub words-after-kind : (words : List ℕ) → length words ≡ record_words → drop 1 words ≡ target_word words ∷ first_word words ∷ second_word words ∷ parameter_word words ∷ sixth_word words ∷ []
words-after-kind [] e = absurd (omega arith)
words-after-kind (k ∷ []) e = absurd (omega arith)
words-after-kind (k ∷ t ∷ []) e = absurd (omega arith)
words-after-kind (k ∷ t ∷ a ∷ []) e = absurd (omega arith)
words-after-kind (k ∷ t ∷ a ∷ b ∷ []) e = absurd (omega arith)
words-after-kind (k ∷ t ∷ a ∷ b ∷ p ∷ []) e = absurd (omega arith)
words-after-kind (k ∷ t ∷ a ∷ b ∷ p ∷ c ∷ []) e = refl
words-after-kind (k ∷ t ∷ a ∷ b ∷ p ∷ c ∷ x ∷ ws) e = absurd (omega arith)

module _ (t : Table) (P : TablePassed t) where
  pub words_length : length t.words ≡ record_words * record_count t
  words_length = omega (arith, P.words_whole, div-add-mod' (length t.words) record_words)

  pub row_fits : (i : ℕ) → i < length t.widths → RowFits (line_row t i)
  row_fits i h =
      let R = P.row_passed i h in
      record { lock_most = R.lock_most; width_least = R.width_least; width_most = R.width_most; formed = R.formed }

  pub record-fits : (i : ℕ) → i < record_count t → RecordFits (record_of t i)
  record-fits i h =
      let words = record_of t i in
      let n = length t.widths in
      let f = words-fit t.widths words (P.record_passed i h) in
      let small : (u : Use) (w : ℕ) → WordFits u n w → T (leb w number_limit) = λ u w x. le→leb w number_limit (word_small u n w P.rows_most x) in
      record {
        count = record-length t i h;
        known = (P.record_passed i h).kind_known;
        small = subst (λ (l : List ℕ). T (all_of most l)) (sym (words-after-kind words (record-length t i h)))
            (all_cons most (target_word words) _ (small (kind_in words).use_t (target_word words) f.target)
            (all_cons most (first_word words) _ (small (kind_in words).use_a (first_word words) f.first)
            (all_cons most (second_word words) _ (small (kind_in words).use_b (second_word words) f.second)
            (all_cons most (parameter_word words) _ (small (kind_in words).use_p (parameter_word words) f.parameter)
            (all_one most (sixth_word words) (small (kind_in words).use_c (sixth_word words) f.sixth))))));
      }
    where
      most : ℕ → Bool
      most w = leb w number_limit
