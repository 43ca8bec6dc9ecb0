-- What the checks 6 to 8 give of a record's words. Assumes nothing.
--   WordFits u n word      a word fits its use in a table of n rows;   WordsFit   all words of a record do
--   uses-right             where there are cells, the words p and the sixth tell of them
--   words-fit              a record that passed has words that fit;   word_small   such a word is a number of the grammar
use mathlib.Core.Path.{◌≡◌}
use mathlib.Core.Bool.{Bool, false, not, cond, ◌&&◌}
use mathlib.Core.List.{List, [], ◌∷◌}
use Prim.Native.Nat.{ℕ, ◌+◌, ◌-◌, ◌≤◌, ◌<◌}
use native.Mathlib.Omega.{arith}
use lib.Dec.{T, eqb, eqb→eq, nltb→le}
use lib.ListN.{length}
use Rattle.bits.proofs.Bools.{T-left, T-right, T_not-not}
use Rattle.vectors.specs.Lists.{All, all_of}
use Rattle.operations.specs.Limits.{parameter_limit}
use Rattle.operations.specs.Kind.{Use, as_row, as_number, as_count, as_base, unused, is_row, is_base, Kind}
use Rattle.operations.specs.Kinds.{kinds}
use Rattle.operations.specs.Encoding.{is_plain}
use Rattle.operations.specs.Memory.{span}
use Rattle.operations.specs.Record.{kind_word, target_word, first_word, second_word, parameter_word, sixth_word, kind_in, used, used_last, sixth_rows, rows_named, target_rows}
use Rattle.operations.specs.Faults.{misused}
use Rattle.checks.specs.Accepted.{RecordPassed}
use Rattle.grammar.specs.Limits.{number_limit}
use Rattle.vectors.proofs.ListParts.{all_listed}
use Rattle.grammar.proofs.Tests.{neqb→ne}
use Rattle.grammar.proofs.Names.{kind-passes}

-- a number of cells is no more than there are rows, where the span lies in the table
abbrev pub WordFits : Use → ℕ → ℕ → Type 0
WordFits as_row n word = word < n
WordFits as_number n word = word ≤ parameter_limit
WordFits as_count n word = word ≤ n
WordFits as_base n word = word < n
WordFits unused n word = word ≡ 0

pub record WordsFit (n : ℕ) (words : List ℕ) : Type 0 where
  pub target : WordFits (kind_in words).use_t n (target_word words)
  pub first : WordFits (kind_in words).use_a n (first_word words)
  pub second : WordFits (kind_in words).use_b n (second_word words)
  pub parameter : WordFits (kind_in words).use_p n (parameter_word words)
  pub sixth : WordFits (kind_in words).use_c n (sixth_word words)

-- ---- the uses of the words: one computed test of all kinds

-- of the words p and the sixth: cells in both, or in neither, and p no row
abbrev pair_right : Use → Use → Bool
pair_right as_row c = false
pair_right as_number c = is_plain c
pair_right as_count c = is_base c
pair_right as_base c = false
pair_right unused c = is_plain c

abbrev uses_right : Kind → Bool
uses_right k = is_plain k.use_t && is_plain k.use_a && is_plain k.use_b && pair_right k.use_p k.use_c

uses-right : T (all_of uses_right kinds)
unfolding all_of kinds
uses-right = tt

-- ---- what the checks give

unused-zero : (word : ℕ) → T (not (misused unused word)) → word ≡ 0
unused-zero word t = eqb→eq word 0 (T_not-not (eqb word 0) t)

-- the word t: that row, or a word with no row
target_fits : (u : Use) (n word : ℕ) (cells : List ℕ) → T (is_plain u) → All (λ i. i < n) (cond (is_row u) (word ∷ []) cells) → T (not (misused u word)) → WordFits u n word
target_fits as_row n word cells h e t = e.0
target_fits as_number n word cells h e t = nltb→le parameter_limit word t
target_fits as_count n word cells h e t = absurd h
target_fits as_base n word cells h e t = absurd h
target_fits unused n word cells h e t = unused-zero word t

one-fits : (u : Use) (n word : ℕ) (rows : List ℕ) → T (is_plain u) → All (λ i. i < n) (used u word rows) → T (not (misused u word)) → WordFits u n word × All (λ i. i < n) rows
one-fits as_row n word rows h e t = e
one-fits as_number n word rows h e t = (nltb→le parameter_limit word t, e)
one-fits as_count n word rows h e t = absurd h
one-fits as_base n word rows h e t = absurd h
one-fits unused n word rows h e t = (unused-zero word t, e)

-- a sixth word that has nothing to do with cells
last_fits : (u : Use) (n word count : ℕ) → T (is_plain u) → All (λ i. i < n) (used_last u (sixth_rows u word count)) → T (not (misused u word)) → WordFits u n word
last_fits as_row n word count h e t = e.0
last_fits as_number n word count h e t = nltb→le parameter_limit word t
last_fits as_count n word count h e t = absurd h
last_fits as_base n word count h e t = absurd h
last_fits unused n word count h e t = unused-zero word t

-- the base row, and the last of the span, are rows of the table
span_fits : (n base count : ℕ) → All (λ i. i < n) (span base count) → (count ≡ 0 → ⊥) → (count ≤ n) × (base < n)
span_fits n base count e h =
    let first : base < n = all_listed (λ i. i < n) (λ i. i) base count e base (omega arith) (omega arith) in
    let last : base + (count - 1) < n = all_listed (λ i. i < n) (λ i. i) base count e (base + (count - 1)) (omega arith) (omega arith) in
    (omega arith, first)

pair_fits : (p c : Use) (n count word : ℕ) → T (pair_right p c) → All (λ i. i < n) (used_last c (sixth_rows c word count)) → T (not (misused p count)) → T (not (misused c word))
    → WordFits p n count × WordFits c n word
pair_fits as_row c n count word h e t u = absurd h
pair_fits as_number c n count word h e t u = (nltb→le parameter_limit count t, last_fits c n word count h e u)
pair_fits as_count as_row n count word h e t u = absurd h
pair_fits as_count as_number n count word h e t u = absurd h
pair_fits as_count as_count n count word h e t u = absurd h
pair_fits as_count as_base n count word h e t u = span_fits n word count e (neqb→ne count 0 t)
pair_fits as_count unused n count word h e t u = absurd h
pair_fits as_base c n count word h e t u = absurd h
pair_fits unused c n count word h e t u = (unused-zero count t, last_fits c n word count h e u)

pub words-fit : (widths words : List ℕ) → RecordPassed widths words → WordsFit (length widths) words
unfolding rows_named target_rows
words-fit widths words R =
    let k = kind_in words in
    let n = length widths in
    let told = (kind-passes uses_right uses-right (kind_word words) R.kind_known).0 in
    let t₃ = T-left (is_plain k.use_t && is_plain k.use_a && is_plain k.use_b) (pair_right k.use_p k.use_c) told in
    let t₂ = T-left (is_plain k.use_t && is_plain k.use_a) (is_plain k.use_b) t₃ in
    let a = one-fits k.use_a n (first_word words) _ (T-right (is_plain k.use_t) (is_plain k.use_a) t₂) R.operands_in R.first_used in
    let b = one-fits k.use_b n (second_word words) _ (T-right (is_plain k.use_t && is_plain k.use_a) (is_plain k.use_b) t₃) a.1 R.second_used in
    let q = pair_fits k.use_p k.use_c n (parameter_word words) (sixth_word words)
    (T-right (is_plain k.use_t && is_plain k.use_a && is_plain k.use_b) (pair_right k.use_p k.use_c) told) b.1 R.parameter_used R.sixth_used in
    record {
      target = target_fits k.use_t n (target_word words) (span (sixth_word words) (parameter_word words)) (T-left (is_plain k.use_t) (is_plain k.use_a) t₂) R.targets_in R.target_used;
      first = a.0;
      second = b.0;
      parameter = q.0;
      sixth = q.1;
    }

pub word_small : (u : Use) (n word : ℕ) → n ≤ 256 → WordFits u n word → word ≤ number_limit
word_small as_row n word h f = omega arith
word_small as_number n word h f = omega arith
word_small as_count n word h f = omega arith
word_small as_base n word h f = omega arith
word_small unused n word h f = omega arith
