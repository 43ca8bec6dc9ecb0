-- Lines of which none is bad: row lines, then record lines of one size. Assumes nothing.
--   bad-any, bad-from-one    none bad, whatever the count begins with, or from 1;   no-rows-after   no row line after a record line
--   rows-first               the row lines, then the rest
--   words_count, words-cut   the words of record lines, and the records that they make up
use mathlib.Core.Path.{◌≡◌, refl, sym, ap, ap₂, ◌∙◌}
use mathlib.Core.Bool.{Bool, true, false}
use mathlib.Core.List.{List, [], ◌∷◌, ◌++◌, map, append_assoc}
use Prim.Native.Nat.{ℕ, zero, suc, ◌+◌, ◌*◌, ◌≤◌}
use native.Mathlib.Omega.{arith}
use lib.ListN.{length, take, drop, length-append}
use lib.Seq.{take_at, drop_at}
use Rattle.vectors.specs.Lists.{All}
use Rattle.operations.specs.Limits.{record_words}
use Rattle.bits.specs.Counted.{listed}
use Rattle.grammar.specs.Print.{LineRow, Line, row_line, record_line, outside}
use Rattle.grammar.specs.Lines.{first_bad, rows_in, words_in}
use Rattle.grammar.proofs.LineBacks.{Shaped}

-- the lines from the first record line on
abbrev pub records_of : List Line → List Line
records_of [] = []
records_of (row_line r ∷ ls) = records_of ls
records_of (record_line ws ∷ ls) = record_line ws ∷ ls
records_of (outside ∷ ls) = outside ∷ ls

-- where none is bad, the number that the count begins with does not matter
pub bad-any : (later : Bool) (m k : ℕ) (ls : List Line) → first_bad later (suc m) ls ≡ 0 → first_bad later k ls ≡ 0
unfolding first_bad
bad-any later m k [] e = refl
bad-any true m k (row_line r ∷ ls) e = absurd (omega arith)
bad-any false m k (row_line r ∷ ls) e = bad-any false (suc m) (suc k) ls e
bad-any later m k (record_line ws ∷ ls) e = bad-any true (suc m) (suc k) ls e
bad-any later m k (outside ∷ ls) e = absurd (omega arith)

pub bad-from-one : (n : ℕ) (ls : List Line) → 1 ≤ n → first_bad false n ls ≡ 0 → first_bad false 1 ls ≡ 0
bad-from-one zero ls h e = absurd (omega arith)
bad-from-one (suc m) ls h e = bad-any false m 1 ls e

pub no-rows-after : (n : ℕ) (ls : List Line) → first_bad true (suc n) ls ≡ 0 → rows_in ls ≡ []
unfolding first_bad rows_in
no-rows-after n [] e = refl
no-rows-after n (row_line r ∷ ls) e = absurd (omega arith)
no-rows-after n (record_line ws ∷ ls) e = no-rows-after (suc n) ls e
no-rows-after n (outside ∷ ls) e = absurd (omega arith)

pub rows-first : (n : ℕ) (ls : List Line) → first_bad false (suc n) ls ≡ 0 → map row_line (rows_in ls) ++ records_of ls ≡ ls
unfolding first_bad rows_in
rows-first n [] e = refl
rows-first n (row_line r ∷ ls) e = ap {B = List Line} (λ (l : List Line). row_line r ∷ l) (rows-first (suc n) ls e)
rows-first n (record_line ws ∷ ls) e = ap (λ (x : List LineRow). map row_line x ++ record_line ws ∷ ls) (no-rows-after (suc n) ls e)
rows-first n (outside ∷ ls) e = absurd (omega arith)

-- record lines alone, of one size
pub record Records (ls : List Line) : Type 0 where
  pub passed : first_bad true 1 ls ≡ 0
  pub shaped : All Shaped ls

pub records-pass : (n : ℕ) (ls : List Line) → first_bad false (suc n) ls ≡ 0 → All Shaped ls → Records (records_of ls)
unfolding first_bad
records-pass n [] e h = record { passed = refl; shaped = h }
records-pass n (row_line r ∷ ls) e h = records-pass (suc n) ls e h.1
records-pass n (record_line ws ∷ ls) e h = record { passed = bad-any true (suc n) 2 ls e; shaped = h }
records-pass n (outside ∷ ls) e h = absurd (omega arith)

rest : {ws : List ℕ} {ls : List Line} → Records (record_line ws ∷ ls) → Records ls
unfolding first_bad
rest {ls = ls} h = record { passed = bad-any true 1 1 ls h.passed; shaped = h.shaped.1 }

pub words-records : (ls : List Line) → words_in (records_of ls) ≡ words_in ls
unfolding words_in
words-records [] = refl
words-records (row_line r ∷ ls) = words-records ls
words-records (record_line ws ∷ ls) = refl
words-records (outside ∷ ls) = refl

pub words_count : (ls : List Line) → Records ls → length (words_in ls) ≡ length ls * record_words
unfolding first_bad words_in
words_count [] h = refl
words_count (row_line r ∷ ls) h = absurd (omega (arith, h.passed))
words_count (record_line ws ∷ ls) h =
    length-append ws (words_in ls) ∙ omega (arith, h.shaped.0, words_count ls (rest h))
words_count (outside ∷ ls) h = absurd (omega (arith, h.passed))

pub words-cut : (ls : List Line) → Records ls → (done : List ℕ) (i : ℕ) → length done ≡ record_words * i
    → listed (λ j. record_line (take record_words (drop (record_words * j) (done ++ words_in ls)))) i (length ls) ≡ ls
unfolding first_bad words_in listed
words-cut [] h done i k = refl
words-cut (row_line r ∷ ls) h done i k = absurd (omega (arith, h.passed))
words-cut (record_line ws ∷ ls) h done i k =
    ap₂ {C = List Line} (λ (x : List ℕ) (r : List Line). record_line x ∷ r)
    (ap (take record_words) (drop_at done (ws ++ words_in ls) (record_words * i) k) ∙ take_at ws (words_in ls) record_words h.shaped.0)
    (ap (λ (x : List ℕ). listed (λ j. record_line (take record_words (drop (record_words * j) x))) (suc i) (length ls)) (sym (append_assoc done ws (words_in ls)))
    ∙ words-cut ls (rest h) (done ++ ws) (suc i) (length-append done ws ∙ omega (arith, k, h.shaped.0)))
words-cut (outside ∷ ls) h done i k = absurd (omega (arith, h.passed))
