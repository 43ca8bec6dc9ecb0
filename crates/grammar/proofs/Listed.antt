-- Lists made by counting up, and the lines of a table. Assumes nothing.
--   listed-get_or                           a list, by its elements
--   bad-none, rows-listed, words-listed    the lines of a table hold its rows and words, and none is bad
use mathlib.Core.Path.{◌≡◌, refl, sym, ap, ◌∙◌}
use mathlib.Core.Bool.{Bool, true, false}
use mathlib.Core.List.{List, [], ◌∷◌, ◌++◌}
use Prim.Native.Nat.{ℕ, zero, suc, ◌+◌, ◌*◌}
use native.Mathlib.Nat.{mul-suc}
use native.Mathlib.Omega.{arith}
use lib.ListN.{length, get_or, take, drop, take-append-drop}
use lib.Seq.{drop-cons, drop-drop, drop-length}
use Rattle.bits.specs.Counted.{listed}
use Rattle.grammar.specs.Print.{LineRow, Line, row_line, record_line}
use Rattle.grammar.specs.Lines.{first_bad, rows_in, words_in}

pub listed-get_or : {A : Type 0} (l : List A) (d : A) (i n : ℕ) → i + n ≡ length l → listed (λ j. get_or l j d) i n ≡ drop i l
unfolding listed
listed-get_or l d i zero e = let h : i ≡ length l = omega arith in sym (ap (λ (x : ℕ). drop x l) h ∙ drop-length l)
listed-get_or {A} l d i (suc n) e = ap {B = List A} (λ (r : List A). get_or l i d ∷ r) (listed-get_or l d (suc i) n (omega arith)) ∙ sym (drop-cons l i d (omega arith))

-- ---- the lines of a table, read

bad-records : (f : ℕ → List ℕ) (later : Bool) (k i n : ℕ) → first_bad later k (listed (λ j. record_line (f j)) i n) ≡ 0
unfolding listed first_bad
bad-records f later k i zero = refl
bad-records f later k i (suc n) = bad-records f true (suc k) (suc i) n

bad-rows : (f : ℕ → LineRow) (ls : List Line) → ((k : ℕ) → first_bad false k ls ≡ 0) → (k i n : ℕ) → first_bad false k (listed (λ j. row_line (f j)) i n ++ ls) ≡ 0
unfolding listed first_bad
bad-rows f ls h k i zero = h k
bad-rows f ls h k i (suc n) = bad-rows f ls h (suc k) (suc i) n

pub bad-none : (f : ℕ → LineRow) (g : ℕ → List ℕ) (k n m : ℕ) → first_bad false k (listed (λ j. row_line (f j)) 0 n ++ listed (λ j. record_line (g j)) 0 m) ≡ 0
bad-none f g k n m = bad-rows f (listed (λ j. record_line (g j)) 0 m) (λ j. bad-records g false j 0 m) k 0 n

no_rows : (g : ℕ → List ℕ) (i n : ℕ) → rows_in (listed (λ j. record_line (g j)) i n) ≡ []
unfolding listed rows_in
no_rows g i zero = refl
no_rows g i (suc n) = no_rows g (suc i) n

pub rows-listed : (f : ℕ → LineRow) (g : ℕ → List ℕ) (m i n : ℕ) → rows_in (listed (λ j. row_line (f j)) i n ++ listed (λ j. record_line (g j)) 0 m) ≡ listed f i n
unfolding listed rows_in
rows-listed f g m i zero = no_rows g 0 m
rows-listed f g m i (suc n) = ap {B = List LineRow} (λ (r : List LineRow). f i ∷ r) (rows-listed f g m (suc i) n)

pub words-after : (f : ℕ → LineRow) (ls : List Line) (i n : ℕ) → words_in (listed (λ j. row_line (f j)) i n ++ ls) ≡ words_in ls
unfolding listed words_in
words-after f ls i zero = refl
words-after f ls i (suc n) = words-after f ls (suc i) n

-- c words to a record
pub words-listed : (c : ℕ) (ws : List ℕ) (i n : ℕ) → length ws ≡ c * (i + n) → words_in (listed (λ j. record_line (take c (drop (c * j) ws))) i n) ≡ drop (c * i) ws
unfolding listed words_in
words-listed c ws i zero e = let z : i ≡ i + 0 = omega arith in sym (ap (λ (x : ℕ). drop x ws) (ap (λ (x : ℕ). c * x) z ∙ sym e) ∙ drop-length ws)
words-listed c ws i (suc n) e =
    let z : i + suc n ≡ suc i + n = omega arith in
    ap (λ (r : List ℕ). take c (drop (c * i) ws) ++ r)
    (words-listed c ws (suc i) n (e ∙ ap (λ (x : ℕ). c * x) z) ∙ ap (λ (x : ℕ). drop x ws) (mul-suc c i) ∙ sym (drop-drop c (c * i) ws))
    ∙ take-append-drop c (drop (c * i) ws)
