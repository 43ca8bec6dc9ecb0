-- Tests by which the conditions, and that a claim fails, are decided of a small table. Assumes nothing.
--   absent i l, distinct l, apart l r   the tests of Missing i l, Distinct l, and that no element of r is in l
--   start_rows widths s   the rows of the state s, one by one
use mathlib.Core.Path.{◌≡◌, refl, sym, ap, ◌∙◌, subst}
use mathlib.Core.Bool.{Bool, true, not, ◌&&◌}
use mathlib.Core.Logic.{inl, inr}
use mathlib.Core.List.{List, [], ◌∷◌, Memᴰ}
use Prim.Native.Nat.{ℕ, zero, suc, ◌+◌, ◌<◌}
use native.Mathlib.Omega.{arith}
use lib.Dec.{T, T_not, not_T, eqb, eqb→eq}
use lib.ListN.{length, get_or}
use Rattle.bits.specs.Bit.{bit}
use Rattle.bits.specs.Below.{all_below}
use Rattle.bits.specs.Counted.{listed}
use Rattle.bits.proofs.Bools.{T-left, T-right, T-or, T_not-not, eq→eqb}
use Rattle.bits.proofs.Below.{all_below-elim}
use Rattle.vectors.specs.Lists.{All, Missing, Distinct}
use Rattle.vectors.specs.Row.{Row, Covers}
use Rattle.vectors.specs.Choice.{Chosen, coversb, some_choice}
use Rattle.vectors.proofs.Lists.{◌⨾◌}
use Rattle.vectors.proofs.Choices.{covers-of-test, some_choice-intro}
use Rattle.operations.specs.Kind.{Kind}
use Rattle.operations.specs.Kinds.{numbered, kind_of}
use Rattle.operations.specs.Record.{kind_word, rows_named, width_at}
use Rattle.checks.specs.Table.{State, row_at, Table, start_of, record_of}
use Rattle.tables.specs.Run.{point_rows, plain_run}
use Rattle.steps.specs.States.{CoversState}
use Rattle.lossless.specs.Conditions.{lossless_kinds, writes, rows_read, rows_written, ListedKinds, ReadsUnwritten, LosesNothing, LastRecord}
use Rattle.lossless.specs.Claims.{PreciseRun, SharpRun}

-- ---- the conditions

abbrev pub absent : ℕ → List ℕ → Bool
absent i [] = true
absent i (j ∷ l) = not (eqb j i) && absent i l

abbrev pub distinct : List ℕ → Bool
distinct [] = true
distinct (i ∷ l) = absent i l && distinct l

abbrev pub apart : List ℕ → List ℕ → Bool
apart l [] = true
apart l (o ∷ r) = absent o l && apart l r

pub missing-of : (i : ℕ) (l : List ℕ) → T (absent i l) → Missing i l
missing-of i [] t = tt
missing-of i (j ∷ l) t = ((λ p. T_not (eqb j i) (T-left (not (eqb j i)) (absent i l) t) (eq→eqb p)), missing-of i l (T-right (not (eqb j i)) (absent i l) t))

pub distinct_of : (l : List ℕ) → T (distinct l) → Distinct l
distinct_of [] t = tt
distinct_of (i ∷ l) t = (missing-of i l (T-left (absent i l) (distinct l) t), distinct_of l (T-right (absent i l) (distinct l) t))

pub apart_of : (l r : List ℕ) → T (apart l r) → All (λ o. Missing o l) r
apart_of l [] t = tt
apart_of l (o ∷ r) t = (missing-of o l (T-left (absent o l) (apart l r) t), apart_of l r (T-right (absent o l) (apart l r) t))

pub unwritten_of : (t : Table) (last : ℕ) → T (all_below last (λ i. apart (rows_written t i last) (rows_named (record_of t i)))) → ReadsUnwritten t 0 last
unwritten_of t last u i h l = apart_of (rows_written t i last) (rows_named (record_of t i)) (all_below-elim last _ u i l)

found-again : All (λ k. kind_of k.number ≡ k) lossless_kinds
unfolding lossless_kinds kind_of
found-again = refl ⨾ refl ⨾ refl ⨾ refl ⨾ refl ⨾ refl ⨾ refl ⨾ refl ⨾ refl ⨾ refl ⨾ refl ⨾ tt

numbered-member : (n : ℕ) (ks : List Kind) → All (λ k. kind_of k.number ≡ k) ks → T (numbered n ks) → Memᴰ (kind_of n) ks
numbered-member n [] f t = absurd t
numbered-member n (k ∷ ks) f t = elim (T-or (eqb k.number n) (numbered n ks) t) [
  | inl u ↦ Memᴰ.head (ap kind_of (sym (eqb→eq k.number n u)) ∙ f.0)
  | inr u ↦ Memᴰ.tail (numbered-member n ks f.1 u)
]

pub listed_of : (t : Table) (last : ℕ) → T (all_below last (λ i. numbered (kind_word (record_of t i)) lossless_kinds)) → ListedKinds t 0 last
listed_of t last u i h l = numbered-member (kind_word (record_of t i)) lossless_kinds found-again (all_below-elim last _ u i l)

pub nothing-of : (t : Table) (last : ℕ) → T (all_below last (λ i. numbered (kind_word (record_of t i)) lossless_kinds)) → T (distinct (rows_read t 0 last)) → T (distinct (rows_written t 0 last))
    → T (all_below last (λ i. apart (rows_written t i last) (rows_named (record_of t i)))) → LosesNothing t 0 last
nothing-of t last k r w u =
    record { kinds = listed_of t last k; operands_once = distinct_of (rows_read t 0 last) r; targets_once = distinct_of (rows_written t 0 last) w; reads_unwritten = unwritten_of t last u }

pub last_of : (t : Table) (n : ℕ) → T (distinct (rows_named (record_of t n))) → T (apart (rows_read t 0 n) (rows_named (record_of t n))) → T (apart (rows_written t 0 n) (writes t n)) → LastRecord t 0 n
last_of t n d r w =
    record {
      named_once = distinct_of (rows_named (record_of t n)) d;
      unread = apart_of (rows_read t 0 n) (rows_named (record_of t n)) r;
      unwritten = apart_of (rows_written t 0 n) (writes t n) w;
    }

-- ---- all starts

abbrev pub start_rows : List ℕ → State → List Row
start_rows widths s = listed (row_at widths s) 0 (length widths)

listed-chosen : (f : ℕ → Row) (i n : ℕ) (ns : List ℕ) → length ns ≡ n → ((k : ℕ) → k < n → Covers (f (i + k)) (get_or ns k 0)) → Chosen (listed f i n) ns
unfolding listed
listed-chosen f i zero [] e c = tt
listed-chosen f i zero (m ∷ ns) e c = absurd (omega arith)
listed-chosen f i (suc n) [] e c = absurd (omega arith)
listed-chosen f i (suc n) (m ∷ ns) e c = (
  (let d : i + 0 ≡ i = omega arith in subst (λ (x : ℕ). Covers (f x) m) d (c 0 (omega arith))),
  listed-chosen f (suc i) n ns (omega arith) (λ k h. let d : i + suc k ≡ suc i + k = omega arith in subst (λ (x : ℕ). Covers (f x) (get_or ns k 0)) d (c (suc k) (omega arith))),
)

-- a test that no choice from the start rows passes, no start passes
no_start : (widths : List ℕ) (s : State) (p : List ℕ → Bool) → T (not (some_choice (start_rows widths s) p)) → (ns : List ℕ) → CoversState widths s ns → T (p ns) → ⊥
no_start widths s p t ns C u =
    T_not (some_choice (start_rows widths s) p) t
    (some_choice-intro (start_rows widths s) p ns (listed-chosen (row_at widths s) 0 (length widths) ns C.count (λ k h. let d : k ≡ 0 + k = omega arith in subst (λ (x : ℕ). Covers (row_at widths s x) (get_or ns k 0)) d (C.covers k h))) u)

-- ---- the claims fail

-- row i covers m, which no start gives it
pub imprecise-of : (t : Table) (last i m : ℕ) → T (coversb (row_at t.widths (point_rows t 0 last) i) m)
    → T (not (some_choice (start_rows t.widths (start_of t)) (λ ns. eqb (get_or (plain_run t 0 last ns) i 0) m))) → PreciseRun t 0 last i → ⊥
imprecise-of t last i m c u P =
    let (ns, C, e) = (P m).0 (covers-of-test (row_at t.widths (point_rows t 0 last) i) m c) in
    no_start t.widths (start_of t) (λ ns. eqb (get_or (plain_run t 0 last ns) i 0) m) u ns C (eq→eqb e)

-- bit k of row i is X, and no start gives it another number than b
pub blunt-of : (t : Table) (last i k b : ℕ) → k < width_at t.widths i → b < 2 → bit (row_at t.widths (point_rows t 0 last) i).mask k ≡ 1
    → T (not (some_choice (start_rows t.widths (start_of t)) (λ ns. not (eqb (bit (get_or (plain_run t 0 last ns) i 0) k) b)))) → SharpRun t 0 last i → ⊥
blunt-of t last i k b h l x u S =
    let z = ((S.known_as k h b l).1 (λ ns C. eqb→eq (bit (get_or (plain_run t 0 last ns) i 0) k) b
    (T_not-not (eqb (bit (get_or (plain_run t 0 last ns) i 0) k) b)
    (not_T (not (eqb (bit (get_or (plain_run t 0 last ns) i 0) k) b)) (no_start t.widths (start_of t) (λ ns. not (eqb (bit (get_or (plain_run t 0 last ns) i 0) k) b)) u ns C))))).known in
    absurd (omega arith)
