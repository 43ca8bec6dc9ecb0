-- Records: from the checks that passed to the fields of RecordPassed, and back. Assumes nothing.
use mathlib.Core.Path.{sym, subst}
use mathlib.Core.Bool.{Bool, true, false, not, cond, ◌&&◌}
use mathlib.Core.List.{List, [], ◌∷◌}
use Prim.Native.Nat.{ℕ, ◌+◌, ◌-◌, ◌≤◌, ◌<◌}
use native.Mathlib.Omega.{arith}
use lib.Dec.{T, ltb, eqb, nleb→lt, nltb→le}
use lib.Arith.{le→nltb, lt→nleb}
use lib.ListN.{length}
use Rattle.bits.proofs.Bools.{T_not-not, not_not_T}
use Rattle.vectors.specs.Lists.{All}
use Rattle.vectors.proofs.ListParts.{listed-all, all_listed}
use Rattle.operations.specs.Kind.{Use, as_row, as_number, as_count, as_base, unused, is_row, is_base}
use Rattle.operations.specs.declared.Record.{Record}
use Rattle.operations.specs.Kinds.{is_kind, kind_of}
use Rattle.operations.specs.Memory.{span}
use Rattle.operations.specs.Encoding.{is_plain}
use Rattle.operations.specs.Record.{words_of, kind_word, target_word, first_word, second_word, parameter_word, sixth_word, kind_in, used, used_last, sixth_rows, rows_named, target_rows}
use Rattle.operations.specs.Faults.{word_outside, misused, record_faults, widths_fit}
use Rattle.operations.proofs.Sound.{target-plain, first-is-row, second_plain, cells-written, cells-counted}
use Rattle.checks.specs.Check.{placed, Passed}
use Rattle.checks.specs.Accepted.{RecordPassed}
use Rattle.checks.specs.Encoding.{TargetsIn}
use Rattle.checks.proofs.RowChecks.{positive}
use Rattle.checks.proofs.Naming.{ends-within}

-- ---- one word

row_in : (u : Use) (n word : ℕ) (rows : List ℕ) → T (not (word_outside n u word)) → All (λ i. i < n) rows → All (λ i. i < n) (used u word rows)
row_in as_row n word rows p e = (nleb→lt n word p, e)
row_in as_number n word rows p e = e
row_in as_count n word rows p e = e
row_in as_base n word rows p e = e
row_in unused n word rows p e = e

not-outside : (u : Use) → T (is_plain u) → (n word : ℕ) (rows : List ℕ) → All (λ i. i < n) (used u word rows) → T (not (word_outside n u word)) × All (λ i. i < n) rows
not-outside as_row q n word rows e = (lt→nleb n word e.0, e.1)
not-outside as_number q n word rows e = (tt, e)
not-outside as_count q n word rows e = absurd q
not-outside as_base q n word rows e = absurd q
not-outside unused q n word rows e = (tt, e)

-- ---- the sixth word: one row, or a span

span_in : (n base count : ℕ) → base + count ≤ n → All (λ i. i < n) (span base count)
span_in n base count h = listed-all (λ i. i < n) (λ i. i) base count (λ i l u. omega arith)

-- a span that has a cell, and lies in the table
span-ends : (n base count : ℕ) → T (not (eqb count 0)) → All (λ i. i < n) (span base count) → (base < n) × (base + count ≤ n)
span-ends n base count m e =
    let some : 1 ≤ count = positive count m in
    let l = all_listed (λ i. i < n) (λ i. i) base count e (base + (count - 1)) (omega arith) (omega arith) in
    (omega arith, omega arith)

sixth_in : (u : Use) (n c m : ℕ) → T (not (word_outside n u c)) → T (not (is_base u && ltb n (c + m))) → All (λ i. i < n) (used_last u (sixth_rows u c m))
sixth_in as_row n c m t o = (nleb→lt n c t, tt)
sixth_in as_number n c m t o = tt
sixth_in as_count n c m t o = tt
sixth_in as_base n c m t o = span_in n c m (nltb→le n (c + m) o)
sixth_in unused n c m t o = tt

sixth-out : (u : Use) (n c m : ℕ) → (T (is_base u) → T (not (eqb m 0))) → All (λ i. i < n) (used_last u (sixth_rows u c m)) → T (not (word_outside n u c)) × T (not (is_base u && ltb n (c + m)))
sixth-out as_row n c m f e = (lt→nleb n c e.0, tt)
sixth-out as_number n c m f e = (tt, tt)
sixth-out as_count n c m f e = (tt, tt)
sixth-out as_base n c m f e = let x = span-ends n c m (f tt) e in (lt→nleb n c x.0, le→nltb n (c + m) x.1)
sixth-out unused n c m f e = (tt, tt)

-- ---- the rows that a record writes

writes-in : (u : Use) (n t c m : ℕ) → T (not (word_outside n u t)) → (T (not (is_row u)) → All (λ i. i < n) (span c m)) → All (λ i. i < n) (cond (is_row u) (t ∷ []) (span c m))
writes-in as_row n t c m o f = (nleb→lt n t o, tt)
writes-in as_number n t c m o f = f tt
writes-in as_count n t c m o f = f tt
writes-in as_base n t c m o f = f tt
writes-in unused n t c m o f = f tt

writes-out : (u : Use) → T (is_plain u) → (n t c m : ℕ) → All (λ i. i < n) (cond (is_row u) (t ∷ []) (span c m)) → T (not (word_outside n u t))
writes-out as_row q n t c m e = lt→nleb n t e.0
writes-out as_number q n t c m e = tt
writes-out as_count q n t c m e = absurd q
writes-out as_base q n t c m e = absurd q
writes-out unused q n t c m e = tt

-- ---- a record

pub record-of-passed : (widths words : List ℕ) (i : ℕ) → Passed (placed i (record_faults widths words)) → RecordPassed widths words
unfolding record_faults rows_named target_rows
record-of-passed widths words i P =
    let k = kind_in words in
    let n = length widths in
    let known = T_not-not (is_kind (kind_word words)) P.0 in
    let S = P.1.1.1.1.1 in
    record {
      kind_known = known;
      targets_in = writes-in k.use_t n (target_word words) (sixth_word words) (parameter_word words) P.1.0
          (λ z. span_in n (sixth_word words) (parameter_word words) (ends-within (is_base k.use_c) n (sixth_word words + parameter_word words) S.0 (cells-written (kind_word words) known z)));
      operands_in = row_in k.use_a n (first_word words) _ P.1.1.0
          (row_in k.use_b n (second_word words) _ P.1.1.1.0
          (sixth_in k.use_c n (sixth_word words) (parameter_word words) P.1.1.1.1.0 S.0));
      target_used = S.1.0;
      first_used = S.1.1.0;
      second_used = S.1.1.1.0;
      parameter_used = S.1.1.1.1.0;
      sixth_used = S.1.1.1.1.1.0;
      widths_are_fit = T_not-not (widths_fit widths words) S.1.1.1.1.1.1.0;
    }

pub passed-of-record : (widths words : List ℕ) (i : ℕ) → RecordPassed widths words → Passed (placed i (record_faults widths words))
unfolding record_faults rows_named target_rows
passed-of-record widths words i R =
    let k = kind_in words in
    let n = length widths in
    let h = R.kind_known in
    let t = writes-out k.use_t (target-plain (kind_word words) h) n (target_word words) (sixth_word words) (parameter_word words) R.targets_in in
    let a = not-outside k.use_a (subst (λ (u : Use). T (is_plain u)) (sym (first-is-row (kind_word words) h)) tt) n (first_word words) _ R.operands_in in
    let b = not-outside k.use_b (second_plain (kind_word words) h) n (second_word words) _ a.1 in
    let some : T (is_base k.use_c) → T (not (eqb (parameter_word words) 0)) = λ z.
    subst (λ (u : Use). T (not (misused u (parameter_word words)))) (cells-counted (kind_word words) h z) R.parameter_used in
    let c = sixth-out k.use_c n (sixth_word words) (parameter_word words) some b.1 in
    let fit = not_not_T (widths_fit widths words) R.widths_are_fit in (
      not_not_T (is_kind (kind_word words)) h,
      (t, (a.0, (b.0, (c.0, (c.1, (R.target_used, (R.first_used, (R.second_used, (R.parameter_used, (R.sixth_used, (fit, tt))))))))))),
    )

-- ---- what a record that passed gives

-- a span lies in the table
pub span-within : (widths words : List ℕ) → RecordPassed widths words → T (is_base (kind_in words).use_c) → sixth_word words + parameter_word words ≤ length widths
unfolding record_faults
span-within widths words R =
    ends-within (is_base (kind_in words).use_c) (length widths) (sixth_word words + parameter_word words) (passed-of-record widths words 0 R).1.1.1.1.1.0

-- the rows that it writes, as the code tells them
pub targets-within : (widths : List ℕ) (r : Record) → RecordPassed widths (words_of r) → TargetsIn (length widths) r
unfolding target_rows
targets-within widths r R =
    record {
      row_in = λ t. first_of (is_row (kind_of r.kind).use_t) t R.targets_in;
      cells_in = λ t. span-within widths (words_of r) R (cells-written r.kind R.kind_known t);
    }
  where
    first_of : (b : Bool) → T b → All (λ i. i < length widths) (cond b (r.t ∷ []) (span r.c r.p)) → r.t < length widths
    first_of true t e = e.0
    first_of false t e = absurd t
