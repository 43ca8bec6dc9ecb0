-- The pass back over the records, turn by turn: those that stay move up to the end of the words. Assumes nothing.
--   Back words₀ need₀ words need i first   the records before i are yet to be visited; of the others those that stay stand from record `first` on
use mathlib.Core.Path.{◌≡◌, refl, sym, ap, ◌∙◌, subst}
use mathlib.Core.Bool.{Bool, true, false, cond}
use mathlib.Core.List.{List, [], ◌∷◌, ◌++◌, append_assoc, append-nil}
use Prim.Native.Nat.{ℕ, suc, ◌+◌, ◌*◌, ◌/◌, ◌≤◌, ◌<◌}
use native.Mathlib.Nat.{div-add-mod'}
use native.Mathlib.Omega.{arith}
use lib.ListN.{length, take, drop, drop_of_length-le}
use lib.Seq.{length-take-le, take-take, take-append-le, drop_at, sets, length-sets, sets-eq}
use Rattle.operations.specs.Limits.{record_words}
use Rattle.operations.specs.declared.Record.{Record}
use Rattle.operations.specs.Record.{words_of}
use Rattle.checks.specs.Table.{Table, record_count, record_of}
use Rattle.checks.specs.Model.{lent}
use Rattle.tables.proofs.Lists.{inside-part}
use Rattle.needs.specs.Needs.{marked, stays, need_before, kept_among, kept_of}
use Rattle.needs.specs.Prune.{words_kept}
use Rattle.needs.specs.Encoding.{needs_before, ZeroOrOne, RowsIn, RecordsIn}
use Rattle.needs.proofs.Marks.{before-length, before-bytes}
use Rattle.needs.proofs.RowWords.{before-marked}

-- ---- a record put

module _ (vs l : List ℕ) (i : ℕ) (h : i + length vs ≤ length l) where
  split : sets l i vs ≡ take i l ++ (vs ++ drop (i + length vs) l)
  split = sets-eq vs l i h ∙ append_assoc (take i l) vs (drop (i + length vs) l)

  put_front : (k : ℕ) → k ≤ i → take k (sets l i vs) ≡ take k l
  put_front k g =
      ap (take k) split
      ∙ take-append-le k (take i l) (vs ++ drop (i + length vs) l) (let e = length-take-le i l (omega arith) in omega arith)
      ∙ take-take k i l g

  put_back : drop i (sets l i vs) ≡ vs ++ drop (i + length vs) l
  put_back = ap (drop i) split ∙ drop_at (take i l) (vs ++ drop (i + length vs) l) i (length-take-le i l (omega arith))

-- ---- the turns

abbrev table : List ℕ → Table
table words = lent [] [] [] [] words

pub record Back (words₀ need₀ words need : List ℕ) (i first : ℕ) : Type 0 where
  pub later : List ℕ
  pub kept : kept_of (table words₀) need₀ ≡ kept_among (table words₀) i (marked need) ++ later
  pub counted : first + length later ≡ record_count (table words₀)
  pub ordered : i ≤ first
  pub words_length : length words ≡ length words₀
  pub need_length : length need ≡ length need₀
  pub bytes : ZeroOrOne need
  pub front : take (record_words * i) words ≡ take (record_words * i) words₀
  pub back : drop (record_words * first) words ≡ words_kept (table words₀) later

module _ (words₀ need₀ : List ℕ) (Z : ZeroOrOne need₀) (R : RecordsIn (length need₀) words₀) where
  abbrev t : Table
  t = table words₀

  whole : length words₀ ≡ record_words * record_count t
  whole = omega (arith, R.whole, div-add-mod' (length words₀) record_words)

  pub back_start : Back words₀ need₀ words₀ need₀ (record_count t) (record_count t)
  back_start =
      record {
        later = [];
        kept = sym (append-nil (kept_of t need₀));
        counted = omega arith;
        ordered = omega arith;
        words_length = refl;
        need_length = refl;
        bytes = Z;
        front = refl;
        back = drop_of_length-le words₀ {i = record_words * record_count t} (let w = whole in omega arith);
      }

  module _ (words need : List ℕ) (i first : ℕ) (B : Back words₀ need₀ words need (suc i) first) where
    pub in_words : i < length words / record_words
    in_words = let l = B.words_length in let c = B.counted in let o = B.ordered in let w = whole in omega arith

    -- the record that is visited is still the old one
    pub visited : record_of (lent [] [] [] [] words) i ≡ record_of t i
    visited =
        let e : record_words * i + record_words ≤ record_words * suc i = omega arith in
        sym (inside-part record_words (record_words * i) (record_words * suc i) words e)
        ∙ ap (λ (l : List ℕ). take record_words (drop (record_words * i) l)) B.front
        ∙ inside-part record_words (record_words * i) (record_words * suc i) words₀ e

    module _ (r : Record) (er : words_of r ≡ record_of (lent [] [] [] [] words) i) where
      is-old : words_of r ≡ record_of t i
      is-old = er ∙ visited

      pub rows_in : RowsIn (length need) r
      rows_in = subst (λ (n : ℕ). RowsIn n r) (sym B.need_length) (R.rows_in i (let c = B.counted in let o = B.ordered in omega arith) r is-old)

      shorter-front : (words' : List ℕ) → take (record_words * i) words' ≡ take (record_words * i) words → take (record_words * i) words' ≡ take (record_words * i) words₀
      shorter-front words' e =
          e
          ∙ sym (take-take (record_words * i) (record_words * suc i) words (omega arith))
          ∙ ap (take (record_words * i)) B.front
          ∙ take-take (record_words * i) (record_words * suc i) words₀ (omega arith)

      tested : (b : Bool) → b ≡ stays (words_of r) (marked need) → kept_among t (suc i) (marked need) ≡ cond b (kept_among t i (need_before (record_of t i) (marked need)) ++ i ∷ []) (kept_among t i (marked need))
      unfolding kept_among
      tested b e = ap (λ (x : Bool). cond x (kept_among t i (need_before (record_of t i) (marked need)) ++ i ∷ []) (kept_among t i (marked need))) (sym (e ∙ ap (λ (l : List ℕ). stays l (marked need)) is-old))

      pub back-goes : stays (words_of r) (marked need) ≡ false → Back words₀ need₀ words need i first
      back-goes e =
          record {
            later = B.later;
            kept = B.kept ∙ ap (λ (l : List ℕ). l ++ B.later) (tested false (sym e));
            counted = B.counted;
            ordered = let o = B.ordered in omega arith;
            words_length = B.words_length;
            need_length = B.need_length;
            bytes = B.bytes;
            front = shorter-front words refl;
            back = B.back;
          }

      module _ (first' : ℕ) (ef : first ≡ suc first') where
        room : record_words * first' + length (words_of r) ≤ length words
        room = let l = B.words_length in let c = B.counted in let w = whole in omega arith

        pub back-stays : stays (words_of r) (marked need) ≡ true → (words' need' : List ℕ) → words' ≡ sets words (record_words * first') (words_of r) → need' ≡ needs_before (words_of r) need
            → Back words₀ need₀ words' need' i first'
        back-stays e words' need' ew en =
            record {
              later = i ∷ B.later;
              kept =
                  B.kept
                  ∙ ap (λ (l : List ℕ). l ++ B.later) (tested true (sym e))
                  ∙ append_assoc (kept_among t i (need_before (record_of t i) (marked need))) (i ∷ []) B.later
                  ∙ (λ ι. kept_among t i (λ j. now-needed j ι) ++ i ∷ B.later);
              counted = let c = B.counted in omega arith;
              ordered = let o = B.ordered in omega arith;
              words_length = ap length ew ∙ length-sets words (record_words * first') (words_of r) ∙ B.words_length;
              need_length = ap length en ∙ before-length (words_of r) need ∙ B.need_length;
              bytes = subst ZeroOrOne (sym en) (before-bytes (words_of r) need B.bytes);
              front = shorter-front words' (ap (take (record_words * i)) ew ∙ put_front (words_of r) words (record_words * first') room (record_words * i) (let o = B.ordered in omega arith));
              back =
                  ap (drop (record_words * first')) ew
                  ∙ put_back (words_of r) words (record_words * first') room
                  ∙ (let n : record_words * first' + length (words_of r) ≡ record_words * first = omega arith in λ ι. is-old ι ++ drop (n ι) words)
                  ∙ ap (λ (l : List ℕ). record_of t i ++ l) B.back;
            }
          where
            now-needed : (j : ℕ) → need_before (record_of t i) (marked need) j ≡ marked need' j
            now-needed j =
                ap (λ (l : List ℕ). need_before l (marked need) j) (sym is-old)
                ∙ sym (before-marked need r rows_in j)
                ∙ ap (λ (l : List ℕ). marked l j) (sym en)

  -- the last turn leaves the records that stay
  pub back_end : (words need : List ℕ) (first : ℕ) → Back words₀ need₀ words need 0 first
      → (first + length (kept_of t need₀) ≡ record_count t) × (length words ≡ length words₀) × (drop (record_words * first) words ≡ words_kept t (kept_of t need₀))
  unfolding kept_among
  back_end words need first B =
      (ap (λ (l : List ℕ). first + length l) B.kept ∙ B.counted, B.words_length, B.back ∙ ap (words_kept t) (sym B.kept))
