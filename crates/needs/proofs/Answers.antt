-- What prune's checks give, passed or not, and what it then answers, leaves and keeps. Assumes nothing.
use mathlib.Core.Path.{◌≡◌, refl, sym, ap, ◌∙◌, subst, subst₂}
use mathlib.Core.Bool.{Bool, cond}
use mathlib.Core.List.{List, [], ◌∷◌, ◌++◌}
use Prim.Native.Nat.{ℕ, zero, suc, ◌-◌, ◌*◌, ◌≤◌}
use native.Mathlib.Nat.{mul_comm}
use native.Mathlib.Omega.{arith}
use lib.Dec.{eqb, eqb→eq}
use lib.ListN.{length, take, replicate}
use lib.Seq.{take_at}
use Rattle.bits.proofs.Bools.{T_not-not}
use Rattle.vectors.proofs.Lists.{all-imp}
use Rattle.operations.specs.Limits.{record_words}
use Rattle.operations.specs.Record.{words_of, rows_named}
use Rattle.checks.specs.Check.{done, refused, Leaves, Check, placed, Passed}
use Rattle.checks.specs.Table.{State, Table, with_rows, record_count, record_of}
use Rattle.checks.specs.Checks.{run_checks}
use Rattle.checks.specs.Accepted.{RecordPassed, Accepted}
use Rattle.checks.specs.Model.{lent, judged}
use Rattle.checks.proofs.Verdicts.{passed-left, passed-right}
use Rattle.checks.proofs.RecordChecks.{targets-within}
use Rattle.checks.proofs.Accepts.{accepted-of-passed}
use Rattle.checks.proofs.Leaving.{leaving-done, leaving-refused, leaving-claims, Meets, meets}
use Rattle.tables.specs.Run.{run_of}
use Rattle.steps.specs.States.{StateFits}
use Rattle.tables.proofs.Demand3.{start_fits}
use Rattle.tables.proofs.FullRuns.{full-demand3}
use Rattle.needs.specs.Needs.{marked, stays, need_before, kept_among, kept_of}
use Rattle.needs.specs.Prune.{mark_faults, prune_checks, words_kept, moved_down, prune_of, shortened, KeepsMarked}
use Rattle.needs.specs.Encoding.{RecordsIn}
use Rattle.needs.proofs.KeptRuns.{short, short-fewer, short-length, short-count, short-accepted, same_rows, same_numbers}

-- what the code takes for granted of the records, with a byte for each row or more
pub records-in : (t : Table) → Accepted t 0 (record_count t) → (n : ℕ) → length t.widths ≤ n → RecordsIn n t.words
records-in t A n h =
    record {
      whole = A.table.words_whole;
      rows_in = λ i l r e.
          let R = subst (RecordPassed t.widths) (sym e) (A.table.record_passed i l) in
          let W = targets-within t.widths r R in
          record {
            known = R.kind_known;
            targets_in = record { row_in = λ u. (let g = W.row_in u in omega arith); cells_in = λ u. (let g = W.cells_in u in omega arith) };
            operands_in = all-imp (λ j g. omega arith) (rows_named (words_of r)) R.operands_in;
          };
    }

-- which records stay hangs on the words alone
kept-by-words : (t : Table) (n : ℕ) (need : ℕ → Bool) → kept_among (lent [] [] [] [] t.words) n need ≡ kept_among t n need
unfolding kept_among
kept-by-words t zero need = refl
kept-by-words t (suc n) need = λ ι. cond (stays (record_of t n) need) (kept-by-words t n (need_before (record_of t n) need) ι ++ n ∷ []) (kept-by-words t n need ι)

words-by-words : (t : Table) (is : List ℕ) → words_kept (lent [] [] [] [] t.words) is ≡ words_kept t is
words-by-words t [] = refl
words-by-words t (i ∷ is) = ap (λ (l : List ℕ). record_of t i ++ l) (words-by-words t is)

-- a full run from rows that fit is accepted
full-accepted : (t : Table) → Accepted t 0 (record_count t) → (s : State) → StateFits t.widths s → (run_of (with_rows t s) 0 (record_count t)).answer ≡ done (record_count t)
full-accepted t A s S = (full-demand3 t A s S).points (record_count t) (omega arith) (omega arith)

module _ (t : Table) (marks : List ℕ) where
  abbrev marks_checks : List Check
  marks_checks = placed 0 (mark_faults (length t.widths) marks)

  pub accepted-of : Passed (prune_checks t marks) → Accepted t 0 (record_count t)
  unfolding prune_checks
  accepted-of P = accepted-of-passed t 0 (record_count t) (passed-left (run_checks t 0 (record_count t)) marks_checks P)

  pub marks-even : Passed (prune_checks t marks) → length marks ≡ length t.widths
  unfolding prune_checks
  marks-even P = eqb→eq _ _ (T_not-not (eqb (length marks) (length t.widths)) (passed-right (run_checks t 0 (record_count t)) marks_checks P).0)

  -- ---- what is answered

  pub prune-refused : (n i : ℕ) → judged (prune_checks t marks) ≡ refused n i → ◌≡◌ {A = Leaves (List ℕ)} (record { answer = refused n i; left = t.words }) (prune_of t marks)
  unfolding prune_of
  prune-refused n i e = leaving-refused t.words (moved_down t (kept_of t marks)) (prune_checks t marks) (length (kept_of t marks)) n i e

  abbrev alone : Table
  alone = lent [] [] [] [] t.words

  same_kept : kept_of alone marks ≡ kept_of t marks
  same_kept = kept-by-words t (record_count t) (marked marks)

  same-moved : moved_down alone (kept_of alone marks) ≡ moved_down t (kept_of t marks)
  same-moved = ap (moved_down alone) same_kept ∙ ap (λ (l : List ℕ). l ++ replicate (length t.words - length l) 0) (words-by-words t (kept_of t marks))

  pub prune-done : Passed (prune_checks t marks) → (n : ℕ) → n ≡ length (kept_of alone marks) → (words : List ℕ) → words ≡ moved_down alone (kept_of alone marks)
      → ◌≡◌ {A = Leaves (List ℕ)} (record { answer = done n; left = words }) (prune_of t marks)
  unfolding prune_of
  prune-done P n e words f =
      (λ ι. record { answer = done ((e ∙ ap length same_kept) ι); left = (f ∙ same-moved) ι }) ∙ leaving-done t.words (moved_down t (kept_of t marks)) (prune_checks t marks) (length (kept_of t marks)) P

  -- ---- the claim, of every call that is answered

  module _ (A : Accepted t 0 (record_count t)) where
    abbrev kept : List ℕ
    kept = kept_of t marks

    keeps-short : KeepsMarked t marks (record_count (short t (marked marks) A)) (short t (marked marks) A)
    keeps-short =
        let need = marked marks in
        record {
          fewer = let e = short-count t need A in let f = short-fewer t need A in omega arith;
          count = refl;
          start = start_fits t A.table;
          old_accepted = full-accepted t A;
          accepted = full-accepted (short t need A) (short-accepted t need A);
          same_rows = same_rows t need A;
          same_numbers = same_numbers t need A;
        }

    -- the words that are left begin with those of the records that stay
    left-short : shortened t (length kept) (moved_down t kept) ≡ short t (marked marks) A
    left-short =
        let front : take (record_words * length kept) (moved_down t kept) ≡ words_kept t kept =
        take_at (words_kept t kept) (replicate (length t.words - length (words_kept t kept)) 0) (record_words * length kept) (short-length t (marked marks) A ∙ mul_comm (length kept) record_words) in
        λ ι. record { widths = t.widths; locks = t.locks; masks = t.masks; values = t.values; words = front ι }

    keeps-left : KeepsMarked t marks (length kept) (shortened t (length kept) (moved_down t kept))
    keeps-left = subst₂ (KeepsMarked t marks) (short-count t (marked marks) A) (sym left-short) keeps-short

  prune-keeps : (n : ℕ) → (prune_of t marks).answer ≡ done n → KeepsMarked t marks n (shortened t n (prune_of t marks).left)
  unfolding prune_of
  prune-keeps =
      leaving-claims t.words (moved_down t (kept_of t marks)) (prune_checks t marks) (length (kept_of t marks)) (λ n words. KeepsMarked t marks n (shortened t n words))
      (λ P. keeps-left (accepted-of P))

  pub prune-meets : (a : Leaves (List ℕ)) → a ≡ prune_of t marks → Meets (prune_of t marks) (λ n words. KeepsMarked t marks n (shortened t n words)) a
  prune-meets = meets (prune_of t marks) (λ n words. KeepsMarked t marks n (shortened t n words)) prune-keeps
