-- A trial, in the code's terms: rows copied, one bit of them X, all records stepped through, the conclusion's bit looked at. Assumes nothing.
use mathlib.Core.Path.{◌≡◌, sym, ap, ◌∙◌, subst}
use mathlib.Core.Bool.{Bool, ◌&&◌}
use mathlib.Core.List.{List}
use Prim.Native.Nat.{ℕ, ◌<◌}
use native.Mathlib.Omega.{arith}
use lib.Dec.{eqb}
use lib.ListN.{length, get_or}
use Rattle.bits.specs.Bit.{bit}
use Rattle.checks.specs.Table.{State, Table, start_of, record_count}
use Rattle.checks.specs.Accepted.{Accepted}
use Rattle.steps.specs.Step.{after}
use Rattle.tables.specs.Run.{program_of}
use Rattle.tables.specs.Encoding.{StretchReady}
use Rattle.steps.specs.States.{StateFits}
use Rattle.tables.proofs.Demand3.{start_fits}
use Rattle.tables.proofs.FullRuns.{full-after}
use Rattle.conclusions.specs.declared.Conclusion.{Conclusion}
use Rattle.conclusions.specs.Pass.{concludesb, position, forget}
use Rattle.conclusions.specs.Encoding.{InTable}
use Rattle.conclusions.proofs.Forgets.{forget-fits}

module _ (widths : List ℕ) (s : State) (words : List ℕ) (R : StretchReady widths s words) where
  -- a bit of the table is a bit of a word
  pub bit-of-word : (i k : ℕ) → InTable widths i k → k < 32
  bit-of-word i k P = omega (arith, P.at_in, (R.wide i P.row_in).1)

  -- rows that are copies have room for it
  pub row_room : (q : State) → q ≡ s → (i : ℕ) → i < length widths → (i < length q.masks) × (i < length q.values)
  row_room q e i h =
      let F = subst (StateFits widths) (sym e) R.fits in
      (omega (arith, F.masks_length, h), omega (arith, F.values_length, h))

  -- and with one of their bits X they can be stepped through
  pub trial-steps : (i k : ℕ) → InTable widths i k → (q ran : State) → q ≡ s → ran ≡ forget widths q (position i k) → StretchReady widths ran words
  trial-steps i k P q ran e f =
      record {
        some_row = R.some_row;
        wide = R.wide;
        fits = subst (StateFits widths) (sym f) (forget-fits widths q (subst (StateFits widths) (sym e) R.fits) (position i k) P);
        passed = R.passed;
      }

-- what the steps leave tells the conclusion
abbrev shows : Conclusion → State → Bool
shows c ran = eqb (bit (get_or ran.masks c.row 0) c.at) 0 && eqb (bit (get_or ran.values c.row 0) c.at) c.value

pub trial-test : (t : Table) → Accepted t 0 (record_count t) → (c : Conclusion) (i k : ℕ) → InTable t.widths i k → (q ready ran : State)
    → q ≡ start_of t → ready ≡ forget t.widths q (position i k) → ran ≡ after (program_of t) 0 (record_count t) ready
    → shows c ran ≡ concludesb t c (forget t.widths (start_of t) (position i k))
unfolding concludesb
trial-test t A c i k P q ready ran e f g =
    let start = start_fits t A.table in
    let h = f ∙ ap (λ (x : State). forget t.widths x (position i k)) e in
    ap (shows c) (g ∙ ap (after (program_of t) 0 (record_count t)) h ∙ full-after t A (forget t.widths (start_of t) (position i k)) (forget-fits t.widths (start_of t) start (position i k) P))
