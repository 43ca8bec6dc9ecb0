-- One turn of the loop over rounds, in the code's terms: all words stepped through, then the start rows widened. Assumes nothing.
--   AtRound t ps r s   r rounds are over, none of them the last, and the next one starts from the rows s
use mathlib.Core.Path.{◌≡◌, sym, ap, ◌∙◌, subst}
use mathlib.Core.Bool.{Bool, true, false, not}
use mathlib.Core.List.{List}
use Prim.Native.Nat.{ℕ, ◌+◌, ◌-◌, ◌*◌, ◌≤◌, ◌<◌}
use native.Mathlib.Numerals.{add-one}
use native.Mathlib.Omega.{arith}
use lib.Dec.{T}
use Rattle.bits.specs.Limits.{width_limit}
use Rattle.bits.proofs.Below.{below_next}
use Rattle.checks.specs.Limits.{row_limit}
use Rattle.checks.specs.Table.{State, Table, start_of, record_count}
use Rattle.steps.specs.Step.{after}
use Rattle.steps.specs.States.{StateFits}
use Rattle.tables.specs.Run.{program_of, full_run}
use Rattle.tables.specs.Encoding.{StretchReady}
use Rattle.tables.proofs.FullRuns.{full-ready, full-after}
use Rattle.rounds.specs.Clock.{Pair, pairs_of, state_bits, widen, unchanged, is_last, round_start, rounds_of, last_start}
use Rattle.rounds.specs.Encoding.{PairsReady, WidenReady, SettleReady}
use Rattle.rounds.proofs.Round.{full-fits}
use Rattle.rounds.proofs.Counted.{kept, few-rounds, round-found}
use Rattle.rounds.proofs.Answers.{pairs-fit, pairs-ready}

pub record AtRound (t : Table) (ps : List Pair) (r : ℕ) (s : State) : Type 0 where
  pub starts : s ≡ round_start t ps r
  pub before : (j : ℕ) → j < r → T (not (is_last t ps (round_start t ps j)))

pub round-start : (t : Table) (ps : List Pair) (s : State) → s ≡ start_of t → AtRound t ps 0 s
unfolding round_start
round-start t ps s e = record { starts = e; before = λ j l. absurd (omega arith) }

module _ (t : Table) (ss ns : List ℕ) (R : SettleReady t ss ns) (r : ℕ) (s : State) (I : AtRound t (pairs_of ss ns) r s) where
  abbrev ps : List Pair
  ps = pairs_of ss ns

  pub rounds-few : (r ≤ state_bits t ps) × (state_bits t ps ≤ width_limit * row_limit)
  rounds-few = few-rounds t R.accepted ps (pairs-fit t ss ns R.paired) r I.before

  pub start_fits : StateFits t.widths s
  start_fits = subst (StateFits t.widths) (sym I.starts) (kept t R.accepted ps (pairs-fit t ss ns R.paired) r).fits

  pub step-ready : StretchReady t.widths s t.words
  step-ready = full-ready t R.accepted s start_fits

  module _ (ran : State) (e : ran ≡ after (program_of t) 0 (record_count t) s) where
    ran-is : ran ≡ full_run t s
    ran-is = e ∙ full-after t R.accepted s start_fits

    pub ran-fits : StateFits t.widths ran
    ran-fits = subst (StateFits t.widths) (sym ran-is) (full-fits t R.accepted s start_fits)

    pub widen-ready : WidenReady ran s ss ns
    widen-ready =
        record {
          run_values = ran-fits.values_length ∙ sym ran-fits.masks_length;
          start_masks = start_fits.masks_length ∙ sym ran-fits.masks_length;
          start_values = start_fits.values_length ∙ sym ran-fits.masks_length;
          pairs = subst (λ (n : ℕ). PairsReady n ss ns) (sym ran-fits.masks_length) (pairs-ready t ss ns R.paired);
        }

    test-is : (b : Bool) → b ≡ unchanged t.widths ps ran s → b ≡ is_last t ps (round_start t ps r)
    unfolding is_last
    test-is b f = f ∙ ap (λ (x : State). unchanged t.widths ps x s) ran-is ∙ ap (λ (x : State). unchanged t.widths ps (full_run t x) x) I.starts

    -- no state row changed: the rows hold the last round
    pub round-last : (b : Bool) → b ≡ unchanged t.widths ps ran s → b ≡ true → (r + 1 ≡ rounds_of t ps) × (ran ≡ full_run t (last_start t ps))
    round-last b f u =
        let n = round-found t R.accepted ps (pairs-fit t ss ns R.paired) r I.before (subst T (sym u ∙ test-is b f) tt) in
        let l : r ≡ rounds_of t ps - 1 = omega arith in
        (sym n, ran-is ∙ ap (full_run t) (I.starts ∙ ap (round_start t ps) l))

    -- some state row changed: on to the next round
    pub round-next : (b : Bool) → b ≡ unchanged t.widths ps ran s → b ≡ false → (s' : State) → s' ≡ widen t.widths ps ran s → AtRound t ps (r + 1) s'
    unfolding round_start
    round-next b f u s' g =
        record {
          starts = g ∙ ap (λ (x : State). widen t.widths ps x s) ran-is ∙ ap (λ (x : State). widen t.widths ps (full_run t x) x) I.starts ∙ ap (round_start t ps) (sym (add-one r));
          before = below_next (λ j. T (not (is_last t ps (round_start t ps j)))) r I.before (subst (λ (x : Bool). T (not x)) (sym u ∙ test-is b f) tt);
        }
