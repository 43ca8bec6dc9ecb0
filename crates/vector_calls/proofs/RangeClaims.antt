-- What range answers, and what that claims. Assumes nothing.
--   Given w m v low high      what passing 4, 5 and 17 gives
--   Claims w m v low high a   the clauses of range's contract, of an answer a
use mathlib.Core.Path.{◌≡◌, refl, sym, ap, ◌∙◌, subst}
use mathlib.Core.Bool.{Bool, true, false, not, cond}
use mathlib.Core.Logic.{◌↔◌}
use mathlib.Core.List.{List, ◌++◌}
use Prim.Native.Nat.{ℕ, ◌^◌, ◌≤◌, ◌<◌}
use native.Mathlib.Decide.{dec_lt}
use native.Mathlib.Omega.{arith}
use borrow.Author.Tests.{lt-ltb, le-ltb, le-leb, lt-leb}
use lib.Dec.{T, eqb, nltb→le, nleb→lt}
use Rattle.bits.specs.Limits.{width_limit}
use Rattle.vectors.specs.Row.{row, WellFormed}
use Rattle.range_search.specs.declared.Range.{Range}
use Rattle.std.specs.Prelude.{Option, Some, None, Result, ok_or}
use Rattle.range_search.specs.Range.{none_between, range_in, in_range_of, Ranged}
use Rattle.range_search.proofs.Answers.{none-iff, some-between, ranged}
use Rattle.checks.specs.Check.{Answer, done, refused, Check, verdict, placed, Passed}
use Rattle.checks.specs.Checks.{width_faults, vector_faults}
use Rattle.checks.specs.declared.refusals.Refusal.{Refusal}
use Rattle.checks.specs.declared.refusals.Reason.TheVariants.{Empty}
use Rattle.checks.specs.Model.{answer_model, judged}
use Rattle.checks.proofs.Verdicts.{passed-left, passed-right, done-of-passed, passed-of-done, verdict-passed, verdict-refused, number_of, done-same, not_done}
use Rattle.checks.proofs.Numbered.{refused-number}
use Rattle.checks.proofs.RowChecks.{width-of-passed, vector-of-passed}
use Rattle.vector_calls.specs.Ranges.{end_faults, input_faults, empty_faults, range_checks, range_of, Absent}
use Rattle.vector_calls.specs.RangeRuns.{RunsOn}
use Rattle.vector_calls.proofs.RangeRuns.{runs_on}

-- ---- 17

module _ (w low high : ℕ) where
  pub exchanged_refused : high < low → judged (placed 0 (end_faults w low high)) ≡ refused 17 0
  unfolding verdict
  exchanged_refused h = simp (lt-ltb high low h)

  pub end-over : low ≤ high → 2 ^ w ≤ high → judged (placed 0 (end_faults w low high)) ≡ refused 17 0
  unfolding verdict
  end-over o h =
      elim (dec_lt low (2 ^ w)) [
        | yes l ↦ simp (le-ltb high low o, lt-leb (2 ^ w) low l, le-leb (2 ^ w) high h)
        | no l ↦ simp (le-ltb high low o, le-leb (2 ^ w) low (omega arith))
      ]

  pub ends-passed : low ≤ high → high < 2 ^ w → judged (placed 0 (end_faults w low high)) ≡ done tt
  unfolding verdict
  ends-passed o h = simp (le-ltb high low o, lt-leb (2 ^ w) low (omega arith), lt-leb (2 ^ w) high h)

-- ---- 4, 5 and 17

pub record Given (w m v low high : ℕ) : Type 0 where
  pub width_most : w ≤ width_limit
  pub formed : WellFormed (row w m v)
  pub ordered : low ≤ high
  pub high_below : high < 2 ^ w

module _ (w m v low high : ℕ) where
  abbrev inputs : List Check
  inputs = placed 0 (input_faults w m v low high)

  abbrev empty : List Check
  empty = placed 0 (empty_faults w m v low high)

  pub given-of-passed : Passed inputs → Given w m v low high
  given-of-passed P =
      let width = placed 0 (width_faults w) in
      let vector = placed 0 (vector_faults w m v) in
      let ends = placed 0 (end_faults w low high) in
      let R = passed-right width (vector ++ ends) P in
      let E = passed-right vector ends R in
      record {
        width_most = (width-of-passed w 0 (passed-left width (vector ++ ends) P)).1;
        formed = vector-of-passed w m v 0 (passed-left vector ends R);
        ordered = nltb→le high low E.0;
        high_below = nleb→lt (2 ^ w) high E.1.1.0;
      }

  -- ---- the claims of an answer

  abbrev pub Claims : Answer Range → Type 0
  Claims a =
      (a ≡ range_of w m v low high)
      × (((x : Range) → a ≡ done x → Ranged (row w m v) low high x)
      × (((a ≡ refused 18 0) ↔ Absent w m v low high)
      × ((x : Range) → a ≡ done x → RunsOn (row w m v) low high (row w x.mask x.value))))

  best-claim : (x : Range) → range_of w m v low high ≡ done x → Ranged (row w m v) low high x
  unfolding range_of range_checks
  best-claim x e =
      let P = passed-of-done (range_checks w m v low high) (range_in (row w m v) low high) x e in
      let S = some-between (row w m v) low high (passed-right inputs empty P).0 in
      subst (Ranged (row w m v) low high) (done-same _ _ (sym (done-of-passed (range_checks w m v low high) (range_in (row w m v) low high) P) ∙ e)) (ranged (row w m v) low high S)

  -- 4, 5 and 17 passed: 18 stands exactly where there is no number
  after-inputs : Passed inputs → range_of w m v low high ≡ cond (none_between (row w m v) low high) (refused 18 0) (done (range_in (row w m v) low high))
  unfolding range_of range_checks verdict
  after-inputs P = verdict-passed inputs empty (range_in (row w m v) low high) P

  -- no check before 18 has its number
  inputs-passed : range_of w m v low high ≡ refused 18 0 → (j : Answer (Unit {0})) → judged inputs ≡ j → Passed inputs
  unfolding range_of range_checks
  inputs-passed q (done u) e = passed-of-done inputs tt u e
  inputs-passed q (refused n i) e =
      let k = refused-number (λ x. not (eqb x 18)) inputs tt n i tt e in
      let s = sym (verdict-refused inputs empty tt (range_in (row w m v) low high) n i e) ∙ q in
      absurd (subst (λ (x : ℕ). T (not (eqb x 18))) (ap number_of s) k)

  empty-claim : (range_of w m v low high ≡ refused 18 0) ↔ Absent w m v low high
  empty-claim = (
    (λ q. let P = inputs-passed q (judged inputs) refl in record { granted = P; none = (none-iff (row w m v) low high).0 (holds (none_between (row w m v) low high) (sym (after-inputs P) ∙ q)) }),
    (λ A. after-inputs A.granted ∙ stands (none_between (row w m v) low high) ((none-iff (row w m v) low high).1 A.none)),
  )
    where
      holds : (b : Bool) → cond b (refused 18 0) (done (range_in (row w m v) low high)) ≡ refused 18 0 → T b
      holds true q = tt
      holds false q = absurd (not_done 18 0 (range_in (row w m v) low high) (sym q))

      stands : (b : Bool) → T b → cond b (refused 18 0) (done (range_in (row w m v) low high)) ≡ refused 18 0
      stands true t = refl
      stands false t = absurd t

  claims : (a : Answer Range) → a ≡ range_of w m v low high → Claims a
  claims a e = (
    e,
    (
      (λ x d. best-claim x (sym e ∙ d)),
      (
        ((λ q. empty-claim.0 (sym e ∙ q)), (λ A. e ∙ empty-claim.1 A)),
        (λ x d. runs_on (row w m v) low high x (best-claim x (sym e ∙ d))),
      ),
    ),
  )

  -- ---- the three ways to answer

  pub claims-refused : (n i : ℕ) → judged inputs ≡ refused n i → (a : Answer Range) → a ≡ refused n i → Claims a
  unfolding range_of range_checks
  claims-refused n i e a p = claims a (p ∙ sym (verdict-refused inputs empty tt (range_in (row w m v) low high) n i e))

  -- what the search found, as an answer
  abbrev answer_of : Option Range → Answer Range
  answer_of x = answer_model (ok_or x (record { reason = Empty; place = 0 }))

  told : (b : Bool) → answer_of (cond b None (Some (range_in (row w m v) low high))) ≡ cond b (refused 18 0) (done (range_in (row w m v) low high))
  told true = refl
  told false = refl

  pub claims-found : Passed inputs → (x : Option Range) → x ≡ in_range_of (row w m v) low high → (r : Result Range Refusal) → r ≡ ok_or x (record { reason = Empty; place = 0 })
      → Claims (answer_model r)
  claims-found P x e r f = claims (answer_model r) (ap answer_model f ∙ ap answer_of e ∙ told (none_between (row w m v) low high) ∙ sym (after-inputs P))
