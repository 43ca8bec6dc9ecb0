-- What run answers and leaves, from the verdict of its checks. Assumes nothing.
use mathlib.Core.Path.{◌≡◌, sym, ap, ◌∙◌, subst}
use Prim.Native.Nat.{ℕ, ◌-◌}
use Rattle.checks.specs.Check.{done, refused}
use Rattle.checks.specs.Table.{State, Table, start_of}
use Rattle.checks.specs.Checks.{run_checks}
use Rattle.checks.specs.Accepted.{Accepted}
use Rattle.checks.specs.Model.{judged}
use Rattle.checks.proofs.Verdicts.{not_done}
use Rattle.checks.proofs.Accepts.{accepted-of-answer}
use Rattle.steps.specs.Step.{after}
use Rattle.tables.specs.Run.{program_of, Ran, run_of, point_rows}
use Rattle.tables.specs.Known.{Demand2}
use Rattle.tables.specs.Demand.{Demand3}
use Rattle.checks.proofs.Leaving.{leaving-refused}
use Rattle.tables.proofs.Demand3.{ran-done, demand3}
use Rattle.tables.proofs.Known.{demand2}

-- what run's contract asks of an answer and the rows left
abbrev pub Meets : Table → ℕ → ℕ → Ran → Type 0
Meets t first last a =
    (a ≡ run_of t first last) × ((a.answer ≡ done last → Demand2 t first last a.left) × (a.answer ≡ done last → Demand3 t first last a.left))

module _ (t : Table) (first last : ℕ) where
  -- a refusal leaves the rows as lent
  pub refused-meets : (n i : ℕ) → judged (run_checks t first last) ≡ refused n i → Meets t first last (record { answer = refused n i; left = start_of t })
  unfolding run_of
  refused-meets n i e = (
    leaving-refused (start_of t) (after (program_of t) first (last - first) (start_of t)) (run_checks t first last) last n i e,
    (λ z. absurd (not_done n i last z), λ z. absurd (not_done n i last z)),
  )

  pub accepted-run : judged (run_checks t first last) ≡ done tt → Accepted t first last
  accepted-run e = accepted-of-answer t first last tt tt e

  module _ (A : Accepted t first last) (rows : State) (e : rows ≡ after (program_of t) first (last - first) (start_of t)) where
    done-run : ◌≡◌ {A = Ran} (record { answer = done last; left = rows }) (run_of t first last)
    done-run = (λ ι. record { answer = done last; left = e ι }) ∙ sym (ran-done t first last A)

    -- what holds of the rows at point last holds of the rows that run leaves
    left : (P : State → Type 0) → P (point_rows t first last) → P rows
    left P p = subst P (sym (ap (λ (r : Ran). r.left) done-run)) p

    pub done-meets : Meets t first last (record { answer = done last; left = rows })
    done-meets = (done-run, (λ z. left (Demand2 t first last) (demand2 t first last A), λ z. left (Demand3 t first last) (demand3 t first last A)))
