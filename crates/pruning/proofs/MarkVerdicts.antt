-- The verdict on the marks: their number, then each mark. Assumes nothing.
use mathlib.Core.Path.{◌≡◌, ap, ◌∙◌}
use mathlib.Core.Logic.{◌≢◌}
use mathlib.Core.Bool.{not}
use mathlib.Core.List.{List}
use Prim.Native.Nat.{ℕ, ◌<◌}
use borrow.Author.Tests.{eq-eqb, ne_eqb, lt-ltb}
use lib.Dec.{ltb}
use lib.ListN.{length, get_or}
use Rattle.bits.proofs.Below.{some_below-true}
use Rattle.checks.specs.Check.{refused, placed}
use Rattle.checks.specs.Model.{judged}
use Rattle.checks.proofs.Verdicts.{hits, skips}
use Rattle.needs.specs.Prune.{mark_faults}

pub marks_uneven : (rows : ℕ) (marks : List ℕ) → length marks ≢ rows → judged (placed 0 (mark_faults rows marks)) ≡ refused 21 0
marks_uneven rows marks d = hits _ _ (ap not (ne_eqb _ _ d))

pub mark_too_big : (rows : ℕ) (marks : List ℕ) (i : ℕ) → length marks ≡ rows → i < length marks → 1 < get_or marks i 0 → judged (placed 0 (mark_faults rows marks)) ≡ refused 21 0
mark_too_big rows marks i e h b =
    skips _ _ (ap not (eq-eqb _ _ e)) ∙ hits _ _ (some_below-true _ (λ k. ltb 1 (get_or marks k 0)) i h (lt-ltb _ _ b))
