-- What a call answers and leaves, from the verdict of its checks. Assumes nothing.
use mathlib.Core.Path.{◌≡◌, refl, sym, ap, subst, subst₂, ◌∙◌}
use mathlib.Core.List.{List}
use Prim.Native.Nat.{ℕ}
use Rattle.checks.specs.Check.{Answer, done, refused, Leaves, leaving, Check, verdict, Passed}
use Rattle.checks.specs.Model.{judged}
use Rattle.checks.proofs.Verdicts.{done-of-passed, passed-of-done, done-same, refused-any}

module _ {L : Type 0} (lent new : L) where
  pub leaving-answer : (a : Answer ℕ) → (leaving a lent new).answer ≡ a
  leaving-answer (done n) = refl
  leaving-answer (refused n i) = refl

  module _ (cs : List Check) (n : ℕ) where
    -- checks that passed
    pub leaving-done : Passed cs → ◌≡◌ {A = Leaves L} (record { answer = done n; left = new }) (leaving (verdict cs n) lent new)
    leaving-done P = sym (ap (λ (a : Answer ℕ). leaving a lent new) (done-of-passed cs n P))

    -- a refusal leaves what was lent
    pub leaving-refused : (m i : ℕ) → judged cs ≡ refused m i → ◌≡◌ {A = Leaves L} (record { answer = refused m i; left = lent }) (leaving (verdict cs n) lent new)
    leaving-refused m i e = sym (ap (λ (a : Answer ℕ). leaving a lent new) (refused-any cs tt n m i e))

    -- an answer that is a result shows that the checks passed
    pub leaving-passed : (m : ℕ) → (leaving (verdict cs n) lent new).answer ≡ done m → Passed cs
    leaving-passed m e = passed-of-done cs n m (sym (leaving-answer (verdict cs n)) ∙ e)

    -- what holds of the result and of what is left by a call whose checks pass holds of every answer that is a result
    pub leaving-claims : (Claim : ℕ → L → Type 0) → (Passed cs → Claim n new) → (m : ℕ) → (leaving (verdict cs n) lent new).answer ≡ done m → Claim m (leaving (verdict cs n) lent new).left
    leaving-claims Claim holds m e =
        let P = leaving-passed m e in
        let left = leaving-done P in
        subst₂ Claim (done-same n m (ap (λ (r : Leaves L). r.answer) left ∙ e)) (ap (λ (r : Leaves L). r.left) left) (holds P)

-- ---- a contract of two clauses: answer and slices are what a definition gives, and what is claimed of a result holds

abbrev pub Meets : {L : Type 0} → Leaves L → (ℕ → L → Type 0) → Leaves L → Type 0
Meets due Claim a = (a ≡ due) × ((n : ℕ) → a.answer ≡ done n → Claim n a.left)

pub meets : {L : Type 0} (due : Leaves L) (Claim : ℕ → L → Type 0) → ((n : ℕ) → due.answer ≡ done n → Claim n due.left) → (a : Leaves L) → a ≡ due → Meets due Claim a
meets due Claim holds a e = subst (Meets due Claim) (sym e) (refl, holds)
