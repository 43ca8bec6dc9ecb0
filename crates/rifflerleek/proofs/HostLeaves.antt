-- A host's answer to a call that leaves something in lent slices says what the call's own answer says, and what is claimed of a result is claimed of what the host is told. Assumes nothing.
use mathlib.Core.Path.{◌≡◌, refl, sym, ap, ◌∙◌, subst}
use Prim.Native.Nat.{ℕ, ◌≤◌}
use native.Mathlib.Omega.{arith}
use Rattle.checks.specs.Check.{Answer, done, refused, Leaves}
use Rattle.rifflerleek.specs.declared.Answer.{Answer as HostAnswer}
use Rattle.rifflerleek.specs.Host.{number_answer, outcome, host_leaves}

-- due: what the call answers and leaves, of which a refusal has a number from 1 on
module _ {L : Type 0} (due : Leaves L) (numbered : (n i : ℕ) → due.answer ≡ refused n i → 1 ≤ n) where
  -- a result told to the host is one
  pub told-done : (a : Answer ℕ) → a ≡ due.answer → (number_answer a).refusal ≡ 0 → a ≡ done (number_answer a).result
  told-done (done n) e z = refl
  told-done (refused n i) e z = absurd (let h = numbered n i (sym e) in omega arith)

  -- a: the call's answer; h: what the host is handed for it; left: what is left
  pub claims-hosted : (Claim : ℕ → L → Type 0) (a : Answer ℕ) (h : HostAnswer) (left : L) → h ≡ number_answer a
      → (◌≡◌ {A = Leaves L} (record { answer = a; left = left }) due) × ((n : ℕ) → a ≡ done n → Claim n left)
      → (outcome h left ≡ host_leaves due) × (h.refusal ≡ 0 → Claim h.result left)
  claims-hosted Claim a h left e f = (
    ap (λ (x : HostAnswer). outcome x left) e ∙ ap host_leaves f.0,
    (λ z.
        subst (λ (x : HostAnswer). Claim x.result left) (sym e)
        (f.1 (number_answer a).result (told-done a (ap (λ (x : Leaves L). x.answer) f.0) (ap (λ (x : HostAnswer). x.refusal) (sym e) ∙ z)))),
  )
