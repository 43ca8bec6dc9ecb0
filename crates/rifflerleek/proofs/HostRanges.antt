-- A host's answer to range claims what the call's own answer claims. Assumes nothing.
use mathlib.Core.Path.{◌≡◌, refl, sym, ap, subst}
use mathlib.Core.Logic.{◌↔◌}
use Prim.Native.Nat.{ℕ}
use native.Mathlib.Omega.{arith}
use Rattle.vectors.specs.Row.{row}
use Rattle.range_search.specs.declared.Range.{Range}
use Rattle.range_search.specs.Range.{Ranged}
use Rattle.checks.specs.Check.{Answer, done, refused}
use Rattle.vector_calls.specs.Ranges.{range_of, Absent}
use Rattle.vector_calls.specs.RangeRuns.{RunsOn}
use Rattle.vector_calls.proofs.RangeClaims.{Claims}
use Rattle.rifflerleek.specs.declared.vector_exports.FourNumbers.{FourNumbers}
use Rattle.rifflerleek.specs.Host.{four_refusal, range_answer, range_held}
use Rattle.rifflerleek.proofs.Numbered.{range-refused}

module _ (w m v low high : ℕ) where
  abbrev pub HostClaims : FourNumbers → Type 0
  HostClaims r =
      (r ≡ range_answer (range_of w m v low high))
      × ((r.refusal ≡ 0 → Ranged (row w m v) low high (range_held r))
      × (((r ≡ four_refusal 18 0) ↔ Absent w m v low high)
      × (r.refusal ≡ 0 → RunsOn (row w m v) low high (row w r.first r.second))))

  -- a refusal as 18, told to the host, is one
  told-empty : (a : Answer Range) → range_answer a ≡ four_refusal 18 0 → a ≡ refused 18 0
  told-empty (done x) e = absurd (let z : ◌≡◌ {A = ℕ} 0 18 = ap (λ (r : FourNumbers). r.refusal) e in omega arith)
  told-empty (refused n i) e = λ ι. refused (e ι).refusal (e ι).place

  -- a result told to the host is one
  told-done : (a : Answer Range) → a ≡ range_of w m v low high → (range_answer a).refusal ≡ 0 → a ≡ done (range_held (range_answer a))
  told-done (done x) e z = refl
  told-done (refused n i) e z = absurd (let l = range-refused w m v low high n i (sym e) in omega arith)

  pub range-hosted : (a : Answer Range) → Claims w m v low high a → (r : FourNumbers) → r ≡ range_answer a → HostClaims r
  range-hosted a (e, (best, (empty, runs))) r h = subst HostClaims (sym h) (
    ap range_answer e,
    (
      (λ z. best (range_held (range_answer a)) (told-done a e z)),
      (
        ((λ q. empty.0 (told-empty a q)), (λ A. ap range_answer (empty.1 A))),
        (λ z. runs (range_held (range_answer a)) (told-done a e z)),
      ),
    ),
  )
