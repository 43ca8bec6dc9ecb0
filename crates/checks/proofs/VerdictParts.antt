-- A verdict over a list of checks, part by part: what a loop or a chain of calls that stops at the first refusal goes by. Assumes nothing.
use mathlib.Core.Path.{◌≡◌, sym, ap, ◌∙◌}
use mathlib.Core.List.{List, ◌++◌}
use Rattle.std.specs.Prelude.{Result, Ok, Err}
use Rattle.std.specs.Result.{IsErrAnd}
use Rattle.std.proofs.lemmas.Result.{err_from_is_err_and}
use Prim.Native.Nat.{ℕ, suc, ◌+◌, ◌-◌, ◌^◌, ◌≤◌, ◌<◌}
use native.Mathlib.Nat.{sub-zero}
use native.Mathlib.Numerals.{add-one}
use native.Mathlib.Omega.{arith}
use lib.Pow.{pow_pos}
use Rattle.bits.specs.Counted.{rising}
use Rattle.checks.specs.declared.refusals.Refusal.{Refusal}
use Rattle.checks.specs.Check.{Answer, done, refused, Check, verdict}
use Rattle.checks.specs.Model.{reason_number, verdict_model, judged}
use Rattle.checks.proofs.Verdicts.{passed-of-done, verdict-passed, verdict-refused}

-- a `?` hands on the refusal that it met
pub exit : {A : Type 0} (s : Result A Refusal) (q : Refusal) → IsErrAnd s (λ x. x ≡ q) → s ≡ Err q
exit s q h = let p = err_from_is_err_and s h in p.1 ∙ ap Err p.2

module _ (r : Result (Unit {0}) Refusal) (cs ds : List Check) (e : verdict_model r ≡ judged cs) where
  -- a part that is clear leaves the verdict to the rest
  pub goes_on : r ≡ Ok tt → judged (cs ++ ds) ≡ judged ds
  goes_on p = verdict-passed cs ds tt (passed-of-done cs tt tt (sym e ∙ ap verdict_model p))

  -- a part that refuses decides
  pub stops : (q : Refusal) → r ≡ Err q → judged (cs ++ ds) ≡ refused (reason_number q.reason) q.place
  stops q p = verdict-refused cs ds tt tt (reason_number q.reason) q.place (sym e ∙ ap verdict_model p)

-- ---- a loop over rising places

module _ (f : ℕ → List Check) (n : ℕ) where
  -- the verdict of the places from i on
  abbrev pub rest : ℕ → Answer (Unit {0})
  rest i = judged (rising f i (n - i))

  pub rest-start : judged (rising f 0 n) ≡ rest 0
  rest-start = ap (λ (m : ℕ). judged (rising f 0 m)) (sym (sub-zero n))

  rest-step : (i : ℕ) → i < n → rest i ≡ judged (f i ++ rising f (i + 1) (n - (i + 1)))
  unfolding rising
  rest-step i h =
      let e : n - i ≡ suc (n - (i + 1)) = omega arith in
      ap (λ (m : ℕ). judged (rising f i m)) e ∙ ap (λ (j : ℕ). judged (f i ++ rising f j (n - (i + 1)))) (sym (add-one i))

  pub rest_end : (i : ℕ) → n ≤ i → rest i ≡ done tt
  unfolding rising verdict
  rest_end i h = let e : n - i ≡ 0 = omega arith in ap (λ (m : ℕ). judged (rising f i m)) e

-- one turn: the verdict at place i stops the loop, or leaves the verdict to the places after it
module _ (f : ℕ → List Check) (n i : ℕ) (h : i < n) (r : Result (Unit {0}) Refusal) (e : verdict_model r ≡ judged (f i)) where
  pub turn-stops : (q : Refusal) → r ≡ Err q → rest f n i ≡ verdict_model (Err q)
  turn-stops q p = rest-step f n i h ∙ stops r (f i) (rising f (i + 1) (n - (i + 1))) e q p

  pub turn-goes-on : r ≡ Ok tt → rest f n i ≡ rest f n (i + 1)
  turn-goes-on p = rest-step f n i h ∙ goes_on r (f i) (rising f (i + 1) (n - (i + 1))) e p

-- ---- a plane against the mask of its width

pub over-mask : (w f m : ℕ) → f ≡ 2 ^ w - 1 → f < m → 2 ^ w ≤ m
over-mask w f m e h = omega (arith, pow_pos w)

pub under-mask : (w f m : ℕ) → f ≡ 2 ^ w - 1 → m ≤ f → m < 2 ^ w
under-mask w f m e h = omega (arith, pow_pos w)
