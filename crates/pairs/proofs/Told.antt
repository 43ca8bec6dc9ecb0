-- What one test of a pair says of its verdict: of lists of unequal length, of a state row named before, and of a locked one. Assumes nothing.
use mathlib.Core.Path.{◌≡◌, refl, sym, ap, ◌∙◌}
use mathlib.Core.Bool.{Bool, true, false, not, ◌||◌, or_comm}
use mathlib.Core.List.{List}
use mathlib.Core.Logic.{◌≢◌}
use Prim.Native.Nat.{ℕ, zero, suc, ◌≤◌, ◌<◌}
use native.Mathlib.Numerals.{add-one}
use native.Mathlib.Omega.{arith}
use lib.ListN.{get_or, length, take}
use lib.Dec.{eqb}
use borrow.Author.Tests.{eq-eqb, ne_eqb, lt-leb}
use Rattle.std.specs.Prelude.{nat_eq}
use Rattle.std.specs.List.{list_any}
use Rattle.std.proofs.lemmas.List.Folds.{list_any_more}
use Rattle.bits.specs.Below.{some_below}
use Rattle.bits.proofs.Below.{some_below-true}
use Rattle.checks.specs.declared.table.Table.{Table as TableLent}
use Rattle.checks.specs.Check.{refused, placed}
use Rattle.checks.specs.Table.{Table}
use Rattle.checks.specs.Model.{in_table, judged}
use Rattle.checks.proofs.Verdicts.{hits, skips}
use Rattle.rounds.specs.Settle.{state_twice, pair_faults, each_pair_checks, pair_checks}

-- ---- the two lists

pub uneven_refused : (t : Table) (ss ns : List ℕ) → length ns ≢ length ss → judged (pair_checks t ss ns) ≡ refused 20 0
unfolding pair_checks
uneven_refused t ss ns d = hits _ _ (ap not (ne_eqb _ _ d))

pub even_checked : (t : Table) (ss ns : List ℕ) → length ns ≡ length ss → judged (pair_checks t ss ns) ≡ judged (each_pair_checks t ss ns)
unfolding pair_checks
even_checked t ss ns e = skips _ _ (ap not (eq-eqb _ _ e))

-- ---- one pair

-- a test of the first n of a list, and of the places below n
some-of-first : (p : ℕ → Bool) (xs : List ℕ) (n : ℕ) → n ≤ length xs → list_any p (take n xs) ≡ some_below n (λ j. p (get_or xs j 0))
unfolding some_below
some-of-first p xs zero h = refl
some-of-first p xs (suc n) h =
    ap (λ (m : ℕ). list_any p (take m xs)) (sym (add-one n))
    ∙ list_any_more p xs n 0 (omega (arith, h))
    ∙ or_comm (list_any p (take n xs)) (p (get_or xs n 0))
    ∙ ap (λ (b : Bool). p (get_or xs n 0) || b) (some-of-first p xs n (omega (arith, h)))

pub named_twice : (ss : List ℕ) (i j : ℕ) → j < i → get_or ss j 0 ≡ get_or ss i 0 → state_twice ss i ≡ true
named_twice ss i j h e = some_below-true i (λ k. eqb (get_or ss k 0) (get_or ss i 0)) j h (eq-eqb _ _ e)

pub named_among : (ss : List ℕ) (i : ℕ) (r : Bool) → i < length ss → r ≡ list_any (λ y. nat_eq y (get_or ss i 0)) (take i ss) → r ≡ state_twice ss i
named_among ss i r h e = e ∙ some-of-first (λ y. nat_eq y (get_or ss i 0)) ss i (omega (arith, h))

pub locked_refused :
    (t : TableLent) (ss ns : List ℕ) (i : ℕ) → get_or ss i 0 < length t.width.now → get_or ns i 0 < length t.width.now
    → get_or t.width.now (get_or ss i 0) 0 ≡ get_or t.width.now (get_or ns i 0) 0 → state_twice ss i ≡ false → get_or t.lock.now (get_or ss i 0) 0 ≡ 1
    → judged (placed 0 (pair_faults (in_table t) ss ns i)) ≡ refused 20 0
locked_refused t ss ns i h g w d l =
    skips _ _ (lt-leb _ _ h)
    ∙ skips _ _ (lt-leb _ _ g)
    ∙ skips _ _ (ap not (eq-eqb _ _ w))
    ∙ skips _ _ d
    ∙ hits _ _ (eq-eqb _ _ l)
