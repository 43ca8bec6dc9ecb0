-- Answers and refusals (01, "Calls" and "Who can cause a refusal").
--   Answer A        the result, or a refusal holding its number and its place
--   Leaves L        an answer, and what the call leaves in the slices that it may write;   leaving a lent new   the answer a, which leaves `new`, or after a refusal what was lent
--   Check           a condition, and the number and place of the refusal that it causes
--   verdict cs a    the first check whose condition holds refuses; where none holds the answer is a
--   placed i fs     faults as checks with the place i
--   Passed cs       no condition of cs holds
use Rattle.std.specs.Prelude.{Bool, not, cond, List, [], ◌∷◌, map, ℕ, T}
use Rattle.vectors.specs.Lists.{All}
use Rattle.operations.specs.Faults.{Fault}

pub data Answer (A : Type 0) : Type 0 where
  done : A → Answer A
  refused : ℕ → ℕ → Answer A

pub record Leaves (L : Type 0) : Type 0 where
  pub answer : Answer ℕ
  pub left : L

-- a refusal leaves what was lent
abbrev pub leaving : {L : Type 0} → Answer ℕ → L → L → Leaves L
leaving (done n) lent new = record { answer = done n; left = new }
leaving (refused number place) lent new = record { answer = refused number place; left = lent }

pub record Check : Type 0 where
  pub fails : Bool
  pub number : ℕ
  pub place : ℕ

-- "A refusal comes whenever its stated condition is the first to hold, and never otherwise."
unfoldable pub verdict : {A : Type 0} → List Check → A → Answer A
verdict [] a = done a
verdict (c ∷ cs) a = cond c.fails (refused c.number c.place) (verdict cs a)

abbrev pub placed : ℕ → List Fault → List Check
placed i fs = map (λ f. record { fails = f.fails; number = f.number; place = i }) fs

abbrev pub Passed : List Check → Type 0
Passed cs = All (λ c. T (not c.fails)) cs
