-- Laws of lists: of operand rows, and of a part of the words. Assumes nothing.
use mathlib.Core.Path.{◌≡◌, refl, ap, ◌∙◌}
use mathlib.Core.List.{List, [], ◌∷◌, map}
use Prim.Native.Nat.{ℕ, zero, suc, ◌+◌, ◌≤◌}
use native.Mathlib.Omega.{arith}
use lib.ListN.{length, length-map, take, drop}
use lib.Seq.{take-take}
use Rattle.operations.specs.Kind.{Use, as_row, as_number, as_count, as_base, unused, Kind}
use Rattle.operations.specs.Record.{used, used_last, operands}
use Rattle.operations.specs.Result.{arity}

-- a stretch inside a part of a list is that stretch of the list
pub inside-part : (n k m : ℕ) (l : List ℕ) → k + n ≤ m → take n (drop k (take m l)) ≡ take n (drop k l)
inside-part n zero m l h = take-take n m l (omega arith)
inside-part n (suc k) zero l h = absurd (omega arith)
inside-part n (suc k) (suc m) [] h = refl
inside-part n (suc k) (suc m) (a ∷ l) h = inside-part n k m l (omega arith)

with-length : (u : Use) (word word' : ℕ) (l m : List ℕ) → length l ≡ length m → length (used u word l) ≡ length (used u word' m)
with-length as_row word word' l m e = ap suc e
with-length as_number word word' l m e = e
with-length as_count word word' l m e = e
with-length as_base word word' l m e = e
with-length unused word word' l m e = e

last-length : (u : Use) (c : ℕ) → length (used_last u (c ∷ [])) ≡ length (used_last {A = ℕ} u (0 ∷ []))
last-length as_row c = refl
last-length as_number c = refl
last-length as_count c = refl
last-length as_base c = refl
last-length unused c = refl

-- a record names as many operand rows as its kind has
words_count : (k : Kind) (a b c : ℕ) → length (operands k a b (c ∷ [])) ≡ arity k
words_count k a b c = with-length k.use_a a 0 _ _ (with-length k.use_b b 0 _ _ (last-length k.use_c c))

pub operands-count : {A : Type 0} (f : ℕ → A) (k : Kind) (a b c : ℕ) → length (map f (operands k a b (c ∷ []))) ≡ arity k
operands-count f k a b c = length-map (operands k a b (c ∷ [])) f ∙ words_count k a b c
