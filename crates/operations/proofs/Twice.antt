-- One row named twice: it stands twice among the rows named, and with the row once and its number again the numbers are those of the rows named. Assumes nothing.
--   starts_twice l   the first two elements of l are there, and are one
use mathlib.Core.Path.{◌≡◌, refl, sym, ap, subst}
use mathlib.Core.Bool.{Bool, true, false}
use mathlib.Core.List.{List, [], ◌∷◌, map}
use Prim.Native.Nat.{ℕ, ◌^◌, ◌<◌}
use lib.Dec.{T, eqb, eqb→eq}
use Rattle.bits.proofs.Bools.{T-left, T-right}
use Rattle.vectors.specs.Lists.{All}
use Rattle.operations.specs.Kind.{as_row, Kind}
use Rattle.operations.specs.Kinds.{is_kind}
use Rattle.operations.specs.Record.{kind_word, kind_in, first_word, second_word, used, used_last, operands, named_twice, once, again}
use Rattle.operations.specs.Result.{Below}
use Rattle.operations.proofs.Sound.{first-is-row, second-is-row}

abbrev pub starts_twice : List ℕ → Bool
starts_twice [] = false
starts_twice (a ∷ []) = false
starts_twice (a ∷ b ∷ l) = eqb a b

both-rows : {A : Type 0} (k : Kind) (a b : A) (cs : List A) → k.use_a ≡ as_row → k.use_b ≡ as_row → operands k a b cs ≡ a ∷ b ∷ used_last k.use_c cs
both-rows k a b cs e d = λ ι. used (e ι) a (used (d ι) b (used_last k.use_c cs))

-- whatever rows the sixth word names
pub named-starts : (words : List ℕ) → T (is_kind (kind_word words)) → T (named_twice words) → (cs : List ℕ)
    → T (starts_twice (operands (kind_in words) (first_word words) (second_word words) cs))
unfolding named_twice
named-starts words h t cs =
    let k = kind_in words in
    let b = second-is-row (kind_word words) h (T-left k.correlated (eqb (first_word words) (second_word words)) t) in
    subst (λ (l : List ℕ). T (starts_twice l)) (sym (both-rows k (first_word words) (second_word words) cs (first-is-row (kind_word words) h) b))
    (T-right k.correlated (eqb (first_word words) (second_word words)) t)

-- "a row named twice gives its one number twice"
pub again-once : (b : Bool) (f : ℕ → ℕ) (l : List ℕ) → (T b → T (starts_twice l)) → again b (map f (once b l)) ≡ map f l
again-once false f l h = refl
again-once true f [] h = absurd (h tt)
again-once true f (x ∷ []) h = absurd (h tt)
again-once true f (x ∷ y ∷ l) h = ap (λ (z : ℕ). f x ∷ f z ∷ map f l) (eqb→eq x y (h tt))

pub again-below : (b : Bool) (f : ℕ → ℕ) (l ns : List ℕ) → (T b → T (starts_twice l)) → Below (map f (once b l)) ns → Below (map f l) (again b ns)
again-below false f l ns h c = c
again-below true f [] ns h c = absurd (h tt)
again-below true f (x ∷ []) ns h c = absurd (h tt)
again-below true f (x ∷ y ∷ l) [] h c = absurd c
again-below true f (x ∷ y ∷ l) (n ∷ ns) h c = (c.0, (subst (λ (z : ℕ). n < 2 ^ f z) (eqb→eq x y (h tt)) c.0, c.1))

pub once-all : (b : Bool) (P : ℕ → Type 0) (l : List ℕ) → All P l → All P (once b l)
once-all false P l e = e
once-all true P [] e = e
once-all true P (x ∷ []) e = e
once-all true P (x ∷ y ∷ l) e = (e.0, e.1.1)

pub once-map : {A B : Type 0} (b : Bool) (f : A → B) (l : List A) → map f (once b l) ≡ once b (map f l)
once-map false f l = refl
once-map true f [] = refl
once-map true f (x ∷ []) = refl
once-map true f (x ∷ y ∷ l) = refl
