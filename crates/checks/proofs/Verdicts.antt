-- The first check that holds decides: laws of check lists. Assumes nothing.
use mathlib.Core.Path.{◌≡◌, refl, sym, ap, ◌∙◌}
use mathlib.Core.Bool.{Bool, true, false, not, cond}
use mathlib.Core.List.{List, [], ◌∷◌, ◌++◌, append-nil}
use Prim.Native.Nat.{ℕ, ◌<◌}
use native.Mathlib.Omega.{arith}
use lib.Dec.{T}
use Rattle.bits.specs.Counted.{rising}
use Rattle.vectors.proofs.ListParts.{all_append, all_left, all_right, rising-all, all-rising}
use Rattle.checks.specs.Check.{Answer, done, refused, Check, verdict, Passed}
use Rattle.checks.specs.Model.{judged}

-- what a list's entry must be to have passed
abbrev Clears : Check → Type 0
Clears c = T (not c.fails)

pub passed-append : (cs ds : List Check) → Passed cs → Passed ds → Passed (cs ++ ds)
passed-append = all_append Clears

pub passed-left : (cs ds : List Check) → Passed (cs ++ ds) → Passed cs
passed-left = all_left Clears

pub passed-right : (cs ds : List Check) → Passed (cs ++ ds) → Passed ds
passed-right = all_right Clears

pub rising-intro : (f : ℕ → List Check) (n : ℕ) → ((j : ℕ) → j < n → Passed (f j)) → Passed (rising f 0 n)
rising-intro f n h = rising-all Clears f 0 n (λ j l. h j (omega arith))

pub rising-elim : (f : ℕ → List Check) (n : ℕ) → Passed (rising f 0 n) → (j : ℕ) → j < n → Passed (f j)
rising-elim f n p j l = all-rising Clears f 0 n p j (omega arith) (omega arith)

-- ---- the verdict

-- the first condition decides, or leaves the verdict to the rest; the last one ends it
pub hits : (c : Check) (cs : List Check) → c.fails ≡ true → judged (c ∷ cs) ≡ refused c.number c.place
unfolding verdict
hits c cs e = rw e refl

pub skips : (c : Check) (cs : List Check) → c.fails ≡ false → judged (c ∷ cs) ≡ judged cs
unfolding verdict
skips c cs e = rw e refl

pub clears : (c : Check) → c.fails ≡ false → judged (c ∷ []) ≡ done tt
unfolding verdict
clears c e = rw e refl

-- a condition that does not hold leaves the verdict to the rest
passes : {A : Type 0} (b : Bool) (r rest : Answer A) → T (not b) → cond b r rest ≡ rest
passes true r rest t = absurd t
passes false r rest t = refl

pub done-of-passed : {A : Type 0} (cs : List Check) (a : A) → Passed cs → verdict cs a ≡ done a
unfolding verdict
done-of-passed [] a p = refl
done-of-passed {A} (c ∷ cs) a p = passes c.fails (refused c.number c.place) (verdict cs a) p.0 ∙ done-of-passed cs a p.1

pub passed-of-done : {A : Type 0} (cs : List Check) (a b : A) → verdict cs a ≡ done b → Passed cs
unfolding verdict
passed-of-done [] a b e = tt
passed-of-done (c ∷ cs) a b e = go c.fails e (passed-of-done cs a b)
  where
    go : (f : Bool) → cond f (refused c.number c.place) (verdict cs a) ≡ done b → (verdict cs a ≡ done b → Passed cs) → T (not f) × Passed cs
    go true u k = let z : ◌≡◌ {A = ℕ} 0 1 = cc in absurd (omega arith)
    go false u k = (tt, k u)

-- checks that passed leave the verdict to those after them
pub verdict-passed : {A : Type 0} (cs ds : List Check) (a : A) → Passed cs → verdict (cs ++ ds) a ≡ verdict ds a
unfolding verdict
verdict-passed [] ds a p = refl
verdict-passed (c ∷ cs) ds a p = passes c.fails (refused c.number c.place) (verdict (cs ++ ds) a) p.0 ∙ verdict-passed cs ds a p.1

-- the number that an answer refuses with
abbrev pub number_of : {A : Type 0} → Answer A → ℕ
number_of (done a) = 0
number_of (refused n i) = n

-- a refusal stands, whatever checks come after it and whatever the answer would have been
pub verdict-refused : {A B : Type 0} (cs ds : List Check) (a : A) (b : B) (n i : ℕ) → verdict cs a ≡ refused n i → verdict (cs ++ ds) b ≡ refused n i
unfolding verdict
verdict-refused [] ds a b n i e = let z : ◌≡◌ {A = ℕ} 0 1 = cc in absurd (omega arith)
verdict-refused {A} {B} (c ∷ cs) ds a b n i e = go c.fails e (verdict-refused cs ds a b n i)
  where
    place_of : {C : Type 0} → Answer C → ℕ
    place_of (done x) = 0
    place_of (refused m j) = j

    go : (f : Bool) → cond f (refused c.number c.place) (verdict cs a) ≡ refused n i
        → (verdict cs a ≡ refused n i → verdict (cs ++ ds) b ≡ refused n i) → cond f (refused c.number c.place) (verdict (cs ++ ds) b) ≡ refused n i
    go true u k = λ ι. refused (ap number_of u ι) (ap place_of u ι)
    go false u k = k u

-- a refusal does not depend on what the answer would have been
pub refused-any : {A B : Type 0} (cs : List Check) (a : A) (b : B) (n i : ℕ) → verdict cs a ≡ refused n i → verdict cs b ≡ refused n i
refused-any cs a b n i e = ap (λ (l : List Check). verdict l b) (sym (append-nil cs)) ∙ verdict-refused cs [] a b n i e

-- ---- an answer is a result or a refusal

pub done-same : {A : Type 0} (a b : A) → done a ≡ done b → a ≡ b
done-same {A} a b e = ap result e
  where
    result : Answer A → A
    result (done x) = x
    result (refused n i) = a

pub not_done : {A : Type 0} (n i : ℕ) (a : A) → refused n i ≡ done a → ⊥
not_done n i a e = let z : ◌≡◌ {A = ℕ} 0 1 = cc in omega arith
