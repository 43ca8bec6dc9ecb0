-- The numbers of the refusals that a list of checks can cause. Assumes nothing.
--   numbered q cs   the number of each check of the list passes the test q
use mathlib.Core.Path.{◌≡◌, sym, ap, subst}
use mathlib.Core.Bool.{Bool, true, false, cond, ◌&&◌}
use mathlib.Core.List.{List, [], ◌∷◌, ◌++◌}
use Prim.Native.Nat.{ℕ, zero, suc}
use lib.Dec.{T}
use Rattle.bits.specs.Counted.{rising}
use Rattle.bits.proofs.Bools.{T_and, T-left, T-right}
use Rattle.checks.specs.Check.{refused, Check, verdict}
use Rattle.checks.proofs.Verdicts.{number_of, not_done}

abbrev pub numbered : (ℕ → Bool) → List Check → Bool
numbered q [] = true
numbered q (c ∷ cs) = q c.number && numbered q cs

pub numbered-append : (q : ℕ → Bool) (cs ds : List Check) → T (numbered q cs) → T (numbered q ds) → T (numbered q (cs ++ ds))
numbered-append q [] ds p r = r
numbered-append q (c ∷ cs) ds p r =
    let b = q c.number in
    T_and b (numbered q (cs ++ ds)) (T-left b (numbered q cs) p) (numbered-append q cs ds (T-right b (numbered q cs) p) r)

pub numbered-rising : (q : ℕ → Bool) (f : ℕ → List Check) → ((i : ℕ) → T (numbered q (f i))) → (i n : ℕ) → T (numbered q (rising f i n))
unfolding rising
numbered-rising q f p i zero = tt
numbered-rising q f p i (suc n) = numbered-append q (f i) (rising f (suc i) n) (p i) (numbered-rising q f p (suc i) n)

pub refused-number : {A : Type 0} (q : ℕ → Bool) (cs : List Check) (a : A) (n i : ℕ) → T (numbered q cs) → verdict cs a ≡ refused n i → T (q n)
unfolding verdict
refused-number q [] a n i p e = absurd (not_done n i a (sym e))
refused-number {A} q (c ∷ cs) a n i p e = go c.fails e (refused-number q cs a n i (T-right (q c.number) (numbered q cs) p))
  where
    go : (f : Bool) → cond f (refused c.number c.place) (verdict cs a) ≡ refused n i → (verdict cs a ≡ refused n i → T (q n)) → T (q n)
    go true u k = subst (λ (x : ℕ). T (q x)) (ap number_of u) (T-left (q c.number) (numbered q cs) p)
    go false u k = k u
