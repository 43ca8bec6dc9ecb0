-- Cutting at a byte and joining with it undo each other. Assumes nothing.
--   pieces-cut, pieces_whole, pieces-joined   the pieces of bytes that were joined
--   joined-pieces                             the pieces of bytes, joined
--   before-le, pieces-first, pieces-last      the first piece and those after it
use mathlib.Core.Path.{◌≡◌, refl, sym, ap, ap₂, ◌∙◌, subst}
use mathlib.Core.Bool.{Bool, true, false, not, cond}
use mathlib.Core.Logic.{◌⊎◌, inl, inr}
use mathlib.Core.List.{List, [], ◌∷◌, ◌++◌}
use Prim.Native.Nat.{ℕ, zero, suc, ◌+◌, ◌≤◌, ◌<◌}
use native.Mathlib.Omega.{arith}
use lib.Dec.{T, eqb, eqb→eq, eqb_refl}
use lib.ListN.{length, take, drop}
use Rattle.bits.proofs.Bools.{T-left, T-right, T_and, eq→eqb, when_true, when_false, by_cond}
use Rattle.vectors.specs.Lists.{all_of}
use Rattle.grammar.specs.Print.{joined}
use Rattle.grammar.specs.Cut.{onto, pieces, before}
use Rattle.grammar.proofs.Tests.{decide, ne→neqb, all_of-append}

-- the byte c does not stand in the list
abbrev pub without : ℕ → List ℕ → Bool
without c l = all_of (λ b. not (eqb b c)) l

pub pieces-cut : (c : ℕ) (x y : List ℕ) → T (without c x) → pieces c (x ++ c ∷ y) ≡ x ∷ pieces c y
unfolding pieces all_of
pieces-cut c [] y t = when_true (eqb c c) ([] ∷ pieces c y) (onto c (pieces c y)) (eqb_refl c)
pieces-cut c (b ∷ x) y t =
    when_false (eqb b c) ([] ∷ pieces c (x ++ c ∷ y)) (onto b (pieces c (x ++ c ∷ y))) (T-left (not (eqb b c)) (without c x) t)
    ∙ ap (onto b) (pieces-cut c x y (T-right (not (eqb b c)) (without c x) t))

pub pieces_whole : (c : ℕ) (x : List ℕ) → T (without c x) → pieces c x ≡ x ∷ []
unfolding pieces all_of
pieces_whole c [] t = refl
pieces_whole c (b ∷ x) t =
    when_false (eqb b c) ([] ∷ pieces c x) (onto b (pieces c x)) (T-left (not (eqb b c)) (without c x) t)
    ∙ ap (onto b) (pieces_whole c x (T-right (not (eqb b c)) (without c x) t))

pub pieces-joined : (c : ℕ) (p : List ℕ) (ps : List (List ℕ)) → T (all_of (without c) (p ∷ ps)) → pieces c (joined c (p ∷ ps)) ≡ p ∷ ps
unfolding joined all_of
pieces-joined c p [] t = pieces_whole c p (T-left (without c p) true t)
pieces-joined c p (q ∷ ps) t =
    pieces-cut c p (joined c (q ∷ ps)) (T-left (without c p) (all_of (without c) (q ∷ ps)) t)
    ∙ ap {B = List (List ℕ)} (λ (l : List (List ℕ)). p ∷ l) (pieces-joined c q ps (T-right (without c p) (all_of (without c) (q ∷ ps)) t))

-- there is always a first piece
first : (c : ℕ) (bs : List ℕ) → (q : List ℕ) × (qs : List (List ℕ)) × (pieces c bs ≡ q ∷ qs)
unfolding pieces
first c [] = ([], [], refl)
first c (b ∷ bs) = go (eqb b c) (first c bs)
  where
    go : (t : Bool) → (q : List ℕ) × (qs : List (List ℕ)) × (pieces c bs ≡ q ∷ qs)
        → (q : List ℕ) × (qs : List (List ℕ)) × (cond t ([] ∷ pieces c bs) (onto b (pieces c bs)) ≡ q ∷ qs)
    go true h = ([], pieces c bs, refl)
    go false h = (b ∷ h.0, h.1, ap (onto b) h.2)

-- so what holds of every list with a first element holds of the pieces
pub by_first : (P : List (List ℕ) → Type 0) → ((q : List ℕ) (qs : List (List ℕ)) → P (q ∷ qs)) → (c : ℕ) (bs : List ℕ) → P (pieces c bs)
by_first P f c bs = let h = first c bs in subst P (sym h.2) (f h.0 h.1)

joined-onto : (c b : ℕ) (ps : List (List ℕ)) → joined c (onto b ps) ≡ b ∷ joined c ps
unfolding joined
joined-onto c b [] = refl
joined-onto c b (p ∷ []) = refl
joined-onto c b (p ∷ q ∷ ps) = refl

pub joined-pieces : (c : ℕ) (bs : List ℕ) → joined c (pieces c bs) ≡ bs
unfolding pieces joined
joined-pieces c [] = refl
joined-pieces c (b ∷ bs) = go (decide (eqb b c)) (joined-pieces c bs)
  where
    new : joined c ([] ∷ pieces c bs) ≡ c ∷ joined c (pieces c bs)
    new = by_first (λ (l : List (List ℕ)). joined c ([] ∷ l) ≡ c ∷ joined c l) (λ q qs. refl) c bs

    go : T (eqb b c) ⊎ T (not (eqb b c)) → joined c (pieces c bs) ≡ bs → joined c (pieces c (b ∷ bs)) ≡ b ∷ bs
    go (inl t) h = ap (joined c) (when_true (eqb b c) ([] ∷ pieces c bs) (onto b (pieces c bs)) t) ∙ new ∙ ap₂ {C = List ℕ} ◌∷◌ (sym (eqb→eq b c t)) h
    go (inr t) h = ap (joined c) (when_false (eqb b c) ([] ∷ pieces c bs) (onto b (pieces c bs)) t) ∙ joined-onto c b (pieces c bs) ∙ ap {B = List ℕ} (λ (l : List ℕ). b ∷ l) h

-- a test of every byte of the parts and of the byte between
pub all-joined : (p : ℕ → Bool) (c : ℕ) → T (p c) → (ps : List (List ℕ)) → T (all_of (all_of p) ps) → T (all_of p (joined c ps))
unfolding joined all_of
all-joined p c u [] t = tt
all-joined p c u (f ∷ []) t = T-left (all_of p f) true t
all-joined p c u (f ∷ g ∷ ps) t =
    all_of-append p f (c ∷ joined c (g ∷ ps)) (T-left (all_of p f) (all_of (all_of p) (g ∷ ps)) t)
    (T_and (p c) (all_of p (joined c (g ∷ ps))) u (all-joined p c u (g ∷ ps) (T-right (all_of p f) (all_of (all_of p) (g ∷ ps)) t)))

-- ---- the first piece, and the pieces after it

pub before_here : (c b : ℕ) (bs : List ℕ) → b ≡ c → before c (b ∷ bs) ≡ 0
unfolding before
before_here c b bs e = when_true (eqb b c) zero (suc (before c bs)) (eq→eqb e)

pub before-later : (c b : ℕ) (bs : List ℕ) → (b ≡ c → ⊥) → before c (b ∷ bs) ≡ suc (before c bs)
unfolding before
before-later c b bs e = when_false (eqb b c) zero (suc (before c bs)) (ne→neqb b c e)

pub before-le : (c : ℕ) (bs : List ℕ) → before c bs ≤ length bs
unfolding before
before-le c [] = omega arith
before-le c (b ∷ bs) = by_cond (λ (x : ℕ). x ≤ suc (length bs)) (eqb b c) zero (suc (before c bs)) (λ t. omega arith) (λ t. omega (arith, before-le c bs))

pub pieces-first : (c : ℕ) (bs : List ℕ) → before c bs < length bs → pieces c bs ≡ take (before c bs) bs ∷ pieces c (drop (suc (before c bs)) bs)
unfolding pieces before
pieces-first c [] h = absurd (omega arith)
pieces-first c (b ∷ bs) h = go (eqb b c) h (λ k. pieces-first c bs k)
  where
    go : (t : Bool) → cond t zero (suc (before c bs)) < suc (length bs) → (before c bs < length bs → pieces c bs ≡ take (before c bs) bs ∷ pieces c (drop (suc (before c bs)) bs))
        → cond t ([] ∷ pieces c bs) (onto b (pieces c bs)) ≡ take (cond t zero (suc (before c bs))) (b ∷ bs) ∷ pieces c (drop (suc (cond t zero (suc (before c bs)))) (b ∷ bs))
    go true k r = refl
    go false k r = ap (onto b) (r (omega arith))

pub pieces-last : (c : ℕ) (bs : List ℕ) → before c bs ≡ length bs → pieces c bs ≡ take (before c bs) bs ∷ []
unfolding pieces before
pieces-last c [] h = refl
pieces-last c (b ∷ bs) h = go (eqb b c) h (λ k. pieces-last c bs k)
  where
    go : (t : Bool) → cond t zero (suc (before c bs)) ≡ suc (length bs) → (before c bs ≡ length bs → pieces c bs ≡ take (before c bs) bs ∷ [])
        → cond t ([] ∷ pieces c bs) (onto b (pieces c bs)) ≡ take (cond t zero (suc (before c bs))) (b ∷ bs) ∷ []
    go true k r = absurd (omega arith)
    go false k r = ap (onto b) (r (omega arith))
