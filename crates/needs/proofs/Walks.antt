-- Request 13 over lists of effects, once for vectors and for plain numbers: the records that stay are what the needed rows rest on. Assumes nothing.
--   Agree at need s t   the states s and t agree on the needed rows
use mathlib.Core.Path.{◌≡◌, refl, sym, ap, ap₂, ◌∙◌, subst}
use mathlib.Core.Bool.{Bool, not, ◌&&◌}
use mathlib.Core.Logic.{◌≢◌, inl, inr}
use mathlib.Core.List.{List, [], ◌∷◌, ◌++◌, map}
use Prim.Native.Nat.{ℕ, zero, suc, ◌≤◌, ◌<◌}
use native.Mathlib.Omega.{arith}
use lib.Dec.{T, T_not, eqb, eqb→eq, eqb_refl}
use lib.ListN.{length, get_or, length-append, get_or-append}
use lib.Seq.{get_or-append_seam}
use Rattle.bits.proofs.Bools.{T_and, T-inl, T-inr, T-or, T-cases, eq→eqb, by_cond}
use Rattle.vectors.specs.Lists.{All, some_of}
use Rattle.vectors.proofs.Lists.{all-imp, none-all}
use Rattle.vectors.proofs.ListParts.{all_append}
use Rattle.operations.specs.Record.{Effect}
use Rattle.needs.specs.Needs.{among}
use Rattle.needs.specs.Effects.{stays_by, written_by, read_by, need_by, kept_by}

-- ---- the tests mean what they say

not_written : (es : List Effect) (i : ℕ) → T (not (written_by es i)) → All (λ e. e.target ≢ i) es
not_written es i t = all-imp (λ e d p. T_not (eqb e.target i) d (eq→eqb p)) es (none-all (λ e. eqb e.target i) es t)

not-staying : (es : List Effect) (need : ℕ → Bool) (i : ℕ) → T (not (stays_by es need)) → T (need i) → All (λ e. e.target ≢ i) es
unfolding stays_by
not-staying es need i t n = all-imp (λ e d p. T_not (need e.target) d (subst (λ (j : ℕ). T (need j)) (sym p) n)) es (none-all (λ e. need e.target) es t)

map-agree : {A : Type 0} (g h : ℕ → A) (is : List ℕ) → ((i : ℕ) → T (among i is) → g i ≡ h i) → map g is ≡ map h is
unfolding some_of
map-agree g h [] e = refl
map-agree {A} g h (i ∷ is) e = ap₂ (λ (x : A) (l : List A). x ∷ l) (e i (T-inl (eqb i i) (among i is) (eqb_refl i))) (map-agree g h is (λ j t. e j (T-inr (eqb i j) (among j is) t)))

-- ---- what rows rest on

abbrev pub Agree : {S A : Type 0} → (S → ℕ → A) → (ℕ → Bool) → S → S → Type 0
Agree at need s t = (i : ℕ) → T (need i) → at s i ≡ at t i

-- What is shown holds of every way to carry effects out on states of rows: `at s i` is row i of s, `act es` carries out a record,
-- which changes no other row than its targets, and puts into each target what `new` gives of the operand rows before it.
module _ {S A : Type 0} (at : S → ℕ → A) (act : List Effect → S → S) (new : Effect → List A → A) (Good : S → Type 0) (Fits : List Effect → Type 0)
    (act-good : (es : List Effect) (s : S) → Good s → Good (act es s))
    (others : (es : List Effect) (s : S) (i : ℕ) → All (λ e. e.target ≢ i) es → at (act es s) i ≡ at s i)
    (targets : (es : List Effect) → Fits es → (s : S) → Good s → All (λ e. at (act es s) e.target ≡ new e (map (at s) e.operands)) es) where
  -- a needed row that the effects fs of a record write
  target-agrees : (es fs : List Effect) (need : ℕ → Bool) (s t : S) (i : ℕ) → T (need i) → ((j : ℕ) → T (read_by fs need j) → at s j ≡ at t j)
      → All (λ e. at (act es s) e.target ≡ new e (map (at s) e.operands)) fs
      → All (λ e. at (act es t) e.target ≡ new e (map (at t) e.operands)) fs
      → T (written_by fs i) → at (act es s) i ≡ at (act es t) i
  unfolding some_of
  target-agrees es [] need s t i n B p q w = absurd w
  target-agrees es (e ∷ fs) need s t i n B p q w =
      elim (T-or (eqb e.target i) (written_by fs i) w) [
        | inl v ↦
            let m : e.target ≡ i = eqb→eq e.target i v in
            let same : map (at s) e.operands ≡ map (at t) e.operands = map-agree (at s) (at t) e.operands (λ j r.
            B j (T-inl (need e.target && among j e.operands) (read_by fs need j) (T_and (need e.target) (among j e.operands) (subst (λ (k : ℕ). T (need k)) (sym m) n) r))) in
            subst (λ (k : ℕ). at (act es s) k ≡ at (act es t) k) m (p.0 ∙ ap (new e) same ∙ sym q.0)
        | inr v ↦ target-agrees es fs need s t i n (λ j r. B j (T-inr (need e.target && among j e.operands) (read_by fs need j) r)) p.1 q.1 v
      ]

  -- a record that stays
  kept-agrees : (es : List Effect) → Fits es → (need : ℕ → Bool) (s t : S) → Good s → Good t → Agree at (need_by es need) s t → Agree at need (act es s) (act es t)
  unfolding need_by
  kept-agrees es F need s t G H B i n =
      T-cases (written_by es i)
      (λ w. target-agrees es es need s t i n (λ j r. B j (T-inl (read_by es need j) (need j && not (written_by es j)) r)) (targets es F s G) (targets es F t H) w)
      (λ w.
      others es s i (not_written es i w)
      ∙ B i (T-inr (read_by es need i) (need i && not (written_by es i)) (T_and (need i) (not (written_by es i)) n w))
      ∙ sym (others es t i (not_written es i w)))

  -- a record that goes
  gone-agrees : (es : List Effect) (need : ℕ → Bool) (s t : S) → T (not (stays_by es need)) → Agree at need s t → Agree at need s (act es t)
  gone-agrees es need s t g B i n = B i n ∙ sym (others es t i (not-staying es need i g n))

  -- ---- the run of all records, with the effects `old`, and the run of those that stay, with the effects `new-effects`

  module _ (old short : ℕ → List Effect) (run-old run_short : ℕ → S → S)
      (old-zero : (s : S) → run-old 0 s ≡ s) (old-suc : (n : ℕ) (s : S) → run-old (suc n) s ≡ act (old n) (run-old n s))
      (short-zero : (s : S) → run_short 0 s ≡ s) (short-suc : (n : ℕ) (s : S) → run_short (suc n) s ≡ act (short n) (run_short n s)) where
    old-good : (n : ℕ) (s : S) → Good s → Good (run-old n s)
    old-good zero s G = subst Good (sym (old-zero s)) G
    old-good (suc n) s G = subst Good (sym (old-suc n s)) (act-good (old n) (run-old n s) (old-good n s G))

    short-good : (n : ℕ) (s : S) → Good s → Good (run_short n s)
    short-good zero s G = subst Good (sym (short-zero s)) G
    short-good (suc n) s G = subst Good (sym (short-suc n s)) (act-good (short n) (run_short n s) (short-good n s G))

    -- the short run has these records of the old one
    abbrev Has : List ℕ → Type 0
    Has is = (j : ℕ) → j < length is → short j ≡ old (get_or is j 0)

    has-front : (is : List ℕ) (n : ℕ) → Has (is ++ n ∷ []) → Has is
    has-front is n H j h = H j (let e = length-append is (n ∷ []) in omega arith) ∙ ap old (get_or-append is (n ∷ []) 0 j h)

    has_last : (is : List ℕ) (n : ℕ) → Has (is ++ n ∷ []) → short (length is) ≡ old n
    has_last is n H = H (length is) (let e = length-append is (n ∷ []) in omega arith) ∙ ap old (get_or-append_seam is n [] 0)

    one_more : (is : List ℕ) (n : ℕ) → length (is ++ n ∷ []) ≡ suc (length is)
    one_more is n = let e = length-append is (n ∷ []) in omega arith

    pub kept_run : (n : ℕ) → ((i : ℕ) → i < n → Fits (old i)) → (need : ℕ → Bool) (s : S) → Good s → Has (kept_by old n need)
        → Agree at need (run_short (length (kept_by old n need)) s) (run-old n s)
    unfolding kept_by
    kept_run zero F need s G = λ H i n. ap (λ (u : S). at u i) (short-zero s ∙ sym (old-zero s))
    kept_run (suc n) F need s G =
        by_cond (λ is. Has is → Agree at need (run_short (length is) s) (run-old (suc n) s)) (stays_by (old n) need) (kept_by old n (need_by (old n) need) ++ n ∷ []) (kept_by old n need)
        (λ y H i h.
        let is = kept_by old n (need_by (old n) need) in
        let before = kept_run n (λ j l. F j (omega arith)) (need_by (old n) need) s G (has-front is n H) in
        ap (λ (m : ℕ). at (run_short m s) i) (one_more is n)
        ∙ ap (λ (u : S). at u i) (short-suc (length is) s)
        ∙ ap (λ (es : List Effect). at (act es (run_short (length is) s)) i) (has_last is n H)
        ∙ kept-agrees (old n) (F n (omega arith)) need (run_short (length is) s) (run-old n s) (short-good (length is) s G) (old-good n s G) before i h
        ∙ sym (ap (λ (u : S). at u i) (old-suc n s)))
        (λ g H i h.
        gone-agrees (old n) need (run_short (length (kept_by old n need)) s) (run-old n s) g (kept_run n (λ j l. F j (omega arith)) need s G H) i h
        ∙ sym (ap (λ (u : S). at u i) (old-suc n s)))

-- ---- which records stay

-- they are among those visited
pub kept-below : (effects : ℕ → List Effect) (n : ℕ) (need : ℕ → Bool) (m : ℕ) → n ≤ m → All (λ i. i < m) (kept_by effects n need)
unfolding kept_by
kept-below effects zero need m h = tt
kept-below effects (suc n) need m h =
    by_cond (All (λ i. i < m)) (stays_by (effects n) need) (kept_by effects n (need_by (effects n) need) ++ n ∷ []) (kept_by effects n need)
    (λ y. all_append (λ i. i < m) (kept_by effects n (need_by (effects n) need)) (n ∷ []) (kept-below effects n (need_by (effects n) need) m (omega arith)) (omega arith, tt))
    (λ g. kept-below effects n need m (omega arith))

-- and no more than those
pub kept-fewer : (effects : ℕ → List Effect) (n : ℕ) (need : ℕ → Bool) → length (kept_by effects n need) ≤ n
unfolding kept_by
kept-fewer effects zero need = omega arith
kept-fewer effects (suc n) need =
    by_cond (λ is. length is ≤ suc n) (stays_by (effects n) need) (kept_by effects n (need_by (effects n) need) ++ n ∷ []) (kept_by effects n need)
    (λ y. let e = length-append (kept_by effects n (need_by (effects n) need)) (n ∷ []) in let f = kept-fewer effects n (need_by (effects n) need) in omega arith)
    (λ g. let f = kept-fewer effects n need in omega arith)
