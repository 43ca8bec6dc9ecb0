-- Rows put, and numbers set, one after another: what they leave. Assumes nothing.
--   FitPut widths i r   r is a well-formed vector of the width of row i
use mathlib.Core.Path.{◌≡◌, refl, sym, ap, ◌∙◌, subst}
use mathlib.Core.Logic.{◌≢◌}
use mathlib.Core.List.{List, [], ◌∷◌, map}
use Prim.Native.Nat.{ℕ, ◌<◌}
use lib.ListN.{length, get_or, set, length-set}
use lib.Seq.{set-get_or, get_or-set_same, get_or-set_other}
use Rattle.vectors.specs.Lists.{All, Distinct}
use Rattle.vectors.specs.Row.{Row, WellFormed, Covers, Inside}
use Rattle.operations.specs.Record.{width_at}
use Rattle.checks.specs.Table.{State, row_at}
use Rattle.steps.specs.Step.{put, put_all, set_all}
use Rattle.steps.specs.States.{StateFits, CoversState, InsideState}
use Rattle.vectors.proofs.Lists.{all-unmap, all-imp}
use Rattle.steps.proofs.Put.{row_same, row_other, fits-put, covers-put, inside-put}

pub record FitPut (widths : List ℕ) (i : ℕ) (r : Row) : Type 0 where
  pub width_is : r.width ≡ width_at widths i
  pub formed : WellFormed r

module _ {A : Type 0} (widths : List ℕ) (t : A → ℕ) (g : A → Row) where
  pub fits_all : (l : List A) → All (λ a. FitPut widths (t a) (g a)) l → (s : State) → StateFits widths s → StateFits widths (put_all t g l s)
  fits_all [] F s S = S
  fits_all (a ∷ l) F s S = fits_all l F.1 (put s (t a) (g a)) (fits-put widths s S (t a) (g a) F.0.width_is F.0.formed)

  pub others-all : (l : List A) (s : State) (i : ℕ) → All (λ a. t a ≢ i) l → row_at widths (put_all t g l s) i ≡ row_at widths s i
  others-all [] s i d = refl
  others-all (a ∷ l) s i d = others-all l (put s (t a) (g a)) i d.1 ∙ row_other widths s (t a) (g a) i (λ p. d.0 (sym p))

  pub targets-all : (l : List A) → All (λ a. FitPut widths (t a) (g a)) l → All (λ a. t a < length widths) l → Distinct (map t l) → (s : State) → StateFits widths s → All (λ a. row_at widths (put_all t g l s) (t a) ≡ g a) l
  targets-all [] F N D s S = tt
  targets-all (a ∷ l) F N D s S = (
    others-all l (put s (t a) (g a)) (t a) (all-unmap (λ i. i ≢ t a) t l D.0) ∙ row_same widths s S (t a) (g a) F.0.width_is (t a) refl N.0,
    targets-all l F.1 N.1 D.1 (put s (t a) (g a)) (fits-put widths s S (t a) (g a) F.0.width_is F.0.formed),
  )

  pub covers-all : (h : A → ℕ) (l : List A) → All (λ a. FitPut widths (t a) (g a)) l → All (λ a. Covers (g a) (h a)) l → (s : State) → StateFits widths s → (ns : List ℕ) → CoversState widths s ns
      → CoversState widths (put_all t g l s) (set_all t h l ns)
  covers-all h [] F c s S ns C = C
  covers-all h (a ∷ l) F c s S ns C =
      covers-all h l F.1 c.1 (put s (t a) (g a)) (fits-put widths s S (t a) (g a) F.0.width_is F.0.formed) (set ns (t a) (h a))
      (covers-put widths s S ns C (t a) (g a) (h a) F.0.width_is c.0)

  -- rows put in two states, each inside the other's
  pub inside-all : (g' : A → Row) (l : List A) → All (λ a. FitPut widths (t a) (g a)) l → All (λ a. FitPut widths (t a) (g' a)) l → All (λ a. Inside (g a) (g' a)) l
      → (s s' : State) → StateFits widths s → StateFits widths s' → InsideState widths s s' → InsideState widths (put_all t g l s) (put_all t g' l s')
  inside-all g' [] F F' c s s' S S' I = I
  inside-all g' (a ∷ l) F F' c s s' S S' I =
      inside-all g' l F.1 F'.1 c.1 (put s (t a) (g a)) (put s' (t a) (g' a))
      (fits-put widths s S (t a) (g a) F.0.width_is F.0.formed) (fits-put widths s' S' (t a) (g' a) F'.0.width_is F'.0.formed)
      (inside-put widths s s' S S' I (t a) (g a) (g' a) F.0.width_is F'.0.width_is c.0)

  -- rows put that are there already
  pub same-all : (l : List A) (s : State) → All (λ a. ((g a).mask ≡ get_or s.masks (t a) 0) × ((g a).value ≡ get_or s.values (t a) 0)) l → put_all t g l s ≡ s
  same-all [] s e = refl
  same-all (a ∷ l) s e = ap (put_all t g l) put_same ∙ same-all l s e.1
    where
      put_same : put s (t a) (g a) ≡ s
      put_same =
          λ ι. record {
            masks = (ap (set s.masks (t a)) e.0.0 ∙ set-get_or s.masks (t a) 0) ι;
            values = (ap (set s.values (t a)) e.0.1 ∙ set-get_or s.values (t a) 0) ι;
          }

-- ---- numbers set one after another

module _ {A : Type 0} (t : A → ℕ) (h : A → ℕ) where
  pub numbers-other : (l : List A) (ns : List ℕ) (i : ℕ) → All (λ a. t a ≢ i) l → get_or (set_all t h l ns) i 0 ≡ get_or ns i 0
  numbers-other [] ns i d = refl
  numbers-other (a ∷ l) ns i d = numbers-other l (set ns (t a) (h a)) i d.1 ∙ get_or-set_other ns (t a) i (h a) 0 (λ p. d.0 (sym p))

  pub numbers-length : (l : List A) (ns : List ℕ) → length (set_all t h l ns) ≡ length ns
  numbers-length [] ns = refl
  numbers-length (a ∷ l) ns = numbers-length l (set ns (t a) (h a)) ∙ length-set ns (t a) (h a)

  pub numbers-all : (l : List A) (ns : List ℕ) → All (λ a. t a < length ns) l → Distinct (map t l) → All (λ a. get_or (set_all t h l ns) (t a) 0 ≡ h a) l
  numbers-all [] ns N D = tt
  numbers-all (a ∷ l) ns N D = (
    numbers-other l (set ns (t a) (h a)) (t a) (all-unmap (λ i. i ≢ t a) t l D.0) ∙ get_or-set_same ns (t a) (h a) 0 N.0,
    numbers-all l (set ns (t a) (h a)) (all-imp (λ b n. subst (λ (m : ℕ). t b < m) (sym (length-set ns (t a) (h a))) n) l N.1) D.1,
  )
