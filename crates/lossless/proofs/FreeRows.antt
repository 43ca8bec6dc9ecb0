-- Over programs of any length: rows that nothing has read since they were written are free of each other. Assumes nothing.
--   Fresh e j i               after the records with the effects e 0 .. e (j - 1), none has read row i since it was last written, or since the start
--   ReadsFresh e j l          the effect l reads distinct rows, all of them fresh after these records
--   FreeRecords P e first n   the n records from `first` on have one effect each, e 0, e 1, .., which loses nothing and reads distinct fresh rows
--   Free j                    after j records: numbers that the rows cover, however chosen, are what some plain run gives to all fresh rows at once
--   Reached j i m             after j records some plain run has the number m for row i
use mathlib.Core.Path.{◌≡◌, refl, sym, ap, ◌∙◌, subst}
use mathlib.Core.Logic.{◌≢◌, ◌⊎◌, inl, inr}
use mathlib.Core.List.{List, [], ◌∷◌, map, map-map}
use Prim.Native.Nat.{ℕ, zero, suc, ◌+◌, ◌≤◌, ◌<◌}
use native.Mathlib.Decide.{ℕ_discrete}
use native.Mathlib.Omega.{arith}
use lib.ListN.{length, get_or, set}
use lib.Seq.{get_or-set_same, get_or-set_other}
use Rattle.vectors.specs.Lists.{All, Missing, Distinct}
use Rattle.vectors.specs.Row.{Row, WellFormed, Covers}
use Rattle.vectors.specs.Choice.{Chosen}
use Rattle.vectors.proofs.Lists.{all-imp, all_both}
use Rattle.operations.specs.Record.{Effect, width_at}
use Rattle.operations.specs.Result.{widths_of}
use Rattle.checks.specs.Table.{State, row_at}
use Rattle.steps.specs.Step.{operand_rows, operand_numbers, result, Program, after, plain_after}
use Rattle.steps.specs.States.{StateFits, CoversState}
use Rattle.tables.proofs.Fits.{Fit, FitProgram}
use Rattle.steps.proofs.Put.{covers-set}
use Rattle.tables.proofs.Steps.{operands-formed, step-targets, step-others, plain-targets, plain-others}
use Rattle.tables.proofs.Points.{stretch, after-fits}
use Rattle.lossless.specs.Claims.{Precise}
use Rattle.lossless.proofs.Local.{Lossless}
use Rattle.lossless.proofs.Sharps.{Brought}
use Rattle.lossless.proofs.Assign.{values-cover, assign, assign-missing, assign-covers, assign_reads}

abbrev pub Fresh : (ℕ → Effect) → ℕ → ℕ → Type 0
Fresh e zero i = Unit {0}
Fresh e (suc j) i = ((e j).target ≡ i) ⊎ (Missing i (e j).operands × Fresh e j i)

abbrev pub ReadsFresh : (ℕ → Effect) → ℕ → Effect → Type 0
ReadsFresh e j l = Distinct l.operands × All (Fresh e j) l.operands

pub record FreeRecords (P : Program) (e : ℕ → Effect) (first n : ℕ) : Type 0 where
  pub single : (j : ℕ) → j < n → P.effects (first + j) ≡ e j ∷ []
  pub lossless : (j : ℕ) → j < n → (rows : List Row) → All WellFormed rows → widths_of rows ≡ map (width_at P.widths) (e j).operands → Lossless (width_at P.widths (e j).target) (e j).value rows
  pub reads : (j : ℕ) → j < n → ReadsFresh e j (e j)

module _ (P : Program) (F : FitProgram P) (first n : ℕ) (within : first + n ≤ P.count) (e : ℕ → Effect) (L : FreeRecords P e first n) (s : State) (S : StateFits P.widths s) where
  abbrev ws : List ℕ
  ws = P.widths

  -- the rows, row i, and a plain run's number for it, after j records
  abbrev rows : ℕ → State
  rows j = after P first j s

  abbrev row-at : ℕ → ℕ → Row
  row-at j i = row_at P.widths (after P first j s) i

  abbrev number_at : ℕ → List ℕ → ℕ → ℕ
  number_at j ns i = get_or (plain_after P first j ns) i 0

  abbrev Start : List ℕ → Type 0
  Start ns = CoversState P.widths s ns

  abbrev Free : ℕ → Type 0
  Free j = (xs : List ℕ) → CoversState ws (rows j) xs → (ns : List ℕ) × Start ns × ((i : ℕ) → i < length ws → Fresh e j i → number_at j ns i ≡ get_or xs i 0)

  fits : (j : ℕ) → j < n → Fit ws (e j)
  fits j h = (subst (All (Fit ws)) (L.single j h) (F (first + j) (omega arith)).fit).0

  fits-at : (j : ℕ) → StateFits ws (rows j)
  fits-at = after-fits P first s S

  covers_at : (ns : List ℕ) → Start ns → (j : ℕ) → j ≤ n → CoversState ws (rows j) (plain_after P first j ns)
  covers_at = (stretch P F first n within s S).plain_runs

  values-at : (j : ℕ) → CoversState ws (rows j) (rows j).values
  values-at j = values-cover ws (rows j) (fits-at j)

  -- ---- one record

  others-at : (j : ℕ) → j < n → (i : ℕ) → (e j).target ≢ i → row-at (suc j) i ≡ row-at j i
  unfolding after
  others-at j h i d = step-others ws (rows j) (P.effects (first + j)) i (rw (L.single j h) (d, tt))

  target_at : (j : ℕ) → j < n → row-at (suc j) (e j).target ≡ result ws (rows j) (e j)
  unfolding after
  target_at j h = rw (L.single j h) (step-targets ws (rows j) (fits-at j) (e j ∷ []) (record { fit = (fits j h, tt); distinct = (tt, tt) })).0

  plain-others-at : (j : ℕ) → j < n → (ns : List ℕ) (i : ℕ) → (e j).target ≢ i → number_at (suc j) ns i ≡ number_at j ns i
  unfolding plain_after
  plain-others-at j h ns i d = plain-others (P.effects (first + j)) (plain_after P first j ns) i (rw (L.single j h) (d, tt))

  plain-target-at : (j : ℕ) → j < n → (ns : List ℕ) → Start ns → number_at (suc j) ns (e j).target ≡ (e j).value (operand_numbers (plain_after P first j ns) (e j))
  unfolding plain_after
  plain-target-at j h ns C =
      rw (L.single j h) (plain-targets ws (e j ∷ []) (record { fit = (fits j h, tt); distinct = (tt, tt) }) (plain_after P first j ns) (covers_at ns C j (omega arith)).count).0

  -- ---- the invariant

  free-start : Free 0
  unfolding after plain_after
  free-start xs C = (xs, C, (λ i h v. refl))

  -- numbers for some fresh rows may be chosen as well
  free-for : (j : ℕ) → Free j → (l : Effect) → Fit ws l → ReadsFresh e j l → (xs : List ℕ) → CoversState ws (rows j) xs → (ms : List ℕ) → Chosen (operand_rows ws (rows j) l) ms
      → (ns : List ℕ) × Start ns × (operand_numbers (plain_after P first j ns) l ≡ ms)
      × ((i : ℕ) → i < length ws → Fresh e j i → Missing i l.operands → number_at j ns i ≡ get_or xs i 0)
  free-for j I l G R xs C ms M =
      let os = l.operands in
      let (ns, T, g) = I (assign os ms xs) (assign-covers ws (rows j) os ms xs M C) in (
        ns,
        T,
        assign_reads ws (rows j) os ms xs (number_at j ns) R.0 (all-imp (λ o l. subst (λ (m : ℕ). o < m) (sym C.count) l) os G.operands_in) M
            (all_both g os G.operands_in R.1),
        (λ i l v m. g i l v ∙ assign-missing os ms xs i m),
      )

  -- before the record: numbers for the operands that give the target its number, any number for the target, and those chosen for the others
  free_step : (j : ℕ) → j < n → Free j → Free (suc j)
  free_step j h I xs C =
      let t = (e j).target in
      let R = L.lossless j h (operand_rows ws (rows j) (e j)) (operands-formed ws (rows j) (fits-at j) (e j) (fits j h)) (map-map (λ (r : Row). r.width) (row-at j) (e j).operands)
      (get_or xs t 0) (subst (λ (r : Row). Covers r (get_or xs t 0)) (target_at j h) (C.covers t (fits j h).target_in)) in
      let (ns, T, reads, g) = free-for j I (e j) (fits j h) (L.reads j h) (set xs t (row-at j t).value) before R.numbers R.chosen in (
        ns,
        T,
        (λ i l v. elim (ℕ_discrete t i) [
          | yes p ↦ subst (λ (i : ℕ). number_at (suc j) ns i ≡ get_or xs i 0) p (plain-target-at j h ns T ∙ ap (e j).value reads ∙ R.gives)
          | no d ↦ elim v [
            | inl p ↦ absurd (d p)
            | inr u ↦ plain-others-at j h ns i d ∙ g i l u.1 u.0 ∙ get_or-set_other xs t i (row-at j t).value 0 (λ p. d (sym p))
          ]
        ]),
      )
    where
      before : CoversState ws (rows j) (set xs (e j).target (row-at j (e j).target).value)
      before =
          covers-set ws (rows j) xs (e j).target (row-at j (e j).target).value C.count ((values-at j).covers (e j).target)
          (λ i l d. subst (λ (r : Row). Covers r (get_or xs i 0)) (others-at j h i (λ p. d (sym p))) (C.covers i l))

  free : (j : ℕ) → j ≤ n → Free j
  free zero h = free-start
  free (suc j) h = free_step j h (free j (omega arith))

  -- ---- each row covers precisely what plain runs give it

  abbrev Reached : ℕ → ℕ → ℕ → Type 0
  Reached j i m = (ns : List ℕ) × Start ns × (number_at j ns i ≡ m)

  reached-fresh : (j : ℕ) → j ≤ n → (i : ℕ) → i < length ws → Fresh e j i → (m : ℕ) → Covers (row-at j i) m → Reached j i m
  reached-fresh j h i l v m c =
      let C = values-at j in
      let (ns, T, g) = free j h (set (rows j).values i m) (covers-set ws (rows j) (rows j).values i m C.count (λ k. c) (λ k a d. C.covers k a)) in
      (ns, T, g i l v ∙ get_or-set_same (rows j).values i m 0 (subst (λ (x : ℕ). i < x) (sym C.count) l))

  -- a row that is read or not keeps what it was last given, in the rows and in plain runs
  reached : (j : ℕ) → j ≤ n → (i : ℕ) → i < length ws → (m : ℕ) → Covers (row-at j i) m → Reached j i m
  reached zero h i l m c = reached-fresh zero h i l tt m c
  reached (suc j) h i l m c = elim (ℕ_discrete (e j).target i) [
    | yes p ↦ reached-fresh (suc j) h i l (inl p) m c
    | no d ↦
        let (ns, T, v) = reached j (omega arith) i l m (subst (λ (r : Row). Covers r m) (others-at j h i d) c) in
        (ns, T, plain-others-at j h ns i d ∙ v)
  ]

  pub precise : (i : ℕ) → i < length ws → Precise ws s (plain_after P first n) (rows n) i
  precise i l m = (reached n (omega arith) i l m, (λ r. let (ns, T, v) = r in subst (Covers (row-at n i)) v ((covers_at ns T n (omega arith)).covers i l)))

  -- ---- what every choice from fresh rows gives, some plain run gives

  pub brought : (l : Effect) → Fit ws l → ReadsFresh e n l → Brought P first n s l
  brought l G R ms M =
      let (ns, T, reads, g) = free-for n (free n (omega arith)) l G R (rows n).values (values-at n) ms M in
      (ns, T, reads)
