-- The request's words and the rule over effects are the same, of every kind, loads and stores among them. Assumes nothing.
use mathlib.Core.Path.{◌≡◌, refl, sym, ap, ap₂, ◌∙◌, subst}
use mathlib.Core.Bool.{Bool, true, false, not, cond, ◌&&◌, ◌||◌}
use mathlib.Core.List.{List, [], ◌∷◌, ◌++◌}
use Prim.Native.Nat.{ℕ, zero, suc, ◌≤◌, ◌<◌}
use native.Mathlib.Decide.{ℕ_discrete}
use native.Mathlib.Omega.{arith}
use lib.Dec.{T, eqb, eqb→eq}
use Rattle.bits.proofs.Bools.{T-cases, when_true, when_false}
use Rattle.vectors.specs.Lists.{some_of}
use Rattle.operations.specs.Kind.{is_row}
use Rattle.operations.specs.Kinds.{is_kind}
use Rattle.operations.specs.Record.{kind_word, target_word, first_word, second_word, kind_in, rows_named, named_twice, once, Effect, effect_of, effects_of}
use Rattle.operations.proofs.Sound.{only_store}
use Rattle.operations.proofs.Twice.{starts_twice, named-starts}
use Rattle.operations.proofs.Parts.{one-target}
use Rattle.checks.specs.Table.{Table, record_count, record_of}
use Rattle.tables.specs.Run.{effects_at}
use Rattle.tables.proofs.Fits.{one-effect}
use Rattle.needs.specs.Needs.{among, stays, ceasing, becoming, need_before, kept_among}
use Rattle.needs.specs.Effects.{stays_by, need_by, kept_by}
use Rattle.needs.proofs.StoreRules.{targets-same, only_one, store-need}

pub stays_same : (widths words : List ℕ) (need : ℕ → Bool) → stays words need ≡ stays_by (effects_of widths words) need
unfolding stays stays_by
stays_same widths words need = targets-same need widths words

-- ---- a record that writes a row t

-- a row named twice stands once among the operands
once-among : (i : ℕ) (b : Bool) (l : List ℕ) → (T b → T (starts_twice l)) → among i (once b l) ≡ among i l
unfolding some_of
once-among i false l h = refl
once-among i true [] h = absurd (h tt)
once-among i true (x ∷ []) h = absurd (h tt)
once-among i true (x ∷ y ∷ l) h = twice (eqb x i) (among i l) ∙ ap (λ (z : ℕ). eqb x i || (eqb z i || among i l)) (eqb→eq x y (h tt))
  where
    twice : (b c : Bool) → (b || c) ≡ (b || (b || c))
    twice true c = refl
    twice false c = refl

needed-read : (n o c : Bool) → T n → (o || c) ≡ (((n && o) || false) || c)
needed-read true true c t = refl
needed-read true false c t = refl
needed-read false o c t = absurd t

module _ (widths words : List ℕ) (h : T (is_kind (kind_word words))) (need : ℕ → Bool) (i : ℕ) where
  row-need : T (is_row (kind_in words).use_t) → T (stays words need) → need_before words need i ≡ need_by (effects_of widths words) need i
  unfolding stays need_before need_by ceasing becoming some_of effect_of rows_named
  row-need r s =
      let t = target_word words in
      let o = once (named_twice words) (rows_named words) in
      let kept = need i && not (eqb t i || false) in
      ap₂ (λ (x y : List ℕ). among i x || (need i && not (among i y)))
      (when_true (is_row (kind_in words).use_t) (rows_named words) (first_word words ∷ second_word words ∷ []) r)
      (when_true (is_row (kind_in words).use_t) (t ∷ []) [] r)
      ∙ ap (λ (x : Bool). x || kept) (sym (once-among i (named_twice words) (rows_named words) (λ u. named-starts words h u _)))
      ∙ needed-read (need t) (among i o) kept (only_one (need t) (subst (λ (l : List ℕ). T (some_of need l)) (one-target words r) s))
      ∙ sym (ap (λ (es : List Effect). need_by es need i) (one-effect widths words r))

-- ---- every record, and the walk

pub need-same : (widths words : List ℕ) → T (is_kind (kind_word words)) → (need : ℕ → Bool) → T (stays words need) → (i : ℕ) → need_before words need i ≡ need_by (effects_of widths words) need i
need-same widths words h need s i =
    elim (ℕ_discrete (kind_word words) 25) [
      | yes e ↦ store-need widths words e need i s
      | no d ↦ row-need widths words h need i (only_store (kind_word words) h d) s
    ]

choices-same : {A : Type 0} (b c : Bool) (x x' y y' : A) → b ≡ c → (T b → x ≡ x') → y ≡ y' → cond b x y ≡ cond c x' y'
choices-same {A} b c x x' y y' e f g = T-cases b (λ t. when_true b x y t ∙ f t ∙ sym (when_true b x' y' t)) (λ t. when_false b x y t ∙ g ∙ sym (when_false b x' y' t)) ∙ ap (λ (d : Bool). cond d x' y') e

pub kept_same : (t : Table) → ((i : ℕ) → i < record_count t → T (is_kind (kind_word (record_of t i)))) → (n : ℕ) → n ≤ record_count t → (need : ℕ → Bool) → kept_among t n need ≡ kept_by (effects_at t) n need
unfolding kept_among kept_by
kept_same t K zero h need = refl
kept_same t K (suc n) h need =
    let r = record_of t n in
    choices-same (stays r need) (stays_by (effects_at t n) need) (kept_among t n (need_before r need) ++ n ∷ []) (kept_by (effects_at t) n (need_by (effects_at t n) need) ++ n ∷ [])
    (kept_among t n need) (kept_by (effects_at t) n need) (stays_same t.widths r need)
    (λ s. ap (λ (l : List ℕ). l ++ n ∷ [])
    (kept_same t K n (omega arith) (need_before r need) ∙ (λ ι. kept_by (effects_at t) n (λ i. need-same t.widths r (K n (omega arith)) need s i ι))))
    (kept_same t K n (omega arith) need)
