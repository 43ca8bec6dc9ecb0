-- The needed rows as bytes: what marking rows leaves. Assumes nothing.
use mathlib.Core.Path.{◌≡◌, refl, sym, ap, ◌∙◌, subst}
use mathlib.Core.Bool.{Bool, true, false, not, cond, ◌&&◌, ◌||◌}
use mathlib.Core.List.{List, [], ◌∷◌, ◌++◌}
use Prim.Native.Nat.{ℕ, zero, suc, ◌+◌, ◌-◌, ◌≤◌, ◌<◌}
use native.Mathlib.Decide.{ℕ_discrete, dec_lt}
use native.Mathlib.Omega.{arith}
use borrow.Author.Tests.{eq-eqb, ne_eqb}
use lib.Dec.{eqb}
use lib.ListN.{length, get_or, set, length-set}
use lib.Seq.{get_or-set_same, get_or-set_other, set_out}
use lib.Bits.{bit_or}
use Rattle.bits.specs.Counted.{listed}
use Rattle.bits.proofs.Bools.{and-true}
use Rattle.vectors.specs.Lists.{All, some_of}
use Rattle.vectors.proofs.Lists.{all-imp}
use Rattle.vectors.proofs.ListParts.{all_listed}
use Rattle.operations.specs.Memory.{span}
use Rattle.tables.proofs.PutAll.{numbers-length}
use Rattle.needs.specs.Needs.{marked, among, ceasing, becoming, need_before}
use Rattle.needs.specs.Encoding.{with_mark, needs_before, ZeroOrOne, SpanIn}

-- ---- rows marked one after another

pub mark-append : (m : ℕ) (l r need : List ℕ) → with_mark m (l ++ r) need ≡ with_mark m r (with_mark m l need)
mark-append m [] r need = refl
mark-append m (i ∷ l) r need = mark-append m l r (set need i m)

mark-length : (m : ℕ) (rows need : List ℕ) → length (with_mark m rows need) ≡ length need
mark-length m rows need = numbers-length (λ i. i) (λ i. m) rows need

either_way : (b : Bool) (m : ℕ) → cond b m m ≡ m
either_way true m = refl
either_way false m = refl

mark-at : (m : ℕ) (rows need : List ℕ) (i : ℕ) → All (λ j. j < length need) rows → get_or (with_mark m rows need) i 0 ≡ cond (among i rows) m (get_or need i 0)
unfolding some_of
mark-at m [] need i h = refl
mark-at m (j ∷ rows) need i h =
    mark-at m rows (set need j m) i (all-imp (λ k l. subst (λ (n : ℕ). k < n) (sym (length-set need j m)) l) rows h.1)
    ∙ elim (ℕ_discrete j i) [
      | yes e ↦
          ap (cond (among i rows) m) (ap (λ (k : ℕ). get_or (set need j m) k 0) (sym e) ∙ get_or-set_same need j m 0 h.0)
          ∙ either_way (among i rows) m
          ∙ sym (ap (λ (b : Bool). cond (b || among i rows) m (get_or need i 0)) (eq-eqb j i e))
      | no d ↦
          ap (cond (among i rows) m) (get_or-set_other need j i m 0 (λ e. d (sym e)))
          ∙ sym (ap (λ (b : Bool). cond (b || among i rows) m (get_or need i 0)) (ne_eqb j i d))
    ]

-- ---- "its target ceases to be needed, its operands .. become so"

becomes : (a : Bool) (g : ℕ) → eqb (cond a 1 g) 1 ≡ (a || eqb g 1)
becomes true g = refl
becomes false g = refl

ceases : (a : Bool) (g : ℕ) → eqb (cond a 0 g) 1 ≡ (eqb g 1 && not a)
ceases true g = no_more (eqb g 1)
  where
    no_more : (b : Bool) → false ≡ (b && false)
    no_more true = refl
    no_more false = refl
ceases false g = sym (and-true (eqb g 1))

pub needs-marked : (words need : List ℕ) → All (λ j. j < length need) (ceasing words) → All (λ j. j < length need) (becoming words) → (i : ℕ)
    → marked (needs_before words need) i ≡ need_before words (marked need) i
unfolding needs_before need_before
needs-marked words need c b i =
    ap (λ (x : ℕ). eqb x 1) (mark-at 1 (becoming words) (with_mark 0 (ceasing words) need) i (subst (λ (n : ℕ). All (λ j. j < n) (becoming words)) (sym (mark-length 0 (ceasing words) need)) b))
    ∙ becomes (among i (becoming words)) (get_or (with_mark 0 (ceasing words) need) i 0)
    ∙ ap (λ (x : Bool). among i (becoming words) || x) (ap (λ (x : ℕ). eqb x 1) (mark-at 0 (ceasing words) need i c) ∙ ceases (among i (ceasing words)) (get_or need i 0))

pub before-length : (words need : List ℕ) → length (needs_before words need) ≡ length need
unfolding needs_before
before-length words need = mark-length 1 (becoming words) (with_mark 0 (ceasing words) need) ∙ mark-length 0 (ceasing words) need

-- ---- the rows of a span, marked row by row

pub in_span : {m base n : ℕ} → SpanIn m base n → (i : ℕ) → i < n → base + i < m
in_span {m} {base} {n} q i h = all_listed (λ j. j < m) (λ j. j) base n q.rows_in (base + i) (omega arith) (omega arith)

module _ (base n : ℕ) where
  abbrev pub rest : ℕ → List ℕ → List ℕ
  rest i need = with_mark 1 (span (base + i) (n - i)) need

  pub rest-start : (need : List ℕ) → with_mark 1 (span base n) need ≡ rest 0 need
  rest-start need =
      let e : base ≡ base + 0 = omega arith in
      let f : n ≡ n - 0 = omega arith in
      λ ι. with_mark 1 (span (e ι) (f ι)) need

  pub rest-next : (i : ℕ) → i < n → (need : List ℕ) (x : ℕ) → x ≡ 1 → rest i need ≡ rest (i + 1) (set need (base + i) x)
  unfolding listed
  rest-next i h need x o =
      let e : n - i ≡ suc (n - (i + 1)) = omega arith in
      let f : suc (base + i) ≡ base + (i + 1) = omega arith in
      ap (λ (m : ℕ). with_mark 1 (span (base + i) m) need) e ∙ ap (λ (b : ℕ). with_mark 1 (span b (n - (i + 1))) (set need (base + i) 1)) f ∙ ap (λ (y : ℕ). rest (i + 1) (set need (base + i) y)) (sym o)

  pub rest_end : (i : ℕ) → n ≤ i → (need : List ℕ) → rest i need ≡ need
  unfolding listed
  rest_end i h need = let e : n - i ≡ 0 = omega arith in ap (λ (m : ℕ). with_mark 1 (span (base + i) m) need) e

-- a span that was there is there in as many bytes
pub still-in : {m m' base count : ℕ} → m' ≡ m → SpanIn m base count → SpanIn m' base count
still-in {m} {m'} {base} {count} e q = subst (λ (n : ℕ). SpanIn n base count) (sym e) q

-- bytes after the rows of a span are marked
pub span-length : (need need' : List ℕ) (base n : ℕ) → need' ≡ with_mark 1 (span base n) need → length need' ≡ length need
span-length need need' base n e = ap length e ∙ mark-length 1 (span base n) need

-- ---- bytes that are 0 or 1

pub bit-set : (x : ℕ) → x ≤ 1 → bit_or x 1 ≡ 1
bit-set zero h = refl
bit-set (suc zero) h = refl
bit-set (suc (suc x)) h = absurd (omega arith)

pub set-bytes : (need : List ℕ) (i x : ℕ) → x ≤ 1 → ZeroOrOne need → ZeroOrOne (set need i x)
set-bytes need i x h Z =
    record {
      most = λ j. elim (ℕ_discrete j i) [
        | no d ↦ subst (λ (y : ℕ). y ≤ 1) (sym (get_or-set_other need i j x 0 d)) (Z.most j)
        | yes e ↦ elim (dec_lt i (length need)) [
          | yes l ↦ subst (λ (y : ℕ). y ≤ 1) (sym (ap (λ (k : ℕ). get_or (set need i x) k 0) e ∙ get_or-set_same need i x 0 l)) h
          | no l ↦ subst (λ (l : List ℕ). get_or l j 0 ≤ 1) (sym (set_out need i x (omega arith))) (Z.most j)
        ]
      ];
    }

mark-bytes : (m : ℕ) → m ≤ 1 → (rows need : List ℕ) → ZeroOrOne need → ZeroOrOne (with_mark m rows need)
mark-bytes m h [] need Z = Z
mark-bytes m h (i ∷ rows) need Z = mark-bytes m h rows (set need i m) (set-bytes need i m h Z)

pub span-bytes : (need need' : List ℕ) (base n : ℕ) → need' ≡ with_mark 1 (span base n) need → ZeroOrOne need → ZeroOrOne need'
span-bytes need need' base n e Z = subst ZeroOrOne (sym e) (mark-bytes 1 (omega arith) (span base n) need Z)

pub before-bytes : (words need : List ℕ) → ZeroOrOne need → ZeroOrOne (needs_before words need)
unfolding needs_before
before-bytes words need Z = mark-bytes 1 (omega arith) (becoming words) (with_mark 0 (ceasing words) need) (mark-bytes 0 (omega arith) (ceasing words) need Z)
