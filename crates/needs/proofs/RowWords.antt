-- Which rows a record's words stand for, and the bytes once a record's rows are marked, word by word. Assumes nothing.
use mathlib.Core.Path.{◌≡◌, refl, sym, ap, ap₂, ◌∙◌, subst}
use mathlib.Core.Bool.{not, cond}
use mathlib.Core.List.{List, [], ◌∷◌, ◌++◌}
use Prim.Native.Nat.{ℕ, ◌<◌}
use native.Mathlib.Decide.{ℕ_discrete}
use lib.Dec.{T}
use lib.ListN.{length, set}
use Rattle.bits.specs.Counted.{listed}
use Rattle.bits.proofs.Bools.{when_true}
use Rattle.vectors.specs.Lists.{All}
use Rattle.vectors.proofs.ListParts.{all_left, all_right}
use Rattle.operations.specs.Kind.{Use, as_row, as_number, as_count, as_base, unused, is_row, Kind}
use Rattle.operations.specs.Kinds.{is_kind, kind_of}
use Rattle.operations.specs.Memory.{span}
use Rattle.operations.specs.declared.Record.{Record}
use Rattle.operations.specs.Record.{words_of, used, used_last, operands, sixth_rows, rows_named}
use Rattle.operations.specs.Encoding.{use_told, is_plain, is_number}
use Rattle.operations.proofs.Sound.{first-is-row, only_store}
use Rattle.checks.proofs.Memory.{words}
use Rattle.needs.specs.Needs.{marked, ceasing, becoming, need_before}
use Rattle.needs.specs.Encoding.{rows_told, with_mark, needs_before, SpanIn, RowsIn}
use Rattle.needs.proofs.Marks.{mark-append, needs-marked}

-- ---- which rows a word stands for

pub one_word : (u : Use) → T (is_plain u) → T (not (is_number u)) → (b : ℕ) → span b (rows_told (use_told u)) ≡ used u b []
unfolding listed
one_word as_row p n b = refl
one_word as_number p n b = absurd n
one_word as_count p n b = absurd p
one_word as_base p n b = absurd p
one_word unused p n b = refl

pub last_word : (u : Use) → T (is_plain u) → T (not (is_number u)) → (c p : ℕ) → span c (rows_told (use_told u)) ≡ used_last u (sixth_rows u c p)
unfolding listed
last_word as_row q n c p = refl
last_word as_number q n c p = absurd n
last_word as_count q n c p = absurd q
last_word as_base q n c p = absurd q
last_word unused q n c p = refl

-- the words one after another
used-append : {A : Type 0} (u : Use) (a : A) (l : List A) → used u a l ≡ used u a [] ++ l
used-append as_row a l = refl
used-append as_number a l = refl
used-append as_count a l = refl
used-append as_base a l = refl
used-append unused a l = refl

operands-parts : {A : Type 0} (k : Kind) (a b : A) (cs : List A) → operands k a b cs ≡ used k.use_a a [] ++ (used k.use_b b [] ++ used_last k.use_c cs)
operands-parts {A} k a b cs = used-append k.use_a a (used k.use_b b (used_last k.use_c cs)) ∙ ap (λ (l : List A). used k.use_a a [] ++ l) (used-append k.use_b b (used_last k.use_c cs))

-- ---- the rows of a record that the code marks

module _ (r : Record) (h : T (is_kind r.kind)) where
  abbrev k : Kind
  k = kind_of r.kind

  -- a store: its address and data
  store-becoming : r.kind ≡ 25 → becoming (words_of r) ≡ r.a ∷ r.b ∷ []
  unfolding becoming kind_of
  store-becoming e = ap (λ (n : ℕ). cond (is_row (kind_of n).use_t) (rows_named (words_of r)) (r.a ∷ r.b ∷ [])) e

  store-ceasing : r.kind ≡ 25 → ceasing (words_of r) ≡ []
  unfolding ceasing kind_of
  store-ceasing e = ap (λ (n : ℕ). cond (is_row (kind_of n).use_t) (r.t ∷ []) []) e

  -- any other kind: its operands
  module _ (d : r.kind ≡ 25 → ⊥) where
    pub writes-row : T (is_row k.use_t)
    writes-row = only_store r.kind h d

    row-becoming : becoming (words_of r) ≡ rows_named (words_of r)
    unfolding becoming
    row-becoming = when_true (is_row k.use_t) (rows_named (words_of r)) (r.a ∷ r.b ∷ []) writes-row

    row-ceasing : ceasing (words_of r) ≡ r.t ∷ []
    unfolding ceasing
    row-ceasing = when_true (is_row k.use_t) (r.t ∷ []) [] writes-row

    -- mark by mark, word by word
    row_before : (need : List ℕ) → needs_before (words_of r) need
        ≡ with_mark 1 (used_last k.use_c (sixth_rows k.use_c r.c r.p)) (with_mark 1 (used k.use_b r.b []) (with_mark 1 (used k.use_a r.a []) (set need r.t 0)))
    unfolding needs_before rows_named
    row_before need =
        let cs = used_last k.use_c (sixth_rows k.use_c r.c r.p) in
        ap₂ (λ (x y : List ℕ). with_mark 1 x (with_mark 0 y need)) row-becoming row-ceasing
        ∙ ap (λ (l : List ℕ). with_mark 1 l (set need r.t 0)) (operands-parts k r.a r.b (sixth_rows k.use_c r.c r.p))
        ∙ mark-append 1 (used k.use_a r.a []) (used k.use_b r.b [] ++ cs) (set need r.t 0)
        ∙ mark-append 1 (used k.use_b r.b []) cs (with_mark 1 (used k.use_a r.a []) (set need r.t 0))

  -- the rows that a store names, and the rows of any other kind, word by word
  store-named : r.kind ≡ 25 → rows_named (words_of r) ≡ r.a ∷ r.b ∷ span r.c r.p
  unfolding rows_named kind_of
  store-named e = ap (λ (n : ℕ). rows_named (words n r)) e

  first-named : used k.use_a r.a [] ≡ span r.a 1
  unfolding listed
  first-named = ap (λ (u : Use). used u r.a []) (first-is-row r.kind h)

  named-parts : (P : ℕ → Type 0) → All P (rows_named (words_of r))
      → All P (span r.a 1) × (All P (used k.use_b r.b []) × All P (used_last k.use_c (sixth_rows k.use_c r.c r.p)))
  unfolding rows_named
  named-parts P q =
      let xs = used k.use_a r.a [] in
      let bs = used k.use_b r.b [] in
      let cs = used_last k.use_c (sixth_rows k.use_c r.c r.p) in
      let all = subst (All P) (operands-parts k r.a r.b (sixth_rows k.use_c r.c r.p)) q in
      let rest = all_right P xs (bs ++ cs) all in
      (subst (All P) first-named (all_left P xs (bs ++ cs) all), (all_left P bs cs rest, all_right P bs cs rest))

-- as spans
module _ {m : ℕ} (r : Record) (R : RowsIn m r) where
  pub first_in : r.a < m
  unfolding listed
  first_in = (named-parts r R.known (λ i. i < m) R.operands_in).0.0

  pub data-in : r.kind ≡ 25 → r.b < m
  data-in k = (subst (All (λ i. i < m)) (store-named r R.known k) R.operands_in).1.0

  pub second_in : (n : ℕ) → span r.b n ≡ used (kind_of r.kind).use_b r.b [] → SpanIn m r.b n
  second_in n f = record { rows_in = subst (All (λ i. i < m)) (sym f) (named-parts r R.known (λ i. i < m) R.operands_in).1.0 }

  pub sixth_in : (n : ℕ) → span r.c n ≡ used_last (kind_of r.kind).use_c (sixth_rows (kind_of r.kind).use_c r.c r.p) → SpanIn m r.c n
  sixth_in n f = record { rows_in = subst (All (λ i. i < m)) (sym f) (named-parts r R.known (λ i. i < m) R.operands_in).1.1 }

-- ---- the bytes stand for the needed rows

module _ (need : List ℕ) (r : Record) (R : RowsIn (length need) r) where
  ceasing-in : All (λ i. i < length need) (ceasing (words_of r))
  ceasing-in = elim (ℕ_discrete r.kind 25) [
    | yes e ↦ subst (All (λ i. i < length need)) (sym (store-ceasing r R.known e)) tt
    | no d ↦ subst (All (λ i. i < length need)) (sym (row-ceasing r R.known d)) (R.targets_in.row_in (writes-row r R.known d), tt)
  ]

  becoming-in : All (λ i. i < length need) (becoming (words_of r))
  becoming-in = elim (ℕ_discrete r.kind 25) [
    | yes e ↦
        let q = subst (All (λ i. i < length need)) (store-named r R.known e) R.operands_in in
        subst (All (λ i. i < length need)) (sym (store-becoming r R.known e)) (q.0, (q.1.0, tt))
    | no d ↦ subst (All (λ i. i < length need)) (sym (row-becoming r R.known d)) R.operands_in
  ]

  pub before-marked : (i : ℕ) → marked (needs_before (words_of r) need) i ≡ need_before (words_of r) (marked need) i
  before-marked = needs-marked (words_of r) need ceasing-in becoming-in

-- ---- the bytes that need_before leaves

module _ (r : Record) (h : T (is_kind r.kind)) (need : List ℕ) where
  pub store-marked : r.kind ≡ 25 → set (set need r.a 1) r.b 1 ≡ needs_before (words_of r) need
  unfolding needs_before
  store-marked e = sym (ap₂ (λ (x y : List ℕ). with_mark 1 x (with_mark 0 y need)) (store-becoming r h e) (store-ceasing r h e))

  -- nb, nc: how many rows b and c stand for; n1, n2: the bytes after these are marked
  pub row-marked : (r.kind ≡ 25 → ⊥) → (nb nc : ℕ)
      → span r.b nb ≡ used (kind_of r.kind).use_b r.b [] → span r.c nc ≡ used_last (kind_of r.kind).use_c (sixth_rows (kind_of r.kind).use_c r.c r.p)
      → (n1 n2 : List ℕ) → n1 ≡ with_mark 1 (span r.b nb) (set (set need r.t 0) r.a 1) → n2 ≡ with_mark 1 (span r.c nc) n1 → n2 ≡ needs_before (words_of r) need
  unfolding listed
  row-marked d nb nc sb sc n1 n2 e1 e2 =
      e2
      ∙ ap (with_mark 1 (span r.c nc)) e1
      ∙ (λ ι. with_mark 1 (sc ι) (with_mark 1 (sb ι) (with_mark 1 (sym (first-named r h) ι) (set need r.t 0))))
      ∙ sym (row_before r h d need)
