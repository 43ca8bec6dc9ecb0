-- Checks 6 to 8 of a record; its words in the word slice. Assumes nothing.
use mathlib.Core.Path.{◌≡◌, refl, sym, ap, subst, ◌∙◌}
use mathlib.Core.Bool.{Bool, true, false, not, cond, ◌&&◌}
use mathlib.Core.List.{List, [], ◌∷◌}
use Prim.Native.Nat.{ℕ, suc, ◌+◌, ◌≤◌, ◌<◌}
use native.Mathlib.Numerals.{add-one, add-two, add-three, add-four}
use native.Mathlib.Omega.{arith}
use borrow.Author.Tests.{ltb-true, not-false}
use lib.Dec.{T, leb, ltb, eqb, not_T, leb→le, ltb→lt, nleb→lt, nltb→le, eqb→eq}
use lib.ListN.{length, get_or, take, drop}
use lib.Seq.{drop-cons}
use Rattle.operations.specs.Kind.{Use, as_row, as_number, as_count, as_base, unused, is_row, is_base}
use Rattle.operations.specs.Kinds.{is_kind, kind_of}
use Rattle.operations.specs.declared.Record.{Record}
use Rattle.operations.specs.Record.{words_of}
use Rattle.operations.specs.Faults.{Fault, word_outside, span_outside, misused, named_faults}
use Rattle.operations.specs.declared.descriptions.WordClass.{WordClass}
use Rattle.operations.specs.Encoding.{is_plain, is_number, word_class, uses_second, uses_parameter, uses_sixth}
use Rattle.operations.specs.Limits.{record_words, parameter_limit}
use Rattle.bits.proofs.Bools.{T_not-not, not_not_T}
use Rattle.operations.proofs.Sound.{first-is-row, target-is-row, second_plain, second-no-number, parameter-plain, sixth-plain, sixth-no-number, parameter-no-row, class-second, class-parameter, class-sixth}
use Rattle.checks.specs.Check.{placed, Passed}
use Rattle.checks.specs.Limits.{row_limit}
use Rattle.checks.specs.Encoding.{WordsPassed}

-- ---- words below their limits

row_below : (u : Use) → T (is_plain u) → T (not (is_number u)) → (n word : ℕ) → word < cond (is_row u) n 1 → T (not (word_outside n u word)) × T (not (misused u word))
row_below as_row p q n word h = (not_T (leb n word) (λ t. let z = leb→le n word t in omega arith), tt)
row_below as_number p q n word h = absurd q
row_below as_count p q n word h = absurd p
row_below as_base p q n word h = absurd p
row_below unused p q n word h = (tt, let z : word ≡ 0 = omega arith in rw z tt)

number-below : (u : Use) → T (is_plain u) → T (not (is_row u)) → (n word : ℕ) → word < cond (is_number u) (suc parameter_limit) 1 → T (not (word_outside n u word)) × T (not (misused u word))
number-below as_row p q n word h = absurd q
number-below as_number p q n word h = (tt, not_T (ltb parameter_limit word) (λ t. let z = ltb→lt parameter_limit word t in omega arith))
number-below as_count p q n word h = absurd p
number-below as_base p q n word h = absurd p
number-below unused p q n word h = (tt, let z : word ≡ 0 = omega arith in rw z tt)

-- the kind's number, as the code tests it
pub kind-in : (n : ℕ) (b : Bool) → b ≡ is_kind n → not b ≡ false → T (is_kind n)
kind-in n b e t = subst T (sym (sym e ∙ not-false b t)) tt

pub kind-passes : (b : Bool) → T b → not b ≡ false
kind-passes true t = refl
kind-passes false t = absurd t

module _ (n : ℕ) (r : Record) (known : T (is_kind r.kind)) where
  -- the word a is a row for every kind
  pub first-outside : word_outside n (kind_of r.kind).use_a r.a ≡ leb n r.a
  first-outside = ap (λ (u : Use). word_outside n u r.a) (first-is-row r.kind known)

  pub first-misused : misused (kind_of r.kind).use_a r.a ≡ false
  first-misused = ap (λ (u : Use). misused u r.a) (first-is-row r.kind known)

  -- of a kind without cells the word t is a row, and there is no span
  module _ (none : T (not (is_base (kind_of r.kind).use_c))) where
    pub target-outside : word_outside n (kind_of r.kind).use_t r.t ≡ leb n r.t
    target-outside = ap (λ (u : Use). word_outside n u r.t) (target-is-row r.kind known none)

    pub target-misused : misused (kind_of r.kind).use_t r.t ≡ false
    target-misused = ap (λ (u : Use). misused u r.t) (target-is-row r.kind known none)

    pub no_span : span_outside n (words_of r) ≡ false
    no_span = go (is_base (kind_of r.kind).use_c) none
      where
        go : (b : Bool) → T (not b) → (b && ltb n (r.c + r.p)) ≡ false
        go true t = absurd t
        go false t = refl

    -- under the code's names for the class of its words, and for which words it has
    pub passes : (class : WordClass) (ub up uc : Bool) → class ≡ word_class (kind_of r.kind) → ub ≡ uses_second class → up ≡ uses_parameter class → uc ≡ uses_sixth class
        → leb n r.t ≡ false → leb n r.a ≡ false → ltb r.b (cond ub n 1) ≡ true
        → ltb r.p (cond up (suc parameter_limit) 1) ≡ true → ltb r.c (cond uc n 1) ≡ true
        → Passed (placed 0 (named_faults n (words_of r)))
    passes class ub up uc e eu ep ec et ea tb tp tc =
        let x = row_below (kind_of r.kind).use_b (second_plain r.kind known) (second-no-number r.kind known) n r.b
        (limit-told ub n (eu ∙ ap uses_second e ∙ class-second r.kind known none) tb) in
        let y = number-below (kind_of r.kind).use_p (parameter-plain r.kind known none) (parameter-no-row r.kind known) n r.p
        (limit-told up (suc parameter_limit) (ep ∙ ap uses_parameter e ∙ class-parameter r.kind known none) tp) in
        let z = row_below (kind_of r.kind).use_c (sixth-plain r.kind known none) (sixth-no-number r.kind known) n r.c
        (limit-told uc n (ec ∙ ap uses_sixth e ∙ class-sixth r.kind known none) tc) in (
          not_not_T (is_kind r.kind) known,
          (
            rw (target-outside ∙ et) tt,
            (
              rw (first-outside ∙ ea) tt,
              (x.0, (z.0, (rw no_span tt, (rw target-misused tt, (rw first-misused tt, (x.1, (y.1, (z.1, tt)))))))),
            ),
          ),
        )
      where
        limit-told : {word : ℕ} (b : Bool) (limit : ℕ) {d : Bool} → b ≡ d → ltb word (cond b limit 1) ≡ true → word < cond d limit 1
        limit-told {word} b limit {d} f t = ltb-true word (cond d limit 1) (ap (λ (c : Bool). ltb word (cond c limit 1)) (sym f) ∙ t)

-- ---- what a record that passed them gives

-- a parameter that is no number of cells
small_of : (u : Use) → T (is_plain u) → T (not (is_row u)) → (word : ℕ) → T (not (misused u word)) → word ≤ row_limit
small_of as_row q z word m = absurd z
small_of as_number q z word m = let z = nltb→le parameter_limit word m in omega arith
small_of as_count q z word m = absurd q
small_of as_base q z word m = absurd q
small_of unused q z word m = let z = eqb→eq word 0 (T_not-not (eqb word 0) m) in omega arith

in-of : (u : Use) (n word : ℕ) → T (not (word_outside n u word)) → u ≡ as_row → word < n
in-of u n word t e = nleb→lt n word (subst (λ (v : Use). T (not (word_outside n v word))) e t)

-- the end of a span, where there is one
pub ends-within : (b : Bool) (n m : ℕ) → T (not (b && ltb n m)) → T b → m ≤ n
ends-within true n m t u = nltb→le n m t
ends-within false n m t u = absurd u

pub record NamedFacts (n : ℕ) (r : Record) : Type 0 where
  pub known : T (is_kind r.kind)
  pub first_in : r.a < n
  pub second_in : (kind_of r.kind).use_b ≡ as_row → r.b < n
  pub target_in : (kind_of r.kind).use_t ≡ as_row → r.t < n
  pub sixth_in : (kind_of r.kind).use_c ≡ as_row → r.c < n
  pub span_in : T (is_base (kind_of r.kind).use_c) → r.c + r.p ≤ n
  pub parameter_small : T (not (is_base (kind_of r.kind).use_c)) → r.p ≤ row_limit

pub named-facts : (n : ℕ) (r : Record) → WordsPassed n (words_of r) → NamedFacts n r
named-facts n r N =
    let P = N.passed in
    let k = T_not-not (is_kind r.kind) P.0 in
    record {
      known = k;
      first_in = in-of (kind_of r.kind).use_a n r.a P.1.1.0 (first-is-row r.kind k);
      second_in = in-of (kind_of r.kind).use_b n r.b P.1.1.1.0;
      target_in = in-of (kind_of r.kind).use_t n r.t P.1.0;
      sixth_in = in-of (kind_of r.kind).use_c n r.c P.1.1.1.1.0;
      span_in = ends-within (is_base (kind_of r.kind).use_c) n (r.c + r.p) P.1.1.1.1.1.0;
      parameter_small = λ none. small_of (kind_of r.kind).use_p (parameter-plain r.kind k none) (parameter-no-row r.kind k) r.p P.1.1.1.1.1.1.1.1.1.0;
    }

-- the place does not matter to what passed
pub passed-anywhere : (i j : ℕ) (fs : List Fault) → Passed (placed i fs) → Passed (placed j fs)
passed-anywhere i j [] P = tt
passed-anywhere i j (f ∷ fs) P = (P.0, passed-anywhere i j fs P.1)

-- ---- the words of a record, in the slice of all words

pub record-words : (words : List ℕ) (k : ℕ) → k + record_words ≤ length words
    → take record_words (drop k words) ≡ get_or words k 0 ∷ get_or words (k + 1) 0 ∷ get_or words (k + 2) 0 ∷ get_or words (k + 3) 0 ∷ get_or words (k + 4) 0 ∷ get_or words (k + 5) 0 ∷ []
record-words words k h =
    let five : suc (suc (suc (suc (suc k)))) ≡ k + 5 = omega arith in
    ap (take record_words)
    (drop-cons words k 0 (omega arith)
    ∙ ap (λ (l : List ℕ). get_or words k 0 ∷ l) (drop-cons words (suc k) 0 (omega arith)
    ∙ ap (λ (l : List ℕ). get_or words (suc k) 0 ∷ l) (drop-cons words (suc (suc k)) 0 (omega arith)
    ∙ ap (λ (l : List ℕ). get_or words (suc (suc k)) 0 ∷ l) (drop-cons words (suc (suc (suc k))) 0 (omega arith)
    ∙ ap (λ (l : List ℕ). get_or words (suc (suc (suc k))) 0 ∷ l) (drop-cons words (suc (suc (suc (suc k)))) 0 (omega arith)
    ∙ ap (λ (l : List ℕ). get_or words (suc (suc (suc (suc k)))) 0 ∷ l) (drop-cons words (suc (suc (suc (suc (suc k))))) 0 (omega arith)))))))
    ∙ simp (add-one k, add-two k, add-three k, add-four k, five)
