-- A record's result over the rows that its words name, and these rows as the code reads them: row 0 where a word names none. Assumes nothing.
use mathlib.Core.Path.{◌≡◌, refl, sym, ap₂, subst, transport}
use mathlib.Core.Bool.{not, ◌&&◌}
use mathlib.Core.List.{List, [], ◌∷◌, map, map-map}
use Prim.Native.Nat.{ℕ, ◌≤◌, ◌<◌}
use lib.Dec.{T, eqb, eqb→eq}
use Rattle.bits.proofs.Bools.{T-left, T-right}
use Rattle.vectors.specs.Lists.{All}
use Rattle.vectors.specs.Row.{Row}
use Rattle.vectors.specs.Best.{best}
use Rattle.operations.specs.Kind.{asks, Use, as_row, as_number, as_count, as_base, unused, is_row, is_base, Rule}
use Rattle.operations.specs.Kinds.{is_kind, kind_of}
use Rattle.operations.specs.Record.{kind_in, target_word, parameter_word, width_at, used, used_last, operands, rows_named, named_twice, again, whole_part, effect_of}
use Rattle.operations.specs.Result.{result_once}
use Rattle.operations.proofs.Sound.{row_is, suits, first-is-row, rule-suits, condition-chosen}
use Rattle.operations.proofs.Twice.{once-map}
use Rattle.checks.specs.Table.{State, row_at}
use Rattle.steps.specs.Step.{result}
use Rattle.tables.specs.Encoding.{used_row}

-- ---- the result

-- it is its kind's over the rows that the words name, of which one named twice gives one number
pub record-result : (widths words : List ℕ) (s : State)
    → result widths s (effect_of widths words (whole_part words))
    ≡ result_once (named_twice words) (kind_in words) (width_at widths (target_word words)) (parameter_word words) (map (row_at widths s) (rows_named words))
unfolding effect_of result_once
record-result widths words s =
    ap₂ (λ (ws : List ℕ) (rows : List Row). best (width_at widths (target_word words)) (λ ns. (kind_in words).plain (width_at widths (target_word words)) ws (parameter_word words) (again (named_twice words) ns)) rows)
    (sym (map-map (λ (r : Row). r.width) (row_at widths s) (rows_named words))) (once-map (named_twice words) (row_at widths s) (rows_named words))

-- ---- a condition row is one bit wide (refusal 9)

pub one_bit : (n : ℕ) → T (is_kind n) → T (is_row (kind_of n).use_c) → (widths : List ℕ) (wt a b p c : ℕ)
    → T (asks (kind_of n).rule wt (map (width_at widths) (operands (kind_of n) a b (c ∷ []))) p) → width_at widths c ≡ 1
one_bit n h u widths wt a b p c t =
    let r = condition-chosen n h u in
    let s : T (is_row (kind_of n).use_b && is_row (kind_of n).use_c) = subst (λ (q : Rule). T (suits q (kind_of n).use_b (kind_of n).use_c)) r (rule-suits n h) in
    let eb = row_is (kind_of n).use_b (T-left (is_row (kind_of n).use_b) (is_row (kind_of n).use_c) s) in
    let f : T (eqb wt (width_at widths a) && eqb wt (width_at widths b) && eqb (width_at widths c) 1) =
    transport (λ ι. T (asks (r ι) wt (map (width_at widths) (used (first-is-row n h ι) a (used (eb ι) b (used_last (row_is (kind_of n).use_c u ι) (c ∷ []))))) p)) t in
    eqb→eq (width_at widths c) 1 (T-right (eqb wt (width_at widths a) && eqb wt (width_at widths b)) (eqb (width_at widths c) 1) f)

-- ---- the rows that the words name

pub used-in : (u : Use) (n word : ℕ) (rest : List ℕ) → 1 ≤ n → All (λ i. i < n) (used u word rest) → (used_row u word < n) × All (λ i. i < n) rest
used-in as_row n word rest h e = e
used-in as_number n word rest h e = (h, e)
used-in as_count n word rest h e = (h, e)
used-in as_base n word rest h e = (h, e)
used-in unused n word rest h e = (h, e)

pub last-in : (u : Use) (n word : ℕ) → 1 ≤ n → All (λ i. i < n) (used_last u (word ∷ [])) → used_row u word < n
last-in as_row n word h e = e.0
last-in as_number n word h e = h
last-in as_count n word h e = h
last-in as_base n word h e = h
last-in unused n word h e = h

pub used-map : (f : ℕ → Row) (u : Use) (word : ℕ) (r : Row) (rows : List Row) (rest : List ℕ)
    → (T (is_row u) → r ≡ f word) → rows ≡ map f rest → used u r rows ≡ map f (used u word rest)
used-map f as_row word r rows rest e g = let p = e tt in λ ι. p ι ∷ g ι
used-map f as_number word r rows rest e g = g
used-map f as_count word r rows rest e g = g
used-map f as_base word r rows rest e g = g
used-map f unused word r rows rest e g = g

pub last-map : (f : ℕ → Row) (u : Use) → T (not (is_base u)) → (word : ℕ) (r : Row) → (T (is_row u) → r ≡ f word) → used_last u (r ∷ []) ≡ map f (used_last u (word ∷ []))
last-map f as_row z word r e = let p = e tt in λ ι. p ι ∷ []
last-map f as_number z word r e = refl
last-map f as_count z word r e = refl
last-map f as_base z word r e = absurd z
last-map f unused z word r e = refl

pub used-same : (u : Use) (word : ℕ) → T (is_row u) → used_row u word ≡ word
used-same as_row word t = refl
used-same as_number word t = absurd t
used-same as_count word t = absurd t
used-same as_base word t = absurd t
used-same unused word t = absurd t
