-- `load_row` is the best result of a load, for every width and any number of cells. Assumes nothing.
--   NamedBelow w a cells k n   n is a number of a cell below k that the address may name; past the cells that is 0
use mathlib.Core.Path.{◌≡◌, refl, sym, ◌∙◌, subst}
use mathlib.Core.Logic.{◌⊎◌, inl, inr}
use mathlib.Core.List.{List, [], ◌∷◌}
use Prim.Native.Nat.{ℕ, zero, suc, ◌+◌, ◌-◌, ◌≤◌, ◌<◌, min}
use native.Mathlib.Decide.{dec_lt, ℕ_discrete}
use native.Mathlib.Omega.{arith}
use lib.Dec.{T_not, leb, leb→le, le→leb}
use lib.ListN.{length, get_or, get_or-eq_default}
use Rattle.bits.proofs.Bools.{by_cond}
use Rattle.vectors.specs.Lists.{All}
use Rattle.vectors.specs.Row.{Row, WellFormed, Covers}
use Rattle.vectors.specs.Choice.{Chosen}
use Rattle.vectors.specs.Best.{best}
use Rattle.vectors.specs.Hull.{Hull, Results, join}
use Rattle.vectors.proofs.Rows.{covers-value, covers-top, value-least, top-greatest}
use Rattle.vectors.proofs.Choices.{some-chosen}
use Rattle.vectors.proofs.Hulls.{Inhabited, hull-iff}
use Rattle.vectors.proofs.Joins.{hull-join}
use Rattle.vectors.proofs.Bests.{best-of-hull}
use Rattle.operations.specs.Memory.{load_number}
use Rattle.lookups.specs.Lookup.{greatest, names, zero_row, join_if, join_named, load_row}
use Rattle.lookups.proofs.Named.{names-covered, covered-named, Cell, hull-cell, some-cell, cells-formed, zero-cell, zero-only, cell_at}

record NamedBelow (w : ℕ) (a : Row) (cells : List Row) (k n : ℕ) : Type 0 where
  pub cell : ℕ
  pub below : cell < k
  pub named : Covers a cell
  pub number : Covers (get_or cells cell (zero_row w)) n

-- ---- choices of the cells

-- one that has n in cell j
choose-at : (cells : List Row) → All WellFormed cells → (z : Row) (n j : ℕ) → j < length cells → Covers (get_or cells j z) n → (ms : List ℕ) × Chosen cells ms × (get_or ms j 0 ≡ n)
choose-at [] C z n j h d = absurd (omega arith)
choose-at (c ∷ cs) C z n zero h d = let (ms, e) = some-chosen cs C.1 in (n ∷ ms, (d, e), refl)
choose-at (c ∷ cs) C z n (suc j) h d = let (ms, e, p) = choose-at cs C.1 z n j (omega arith) d in (c.value ∷ ms, (covers-value c C.0, e), p)

chosen_at : (cells : List Row) (ms : List ℕ) → Chosen cells ms → (z : Row) (j : ℕ) → j < length cells → Covers (get_or cells j z) (get_or ms j 0)
chosen_at [] ms c z j h = absurd (omega arith)
chosen_at (x ∷ cells) [] c z j h = absurd c
chosen_at (x ∷ cells) (m ∷ ms) c z zero h = c.0
chosen_at (x ∷ cells) (m ∷ ms) c z (suc j) h = chosen_at cells ms c.1 z j (omega arith)

pub chosen-past : (cells : List Row) (ms : List ℕ) → Chosen cells ms → (j : ℕ) → length cells ≤ j → get_or ms j 0 ≡ 0
chosen-past [] [] c j h = refl
chosen-past [] (m ∷ ms) c j h = absurd c
chosen-past (x ∷ cells) [] c j h = absurd c
chosen-past (x ∷ cells) (m ∷ ms) c zero h = absurd (omega arith)
chosen-past (x ∷ cells) (m ∷ ms) c (suc j) h = chosen-past cells ms c.1 j (omega arith)

module _ (w : ℕ) (a : Row) (A : WellFormed a) (cells : List Row) (C : All (Cell w) cells) where
  -- ---- the join of the cells that the address may name

  some-named : (k : ℕ) → a.value < k → Inhabited (NamedBelow w a cells k)
  some-named k h =
      let s = some-cell w (get_or cells a.value (zero_row w)) (cell_at w cells C a.value) in
      record { member = s.member; is_inside = record { cell = a.value; below = h; named = covers-value a A; number = s.is_inside } }

  -- one cell more
  join-next : (x : ℕ) (r : Row) → a.value < x → Hull w (NamedBelow w a cells x) r → Hull w (NamedBelow w a cells (suc x)) (join_if (names a x) r (get_or cells x (zero_row w)))
  join-next x r l H =
      by_cond (Hull w (NamedBelow w a cells (suc x))) (names a x) (join r (get_or cells x (zero_row w))) r
      (λ t. hull-iff w (λ n. NamedBelow w a cells x n ⊎ Covers (get_or cells x (zero_row w)) n) (NamedBelow w a cells (suc x)) (join r (get_or cells x (zero_row w)))
      (λ n p. elim p [
        | inl N ↦ wider n N
        | inr d ↦ record { cell = x; below = omega arith; named = covered-named a A x t; number = d }
      ])
      (λ n N. elim (ℕ_discrete N.cell x) [
        | yes e ↦ inr (subst (λ (y : ℕ). Covers (get_or cells y (zero_row w)) n) e N.number)
        | no e ↦ inl (narrower n N e)
      ])
      (hull-join w (NamedBelow w a cells x) (Covers (get_or cells x (zero_row w))) r (get_or cells x (zero_row w)) H (hull-cell w (get_or cells x (zero_row w)) (cell_at w cells C x)) (some-named x l) (some-cell w (get_or cells x (zero_row w)) (cell_at w cells C x))))
      (λ t. hull-iff w (NamedBelow w a cells x) (NamedBelow w a cells (suc x)) r wider
      (λ n N. narrower n N (λ e. T_not (names a x) t (names-covered a A x (subst (Covers a) e N.named))))
      H)
    where
      wider : (n : ℕ) → NamedBelow w a cells x n → NamedBelow w a cells (suc x) n
      wider n N = record { cell = N.cell; below = let b = N.below in omega arith; named = N.named; number = N.number }

      narrower : (n : ℕ) (N : NamedBelow w a cells (suc x) n) → ¬ (N.cell ≡ x) → NamedBelow w a cells x n
      narrower n N e = record { cell = N.cell; below = let b = N.below in omega arith; named = N.named; number = N.number }

  joined-hull : (j : ℕ) → Hull w (NamedBelow w a cells (a.value + suc j)) (join_named w a cells j)
  unfolding join_named
  joined-hull zero =
      hull-iff w (Covers (get_or cells a.value (zero_row w))) (NamedBelow w a cells (a.value + 1)) (get_or cells a.value (zero_row w))
      (λ n c. record { cell = a.value; below = omega arith; named = covers-value a A; number = c })
      (λ n N.
      let l = value-least a N.cell A N.named in
      let b = N.below in
      let e : N.cell ≡ a.value = omega arith in
      subst (λ (x : ℕ). Covers (get_or cells x (zero_row w)) n) e N.number)
      (hull-cell w (get_or cells a.value (zero_row w)) (cell_at w cells C a.value))
  joined-hull (suc j) =
      let e : suc (a.value + suc j) ≡ a.value + suc (suc j) = omega arith in
      subst (λ (k : ℕ). Hull w (NamedBelow w a cells k) (join_named w a cells (suc j))) e (join-next (a.value + suc j) (join_named w a cells j) (omega arith) (joined-hull j))

  -- ---- the results of a load

  -- an address and a number of the cell there
  load_at : (x n : ℕ) → Covers a x → Covers (get_or cells x (zero_row w)) n → Results load_number (a ∷ cells) n
  load_at x n c d =
      elim (dec_lt x (length cells)) [
        | yes h ↦ let (ms, e, p) = choose-at cells (cells-formed w cells C) (zero_row w) n x h d in record { numbers = x ∷ ms; chosen = (c, e); gives = p }
        | no h ↦
            let past : length cells ≤ x = omega arith in
            let (ms, e) = some-chosen cells (cells-formed w cells C) in
            record { numbers = x ∷ ms; chosen = (c, e); gives = chosen-past cells ms e x past ∙ sym (zero-only w n (subst (λ (r : Row). Covers r n) (get_or-eq_default cells (zero_row w) past) d)) }
      ]

  -- how many cells after that of the least address it may name
  abbrev more : ℕ
  more = min (length cells) (suc (greatest a)) - suc a.value

  abbrev Named : ℕ → Type 0
  Named n = NamedBelow w a cells (a.value + suc more) n

  named-result : (n : ℕ) → Named n → Results load_number (a ∷ cells) n
  named-result n N = load_at N.cell n N.named N.number

  result-named : (ns : List ℕ) → Chosen (a ∷ cells) ns → Named (load_number ns) ⊎ ((load_number ns ≡ 0) × (length cells ≤ greatest a))
  result-named [] c = absurd c
  result-named (x ∷ ms) c =
      let l = top-greatest a x A c.0 in
      elim (dec_lt x (length cells)) [
        | yes h ↦ inl (record { cell = x; below = omega arith; named = c.0; number = chosen_at cells ms c.1 (zero_row w) x h })
        | no h ↦ inr (chosen-past cells ms c.1 x (omega arith), omega arith)
      ]

  load-hull : Hull w (Results load_number (a ∷ cells)) (load_row w a cells)
  unfolding load_row
  load-hull =
      by_cond (Hull w (Results load_number (a ∷ cells))) (leb (length cells) (greatest a)) (join (join_named w a cells more) (zero_row w)) (join_named w a cells more)
      (λ t. hull-iff w (λ n. Named n ⊎ Covers (zero_row w) n) (Results load_number (a ∷ cells)) (join (join_named w a cells more) (zero_row w))
      (λ n p. elim p [
        | inl N ↦ named-result n N
        | inr z ↦ load_at (greatest a) n (covers-top a A) (subst (λ (r : Row). Covers r n) (sym (get_or-eq_default cells (zero_row w) (leb→le (length cells) (greatest a) t))) z)
      ])
      (λ n R. subst (λ (m : ℕ). Named m ⊎ Covers (zero_row w) m) R.gives (elim (result-named R.numbers R.chosen) [
        | inl N ↦ inl N
        | inr z ↦ inr (subst (Covers (zero_row w)) (sym z.0) (covers-value (zero_row w) (zero-cell w).formed))
      ]))
      (hull-join w Named (Covers (zero_row w)) (join_named w a cells more) (zero_row w) (joined-hull more) (hull-cell w (zero_row w) (zero-cell w)) (some-named (a.value + suc more) (omega arith)) (some-cell w (zero_row w) (zero-cell w))))
      (λ t. hull-iff w Named (Results load_number (a ∷ cells)) (join_named w a cells more) named-result
      (λ n R. subst Named R.gives (elim (result-named R.numbers R.chosen) [
        | inl N ↦ N
        | inr z ↦ absurd (T_not (leb (length cells) (greatest a)) t (le→leb (length cells) (greatest a) z.1))
      ]))
      (joined-hull more))

  pub load-best : load_row w a cells ≡ best w load_number (a ∷ cells)
  load-best = best-of-hull w load_number (a ∷ cells) (load_row w a cells) (A, cells-formed w cells C) load-hull
