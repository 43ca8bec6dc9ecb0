-- A load as the code makes it: the cells of a span that is lent as two parts, and one turn of its loop. Assumes nothing.
use mathlib.Core.Path.{◌≡◌, refl, sym, ap, ◌∙◌}
use mathlib.Core.List.{List, [], ◌∷◌}
use Prim.Native.Nat.{ℕ, suc, ◌+◌, ◌-◌, ◌≤◌, ◌<◌, min}
use native.Mathlib.Nat.{zero-add}
use native.Mathlib.Omega.{arith}
use lib.Dec.{leb, eqb}
use lib.ListN.{length, get_or}
use lib.Bits.{bit_or}
use lib.Pow.{pow_pos}
use Rattle.bits.proofs.Listed.{get_or-from, length-listed}
use Rattle.vectors.specs.Lists.{All}
use Rattle.vectors.specs.Row.{Row, row}
use Rattle.vectors.specs.Choice.{Chosen}
use Rattle.vectors.specs.Best.{best}
use Rattle.vectors.proofs.ListParts.{listed-all}
use Rattle.vectors.proofs.Rows.{value-least, top-greatest, covers-value}
use Rattle.vectors.proofs.BestLaws.{best-constant}
use Rattle.operations.specs.Memory.{load_number}
use Rattle.lookups.specs.Lookup.{names, zero_row, join_if, join_named, load_row, cell_rows, LoadReady}
use Rattle.lookups.proofs.Named.{Cell, cells-formed}
use Rattle.lookups.proofs.Loads.{chosen-past, load-best}

module _ (w wa ma va : ℕ) (masks values : List ℕ) (R : LoadReady w (row wa ma va) masks values) where
  abbrev a : Row
  a = row wa ma va

  abbrev cells : List Row
  cells = cell_rows w masks values

  cells_are : All (Cell w) cells
  cells_are = listed-all (Cell w) (λ i. row w (get_or masks i 0) (get_or values i 0)) 0 (length masks) (λ i l u. record { width_is = refl; formed = R.formed i (omega arith) })

  count : length cells ≡ length masks
  count = length-listed (λ i. row w (get_or masks i 0) (get_or values i 0)) 0 (length masks)

  cell-is : (i : ℕ) → i < length masks → row w (get_or masks i 0) (get_or values i 0) ≡ get_or cells i (zero_row w)
  cell-is i h =
      ap (λ (j : ℕ). row w (get_or masks j 0) (get_or values j 0)) (sym (zero-add i))
      ∙ sym (get_or-from (λ j. row w (get_or masks j 0) (get_or values j 0)) (zero_row w) 0 (length masks) i h)

  -- no address below the number of cells
  pub load_past : length masks ≤ va → row w 0 0 ≡ best w load_number (a ∷ cells)
  load_past h = sym (best-constant w load_number (a ∷ cells) 0 (R.address, cells-formed w cells cells_are) (pow_pos w) zeros)
    where
      zeros : (ns : List ℕ) → Chosen (a ∷ cells) ns → load_number ns ≡ 0
      zeros [] c = absurd c
      zeros (x ∷ ms) c = let l = value-least a x R.address c.0 in let e = count in chosen-past cells ms c.1 x (omega arith)

  -- ---- the loop

  module _ (end : ℕ) (ee : end ≡ min (length masks) (suc (bit_or va ma))) (h : va < length masks) where
    abbrev Loading : ℕ → ℕ → ℕ → Type 0
    Loading m v i = (va < i) × (i ≤ end) × (row w m v ≡ join_named w a cells (i - suc va))

    -- the cell of the least address
    pub load-start : Loading (get_or masks va 0) (get_or values va 0) (va + 1)
    unfolding join_named
    load-start =
        let z : 0 ≡ va + 1 - suc va = omega arith in
        let l = top-greatest a va R.address (covers-value a R.address) in (
          omega arith,
          omega arith,
          cell-is va h ∙ ap (join_named w a cells) z,
        )

    -- one cell more
    pub load-turn : (i m v m' v' : ℕ) → i < end → Loading m v i → row w m' v' ≡ join_if (eqb (bit_or i ma) (bit_or va ma)) (row w m v) (row w (get_or masks i 0) (get_or values i 0)) → Loading m' v' (i + 1)
    unfolding join_named names
    load-turn i m v m' v' l L f =
        let b = L.0 in
        let j : i ≡ va + suc (i - suc va) = omega arith in
        let z : suc (i - suc va) ≡ i + 1 - suc va = omega arith in (
          omega arith,
          omega arith,
          f ∙ (λ ι. join_if (eqb (bit_or i ma) (bit_or va ma)) (L.2 ι) (cell-is i (omega arith) ι))
              ∙ ap (λ (k : ℕ). join_if (names a k) (join_named w a cells (i - suc va)) (get_or cells k (zero_row w))) j
              ∙ ap (join_named w a cells) z,
        )

    -- all cells that the address may name, and 0 where it may be past them
    pub load-end : (i m v m' v' : ℕ) → end ≤ i → Loading m v i → row w m' v' ≡ join_if (leb (length masks) (bit_or va ma)) (row w m v) (row w 0 0) → row w m' v' ≡ best w load_number (a ∷ cells)
    unfolding load_row
    load-end i m v m' v' l L f =
        let b = L.1 in
        let k : i ≡ min (length masks) (suc (bit_or va ma)) = omega arith in
        f ∙ (λ ι. join_if (leb (length masks) (bit_or va ma)) ((L.2 ∙ ap (λ (k : ℕ). join_named w a cells (k - suc va)) k) ι) (zero_row w))
        ∙ ap (λ (n : ℕ). join_if (leb n (bit_or va ma)) (join_named w a cells (min n (suc (bit_or va ma)) - suc va)) (zero_row w)) (sym count)
        ∙ load-best w a R.address cells cells_are
