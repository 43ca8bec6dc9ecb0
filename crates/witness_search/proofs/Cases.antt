-- The two cases of the operands: their vectors are well formed, and their choices are together those of the operands. Assumes nothing.
--   Halves w o c   c 0 and c 1 are two such cases of o, each with a smaller sum of masks
--   halves         those that case_of gives
use mathlib.Core.Path.{◌≡◌, refl}
use mathlib.Core.Bool.{Bool, true, false, cond}
use mathlib.Core.Logic.{◌≢◌, ◌⊎◌}
use mathlib.Core.List.{List, [], ◌∷◌}
use Prim.Native.Nat.{ℕ, ◌+◌, ◌*◌, ◌^◌, ◌<◌}
use native.Mathlib.Nat.{lt_of_lt_of_le}
use native.Mathlib.Omega.{arith}
use lib.Dec.{T, eqb, eqb→eq}
use lib.Count.{count_trailing_zeros}
use lib.Pow.{pow_mono}
use Rattle.bits.proofs.Bits.{bit-or}
use Rattle.bits.proofs.Bools.{eq→eqb}
use Rattle.bits.proofs.Constants.{bit-placed, bit-placed-other}
use Rattle.bits.proofs.LowestBit.{lowest, clear_at, clear-other, clear-less}
use Rattle.vectors.specs.Row.{Row, row, row_of, WellFormed, Covers, Inside}
use Rattle.vectors.specs.Choice.{Chosen}
use Rattle.vectors.proofs.Apart.{chosen-place, apart-place}
use Rattle.vectors.proofs.Narrowed.{Narrows, narrowed-formed, narrowed-inside, narrowed-apart}
use Rattle.columns.specs.Formed.{Formed}
use Rattle.witness_search.specs.declared.Operands.{Operands}
use Rattle.witness_search.specs.Search.{rows_of, lowest_cleared, lowest_as, first_case, second_case, case_of, UnknownLeft}

-- ---- a vector

module _ (w m v : ℕ) (l : m < 2 ^ 32) (F : WellFormed (row w m v)) (n : m ≢ 0) where
  abbrev place : ℕ
  place = count_trailing_zeros 32 m

  -- the vector with its lowest unknown bit known as b
  abbrev lowest_row : ℕ → Row
  lowest_row b = row w (lowest_cleared m) (lowest_as m v b)

  narrows : (b : ℕ) → b < 2 → Narrows (row w m v) place b (lowest_row b)
  narrows b h =
      let u = (lowest 32 m n l).1 in
      record {
        width_is = refl;
        unknown = u;
        mask_at = clear_at 32 m n l;
        mask_other = clear-other 32 m n l;
        value_at = (let o = bit-or v (b * 2 ^ place) place in let e = bit-placed b place h in let z = F.apart place u in omega arith);
        value_other = λ k d. let o = bit-or v (b * 2 ^ place) k in let e = bit-placed-other b place k h d in omega arith;
      }

  lowest-formed : (b : ℕ) → b < 2 → WellFormed (lowest_row b)
  lowest-formed b h = narrowed-formed (row w m v) place b (lowest_row b) F (narrows b h)

  lowest-inside : (b : ℕ) → b < 2 → Inside (lowest_row b) (row w m v)
  lowest-inside b h = narrowed-inside (row w m v) place b (lowest_row b) F (narrows b h)

  lowest-apart : (x : ℕ) → Covers (row w m v) x → Covers (lowest_row 0) x ⊎ Covers (lowest_row 1) x
  lowest-apart = narrowed-apart (row w m v) place (lowest_row 0) (lowest_row 1) F (narrows 0 (omega arith)) (narrows 1 (omega arith))

-- ---- two vectors

pub record Halves (w : ℕ) (o : Operands) (c : ℕ → Operands) : Type 0 where
  pub formed : (b : ℕ) → b < 2 → Formed w (c b).a.mask (c b).a.value (c b).b.mask (c b).b.value
  pub inside : (b : ℕ) → b < 2 → (ns : List ℕ) → Chosen (rows_of w (c b)) ns → Chosen (rows_of w o) ns
  pub either : (ns : List ℕ) → Chosen (rows_of w o) ns → Chosen (rows_of w (c 0)) ns ⊎ Chosen (rows_of w (c 1)) ns
  pub less : (b : ℕ) → (c b).a.mask + (c b).b.mask < o.a.mask + o.b.mask

module _ (w : ℕ) (o : Operands) (F : Formed w o.a.mask o.a.value o.b.mask o.b.value) where
  word : (m v : ℕ) → WellFormed (row w m v) → m < 2 ^ 32
  word m v G = lt_of_lt_of_le G.mask_below (pow_mono F.most)

  first_halves : o.a.mask ≢ 0 → Halves w o (first_case o)
  first_halves n =
      let m = o.a.mask in
      let v = o.a.value in
      let l = word m v F.first in
      let second = row_of w o.b ∷ [] in
      record {
        formed = λ b h. record { most = F.most; first = lowest-formed w m v l F.first n b h; second = F.second };
        inside = λ b h. chosen-place [] second _ (row w m v) (lowest-inside w m v l F.first n b h);
        either = apart-place [] second (row w m v) _ _ (lowest-apart w m v l F.first n);
        less = λ b. omega (arith, clear-less m n);
      }

  second-halves : o.b.mask ≢ 0 → Halves w o (second_case o)
  second-halves n =
      let m = o.b.mask in
      let v = o.b.value in
      let l = word m v F.second in
      let first = row_of w o.a ∷ [] in
      record {
        formed = λ b h. record { most = F.most; first = F.first; second = lowest-formed w m v l F.second n b h };
        inside = λ b h. chosen-place first [] _ (row w m v) (lowest-inside w m v l F.second n b h);
        either = apart-place first [] (row w m v) _ _ (lowest-apart w m v l F.second n);
        less = λ b. omega (arith, clear-less m n);
      }

  pub halves : UnknownLeft o → Halves w o (case_of o)
  unfolding case_of
  halves u = go (eqb o.a.mask 0) (eqb→eq o.a.mask 0) (λ e. eq→eqb e)
    where
      go : (t : Bool) → (T t → o.a.mask ≡ 0) → (o.a.mask ≡ 0 → T t) → Halves w o (λ b. cond t (second_case o b) (first_case o b))
      go true a b = second-halves (λ e. u (a tt) e)
      go false a b = first_halves (λ e. b e)
