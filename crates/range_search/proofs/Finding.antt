-- What the code finds: the set is empty, or its smallest and largest number and its best vector. Assumes nothing.
use mathlib.Core.Path.{◌≡◌}
use Prim.Native.Nat.{ℕ, ◌+◌, ◌-◌, ◌≤◌, ◌<◌}
use native.Mathlib.Omega.{arith}
use Rattle.vectors.specs.Row.{Row, row, WellFormed, Covers}
use Rattle.vectors.proofs.Rows.{top, value-least, top-greatest}
use Rattle.std.specs.Prelude.{Some, None}
use Rattle.range_search.specs.Extremes.{Least, Greatest}
use Rattle.range_search.specs.Range.{Between, in_range_of}
use Rattle.range_search.specs.Encoding.{PartUpTo, spanned}
use Rattle.range_search.proofs.Covered.{smallest-from, largest-to}
use Rattle.range_search.proofs.Spans.{span-hull}
use Rattle.range_search.proofs.Answers.{is-empty, is_found}

module _ (r : Row) (F : WellFormed r) (low high : ℕ) where
  pub none_from : top r < low → None ≡ in_range_of r low high
  none_from h = is-empty r low high (λ n b. let t = top-greatest r n F b.covered in let l = b.from in omega arith)

  module _ (s : ℕ) (h : low ≤ top r) (S : Greatest (PartUpTo r.mask (top r - low)) s) where
    L : Least (λ n. Covers r n × (low ≤ n)) (top r - s)
    L = smallest-from r F low s h S

    pub none-to : high < top r - s → None ≡ in_range_of r low high
    none-to above = is-empty r low high (λ n b. let l = L.least n (b.covered, b.from) in let t = b.to in omega arith)

    module _ (below : top r - s ≤ high) where
      pub value_below : r.value ≤ high
      value_below = let v = value-least r (top r - s) F L.is_inside.0 in omega arith

      module _ (t : ℕ) (T : Greatest (PartUpTo r.mask (high - r.value)) t) (wide : r.width ≤ 32) where
        G : Greatest (λ n. Covers r n × (n ≤ high)) (r.value + t)
        G = largest-to r F high t value_below T

        smallest_is : Least (Between r low high) (top r - s)
        smallest_is =
            record {
              is_inside = record { covered = L.is_inside.0; from = L.is_inside.1; to = below };
              least = λ n b. L.least n (b.covered, b.from);
            }

        largest_is : Greatest (Between r low high) (r.value + t)
        largest_is =
            record {
              is_inside = record {
                covered = G.is_inside.0;
                from = (let a = L.is_inside.1 in let b = G.greatest (top r - s) (L.is_inside.0, below) in omega arith);
                to = G.is_inside.1;
              };
              greatest = λ n b. G.greatest n (b.covered, b.to);
            }

        pub found : Some (record {
          mask = (spanned r.mask (top r - s) (r.value + t)).mask;
          value = (spanned r.mask (top r - s) (r.value + t)).value;
          smallest = top r - s;
          largest = r.value + t;
        }) ≡ in_range_of r low high
        found =
            is_found r low high _ (record {
              best_vector = span-hull r F low high (top r - s) (r.value + t) wide smallest_is largest_is;
              smallest_is = smallest_is;
              largest_is = largest_is;
            })

-- the same with the vector's parts for variables
pub none_above : (w m v low high s : ℕ) → WellFormed (row w m v) → low ≤ top (row w m v) → Greatest (PartUpTo m (top (row w m v) - low)) s → high < top (row w m v) - s → None ≡ in_range_of (row w m v) low high
none_above w m v low high s F h S above = none-to (row w m v) F low high s h S above
