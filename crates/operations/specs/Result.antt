-- The abstract result of a kind over operand rows, and what the checks give a kernel (01, "Abstract result" and "Records"; 02, request 2).
--   Below ws ns          each number is below 2 to the power of its width
--   widths_of rows        the widths of rows
--   result_of k wt p rows the best vector for the kind k at target width wt, with parameter p, over the operand rows
--   result_once b k wt p rows   the same where b holds and the first two rows are one, which gives one number for both operands
--   arity k              how many operand rows the kind k has, where a span has one cell
--   Ready k wt p rows    the operands passed the checks: their count, well-formed vectors, widths that fit, parameter in range
use Rattle.std.specs.Prelude.{◌≡◌, Bool, not, List, [], ◌∷◌, map, ℕ, ◌^◌, ◌≤◌, ◌<◌, T, length}
use Rattle.vectors.specs.Lists.{All, Pointwise}
use Rattle.vectors.specs.Row.{Row, WellFormed}
use Rattle.vectors.specs.Best.{best}
use Rattle.operations.specs.Kind.{asks, Kind}
use Rattle.operations.specs.Record.{operands, once, again}
use Rattle.operations.specs.Faults.{misused}

abbrev pub Below : List ℕ → List ℕ → Type 0
Below ws ns = Pointwise (λ w n. n < 2 ^ w) ws ns

abbrev pub widths_of : List Row → List ℕ
widths_of rows = map (λ r. r.width) rows

unfoldable pub result_of : Kind → ℕ → ℕ → List Row → Row
result_of k wt p rows = best wt (k.plain wt (widths_of rows) p) rows

-- "The free choice in the best-result claim narrows accordingly"
unfoldable pub result_once : Bool → Kind → ℕ → ℕ → List Row → Row
result_once b k wt p rows = best wt (λ ns. k.plain wt (widths_of rows) p (again b ns)) (once b rows)

abbrev pub arity : Kind → ℕ
arity k = length (operands {A = ℕ} k 0 0 (0 ∷ []))

pub record Ready (k : Kind) (wt p : ℕ) (rows : List Row) : Type 0 where
  pub count : length rows ≡ arity k
  pub formed : All WellFormed rows
  pub wide : 1 ≤ wt
  pub widths : All (λ r. 1 ≤ r.width) rows
  pub fits : T (asks k.rule wt (widths_of rows) p)
  pub parameter : T (not (misused k.use_p p))
