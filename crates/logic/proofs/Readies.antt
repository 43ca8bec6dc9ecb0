-- What the checks give of a parameter and of widths, as orders of numbers. Assumes nothing.
use Rattle.std.proofs.Common.{◌≡◌, ℕ, ◌+◌, ◌<◌, ◌≤◌, not, T, List, [], ◌∷◌, subst, arith, eqb→eq, leb→le, nltb→le}
use Rattle.vectors.specs.Row.{Row, row}
use Rattle.operations.specs.Kind.{Use, as_number, Kind}
use Rattle.operations.specs.Moves.{op_extract, op_concat, op_sext}
use Rattle.operations.specs.Faults.{misused}
use Rattle.operations.specs.Limits.{parameter_limit}
use Rattle.operations.specs.Result.{Ready}

pub parameter-below : {kind : Kind} {wt p : ℕ} {rows : List Row} → kind.use_p ≡ as_number → Ready kind wt p rows → p < 32
parameter-below {p = p} e R =
    let l = nltb→le parameter_limit p (subst (λ (u : Use). T (not (misused u p))) e R.parameter) in
    omega arith

pub extract-fits : {wt wa ma va p : ℕ} → Ready op_extract wt p (row wa ma va ∷ []) → p + wt ≤ wa
unfolding op_extract
extract-fits {wt} {wa} {p = p} R = leb→le (p + wt) wa R.fits

pub concat-fits : {wt wa ma va wb mb vb : ℕ} → Ready op_concat wt 0 (row wa ma va ∷ row wb mb vb ∷ []) → wt ≡ wa + wb
unfolding op_concat
concat-fits {wt} {wa} {wb = wb} R = eqb→eq wt (wa + wb) R.fits

pub sext-fits : {wt wa ma va : ℕ} → Ready op_sext wt 0 (row wa ma va ∷ []) → wa ≤ wt
unfolding op_sext
sext-fits {wt} {wa} R = leb→le wa wt R.fits
