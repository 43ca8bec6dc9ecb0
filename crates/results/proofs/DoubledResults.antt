-- The results for one row named twice, for every width and every well-formed row: each entry of the table holds. Assumes nothing.
--   doubled-results   the theorem;   ite-row   ite of a row and itself is the row
use mathlib.Core.Path.{◌≡◌, refl, sym, ap, ◌∙◌, subst}
use mathlib.Core.Bool.{Bool, true, false, cond, ◌&&◌}
use mathlib.Core.List.{List, [], ◌∷◌}
use Prim.Native.Nat.{ℕ, ◌+◌, ◌-◌, ◌*◌, ◌%◌, ◌^◌, ◌<◌}
use native.Mathlib.Nat.{mod_self, le_refl}
use native.Mathlib.Omega.{arith}
use borrow.Author.Tests.{le-ltb, eq-eqb}
use lib.Dec.{T, eqb, eqb→eq}
use lib.ListN.{get_or}
use lib.Bits.{and_self, or_self, xor_self}
use lib.Pow.{pow_pos}
use Rattle.bits.specs.Bit.{bit, digit}
use Rattle.bits.proofs.Bools.{T-left, T-right}
use Rattle.vectors.specs.Lists.{All}
use Rattle.vectors.specs.Row.{Row, Covers}
use Rattle.vectors.proofs.Lists.{◌⨾◌}
use Rattle.vectors.proofs.Rows.{covers-value}
use Rattle.vectors.proofs.Operands.{cons-chosen, one-chosen}
use Rattle.vectors.proofs.BestLaws.{best-ext, best-is-row}
use Rattle.operations.specs.Bitwise.{op_and, op_or, op_xor}
use Rattle.operations.specs.Moves.{op_shl, op_concat}
use Rattle.operations.specs.Arithmetic.{op_add, op_sub, op_eq, op_ult, op_slt, op_ite}
use Rattle.operations.specs.Kinds.{kind_of}
use Rattle.operations.specs.Record.{again}
use Rattle.operations.specs.Result.{Below, arity, result_of, result_once, Ready}
use Rattle.operations.specs.Doubled.{Doubled, doubled, doubled_table, DoubledIs}
use Rattle.operations.proofs.Bounded.{kind-bounded}
use Rattle.logic.proofs.Moving.{moving-best}
use Rattle.logic.proofs.Sources.{concat-moved}
use Rattle.results.proofs.OneNumber.{as_row, as-constant, below_again, moved-again}

pub same_width : (wt w v : ℕ) → T (eqb wt w && eqb wt v) → w ≡ wt
same_width wt w v t = sym (eqb→eq wt w (T-left (eqb wt w) (eqb wt v) t))

one_below : (wt : ℕ) (b : Bool) → T (b && eqb wt 1) → 1 < 2 ^ wt
one_below wt b t = subst (λ (x : ℕ). 1 < 2 ^ x) (sym (eqb→eq wt 1 (T-right b (eqb wt 1) t))) (omega arith)

-- a kind of two operands has no more
by_two : (d : Doubled) → arity d.kind ≡ 2
    → ((wt p : ℕ) (r : Row) → Ready d.kind wt p (r ∷ r ∷ []) → result_once true d.kind wt p (r ∷ r ∷ []) ≡ d.result wt p r []) → DoubledIs d
by_two d e h wt p r [] R = h wt p r R
by_two d e h wt p r (x ∷ l) R = absurd (let c = R.count in omega arith)

-- ---- add: n + n is n · 2^1

add-one : (wt p : ℕ) (r : Row) → Ready op_add wt p (r ∷ r ∷ []) → result_once true op_add wt p (r ∷ r ∷ []) ≡ result_of op_shl wt 1 (r ∷ [])
unfolding op_add op_shl result_once result_of
add-one wt p r R =
    best-ext wt _ _ (r ∷ []) (R.formed.0, tt)
    (one-chosen r (λ ns. op_add.plain wt (r.width ∷ r.width ∷ []) p (again true ns) ≡ op_shl.plain wt (r.width ∷ []) 1 ns)
    (λ n c. let e : n + n ≡ n * 2 ^ 1 = omega arith in ap (λ (x : ℕ). x % 2 ^ r.width) e))

-- ---- concat: both parts are moved bits

concat-one : (wt p : ℕ) (r : Row) → Ready op_concat wt p (r ∷ r ∷ []) → result_once true op_concat wt p (r ∷ r ∷ []) ≡ result_of op_concat wt p (r ∷ r ∷ [])
unfolding op_concat result_once result_of kind_of
concat-one wt p r R =
    let w = r.width in
    let W = R.formed.0 in
    let f : List ℕ → ℕ = op_concat.plain wt (w ∷ w ∷ []) p in
    let M = concat-moved wt w w (eqb→eq wt (w + w) R.fits) in
    let L : (ns : List ℕ) → Below (w ∷ w ∷ []) ns → f ns < 2 ^ wt = λ ns b. kind-bounded 10 wt p (w ∷ w ∷ []) ns R.fits b in
    sym (moving-best wt (λ ns. f (again true ns)) (r ∷ []) (W, tt) (λ ns b. L (again true ns) (below_again w ns b)) (λ k l. moved-again f w k (M k l)))
    ∙ moving-best wt f (r ∷ r ∷ []) R.formed L M

-- ---- ite: the row, however the operands are chosen

cond_same : (b : Bool) (n : ℕ) → cond b n n ≡ n
cond_same true n = refl
cond_same false n = refl

cond-covers : (b : Bool) (r : Row) (x y : ℕ) → Covers r x → Covers r y → Covers r (cond b x y)
cond-covers true r x y c d = c
cond-covers false r x y c d = d

module _ (wt p : ℕ) (r c : Row) (R : Ready op_ite wt p (r ∷ r ∷ c ∷ [])) where
  pub ite-width : r.width ≡ wt
  unfolding op_ite
  ite-width = same_width wt r.width r.width (T-left (eqb wt r.width && eqb wt r.width) (eqb c.width 1) R.fits)

  pub ite-row : result_once true op_ite wt p (r ∷ r ∷ c ∷ []) ≡ r
  unfolding result_once op_ite
  ite-row =
      best-is-row wt _ (r ∷ c ∷ []) r R.formed.0 ite-width (R.formed.0, (R.formed.1.1.0, tt))
      (cons-chosen r (c ∷ []) (λ ns. Covers r (op_ite.plain wt (r.width ∷ r.width ∷ c.width ∷ []) p (again true ns))) (λ n ms d e. cond-covers (eqb (get_or ms 0 0) 1) r n n d d))
      (λ n d. record { numbers = n ∷ c.value ∷ []; chosen = (d, (covers-value c R.formed.1.1.0, tt)); gives = cond_same (eqb c.value 1) n })

  ite-independent : result_of op_ite wt p (r ∷ r ∷ c ∷ []) ≡ r
  unfolding result_of op_ite
  ite-independent =
      best-is-row wt _ (r ∷ r ∷ c ∷ []) r R.formed.0 ite-width R.formed
      (cons-chosen r (r ∷ c ∷ []) (λ ns. Covers r (op_ite.plain wt (r.width ∷ r.width ∷ c.width ∷ []) p ns))
      (λ n ms d. cons-chosen r (c ∷ []) (λ ks. Covers r (op_ite.plain wt (r.width ∷ r.width ∷ c.width ∷ []) p (n ∷ ks))) (λ m ks e g. cond-covers (eqb (get_or ks 0 0) 1) r n m d e) ms))
      (λ n d. record { numbers = n ∷ n ∷ c.value ∷ []; chosen = (d, (d, (covers-value c R.formed.1.1.0, tt))); gives = cond_same (eqb c.value 1) n })

ite-one : (wt p : ℕ) (r : Row) (rest : List Row) → Ready op_ite wt p (r ∷ r ∷ rest) → result_once true op_ite wt p (r ∷ r ∷ rest) ≡ result_of op_ite wt p (r ∷ r ∷ rest)
unfolding op_ite
ite-one wt p r [] R = absurd (let e = R.count in omega arith)
ite-one wt p r (c ∷ []) R = ite-row wt p r c R ∙ sym (ite-independent wt p r c R)
ite-one wt p r (c ∷ x ∷ l) R = absurd (let e = R.count in omega arith)

-- ---- the table

pub doubled-results : All DoubledIs doubled_table
unfolding doubled_table op_and op_or op_xor op_sub op_eq op_ult op_slt op_add op_concat
doubled-results =
    by_two (doubled op_and _) refl (λ wt p r R. as_row op_and wt p r R (same_width wt r.width r.width R.fits) and_self)
    ⨾ by_two (doubled op_or _) refl (λ wt p r R. as_row op_or wt p r R (same_width wt r.width r.width R.fits) or_self)
    ⨾ by_two (doubled op_xor _) refl (λ wt p r R. as-constant op_xor wt p r R 0 (pow_pos wt) xor_self)
    ⨾ by_two (doubled op_concat _) refl concat-one
    ⨾ by_two (doubled op_add _) refl add-one
    ⨾ by_two (doubled op_sub _) refl (λ wt p r R. as-constant op_sub wt p r R 0 (pow_pos wt)
    (λ n. let e : 2 ^ r.width + n - n ≡ 2 ^ r.width = omega arith in ap (λ (x : ℕ). x % 2 ^ r.width) e ∙ mod_self (2 ^ r.width)))
    ⨾ by_two (doubled op_eq _) refl (λ wt p r R. as-constant op_eq wt p r R 1 (one_below wt (eqb r.width r.width) R.fits) (λ n. ap digit (eq-eqb n n refl)))
    ⨾ by_two (doubled op_ult _) refl (λ wt p r R. as-constant op_ult wt p r R 0 (pow_pos wt) (λ n. ap digit (le-ltb n n (le_refl n))))
    ⨾ by_two (doubled op_slt _) refl (λ wt p r R. as-constant op_slt wt p r R 0 (pow_pos wt)
    (λ n. let x : ℕ = n + 2 ^ r.width * bit n (r.width - 1) in ap digit (le-ltb x x (le_refl x))))
    ⨾ ite-one
    ⨾ tt
