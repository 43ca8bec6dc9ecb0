-- The law of kernels that compare two operands by an order, over the key by which they are ordered. Assumes nothing.
--   KeyExtremes key r least greatest   the least and the greatest key of the numbers that r covers
--   less key                        the test: the first number's key is below the second's
use Rattle.std.proofs.Common.{◌≡◌, ℕ, ◌≤◌, Bool, not, ltb, leb, List, [], ◌∷◌, get_or, refl, arith, le→leb, ltb→lt, lt→ltb, leb→le, nltb→le}
use lib.Arith.{le→nltb}
use Rattle.bits.specs.Bit.{digit}
use Rattle.vectors.specs.Row.{Row, row, WellFormed, Covers}
use Rattle.vectors.specs.Best.{best}
use Rattle.vectors.proofs.Rows.{top, covers-value, covers-top, value-least, top-greatest}
use Rattle.vectors.proofs.Operands.{chosen_at}
use Rattle.logic.proofs.Tests.{Tells, Tested, tests-best}

-- a covered number, with its key
pub record Reached (key : ℕ → ℕ) (r : Row) (x : ℕ) : Type 0 where
  pub member : ℕ
  pub covered : Covers r member
  pub key_is : key member ≡ x

pub record KeyExtremes (key : ℕ → ℕ) (r : Row) (least greatest : ℕ) : Type 0 where
  pub low : Reached key r least
  pub high : Reached key r greatest
  pub from : (n : ℕ) → Covers r n → least ≤ key n
  pub to : (n : ℕ) → Covers r n → key n ≤ greatest

abbrev pub less : (ℕ → ℕ) → List ℕ → Bool
less key ns = ltb (key (get_or ns 0 0)) (key (get_or ns 1 0))

-- known as 1 if the greatest of a is below the least of b, as 0 if the least of a is at least the greatest of b, else X
pub orders-best : (key : ℕ → ℕ) (a b : Row) (la ha lb hb m v : ℕ) → WellFormed a → WellFormed b → KeyExtremes key a la ha → KeyExtremes key b lb hb
    → Tested (leb lb ha) (ltb la hb) m v → row 1 m v ≡ best 1 (λ ns. digit (less key ns)) (a ∷ b ∷ [])
orders-best key a b la ha lb hb m v A B E F = tests-best (less key) (a ∷ b ∷ []) (leb lb ha) (ltb la hb) m v (A, (B, tt)) fails holds
  where
    fails : Tells (a ∷ b ∷ []) (λ ns. not (less key ns)) (leb lb ha)
    fails =
        record {
          some = λ t.
              let p = E.high in
              let q = F.low in
              let h = leb→le lb ha t in
              (p.member ∷ q.member ∷ [], (p.covered, (q.covered, tt)), le→nltb (key p.member) (key q.member) (let x = p.key_is in let y = q.key_is in omega arith));
          every = λ ns c t.
              let x = E.to (get_or ns 0 0) (chosen_at (a ∷ b ∷ []) ns c 0) in
              let y = F.from (get_or ns 1 0) (chosen_at (a ∷ b ∷ []) ns c 1) in
              let z = nltb→le (key (get_or ns 0 0)) (key (get_or ns 1 0)) t in
              le→leb lb ha (omega arith);
        }

    holds : Tells (a ∷ b ∷ []) (less key) (ltb la hb)
    holds =
        record {
          some = λ t.
              let p = E.low in
              let q = F.high in
              let h = ltb→lt la hb t in
              (p.member ∷ q.member ∷ [], (p.covered, (q.covered, tt)), lt→ltb (key p.member) (key q.member) (let x = p.key_is in let y = q.key_is in omega arith));
          every = λ ns c t.
              let x = E.from (get_or ns 0 0) (chosen_at (a ∷ b ∷ []) ns c 0) in
              let y = F.to (get_or ns 1 0) (chosen_at (a ∷ b ∷ []) ns c 1) in
              let z = ltb→lt (key (get_or ns 0 0)) (key (get_or ns 1 0)) t in
              lt→ltb la hb (omega arith);
        }

-- ---- the unsigned order

pub unsigned : (r : Row) → WellFormed r → KeyExtremes (λ n. n) r r.value (top r)
unsigned r F =
    record {
      low = record { member = r.value; covered = covers-value r F; key_is = refl };
      high = record { member = top r; covered = covers-top r F; key_is = refl };
      from = λ n c. value-least r n F c;
      to = λ n c. top-greatest r n F c;
    }
