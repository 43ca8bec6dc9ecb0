-- The marks taken over as needs, mark by mark. Assumes nothing.
--   Taken marks need₀ need i   the marks before i are taken over, and no byte from i on is set
use mathlib.Core.Path.{◌≡◌, refl, sym, ap, subst, ◌∙◌}
use mathlib.Core.Logic.{◌≢◌}
use mathlib.Core.List.{List}
use Prim.Native.Nat.{ℕ, ◌+◌, ◌≤◌, ◌<◌}
use native.Mathlib.Decide.{ℕ_discrete, dec_lt}
use native.Mathlib.Omega.{arith}
use borrow.Author.Tests.{ne_eqb}
use lib.Dec.{eqb}
use lib.ListN.{length, get_or, set, length-set, get_or-eq_default}
use lib.Seq.{get_or-set_same, get_or-set_other}
use Rattle.needs.specs.Needs.{marked}
use Rattle.needs.specs.Encoding.{ZeroOrOne, RoomForMarks}
use Rattle.needs.proofs.Marks.{set-bytes}

pub record Taken (marks need₀ need : List ℕ) (i : ℕ) : Type 0 where
  pub within : i ≤ length marks
  pub room : length marks ≤ length need
  pub same_length : length need ≡ length need₀
  pub taken : (k : ℕ) → k < i → marked need k ≡ marked marks k
  pub empty : (k : ℕ) → i ≤ k → get_or need k 0 ≡ 0
  pub bytes : ZeroOrOne need

pub taken_start : (marks need : List ℕ) → RoomForMarks marks need → Taken marks need need 0
taken_start marks need R = record { within = omega arith; room = R.room; same_length = refl; taken = λ k h. absurd (omega arith); empty = λ k h. R.empty k; bytes = record { most = λ k. (let e = R.empty k in omega arith) } }

module _ (marks need₀ need : List ℕ) (i : ℕ) (K : Taken marks need₀ need i) (h : i < length marks) where
  more : (need' : List ℕ) → length need' ≡ length need → marked need' i ≡ marked marks i → ((k : ℕ) → k ≢ i → get_or need' k 0 ≡ get_or need k 0) → ZeroOrOne need' → Taken marks need₀ need' (i + 1)
  more need' l e f z =
      record {
        within = omega arith;
        room = let r = K.room in omega arith;
        same_length = l ∙ K.same_length;
        taken = λ k g. elim (ℕ_discrete k i) [
          | yes p ↦ ap (marked need') p ∙ e ∙ sym (ap (marked marks) p)
          | no d ↦ ap (λ (x : ℕ). eqb x 1) (f k d) ∙ K.taken k (omega arith)
        ];
        empty = λ k g. f k (λ p. omega arith) ∙ K.empty k (omega arith);
        bytes = z;
      }

  -- a mark that is set, and one that is not
  pub taken-set : (need' : List ℕ) → need' ≡ set need i 1 → get_or marks i 0 ≡ 1 → Taken marks need₀ need' (i + 1)
  taken-set need' n e =
      more need' (ap length n ∙ length-set need i 1)
      (ap (λ (l : List ℕ). marked l i) n ∙ ap (λ (x : ℕ). eqb x 1) (get_or-set_same need i 1 0 (let r = K.room in omega arith) ∙ sym e))
      (λ k d. ap (λ (l : List ℕ). get_or l k 0) n ∙ get_or-set_other need i k 1 0 d) (subst ZeroOrOne (sym n) (set-bytes need i 1 (omega arith) K.bytes))

  pub taken-left : (need' : List ℕ) → need' ≡ need → get_or marks i 0 ≢ 1 → Taken marks need₀ need' (i + 1)
  taken-left need' n d =
      more need' (ap length n)
      (ap (λ (l : List ℕ). marked l i) n ∙ ap (λ (x : ℕ). eqb x 1) (K.empty i (omega arith)) ∙ sym (ne_eqb (get_or marks i 0) 1 d))
      (λ k e. ap (λ (l : List ℕ). get_or l k 0) n) (subst ZeroOrOne (sym n) K.bytes)

pub taken-end : (marks need₀ need : List ℕ) (i : ℕ) → Taken marks need₀ need i → length marks ≤ i → (k : ℕ) → marked need k ≡ marked marks k
taken-end marks need₀ need i K h k =
    elim (dec_lt k i) [
      | yes l ↦ K.taken k l
      | no l ↦ ap (λ (x : ℕ). eqb x 1) (K.empty k (omega arith) ∙ sym (get_or-eq_default marks 0 (omega arith)))
    ]

-- the same with the bytes set in place
pub taken_one : (marks need₀ need : List ℕ) (i : ℕ) → Taken marks need₀ need i → i < length marks → get_or marks i 0 ≡ 1 → Taken marks need₀ (set need i 1) (i + 1)
taken_one marks need₀ need i K h e = taken-set marks need₀ need i K h (set need i 1) refl e

pub taken_none : (marks need₀ need : List ℕ) (i : ℕ) → Taken marks need₀ need i → i < length marks → get_or marks i 0 ≢ 1 → Taken marks need₀ need (i + 1)
taken_none marks need₀ need i K h d = taken-left marks need₀ need i K h need refl d
