-- An input longer than the buffer prints what its first bytes print: both are over 40,000 bytes. Assumes nothing.
use mathlib.Core.Path.{◌≡◌, refl, sym, ap, ◌∙◌}
use mathlib.Core.List.{List}
use Prim.Native.Nat.{ℕ, ◌≤◌, ◌<◌}
use native.Mathlib.Decide.{dec_lt}
use native.Mathlib.Omega.{arith}
use lib.ListN.{length, take}
use lib.Seq.{length-take-le, take_all}
use Rattle.grammar.specs.Limits.{text_limit}
use Rattle.texts.proofs.ReadCall.{refuse-length}
use Rattle.evaluation.specs.Evaluate.{Printed, text_room, HeldOf, refused_line, held_slices, evaluate_of}
use Rattle.evaluation.proofs.Printed.{evaluated_refused, printed-within}

-- "11 over 40,000 bytes"
over : (text : List ℕ) → text_limit < length text → refused_line 11 0 ≡ evaluate_of text
unfolding evaluate_of
over text h = evaluated_refused text held_slices 11 0 held_slices (refuse-length text held_slices refl refl refl h)

-- what is held of an input prints what the input prints
pub held-prints : (text : List ℕ) (n : ℕ) (input : List ℕ) → text_room ≤ length text → HeldOf text n input → evaluate_of (take n text) ≡ evaluate_of input
held-prints text n input room held =
    let e = held.first_bytes in
    elim (dec_lt (length text) (length input)) [
      | yes l ↦
          let k : length (take (length text) input) ≡ length text = length-take-le (length text) input (omega arith) in
          let m = ap length e in
          sym (over (take n text) (omega arith)) ∙ over input (omega arith)
      | no l ↦ ap evaluate_of (e ∙ take_all (length text) input (omega arith))
    ]

-- the bytes counted are there
pub input-within : {text : List ℕ} {n r : ℕ} {old new : List ℕ} → ((input : List ℕ) → HeldOf text n input → Printed (evaluate_of input) r old new) → n ≤ length text → r ≤ length new
input-within {text} {n} p h =
    let k = length-take-le n text h in
    printed-within (p (take n text) (record { first_bytes = sym (take_all (length text) (take n text) (omega arith)) }))
