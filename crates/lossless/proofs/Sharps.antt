-- One last record, of any kind: where every choice from its operand rows is what some plain run brings, each bit that it writes is known exactly if all starts
-- agree on it. Assumes nothing.
--   Brought P first n s l   after the n records from `first` on, each choice from the operand rows of the effect l is what some plain run brings to it
--   Given l, Written l      what the effect l gives in plain runs, and what it leaves in its target
use mathlib.Core.Path.{◌≡◌, refl, sym, ap, ◌∙◌}
use mathlib.Core.Logic.{◌↔◌}
use mathlib.Core.List.{List}
use Prim.Native.Nat.{ℕ, suc, ◌+◌, ◌<◌}
use native.Mathlib.Omega.{arith}
use lib.ListN.{get_or}
use Rattle.bits.specs.Bit.{bit}
use Rattle.bits.proofs.Bits.{bit-lt}
use Rattle.vectors.specs.Lists.{All}
use Rattle.vectors.specs.Row.{Covers, KnownAs}
use Rattle.vectors.specs.Choice.{Chosen}
use Rattle.vectors.specs.Best.{Exact}
use Rattle.vectors.proofs.Lists.{all-imp, all_both, all-for, pointwise-map}
use Rattle.operations.specs.Record.{Effect, width_at}
use Rattle.checks.specs.Table.{State, row_at}
use Rattle.steps.specs.Step.{operand_rows, operand_numbers, Program, after, plain_after}
use Rattle.steps.specs.States.{StateFits, CoversState}
use Rattle.tables.proofs.Fits.{Fit, FitProgram}
use Rattle.tables.proofs.Steps.{step_after, plain-targets}
use Rattle.tables.proofs.Points.{stretch, after-fits}
use Rattle.lossless.specs.Claims.{Sharp}
use Rattle.lossless.proofs.Assign.{values-cover}

abbrev pub Brought : Program → ℕ → ℕ → State → Effect → Type 0
Brought P first n s l =
    (ms : List ℕ) → Chosen (operand_rows P.widths (after P first n s) l) ms → (ns : List ℕ) × CoversState P.widths s ns × (operand_numbers (plain_after P first n ns) l ≡ ms)

module _ (P : Program) (F : FitProgram P) (first n : ℕ) (h : first + n < P.count) (s : State) (S : StateFits P.widths s) where
  abbrev ws : List ℕ
  ws = P.widths

  abbrev Start : List ℕ → Type 0
  Start ns = CoversState P.widths s ns

  abbrev number : List ℕ → ℕ → ℕ
  number ns i = get_or (plain_after P first (suc n) ns) i 0

  abbrev Given : Effect → Type 0
  Given l = (ns : List ℕ) → Start ns → number ns l.target ≡ l.value (operand_numbers (plain_after P first n ns) l)

  abbrev Written : Effect → Type 0
  Written l = Exact (width_at ws l.target) l.value (operand_rows ws (after P first n s) l) (row_at ws (after P first (suc n) s) l.target)

  covers_at : (ns : List ℕ) → Start ns → CoversState ws (after P first n s) (plain_after P first n ns)
  covers_at ns T = (stretch P F first n (omega arith) s S).plain_runs ns T n (omega arith)

  sharp-one : (l : Effect) → Fit ws l → Given l → Brought P first n s l → Written l → Sharp ws s (plain_after P first (suc n)) (after P first (suc n) s) l.target
  sharp-one l G given brought X =
      record {
        known_as = known_as;
        known_iff = λ k h. (
          (λ z ns ms T U. as-known k h z ns T ∙ sym (as-known k h z ms U)),
          (λ agree. ((known_as k h (bit (number s.values l.target) k) (bit-lt _ k)).1 (λ ms U. agree ms s.values U (values-cover ws s S))).known),
        );
      }
    where
      known_as : (k : ℕ) → k < width_at ws l.target → (b : ℕ) → b < 2 → KnownAs (row_at ws (after P first (suc n) s) l.target) k b ↔ ((ns : List ℕ) → Start ns → bit (number ns l.target) k ≡ b)
      known_as k h b hb = (
        (λ K ns T. ap (λ (m : ℕ). bit m k) (given ns T) ∙ (X.known_iff k h b hb).0 K (operand_numbers (plain_after P first n ns) l)
            (pointwise-map Covers (row_at ws (after P first n s)) (λ i. get_or (plain_after P first n ns) i 0) (covers_at ns T).covers l.operands G.operands_in)),
        (λ all. (X.known_iff k h b hb).1 (λ ms M.
            let (ns, T, reads) = brought ms M in
            ap (λ (m : ℕ). bit m k) (ap l.value (sym reads) ∙ sym (given ns T)) ∙ all ns T)),
      )

      as-known : (k : ℕ) → k < width_at ws l.target → bit (row_at ws (after P first (suc n) s) l.target).mask k ≡ 0
          → (ns : List ℕ) → Start ns → bit (number ns l.target) k ≡ bit (row_at ws (after P first (suc n) s) l.target).value k
      as-known k h z ns T = (known_as k h (bit (row_at ws (after P first (suc n) s) l.target).value k) (bit-lt _ k)).0 (record { known = z; as_value = refl }) ns T

  -- of each effect of the record, which may have several
  pub sharp : All (Brought P first n s) (P.effects (first + n)) → All (λ l. Sharp ws s (plain_after P first (suc n)) (after P first (suc n) s) l.target) (P.effects (first + n))
  unfolding after plain_after
  sharp B =
      let es = P.effects (first + n) in
      let G = F (first + n) h in
      let given : All Given es = all-imp (λ l f ns T. f (ns, T)) es (all-for {B = (ns : List ℕ) × Start ns}
      (λ r l. number r.0 l.target ≡ l.value (operand_numbers (plain_after P first n r.0) l)) es
      (λ r. plain-targets ws es G (plain_after P first n r.0) (covers_at r.0 r.1).count)) in
      all_both {Q = λ l. Fit ws l × Given l} {R = λ l. Brought P first n s l × Written l} (λ l p q. sharp-one l p.0 p.1 q.0 q.1) es
      (all_both (λ l f g. (f, g)) es G.fit given) (all_both (λ l b x. (b, x)) es B (step_after ws (after P first n s) (after-fits P first s S n) es G).targets)
