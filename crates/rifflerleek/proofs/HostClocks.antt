-- A host's answers to settle and to compare_states say and claim what the calls' own answers do. Assumes nothing.
use mathlib.Core.Path.{◌≡◌, refl, sym, ap, ◌∙◌}
use mathlib.Core.Bool.{cond}
use mathlib.Core.List.{List}
use Prim.Native.Nat.{ℕ, ◌≤◌}
use native.Mathlib.Omega.{arith}
use lib.Dec.{eqb}
use Rattle.checks.specs.Check.{Answer, done, refused, verdict}
use Rattle.checks.specs.Table.{State, Table, start_of}
use Rattle.checks.specs.Model.{answer_model}
use Rattle.tables.specs.Run.{full_run}
use Rattle.steps.specs.States.{held}
use Rattle.checks.proofs.Leaving.{leaving-answer}
use Rattle.orders.specs.declared.Order.{Order}
use Rattle.orders.specs.declared.Order.TheVariants.{Equal, Inside, Around, NoneOfThese}
use Rattle.orders.specs.Order.{compare_of, OrderMeans}
use Rattle.rounds.specs.Clock.{pairs_of, rounds_of, last_start}
use Rattle.rounds.specs.Settle.{settle_checks, settle_of, Settles}
use Rattle.std.specs.Prelude.{Result}
use Rattle.checks.specs.declared.refusals.Refusal.{Refusal}
use Rattle.clocks.specs.Model.{settled}
use Rattle.rifflerleek.specs.declared.Answer.{Answer as HostAnswer}
use Rattle.rifflerleek.specs.Host.{number_answer, order_number, order_answer, outcome, host_leaves}
use Rattle.rifflerleek.proofs.Numbered.{settle-refused, compare-refused}
use Rattle.rifflerleek.proofs.HostLeaves.{claims-hosted}

module _ (t : Table) (ss ns : List ℕ) where
  numbered : (n j : ℕ) → (settle_of t ss ns).answer ≡ refused n j → 1 ≤ n
  unfolding settle_of
  numbered n j e = settle-refused t ss ns n j (sym (leaving-answer (start_of t) (full_run t (last_start t (pairs_of ss ns))) (verdict (settle_checks t ss ns) (rounds_of t (pairs_of ss ns)))) ∙ e)

  -- r: the call's answer; h: what the host is handed for it
  pub settle-hosted : (r : Result ℕ Refusal) (h : HostAnswer) (masks values : List ℕ) → h ≡ number_answer (answer_model r)
      → (settled r masks values ≡ settle_of t ss ns) × ((n : ℕ) → answer_model r ≡ done n → Settles t (pairs_of ss ns) n (held masks values))
      → (outcome h (held masks values) ≡ host_leaves (settle_of t ss ns)) × (h.refusal ≡ 0 → Settles t (pairs_of ss ns) h.result (held masks values))
  settle-hosted r h masks values e f =
      claims-hosted (settle_of t ss ns) numbered (Settles t (pairs_of ss ns)) (answer_model r) h (held masks values) e f

-- ---- compare_states

-- an order is told by its number
abbrev order_at : ℕ → Order
order_at n = cond (eqb n 0) Equal (cond (eqb n 1) Inside (cond (eqb n 2) Around NoneOfThese))

order-told : (o : Order) → order_at (order_number o) ≡ o
order-told Equal = refl
order-told Inside = refl
order-told Around = refl
order-told NoneOfThese = refl

module _ (widths : List ℕ) (p q : State) where
  told-order : (a : Answer Order) → a ≡ compare_of widths p q → (o : Order) → (order_answer a).refusal ≡ 0 → (order_answer a).result ≡ order_number o → a ≡ done o
  told-order (done u) e o z n = ap (λ (x : Order). done x) (sym (order-told u) ∙ ap order_at n ∙ order-told o)
  told-order (refused n j) e o z r = absurd (let h = compare-refused widths p q n j (sym e) in omega arith)

  pub compare-hosted : (r s : Result Order Refusal) (h : HostAnswer) → r ≡ s → h ≡ order_answer (answer_model s)
      → (answer_model r ≡ compare_of widths p q) × ((o : Order) → answer_model r ≡ done o → OrderMeans widths p q o)
      → (h ≡ order_answer (compare_of widths p q)) × ((o : Order) → h.refusal ≡ 0 → h.result ≡ order_number o → OrderMeans widths p q o)
  compare-hosted r s h g e f =
      let m = e ∙ ap (λ (x : Result Order Refusal). order_answer (answer_model x)) (sym g) in (
        m ∙ ap order_answer f.0,
        (λ o z n. f.1 o (told-order (answer_model r) f.0 o (ap (λ (a : HostAnswer). a.refusal) (sym m) ∙ z) (ap (λ (a : HostAnswer). a.result) (sym m) ∙ n))),
      )
