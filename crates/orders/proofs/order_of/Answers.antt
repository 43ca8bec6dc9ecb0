-- `orders::order_of` meets its contract: the tests one after another. Assumes nothing.
use mathlib.Core.Path.{◌≡◌, sym, ap, ◌∙◌}
use mathlib.Core.Bool.{Bool, true, false, cond}
use mathlib.Core.List.{List}
use Prim.Native.Nat.{ℕ}
use Rattle.checks.specs.Table.{State}
use Rattle.orders.specs.declared.Order.{Order}
use Rattle.orders.specs.declared.Order.TheVariants.{Equal, Inside, Around, NoneOfThese}
use Rattle.orders.specs.Order.{equal_states, inside_states, order_of}
use Rattle.orders.proofs.order_of.Goals as goal

module _ (widths : List ℕ) (p q : State) where
  abbrev chosen : Bool → Bool → Bool → Order
  chosen a b c = cond a Equal (cond b Inside (cond c Around NoneOfThese))

  is-equal : equal_states widths p q ≡ true → Equal ≡ order_of widths p q
  unfolding order_of
  is-equal e = sym (ap (λ (x : Bool). chosen x (inside_states widths p q) (inside_states widths q p)) e)

  is-inside : equal_states widths p q ≡ false → inside_states widths p q ≡ true → Inside ≡ order_of widths p q
  unfolding order_of
  is-inside e f = sym (λ ι. chosen (e ι) (f ι) (inside_states widths q p))

  is-around : equal_states widths p q ≡ false → inside_states widths p q ≡ false → inside_states widths q p ≡ true → Around ≡ order_of widths p q
  unfolding order_of
  is-around e f g = sym (λ ι. chosen (e ι) (f ι) (g ι))

  is_none : equal_states widths p q ≡ false → inside_states widths p q ≡ false → inside_states widths q p ≡ false → NoneOfThese ≡ order_of widths p q
  unfolding order_of
  is_none e f g = sym (λ ι. chosen (e ι) (f ι) (g ι))

pub returns-then-equal_states : goal.returns-then-equal_states
returns-then-equal_states c = is-equal _ _ _ (sym c.equal_states.ensures ∙ c.if-equal_states.true)

pub returns-then-inside_states : goal.returns-then-inside_states
returns-then-inside_states c =
    is-inside _ _ _ (sym c.equal_states.ensures ∙ c.if-equal_states.false) (sym c.inside_states.ensures ∙ c.if-inside_states.true)

pub returns-then-inside_states-2 : goal.returns-then-inside_states-2
returns-then-inside_states-2 c =
    is-around _ _ _ (sym c.equal_states.ensures ∙ c.if-equal_states.false) (sym c.inside_states.ensures ∙ c.if-inside_states.false) (sym c.inside_states-2.ensures ∙ c.if-inside_states-2.true)

pub returns : goal.returns
returns c =
    is_none _ _ _ (sym c.equal_states.ensures ∙ c.if-equal_states.false) (sym c.inside_states.ensures ∙ c.if-inside_states.false) (sym c.inside_states-2.ensures ∙ c.if-inside_states-2.false)
