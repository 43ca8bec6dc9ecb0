-- Plain numbers for all rows, of which some are put anew. Assumes nothing.
--   assign os ms ns   the numbers ns with ms for the rows os
use mathlib.Core.Path.{◌≡◌, refl, sym, ap₂, ◌∙◌, subst}
use mathlib.Core.List.{List, [], ◌∷◌, map}
use Prim.Native.Nat.{ℕ, ◌<◌}
use lib.ListN.{length, get_or, set, length-set}
use lib.Seq.{get_or-set_same, get_or-set_other}
use Rattle.vectors.specs.Lists.{All, Missing, Distinct}
use Rattle.vectors.specs.Choice.{Chosen}
use Rattle.vectors.proofs.Lists.{all_both}
use Rattle.vectors.proofs.Rows.{covers-value}
use Rattle.checks.specs.Table.{State, row_at}
use Rattle.steps.specs.States.{StateFits, CoversState}
use Rattle.steps.proofs.Put.{covers-set}

-- each row covers its value
pub values-cover : (widths : List ℕ) (s : State) → StateFits widths s → CoversState widths s s.values
values-cover widths s S = record { count = S.values_length; covers = λ i h. covers-value (row_at widths s i) (S.formed i h) }

pub assign : List ℕ → List ℕ → List ℕ → List ℕ
assign [] ms ns = ns
assign (o ∷ os) [] ns = ns
assign (o ∷ os) (m ∷ ms) ns = set (assign os ms ns) o m

assign-length : (os ms ns : List ℕ) → length (assign os ms ns) ≡ length ns
unfolding assign
assign-length [] ms ns = refl
assign-length (o ∷ os) [] ns = refl
assign-length (o ∷ os) (m ∷ ms) ns = length-set (assign os ms ns) o m ∙ assign-length os ms ns

pub assign-missing : (os ms ns : List ℕ) (i : ℕ) → Missing i os → get_or (assign os ms ns) i 0 ≡ get_or ns i 0
unfolding assign
assign-missing [] ms ns i d = refl
assign-missing (o ∷ os) [] ns i d = refl
assign-missing (o ∷ os) (m ∷ ms) ns i d = get_or-set_other (assign os ms ns) o i m 0 (λ p. d.0 (sym p)) ∙ assign-missing os ms ns i d.1

pub assign-covers : (widths : List ℕ) (s : State) (os ms ns : List ℕ) → Chosen (map (row_at widths s) os) ms → CoversState widths s ns → CoversState widths s (assign os ms ns)
unfolding assign
assign-covers widths s [] ms ns c C = C
assign-covers widths s (o ∷ os) [] ns c C = C
assign-covers widths s (o ∷ os) (m ∷ ms) ns c C =
    let D = assign-covers widths s os ms ns c.1 C in
    covers-set widths s (assign os ms ns) o m D.count (λ l. c.0) (λ j h d. D.covers j h)

-- the numbers read are those put
pub assign_reads : (widths : List ℕ) (s : State) (os ms ns : List ℕ) (y : ℕ → ℕ) → Distinct os → All (λ o. o < length ns) os → Chosen (map (row_at widths s) os) ms
    → All (λ o. y o ≡ get_or (assign os ms ns) o 0) os → map y os ≡ ms
unfolding assign
assign_reads widths s [] [] ns y D l c e = refl
assign_reads widths s [] (m ∷ ms) ns y D l c e = absurd c
assign_reads widths s (o ∷ os) [] ns y D l c e = absurd c
assign_reads widths s (o ∷ os) (m ∷ ms) ns y D l c e =
    ap₂ (λ (a : ℕ) (l : List ℕ). a ∷ l)
    (e.0 ∙ get_or-set_same (assign os ms ns) o m 0 (subst (λ (n : ℕ). o < n) (sym (assign-length os ms ns)) l.0))
    (assign_reads widths s os ms ns y D.1 l.1 c.1 (all_both (λ i d q. q ∙ get_or-set_other (assign os ms ns) o i m 0 d) os D.0 e.1))
