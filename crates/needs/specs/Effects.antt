-- The same rule over effects, which knows no kind, no load and no store: a record stays if some target is needed, and a needed target's operands become needed.
-- No contract rests on it; it is shown to be the request's (proofs/Rules.antt).
--   stays_by es need         a target of the effects es is needed
--   written_by es i          row i is a target of the effects es
--   read_by es need i        row i is an operand of an effect of es whose target is needed
--   need_by es need          the rows needed before a record with the effects es
--   kept_by effects n need   the records that stay of the first n
use Rattle.std.specs.Prelude.{Bool, not, cond, ◌&&◌, ◌||◌, List, [], ◌∷◌, ◌++◌, ℕ, zero, suc, eqb}
use Rattle.vectors.specs.Lists.{some_of}
use Rattle.operations.specs.Record.{Effect}
use Rattle.needs.specs.Needs.{among}

unfoldable pub stays_by : List Effect → (ℕ → Bool) → Bool
stays_by es need = some_of (λ e. need e.target) es

abbrev pub written_by : List Effect → ℕ → Bool
written_by es i = some_of (λ e. eqb e.target i) es

abbrev pub read_by : List Effect → (ℕ → Bool) → ℕ → Bool
read_by es need i = some_of (λ e. need e.target && among i e.operands) es

unfoldable pub need_by : List Effect → (ℕ → Bool) → ℕ → Bool
need_by es need i = read_by es need i || (need i && not (written_by es i))

unfoldable pub kept_by : (ℕ → List Effect) → ℕ → (ℕ → Bool) → List ℕ
kept_by effects zero need = []
kept_by effects (suc n) need = cond (stays_by (effects n) need) (kept_by effects n (need_by (effects n) need) ++ n ∷ []) (kept_by effects n need)
