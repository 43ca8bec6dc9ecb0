-- What a reading function's answer says. Assumes nothing.
--   tells, tells-not   the two answers;   told, untold   what a caller learns of them
use mathlib.Core.Path.{◌≡◌, ap, subst}
use mathlib.Core.Bool.{Bool, true, false}
use Rattle.std.specs.Prelude.{Some, None}
use lib.Dec.{T}
use Rattle.letters.specs.Reads.{reading}

pub tells : {A : Type 0} (test : Bool) (value given : A) → T test → given ≡ value → Some given ≡ reading test value
tells true value given t e = ap Some e
tells false value given t e = absurd t

pub tells-not : {A : Type 0} (test : Bool) (value : A) → (T test → ⊥) → None ≡ reading test value
tells-not true value n = absurd (n tt)
tells-not false value n = cc

pub told : {A : Type 0} (test : Bool) (value given : A) → Some given ≡ reading test value → T test × (given ≡ value)
told true value given e = (tt, cc)
told false value given e = absurd (let z : ◌≡◌ {A = Bool} true false = cc in subst T z tt)

pub untold : {A : Type 0} (test : Bool) (value : A) → None ≡ reading test value → T test → ⊥
untold true value e t = let z : ◌≡◌ {A = Bool} true false = cc in subst T z tt
untold false value e t = t
