-- What a call's answer says without its result.
--   refusal_in a    whether it refuses, and how
use Rattle.checks.specs.Check.{Answer, done, refused}

abbrev pub refusal_in : {A : Type 0} → Answer A → Answer (Unit {0})
refusal_in (done a) = done tt
refusal_in (refused number place) = refused number place
