-- What the values of the code's own types stand for.
--   edition_model   of an edition;   vector_model   of what a field of letters tells
use Rattle.std.specs.Prelude.{Option}
use Rattle.std.specs.Option.{option_map}
use Rattle.vectors.specs.Row.{Row, row}
use Rattle.grammar.specs.Words.{Edition, edition1, edition2, edition3}
use Rattle.letters.specs.declared.Edition.{Edition as EditionCase}
use Rattle.letters.specs.declared.Edition.TheVariants.{First, Second, Third}
use Rattle.letters.specs.declared.VectorField.{VectorField}

abbrev pub edition_model : EditionCase → Edition
edition_model First = edition1
edition_model Second = edition2
edition_model Third = edition3

abbrev pub vector_model : Option VectorField → Option Row
vector_model f = option_map (λ v. row v.width v.mask v.value) f
