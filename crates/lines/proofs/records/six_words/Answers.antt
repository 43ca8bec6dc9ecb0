-- `lines::records::six_words`, by the use of the sixth word. Assumes nothing.
use mathlib.Core.Path.{◌≡◌, refl, sym, ap, ◌∙◌}
use mathlib.Core.Bool.{Bool, true, false}
use mathlib.Core.List.{List, [], ◌∷◌}
use Prim.Native.Nat.{ℕ}
use Rattle.operations.specs.Kind.{Use, as_row, as_number, as_count, as_base, unused, is_row}
use Rattle.operations.specs.Kinds.{kind_of}
use Rattle.operations.specs.declared.descriptions.WordUse.{WordUse}
use Rattle.operations.specs.declared.descriptions.WordUse.TheVariants.{Nothing, Row, Number, Cells}
use Rattle.operations.specs.Encoding.{use_told}
use Rattle.grammar.specs.Words.{extended}
use Rattle.lines.proofs.records.six_words.Goals as goal

is_row_told : WordUse → Bool
is_row_told Nothing = false
is_row_told Row = true
is_row_told Number = false
is_row_told Cells = false

told : (u : Use) → is_row_told (use_told u) ≡ is_row u
unfolding is_row_told
told as_row = refl
told as_number = refl
told as_count = refl
told as_base = refl
told unused = refl

pub returns-in-Row : goal.returns-in-Row
unfolding is_row_told
returns-in-Row c =
    let r = c.args.r in
    ap {B = List ℕ} (λ (b : Bool). r.kind ∷ extended b 0 (r.t ∷ r.a ∷ r.b ∷ r.p ∷ [])) (ap is_row_told (sym c.in-Row.is ∙ c.sixth_use.ensures) ∙ told (kind_of r.kind).use_c)
