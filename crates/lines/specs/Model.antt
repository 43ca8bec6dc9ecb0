-- What the values of the code's own types stand for.
--   lies at bytes   the part of memory that a slice is: where it lies, and its bytes
--   line_model       of a line found;   opening_model   of what the opening of a text says
--   record_model     of what the fields after `op` tell: the record's words
--   record_told e name ns   what the operation's name and the numbers tell in the edition e;   line_told   the line of that
use Rattle.std.specs.Prelude.{◌&&◌, List, ◌∷◌, map, ℕ, Option, Some, None}
use Rattle.std.specs.Option.{option_map}
use Rattle.vectors.specs.Row.{row}
use Rattle.operations.specs.declared.Record.{Record as RecordWords}
use Rattle.operations.specs.Record.{words_of}
use Rattle.vectors.specs.Lists.{all_of}
use Rattle.grammar.specs.Words.{Edition, six_for}
use Rattle.grammar.specs.Cut.{Part}
use Rattle.grammar.specs.Print.{Line, row_line, record_line, outside}
use Rattle.grammar.specs.Line.{is_number, number_of, is_name, number_named}
use Rattle.grammar.specs.Lines.{Opening}
use Rattle.letters.specs.Reads.{reading}
use Rattle.letters.specs.Model.{edition_model}
use Rattle.lines.specs.declared.opening.Opening.{Opening as OpeningFound}
use Rattle.lines.specs.declared.line.Found.{Found}
use Rattle.lines.specs.declared.line.Found.TheVariants.{Row as FoundRow, Record, Outside}

abbrev pub lies : ℕ × ℕ → List ℕ → Part
lies at bytes = record { block = at.0; offset = at.1; bytes = bytes }

abbrev pub line_model : Found → Line
line_model (FoundRow l w m v) = row_line (record { lock = l; vector = row w m v })
line_model (Record r) = record_line (words_of r)
line_model Outside = outside

abbrev pub record_model : Option RecordWords → Option (List ℕ)
record_model r = option_map words_of r

abbrev pub record_told : Edition → List ℕ → List (List ℕ) → Option (List ℕ)
record_told e name ns =
    reading (is_name name e.operations && all_of is_number ns)
    (number_named name e.operations ∷ six_for e (number_named name e.operations) 0 (map number_of ns))

abbrev pub line_told : Option (List ℕ) → Line
line_told (Some words) = record_line words
line_told None = outside

abbrev pub opening_model : OpeningFound → Opening
opening_model o = record { edition = edition_model o.edition; at = o.at; first = o.first }
