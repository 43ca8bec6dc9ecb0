-- What the calls' answers stand for: the paper's number and values for each case (01, "Calls": "the result, or a refusal holding its number and its place").
--   write_left r out   write's answer, and the buffer at exit
--   counts_model       of the counts that read answers;   read_model   of read's answer;   read_left r slices   that answer, and the slices at exit
use Rattle.std.specs.Prelude.{List, ℕ, Result, Ok, Err}
use Rattle.checks.specs.declared.refusals.Refusal.{Refusal}
use Rattle.checks.specs.Check.{Answer, done, refused}
use Rattle.checks.specs.Table.{Table}
use Rattle.checks.specs.Model.{reason_number, answer_model}
use Rattle.texts.specs.Calls.{Written, Counts, ReadBack}
use Rattle.texts.specs.declared.Counts.{Counts as CountsRead}

abbrev pub write_left : Result ℕ Refusal → List ℕ → Written
write_left r out = record { answer = answer_model r; left = out }

abbrev pub counts_model : CountsRead → Counts
counts_model c = record { rows = c.rows; records = c.records }

abbrev pub read_model : Result CountsRead Refusal → Answer Counts
read_model (Ok c) = done (counts_model c)
read_model (Err r) = refused (reason_number r.reason) r.place

abbrev pub read_left : Result CountsRead Refusal → Table → ReadBack
read_left r slices = record { answer = read_model r; slices = slices }
