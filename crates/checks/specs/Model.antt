-- What the code's answers stand for: the paper's number and place for each case (01, "Calls": "the result, or a refusal holding its number and its place").
--   lent              the table that is lent as five slices
--   judged cs         the first of the checks cs that refuses, or nothing
--   reason_number     the number of a refusal by its reason (01, "Who can cause a refusal"; from 15 on 02)
--   answer_model      of a call's answer;   verdict_model   of a verdict of checks, which has no result
use Rattle.std.specs.Prelude.{List, ℕ, Result, Ok, Err}
use Rattle.checks.specs.declared.refusals.Refusal.{Refusal}
use Rattle.checks.specs.declared.table.Table.{Table as TableLent}
use Rattle.checks.specs.declared.refusals.Reason.{Reason}
use Rattle.checks.specs.declared.refusals.Reason.TheVariants.{Rows, Lengths, Records, Width, Vector, Kind, Row, Word, Fit, Locked, Long, Line, Room, Buffer, Bit, Known, Ends, Empty, Unknown, Pairs, Marks}
use Rattle.checks.specs.Check.{Answer, done, refused, Check, verdict}
use Rattle.checks.specs.Table.{Table}

abbrev pub lent : List ℕ → List ℕ → List ℕ → List ℕ → List ℕ → Table
lent widths locks masks values words = record { widths = widths; locks = locks; masks = masks; values = values; words = words }

abbrev pub in_table : TableLent → Table
in_table t = lent t.width.now t.lock.now t.mask.now t.value.now t.words.now

abbrev pub judged : List Check → Answer (Unit {0})
judged cs = verdict cs tt

abbrev pub reason_number : Reason → ℕ
reason_number Rows = 1
reason_number Lengths = 2
reason_number Records = 3
reason_number Width = 4
reason_number Vector = 5
reason_number Kind = 6
reason_number Row = 7
reason_number Word = 8
reason_number Fit = 9
reason_number Locked = 10
reason_number Long = 11
reason_number Line = 12
reason_number Room = 13
reason_number Buffer = 14
reason_number Bit = 15
reason_number Known = 16
reason_number Ends = 17
reason_number Empty = 18
reason_number Unknown = 19
reason_number Pairs = 20
reason_number Marks = 21

abbrev pub answer_model : {A : Type 0} → Result A Refusal → Answer A
answer_model (Ok a) = done a
answer_model (Err r) = refused (reason_number r.reason) r.place

abbrev pub verdict_model : Result (Unit {0}) Refusal → Answer (Unit {0})
verdict_model r = answer_model r
