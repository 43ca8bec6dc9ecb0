-- `evaluation::evaluate_text` meets its contract: the slices that it lends are empty ones of the sizes that 01 sets. Assumes nothing.
use Rattle.evaluation.specs.Evaluate.{evaluate_of}
use Rattle.evaluation.proofs.Printed.{told-table, told-line}
use Rattle.evaluation.proofs.evaluate_text.Goals as goal

pub returns-in-Ok : goal.returns-in-Ok
unfolding evaluate_of
returns-in-Ok c = told-table c.evaluate_in.result c.evaluate_in.ensures _ c.in-Ok.is

pub returns-in-Err : goal.returns-in-Err
unfolding evaluate_of
returns-in-Err c = told-line c.evaluate_in.result c.evaluate_in.ensures _ c.in-Err.is _ _ _ c.number.ensures c.put_refusal.ensures
