-- A host's answer to write and to read says what the call's own answer says, with what the call leaves. Assumes nothing.
use mathlib.Core.Path.{◌≡◌, sym, ap, ◌∙◌}
use mathlib.Core.List.{List}
use Prim.Native.Nat.{ℕ}
use Rattle.checks.specs.Table.{Table}
use Rattle.checks.specs.Model.{answer_model}
use Rattle.texts.specs.Calls.{write_of, read_of}
use Rattle.std.specs.Prelude.{Result}
use Rattle.checks.specs.declared.refusals.Refusal.{Refusal}
use Rattle.texts.specs.declared.Counts.{Counts as Found}
use Rattle.texts.specs.Model.{write_left, read_model, read_left}
use Rattle.rifflerleek.specs.declared.Answer.{Answer}
use Rattle.rifflerleek.specs.Host.{number_answer, counts_answer, outcome, host_leaves, host_read}

-- r: the call's answer; h: what the host is handed for it; old, new and left: what is lent and left

pub write-hosted : (t : Table) (old new : List ℕ) (r : Result ℕ Refusal) (h : Answer) → h ≡ number_answer (answer_model r) → write_left r new ≡ write_of t old
    → outcome h new ≡ host_leaves (write_of t old)
write-hosted t old new r h e k = ap (λ (a : Answer). outcome a new) e ∙ ap host_leaves k

-- s: what the call's answer is found to be
pub read-hosted : (text : List ℕ) (t left : Table) (r s : Result Found Refusal) (h : Answer) → r ≡ s → h ≡ counts_answer (read_model s) → read_left r left ≡ read_of text t
    → outcome h left ≡ host_read (read_of text t)
read-hosted text t left r s h g e k = ap (λ (a : Answer). outcome a left) e ∙ ap (λ (x : Result Found Refusal). host_read (read_left x left)) (sym g) ∙ ap host_read k
