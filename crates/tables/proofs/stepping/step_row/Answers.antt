-- `tables::stepping::step_row` meets its contract: the kernel's result over the rows that the words name, put at the target. Assumes nothing.
use mathlib.Core.Path.{refl}
use native.Mathlib.Omega.{arith}
use Rattle.std.proofs.Common.{◌≡◌, ℕ, List}
use Rattle.operations.specs.declared.Record.{Record}
use Rattle.operations.specs.Kinds.{kind_of}
use Rattle.operations.specs.Record.{width_at}
use Rattle.tables.specs.Encoding.{used_row}
use Rattle.steps.specs.States.{held}
use Rattle.tables.proofs.StepLaws.{Loaded, target_in, first_in, second_in, present, code_same, code-ready, code_step}
use Rattle.tables.proofs.stepping.step_row.Goals as goal

-- what is read, under the names of the laws
loaded : (widths : List ℕ) (r : Record) {i j k l wt wa wb : ℕ} → i ≡ r.t → j ≡ r.a
    → k ≡ used_row (kind_of r.kind).use_b r.b → l ≡ used_row (kind_of r.kind).use_c r.c
    → wt ≡ width_at widths i → wa ≡ width_at widths j → wb ≡ width_at widths k → Loaded widths r i j k l wt wa wb
loaded widths r t a b c e f g =
    record { target = t; first = a; second = b; condition = c; target_width = e; first_width = f; second_width = g }

pub bounds-width-i : goal.bounds-width-i
bounds-width-i c =
    let h = target_in c.args.width.now (held c.args.mask.now c.args.value.now) c.args.r c.requires.0 c.requires.1 in
    omega arith

pub bounds-width-j : goal.bounds-width-j
bounds-width-j c =
    let h = first_in c.args.width.now (held c.args.mask.now c.args.value.now) c.args.r c.requires.0 c.requires.1 in
    omega arith

pub bounds-width-k : goal.bounds-width-k
bounds-width-k c =
    let h = second_in c.args.width.now (held c.args.mask.now c.args.value.now) c.args.r c.requires.0 c.requires.1 in
    let e = c.second_row-k.ensures in
    omega arith

-- ---- once all is read but the planes

pub bounds-mask-j : goal.bounds-mask-j
bounds-mask-j c = let p = present c.args.width.now (held c.args.mask.now c.args.value.now) c.args.r c.requires.0 c.requires.1 (loaded c.args.width.now c.args.r refl refl c.second_row-k.ensures c.condition_row-l.ensures refl refl refl) in omega arith

pub bounds-value-j : goal.bounds-value-j
bounds-value-j c = let p = present c.args.width.now (held c.args.mask.now c.args.value.now) c.args.r c.requires.0 c.requires.1 (loaded c.args.width.now c.args.r refl refl c.second_row-k.ensures c.condition_row-l.ensures refl refl refl) in omega arith

pub bounds-mask-k : goal.bounds-mask-k
bounds-mask-k c = let p = present c.args.width.now (held c.args.mask.now c.args.value.now) c.args.r c.requires.0 c.requires.1 (loaded c.args.width.now c.args.r refl refl c.second_row-k.ensures c.condition_row-l.ensures refl refl refl) in omega arith

pub bounds-value-k : goal.bounds-value-k
bounds-value-k c = let p = present c.args.width.now (held c.args.mask.now c.args.value.now) c.args.r c.requires.0 c.requires.1 (loaded c.args.width.now c.args.r refl refl c.second_row-k.ensures c.condition_row-l.ensures refl refl refl) in omega arith

pub bounds-mask-l : goal.bounds-mask-l
bounds-mask-l c = let p = present c.args.width.now (held c.args.mask.now c.args.value.now) c.args.r c.requires.0 c.requires.1 (loaded c.args.width.now c.args.r refl refl c.second_row-k.ensures c.condition_row-l.ensures refl refl refl) in omega arith

pub bounds-value-l : goal.bounds-value-l
bounds-value-l c = let p = present c.args.width.now (held c.args.mask.now c.args.value.now) c.args.r c.requires.0 c.requires.1 (loaded c.args.width.now c.args.r refl refl c.second_row-k.ensures c.condition_row-l.ensures refl refl refl) in omega arith

pub bounds-mask-i : goal.bounds-mask-i
bounds-mask-i c = let p = present c.args.width.now (held c.args.mask.now c.args.value.now) c.args.r c.requires.0 c.requires.1 (loaded c.args.width.now c.args.r refl refl c.second_row-k.ensures c.condition_row-l.ensures refl refl refl) in omega arith

pub bounds-value-i : goal.bounds-value-i
bounds-value-i c = let p = present c.args.width.now (held c.args.mask.now c.args.value.now) c.args.r c.requires.0 c.requires.1 (loaded c.args.width.now c.args.r refl refl c.second_row-k.ensures c.condition_row-l.ensures refl refl refl) in omega arith

pub of_record-planes-requires : goal.of_record-planes-requires
of_record-planes-requires c =
    let l = loaded c.args.width.now c.args.r refl refl c.second_row-k.ensures c.condition_row-l.ensures refl refl refl in
    record { fact = code-ready c.args.width.now (held c.args.mask.now c.args.value.now) c.args.r c.requires.0 c.requires.1 l; va_value = code_same c.args.width.now (held c.args.mask.now c.args.value.now) c.args.r c.requires.0 c.requires.1 l }

pub returns : goal.returns
returns c = code_step c.args.width.now (held c.args.mask.now c.args.value.now) c.args.r c.requires.0 c.requires.1 (loaded c.args.width.now c.args.r refl refl c.second_row-k.ensures c.condition_row-l.ensures refl refl refl) c.of_record-planes.result.mask c.of_record-planes.result.value c.of_record-planes.ensures
