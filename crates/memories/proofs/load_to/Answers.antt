-- `load_to` meets its contract: the span is a part of the slices. Assumes nothing.
use Prim.Native.Nat.{◌+◌, ◌-◌}
use Rattle.steps.specs.States.{held}
use Rattle.memories.proofs.LoadSteps.{code-ready, code_step}
use native.Mathlib.Omega.{arith}
use Rattle.memories.proofs.load_to.Goals as goal

pub load-r-requires : goal.load-r-requires
load-r-requires c =
    code-ready c.args.width.now (held c.args.mask.now c.args.value.now) c.requires.0 c.args.t c.args.a c.args.base c.args.n c.requires.1
    (c.args.base + c.args.n - c.args.base) (omega arith)

pub returns : goal.returns
returns c =
    code_step c.args.width.now (held c.args.mask.now c.args.value.now) c.requires.0 c.args.t c.args.a c.args.base c.args.n c.requires.1
    (c.args.base + c.args.n - c.args.base) (omega arith)
    c.load-r.result.mask c.load-r.result.value c.load-r.ensures
