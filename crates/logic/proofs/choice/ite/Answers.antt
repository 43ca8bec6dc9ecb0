-- `logic::choice::ite` meets its contract, by the three laws of ite. Assumes nothing.
use Rattle.std.proofs.Common.{arith}
use Rattle.logic.proofs.Choosing.{ite-join, ite-first, ite-second}
use Rattle.logic.proofs.choice.ite.Goals as goal

pub returns-then-c-eq1 : goal.returns-then-c-eq1
returns-then-c-eq1 c =
    let a = c.args in
    ite-join a.w a.a.mask a.a.value a.b.mask a.b.value a.c.mask a.c.value c.requires.1 c.if-c-eq1.true

pub returns-then-c-eq1-2 : goal.returns-then-c-eq1-2
returns-then-c-eq1-2 c =
    let a = c.args in
    let l = c.requires.1.formed.1.1.0.mask_below in
    ite-first a.w a.a.mask a.a.value a.b.mask a.b.value a.c.mask a.c.value c.requires.1 (omega arith) c.if-c-eq1-2.true

pub returns : goal.returns
returns c =
    let a = c.args in
    let F = c.requires.1.formed.1.1.0 in
    let l = F.mask_below in
    let k = F.value_below in
    ite-second a.w a.a.mask a.a.value a.b.mask a.b.value a.c.mask a.c.value c.requires.1 (omega arith) (omega arith)
