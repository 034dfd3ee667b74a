-- `meshform::pass_shells` meets its contract: the lines passed were read.
use native.Mathlib.Omega.{arith}
use Rattle.meshform.proofs.Last.{shells_begin, shells_next, shells_stop, shells_over, shells_done}
use Rattle.meshform.proofs.pass_shells.Goals as goal

pub loop-n-init : goal.loop-n-init
loop-n-init c = let a = c.args in shells_begin a.input.now a.from a.first a.shells

pub returns-in_default : goal.returns-in_default
returns-in_default c =
    let a = c.args in
    shells_stop a.input.now a.from a.first a.shells c.loop-n.n c.loop-n.at c.loop-n.invariant (omega arith) c.in_default.ensures.line

pub loop-n-preserved : goal.loop-n-preserved
loop-n-preserved c =
    let a = c.args in
    shells_next a.input.now a.from a.first a.shells c.loop-n.n c.loop-n.at c.loop-n.invariant (omega arith) _ _ c.in-Some.ensures.line

pub returns-then-at-input : goal.returns-then-at-input
returns-then-at-input c =
    let a = c.args in
    shells_over a.input.now a.from a.first a.shells c.loop-n.n c.loop-n.at c.loop-n.invariant (omega arith) (omega arith)

pub returns : goal.returns
returns c =
    let a = c.args in
    shells_done a.input.now a.from a.first a.shells c.loop-n.n c.loop-n.at c.loop-n.invariant (omega arith) (omega arith)
