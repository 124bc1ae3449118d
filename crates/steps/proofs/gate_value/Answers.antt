-- `steps::gate_value` meets its contract. Assumes nothing.
use Rattle.steps.proofs.Gates.{gate_sum}
use Rattle.steps.specs.Gates.{addend_form, u_form, v_form}
use Rattle.slice.specs.Layout.{registers}
use Rattle.field.specs.Forms.{value}
use Rattle.field.specs.Field.{q}
use Prim.Native.Nat.{◌+◌}
use Rattle.steps.proofs.gate_value.Goals as goal

pub returns : goal.returns
returns c =
    let times = c.times in
    let times2 = c.times-2 in
    let register = c.register in
    let register2 = c.register-2 in
    let register3 = c.register-third in
    let addend-value = c.addend_value-addend in
    let p = c.requires in
    let a = c.args in
    let κ = a.weight in
    let r = registers a.column.now in
    rw (c.times-3.ensures.0, c.mul_mod-product.ensures, times.ensures.0, times2.ensures.0, register.ensures, register2.ensures, register3.ensures, addend-value.ensures κ)
    (gate_sum (value q κ r (addend_form a.gate)) (value q κ r (u_form a.gate)) (value q κ r (v_form a.gate)) (r (a.gate.triple + 2)) a.opened.u a.opened.v κ
    (r a.gate.triple) (r (a.gate.triple + 1)) a.own.u a.own.v p.u_value.0 p.u_value.1)
