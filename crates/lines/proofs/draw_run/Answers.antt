-- `lines::draw_run` meets its contract.
use Rattle.lines.proofs.Draws.{drawn-run, no_draw}
use Rattle.lines.proofs.draw_run.Goals as goal

pub returns-then-state-eq0 : goal.returns-then-state-eq0
returns-then-state-eq0 c =
    let all = let a = c.args in
    no_draw a.state a.shape a.out.now c.requires.out_value c.if-state-eq0.true in
    record {
      value = all.0;
      out_after = all.1;
    }

pub returns : goal.returns
returns c =
    let all = let a = c.args in
    drawn-run a.state a.shape a.out.now c.requires.out_value c.requires.shape_value _ c.draw.ensures in
    record {
      value = all.0;
      out_after = all.1;
    }
