-- The basis is that of the setting.
use Rattle.apf_run.specs.Settings.{setting_of}
use Rattle.apf_run.proofs.Thought.{generated, not_generated}
use Rattle.apf_run.proofs.program.code_of.Goals as goal

pub returns-then-limit-need : goal.returns-then-limit-need
returns-then-limit-need c = not_generated (setting_of c.args.values.now) c.basis_of-basis.result c.basis_of-basis.ensures _ _ c.base-need.ensures.value c.limit-limit.ensures.value c.if-limit-need.true

pub returns : goal.returns
returns c =
    generated (setting_of c.args.values.now) c.basis_of-basis.result c.basis_of-basis.ensures _ _ c.in_ok-code.code c.base-need.ensures.value c.limit-limit.ensures.value c.if-limit-need.false
    (record {
      basis = c.basis_of-basis.result;
      of = c.basis_of-basis.ensures;
      bytes = c.in_ok-code.ensures.bytes;
      means = c.in_ok-code.ensures.means;
      short = c.in_ok-code.ensures.short;
    })
