use Rattle.std.proofs.Common.{◌∙◌, arith}
use Rattle.apf_run.proofs.Made.{text_short, read_as, none_bad}
use Rattle.apf_run.proofs.make.read_made.Goals as goal

pub read_script-requires : goal.read_script-requires
read_script-requires c = text_short c.args.n c.requires _ (c.as_slice.ensures ∙ c.in_ok-text.ensures)

pub returns-in-Ok-clause-script : goal.returns-in-Ok-clause-script
returns-in-Ok-clause-script c = read_as c.args.n c.requires _ (c.as_slice.ensures ∙ c.in_ok-text.ensures) c.in-Ok.script c.in-Ok.ensures.exact

pub returns-in-Ok-clause-few_events : goal.returns-in-Ok-clause-few_events
returns-in-Ok-clause-few_events c = omega (arith, c.in-Ok.ensures.few, text_short c.args.n c.requires _ (c.as_slice.ensures ∙ c.in_ok-text.ensures))

pub unreachable-requires : goal.unreachable-requires
unreachable-requires c =
    none_bad c.args.n c.requires _ (c.as_slice.ensures ∙ c.in_ok-text.ensures) _ _ c.in-Err-Bad.field-0 c.read_script.result c.in-Err-Bad.is c.in-Err-Bad.field-0-is c.read_script.ensures.exact
