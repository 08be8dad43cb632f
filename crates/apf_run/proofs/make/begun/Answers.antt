use Rattle.apf_run.proofs.Made.{begun_made, none_large}
use Rattle.apf_run.proofs.make.begun.Goals as goal

pub returns-clause-ok : goal.returns-clause-ok
returns-clause-ok c = begun_made c.args.n c.in_ok-script.script c.in_ok-script.ensures.script c.begin.result c.requires c.begin.ensures.ok

pub returns-clause-no_limit : goal.returns-clause-no_limit
returns-clause-no_limit c need limit e =
    let p = c.begin.ensures.too_large need limit e in
    none_large c.args.n c.in_ok-script.script c.in_ok-script.ensures.script need limit p.0 p.1 p.2
