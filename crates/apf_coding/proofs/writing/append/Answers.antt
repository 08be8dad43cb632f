-- After an `Err` the old bytes stand at the front.
use Rattle.apf_coding.proofs.Appends.{extends_more, err_extends_more, on_err}
use Rattle.apf_coding.proofs.writing.append.Goals as goal

pub returns-in_err-append_second-clause-err : goal.returns-in_err-append_second-clause-err
returns-in_err-append_second-clause-err c =
    let first = extends_more c.push.new.self _ c.append_number.new.out c.append_second.new.out c.in_ok-append_number.ensures.ok c.in_err-append_second.ensures.err in
    on_err c.from_residual-in_err-append_second.result _ (extends_more c.args.out.now _ c.push.new.self c.append_second.new.out c.in_ok-push.ensures.ok first)

pub returns-clause-err : goal.returns-clause-err
returns-clause-err c =
    let r = c.append_counted.result in
    let new = c.append_counted.new.out in
    let second = err_extends_more r c.append_number.new.out _ c.append_second.new.out new c.in_ok-append_second.ensures.ok c.append_counted.ensures.err in
    let first = err_extends_more r c.push.new.self _ c.append_number.new.out new c.in_ok-append_number.ensures.ok second in
    err_extends_more r c.args.out.now _ c.push.new.self new c.in_ok-push.ensures.ok first
