-- The steps, one after another.
use Rattle.std.proofs.lemmas.Result.{err_from_is_err_and}
use Rattle.script_text.proofs.Telling.{told_version, told_mac, told_capacity, told_start, told_dropped, told_deny, told_six}
use Rattle.script_text.proofs.head.read_head.Goals as goal

pub returns-in_err-version_line : goal.returns-in_err-version_line
returns-in_err-version_line c =
    let p = err_from_is_err_and c.from_residual.result c.from_residual.ensures.1 in
    rw (p.1, p.2) (told_version c.in_err-version_line.field-0.0 _ _ c.in_err-version_line.ensures.line)

pub returns-in_err-mac : goal.returns-in_err-mac
returns-in_err-mac c =
    let p = err_from_is_err_and c.from_residual-in_err-mac.result c.from_residual-in_err-mac.ensures.1 in
    rw (p.1, p.2) (told_mac c.in_err-mac.field-0.0 _ _ _ _ c.version_line.ensures.end c.in_ok-version_line.ensures.line c.in_err-mac.ensures.line)

pub returns-in_err-capacity : goal.returns-in_err-capacity
returns-in_err-capacity c =
    let p = err_from_is_err_and c.from_residual-in_err-capacity.result c.from_residual-in_err-capacity.ensures.1 in
    rw (p.1, p.2) (told_capacity c.in_err-capacity.field-0.0 _ _ _ _ _ _ _ c.version_line.ensures.end c.mac_line.ensures.end c.in_ok-version_line.ensures.line c.in_ok-mac.ensures.line c.in_err-capacity.ensures.line)

pub returns-in_err-start : goal.returns-in_err-start
returns-in_err-start c =
    let p = err_from_is_err_and c.from_residual-in_err-start.result c.from_residual-in_err-start.ensures.1 in
    rw (p.1, p.2) (told_start c.in_err-start.field-0.0 _ _ _ _ _ _ _ _ _ _ c.version_line.ensures.end c.mac_line.ensures.end c.capacity_line.ensures.end c.in_ok-version_line.ensures.line c.in_ok-mac.ensures.line c.in_ok-capacity.ensures.line c.in_err-start.ensures.line)

pub returns-in_err-drop_802_3 : goal.returns-in_err-drop_802_3
returns-in_err-drop_802_3 c =
    let p = err_from_is_err_and c.from_residual-in_err-drop_802_3.result c.from_residual-in_err-drop_802_3.ensures.1 in
    rw (p.1, p.2) (told_dropped c.in_err-drop_802_3.field-0.0 _ _ _ _ _ _ _ _ _ _ _ _ _ c.version_line.ensures.end c.mac_line.ensures.end c.capacity_line.ensures.end c.start_line.ensures.end c.in_ok-version_line.ensures.line c.in_ok-mac.ensures.line c.in_ok-capacity.ensures.line c.in_ok-start.ensures.line c.in_err-drop_802_3.ensures.line)

pub returns-in_err-deny : goal.returns-in_err-deny
returns-in_err-deny c =
    let p = err_from_is_err_and c.from_residual-in_err-deny.result c.from_residual-in_err-deny.ensures.1 in
    rw (p.1, p.2) (told_deny c.in_err-deny.field-0.0 _ _ _ _ _ _ _ _ _ _ _ _ _ _ _ _ c.version_line.ensures.end c.mac_line.ensures.end c.capacity_line.ensures.end c.start_line.ensures.end c.drop_line.ensures.end c.in_ok-version_line.ensures.line c.in_ok-mac.ensures.line c.in_ok-capacity.ensures.line c.in_ok-start.ensures.line c.in_ok-drop_802_3.ensures.line c.in_err-deny.ensures.line)

pub returns : goal.returns
returns c = told_six _ _ _ _ _ _ _ _ _ _ _ _ _ _ _ _ _ _ c.version_line.ensures.end c.mac_line.ensures.end c.capacity_line.ensures.end c.start_line.ensures.end c.drop_line.ensures.end c.in_ok-version_line.ensures.line c.in_ok-mac.ensures.line c.in_ok-capacity.ensures.line c.in_ok-start.ensures.line c.in_ok-drop_802_3.ensures.line c.in_ok-deny.ensures.line
