use Rattle.pcap_files.proofs.Walk.{capture-placed}
use Rattle.pcap_files.proofs.laws.records_are_consecutive.Goals as goal

pub returns-clause-places : goal.returns-clause-places
returns-clause-places c bytes = (capture-placed bytes).places

pub returns-clause-each : goal.returns-clause-each
returns-clause-each c bytes = (capture-placed bytes).each

pub returns-clause-end : goal.returns-clause-end
returns-clause-end c bytes = (capture-placed bytes).end

pub returns-clause-fault : goal.returns-clause-fault
returns-clause-fault c bytes = (capture-placed bytes).fault

pub returns-clause-refused : goal.returns-clause-refused
returns-clause-refused c bytes = (capture-placed bytes).refused
