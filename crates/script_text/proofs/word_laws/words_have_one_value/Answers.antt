-- A function that computes has one value.
use Rattle.script_text.proofs.Exactness.{exact-one}
use Rattle.script_text.proofs.NumberWords.{number_exact}
use Rattle.script_text.proofs.DigitWords.{mac_exact, ethertype_exact}
use Rattle.script_text.proofs.AddressWords.{ip_exact, address_exact, endpoint_exact}
use Rattle.script_text.proofs.word_laws.words_have_one_value.Goals as goal

pub returns-clause-numbers : goal.returns-clause-numbers
returns-clause-numbers c limit word m n small = exact-one _ _ (number_exact limit word small) m n

pub returns-clause-macs : goal.returns-clause-macs
returns-clause-macs c word = exact-one _ _ (mac_exact word)

pub returns-clause-ethertypes : goal.returns-clause-ethertypes
returns-clause-ethertypes c word = exact-one _ _ (ethertype_exact word)

pub returns-clause-ips : goal.returns-clause-ips
returns-clause-ips c word = exact-one _ _ (ip_exact word)

pub returns-clause-addresses : goal.returns-clause-addresses
returns-clause-addresses c word = exact-one _ _ (address_exact word)

pub returns-clause-endpoints : goal.returns-clause-endpoints
returns-clause-endpoints c word = exact-one _ _ (endpoint_exact word)
