use Rattle.address_text.proofs.NumberText.{number_read, number_spelled}
use Rattle.address_text.proofs.AddressText.{address_read, address_spelled, socket_read, socket_spelled}
use Rattle.address_text.proofs.laws.spelling.Goals as goal

pub returns-clause-numbers : goal.returns-clause-numbers
returns-clause-numbers c = record { read = number_read; spelled = number_spelled }

pub returns-clause-addresses : goal.returns-clause-addresses
returns-clause-addresses c = record { read = address_read; spelled = address_spelled }

pub returns-clause-sockets : goal.returns-clause-sockets
returns-clause-sockets c = record { read = socket_read; spelled = socket_spelled }
