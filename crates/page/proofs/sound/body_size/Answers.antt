-- `page::sound::body_size` meets its contract: by the code.
use borrow.Author.Rules.{rules}
use Rattle.page.proofs.Walks.{baud_size, accelerometer_size, gyroscope_size, number_size, unknown_size}
use Rattle.page.proofs.sound.body_size.Goals as goal

pub returns-in-1 : goal.returns-in-1
returns-in-1 c = search (baud_size, rules)

pub returns-in-7 : goal.returns-in-7
returns-in-7 c = search (accelerometer_size, rules)

pub returns-in-8 : goal.returns-in-8
returns-in-8 c = search (gyroscope_size, rules)

pub returns-in-112 : goal.returns-in-112
returns-in-112 c = search (number_size, rules)

pub returns-in_default : goal.returns-in_default
returns-in_default c = search (unknown_size, rules)
