-- `page::put::with_code` meets its contract, by the code.
use Rattle.page.proofs.Puts.{with_baud, with_accelerometer, with_gyroscope, with_last_number, with_none}
use borrow.Author.Rules.{rules}
use Rattle.page.proofs.put.with_code.Goals as goal

pub returns-in-1 : goal.returns-in-1
returns-in-1 c = search (with_baud, rules)

pub returns-in-7 : goal.returns-in-7
returns-in-7 c = search (with_accelerometer, rules)

pub returns-in-8 : goal.returns-in-8
returns-in-8 c = search (with_gyroscope, rules)

pub returns-in-112 : goal.returns-in-112
returns-in-112 c = search (with_last_number, rules)

pub returns-in_default : goal.returns-in_default
returns-in_default c = search (with_none, rules)
