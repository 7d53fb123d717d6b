-- `page::setting::setting_of` meets its contract: by the code.
use borrow.Author.Rules.{rules}
use Rattle.page.proofs.Settings.{code_baud, code_accelerometer, code_gyroscope, code_unknown}
use Rattle.page.proofs.setting.setting_of.Goals as goal

pub returns-in-1 : goal.returns-in-1
returns-in-1 c = search (code_baud, rules)

pub returns-in-7 : goal.returns-in-7
returns-in-7 c = search (code_accelerometer, rules)

pub returns-in-8 : goal.returns-in-8
returns-in-8 c = search (code_gyroscope, rules)

pub returns-in_default : goal.returns-in_default
returns-in_default c = search (code_unknown, rules)
