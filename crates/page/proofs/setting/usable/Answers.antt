-- `page::setting::usable` meets its contract: by the setting.
use borrow.Author.Rules.{rules}
use Rattle.page.proofs.Settings.{usable_listed, four_ranges, five_ranges}
use Rattle.page.proofs.setting.usable.Goals as goal

pub returns-in-Baud : goal.returns-in-Baud
returns-in-Baud c = search (usable_listed, rules)

pub returns-in-Accelerometer : goal.returns-in-Accelerometer
returns-in-Accelerometer c = search (usable_listed, four_ranges, rules)

pub returns-in-Gyroscope : goal.returns-in-Gyroscope
returns-in-Gyroscope c = search (usable_listed, five_ranges, rules)
