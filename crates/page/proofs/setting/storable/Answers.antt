-- `page::setting::storable` meets its contract: by the setting.
use borrow.Author.Rules.{rules}
use Rattle.page.proofs.Settings.{storable_listed, four_ranges, seven_ranges}
use Rattle.page.proofs.setting.storable.Goals as goal

pub returns-in-Baud : goal.returns-in-Baud
returns-in-Baud c = search (storable_listed, rules)

pub returns-in-Accelerometer : goal.returns-in-Accelerometer
returns-in-Accelerometer c = search (storable_listed, four_ranges, rules)

pub returns-in-Gyroscope : goal.returns-in-Gyroscope
returns-in-Gyroscope c = search (storable_listed, seven_ranges, rules)
