-- `command::settings::looked_up` meets its contract: by whether the page has the entry, and by the setting.
use Rattle.command.proofs.Answers.{factory_fits}
use Rattle.command.proofs.Loads.{loaded_factory, loaded_baud, loaded_accelerometer, loaded_gyroscope, fits_baud, fits_accelerometer, fits_gyroscope}
use borrow.Author.Rules.{rules}
use Rattle.command.proofs.settings.looked_up.Goals as goal

pub returns-in_default : goal.returns-in_default
returns-in_default c = (search (loaded_factory, rules), search (factory_fits, rules))

pub returns-in-Baud : goal.returns-in-Baud
returns-in-Baud c = (search (loaded_baud, rules), search (fits_baud, rules))

pub returns-in-Accelerometer : goal.returns-in-Accelerometer
returns-in-Accelerometer c = (search (loaded_accelerometer, rules), search (fits_accelerometer, rules))

pub returns-in-Gyroscope : goal.returns-in-Gyroscope
returns-in-Gyroscope c = (search (loaded_gyroscope, rules), search (fits_gyroscope, rules))
