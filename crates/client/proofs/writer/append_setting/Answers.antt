-- `client::writer::append_setting` meets its contract: the field with the bytes of a value.
use Rattle.client.proofs.Writings.{appended_word, appended_byte}
use borrow.Author.Rules.{rules}
use Rattle.client.proofs.writer.append_setting.Goals as goal

pub returns-in-Baud : goal.returns-in-Baud
returns-in-Baud c = search (appended_word, rules)

pub returns-in-Accelerometer : goal.returns-in-Accelerometer
returns-in-Accelerometer c = search (appended_byte, rules)
