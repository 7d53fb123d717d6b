-- The tables of requests 02, 03, 05 and 12, computed.
use mathlib.Core.Path.{refl}
use Rattle.page.specs.Settings.{setting_of, usable, storable}
use Rattle.page.specs.Page.{all_storable, writing, factory_page}
use Rattle.page.specs.Lookup.{entry_from, entry_of, part_of, body_of, held_under, values_in}
use Rattle.page.specs.Sound.{sound, page_writing}
use Rattle.message.specs.Fields.{fields_of}
use Rattle.command.specs.Command.{command_of, subject_of}
use Rattle.command.specs.Errors.{field_wrong, field_error, command_error}
use Rattle.command.specs.Numbers.{number_error}
use Rattle.command.specs.Effects.{start_settings}
use Rattle.command.specs.Outcome.{field_outcome, fields_outcome}
use Rattle.command.specs.Handle.{command_outcome, numbered_outcome, message_outcome}
use Rattle.command.specs.Answer.{looked_up, loaded_from}
use Rattle.command.specs.Examples.{ExampleLines}
use Rattle.command.specs.Older.{OlderLines}
use Rattle.command.specs.ReadOnlyExamples.{ReadOnlyLines}

pub example_lines : ExampleLines
unfolding setting_of usable storable all_storable writing factory_page entry_from entry_of part_of body_of held_under values_in page_writing fields_of command_of subject_of field_wrong field_error command_error number_error field_outcome fields_outcome command_outcome numbered_outcome message_outcome looked_up loaded_from start_settings
example_lines = refl

pub older_lines : OlderLines
unfolding setting_of usable storable all_storable writing factory_page entry_from entry_of part_of body_of held_under values_in page_writing fields_of command_of subject_of field_wrong field_error command_error number_error field_outcome fields_outcome command_outcome numbered_outcome message_outcome looked_up loaded_from start_settings sound
older_lines = record { sound_page = refl; lines = refl }

pub read_only_lines : ReadOnlyLines
unfolding setting_of usable storable all_storable writing factory_page entry_from entry_of part_of body_of held_under values_in page_writing fields_of command_of subject_of field_wrong field_error command_error number_error field_outcome fields_outcome command_outcome numbered_outcome message_outcome looked_up loaded_from start_settings
read_only_lines = refl
