-- The sample lines and the examples, computed.
use mathlib.Core.Path.{refl}
use Rattle.stream.specs.Seek.{seek}
use Rattle.history.specs.Restarts.{drained_acts}
use Rattle.message.specs.Message.{message_of, sums_right}
use Rattle.message.specs.Front.{front}
use Rattle.message.specs.Fields.{fields_of}
use Rattle.totals.specs.Tally.{plus_up_to, counted_with}
use Rattle.page.specs.Settings.{setting_of, usable, storable}
use Rattle.page.specs.Page.{all_storable, writing, factory_page}
use Rattle.page.specs.Lookup.{entry_from, entry_of, part_of, body_of, held_under, values_in}
use Rattle.page.specs.Sound.{sound, page_number, page_writing}
use Rattle.command.specs.Command.{command_of, subject_of}
use Rattle.command.specs.Errors.{field_wrong, field_error, command_error}
use Rattle.command.specs.Numbers.{number_error}
use Rattle.command.specs.Numbered.{carried}
use Rattle.command.specs.Outcome.{received_of, field_outcome, fields_outcome}
use Rattle.command.specs.Handle.{command_outcome, numbered_outcome, message_outcome}
use Rattle.command.specs.Effects.{start_settings, settings_usable}
use Rattle.command.specs.Answer.{looked_up, loaded_from, answering}
use Rattle.board.specs.Port.{port_holding}
use Rattle.board.specs.Start.{start_of}
use Rattle.board.specs.Feed.{unsound, feed_number, step_by, call_of}
use Rattle.board.specs.Runs.{calls_from}
use Rattle.board.specs.Samples.{SampleLines}
use Rattle.board.specs.Histories.{acts_from, accepted_from}
use Rattle.board.specs.Examples.{ExampleLines}
use Rattle.board.specs.Older.{OlderLines}
use Rattle.board.specs.Quiet.{QuietLines}
use Rattle.board.specs.ReadOnly.{ReadOnlyLines}
use Rattle.board.specs.Tallied.{TalliedLines}

pub sample_lines : SampleLines
unfolding seek message_of sums_right front fields_of setting_of usable storable all_storable writing factory_page entry_from entry_of part_of body_of held_under values_in sound page_number page_writing command_of subject_of field_wrong field_error command_error field_outcome fields_outcome command_outcome message_outcome received_of looked_up loaded_from start_settings answering settings_usable port_holding start_of unsound feed_number step_by call_of calls_from
sample_lines profile = refl

pub example_lines : ExampleLines
unfolding seek message_of sums_right front fields_of setting_of usable storable all_storable writing factory_page entry_from entry_of part_of body_of held_under values_in sound page_number page_writing command_of subject_of field_wrong field_error command_error number_error field_outcome fields_outcome command_outcome numbered_outcome message_outcome received_of looked_up loaded_from start_settings answering settings_usable port_holding start_of unsound feed_number step_by call_of carried acts_from accepted_from
example_lines = refl

pub older_lines : OlderLines
unfolding seek message_of sums_right front fields_of setting_of usable storable all_storable writing factory_page entry_from entry_of part_of body_of held_under values_in sound page_number page_writing command_of subject_of field_wrong field_error command_error number_error field_outcome fields_outcome command_outcome numbered_outcome message_outcome received_of looked_up loaded_from start_settings answering settings_usable port_holding start_of unsound feed_number step_by call_of carried acts_from accepted_from
older_lines = record { lines = refl; numbers = λ profile. refl }

pub quiet_lines : QuietLines
unfolding seek message_of sums_right front fields_of setting_of usable storable all_storable writing factory_page entry_from entry_of part_of body_of held_under values_in sound page_number page_writing command_of subject_of field_wrong field_error command_error number_error field_outcome fields_outcome command_outcome numbered_outcome message_outcome received_of looked_up loaded_from start_settings answering settings_usable port_holding start_of unsound feed_number step_by call_of carried acts_from accepted_from drained_acts
quiet_lines = record { lines = refl; drained = refl }

pub read_only_lines : ReadOnlyLines
unfolding seek message_of sums_right front fields_of setting_of usable storable all_storable writing factory_page entry_from entry_of part_of body_of held_under values_in sound page_number page_writing command_of subject_of field_wrong field_error command_error number_error field_outcome fields_outcome command_outcome numbered_outcome message_outcome received_of looked_up loaded_from start_settings answering settings_usable port_holding start_of unsound feed_number step_by call_of carried acts_from accepted_from calls_from
read_only_lines = record { lines = refl; same_calls = refl; seen = refl; seen_alike = refl }

pub tallied_lines : TalliedLines
unfolding seek message_of sums_right front fields_of setting_of usable storable all_storable writing factory_page entry_from entry_of part_of body_of held_under values_in sound page_number page_writing command_of subject_of field_wrong field_error command_error number_error field_outcome fields_outcome command_outcome numbered_outcome message_outcome received_of looked_up loaded_from start_settings answering settings_usable port_holding start_of unsound feed_number step_by call_of acts_from plus_up_to counted_with
tallied_lines = refl
