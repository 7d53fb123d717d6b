-- `board::feeding::feed_number` meets its contract: each `return` is a test.
use Rattle.board.proofs.Starts.{number_16, number_first, number_second, number_settings, number_18, number_page_lem}
use borrow.Author.Rules.{rules}
use Rattle.board.proofs.feeding.feed_number.Goals as goal

-- src/feeding.rt:20:9
pub returns-then-port-gt1 : goal.returns-then-port-gt1
returns-then-port-gt1 c = search (number_16, rules)

-- src/feeding.rt:23:9
pub returns-then-first-gt-ROOM : goal.returns-then-first-gt-ROOM
returns-then-first-gt-ROOM c = search (number_first, rules)

-- src/feeding.rt:26:9
pub returns-then-second-gt-ROOM : goal.returns-then-second-gt-ROOM
returns-then-second-gt-ROOM c = search (number_second, rules)

-- src/feeding.rt:29:9
pub returns-then-not-settings_usable : goal.returns-then-not-settings_usable
returns-then-not-settings_usable c = search (number_settings, rules)

-- src/feeding.rt:32:9
pub returns-then-room-lt-REPLY : goal.returns-then-room-lt-REPLY
returns-then-room-lt-REPLY c = search (number_18, rules)

-- src/feeding.rt:16:1
pub returns : goal.returns
returns c = search (number_page_lem, rules)
