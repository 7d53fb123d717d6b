-- Request 13: calls and restarts as a single table, with the totals of both ports behind each line, and a single statement about what the
-- rules give for it.
use Rattle.std.specs.Prelude.{List, [], ◌∷◌, ◌++◌, ◌≡◌, ℕ, drop, replicate, take}
use Rattle.history.specs.Calls.{fed, silent}
use Rattle.history.specs.Restarts.{Act, call, restart}
use Rattle.message.specs.Message.{message_of}
use Rattle.page.specs.Page.{blank_page}
use Rattle.totals.specs.declared.Tally.{Tally}
use Rattle.board.specs.Profile.{Profile, full, read_only}
use Rattle.board.specs.Runs.{Call}
use Rattle.board.specs.Histories.{acts_on}
use Rattle.board.specs.Lines.{numbered, spoiled, ping, sets, does}

-- A line: the profile of the start on a blank page, the calls and restarts, and the totals of both ports at the end.
pub record TalliedLine : Type 0 where
  pub profile : Profile
  pub acts : List (Act Profile Call)
  pub first : Tally
  pub second : Tally

abbrev feeds : ℕ → List ℕ → Act Profile Call
feeds port chunk = call (record { port = port; input = fed chunk; room = replicate 166 0 })

abbrev silences : ℕ → Act Profile Call
silences port = call (record { port = port; input = silent; room = replicate 166 0 })

-- Bytes taken, skipped and of good messages; and the messages by the first error in the reply.
abbrev totals : ℕ → ℕ → ℕ → List ℕ → Tally
totals taken skipped good errors = record { taken = taken; skipped = skipped; good = good; errors = errors }

abbrev none : Tally
none = totals 0 0 0 (replicate 8 0)

abbrev ping_message : List ℕ
ping_message = message_of 0x01 ping

abbrev pub tallied_examples : List TalliedLine
tallied_examples =
    -- Noise, a Ping, a spoiled one whose bytes are then skipped, and a message of type 03 without a payload; a call of port 2 and one whose
    -- room is too small change none.
    record {
      profile = full;
      acts =
          feeds 0 (0x00 ∷ 0x00 ∷ ping_message)
          ∷ feeds 0 (spoiled ping_message)
          ∷ feeds 0 []
          ∷ feeds 2 ping_message
          ∷ call (record { port = 0; input = fed ping_message; room = replicate 165 0 })
          ∷ feeds 0 (message_of 0x03 [])
          ∷ [];
      first = totals 24 10 14 (1 ∷ 1 ∷ 1 ∷ 0 ∷ 0 ∷ 0 ∷ 0 ∷ 0 ∷ []);
      second = none;
    }
    -- Of several fields the first row counts: an unknown code in the second, and in the first; a message in two pieces counts with the
    -- second, and what is held is taken and not yet good.
    ∷ record {
      profile = full;
      acts =
          feeds 1 (message_of 0x01 (ping ++ (0x09 ∷ 0x00 ∷ [])))
          ∷ feeds 1 (message_of 0x01 ((0x09 ∷ 0x00 ∷ []) ++ ping))
          ∷ feeds 1 (take 5 ping_message)
          ∷ feeds 1 (drop 5 ping_message)
          ∷ feeds 1 (0xA5 ∷ 0xA5 ∷ [])
          ∷ [];
      first = none;
      second = totals 30 0 28 (2 ∷ 0 ∷ 0 ∷ 1 ∷ 0 ∷ 0 ∷ 0 ∷ 0 ∷ []);
    }
    -- A false header, and a Ping that waits behind it until the silence; a number that is sent twice; a wrong size; a range that is not on
    -- this board.
    ∷ record {
      profile = full;
      acts =
          feeds 1 (0xA5 ∷ 0xA5 ∷ 0x01 ∷ 0xFF ∷ ping_message)
          ∷ silences 1
          ∷ silences 1
          ∷ feeds 0 (numbered 4 0x01 ping)
          ∷ feeds 0 (numbered 4 0x01 ping)
          ∷ feeds 0 (message_of 0x02 (0x07 ∷ 0x00 ∷ []))
          ∷ feeds 1 (message_of 0x02 (sets 0x08 0x06))
          ∷ [];
      first = totals 34 0 34 (1 ∷ 0 ∷ 0 ∷ 0 ∷ 1 ∷ 1 ∷ 0 ∷ 0 ∷ []);
      second = totals 22 4 18 (1 ∷ 0 ∷ 0 ∷ 0 ∷ 0 ∷ 0 ∷ 1 ∷ 0 ∷ []);
    }
    -- On a read-only board; then it starts anew, and so do the totals of both ports.
    ∷ record {
      profile = read_only;
      acts = feeds 1 (message_of 0x02 (does 3 0x07)) ∷ feeds 1 ping_message ∷ feeds 0 ping_message ∷ [];
      first = totals 8 0 8 (1 ∷ 0 ∷ 0 ∷ 0 ∷ 0 ∷ 0 ∷ 0 ∷ 0 ∷ []);
      second = totals 17 0 17 (1 ∷ 0 ∷ 0 ∷ 0 ∷ 0 ∷ 0 ∷ 0 ∷ 1 ∷ []);
    }
    ∷ record {
      profile = read_only;
      acts = feeds 1 (message_of 0x02 (does 3 0x07)) ∷ feeds 0 ping_message ∷ restart full ∷ feeds 1 (0x00 ∷ []) ∷ [];
      first = none;
      second = totals 1 1 0 (replicate 8 0);
    }
    ∷ []

abbrev line_for : TalliedLine → TalliedLine
line_for l =
    record {
      profile = l.profile;
      acts = l.acts;
      first = (acts_on l.profile blank_page l.acts).board.tally0;
      second = (acts_on l.profile blank_page l.acts).board.tally1;
    }

abbrev lines_for : List TalliedLine → List TalliedLine
lines_for [] = []
lines_for (l ∷ ls) = line_for l ∷ lines_for ls

-- For each line's calls the totals that the line says. Proof: Sampled `tallied_lines`.
abbrev pub TalliedLines : Type 0
TalliedLines = lines_for tallied_examples ≡ tallied_examples
