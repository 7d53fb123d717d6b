-- Document 01, "Numbers of the calls": what a writer answers and what it leaves in the room.
use Rattle.std.specs.Prelude.{ℕ, ◌+◌, Bool, true, false, cond, List, ◌++◌, length, take, drop, nat_lt, Result, Ok, Err}
use Rattle.refusal.specs.declared.Refusal.{Refusal}
use Rattle.refusal.specs.declared.Refusal.TheVariants.{Payload, Room}
use Rattle.refusal.specs.Refusal.{refusal_number, answer_from}
use Rattle.message.specs.declared.write.Written.{Written}
use Rattle.message.specs.Message.{message_of}

-- What a writer answers, and the room afterwards.
pub record Writing : Type 0 where
  pub answer : Written
  pub room : List ℕ

-- The paper's number and length of an answer: 0 and the length where it is written, the refusal's number and length 0 where not.
abbrev pub written_of : Result ℕ Refusal → Written
written_of (Ok n) = record { number = 0; length = n }
written_of (Err r) = record { number = refusal_number r; length = 0 }

-- Back: the answer that a number and a length tell.
abbrev pub written_told : Written → Result ℕ Refusal
written_told w = answer_from w.number w.length

-- A refusal: its number, length 0, and nothing is written.
abbrev pub refused_writing : ℕ → List ℕ → Writing
refused_writing n room = record { answer = record { number = n; length = 0 }; room = room }

-- A write touches only the message's own bytes, from the room's front.
abbrev pub done_writing : List ℕ → List ℕ → Writing
done_writing m room = record { answer = record { number = 0; length = length m }; room = m ++ drop (length m) room }

-- The room with some bytes from a place on.
abbrev pub put_at : ℕ → List ℕ → List ℕ → List ℕ
put_at at bs room = take at room ++ bs ++ drop (at + length bs) room

-- A refusal with number n where the test is true, else what follows.
abbrev pub refuse_writing : Bool → ℕ → List ℕ → Writing → Writing
refuse_writing true n room next = refused_writing n room
refuse_writing false n room next = next

-- The writing of a message to a room: 18 where the room is under the message's length.
abbrev pub writing_of : List ℕ → List ℕ → Writing
writing_of m room = refuse_writing (nat_lt (length room) (length m)) 18 room (done_writing m room)

-- The plain writer, any type and payload: 26, then 18.
unfoldable pub plain_writing : ℕ → List ℕ → List ℕ → Writing
plain_writing kind payload room = refuse_writing (nat_lt 255 (length payload)) 26 room (writing_of (message_of kind payload) room)

-- The same of a payload of n bytes that stands in the room already, from byte 4 on.
unfoldable pub sealing : ℕ → ℕ → List ℕ → Writing
sealing kind n room =
    refuse_writing (nat_lt 255 n) 26 room (refuse_writing (nat_lt (length room) (n + 6)) 18 room (done_writing (message_of kind (take n (drop 4 room))) room))

-- The size of a message with n payload bytes in a room of so many: too many bytes are refused before too small a room.
abbrev pub size_in : ℕ → ℕ → Result ℕ Refusal
size_in n room = cond (nat_lt 255 n) (Err Payload) (cond (nat_lt room (n + 6)) (Err Room) (Ok (n + 6)))
