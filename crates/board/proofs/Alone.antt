-- A good message fed alone is answered at once.
use Prim.Native.Nat.{ℕ, ◌+◌, ◌-◌, ◌≤◌}
use native.Mathlib.Omega.{arith}
use mathlib.Core.Path.{◌≡◌, refl, sym, ap, ◌∙◌}
use mathlib.Core.Bool.{Bool, true, false, not}
use mathlib.Core.List.{List, [], ◌∷◌, append-nil}
use lib.ListN.{length, drop_of_length-le}
use lib.Seq.{take_all}
use borrow.Author.Tests.{le-ltb}
use Rattle.stream.specs.declared.Verdict.TheVariants.{Whole}
use Rattle.stream.specs.declared.Sought.TheVariants.{Found}
use Rattle.stream.specs.Seek.{seek}
use Rattle.message.specs.Front.{front}
use Rattle.message.specs.Message.{message_of}
use Rattle.message.specs.Theorems.{RoundTrip}
use Rattle.message.proofs.RoundTrips.{written_is_read}
use Rattle.command.specs.declared.rights.Rights.{Rights}
use Rattle.command.specs.declared.settings.Settings.{Settings}
use Rattle.command.specs.Outcome.{received_of}
use Rattle.command.specs.Answer.{reply_room, answering}
use Rattle.board.specs.Profile.{rights_of}
use Rattle.board.specs.declared.board.Board.{Board}
use Rattle.board.specs.Feed.{PortStep, unsound, feed_number, step_on, step_by, feed_on, call_of}
use Rattle.board.specs.Alone.{Ready, answered_step, FedAlone}

accepted : (port : ℕ) (b : Board) (room page : List ℕ) → Ready port b room page → feed_number port b.first.held b.second.held b.settings room page ≡ 0
unfolding feed_number
accepted port b room page r = rw (le-ltb 1 port r.right_port, sound (unsound b.first.held b.second.held b.settings) r.sound_board, le-ltb (length room) reply_room r.large_room) r.right_page
  where
    sound : (u : Bool) → not u ≡ true → u ≡ false
    sound false e = refl
    sound true e = sym e

-- The seek finds at once what stands at the front.
found_front : (u : List ℕ) (n : ℕ) → front u ≡ Whole n true → 1 ≤ length u → seek front u ≡ Found 0 n true
unfolding seek
found_front [] n e h = absurd (omega arith)
found_front (x ∷ xs) n e h = rw e

alone : (rights : Rights) (m : List ℕ) (n : ℕ) → length m ≡ n → (w : Settings) (room page : List ℕ) → step_on rights (Found 0 n true) [] w m room page ≡ answered_step m (answering rights (received_of true m) w room page)
alone rights m n ns w room page =
    let taken : 0 + n - 0 ≡ length m = omega arith in
    let past : 0 + n ≡ length m = omega arith in
    rw (taken, past, take_all (length m) m (omega arith), drop_of_length-le m {i = length m} (omega arith))

pub fed_alone : FedAlone
unfolding call_of step_by
fed_alone port b room page kind payload r o l =
    let m : List ℕ = message_of kind payload in
    let t : RoundTrip kind payload = written_is_read kind payload l in
    let f : seek front m ≡ Found 0 (length payload + 6) true =
    found_front m (length payload + 6) (ap front (sym (append-nil m)) ∙ t.good o []) (rw t.size (omega arith)) in
    rw (accepted port b room page r, r.nothing_held, f) (ap (λ (s : PortStep). feed_on s port b) (alone (rights_of b.readonly port) m (length payload + 6) t.size b.settings room page))
