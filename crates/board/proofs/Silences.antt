-- A silence takes no byte, and leaves fewer bytes held or none.
use mathlib.Core.List.{List, [], ◌++◌, append-nil}
use mathlib.Core.Path.{◌≡◌, refl, ap, ◌∙◌}
use Prim.Native.Nat.{ℕ, zero, suc, ◌+◌, ◌-◌, ◌<◌}
use native.Mathlib.Omega.{arith}
use lib.ListN.{length, take, length-drop}
use lib.Seq.{take-nil, drop-length}
use Rattle.stream.specs.declared.Sought.{Sought}
use Rattle.stream.specs.declared.Sought.TheVariants.{Starved, Found}
use Rattle.stream.specs.Seek.{resume}
use Rattle.stream.specs.Cutting.{Sized}
use Rattle.stream.proofs.Drains.{drain_all}
use Rattle.history.specs.Calls.{silent}
use Rattle.history.specs.Program.{sought_by}
use Rattle.history.proofs.Soughts.{call_sized}
use Rattle.message.specs.Front.{front, most_undecided}
use Rattle.message.proofs.Framed.{cutting_harmless}
use Rattle.command.specs.declared.rights.Rights.{Rights}
use Rattle.command.specs.declared.settings.Settings.{Settings}
use Rattle.totals.specs.declared.Tally.{Tally}
use Rattle.board.specs.Profile.{rights_of}
use Rattle.board.specs.declared.board.Board.{Board}
use Rattle.board.specs.Port.{held_bytes, port_holding, port_of, with_port}
use Rattle.board.specs.Feed.{PortStep, feed_number, step_on, step_by, accept_on, call_of, tally_after}
use Rattle.board.specs.Silences.{SilenceDrains, SilencesDrain}
use Rattle.board.proofs.Feedings.{with_held, by_number}
use Rattle.board.proofs.Places.{resume_past}

record Drains (held : List ℕ) (number taken skipped : ℕ) (after : List ℕ) : Type 0 where
  none_taken : taken ≡ 0
  fewer : number ≡ 0 → length after < length held
  emptied : number ≡ 1 → after ≡ []
  all_skipped : number ≡ 1 → skipped ≡ length held

module _ (rights : Rights) (held : List ℕ) (w : Settings) (room page : List ℕ) where
  abbrev DrainsBy : PortStep → Type 0
  DrainsBy s = Drains held s.number s.taken s.skipped s.held

  step_drains : DrainsBy (step_by rights held w silent room page)
  unfolding step_by
  step_drains = go (sought_by front silent held) refl
    where
      all : length (held ++ []) ≡ length held
      all = ap length (append-nil held)

      go : (q : Sought) → sought_by front silent held ≡ q → DrainsBy (step_on rights q held w [] room page)
      go (Starved k) e =
          let skips : k ≡ length (held ++ []) = drain_all cutting_harmless (held ++ []) k e in
          record {
            none_taken = refl;
            fewer = λ z. (let no : ⊥ = omega (arith, z) in absurd no);
            emptied = λ z. rw skips (drop-length (held ++ []));
            all_skipped = λ z. skips ∙ all;
          }
      go (Found k n good) e =
          let s : Sized most_undecided (held ++ []) k n = call_sized cutting_harmless held silent k n good e in
          let same : held ++ take (k + n - length held) [] ≡ held = cc (take-nil {A = ℕ} (k + n - length held), append-nil held) in
          record {
            none_taken = omega (arith, s.inside, all);
            fewer = λ z. rw same (omega (arith, length-drop (resume k n good) held, resume_past k n s.some good, s.some, s.inside, all));
            emptied = λ z. (let no : ⊥ = omega (arith, z) in absurd no);
            all_skipped = λ z. (let no : ⊥ = omega (arith, z) in absurd no);
          }

after_port : (port : ℕ) (b : Board) (bs : List ℕ) (w : Settings) (t : Tally) → port_of port (with_port port b (port_holding bs) w t) ≡ port_holding bs
after_port zero b bs w t = refl
after_port (suc p) b bs w t = refl

module _ (port : ℕ) (b : Board) (room page : List ℕ) where
  abbrev held : List ℕ
  held = held_bytes (port_of port b)

  told : SilenceDrains port b (call_of port b silent room page)
  unfolding call_of
  told = go (feed_number port b.first.held b.second.held b.settings room page) refl
    where
      go : (n : ℕ) → feed_number port b.first.held b.second.held b.settings room page ≡ n → SilenceDrains port b (accept_on n port b silent room page)
      go zero e =
          let s : PortStep = step_by (rights_of b.readonly port) held b.settings silent room page in
          let d = step_drains (rights_of b.readonly port) held b.settings room page in
          record {
            none_taken = d.none_taken;
            fewer = λ z. rw (with_held port b s.held s.settings (tally_after s port b)) (d.fewer z);
            emptied = λ z. after_port port b s.held s.settings _ ∙ ap port_holding (d.emptied z);
            all_skipped = d.all_skipped;
          }
      go (suc n) e =
          let large : 1 < suc n = by_number port b silent room page (suc n) e (λ z. (let no : ⊥ = omega (arith, z) in absurd no)) in
          record {
            none_taken = refl;
            fewer = λ z. (let no : ⊥ = omega (arith, z) in absurd no);
            emptied = λ z. (let no : ⊥ = omega (arith, z, large) in absurd no);
            all_skipped = λ z. (let no : ⊥ = omega (arith, z, large) in absurd no);
          }

pub silences_drain : SilencesDrain
silences_drain = told
