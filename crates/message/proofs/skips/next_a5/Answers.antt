-- `message::skips::next_a5` meets its contract.
use Rattle.std.proofs.Common.{ℕ, ◌-◌, Bool, eqb, List, length, take, drop, rules, tests}
use Rattle.std.proofs.lemmas.Iterator.{YieldsList-from_slice}
use Rattle.std.proofs.lemmas.Iterator.Search.{position_from_yields_List}
use Rattle.message.proofs.Skipped.{first_or_len, skips_to}
use Rattle.message.proofs.skips.next_a5.Goals as goal

pub returns : goal.returns
returns c =
    let i : ℕ = c.past_blocks-i.result in
    let rest : List ℕ = take (length c.args.s.now - (i)) (drop (i) c.args.s.now) in
    let test : ℕ → Bool = λ b. eqb b 0xA5 in
    let found = position_from_yields_List test _ _ c.position.result c.position.ensures.ran (YieldsList-from_slice _ c.iter.ensures.rest) (λ x b q k. search (rules, tests)) in
    skips_to c.args.s.now c.args.from i c.unwrap_or.result (first_or_len test rest c.position.result c.unwrap_or.result found c.unwrap_or.ensures) c.past_blocks-i.ensures
