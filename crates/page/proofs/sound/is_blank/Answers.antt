-- `page::sound::is_blank` meets its contract: what is gathered is FF where each byte is.
use Rattle.std.proofs.Common.{rules, ◌≡◌, ◌<◌, ℕ, slice_index_or, bit_and}
use Rattle.std.specs.List.{fold}
use Rattle.page.proofs.Walks.{gathered}
use Rattle.page.proofs.sound.is_blank.Goals as goal

pub returns : goal.returns
returns c =
    let f : c.fold.result ≡ fold bit_and 0xFF c.args.bytes.now = search rules in
    let b : (k : ℕ) → slice_index_or c.args.bytes.now k 0 < 256 = search rules in
    gathered c.args.bytes.now b f
