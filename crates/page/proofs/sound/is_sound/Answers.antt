-- `page::sound::is_sound` meets its contract: another size, a page that can only be blank, and one whose entries tell.
use Rattle.std.proofs.Common.{rules, ◌<◌, ℕ, slice_index_or}
use Rattle.page.proofs.Sounds.{other_unsound, blank_decides, entries_decide}
use Rattle.page.proofs.sound.is_sound.Goals as goal

pub returns-in_default : goal.returns-in_default
returns-in_default c = search (other_unsound, rules)

pub returns-then-page : goal.returns-then-page
returns-then-page c = blank_decides c.args.page.now c.in-Some.ensures.cases c.if-page.true c.is_blank_page.ensures

pub returns-else-page : goal.returns-else-page
returns-else-page c =
    let bytes : (k : ℕ) → slice_index_or c.in-Some.page.now k 0 < 256 = search rules in
    entries_decide c.args.page.now c.in-Some.ensures.cases c.if-page.false bytes c.entries_right.ensures
