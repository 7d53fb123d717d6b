-- `page::sound::entry_size` meets its contract: one test after the other, no body, and the size.
use borrow.Author.Rules.{rules}
use Rattle.page.proofs.Walks.{code_low, body_apart, size_missing, size_other, size_right_lem}
use Rattle.page.proofs.sound.entry_size.Goals as goal
use Rattle.page.proofs.sound.entry_size.Goals.{then-code-last-via-then-code-last, then-code-last-via-else-code-last+then-page-at}

pub returns-then-code-last : goal.returns-then-code-last
returns-then-code-last c =
    elim c.then-code-last.branch [
      | then-code-last-via-then-code-last w ↦ search (code_low, rules)
      | then-code-last-via-else-code-last+then-page-at w ↦ search (body_apart, rules)
    ]

pub returns-in_err-size : goal.returns-in_err-size
returns-in_err-size c = search (size_missing, rules)

pub returns-then-page-at-2 : goal.returns-then-page-at-2
returns-then-page-at-2 c = search (size_other, c.in_ok-size.was, rules)

pub returns : goal.returns
returns c =
    size_right_lem c.args.page.now c.args.at c.args.start c.args.last c.body_size.ensures c.in_ok-size.was c.if-code-last.false c.if-page-at.false c.if-page-at-2.false
