-- `command::number::open_message` meets its contract: damaged, no number, a number that is refused, and one that is spent.
use native.Mathlib.Omega.{arith}
use Rattle.command.specs.Payload.{bytes_in}
use Rattle.command.specs.Answer.{number_on}
use Rattle.command.proofs.Spends.{number_there, open_damaged, open_plain, open_refused, open_spent}
use borrow.Author.Rules.{rules}
use Rattle.std.proofs.lemmas.Bool.{not_from_true}
use Rattle.command.proofs.number.open_message.Goals as goal

pub returns-then-not-good : goal.returns-then-not-good
returns-then-not-good c = search (open_damaged, rules)

pub returns-then-kind-ne124 : goal.returns-then-kind-ne124
returns-then-kind-ne124 c = search (open_plain, rules)

pub returns-then-error-ne0 : goal.returns-then-error-ne0
returns-then-error-ne0 c = search (open_refused, rules)

pub number_in-requires : goal.number_in-requires
number_in-requires c = let t = number_there _ c.args.rights (number_on c.args.page.now) _ c.number_error-error.ensures c.if-error-ne0.false in
    omega arith

pub returns : goal.returns
returns c = let a = c.args in
    open_spent a.rights a.good a.kind (bytes_in a.payload) a.page.now (not_from_true _ c.if-not-good.false) c.if-kind-ne124.false _ c.number_error-error.ensures c.if-error-ne0.false _ c.number_in.ensures _ c.put_last_number.ensures _
    c.byte.ensures
