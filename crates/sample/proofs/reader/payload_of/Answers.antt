-- `sample::reader::payload_of` meets its contract. A whole message has at least 6 bytes.
use native.Mathlib.Omega.{arith}
use Rattle.message.proofs.RoundTrips.{passed}
use Rattle.sample.proofs.Places.{payload_part}
use borrow.Author.Rules.{rules}
use Rattle.sample.proofs.reader.payload_of.Goals as goal

pub overflow_sub-end : goal.overflow_sub-end
overflow_sub-end c = omega (arith, (passed c.args.message.now c.requires).long)

pub slice_bounds-result-count : goal.slice_bounds-result-count
slice_bounds-result-count c = omega (arith, (passed c.args.message.now c.requires).long)

pub slice_bounds-result-start : goal.slice_bounds-result-start
slice_bounds-result-start c = omega (arith, (passed c.args.message.now c.requires).long)

pub returns : goal.returns
returns c = search (payload_part, rules)
