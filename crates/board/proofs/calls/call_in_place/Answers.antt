-- `board::calls::call_in_place` meets its contract.
use mathlib.Core.Path.{◌≡◌}
use Rattle.board.proofs.InPlace.{place_refused, place_few, place_long, place_eleven, place_done, row_step, step_adds_up}
use borrow.Author.Rules.{rules}
use Rattle.board.proofs.calls.call_in_place.Goals as goal

pub returns-then-number-ne0 : goal.returns-then-number-ne0
returns-then-number-ne0 c = search (place_refused, rules)

pub unreachable-requires : goal.unreachable-requires
unreachable-requires c = let a = c.args in
    search (c.as_mut_array, c.in_default, place_long a.port a.bytes.now a.first a.second a.w a.totals.now a.room.now a.page.now, rules)

pub step-s-requires : goal.step-s-requires
step-s-requires c = search (place_few, rules)

pub add_call-requires : goal.add_call-requires
add_call-requires c = let a = c.args in
    let pn = c.place_number-number in
    let ho = c.held_of-held in
    let br = c.brought-n in
    let ri = c.rights_of-rights in
    let st = c.step-s in
    let z : pn.result ≡ 0 = search (c.if-number-ne0, rules) in
    let same : c.in-Some.row.now ≡ a.bytes.now = search (c.in-Some, rules) in
    let e = row_step a.port a.bytes.now a.first a.second a.w a.totals.now a.room.now a.page.now pn.result pn.ensures ho.result ho.ensures ri.result a.readonly ri.ensures _ same a.quiet _ _ st.ensures in
    let all =
    step_adds_up a.port a.bytes.now a.first a.second a.w a.totals.now a.room.now a.page.now pn.result pn.ensures
    ho.result ho.ensures z a.quiet a.chunk.now br.result br.ensures.value a.readonly st.result _ _ _ e br.ensures.result_bound in
    (place_eleven a.port a.bytes.now a.first a.second a.w a.totals.now a.room.now a.page.now pn.result pn.ensures ho.result ho.ensures z, all.0, all.1, all.2)

pub returns : goal.returns
returns c = let a = c.args in
    let pn = c.place_number-number in
    let ho = c.held_of-held in
    let br = c.brought-n in
    let ri = c.rights_of-rights in
    let st = c.step-s in
    let ad = c.add_call in
    let z : pn.result ≡ 0 = search (c.if-number-ne0, rules) in
    let same : c.in-Some.row.now ≡ a.bytes.now = search (c.in-Some, rules) in
    let e = row_step a.port a.bytes.now a.first a.second a.w a.totals.now a.room.now a.page.now pn.result pn.ensures ho.result ho.ensures ri.result a.readonly ri.ensures _ same a.quiet _ _ st.ensures in
    place_done a.port a.bytes.now a.first a.second a.w a.totals.now a.room.now a.page.now pn.result pn.ensures
    ho.result ho.ensures z a.quiet a.chunk.now br.result br.ensures.value a.readonly st.result _ _ _ e _ ad.ensures
