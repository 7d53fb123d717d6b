-- `page::store::fill_page` meets its contract: on a page of FF, after four steps the page is the writing.
use Rattle.std.proofs.Common.{rules, ◌≡◌, replicate}
use Rattle.page.proofs.Drafts.{filled}
use Rattle.page.proofs.store.fill_page.Goals as goal

pub returns : goal.returns
returns c =
    let erased : c.fill.new.self ≡ replicate 64 0xFF = search rules in
    filled c.args.values erased c.present.ensures.0 c.present-2.ensures.0 c.present-3.ensures.0 c.present-4.ensures.0
    c.four_bytes.ensures c.one_byte.ensures c.one_byte-2.ensures c.four_bytes-2.ensures
    c.put_count-first.ensures.draft c.put_entry-second.ensures.draft c.put_entry-third.ensures.draft c.put_entry-fourth.ensures.draft c.put_entry.ensures.draft
