-- `page::sound::is_blank_page` meets its contract. The invariant: the whole page is FF where nothing was found to differ and the rest is.
use Rattle.std.proofs.Common.{◌≡◌, drop}
use Rattle.std.specs.Prelude.{◌&&◌, eqb}
use Rattle.page.specs.Walk.{all_blank}
use Rattle.page.proofs.sound.is_blank_page.Given as goal

abbrev pub invariant-loop-i : goal.invariant-loop-i
invariant-loop-i l = all_blank l.page ≡ eqb l.differing 0 && all_blank (drop l.i l.page)
