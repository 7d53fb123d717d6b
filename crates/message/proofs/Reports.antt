-- What the scan reports is one whole message.
use Rattle.std.proofs.Common.{◌≡◌, ℕ, ◌+◌, ◌%◌, ◌≤◌, Bool, true, false, length, get_or, take, sym, refl, ap, ◌∙◌, arith, length-take-le, get_or-take, take-take}
use Rattle.stream.proofs.Framings.{IsWhole}
use Rattle.message.specs.Message.{sums_right}
use Rattle.message.specs.Whole.{whole_number}
use Rattle.message.specs.Theorems.{whole_on, ReportedIsWhole}
use Rattle.message.proofs.Openings.{OpensTold, opens_told}
use Rattle.message.proofs.Framed.{header, whole_told}
use Rattle.message.proofs.Wholes.{whole_right, whole_wrong}

pub reported_is_whole : ReportedIsWhole
reported_is_whole u n good e = by good t.valid_is
  where
    t : IsWhole header sums_right u n good
    t = whole_told u n good e

    small : (6 ≤ n) × (n ≤ length u)
    small = omega (arith, t.sized, t.inside)

    byte : (i : ℕ) → i + 1 ≤ 6 → get_or (take n u) i 0 ≡ get_or u i 0
    byte i h = get_or-take n u i 0 (omega (arith, small.0))

    head : OpensTold u
    head = opens_told u (omega (arith, small)) t.opening

    long : length (take n u) ≡ n
    long = length-take-le n u small.1

    size : n ≡ get_or (take n u) 3 0 % 256 + 6
    size = t.sized ∙ ap (λ (i : ℕ). i % 256 + 6) (sym (byte 3 (omega arith)))

    by : (good : Bool) → good ≡ sums_right (take n u) → whole_number (take n u) ≡ whole_on good
    by true g = sym (whole_right (take n u) (omega (arith, long, small)) (byte 0 (omega arith) ∙ head.first) (byte 1 (omega arith) ∙ head.second) n size long true (g ∙ ap sums_right (sym (take-take n n u (omega arith)))) refl)
    by false g = sym (whole_wrong (take n u) (omega (arith, long, small)) (byte 0 (omega arith) ∙ head.first) (byte 1 (omega arith) ∙ head.second) n size long false (g ∙ ap sums_right (sym (take-take n n u (omega arith)))) refl)
