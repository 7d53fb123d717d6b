-- A line that was put together, part behind part, is the text that was meant.
use Rattle.std.proofs.Common.{◌≡◌, ◌∙◌, ℕ, ◌+◌, ◌≤◌, ◌<◌, Bool, List, [], ◌++◌, append_assoc, length, length-append, ap, arith}
use Rattle.message.specs.Write.{Writing, writing_of}
use Rattle.listing.proofs.Decimals.{byte_digits, word-digits}
use Rattle.listing.specs.Text.{blank, newline, hex_of, page_of, decimal_of, line_of, counts_of, taken_word, skipped_word, held_word, total_of}

-- How long a line is at most: before, and with a text or a number behind it.
pub with_text : (most : ℕ) (text before after : List ℕ) → length before ≤ most → after ≡ before ++ text → length after ≤ most + length text
with_text most text before after h e = rw (e, length-append) (omega arith)

pub with_number : (most n : ℕ) (before after : List ℕ) → length before ≤ most → after ≡ before ++ decimal_of n → n < 18446744073709551616
    → length after ≤ most + 20
with_number most n before after h e b = rw (e, length-append) (omega (arith, word-digits n b))

-- Bytes that are a text are written as it.
pub written_as : (w : Writing) (bytes line text room : List ℕ) → bytes ≡ line → line ≡ text → w ≡ writing_of bytes room → w ≡ writing_of text room
written_as w bytes line text room d e h = h ∙ ap (λ (t : List ℕ). writing_of t room) (d ∙ e)

-- ---- the line of a row

-- its two codes
pub codes_length : (kind echo : ℕ) (l₀ l₁ l₂ : List ℕ) → l₀ ≡ [] → l₁ ≡ (l₀ ++ hex_of kind) ++ blank → l₂ ≡ (l₁ ++ hex_of echo) ++ blank → length l₂ ≡ 6
codes_length kind echo l₀ l₁ l₂ d e f = rw (f, e, d)

-- and with the error behind them
pub with_error : (error told : ℕ) (before after : List ℕ) → length before ≡ 6 → told ≡ error → after ≡ before ++ decimal_of told → error < 256
    → length after ≤ 9
with_error error told before after l t e b = rw (e, length-append, t) (omega (arith, byte_digits error b))

pub line_made : (kind echo error told : ℕ) (saved : Bool) (l₀ l₁ l₂ l₃ l₄ : List ℕ) → l₀ ≡ [] → l₁ ≡ (l₀ ++ hex_of kind) ++ blank
    → l₂ ≡ (l₁ ++ hex_of echo) ++ blank → told ≡ error → l₃ ≡ l₂ ++ decimal_of told → l₄ ≡ l₃ ++ (blank ++ page_of saved ++ newline)
    → l₄ ≡ line_of kind echo error saved
unfolding line_of
line_made kind echo error told saved l₀ l₁ l₂ l₃ l₄ d e f t g h = rw (h, g, f, e, d, t) (simp append_assoc)

-- ---- the counts and a total

joined : (a b c d e f g : List ℕ) → ((((((a ++ b) ++ c) ++ d) ++ e) ++ f) ++ g) ≡ a ++ b ++ c ++ d ++ e ++ f ++ g
joined a b c d e f g = simp append_assoc

pub counts_made : (taken skipped held : ℕ) (l₀ l₁ l₂ l₃ l₄ l₅ l₆ l₇ : List ℕ) → l₀ ≡ [] → l₁ ≡ l₀ ++ taken_word → l₂ ≡ l₁ ++ decimal_of taken
    → l₃ ≡ l₂ ++ skipped_word → l₄ ≡ l₃ ++ decimal_of skipped → l₅ ≡ l₄ ++ held_word → l₆ ≡ l₅ ++ decimal_of held → l₇ ≡ l₆ ++ newline
    → l₇ ≡ counts_of taken skipped held
unfolding counts_of
counts_made taken skipped held l₀ l₁ l₂ l₃ l₄ l₅ l₆ l₇ a b c d e f g h =
    rw (h, g, f, e, d, c, b, a) (joined taken_word (decimal_of taken) skipped_word (decimal_of skipped) held_word (decimal_of held) newline)

pub total_made : (n : ℕ) (l₀ l₁ l₂ : List ℕ) → l₀ ≡ [] → l₁ ≡ l₀ ++ decimal_of n → l₂ ≡ l₁ ++ newline → l₂ ≡ total_of n
unfolding total_of
total_made n l₀ l₁ l₂ a b c = rw (c, b, a)
