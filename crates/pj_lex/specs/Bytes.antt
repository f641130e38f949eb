-- Bytes of a script by their use (docs/GRAMMAR.md, "Bytes").
use Rattle.std.specs.Prelude.{◌≡◌, ℕ, ◌-◌, Bool, true, ◌||◌, ◌&&◌, List, drop, ◌==◌, nat_le}
use Rattle.std.specs.Prelude.{if◌then◌else◌}
use Rattle.std.specs.List.{AllByRecursion, prefix_len}

-- a space, a tab or a carriage return
abbrev pub is_blank : ℕ → Bool
is_blank b = b == 32 || b == 9 || b == 13

-- a to z
abbrev pub is_small : ℕ → Bool
is_small b = nat_le 97 b && nat_le b 122

-- A to Z
abbrev pub is_capital : ℕ → Bool
is_capital b = nat_le 65 b && nat_le b 90

-- 0 to 9
abbrev pub is_digit : ℕ → Bool
is_digit b = nat_le 48 b && nat_le b 57

-- a letter or `_`, with which a word begins
abbrev pub begins_word : ℕ → Bool
begins_word b = is_small b || is_capital b || b == 95

-- a letter, a digit or `_`
abbrev pub is_word_byte : ℕ → Bool
is_word_byte b = begins_word b || is_digit b

-- the letter as a capital, any other byte as it is
abbrev pub upper : ℕ → ℕ
upper b = if is_small b then b - 32 else b

-- each byte passes the test
abbrev pub AllAre : (ℕ → Bool) → List ℕ → Type 0
AllAre test bytes = AllByRecursion (λ b. test b ≡ true) bytes

-- blanks alone, maybe none
abbrev pub IsBlank : List ℕ → Type 0
IsBlank bytes = AllAre is_blank bytes

-- the bytes behind the blanks at the start
unfoldable pub after_blanks : List ℕ → List ℕ
after_blanks bytes = drop (prefix_len is_blank bytes) bytes
