-- Characters and blanks.
use Rattle.std.specs.Prelude.{ℕ, ◌-◌, List, length, take, Bool, ◌==◌, ◌&&◌, nat_le, if◌then◌else◌}
use Rattle.std.specs.List.{list_all, suffix_len}

-- neither below low nor above high
abbrev pub is_between : ℕ → ℕ → ℕ → Bool
is_between low high n = nat_le low n && nat_le n high

-- what a column may have, from the blank to `~`
abbrev pub is_character : ℕ → Bool
is_character c = is_between 32 126 c

-- a question mark replaces any byte that isn't a character, so that no control code reaches a terminal
abbrev pub printable : ℕ → ℕ
printable c = if is_character c then c else 63

-- a blank
abbrev pub is_blank : ℕ → Bool
is_blank c = c == 32

-- blanks alone
abbrev pub all_blank : List ℕ → Bool
all_blank text = list_all is_blank text

-- without the blanks at the end
abbrev pub trimmed : List ℕ → List ℕ
trimmed text = take (length text - suffix_len is_blank text) text
