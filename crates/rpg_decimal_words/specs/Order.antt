-- The order of characters and of texts.
use Rattle.std.specs.Prelude.{ℕ, ◌+◌, ◌-◌, List, ◌++◌, length, ◌==◌, replicate, position, unwrap_or, codes}
use Rattle.std.specs.declared.cmp.Ordering.{Ordering}
use Rattle.std.specs.Ordering.{nat_cmp}
use Rattle.std.specs.Cmp.Lexicographic.{slice_cmp}

-- the collating sequence: the characters, lowest first
unfoldable pub collating_sequence : List ℕ
collating_sequence = codes " .<(+|&!$*);-/,%_>?`:#@'=\"abcdefghijklmnopqr~stuvwxyz^[]{ABCDEFGHI}JKLMNOPQR\\STUVWXYZ0123456789"

-- the place of a character; any other byte comes after them all, by its value
unfoldable pub rank : ℕ → ℕ
rank c = unwrap_or (position (λ x. x == c) collating_sequence) (length collating_sequence + c)

-- the order of two characters
abbrev pub character_cmp : ℕ → ℕ → Ordering
character_cmp c d = nat_cmp (rank c) (rank d)

-- with blanks at the end, up to n characters
abbrev pub padded_text : ℕ → List ℕ → List ℕ
padded_text n text = text ++ replicate (n - length text) 32

-- texts are compared at one length, by the first place where they differ
abbrev pub text_cmp : List ℕ → List ℕ → Ordering
text_cmp a b = slice_cmp character_cmp (padded_text (length b) a) (padded_text (length a) b)
