-- Calls of subroutines by subroutines, with names by number, and levels by subroutine number.
use Rattle.std.specs.Prelude.{◌≡◌, ◌<◌, ℕ, suc, length, List, [], ◌∷◌, ◌++◌, slice_index, Option, None, Some}
use Rattle.std.specs.Option.{option_map}
use Rattle.rpg_cards.specs.Statements.{Calculation, Statement}
use Rattle.rpg_cards.specs.Keys.{Key, Name}
use Rattle.rpg_cards.specs.Plain.{call_in}
use Rattle.rpg_cards.specs.Sections.{Subroutine}
use Rattle.rpg_compile_program.specs.Levels.{subroutine_level}
use Rattle.rpg_symbols.specs.Chains.{Calls}

module _ (number : Option Name → ℕ) where
  -- the subroutine that an EXSR calls
  abbrev pub callee_in : Statement Key → Option ℕ
  callee_in d = option_map number (call_in d)

-- a call, if there is one, before the others
abbrev pub with_callee : ℕ → Option ℕ → Calls → Calls
with_callee caller None ps = ps
with_callee caller (Some callee) ps = (caller, callee) ∷ ps

module _ (number : Option Name → ℕ) where
  -- the calls of a subroutine's groups, by numbers
  abbrev pub numbered_calls_in : ℕ → List (Calculation Key) → Calls
  numbered_calls_in caller [] = []
  numbered_calls_in caller (g ∷ gs) = with_callee caller (callee_in number g.statement) (numbered_calls_in caller gs)

  -- those of subroutines from a number on
  abbrev pub numbered_calls_from : ℕ → List (Subroutine Key) → Calls
  numbered_calls_from caller [] = []
  numbered_calls_from caller (s ∷ ss) = numbered_calls_in caller s.body ++ numbered_calls_from (suc caller) ss

-- ---- levels

-- the level of a subroutine in the list of levels
abbrev pub level_at : List ℕ → ℕ → ℕ
level_at levels s = slice_index levels s

-- each subroutine has its level there
abbrev pub AreSubroutineLevels : List (Subroutine Key) → List ℕ → Type 0
AreSubroutineLevels subs levels = (s : ℕ) → s < length subs → level_at levels s ≡ subroutine_level subs s
