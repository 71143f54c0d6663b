-- The parts of calculations: control leaves one only by EXSR and ENDSR.
use Rattle.std.specs.Prelude.{ℕ, suc, Bool, List, [], ◌∷◌, Option, if◌then◌else◌}
use Rattle.rpg_cards.specs.Statements.{Calculation}
use Rattle.rpg_cards.specs.Keys.{Key, Name}
use Rattle.rpg_cards.specs.Sections.{Sections, Subroutine, is_same_name, label_on}

-- where the calculations of a job are done
pub data Part : Type 0 where
  InDetail : Part
  InTotal : Part
  InSubroutine : Option Name → Part  -- as EXSR names it

-- the subroutine with a name; none if there is none
abbrev pub body_named : Option Name → List (Subroutine Key) → List (Calculation Key)
body_named name [] = []
body_named name (s ∷ ss) = if is_same_name name s.name then s.body else body_named name ss

-- the calculations of a section
abbrev pub calculations_in : Sections Key → Part → List (Calculation Key)
calculations_in c InDetail = c.detail
calculations_in c InTotal = c.total
calculations_in c (InSubroutine name) = body_named name c.subroutines

-- it has that label
abbrev pub bears : Option Name → Calculation Key → Bool
bears name g = is_same_name name (label_on g.statement)

-- the place of the first one with a label among these, counted from 0; after them all if there is none
abbrev pub label_position : Option Name → List (Calculation Key) → ℕ
label_position name [] = 0
label_position name (g ∷ gs) = if bears name g then 0 else suc (label_position name gs)
