-- The sections of calculations.
use Rattle.std.specs.Prelude.{ℕ, suc, Bool, true, false, List, [], ◌∷◌, Option, None, Some, nat_eq, if◌then◌else◌}
use Rattle.std.specs.Cmp.Lexicographic.{pointwise}
use Rattle.rpg_cards.specs.Statements.{Begins, Calculation, Statement, Ends, Marks}
use Rattle.rpg_cards.specs.Keys.{Name}
use Rattle.rpg_sheet_specs.specs.declared.calculation.ControlLevel.{ControlLevel}
use Rattle.rpg_sheet_specs.specs.declared.calculation.ControlLevel.TheVariants as control

-- a subroutine with the calculations after its BEGSR
pub record Subroutine (K : Type 0) : Type 0 where
  pub name : Option Name
  pub body : List (Calculation K)  -- its ENDSR the last

-- the calculations of a source by the section that they are in
pub record Sections (K : Type 0) : Type 0 where
  pub detail : List (Calculation K)
  pub total : List (Calculation K)
  pub subroutines : List (Subroutine K)

-- a calculation at detail time
abbrev pub is_detail : ControlLevel → Bool
is_detail control.Detail = true
is_detail _ = false

-- a calculation at total time
abbrev pub is_total : ControlLevel → Bool
is_total (control.Total n) = true
is_total _ = false

-- a calculation in a subroutine
abbrev pub is_subroutine : ControlLevel → Bool
is_subroutine control.Subroutine = true
is_subroutine _ = false

-- the name is that one
abbrev pub is_named : Name → Option Name → Bool
is_named n None = false
is_named n (Some m) = pointwise nat_eq m n

-- the same name, if there is one
abbrev pub is_same_name : Option Name → Option Name → Bool
is_same_name m None = false
is_same_name m (Some n) = is_named n m

module _ {K : Type 0} where
  -- the calculations whose columns 7 and 8 pass a test
  abbrev pub of_control : (ControlLevel → Bool) → List (Calculation K) → List (Calculation K)
  of_control test [] = []
  of_control test (g ∷ gs) = if test g.control then g ∷ of_control test gs else of_control test gs

  -- ---- subroutines: each BEGSR with what stands after it, up to the next one

  -- the name on a BEGSR, which may be blank
  abbrev pub begun_by : Statement K → Option (Option Name)
  begun_by (Begins n) = Some n
  begun_by _ = None

  -- none of the calculations if a subroutine begins
  abbrev pub unless_begun : Option (Option Name) → List (Calculation K) → List (Calculation K)
  unless_begun None gs = gs
  unless_begun (Some n) gs = []

  -- the calculations before the next BEGSR
  abbrev pub up_to_begin : List (Calculation K) → List (Calculation K)
  up_to_begin [] = []
  up_to_begin (g ∷ gs) = unless_begun (begun_by g.statement) (g ∷ up_to_begin gs)

  -- the subroutines, with one more in front if one begins
  abbrev pub with_begun : Option (Option Name) → List (Calculation K) → List (Subroutine K) → List (Subroutine K)
  with_begun None body ss = ss
  with_begun (Some n) body ss = record { name = n; body = body } ∷ ss

  -- the subroutines: each from its BEGSR up to the next
  abbrev pub subroutines_of : List (Calculation K) → List (Subroutine K)
  subroutines_of [] = []
  subroutines_of (g ∷ gs) = with_begun (begun_by g.statement) (up_to_begin gs) (subroutines_of gs)

  -- the calculations by section
  abbrev pub sections_of : List (Calculation K) → Sections K
  sections_of all = record {
    detail = of_control is_detail all;
    total = of_control is_total all;
    subroutines = subroutines_of (of_control is_subroutine all);
  }

  -- the number of a subroutine, from 0
  abbrev pub callee : Option Name → List (Subroutine K) → ℕ
  callee n [] = 0
  callee n (s ∷ ss) = if is_same_name n s.name then 0 else suc (callee n ss)

  -- the label of a TAG or ENDSR
  abbrev pub label_on : Statement K → Option Name
  label_on (Marks l) = l
  label_on (Ends l) = l
  label_on _ = None
