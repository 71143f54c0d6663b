-- The sections of a source: its calculations at detail time, those at total time, and its subroutines. Numbers are the columns of a C card.
use Rattle.std.specs.Prelude.{◌++◌, Bool, true, false, List, [], ◌∷◌, filter, if◌then◌else◌}
use Rattle.rpg_cards.specs.Statements.{Begins, Calculation, Statement}
use Rattle.rpg_cards.specs.Keys.{Key}
use Rattle.rpg_cards.specs.Sections.{Sections, Subroutine}
use Rattle.rpg_sheet_specs.specs.declared.calculation.ControlLevel.{ControlLevel}
use Rattle.rpg_sheet_specs.specs.declared.calculation.ControlLevel.TheVariants as control

-- ---- 7-8: blank at detail time; L0 to L9 and LR at total time; SR in a subroutine

-- columns 7 and 8 are blank
abbrev pub is_at_detail_time : ControlLevel → Bool
is_at_detail_time control.Detail = true
is_at_detail_time _ = false

-- columns 7 and 8 have L0 to L9 or LR
abbrev pub is_at_total_time : ControlLevel → Bool
is_at_total_time (control.Total n) = true
is_at_total_time _ = false

-- columns 7 and 8 have SR
abbrev pub has_sr : ControlLevel → Bool
has_sr control.Subroutine = true
has_sr _ = false

-- ---- subroutines: each from the calculation after its BEGSR to the one before the next BEGSR

-- BEGSR
abbrev pub is_begin : Statement Key → Bool
is_begin (Begins name) = true
is_begin _ = false

-- the calculations of a subroutine: those before the next BEGSR
abbrev pub meant_body : List (Calculation Key) → List (Calculation Key)
meant_body [] = []
meant_body (g ∷ gs) = if is_begin g.statement then [] else g ∷ meant_body gs

-- the subroutine that a calculation begins, if it is a BEGSR, with these after it
abbrev pub begun_before : List (Calculation Key) → Statement Key → List (Subroutine Key)
begun_before gs (Begins name) = record { name = name; body = meant_body gs } ∷ []
begun_before gs _ = []

-- the subroutines, each with the calculations after its BEGSR
abbrev pub meant_subroutines : List (Calculation Key) → List (Subroutine Key)
meant_subroutines [] = []
meant_subroutines (g ∷ gs) = begun_before gs g.statement ++ meant_subroutines gs

-- ---- all sections, in the order of the cards

-- the calculations of a source by section
abbrev pub meant_sections : List (Calculation Key) → Sections Key
meant_sections calculations = record {
  detail = filter (λ g. is_at_detail_time g.control) calculations;
  total = filter (λ g. is_at_total_time g.control) calculations;
  subroutines = meant_subroutines (filter (λ g. has_sr g.control) calculations);
}
