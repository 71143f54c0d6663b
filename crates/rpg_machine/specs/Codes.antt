-- Codes of what a machine's model has.
use Rattle.std.specs.Prelude.{◌≡◌, ℕ, ◌⊎◌, refl}
use Rattle.std.proofs.Common.{inl, inr}
use Rattle.std.specs.Coded.{Coded, code_by, coded×, coded_ℕ, coded⊎}
use Rattle.std.specs.FinMap as map
use Rattle.std.specs.Ordering.{nat_cmp}
use Rattle.rpg_program.specs.World.{World}
use Rattle.rpg_machine.specs.Config.{Config}
use Rattle.rpg_program.specs.declared.section.Place.{Place}
use Rattle.rpg_program.specs.declared.section.Section.{Section}
use Rattle.rpg_program.specs.declared.section.Section.TheVariants.{Detail, Total, Subroutine}
use Rattle.rpg_memory.specs.Codes.{world_code}
use base.Stored.{coded_unit}

-- ---- places

-- a section as one of three types
abbrev section_to : Section → (Unit {0} ⊎ Unit {0}) ⊎ ℕ
section_to Detail = inl (inl tt)
section_to Total = inl (inr tt)
section_to (Subroutine n) = inr n

-- a section again
abbrev section_from : (Unit {0} ⊎ Unit {0}) ⊎ ℕ → Section
section_from (inl (inl u)) = Detail
section_from (inl (inr u)) = Total
section_from (inr n) = Subroutine n

pub section_law : (s : Section) → section_from (section_to s) ≡ s
section_law Detail = refl
section_law Total = refl
section_law (Subroutine n) = refl

-- the code of a section
abbrev pub coded_section : Coded Section
coded_section = code_by ((Unit {0} ⊎ Unit {0}) ⊎ ℕ) (coded⊎ (coded⊎ coded_unit coded_unit) coded_ℕ) section_to section_from section_law

-- a place as a pair
abbrev place_to : Place → Section × ℕ
place_to x = (x.section, x.number)

-- a place again
abbrev place_from : Section × ℕ → Place
place_from q = record { section = q.0; number = q.1 }

-- the code of a place
abbrev pub place_code : Coded Place
place_code = code_by (Section × ℕ) (coded× coded_section coded_ℕ) place_to place_from (λ _. refl)

-- ---- configurations

-- where each subroutine returns to
abbrev Cells : Type 0
Cells = map.FinMap nat_cmp Place

-- the code of where each subroutine returns to
abbrev pub cells_code : Coded Cells
cells_code = map.code coded_ℕ place_code

-- what control has: where it is, where it goes back to, and what it counts
abbrev Counted : Type 0
Counted = Section × (ℕ × (Cells × (ℕ × ℕ)))

-- a configuration as its parts
abbrev config_to : Config → World nat_cmp × Counted
config_to c = (c.world, (c.section, (c.place, (c.cells, (c.allowance, c.steps)))))

-- a configuration again
abbrev config_from : World nat_cmp × Counted → Config
config_from p = record { world = p.0; section = p.1.0; place = p.1.1.0; cells = p.1.1.1.0; allowance = p.1.1.1.1.0; steps = p.1.1.1.1.1 }

-- the code of a configuration
abbrev pub config_code : Coded Config
config_code = code_by (World nat_cmp × Counted) (coded× world_code (coded× coded_section (coded× coded_ℕ (coded× cells_code (coded× coded_ℕ coded_ℕ))))) config_to config_from (λ _. refl)
