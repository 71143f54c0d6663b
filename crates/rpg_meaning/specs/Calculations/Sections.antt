-- Whole sections, with the subroutines that they call.
use Rattle.std.specs.Prelude.{◌≡◌, ℕ, ◌<◌, true, List, [], ◌∷◌, Some}
use Rattle.std.specs.FinMap as map
use Rattle.std.specs.Ordering.{nat_cmp}
use Rattle.rpg_cards.specs.Keys.{Key}
use Rattle.rpg_cards.specs.Sections.{Sections}
use Rattle.rpg_program.specs.Ends.{Continues, Halt}
use Rattle.rpg_machine.specs.Config.{Config}
use Rattle.rpg_machine.specs.Run.{run}
use Rattle.rpg_machine.specs.Step.{Stop}
use Rattle.rpg_meaning.specs.Calculations.Agreement.{AgreeAt, AgreeEnded, part_section, place_in}
use Rattle.rpg_meaning.specs.Calculations.Meaning.{MeantOutcome, On, Over, Source, Stops, is_finished, part_has_end}
use Rattle.rpg_meaning.specs.Calculations.Parts.{Part}
use Rattle.rpg_program.specs.Object.{Object}
use Rattle.rpg_program.specs.Sections.{level_of}
use Rattle.rpg_program.specs.declared.section.Place.{Place}
use Rattle.rpg_program.specs.declared.section.Section.TheVariants as sections

-- where an EXSR returns to
abbrev pub return_place : Object → Sections Key → Part × ℕ → Place
return_place p c b = record { section = part_section c b.0; number = place_in p c b.0 b.1 }

-- The cells are those of the open EXSRs: the running subroutine's leads after the last one, and so on; if none is open, detail or total
-- calculations run.
abbrev pub AreOpen : Object → Sections Key → map.FinMap nat_cmp Place → Part → List (Part × ℕ) → Type 0
AreOpen p c cells part [] = part_has_end part ≡ true
AreOpen p c cells part (b ∷ bs) =
    (n : ℕ) × (part_section c part ≡ sections.Subroutine n) × (map.get cells n ≡ Some (return_place p c b)) × (level_of p (part_section c b.0) < level_of p (part_section c part))
    × AreOpen p c cells b.0 bs

-- the section ends where the cards end, halts where they halt, and then all agree
abbrev pub Meets : Object → Source → (Key → ℕ) → Config → MeantOutcome → Type 0
Meets p source number d (On t o) = (is_finished source.sections t ≡ true) × (e : Config) × ((j : ℕ) × (run p j d ≡ Stop Continues e o)) × AgreeAt p source number t e
Meets p source number d (Stops k t o) = (e : Config) × ((j : ℕ) × (run p j d ≡ Stop (Halt k) e o)) × AgreeEnded p source number t e
Meets p source number d Over = ⊥
