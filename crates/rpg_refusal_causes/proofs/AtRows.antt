-- Rows that are seen as others.
use Rattle.std.proofs.Common.{◌≡◌, ℕ, List, map, Option, Some, None, slice_get, refl, ap, ◌∙◌}
use Rattle.std.proofs.lemmas.Option.{slice_get-map}
use Rattle.std.specs.Option.{option_map}
use Rattle.rpg_program.specs.Object.{SubroutineRow, subroutine_row}
use Rattle.rpg_program.specs.declared.rows.Subroutine.{Subroutine}
use Rattle.rpg_refusal_causes.specs.First.{cause_of_row}

mapped : {X Y C : Type 0} (cause : Y → Option C) (f : X → Y) (o : Option X) → cause_of_row cause (option_map f o) ≡ cause_of_row (λ x. cause (f x)) o
mapped cause f None = refl
mapped cause f (Some x) = refl

pub row_seen : {X Y C : Type 0} (cause : Y → Option C) (f : X → Y) (xs : List X) (k : ℕ) → cause_of_row cause (slice_get (map f xs) k) ≡ cause_of_row (λ x. cause (f x)) (slice_get xs k)
row_seen cause f xs k = ap (cause_of_row cause) (slice_get-map f xs k) ∙ mapped cause f (slice_get xs k)

-- the level of a subroutine
level_mapped : (o : Option Subroutine) → option_map (λ (s : SubroutineRow). s.level) (option_map subroutine_row o) ≡ option_map (λ (s : Subroutine). s.level) o
level_mapped None = refl
level_mapped (Some s) = refl

pub level_seen : (xs : List Subroutine) (k : ℕ) → option_map (λ (s : SubroutineRow). s.level) (slice_get (map subroutine_row xs) k) ≡ option_map (λ (s : Subroutine). s.level) (slice_get xs k)
level_seen xs k = ap (option_map (λ (s : SubroutineRow). s.level)) (slice_get-map subroutine_row xs k) ∙ level_mapped (slice_get xs k)
