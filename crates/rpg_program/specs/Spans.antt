-- What is needed of a section to check its instructions.
use Rattle.std.specs.Prelude.{◌≡◌}
use Rattle.rpg_program.specs.Object.{Object}
use Rattle.rpg_program.specs.Sections.{first_place, level_of, place_after}
use Rattle.rpg_program.specs.declared.spans.Span.{Span}

-- its first place, its end and its level
pub record IsSpan (p : Object) (s : Span) : Type 0 where
  pub level : s.level ≡ level_of p s.section
  pub first : s.first ≡ first_place p s.section
  pub end : s.end ≡ place_after p s.section
