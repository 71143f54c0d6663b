-- Cards whose definitions all have forms, as in a source without a fault.
use Rattle.std.specs.Prelude.{List, Option, None, Some}
use Rattle.rpg_cards.specs.Names.{definitions}
use Rattle.rpg_cards.specs.Plain.{Each}
use Rattle.rpg_cards.specs.declared.names.Definition.{Definition}
use Rattle.rpg_cards.specs.declared.spec_card.SpecCard.{SpecCard}
use Rattle.rpg_program.specs.declared.form.FieldForm.{FieldForm}

-- there is a form
abbrev pub IsForm : Option FieldForm → Type 0
IsForm None = ⊥
IsForm (Some form) = Unit {0}

-- the definition has a form: its length, decimals and entries are within their limits
abbrev pub DefinesForm : Definition → Type 0
DefinesForm d = IsForm d.form

-- each definition of the cards has a form
abbrev pub AreDefined : List SpecCard → Type 0
AreDefined cards = Each DefinesForm (definitions cards)
