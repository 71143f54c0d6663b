-- Runs of a compiled source: what is read of its cards, and runs that stop early.
use Rattle.std.proofs.Common.{◌≡◌, ◌++◌, ℕ, ℤ, List, Option, Result, Ok, Err, ap, ◌∙◌}
use Rattle.std.specs.Prelude.{IfErr, IfOk}
use Rattle.rpg_cards.specs.declared.spec_card.SpecCard.{SpecCard}
use Rattle.rpg_compile.specs.Compile.{Compiles}
use Rattle.rpg_compile_program.specs.Program.{program_of}
use Rattle.rpg_engine.proofs.Headline.{of_each}
use Rattle.rpg_engine.specs.Inputs.{OfFronts, OfInputs}
use Rattle.rpg_engine.specs.Outputs.{Contents}
use Rattle.rpg_engine.specs.Reporting.{Reports, SendsFirstParts, SendsParts}
use Rattle.rpg_engine.specs.declared.fault.RunFault.{RunFault}
use Rattle.rpg_engine.specs.declared.report.Report.{Report}
use Rattle.rpg_faults.specs.Source.{cards_in}
use Rattle.rpg_meaning.specs.Sheets.Files.{file_record_length}
use Rattle.rpg_meaning.proofs.Calculations.MeantFiles.{secondary_is_meant}
use Rattle.rpg_program.specs.Object.{Object}
use Rattle.rpg_meaning.specs.Sources.Printing.{PrintsAsMeant, SendsPartsAsMeant}
use Rattle.rpg_meaning.specs.Sources.Running.{HasNoSecondary, IsFaultlessSource}

pub faultless_of : (text : List ℕ) (allowance : ℕ) (p : Object) → Compiles text allowance p → IsFaultlessSource text
faultless_of text allowance p compiled = record { readable = compiled.readable; faultless = compiled.faultless }

no_length : (cards : List SpecCard) (allowance : ℕ) → HasNoSecondary cards → (program_of cards allowance).secondary_length ≡ 0
unfolding program_of
no_length cards allowance none = ap file_record_length (secondary_is_meant cards) ∙ none

-- its program has no secondary file
pub reads_none : (text : List ℕ) (allowance : ℕ) (p : Object) → Compiles text allowance p → HasNoSecondary (cards_in text) → p.secondary_length ≡ 0
reads_none text allowance p compiled none = ap (λ (q : Object). q.secondary_length) compiled.program ∙ no_length (cards_in text) allowance none

-- ---- what each two inputs that begin with what was read have

module _ (p : Object) (cards : List SpecCard) (allowance : ℕ) (day : ℤ) (given left others rest : Option (List ℕ)) (before after : Contents) where
  -- by a run that gave a report
  pub prints_of : ((report : Report) (primary secondary : List ℕ) → Reports p day report before after primary secondary → PrintsAsMeant cards allowance day report before after primary secondary)
      → (r : Result Report RunFault) → IfOk r (λ report. OfInputs given left others rest (Reports p day report before after))
      → IfOk r (λ report. OfInputs given left others rest (PrintsAsMeant cards allowance day report before after))
  prints_of each (Ok report) h = of_each given left others rest _ _ (each report) h
  prints_of each (Err e) h = tt

  -- by one that stopped early
  pub stops_of : ((e : RunFault) (primary secondary : List ℕ) → SendsFirstParts p day e before after primary secondary → SendsPartsAsMeant cards allowance day e before after primary secondary)
      → (r : Result Report RunFault) → IfErr r (λ e. OfFronts given left others rest (SendsParts p day e before after))
      → IfErr r (λ e. OfInputs given left others rest (SendsPartsAsMeant cards allowance day e before after))
  stops_of each (Ok report) h = tt
  stops_of each (Err e) o = record {
    primary = o.primary;
    secondary = o.secondary;
    fact = λ more following can can_too. each e (o.primary.read ++ more) (o.secondary.read ++ following) (let stops = o.fact.stops more following can can_too in stops.parts);
  }
