-- Runs of the detail or total section are what the cards do.
use Rattle.std.proofs.Common.{◌≡◌, ℕ, true, refl, sym, subst}
use Rattle.std.proofs.lemmas.Bool.{false≢true}
use Rattle.std.specs.FinMap as map
use Rattle.rpg_cards.specs.Keys.{Key, key_cmp}
use Rattle.rpg_cards.specs.Sections.{Sections}
use Rattle.rpg_program.specs.Ends.{End, Continues, Halt}
use Rattle.rpg_program.specs.World.{World}
use Rattle.rpg_machine.proofs.OneRun.{runs_are_one}
use Rattle.rpg_machine.proofs.Starting.{safe_start}
use Rattle.rpg_machine.specs.Accepted.{IsOrderly}
use Rattle.rpg_machine.specs.Config.{Config, Output}
use Rattle.rpg_machine.specs.Laws.{FitsIn}
use Rattle.rpg_machine.specs.Run.{RunsTo, at_first}
use Rattle.rpg_meaning.proofs.Calculations.Follows.{calculation_follows}
use Rattle.rpg_meaning.proofs.Calculations.Meant.{section_means}
use Rattle.rpg_meaning.proofs.Calculations.Placed.{place_start}
use Rattle.rpg_meaning.specs.Calculations.Agreement.{AgreeAt, AgreeEnded, part_section}
use Rattle.rpg_meaning.specs.Calculations.Laws.{EndsAs, KeepsMeaning, KeepsRuns, part_begun}
use Rattle.rpg_meaning.specs.Calculations.Meaning.{MeantOutcome, On, Over, Source, Stops, part_has_end}
use Rattle.rpg_meaning.specs.Calculations.Parts.{InDetail, InSubroutine, InTotal, Part, calculations_in}
use Rattle.rpg_meaning.specs.Calculations.Sections.{Meets}
use Rattle.rpg_meaning.specs.Calculations.Translation.{IsTranslation}
use Rattle.rpg_program.specs.Object.{Object}
use Rattle.rpg_program.specs.Sections as places
use Rattle.rpg_program.specs.Sections.{first_place}
use Rattle.rpg_program.specs.declared.section.Section.{Section}
use Rattle.rpg_program.specs.Naming.{Agree}

same_end : (c : Sections Key) (part : Part) → part_has_end part ≡ true → places.has_end (part_section c part) ≡ true
same_end c InDetail h = refl
same_end c InTotal h = refl
same_end c (InSubroutine m) h = absurd (false≢true h)

module _ {p : Object} {source : Source} {number : Key → ℕ} (orderly : IsOrderly p) (is : IsTranslation p source number) where
  begins : (part : Part) → part_has_end part ≡ true → (v : World key_cmp) (c : Config) → Agree source.forms number v c.world → FitsIn p.fields c.world.data → c.cells ≡ map.empty
      → AgreeAt p source number (part_begun part v c.allowance) (at_first p (part_section source.sections part) c)
  begins part h v c a fits none = record {
    world = a;
    allowance = refl;
    section = refl;
    place = sym (place_start (first_place p (part_section source.sections part)) (calculations_in source.sections part));
    fit = (safe_start p c (at_first p (part_section source.sections part) c) (part_section source.sections part) (same_end source.sections part h) none refl, fits);
  }

  came : (x : MeantOutcome) (section : Section) (c : Config) (e : End) (d : Config) (out : Output) → RunsTo p section c e d out → Meets p source number (at_first p section c) x → EndsAs p source number x e d out
  came (On t o) section c e d out run (end, f, (j, ran), a) =
      let same = runs_are_one p section c e Continues d f out o run (record { enough = j; run = ran }) in
      (same.0, same.2, subst (AgreeEnded p source number t) (sym same.1) (record { world = a.world; allowance = a.allowance }))
  came (Stops k t o) section c e d out run (f, (j, ran), a) =
      let same = runs_are_one p section c e (Halt k) d f out o run (record { enough = j; run = ran }) in
      (same.0, same.2, subst (AgreeEnded p source number t) (sym same.1) a)
  came Over section c e d out run m = m

  runs_kept : KeepsRuns p source number
  runs_kept part h v c a fits none e d out run =
      let m = section_means orderly is (part_begun part v c.allowance) (at_first p (part_section source.sections part) c) (begins part h v c a fits none) h in
      (m.0, m.1, came m.0 (part_section source.sections part) c e d out run m.2)

  pub meaning_kept : KeepsMeaning p source number
  meaning_kept = record {
    calculations = λ s d g at inside a. calculation_follows orderly is s d g at inside a;
    sections = λ s d a opened. section_means orderly is s d a opened;
    runs = runs_kept;
  }
