-- The cards come to an end, and the compiled section comes to the same.
use Rattle.std.proofs.Common.{◌≡◌, ℕ, ◌+◌, ◌≤◌, Bool, true, false, cond, List, [], ◌∷◌, length, Option, refl, arith}
use Rattle.rpg_cards.specs.Keys.{Key, Name}
use Rattle.rpg_cards.specs.Sections.{Sections, Subroutine, is_same_name}
use Rattle.rpg_machine.specs.Accepted.{IsOrderly}
use Rattle.rpg_machine.specs.Config.{Config}
use Rattle.rpg_meaning.proofs.Calculations.Counted.{HasEnded, cards_run, comes}
use Rattle.rpg_meaning.proofs.Calculations.Ending.{IsAtEnd, run_ends, work}
use Rattle.rpg_meaning.proofs.Calculations.Sections.{Does, section_does, section_ends}
use Rattle.rpg_meaning.specs.Calculations.Agreement.{AgreeAt}
use Rattle.rpg_meaning.specs.Calculations.Meaning.{CardsCome, MeantOutcome, On, Over, Source, State, Stops}
use Rattle.rpg_meaning.specs.Calculations.Parts.{InDetail, InSubroutine, InTotal, Part, body_named, calculations_in}
use Rattle.rpg_meaning.specs.Calculations.Sections.{AreOpen, Meets}
use Rattle.rpg_meaning.specs.Calculations.Translation.{IsTranslation}
use Rattle.rpg_program.specs.Object.{Object}

-- no part has more calculations than all parts together
abbrev all_in : List (Subroutine Key) → ℕ
all_in [] = 0
all_in (s ∷ ss) = length s.body + all_in ss

abbrev most_of : Sections Key → ℕ
most_of c = length c.detail + length c.total + all_in c.subroutines

few_in : (name : Option Name) (ss : List (Subroutine Key)) → length (body_named name ss) ≤ all_in ss
few_in name [] = omega arith
few_in name (s ∷ ss) = by_name (is_same_name name s.name) (few_in name ss)
  where
    by_name : (b : Bool) → length (body_named name ss) ≤ all_in ss → length (cond b s.body (body_named name ss)) ≤ length s.body + all_in ss
    by_name true h = omega arith
    by_name false h = omega arith

few : (c : Sections Key) (part : Part) → length (calculations_in c part) ≤ most_of c
few c InDetail = omega arith
few c InTotal = omega arith
few c (InSubroutine name) = let h = few_in name c.subroutines in omega arith

module _ {p : Object} {source : Source} {number : Key → ℕ} (orderly : IsOrderly p) (is : IsTranslation p source number) where
  by_end : (s : State) (d : Config) (n : ℕ) → AgreeAt p source number s d → AreOpen p source.sections d.cells s.part s.back → (x : MeantOutcome) → cards_run source n s ≡ x → IsAtEnd source.sections x → Does p source number d x → Meets p source number d x
  by_end s d n a opened (On t o) ran end does = let r = section_ends orderly is n s t o d a opened ran end in (end, r.0, r.1, r.2)
  by_end s d n a opened (Stops k t o) ran end does = does
  by_end s d n a opened Over ran end does = does

  has_ended : (d : Config) (x : MeantOutcome) → Meets p source number d x → HasEnded source x
  has_ended d (On t o) m = m.0
  has_ended d (Stops k t o) m = tt
  has_ended d Over m = m

  pub section_means : (s : State) (d : Config) → AgreeAt p source number s d → AreOpen p source.sections d.cells s.part s.back
      → (e : MeantOutcome) × CardsCome source s e × Meets p source number d e
  section_means s d a opened =
      let n = work source (most_of source.sections) (few source.sections) s + 1 in
      let m = by_end s d n a opened _ refl (run_ends source (most_of source.sections) (few source.sections) n s (omega arith)) (section_does orderly is n s d a opened) in
      (cards_run source n s, comes source n s (has_ended d (cards_run source n s) m), m)
