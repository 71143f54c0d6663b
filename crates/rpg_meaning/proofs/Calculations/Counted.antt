-- Calculations by their count: where the cards have come to after so many, and that they come to it where that is an end.
use Rattle.std.proofs.Common.{◌≡◌, ℕ, zero, suc, Bool, true, false, cond, refl}
use Rattle.std.specs.Prelude.{if◌then◌else◌}
use Rattle.rpg_machine.specs.Config.{Output, no_output}
use Rattle.rpg_meaning.specs.Calculations.Meaning.{AtEnd, AtHalt, CardsCome, MeantOutcome, On, Over, Source, State, Stops, Then, cards_step, is_finished, with_earlier_output}

abbrev pub followed : MeantOutcome → (State → MeantOutcome) → MeantOutcome
followed (On s o) go = with_earlier_output o (go s)
followed (Stops k s o) go = Stops k s o
followed Over go = Over

-- at most n calculations, up to the end of detail or total calculations
abbrev pub cards_run : Source → ℕ → State → MeantOutcome
cards_run source zero s = On s no_output
cards_run source (suc n) s = if is_finished source.sections s then On s no_output else followed (cards_step source s) (cards_run source n)

-- an outcome is an end
abbrev pub HasEnded : Source → MeantOutcome → Type 0
HasEnded source (On t o) = is_finished source.sections t ≡ true
HasEnded source (Stops k t o) = Unit {0}
HasEnded source Over = ⊥

module _ (source : Source) where
  had_ended : (o : Output) (e : MeantOutcome) → HasEnded source (with_earlier_output o e) → HasEnded source e
  had_ended o (On t more) h = h
  had_ended o (Stops k t more) h = tt
  had_ended o Over h = h

  pub comes : (n : ℕ) (s : State) → HasEnded source (cards_run source n s) → CardsCome source s (cards_run source n s)
  comes zero s h = AtEnd s h
  comes (suc n) s h = by (is_finished source.sections s) refl (cards_step source s) refl (λ t. comes n t) h
    where
      by_step : is_finished source.sections s ≡ false → (e : MeantOutcome) → cards_step source s ≡ e → ((t : State) → HasEnded source (cards_run source n t) → CardsCome source t (cards_run source n t))
          → HasEnded source (followed e (cards_run source n)) → CardsCome source s (followed e (cards_run source n))
      by_step f (On t o) is rest h = Then s t o (cards_run source n t) f is (rest t (had_ended o (cards_run source n t) h))
      by_step f (Stops k t o) is rest h = AtHalt s t o k f is
      by_step f Over is rest h = absurd h

      by : (b : Bool) → is_finished source.sections s ≡ b → (e : MeantOutcome) → cards_step source s ≡ e → ((t : State) → HasEnded source (cards_run source n t) → CardsCome source t (cards_run source n t))
          → HasEnded source (cond b (On s no_output) (followed e (cards_run source n))) → CardsCome source s (cond b (On s no_output) (followed e (cards_run source n)))
      by true f e is rest h = AtEnd s f
      by false f e is rest h = by_step f e is rest h
