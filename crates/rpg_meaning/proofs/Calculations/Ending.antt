-- What the cards do always ends: each calculation leaves less to be done.
use Rattle.std.proofs.Common.{◌≡◌, ◌≢◌, ℕ, zero, suc, ◌+◌, ◌-◌, ◌*◌, ◌<◌, ◌≤◌, Bool, true, false, cond, eqb, List, [], ◌∷◌, length, Option, Some, None, refl, ap, ◌∙◌, arith, slice_get, nat_lt}
use Rattle.std.proofs.lemmas.Bool.{ltb-false}
use Rattle.std.proofs.lemmas.Option.{slice_get_within}
use Rattle.rpg_cards.specs.Statements.{Acts, Begins, Calculation, Statement, Ends, Executes, GoesTo, Marks, Nothing, WritesExceptions}
use Rattle.rpg_cards.specs.Keys.{Key, key_cmp}
use Rattle.rpg_cards.specs.Sections.{Sections}
use Rattle.rpg_program.specs.Ends.{End, Continues, Halt, Wrong}
use Rattle.rpg_program.specs.World.{World}
use Rattle.rpg_machine.specs.Config.{Output, no_output}
use Rattle.rpg_meaning.proofs.Calculations.Counted.{cards_run, followed}
use Rattle.rpg_meaning.proofs.Calculations.Placed.{not_own}
use Rattle.rpg_meaning.specs.Calculations.Meaning.{MeantOutcome, On, Over, Source, State, Stops, after_effect, at_next, calculation_done, cards_step, come_back, statement_done, gone_to, is_done, is_finished, spending, with_earlier_output}
use Rattle.rpg_meaning.specs.Calculations.Parts.{InSubroutine, Part, bears, calculations_in, label_position}

-- an end: no calculation is left, a halt, or nothing that is meant
abbrev pub IsAtEnd : Sections Key → MeantOutcome → Type 0
IsAtEnd c (On t o) = is_finished c t ≡ true
IsAtEnd c (Stops k t o) = Unit {0}
IsAtEnd c Over = Unit {0}

-- the calculations left in a part, and after the open EXSRs
abbrev pub left : Sections Key → Part → ℕ → ℕ
left c part n = length (calculations_in c part) - n

abbrev pub following : Sections Key → List (Part × ℕ) → ℕ
following c [] = 0
following c (b ∷ bs) = (left c b.0 b.1 + 1) + following c bs

one_less : (a m : ℕ) → a * m + m ≡ suc a * m
one_less a m = grind arith

spent : (a m : ℕ) → 0 < a → (a - 1) * m + m ≡ a * m
spent zero m h = absurd (omega arith)
spent (suc a) m h = let e : suc a - 1 ≡ a = omega arith in ap (λ x. x * m + m) e ∙ one_less a m

some_left : (n : ℕ) → eqb n 0 ≡ false → 0 < n
some_left zero h = cc
some_left (suc n) h = omega arith

module _ (source : Source) (most : ℕ) (long : (part : Part) → length (calculations_in source.sections part) ≤ most) where
  abbrev pub work : State → ℕ
  work s = s.allowance * (most + 2) + left source.sections s.part s.next + following source.sections s.back

  abbrev Less : State → MeantOutcome → Type 0
  Less s (On t o) = work t < work s
  Less s (Stops k t o) = Unit {0}
  Less s Over = Unit {0}

  one_on : (s : State) (w : World key_cmp) (o : Output) (a : ℕ) → a ≡ s.allowance → s.next < length (calculations_in source.sections s.part) → Less s (On (record s { world = w; next = s.next + 1 }) o)
  one_on s w o a e h = omega arith

  ended_less : (x : End) (s : State) (w : World key_cmp) (o : Output) → s.next < length (calculations_in source.sections s.part) → Less s (after_effect x s w o)
  ended_less Continues s w o h = one_on s w o s.allowance refl h
  ended_less (Halt k) s w o h = tt
  ended_less (Wrong f) s w o h = tt

  spending_less : (s t : State) → left source.sections t.part t.next + following source.sections t.back < most + 2 + (left source.sections s.part s.next + following source.sections s.back) → Less s (spending s t)
  spending_less s t h = by_left (eqb s.allowance 0) refl
    where
      by_left : (b : Bool) → eqb s.allowance 0 ≡ b → Less s (cond b (Stops 5 s no_output) (On (record t { allowance = s.allowance - 1 }) no_output))
      by_left true e = tt
      by_left false e = let p = spent s.allowance (most + 2) (some_left s.allowance e) in omega arith

  goto_less : (s : State) (n : ℕ) → n ≢ s.next → s.next < length (calculations_in source.sections s.part) → Less s (gone_to s n)
  goto_less s n other h = by_side (nat_lt n s.next) refl
    where
      by_side : (b : Bool) → nat_lt n s.next ≡ b → Less s (cond b (spending s (at_next s n)) (On (at_next s n) no_output))
      by_side true e = let m = long s.part in spending_less s (at_next s n) (omega arith)
      by_side false e = let k : s.next ≤ n = omega (arith, ltb-false) in omega arith

  back_less : (s : State) → s.next < length (calculations_in source.sections s.part) → (bs : List (Part × ℕ)) → s.back ≡ bs → Less s (come_back s bs)
  back_less s h [] e = tt
  back_less s h (b ∷ bs) e = let same = ap (following source.sections) e in omega arith

  statement_less : (s : State) (g : Calculation Key) → slice_get (calculations_in source.sections s.part) s.next ≡ Some g → (x : Statement Key) → g.statement ≡ x → Less s (statement_done source s x)
  statement_less s g e (Marks l) f = one_on s s.world no_output s.allowance refl (slice_get_within _ _ g e)
  statement_less s g e (Begins l) f = one_on s s.world no_output s.allowance refl (slice_get_within _ _ g e)
  statement_less s g e Nothing f = one_on s s.world no_output s.allowance refl (slice_get_within _ _ g e)
  statement_less s g e (Acts a) f = ended_less _ s _ _ (slice_get_within _ _ g e)
  statement_less s g e WritesExceptions f = ended_less _ s _ _ (slice_get_within _ _ g e)
  statement_less s g e (GoesTo l) f = goto_less s (label_position l (calculations_in source.sections s.part)) (not_own l (calculations_in source.sections s.part) s.next g e (ap (λ x. bears l (record g { statement = x })) f)) (slice_get_within _ _ g e)
  statement_less s g e (Executes n) f =
      let h = slice_get_within (calculations_in source.sections s.part) s.next g e in
      let m = long (InSubroutine n) in
      spending_less s (record s { part = InSubroutine n; next = 0; back = (s.part, s.next + 1) ∷ s.back }) (omega arith)
  statement_less s g e (Ends l) f = back_less s (slice_get_within _ _ g e) s.back refl

  step_less : (s : State) → Less s (cards_step source s)
  unfolding cards_step
  step_less s = by_group (slice_get (calculations_in source.sections s.part) s.next) refl
    where
      by_done : (g : Calculation Key) → slice_get (calculations_in source.sections s.part) s.next ≡ Some g → (b : Bool) → Less s (cond b (statement_done source s g.statement) (On (at_next s (s.next + 1)) no_output))
      by_done g e true = statement_less s g e g.statement refl
      by_done g e false = one_on s s.world no_output s.allowance refl (slice_get_within _ _ g e)

      by_group : (o : Option (Calculation Key)) → slice_get (calculations_in source.sections s.part) s.next ≡ o → Less s (calculation_done source s o)
      by_group None e = tt
      by_group (Some g) e = by_done g e (is_done s.world.data.on g)

  reported_end : (o : Output) (x : MeantOutcome) → IsAtEnd source.sections x → IsAtEnd source.sections (with_earlier_output o x)
  reported_end o (On t more) h = h
  reported_end o (Stops k t more) h = h
  reported_end o Over h = h

  -- what the cards do comes to an end
  pub run_ends : (n : ℕ) (s : State) → work s < n → IsAtEnd source.sections (cards_run source n s)
  run_ends zero s h = absurd (omega arith)
  run_ends (suc n) s h = by_end (is_finished source.sections s) refl (λ t l. run_ends n t l)
    where
      rest : (x : MeantOutcome) → Less s x → ((t : State) → work t < n → IsAtEnd source.sections (cards_run source n t)) → IsAtEnd source.sections (followed x (cards_run source n))
      rest (On t o) l go = reported_end o (cards_run source n t) (go t (omega arith))
      rest (Stops k t o) l go = tt
      rest Over l go = tt

      by_end : (b : Bool) → is_finished source.sections s ≡ b → ((t : State) → work t < n → IsAtEnd source.sections (cards_run source n t)) → IsAtEnd source.sections (cond b (On s no_output) (followed (cards_step source s) (cards_run source n)))
      by_end true f go = f
      by_end false f go = rest (cards_step source s) (step_less s) go
