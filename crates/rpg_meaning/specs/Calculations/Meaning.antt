-- What calculation cards mean, by names and labels, without field numbers, places or instructions.
use Rattle.std.specs.Prelude.{◌≡◌, ℕ, ◌+◌, ◌-◌, Bool, true, false, ◌&&◌, ◌==◌, nat_le, nat_lt, List, [], ◌∷◌, length, Option, None, Some, if◌then◌else◌, slice_get}
use Rattle.std.specs.FinSet as set
use Rattle.std.specs.List.{list_any}
use Rattle.std.specs.Ordering.{nat_cmp}
use Rattle.rpg_cards.specs.Statements.{Acts, Calculation, Statement, Ends, Executes, GoesTo, WritesExceptions}
use Rattle.rpg_cards.specs.Keys.{Key, key_cmp}
use Rattle.rpg_cards.specs.Sections.{Sections}
use Rattle.rpg_program.specs.Effect.{Effect}
use Rattle.rpg_program.specs.Ended.{on_data}
use Rattle.rpg_program.specs.Ends.{End, Continues, Halt}
use Rattle.rpg_program.specs.Lines.{Line, exception_output}
use Rattle.rpg_program.specs.Operate.{operate}
use Rattle.rpg_program.specs.World.{World, three_hold}
use Rattle.rpg_program.specs.declared.condition.Conditions.{Conditions}
use Rattle.rpg_program.specs.declared.form.FieldForm.{FieldForm}
use Rattle.rpg_program.specs.declared.rows.Overflow.{Overflow}
use Rattle.rpg_machine.specs.Config.{Output, no_output, with_more}
use Rattle.rpg_meaning.specs.Calculations.Parts.{InDetail, InSubroutine, InTotal, Part, calculations_in, label_position}

-- ---- whether a calculation is done

-- the level indicator of a calculation is on, or it has none
abbrev pub level_holds : set.FinSet nat_cmp → Option ℕ → Bool
level_holds on None = true
level_holds on (Some level) = set.contains on level

-- the conditions of all cards of an alternative
abbrev pub all_cards_hold : set.FinSet nat_cmp → List Conditions → Bool
all_cards_hold on [] = true
all_cards_hold on (cs ∷ rest) = three_hold on cs && all_cards_hold on rest

-- its level is on, and all conditions of one of its alternatives hold
abbrev pub is_done : set.FinSet nat_cmp → Calculation Key → Bool
is_done on g = level_holds on g.level && list_any (all_cards_hold on) g.alternatives

-- ---- the state of the cards

-- the context of calculations: what the cards of a source say, by name
pub record Source : Type 0 where
  pub sections : Sections Key
  pub forms : Key → Option FieldForm
  pub words : Key → List ℕ  -- the edit word that a constant is
  pub overflow : Overflow
  pub lines : List (Line Key)

-- the values by name and everything else that the cards change, the running part and which of its calculations is next, where open EXSRs
-- return to, and the remaining allowance
pub record State : Type 0 where
  pub world : World key_cmp
  pub part : Part
  pub next : ℕ
  pub back : List (Part × ℕ)
  pub allowance : ℕ

-- they continue, halt, or have nothing to continue with; with what was output
pub data MeantOutcome : Type 0 where
  On : State → Output → MeantOutcome
  Stops : ℕ → State → Output → MeantOutcome
  Over : MeantOutcome

-- at another calculation of the part
abbrev pub at_next : State → ℕ → State
at_next s n = record s { next = n }

-- the state after an effect
abbrev pub after_effect : End → State → World key_cmp → Output → MeantOutcome
after_effect Continues s w o = On (record s { world = w; next = s.next + 1 }) o
after_effect (Halt k) s w o = Stops k (record s { world = w }) o
after_effect other s w o = Over

-- the outcome of an effect on the world of a state
abbrev pub affected : State → Effect key_cmp → MeantOutcome
affected s e = after_effect e.ending s e.world (record { lines = e.lines; records = e.records })

-- one of the allowance is spent; halt 5 if none is left
abbrev pub spending : State → State → MeantOutcome
spending s t = if s.allowance == 0 then Stops 5 s no_output else On (record t { allowance = s.allowance - 1 }) no_output

-- going to an earlier card costs one of the allowance
abbrev pub gone_to : State → ℕ → MeantOutcome
gone_to s n = if nat_lt n s.next then spending s (at_next s n) else On (at_next s n) no_output

-- after the EXSR that was opened last
abbrev pub come_back : State → List (Part × ℕ) → MeantOutcome
come_back s [] = Over
come_back s (b ∷ bs) = On (record s { part = b.0; next = b.1; back = bs }) no_output

module _ (source : Source) where
  -- what a calculation does, by its operation
  abbrev pub statement_done : State → Statement Key → MeantOutcome
  statement_done s (Acts a) = affected s (on_data (operate source.forms a) s.world)
  statement_done s WritesExceptions = affected s (exception_output source.forms source.words source.overflow source.lines s.world)
  statement_done s (GoesTo label) = gone_to s (label_position label (calculations_in source.sections s.part))
  statement_done s (Executes name) = spending s (record s { part = InSubroutine name; next = 0; back = (s.part, s.next + 1) ∷ s.back })
  statement_done s (Ends l) = come_back s s.back
  statement_done s _ = On (at_next s (s.next + 1)) no_output

  -- one calculation: what it does if its conditions hold, and then the next one
  abbrev pub calculation_done : State → Option (Calculation Key) → MeantOutcome
  calculation_done s None = Over
  calculation_done s (Some g) = if is_done s.world.data.on g then statement_done s g.statement else On (at_next s (s.next + 1)) no_output

  -- one calculation
  unfoldable pub cards_step : State → MeantOutcome
  cards_step s = calculation_done s (slice_get (calculations_in source.sections s.part) s.next)

-- ---- one after the other

-- detail and total calculations end after their last one
abbrev pub part_has_end : Part → Bool
part_has_end InDetail = true
part_has_end InTotal = true
part_has_end (InSubroutine name) = false

-- the section is at its end; a subroutine ends by its ENDSR
abbrev pub is_finished : Sections Key → State → Bool
is_finished c s = part_has_end s.part && nat_le (length (calculations_in c s.part)) s.next

-- the outcome with earlier output before it
abbrev pub with_earlier_output : Output → MeantOutcome → MeantOutcome
with_earlier_output o (On t more) = On t (with_more o more)
with_earlier_output o (Stops k t more) = Stops k t (with_more o more)
with_earlier_output o Over = Over

-- Where the cards lead, one calculation after another.
pub data CardsCome (source : Source) : State → MeantOutcome → Type 0 where
  -- detail or total calculations are after their last one
  AtEnd : (s : State) → is_finished source.sections s ≡ true → CardsCome source s (On s no_output)
  -- one calculation halts
  AtHalt : (s t : State) (o : Output) (k : ℕ) → is_finished source.sections s ≡ false → cards_step source s ≡ Stops k t o → CardsCome source s (Stops k t o)
  -- one calculation continues, and the rest follows
  Then : (s t : State) (o : Output) (rest : MeantOutcome) → is_finished source.sections s ≡ false → cards_step source s ≡ On t o → CardsCome source t rest → CardsCome source s (with_earlier_output o rest)
