-- What the parts of reading records, and of selecting one, do.
use Rattle.std.specs.Prelude.{◌≡◌, ℕ, ◌+◌, ◌<◌, ◌≤◌, All, List, length, slice_get, Option, None, Some, Result, IfOk}
use Rattle.std.specs.Option.{ForSome}
use denote.Bor.{Bor}
use Rattle.rpg_cycle_records.specs.Earlier.{Left, control_fields, file_of, last_of_file}
use Rattle.rpg_cycle.specs.Doing.{Does, DoesHolding, holding, holding_kept, next_text, unselected, under_way}
use Rattle.rpg_cycle.specs.Ends.{Continues, Halt, PhaseEnd}
use Rattle.rpg_cycle_records.specs.Fitting.{IsControlIn}
use Rattle.rpg_cycle_records.specs.Identifying.{IsOf, IsOfNone, identified, trial_weight}
use Rattle.rpg_cycle.specs.Indicators.{with_levels, with_type}
use Rattle.rpg_cycle_records.specs.Holding.{AreFilesKept, HoldsRecord, HoldsSelected, IsFileKept, input_state_of, inputs_of, text_in}
use Rattle.rpg_cycle_records.specs.Keeping.{left_of, renewed, renewed_by, seen_levels, seen_value}
use Rattle.rpg_cycle_records.specs.Levels.{broken_in}
use Rattle.rpg_cycle_records.specs.Waiting.{Inputs, input_at, waiting_in, with_input}
use Rattle.rpg_cycle_records.specs.declared.files.KeptFile.{KeptFile}
use Rattle.rpg_cycle_records.specs.declared.kept.Kept.{Kept}
use Rattle.rpg_cycle_records.specs.declared.levels.LastBytes.{LastBytes}
use Rattle.rpg_cycle_records.specs.declared.matching.LastValues.{LastValues}
use Rattle.rpg_cycle_records.specs.declared.matching.MatchValue.{MatchValue}
use Rattle.rpg_cycle.specs.Phases.{done, read_record, select_one, select_record, select_waiting, take_in, type_indicator}
use Rattle.rpg_cycle.specs.Spending.{Spends, SpendsSelecting, SpendsTakingIn, compared_weight}
use Rattle.rpg_cycle.specs.Stages.{UnlessNoMemory, job_end}
use Rattle.rpg_cycle.specs.declared.ends.JobEnd.{JobEnd}
use Rattle.rpg_cycle.specs.declared.ends.PhaseStop.{PhaseStop}
use Rattle.rpg_paper.specs.Paper.{Position}
use Rattle.rpg_program.specs.declared.input.ControlField.{ControlField}
use Rattle.rpg_program.specs.declared.input.InputFile.{InputFile}
use Rattle.rpg_program.specs.Weights.{types_weight}
use Rattle.rpg_machine.specs.Config.{Config, charged}
use Rattle.rpg_machine.specs.Ready.{IsReady}
use Rattle.rpg_machine.specs.Running.{Running, config_on}
use Rattle.rpg_program.specs.Object.{Object}

-- the record is of that type of its file
pub record TakesType (p : Object) (f : InputFile) (text : List ℕ) (old : Running) (t : ℕ) (new : Running) : Type 0 where
  pub type : identified f 0 p.types text ≡ IsOf t
  pub own : file_of (slice_get p.types t) ≡ f
  pub few : trial_weight f p.types text ≤ 20000
  pub there : t < length p.types
  pub machine : new ≡ record old { config = charged (trial_weight f p.types text) old.config }
  pub ready : IsReady old → IsReady new

-- the record is of no type
pub record IsUntaken (p : Object) (f : InputFile) (text : List ℕ) (old : Running) (e : JobEnd) (new : Running) : Type 0 where
  pub type : identified f 0 p.types text ≡ IsOfNone
  pub few : trial_weight f p.types text ≤ 20000
  pub end : job_end e ≡ Halt 3
  pub machine : new ≡ record old { config = charged (trial_weight f p.types text) old.config }

-- the indicator of a type turned on, its control fields were compared, and are kept
pub record IsCompared (indicator : Option ℕ) (fs : List ControlField) (text : List ℕ) (bytes : List (Option (List ℕ))) (old new : Running) (now : List (Option (List ℕ))) : Type 0 where
  pub machine : new ≡ record old { config = with_levels (broken_in fs text bytes) (charged (length fs) (with_type indicator old.config)) }
  pub kept : now ≡ renewed fs text 9 bytes
  pub inside : All (IsControlIn (length text)) fs
  pub ready : IsReady old → IsReady new

-- a file was read and gave this record or none: the result, and what waits then, wherever the form is
pub record HasRead (p : Object) (left : Left) (f : InputFile) (next : Option (List ℕ)) (before : Inputs) (old : Running) (e : PhaseEnd) (new : Running) (after : Inputs) : Type 0 where
  pub config : Config
  pub read : (previous : Option Position) → read_record p left f next (under_way (config_on previous old.config) (unselected before)) ≡ done e (under_way (config_on previous config) (unselected after))
  pub machine : new ≡ record old { config = config }

-- the record that waits in a file, if any, was selected: the cycle in progress then, wherever the form is
pub record HasSelected (p : Object) (left : Left) (f : InputFile) (before : Inputs) (old : Running) (t : Option ℕ) (text : List ℕ) (new : Running) (after : Inputs) : Type 0 where
  pub config : Config
  pub leads : (previous : Option Position) → select_waiting p left f (waiting_in before f) (under_way (config_on previous old.config) (unselected before)) ≡ done Continues (under_way (config_on previous config) (holding after t text))
  pub machine : new ≡ record old { config = config }

-- what earlier records leave, with these bytes of levels and these match values
abbrev pub with_seen : List LastBytes → LastValues → Left → Left
with_seen levels values l = record l { bytes = seen_levels levels; primary = seen_value values.primary; secondary = seen_value values.secondary }

-- ---- the same in terms of what a job keeps, whatever else earlier records left, and whatever the other file has

-- a file with this last match value was read and gave this record or none
abbrev pub ReadsRecord : Object → InputFile → MatchValue → Option (List ℕ) → KeptFile → Running → PhaseEnd → KeptFile → Running → Type 0
ReadsRecord p f last next k old e k' new =
    (left : Left) (i : Inputs) → last_of_file left f ≡ seen_value last → input_at i f ≡ input_state_of k
    → HasRead p left f next i old e new (with_input f (input_state_of k') i)

-- the job ended with this record of the file, and the files were left unchanged
abbrev pub EndsAtRecord : Object → InputFile → MatchValue → List ℕ → Running → PhaseEnd → Running → Type 0
EndsAtRecord p f last text old e new =
    (left : Left) (i : Inputs) → last_of_file left f ≡ seen_value last → HasRead p left f (Some text) i old e new i

-- a file with this last match value read its next record, if it needs one
abbrev pub TakesIn : Object → InputFile → MatchValue → Option (Bor (List ℕ)) → KeptFile → Running → KeptFile → Running → Type 0
TakesIn p f last next k old k' new =
    (left : Left) (i : Inputs) → last_of_file left f ≡ seen_value last → input_at i f ≡ input_state_of k
    → Does (take_in p left f (next_text next)) old (unselected i) Continues new (unselected (with_input f (input_state_of k') i))

-- the job ended there, and the files were left unchanged
abbrev pub EndsTakingIn : Object → InputFile → MatchValue → Option (Bor (List ℕ)) → KeptFile → Running → PhaseEnd → Running → Type 0
EndsTakingIn p f last next k old e new =
    (left : Left) (i : Inputs) → last_of_file left f ≡ seen_value last → input_at i f ≡ input_state_of k
    → DoesHolding (take_in p left f (next_text next)) (unselected i) old e new

-- the control fields of a type were compared with the last bytes of their levels, and are kept
abbrev pub ComparesLevels : Object → ℕ → List ℕ → List LastBytes → Running → List LastBytes → Running → Type 0
ComparesLevels p t text levels old levels' new =
    IsCompared (type_indicator (slice_get p.types t)) (control_fields p t) text (seen_levels levels) old new (seen_levels levels')

-- the record that waits in a file, if one does, is held as one of its type's file
abbrev pub HoldsWaiting : Object → KeptFile → Type 0
HoldsWaiting p k = ForSome k.waiting (λ t. HoldsRecord p (file_of (slice_get p.types t)) k t)

-- the record of that type that waits in a file, if one does, was selected
abbrev pub SelectsWaiting : Object → List LastBytes → LastValues → KeptFile → Running → Option ℕ → KeptFile → Running → Type 0
SelectsWaiting p levels values k old t k' new =
    (f : InputFile) (left : Left) (i : Inputs) → input_at i f ≡ input_state_of k
    → HasSelected p (with_seen levels values left) f i old t k'.record.items new (with_input f (input_state_of k') i)

-- levels and match values were replaced by those of a record of that type, if one was selected
abbrev pub RenewsSeen : Object → Option ℕ → List ℕ → List LastBytes → LastValues → List LastBytes → LastValues → Type 0
RenewsSeen p t text levels values levels' values' =
    (left : Left) → with_seen levels' values' left ≡ renewed_by p t text (with_seen levels values left)

-- what is kept of earlier records was replaced by the selected record's, if one was selected
abbrev pub RenewsLeft : Object → Option ℕ → Kept → Kept → Type 0
RenewsLeft p t k k' = left_of k' ≡ renewed_by p t (text_in p k' t) (left_of k)

-- of the records that wait the one of that type was selected, or none
abbrev pub SelectsOne : Object → Kept → Running → Option ℕ → Kept → Running → Type 0
SelectsOne p k old t k' new = Does (select_one p (left_of k)) old (unselected (inputs_of k)) Continues new (holding_kept p k' t)

-- Records were read, of the files' next ones, and the one of that type was selected, or none.
abbrev pub SelectsRecord : Object → Kept → (primary secondary : Option (Bor (List ℕ))) → Running → Option ℕ → Kept → Running → Type 0
SelectsRecord p k primary secondary old t k' new =
    Does (select_record p (left_of k) (next_text primary) (next_text secondary)) old (unselected (inputs_of k)) Continues new (holding_kept p k' t)

-- the job ended there, and none was selected, at this cost at most
pub record EndsSelecting (p : Object) (k : Kept) (primary secondary : Option (Bor (List ℕ))) (old : Running) (e : PhaseEnd) (new : Running) : Type 0 where
  pub inputs : Inputs
  pub does : Does (select_record p (left_of k) (next_text primary) (next_text secondary)) old (unselected (inputs_of k)) e new (unselected inputs)
  pub spends : Spends p (types_weight p.types) old new

-- ---- what later phases rely on

-- a record was read, if the file reads one: few steps were taken, and what is kept of the file fits the program
pub record IsTakenIn (p : Object) (f : InputFile) (old : Running) (k' : KeptFile) (new : Running) : Type 0 where
  pub program : new.program ≡ old.program
  pub ready : IsReady old → IsReady new
  pub few : new.config.steps ≤ old.config.steps + 20009
  pub kept : IsFileKept p f k'

-- how reading a record leaves a file, whatever the record: what was read, what that cost, and that nothing was output
pub record LeavesFile (p : Object) (f : InputFile) (old : Running) (r : Result (Unit {0}) PhaseStop) (k' : KeptFile) (new : Running) : Type 0 where
  pub taken : IfOk r (λ _. IsTakenIn p f old k' new)
  pub takes : UnlessNoMemory r (SpendsTakingIn p f old new)
  pub output : new.output ≡ old.output

-- the record that waits in a file, if any, no longer waits, and levels and match values were replaced by its own
pub record IsTakenUp (p : Object) (levels : List LastBytes) (values : LastValues) (k : KeptFile) (old : Running) (t : Option ℕ) (levels' : List LastBytes) (values' : LastValues) (k' : KeptFile) (new : Running) : Type 0 where
  pub goes : SelectsWaiting p levels values k old t k' new
  pub row : t ≡ k.waiting
  pub file : k' ≡ record k { waiting = None }
  pub program : new.program ≡ old.program
  pub ready : IsReady old → IsReady new
  pub left : RenewsSeen p t k'.record.items levels values levels' values'
  pub spends : Spends p (compared_weight p t) old new

-- one of the waiting records was selected, or none: its control fields were paid for, its file holds it, and what is kept was replaced by its own
pub record IsPicked (p : Object) (k : Kept) (old : Running) (t : Option ℕ) (k' : Kept) (new : Running) : Type 0 where
  pub goes : SelectsOne p k old t k' new
  pub ready : IsReady old → IsReady new
  pub spends : Spends p (compared_weight p t) old new
  pub held : HoldsSelected p k' t
  pub kept : AreFilesKept p k'
  pub left : RenewsLeft p t k k'

-- a record was selected, or none, and everything is as the phases that follow require
pub record IsChosen (p : Object) (k : Kept) (primary secondary : Option (Bor (List ℕ))) (old : Running) (t : Option ℕ) (k' : Kept) (new : Running) : Type 0 where
  pub goes : SelectsRecord p k primary secondary old t k' new
  pub ready : IsReady new
  pub spends : SpendsSelecting p t old new
  pub held : HoldsSelected p k' t
  pub kept : AreFilesKept p k'
  pub left : RenewsLeft p t k k'
