-- One cycle of a job: its nine phases, one after another.
use Rattle.std.specs.Prelude.{◌≡◌, ℕ, Bool, true, false, not, ◌&&◌, ◌||◌, List, [], ◌∷◌, length, slice_get, Option, None, Some, is_none, if◌then◌else◌}
use Rattle.std.specs.List.{list_all}
use Rattle.rpg_cycle_records.specs.Earlier.{Left, Selected, control_fields, is_any, last_of_file, last_of_level, left_by, match_fields, match_value}
use Rattle.rpg_cycle.specs.Ends.{PhaseEnd, Continues, EndOfJob, Halt, Wrong, phase_end}
use Rattle.rpg_cycle_records.specs.Identifying.{Trial, IsOf, IsOfNone, Misplaced, padded, identified, is_valid_record, trial_weight}
use Rattle.rpg_cycle.specs.Indicators.{any_on, first_page, halt_indicators, is_on, last_record, level_indicators, matching_record, with_all, with_levels, with_one, with_type, without_types}
use Rattle.rpg_cycle_records.specs.Levels.{differs, highest_broken, is_in_record, level_bytes}
use Rattle.rpg_cycle_records.specs.Matching.{exceeds}
use Rattle.rpg_cycle_records.specs.Waiting.{Inputs, chosen, has_match, with_file_over, takes_in, waiting_in, with_waiting}
use Rattle.rpg_program.specs.Ends as effects
use Rattle.rpg_program.specs.Input.{TypeRow}
use Rattle.rpg_program.specs.declared.input.InputFile.{InputFile}
use Rattle.rpg_program.specs.declared.input.InputFile.TheVariants.{Primary, Secondary}
use Rattle.rpg_machine.specs.Config.{Config, Output, charged, no_output, with_more}
use Rattle.rpg_machine.specs.Outputs.{FillsFields, Outputs}
use Rattle.rpg_machine.specs.Run.{RunsTo}
use Rattle.rpg_machine.specs.Running.{Behaviour}
use Rattle.rpg_machine.specs.declared.time.OutputTime.{OutputTime}
use Rattle.rpg_machine.specs.declared.time.OutputTime.TheVariants as times
use Rattle.rpg_program.specs.Object.{Object}
use Rattle.rpg_program.specs.declared.section.Section.{Section}
use Rattle.rpg_program.specs.declared.section.Section.TheVariants as sections

-- A cycle in progress: the configuration, the files, and the record that phase 4 selected, if it has selected one.
pub record UnderWay : Type 0 where
  pub config : Config
  pub inputs : Inputs
  pub selected : Option Selected

-- A phase leads from one to another; it continues or ends the job, and it outputs something.
abbrev pub Phase : Type 1
Phase = UnderWay → PhaseEnd → UnderWay → Output → Type 0

-- a phase from where the previous one led, unless that ended the job
abbrev pub from_there : Phase → PhaseEnd → UnderWay → Output → PhaseEnd → UnderWay → Output → Type 0
from_there Q Continues m put e d out = (more : Output) × Q m e d more × (out ≡ with_more put more)
from_there Q EndOfJob m put e d out = (e ≡ EndOfJob) × (d ≡ m) × (out ≡ put)
from_there Q (Halt k) m put e d out = (e ≡ Halt k) × (d ≡ m) × (out ≡ put)
from_there Q (Wrong f) m put e d out = (e ≡ Wrong f) × (d ≡ m) × (out ≡ put)

-- one phase, then the other
infixr 5 ◌before◌
-- one phase after the other; the second is skipped if the first ends the cycle
abbrev pub ◌before◌ : Phase → Phase → Phase
(P before Q) c e d out = (f : PhaseEnd) × (m : UnderWay) × (put : Output) × P c f m put × from_there Q f m put e d out

-- ---- kinds of phases

-- with the configuration changed
abbrev pub with_config : (Config → Config) → UnderWay → UnderWay
with_config f c = record c { config = f c.config }

-- with the files changed
abbrev pub with_inputs : (Inputs → Inputs) → UnderWay → UnderWay
with_inputs f c = record c { inputs = f c.inputs }

-- what the machine does, without reading or selecting a record
abbrev pub by_machine : Behaviour → Phase
by_machine P c e d out = (last : effects.End) × P c.config last d.config out × (e ≡ phase_end last) × (d.inputs ≡ c.inputs) × (d.selected ≡ c.selected)

-- the lines of a time
abbrev pub output : Object → OutputTime → Phase
output p time = by_machine (Outputs p time)

-- a section of calculations, in as many steps as it takes
abbrev pub section : Object → Section → Phase
section p s = by_machine (RunsTo p s)

-- how a phase without output ends, and where it leads
pub record Done : Type 0 where
  pub end : PhaseEnd
  pub leads : UnderWay

-- how a phase ends, and what it leads to
abbrev pub done : PhaseEnd → UnderWay → Done
done e c = record { end = e; leads = c }

-- a phase without output
abbrev pub without_output : (UnderWay → Done) → Phase
without_output f c e d out = (e ≡ (f c).end) × (d ≡ (f c).leads) × (out ≡ no_output)

-- nothing is done
abbrev pub nothing_done : Phase
nothing_done = without_output (done Continues)

-- one of two phases, by a test
abbrev pub either : Bool → Phase → Phase → Phase
either true P Q = P
either false P Q = Q

-- a phase, unless the test holds
abbrev pub unless : (Config → Bool) → Phase → Phase
unless test P c = either (test c.config) nothing_done P c

-- ---- 1 heading and detail lines of the previous cycle, and at first those of the first page

-- heading and detail lines
abbrev pub detail_lines : Object → Phase
detail_lines p = output p times.Detail

-- ---- 2 halt 6 where a halt indicator is on

-- halt 6 if a halt indicator is on
abbrev pub halt_if_indicated : Phase
halt_if_indicated = without_output (λ c. done (if any_on c.config halt_indicators then Halt 6 else Continues) c)

-- ---- 3 1P, L1 to L9 and the indicators of record types but LR turn off

-- indicators of record types, control levels and 1P turned off
abbrev pub all_off : Object → Config → Config
all_off p c = with_one first_page false (with_all level_indicators false (without_types p.types c))

-- the phase that turns them off
abbrev pub set_off : Object → Phase
set_off p = without_output (λ c. done Continues (with_config (all_off p) c))

-- ---- 4 records are read, and one is selected

-- a record waits, unless its match value is lower than its file's last one, which is halt 8
abbrev pub match_up : Object → Left → InputFile → Selected → UnderWay → Done
match_up p left f s c =
    if not (list_all (is_in_record (length s.text)) (match_fields p s.type)) then done (Wrong effects.Storage) c
    else (if exceeds (last_of_file left f) (match_value p s) then done (Halt 8) c
    else done Continues (with_inputs (with_waiting f (Some s)) c))

-- the match fields of an identified record weigh 1 each; a record of no type is halt 3
abbrev pub take_type : Object → Left → InputFile → List ℕ → Trial → UnderWay → Done
take_type p left f text (IsOf t) c = match_up p left f (record { type = t; text = text }) (with_config (charged (length (match_fields p t))) c)
take_type p left f text IsOfNone c = done (Halt 3) c
take_type p left f text Misplaced c = done (Wrong effects.Storage) c

-- the types of the file are tried, which weighs the codes of all that were tried
abbrev pub identify : Object → Left → InputFile → List ℕ → UnderWay → Done
identify p left f text c = take_type p left f text (identified f 0 p.types text) (with_config (charged (trial_weight f p.types text)) c)

-- a valid record is identified, a bad one is halt 7; if there is none the file is at its end
abbrev pub read_record : Object → Left → InputFile → Option (List ℕ) → UnderWay → Done
read_record p left f None c = done Continues (with_inputs (with_file_over f) c)
read_record p left f (Some text) c = if is_valid_record p f text then identify p left f (padded p f text) c else done (Halt 7) c

-- a file that exists, isn't at its end and has no waiting record reads one
abbrev pub take_in : Object → Left → InputFile → Option (List ℕ) → Phase
take_in p left f next = without_output (λ c. if takes_in p c.inputs f then read_record p left f next c else done Continues c)

-- the highest level that this record breaks, 0 if none
abbrev pub broken_level : Object → Left → Selected → ℕ
broken_level p left s = highest_broken (λ level. differs (last_of_level left level) (level_bytes (control_fields p s.type) s.text level)) 9

-- the control fields are compared; the highest broken level turns on, with all below it
abbrev pub compare_levels : Object → Left → Selected → UnderWay → Done
compare_levels p left s c =
    if list_all (is_in_record (length s.text)) (control_fields p s.type)
    then done Continues (with_config (λ x. with_levels (broken_level p left s) (charged (length (control_fields p s.type)) x)) (record c { selected = Some s }))
    else done (Wrong effects.Storage) (with_config (charged (length (control_fields p s.type))) c)

-- the indicator of a type
abbrev pub type_indicator : Option (TypeRow ℕ) → Option ℕ
type_indicator None = None
type_indicator (Some t) = t.indicator

-- the record that waits in a file is selected: it no longer waits, and its type's indicator turns on
abbrev pub select_waiting : Object → Left → InputFile → Option Selected → UnderWay → Done
select_waiting p left f None c = done Continues c
select_waiting p left f (Some s) c =
    compare_levels p left s (with_config (with_type (type_indicator (slice_get p.types s.type))) (with_inputs (with_waiting f None) c))

-- if none is selected, LR and all levels turn on
abbrev pub select_from : Object → Left → Option InputFile → UnderWay → Done
select_from p left None c = done Continues (with_config (λ x. with_all level_indicators true (with_one last_record true x)) c)
select_from p left (Some f) c = select_waiting p left f (waiting_in c.inputs f) c

-- the record that the cycle is for
abbrev pub select_one : Object → Left → Phase
select_one p left = without_output (λ c. select_from p left (chosen p left (waiting_in c.inputs Primary) (waiting_in c.inputs Secondary)) c)

-- if LR is on no record is read, and L1 to L9 turn on
abbrev pub select_record : Object → Left → Option (List ℕ) → Option (List ℕ) → Phase
select_record p left primary secondary c =
    either (is_on c.config last_record) (without_output (λ c. done Continues (with_config (with_all level_indicators true) c)))
    (take_in p left Primary primary before take_in p left Secondary secondary before select_one p left) c

-- ---- 5 total calculations and total output, unless they are bypassed

-- some type has control fields
abbrev pub has_control_fields : List (TypeRow ℕ) → Bool
has_control_fields [] = false
has_control_fields (t ∷ ts) = is_any t.levels || has_control_fields ts

-- in the first cycle, and until a record with control fields was selected, if types have them; never if LR is on
abbrev pub is_bypassed : Object → Bool → Bool → Config → Bool
is_bypassed p any control c = not (is_on c last_record) && (not any || (has_control_fields p.types && not control))

-- total calculations and total lines
abbrev pub totals : Object → Phase
totals p = section p sections.Total before output p times.Total

-- by whether there were earlier records, and one with control fields
abbrev pub total_time_by : Object → Bool → Bool → Phase
total_time_by p any control = unless (is_bypassed p any control) (totals p)

-- total time, unless it is bypassed
abbrev pub total_time : Object → Left → Phase
total_time p left = total_time_by p left.any left.control

-- ---- 6 the job ends where LR is on, or where no record was selected

-- the job ends if LR is on, or no record is left
abbrev pub end_where_last : Phase
end_where_last = without_output (λ c. done (if is_on c.config last_record || is_none c.selected then EndOfJob else Continues) c)

-- ---- 7 all lines of a new page, if the overflow indicator is on

-- the program has no overflow indicator, or it is off
abbrev pub has_no_overflow : Option ℕ → Config → Bool
has_no_overflow None c = true
has_no_overflow (Some n) c = not (is_on c n)

-- the lines for overflow, if its indicator is on
abbrev pub overflow_lines : Object → Phase
overflow_lines p = unless (has_no_overflow p.overflow.indicator) (output p times.Overflow)

-- ---- 8 MR shows whether the selected record has a match, and its columns become values of fields

-- of the selected record
abbrev pub if_selected : (Selected → Bool) → Option Selected → Bool
if_selected test None = false
if_selected test (Some s) = test s

-- MR is on if the record has a match, otherwise off
abbrev pub show_match : (Inputs → Selected → Bool) → Phase
show_match matches = without_output (λ c. done Continues (with_config (with_one matching_record (if_selected (matches c.inputs) c.selected)) c))

-- those of the selected record's type
abbrev pub fill_from : Object → Option Selected → Phase
fill_from p None = nothing_done
fill_from p (Some s) = by_machine (FillsFields p s.type s.text)

-- the fields get their values from the record
abbrev pub fill_fields : Object → Phase
fill_fields p c = fill_from p c.selected c

-- ---- 9 detail calculations

-- the calculations at detail time
abbrev pub detail_calculations : Object → Phase
detail_calculations p = section p sections.Detail

-- ---- the cycle

-- with what earlier records leave, a test for matching records, and the next record of each file, or none at its end
abbrev pub CycleOn : Object → Left → (Inputs → Selected → Bool) → Option (List ℕ) → Option (List ℕ) → Phase
CycleOn p left matches primary secondary =
    detail_lines p
    before halt_if_indicated
    before set_off p
    before select_record p left primary secondary
    before total_time p left
    before end_where_last
    before overflow_lines p
    before show_match matches
    before fill_fields p
    before detail_calculations p

-- a cycle after those that selected the earlier records, the last of these first, with the next record of each file, or none at its end
abbrev pub Cycle : Object → List Selected → Option (List ℕ) → Option (List ℕ) → Phase
Cycle p earlier primary secondary = CycleOn p (left_by p earlier) (has_match p earlier) primary secondary

-- a full allowance, no steps, and nothing selected
abbrev pub begun : Object → Config → Inputs → UnderWay
begun p c i = record { config = record c { allowance = p.allowance; steps = 0 }; inputs = i; selected = None }

-- a cycle reads records, unless LR or one of H1 to H9 is on
abbrev pub takes_records : Config → Bool
takes_records c = not (is_on c last_record || any_on c halt_indicators)

-- for a job that continues: whether a file reads a record in its next cycle
abbrev pub needs_record : Object → Config → Inputs → InputFile → Bool
needs_record p c i f = takes_records c && takes_in p i f
