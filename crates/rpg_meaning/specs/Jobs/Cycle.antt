-- The fixed program cycle by cards: its nine phases, one after another.
use Rattle.std.specs.Prelude.{ℕ, ◌+◌, ◌-◌, ◌==◌, Bool, true, false, not, ◌&&◌, ◌||◌, nat_le, List, [], ◌∷◌, ◌++◌, length, replicate, slice_get, take, Option, None, Some, is_none, if◌then◌else◌}
use Rattle.std.specs.List.{filter, filter_map, list_all, list_any}
use Rattle.std.specs.Option.{option_map_or, option_to_list}
use Rattle.rpg_cards.specs.Keys.{Key}
use Rattle.rpg_cycle.specs.Ends.{PhaseEnd, Continues, EndOfJob, Halt}
use Rattle.rpg_cycle.specs.Indicators.{first_page, halt_indicators, last_record, level_indicators, matching_record}
use Rattle.rpg_cycle.specs.Phases.{if_selected}
use Rattle.rpg_program.specs.Ended.{on_data}
use Rattle.rpg_program.specs.Input.{TypeRow, record_in}
use Rattle.rpg_program.specs.Lines.{detail_output, overflow_output, total_output}
use Rattle.rpg_program.specs.declared.input.ControlField.{ControlField}
use Rattle.rpg_program.specs.declared.input.InputField.{InputField}
use Rattle.rpg_program.specs.declared.input.InputFile.{InputFile}
use Rattle.rpg_program.specs.declared.input.InputFile.TheVariants.{Primary, Secondary}
use Rattle.rpg_text.specs.Texts.{is_character}
use Rattle.rpg_meaning.specs.Jobs.Job.{Job, JobState}
use Rattle.rpg_meaning.specs.Jobs.Phases.{MeantPhase, any_on_in, by_effect, calculated, is_on_in, meant_does, meant_either, meant_passes, meant_unless, with_turned, ◌andthen◌}
use Rattle.rpg_meaning.specs.Calculations.Parts.{InDetail, InTotal}
use Rattle.rpg_cycle_records.specs.Earlier.{Selected, is_any, or_before, with_record}
use Rattle.rpg_cycle_records.specs.Identifying.{code_holds, same_file}
use Rattle.rpg_cycle_records.specs.Levels.{differs, highest_broken, level_bytes}
use Rattle.rpg_cycle_records.specs.Matching.{agrees, exceeds, match_value_in}
use Rattle.rpg_cycle_records.specs.Waiting.{Inputs, first_of, input_at, is_after_end, other_file, with_file_over, waiting_in, with_waiting}

module _ (job : Job) where
  -- ---- record types

  -- the control fields of a record type
  abbrev pub levels_at : ℕ → List ControlField
  levels_at type = option_map_or (λ t. t.levels) (slice_get job.types type) []

  -- the input fields of a record type
  abbrev pub meant_inputs_at : ℕ → List (InputField Key)
  meant_inputs_at type = option_map_or (λ t. t.inputs) (slice_get job.types type) []

  -- the indicator of a record type
  abbrev pub indicator_at : ℕ → Option ℕ
  indicator_at type = option_map_or (λ t. t.indicator) (slice_get job.types type) None

  -- the bytes of a level in the last of these records whose type has it; the records are given last first
  abbrev pub meant_last_bytes : ℕ → List Selected → Option (List ℕ)
  meant_last_bytes level [] = None
  meant_last_bytes level (s ∷ ss) = or_before (meant_last_bytes level ss) (level_bytes (levels_at s.type) s.text level)

  -- the highest level that a record breaks, 0 if none
  abbrev pub meant_broken_level : List Selected → Selected → ℕ
  meant_broken_level earlier s = highest_broken (λ level. differs (meant_last_bytes level earlier) (level_bytes (levels_at s.type) s.text level)) 9

  -- the match fields of a record type
  abbrev pub matches_at : ℕ → List ControlField
  matches_at type = option_map_or (λ t. t.matches) (slice_get job.types type) []

  -- the file of a record type
  abbrev pub meant_file_at : ℕ → InputFile
  meant_file_at type = option_map_or (λ t. t.file) (slice_get job.types type) Primary

  -- the bytes of a record's match fields, from M9 down to M1, if its type has any
  abbrev pub meant_match_value : Selected → Option (List ℕ)
  meant_match_value r = match_value_in (matches_at r.type) r.text

  -- a record of this file has its match value
  abbrev pub meant_value_from : InputFile → Selected → Option (List ℕ)
  meant_value_from f r = if same_file (meant_file_at r.type) f then meant_match_value r else None

  -- the match value of the last of these records that is of this file and has one
  abbrev pub meant_last_value : InputFile → List Selected → Option (List ℕ)
  meant_last_value f [] = None
  meant_last_value f (r ∷ rs) = or_before (meant_last_value f rs) (meant_value_from f r)

  -- one of these records is of this file and has that match value
  abbrev pub meant_any_agrees : InputFile → Option (List ℕ) → List Selected → Bool
  meant_any_agrees f v [] = false
  meant_any_agrees f v (r ∷ rs) = agrees v (meant_value_from f r) || meant_any_agrees f v rs

  -- one of these records had control fields
  abbrev pub meant_any_control : List Selected → Bool
  meant_any_control [] = false
  meant_any_control (s ∷ ss) = meant_any_control ss || is_any (levels_at s.type)

  -- ---- 1 heading and detail lines of the previous cycle, and at first those of the first page

  -- heading and detail lines
  abbrev pub meant_detail_lines : MeantPhase
  meant_detail_lines = by_effect (detail_output job.source.forms job.source.words job.source.overflow job.source.lines)

  -- ---- 2 halt 6 where a halt indicator is on

  -- halt 6 if a halt indicator is on
  abbrev pub meant_halt_if_indicated : MeantPhase
  meant_halt_if_indicated = meant_does (λ s. (if any_on_in halt_indicators s then Halt 6 else Continues, s))

  -- ---- 3 the indicators of record types but LR, L1 to L9 and 1P turn off

  -- the indicators of record types, except LR
  abbrev pub type_indicators : List (TypeRow Key) → List ℕ
  type_indicators types = filter (λ n. not (n == last_record)) (filter_map (λ t. t.indicator) types)

  -- indicators of record types and control levels turn off, and 1P with them
  abbrev pub meant_set_off : MeantPhase
  meant_set_off = meant_does (λ s. (Continues, with_turned (type_indicators job.types ++ (level_indicators ++ first_page ∷ [])) false s))

  -- ---- 4 records are read, and one is selected

  -- the length of a file's records, 0 if there is no such file
  abbrev pub record_length_in : InputFile → ℕ
  record_length_in Primary = job.record_length
  record_length_in Secondary = job.secondary_length

  -- characters, no more than the length of the file's records
  abbrev pub is_valid_text : InputFile → List ℕ → Bool
  is_valid_text f text = nat_le (length text) (record_length_in f) && list_all is_character text

  -- a record's text, padded with blanks to the length of its file
  abbrev pub meant_padded : InputFile → List ℕ → List ℕ
  meant_padded f text = text ++ replicate (record_length_in f - length text) 32

  -- the first type of that file all of whose codes hold; rows are numbered from here on
  abbrev pub type_of_text : InputFile → List ℕ → ℕ → List (TypeRow Key) → Option ℕ
  type_of_text f text n [] = None
  type_of_text f text n (t ∷ ts) = if same_file t.file f && list_all (code_holds text) t.codes then Some n else type_of_text f text (n + 1) ts

  -- a record waits, unless its match value is lower than its file's last one, which is halt 8
  abbrev pub meant_match_up : List Selected → InputFile → Selected → JobState → PhaseEnd × JobState
  meant_match_up earlier f r s =
      if exceeds (meant_last_value f earlier) (meant_match_value r) then (Halt 8, s)
      else (Continues, record s { inputs = with_waiting f (Some r) s.inputs })

  -- a record of no type is halt 3
  abbrev pub type_taken : List Selected → InputFile → List ℕ → Option ℕ → JobState → PhaseEnd × JobState
  type_taken earlier f text None s = (Halt 3, s)
  type_taken earlier f text (Some type) s = meant_match_up earlier f (record { type = type; text = text }) s

  -- a bad record is halt 7; if there is none the file is at its end
  abbrev pub read : List Selected → InputFile → Option (List ℕ) → JobState → PhaseEnd × JobState
  read earlier f None s = (Continues, record s { inputs = with_file_over f s.inputs })
  read earlier f (Some text) s =
      if is_valid_text f text then type_taken earlier f (meant_padded f text) (type_of_text f (meant_padded f text) 0 job.types) s else (Halt 7, s)

  -- a file that exists, isn't at its end and has no waiting record reads one
  abbrev pub meant_takes_in : Inputs → InputFile → Bool
  meant_takes_in i f = not (record_length_in f == 0) && (not (input_at i f).is_over && is_none (waiting_in i f))

  -- the next record of a file, if one is to be read
  abbrev pub meant_take_in : List Selected → InputFile → Option (List ℕ) → MeantPhase
  meant_take_in earlier f next = meant_does (λ s. if meant_takes_in s.inputs f then read earlier f next s else (Continues, s))

  -- its indicator turns on, and so do L1 to the highest level that it breaks
  abbrev pub with_selected : List Selected → Selected → JobState → JobState
  with_selected earlier r s = record (with_turned (option_to_list (indicator_at r.type) ++ take (meant_broken_level earlier r) level_indicators) true s) { selected = Some r }

  -- the record that waits in a file is selected, and no longer waits
  abbrev pub meant_select_waiting : List Selected → InputFile → Option Selected → JobState → JobState
  meant_select_waiting earlier f None s = s
  meant_select_waiting earlier f (Some r) s = with_selected earlier r (record s { inputs = with_waiting f None s.inputs })

  -- the file whose record is selected, if one waits and doesn't come after the end
  abbrev pub meant_chosen : List Selected → Option Selected → Option Selected → Option InputFile
  meant_chosen earlier None None = None
  meant_chosen earlier (Some q) None = if is_after_end job.ends Secondary (meant_last_value Secondary earlier) (meant_match_value q) then None else Some Primary
  meant_chosen earlier None (Some r) = if is_after_end job.ends Primary (meant_last_value Primary earlier) (meant_match_value r) then None else Some Secondary
  meant_chosen earlier (Some q) (Some r) = Some (first_of (meant_match_value q) (meant_match_value r))

  -- if none is selected, LR and L1 to L9 turn on
  abbrev pub meant_select_from : List Selected → Option InputFile → JobState → JobState
  meant_select_from earlier None s = with_turned (last_record ∷ level_indicators) true s
  meant_select_from earlier (Some f) s = meant_select_waiting earlier f (waiting_in s.inputs f) s

  -- the record that the cycle is for
  abbrev pub meant_select_one : List Selected → MeantPhase
  meant_select_one earlier = meant_does (λ s. (Continues, meant_select_from earlier (meant_chosen earlier (waiting_in s.inputs Primary) (waiting_in s.inputs Secondary)) s))

  -- if LR is on no record is read, and L1 to L9 turn on
  abbrev pub meant_select_record : List Selected → Option (List ℕ) → Option (List ℕ) → MeantPhase
  meant_select_record earlier primary secondary s =
      meant_either (is_on_in last_record s) (meant_does (λ s. (Continues, with_turned level_indicators true s)))
      (meant_take_in earlier Primary primary andthen meant_take_in earlier Secondary secondary andthen meant_select_one earlier) s

  -- ---- 5 total calculations and total lines, but not in the first cycle, nor, if types have control fields, before a record had some

  -- no total time: before the first record, or before the first one with control fields
  abbrev pub meant_is_bypassed : List Selected → JobState → Bool
  meant_is_bypassed earlier s = not (is_on_in last_record s) && (not (is_any earlier) || (list_any (λ t. is_any t.levels) job.types && not (meant_any_control earlier)))

  -- total calculations and total lines
  abbrev pub meant_total_time : List Selected → MeantPhase
  meant_total_time earlier =
      meant_unless (meant_is_bypassed earlier)
      (calculated job.source InTotal andthen by_effect (total_output job.source.forms job.source.words job.source.overflow job.source.lines))

  -- ---- 6 the job ends where LR is on, or where no record was selected

  -- the job ends if LR is on, or no record is left
  abbrev pub meant_end_where_last : MeantPhase
  meant_end_where_last = meant_does (λ s. (if is_on_in last_record s || is_none s.selected then EndOfJob else Continues, s))

  -- ---- 7 all lines of a new page, if the overflow indicator is on

  -- the lines for overflow, if its indicator is on
  abbrev pub meant_overflow_lines : MeantPhase
  meant_overflow_lines =
      meant_unless (λ s. not (option_map_or (λ n. is_on_in n s) job.source.overflow.indicator false))
      (by_effect (overflow_output job.source.forms job.source.words job.source.overflow job.source.lines))

  -- ---- 8 MR shows whether the record has a match, and its columns are moved to fields

  -- a record of the other file that was read, selected earlier or waiting, has its match value
  abbrev pub meant_has_match : List Selected → Inputs → Selected → Bool
  meant_has_match earlier i r =
      meant_any_agrees (other_file (meant_file_at r.type)) (meant_match_value r) (with_record (waiting_in i (other_file (meant_file_at r.type))) earlier)

  -- MR is on if the record has a match, otherwise off
  abbrev pub meant_show_match : List Selected → MeantPhase
  meant_show_match earlier = meant_does (λ s. (Continues, with_turned (matching_record ∷ []) (if_selected (meant_has_match earlier s.inputs) s.selected) s))

  -- the fields of the selected record
  abbrev pub meant_fill_from : Option Selected → MeantPhase
  meant_fill_from None = meant_passes
  meant_fill_from (Some r) = by_effect (on_data (record_in job.source.forms r.text (meant_inputs_at r.type)))

  -- the fields get their values from the record
  abbrev pub meant_fill_fields : MeantPhase
  meant_fill_fields s = meant_fill_from s.selected s

  -- ---- 9 detail calculations

  -- the whole cycle, after those that selected the earlier records, the last of these first, with the next record of each file, if there is
  -- one
  abbrev pub MeantCycle : List Selected → Option (List ℕ) → Option (List ℕ) → MeantPhase
  MeantCycle earlier primary secondary =
      meant_detail_lines
      andthen meant_halt_if_indicated
      andthen meant_set_off
      andthen meant_select_record earlier primary secondary
      andthen meant_total_time earlier
      andthen meant_end_where_last
      andthen meant_overflow_lines
      andthen meant_show_match earlier
      andthen meant_fill_fields
      andthen calculated job.source InDetail
