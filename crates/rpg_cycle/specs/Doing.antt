-- That a machine did a phase, in terms of its calls.
use Rattle.rpg_paper.specs.Form.{line_of}
use Rattle.std.specs.Prelude.{◌≡◌, ℕ, Bool, true, List, Option, None, IfSome}
use Rattle.std.specs.List.{list_all}
use Rattle.std.specs.Option.{option_map}
use denote.Bor.{Bor}
use Rattle.rpg_paper.specs.Paper.{Position, last_position_from}
use Rattle.rpg_program.specs.Put.{with_output}
use Rattle.rpg_cycle_records.specs.Earlier.{Selected}
use Rattle.rpg_cycle_records.specs.Holding.{inputs_of, text_in}
use Rattle.rpg_cycle_records.specs.Keeping.{left_of, selected_as}
use Rattle.rpg_cycle_records.specs.Waiting.{Inputs, finds_match}
use Rattle.rpg_cycle_records.specs.declared.kept.Kept.{Kept}
use Rattle.rpg_cycle.specs.Ends.{Continues, PhaseEnd}
use Rattle.rpg_cycle.specs.Phases.{CycleOn, Phase, UnderWay, if_selected}
use Rattle.rpg_machine.specs.Config.{Config, Output}
use Rattle.rpg_machine.specs.Running.{Running, config_on}
use Rattle.rpg_program.specs.Object.{Object}
use Rattle.rpg_text.specs.Texts.{is_character}

-- the text of a file's next record, if there is one
abbrev pub next_text : Option (Bor (List ℕ)) → Option (List ℕ)
next_text next = option_map (λ (text : Bor (List ℕ)). text.now) next

-- a file's next record, if there is one, has only characters if that was checked
abbrev pub IsSeen : Bool → Option (Bor (List ℕ)) → Type 0
IsSeen is_seen next = is_seen ≡ true → IfSome next (λ text. list_all is_character text.now ≡ true)

-- the parts of a cycle besides the machine: the files, and the record that was selected
pub record Beside : Type 0 where
  pub inputs : Inputs
  pub selected : Option Selected

-- the files, and a record of that type, if one was selected
abbrev pub holding : Inputs → Option ℕ → List ℕ → Beside
holding i t text = record { inputs = i; selected = selected_as t text }

-- the files, and nothing selected yet
abbrev pub unselected : Inputs → Beside
unselected i = record { inputs = i; selected = None }

-- the record of that type that its file holds, if one was selected
abbrev pub selected_in : Object → Kept → Option ℕ → Option Selected
selected_in p k t = selected_as t (text_in p k t)

-- the files that are kept, and that record
abbrev pub holding_kept : Object → Kept → Option ℕ → Beside
holding_kept p k t = holding (inputs_of k) t (text_in p k t)

-- whether a record has a match, by what is kept of earlier records
abbrev pub match_by : Object → Kept → Inputs → Selected → Bool
match_by p k = finds_match p (left_of k)

-- whether the selected record has one, if one was selected
abbrev pub selected_has_match : Object → Kept → Option ℕ → Bool
selected_has_match p k t = if_selected (match_by p k (inputs_of k)) (selected_in p k t)

-- a cycle by what is kept of earlier records
abbrev pub cycle_by : Object → Kept → Option (List ℕ) → Option (List ℕ) → Phase
cycle_by p k primary secondary = CycleOn p (left_of k) (match_by p k) primary secondary

-- a cycle in progress
abbrev pub under_way : Config → Beside → UnderWay
under_way c h = record { config = c; inputs = h.inputs; selected = h.selected }

-- after an earlier placed line, a machine did a phase, and its bytes were appended; `before` and `after` are the parts of the cycle besides
-- the machine
pub record DoesAfter (P : Phase) (previous : Option Position) (old : Running) (before : Beside) (e : PhaseEnd) (new : Running) (after : Beside) : Type 0 where
  pub out : Output
  pub phase : P (under_way (config_on previous old.config) before) e (under_way (config_on (last_position_from previous out.lines) new.config) after) out
  pub last : new.last ≡ line_of (last_position_from previous out.lines)
  pub bytes : new.output ≡ with_output previous out.lines out.records old.output

-- a machine did a phase, whatever was placed before
pub record Does (P : Phase) (old : Running) (before : Beside) (e : PhaseEnd) (new : Running) (after : Beside) : Type 0 where
  pub program : new.program ≡ old.program
  pub following : (previous : Option Position) → old.last ≡ line_of previous → DoesAfter P previous old before e new after

-- a machine did a phase that left the files and the selected record unchanged
abbrev pub DoesHolding : Phase → Beside → Running → PhaseEnd → Running → Type 0
DoesHolding P h old e new = Does P old h e new h

-- with this record selected, whatever the files
abbrev pub DoesWith : Phase → Option Selected → Running → PhaseEnd → Running → Type 0
DoesWith P s old e new = (i : Inputs) → DoesHolding P (record { inputs = i; selected = s }) old e new

-- a machine did a phase that neither reads nor selects, whatever the files and the selected record
pub record DoesAlone (P : Phase) (old : Running) (e : PhaseEnd) (new : Running) : Type 0 where
  pub each : (h : Beside) → DoesHolding P h old e new

-- With what is kept of earlier records and of its files, and with the next record of each, a machine with a full allowance did a cycle that
-- continues, and selected the record of that type, if one was selected.
abbrev pub CycleContinues : Object → Kept → (primary secondary : Option (Bor (List ℕ))) → Running → Option ℕ → Kept → Running → Type 0
CycleContinues p k primary secondary old t k' new =
    Does (cycle_by p k (next_text primary) (next_text secondary)) old (unselected (inputs_of k)) Continues new (holding_kept p k' t)

-- a cycle that ended the job
abbrev pub CycleEnds : Object → Kept → (primary secondary : Option (Bor (List ℕ))) → Running → PhaseEnd → Running → Type 0
CycleEnds p k primary secondary old e new =
    (h : Beside) × Does (cycle_by p k (next_text primary) (next_text secondary)) old (unselected (inputs_of k)) e new h
