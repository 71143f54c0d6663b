-- What the program prints.
use Rattle.std.specs.Prelude.{◌≡◌, ◌==◌, ◌&&◌, ℕ, Bool, true, if◌then◌else◌, ◌≤◌, ◌⊎◌, List, Option}
use Rattle.std.specs.Io.KnownBytes.{Appends, Keeps}
use Rattle.rpg_text.specs.Lines.{with_line_feed}
use Rattle.rpg_cli_answers.specs.Answers.{exit_status, line_text}
use Rattle.rpg_cli_answers.specs.Json.{json_text}
use Rattle.rpg_files.specs.Sending.{AppendsPrefix}
use Rattle.rpg_cli_answers.specs.declared.answer.Answer.{Answer}
use Rattle.rpg_cli_words.specs.declared.options.Format.{Format}
use Rattle.rpg_cli_words.specs.declared.options.Format.TheVariants.{Text, Json}

-- what is printed for an answer, with this exit status
abbrev pub answer_text : Format → Answer → (status : ℕ) → List ℕ
answer_text Text answer status = line_text answer
answer_text Json answer status = json_text answer status

-- the exit status of an answer: 1 in place of 0 if a diagnostic was lost
abbrev pub status_with : Answer → Bool → ℕ
status_with answer has_lost = if exit_status answer == 0 && has_lost then 1 else exit_status answer

-- a line was written, with the status for that; or, if not all of it could be written, a first part of it, with status 1
abbrev pub WritesLine : Option (List ℕ) → Option (List ℕ) → List ℕ → ℕ → ℕ → Type 0
WritesLine old new text written status =
    (Appends old new (with_line_feed text) × (status ≡ written)) ⊎ (AppendsPrefix old new (with_line_feed text) × (status ≡ 1))

-- the answer's line, with the status that it is to have
abbrev pub SaysWith : Format → Option (List ℕ) → Option (List ℕ) → ℕ → ℕ → Answer → Type 0
SaysWith format old new wanted status answer = WritesLine old new (answer_text format answer wanted) wanted status

-- the answer's line and its status
abbrev pub Says : Format → Option (List ℕ) → Option (List ℕ) → ℕ → Answer → Type 0
Says format old new status answer = (has_lost : Bool) × SaysWith format old new (status_with answer has_lost) status answer

-- its line and its status; or, if the arguments are quiet, nothing of success
abbrev pub SaysOrIsQuiet : Bool → Format → Option (List ℕ) → Option (List ℕ) → ℕ → Answer → Type 0
SaysOrIsQuiet is_quiet format old new status answer = Says format old new status answer ⊎ ((is_quiet ≡ true) × Keeps old new × (status ≡ 0) × (exit_status answer ≡ 0))

-- an answer's line; or nothing, with a status of at most 2, if clap prints in its place, or if the line of success is left out
abbrev pub PrintsALine : Option (List ℕ) → Option (List ℕ) → ℕ → Type 0
PrintsALine old new status = (Keeps old new × (status ≤ 2)) ⊎ ((format : Format) × (answer : Answer) × Says format old new status answer)
