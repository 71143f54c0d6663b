-- What a job keeps of earlier records.
use Rattle.std.specs.Prelude.{ℕ, zero, suc, ◌+◌, true, false, ◌||◌, List, [], ◌∷◌, map, slice_index_or, slice_set, Option, None, Some, if◌then◌else◌}
use Rattle.rpg_cycle_records.specs.Earlier.{Left, Selected, control_fields, is_any, or_before, value_from}
use Rattle.rpg_cycle_records.specs.Levels.{level_bytes}
use Rattle.rpg_cycle_records.specs.declared.kept.Kept.{Kept}
use Rattle.rpg_cycle_records.specs.declared.levels.LastBytes.{LastBytes}
use Rattle.rpg_cycle_records.specs.declared.matching.MatchValue.{MatchValue}
use Rattle.rpg_program.specs.declared.input.ControlField.{ControlField}
use Rattle.rpg_program.specs.declared.input.InputFile.{InputFile}
use Rattle.rpg_program.specs.declared.input.InputFile.TheVariants.{Primary, Secondary}
use Rattle.rpg_program.specs.Object.{Object}

-- the control fields of the last record that had them
abbrev pub seen_bytes : LastBytes → Option (List ℕ)
seen_bytes l = if l.is_known then Some l.bytes.items else None

-- likewise for each level
abbrev pub seen_levels : List LastBytes → List (Option (List ℕ))
seen_levels ls = map seen_bytes ls

-- a match value, if there is one
abbrev pub seen_value : MatchValue → Option (List ℕ)
seen_value v = if v.is_there then Some v.bytes.items else None

-- what a job keeps of earlier records
abbrev pub left_of : Kept → Left
left_of k = record {
  any = k.has_any;
  control = k.has_control;
  bytes = seen_levels k.levels.items;
  primary = seen_value k.values.primary;
  secondary = seen_value k.values.secondary;
}

-- of the first n levels the bytes of this record, if its type has the level, otherwise the previous ones
abbrev pub renewed : List ControlField → List ℕ → ℕ → List (Option (List ℕ)) → List (Option (List ℕ))
renewed fs text zero bytes = bytes
renewed fs text (suc n) bytes = slice_set (renewed fs text n bytes) n (or_before (slice_index_or bytes n None) (level_bytes fs text (n + 1)))

-- the record that is kept, as one of that type
abbrev pub selected_as : Option ℕ → List ℕ → Option Selected
selected_as None text = None
selected_as (Some t) text = Some (record { type = t; text = text })

-- the last match value of a file, replaced by that of a record if its type is of that file and has match fields
abbrev pub value_following : Object → InputFile → ℕ → List ℕ → Option (List ℕ) → Option (List ℕ)
value_following p f t text before = or_before before (value_from p f (record { type = t; text = text }))

-- the match value of its file replaced by that of a record that has one
abbrev pub with_match_value : Object → Selected → Left → Left
with_match_value p s l = record l { primary = or_before l.primary (value_from p Primary s); secondary = or_before l.secondary (value_from p Secondary s) }

-- the levels and the match value of its file replaced by those of the selected record, if one was selected
abbrev pub renewed_by : Object → Option ℕ → List ℕ → Left → Left
renewed_by p None text l = l
renewed_by p (Some t) text l = with_match_value p (record { type = t; text = text }) (record l { bytes = renewed (control_fields p t) text 9 l.bytes })

-- it is noted that a record was selected, and whether its type has control fields
abbrev pub noted : Object → Option ℕ → Left → Left
noted p None l = l
noted p (Some t) l = record l { any = true; control = l.control || is_any (control_fields p t) }

-- the state of a job before its first record
abbrev pub nothing_left : Left
nothing_left = record {
  any = false;
  control = false;
  bytes = None ∷ None ∷ None ∷ None ∷ None ∷ None ∷ None ∷ None ∷ None ∷ [];
  primary = None;
  secondary = None;
}
