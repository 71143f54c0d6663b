use Rattle.std.proofs.Common.{◌≡◌, ◌≤◌, ◌-◌, ◌++◌, replicate, vec_len, ◌⊎◌}
use Rattle.rpg_record_decks.proofs.edits.pad.Given as goal

abbrev pub invariant-loop-text : goal.invariant-loop-text
invariant-loop-text l = record {
  longer : vec_len l.initial.text ≤ vec_len l.text;
  items : l.text.items ≡ l.initial.text.items ++ replicate (vec_len l.text - vec_len l.initial.text) 32;
  upto : vec_len l.text ≡ vec_len l.initial.text ⊎ vec_len l.text ≤ l.columns;
}

abbrev pub decreases-loop-text : goal.decreases-loop-text
decreases-loop-text l = l.columns - vec_len l.text
