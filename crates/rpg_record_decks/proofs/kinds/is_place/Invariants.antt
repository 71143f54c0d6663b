use Rattle.std.proofs.Common.{◌≡◌, ◌==◌, drop}
use Rattle.std.specs.List.{list_any}
use Rattle.rpg_records.specs.declared.layout.Code.{Code}
use Rattle.rpg_record_decks.proofs.kinds.is_place.Given as goal

abbrev pub invariant-loop-code : goal.invariant-loop-code
invariant-loop-code l = list_any (λ (c : Code). c.place == l.place) (drop l.code-index l.codes) ≡ list_any (λ (c : Code). c.place == l.place) l.codes
