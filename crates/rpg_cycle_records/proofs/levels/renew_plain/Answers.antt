use Rattle.std.proofs.Common.{◌-◌, ◌∙◌, ℕ, List, Some, ap, true}
use Rattle.std.proofs.Math.ListN.{set}
use Rattle.std.proofs.lemmas.List.{map-set}
use Rattle.rpg_cycle_records.specs.Keeping.{seen_bytes, seen_levels}
use Rattle.rpg_cycle_records.specs.Levels.{compared}
use Rattle.rpg_cycle_records.proofs.levels.renew_plain.Goals as goal

pub returns-clause-kept : goal.returns-clause-kept
returns-clause-kept c =
    let levels = c.args.levels.now in
    let bytes = compared c.args.text.now c.args.field in
    map-set seen_bytes levels (c.from-level.result - 1) (record { is_known = true; bytes = c.replace.new.bytes })
    ∙ ap (λ (bs : List ℕ). set (seen_levels levels) (c.from-level.result - 1) (Some bs)) c.in_ok-replace.ensures
    ∙ ap (λ (n : ℕ). set (seen_levels levels) (n - 1) (Some bytes)) c.from-level.ensures
