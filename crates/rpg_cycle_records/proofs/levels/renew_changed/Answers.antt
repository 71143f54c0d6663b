use Rattle.std.proofs.Common.{◌≡◌, ℕ, List, Option, subst}
use Rattle.std.specs.Prelude.{IfOk, OnOk}
use Rattle.rpg_cycle_records.specs.Keeping.{seen_levels}
use Rattle.rpg_cycle_records.proofs.Lasting.{alone_broken, alone_renewed}
use Rattle.rpg_cycle_records.proofs.levels.renew_changed.Goals as goal

pub returns-then-is_plain-clause-broken : goal.returns-then-is_plain-clause-broken
returns-then-is_plain-clause-broken c =
    let one = c.in-len1 in
    let plain = c.is_plain.ensures in
    let is = c.if-is_plain.true in
    subst (λ (k : ℕ). IfOk c.renew_plain.result (λ n. n ≡ k))
    (alone_broken c.args.fields.now _ c.args.text.now (seen_levels c.args.levels.now) one.len_at_least one.len_below (plain.low is) (plain.high is) c.requires.changed)
    c.renew_plain.ensures.level

pub returns-then-is_plain-clause-kept : goal.returns-then-is_plain-clause-kept
returns-then-is_plain-clause-kept c =
    let one = c.in-len1 in
    let plain = c.is_plain.ensures in
    let is = c.if-is_plain.true in
    subst (λ (xs : List (Option (List ℕ))). OnOk c.renew_plain.result (seen_levels c.renew_plain.new.levels ≡ xs))
    (alone_renewed c.args.fields.now _ c.args.text.now (seen_levels c.args.levels.now) one.len_at_least one.len_below (plain.low is) (plain.high is))
    c.renew_plain.ensures.kept
