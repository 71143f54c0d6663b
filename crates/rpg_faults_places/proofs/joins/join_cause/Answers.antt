use Rattle.std.proofs.Common.{◌≡◌, ◌∙◌, false, Option, None, Some, ap, refl, subst, sym}
use Rattle.std.specs.Option.{is_some}
use Rattle.rpg_faults_places.proofs.JoinRule.{join_rule}
use Rattle.rpg_faults_places.specs.Joins.{join_cause}
use Rattle.rpg_faults_places.specs.State.{IsPlaces}
use Rattle.rpg_faults_places.proofs.joins.join_cause.Goals as goal

none_of : {X : Type 0} (o : Option X) → is_some o ≡ false → None ≡ o
none_of None e = refl
none_of (Some x) e = absurd cc

pub returns-then-not-join_badly-clause-cause : goal.returns-then-not-join_badly-clause-cause
returns-then-not-join_badly-clause-cause c =
    let before = c.args.before.now in
    let card = c.args.card.now in
    let after = c.args.after.now in
    let kept = subst (λ cards. IsPlaces cards before c.args.places.now) c.requires.split c.requires.places in
    none_of (join_cause before card after) (join_rule before card after ∙ sym (c.join_badly.ensures before kept) ∙ c.if-not-join_badly.true)

pub returns-clause-rule : goal.returns-clause-rule
returns-clause-rule c = ap is_some c.on_card.ensures ∙ join_rule c.args.before.now c.args.card.now c.args.after.now
