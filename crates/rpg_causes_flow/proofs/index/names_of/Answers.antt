use Rattle.std.proofs.Common.{◌≡◌, ◌++◌, ◌∷◌, [], ◌∙◌, ap, append_assoc, List, refl, subst, sym}
use Rattle.std.specs.Cmp.Lexicographic.{pointwise}
use Rattle.std.specs.Map.{lookup}
use Rattle.std.specs.Option.{option_map}
use Rattle.std.specs.Prelude.{nat_eq}
use Rattle.rpg_causes_flow.proofs.Listing.{front_more, index_next}
use Rattle.rpg_causes_flow.specs.Flow.{IsFlow}
use Rattle.rpg_causes_flow.specs.Index.{IsIndexOf, entry_giver, entry_target}
use Rattle.rpg_cards.specs.Keys.{Name}
use Rattle.rpg_causes_flow.specs.declared.index.FirstLabel.{FirstLabel}
use Rattle.rpg_causes_flow.proofs.index.names_of.Goals as goal

pub loop-card-init : goal.loop-card-init
loop-card-init c = record {
  split = refl;
  flow = c.nothing-flow.ensures c.args.cards.now;
  index = record {
    labels = λ q. ap (λ es. option_map entry_target (lookup (pointwise nat_eq q) es)) c.new-names.ensures.empty;
    givers = λ q. ap (λ es. option_map entry_giver (lookup (pointwise nat_eq q) es)) c.new-names.ensures.empty;
    places = λ q. ap (λ (es : List (Name × FirstLabel)). option_map (λ (e : FirstLabel). e.position) (lookup (pointwise nat_eq q) es)) c.new-names.ensures.empty;
  };
}

pub loop-card-preserved : goal.loop-card-preserved
loop-card-preserved c =
    let before = c.loop-card.before.now in
    let card = c.in-Some.card.now in
    let after = c.in-Some.after.now in
    let here : c.args.cards.now ≡ before ++ card ∷ after = c.loop-card.invariant.split ∙ ap (λ rest. before ++ rest) c.in-Some.ensures.cases.0 in
    let front = front_more before card after c.args.cards.now here in
    let flow = subst (λ rest. IsFlow before rest c.loop-card.flow) c.in-Some.ensures.cases.0 c.loop-card.invariant.flow in
    let index = subst (λ rest. IsIndexOf c.loop-card.names.entries before rest) c.in-Some.ensures.cases.0 c.loop-card.invariant.index in
    record {
      split = here ∙ sym (append_assoc before (card ∷ []) after) ∙ ap (λ b. b ++ after) (sym front);
      flow = subst (λ b. IsFlow b after c.pass.new.self) (sym front) c.pass.ensures;
      index = subst (λ b. IsIndexOf c.note_label.new.names.entries b after) (sym front)
          (index_next before card after c.loop-card.flow flow c.loop-card.names.entries c.note_label.new.names.entries index c.in_ok-note_label.ensures);
    }
