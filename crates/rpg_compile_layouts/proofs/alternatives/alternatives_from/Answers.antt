use Rattle.std.proofs.Common.{◌≡◌, ◌∙◌, ◌+◌, ◌++◌, Global, List, None, Some, Vec, ap, arith, drop, map, refl, subst, sym}
use Rattle.std.proofs.lemmas.Grind.{common_steps}
use Rattle.std.proofs.lemmas.List.Elements.{All-push}
use Rattle.std.specs.Prelude.{All}
use Rattle.rpg_cards.specs.Cards.{output_on}
use Rattle.rpg_compile_layouts.proofs.LineFollowers.{alternatives_and, alternatives_none, alternatives_or, next_output}
use Rattle.rpg_compile_layouts.proofs.Rows.{one_more_row}
use Rattle.rpg_compile_layouts.proofs.alternatives.alternatives_from.Goals as goal
use Rattle.rpg_compile_layouts.proofs.alternatives.alternatives_from.Goals.{in-None, in-Some-And+in_ok-push_conditions-in-Some-And, in-Some-Field, in-Some-Or+in_ok-push-in-Some-Or+in_ok-open-in-Some-Or}
use Rattle.rpg_compile_layouts.specs.Rows.{alternatives_after}
use Rattle.rpg_program.specs.declared.condition.Condition.{Condition}
use Rattle.rpg_program.specs.Kept.{IsConditionRow}
use Rattle.rpg_sheet_specs.specs.declared.output.OutputSpec.TheVariants as output

abbrev AreRows : List (Vec Condition Global) → Type 0
AreRows vs = All (λ (a : Vec Condition Global). All IsConditionRow a.items) vs

-- what was found, and what is found after it
abbrev found : Vec (Vec Condition Global) Global → List (List Condition)
found v = map (λ (a : Vec Condition Global). a.items) v.items

pub loop-card-preserved : goal.loop-card-preserved
loop-card-preserved c =
    let cards = c.args.following.now in
    let i = c.loop-card.card-index in
    let card = c.card-item.result in
    let later = drop (i + 1) cards in
    elim c.match-output.branch [
      | in-Some-And+in_ok-push_conditions-in-Some-And w ↦
          let more = w.in-Some-And.more in
          let on : Some (output.And more) ≡ output_on card.spec = cc in
          record {
            so_far =
                ap (λ (v : Vec (Vec Condition Global) Global). found v ++ alternatives_after c.match-output.open.items later) w.alternatives-is
                ∙ ap (λ (v : Vec Condition Global). found c.loop-card.alternatives ++ alternatives_after v.items later) w.open-is
                ∙ ap (λ alts. found c.loop-card.alternatives ++ alts) (sym (alternatives_and cards i card more c.loop-card.open.items _ c.loop-card-test.true c.card-item.is on w.in_ok-push_conditions-in-Some-And.ensures.value))
                ∙ c.loop-card.invariant.so_far;
            last = subst (λ (v : Vec Condition Global). All IsConditionRow v.items) (sym w.open-is) w.in_ok-push_conditions-in-Some-And.ensures.kept;
            rows = subst (λ (v : Vec (Vec Condition Global) Global). AreRows v.items) (sym w.alternatives-is) c.loop-card.invariant.rows;
          }
      | in-Some-Or+in_ok-push-in-Some-Or+in_ok-open-in-Some-Or w ↦
          let others = w.in-Some-Or.others in
          let on : Some (output.Or others) ≡ output_on card.spec = cc in
          let first = alternatives_or cards i card others c.loop-card.open.items _ c.loop-card-test.true c.card-item.is on w.in_ok-open-in-Some-Or.ensures.value in
          let pushed = w.in_ok-push-in-Some-Or.ensures.items in
          record {
            so_far =
                ap (λ (v : Vec (Vec Condition Global) Global). found v ++ alternatives_after c.match-output.open.items later) w.alternatives-is
                ∙ ap (λ (v : Vec Condition Global). found w.push.new.self ++ alternatives_after v.items later) w.open-is
                ∙ one_more_row (λ (a : Vec Condition Global). a.items) c.loop-card.alternatives.items w.push.new.self.items c.loop-card.open c.loop-card.open.items _ _ _ pushed refl first c.loop-card.invariant.so_far;
            last = subst (λ (v : Vec Condition Global). All IsConditionRow v.items) (sym w.open-is) w.in_ok-open-in-Some-Or.ensures.kept;
            rows =
                subst (λ (v : Vec (Vec Condition Global) Global). AreRows v.items) (sym w.alternatives-is)
                (subst AreRows (sym pushed) (All-push (λ (a : Vec Condition Global). All IsConditionRow a.items) c.loop-card.alternatives.items c.loop-card.open c.loop-card.invariant.rows c.loop-card.invariant.last));
          }
      | in-Some-Field w ↦ grind (arith, common_steps, next_output)
      | in-None w ↦
          let none : None ≡ output_on card.spec = cc in
          record {
            so_far =
                ap (λ (v : Vec (Vec Condition Global) Global). found v ++ alternatives_after c.match-output.open.items later) w.alternatives-is
                ∙ ap (λ (v : Vec Condition Global). found c.loop-card.alternatives ++ alternatives_after v.items later) w.open-is
                ∙ ap (λ alts. found c.loop-card.alternatives ++ alts) (sym (alternatives_none cards i card c.loop-card.open.items c.loop-card-test.true c.card-item.is none))
                ∙ c.loop-card.invariant.so_far;
            last = subst (λ (v : Vec Condition Global). All IsConditionRow v.items) (sym w.open-is) c.loop-card.invariant.last;
            rows = subst (λ (v : Vec (Vec Condition Global) Global). AreRows v.items) (sym w.alternatives-is) c.loop-card.invariant.rows;
          }
    ]
