use Rattle.std.proofs.Common.{Some, ap, refl, sym, ◌∙◌, ◌||◌}
use Rattle.std.specs.Prelude.{nat_le, nat_lt, ◌&&◌, ◌+◌}
use Rattle.rpg_faults_places.proofs.MatchLemmas.{not_refused, refused}
use Rattle.rpg_faults_places.specs.Places.{input_columns, matched_fields}
use Rattle.rpg_faults_places.proofs.matches.OpenMatches.refuse.Goals as goal

pub returns-in-None : goal.returns-in-None
returns-in-None c = λ specs is. not_refused (matched_fields specs) c.args.field.now c.in-None.is

pub returns-then-has : goal.returns-then-has
returns-then-has c = λ specs is.
    c.if-has.true ∙ ap (λ b. b || (nat_le c.args.self.length 256 && nat_lt 256 (c.args.self.length + input_columns c.args.field.now))) (sym c.if-has.true)
    ∙ refused c.args.self specs c.args.field.now c.number.result _ c.has.result is
    (c.in-Some.is ∙ ap (λ n. Some n) (sym c.number.ensures.value)) c.number.ensures.first c.number.ensures.last refl c.has.ensures

pub returns-else-has : goal.returns-else-has
returns-else-has c = λ specs is.
    c.pass_limit_with.ensures ∙ ap (λ b. b || (nat_le c.args.self.length 256 && nat_lt 256 (c.args.self.length + c.columns_of.result))) (sym c.if-has.false)
    ∙ refused c.args.self specs c.args.field.now c.number.result c.columns_of.result c.has.result is
    (c.in-Some.is ∙ ap (λ n. Some n) (sym c.number.ensures.value)) c.number.ensures.first c.number.ensures.last c.columns_of.ensures c.has.ensures
