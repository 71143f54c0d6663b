use Rattle.std.proofs.Common.{◌≡◌, ℤ, ◌++◌, [], ◌∷◌, List, take, map, sym, ap, ◌∙◌, append_assoc, rules, to_z, of_z}
use Rattle.std.specs.Int.{w64}
use Rattle.std.proofs.lemmas.List.{map_push, take_more}
use Rattle.rpg_program.specs.Values.{held}
use Rattle.rpg_program.specs.declared.value.Value as entry
use Rattle.rpg_store.specs.Listed.{number_part}
use Rattle.rpg_store.proofs.listed.add_numbers.Goals as goal

abbrev numbers_in : List entry.Value → List ℤ
numbers_in us = map number_part (map held us)

pub loop-value-preserved : goal.loop-value-preserved
loop-value-preserved c =
    let us = c.args.values.now in
    let i = c.loop-value.value-index in
    let v = c.value-item.result in
    let before = c.args.numbers.now.items in
    let front = take_more us i v c.loop-value-test.true ∙ ap (λ (x : entry.Value). take i us ++ x ∷ []) (sym c.value-item.is) in
    let more = ap numbers_in front ∙ ap (map number_part) (map_push held (take i us) v) ∙ map_push number_part (map held (take i us)) (held v) in
    let back : to_z w64 (of_z w64 c.number_of.result) ≡ c.number_of.result = search rules in
    (rw back at c.in_ok-push.ensures.items) ∙ ap (λ (ns : List ℤ). ns ++ c.number_of.result ∷ []) c.loop-value.invariant ∙ append_assoc before (numbers_in (take i us)) (c.number_of.result ∷ [])
    ∙ ap (λ (n : ℤ). before ++ (numbers_in (take i us) ++ n ∷ [])) c.number_of.ensures ∙ sym (ap (λ (ns : List ℤ). before ++ ns) more)
