use Rattle.std.proofs.Common.{◌++◌, ◌∷◌, ◌∙◌, [], List, ℕ, ap, arith, length, length-append, sym}
use Rattle.std.specs.Option.{option_map}
use Rattle.rpg_sheet_specs.specs.Values.{undoubled}
use Rattle.rpg_sheet_values.proofs.LiteralLemmas.{one_more}
use Rattle.rpg_sheet_values.proofs.literals.undoubled.Goals as goal

pub loop-rest-preserved : goal.loop-rest-preserved
loop-rest-preserved g c =
    let word = c.loop-rest.word in
    let character = c.in_ok-character.character in
    let following = c.in_ok-character.following.now in
    record {
      so_far = one_more c.args.text.now word following character _ c.in_ok-character.ensures.first c.loop-rest.invariant.so_far
          ∙ ap (λ (w : List ℕ). option_map (λ (t : List ℕ). w ++ t) (undoubled following)) (sym c.push.ensures);
      fits = omega (arith, ap length c.push.ensures, length-append word (character ∷ []), c.in_ok-character.ensures.shorter);
    }
