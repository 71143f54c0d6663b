use Rattle.std.proofs.Common.{◌≡◌, ◌++◌, arith, rules}
use Rattle.std.proofs.lemmas.Grind.{common_steps}
use Rattle.rpg_text.specs.Texts.{trimmed}
use Rattle.rpg_paper.specs.Form.{way_of}
use Rattle.rpg_paper.proofs.Papers.{has_printed_more}
use Rattle.rpg_paper.proofs.form.Form.place.Goals as goal

pub returns-clause-paper : goal.returns-clause-paper
returns-clause-paper c =
    let appended : c.append_line.new.out.items ≡ c.args.out.now.items ++ way_of c.args.self.now ++ trimmed c.args.text.now = grind (arith, common_steps) in
    λ sent lines here has. has_printed_more _ _ lines here _ sent _ _ has (search rules) appended
