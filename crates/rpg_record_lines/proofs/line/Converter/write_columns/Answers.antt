use Rattle.std.proofs.Common.{◌≡◌, ◌==◌, ◌++◌, not, true, List, ℕ, Ok, sym, ap, subst, ◌∙◌, arith, take, drop, length, position}
use Rattle.std.specs.List.{list_any}
use Rattle.rpg_record_lines.proofs.LineLemmas.{all_characters, whole_text}
use Rattle.rpg_record_lines.specs.Lines.{unless_bad}
use Rattle.rpg_record_lines.proofs.line.Converter.write_columns.Goals as goal

pub returns-then-are_all-clause-characters : goal.returns-then-are_all-clause-characters
returns-then-are_all-clause-characters c =
    let text = c.write_image-are_all.new.text in
    let n = c.resize.new.self.len in
    let count : length text ≡ n = omega (arith, c.write_image-are_all.auto.text, c.as_mut_slice.ensures.len) in
    let all : not (list_any (λ (b : ℕ). b == 0) text) ≡ true = sym c.write_image-are_all.ensures.all ∙ c.if-are_all.true in
    let whole = whole_text n text (drop (length text) c.resize.new.self.items) count in
    let image = rw c.as_slice-columns.ensures.value at c.write_image-are_all.ensures.image in
    subst (λ (l : List ℕ). unless_bad c.args.bytes.now l (position (λ (b : ℕ). b == 0) l) ≡ Ok (take n (text ++ drop (length text) c.resize.new.self.items))) image
    (all_characters c.args.bytes.now text all ∙ ap Ok (sym whole))
