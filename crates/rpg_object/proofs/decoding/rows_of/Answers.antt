use Rattle.std.proofs.Common.{rules, ◌≡◌, ℕ, true, ◌-◌, List, drop, length, take, Ok, sym, ap, ◌∙◌, arith}
use Rattle.std.proofs.lemmas.List.{length-drop, take_all}
use Rattle.rpg_program.specs.Object.{seen}
use Rattle.rpg_object.specs.Program.{begins_with, body, object_name, reading}
use Rattle.rpg_object.proofs.ObjectLaws.{ends_over, ends_whole}
use Rattle.rpg_object.proofs.decoding.rows_of.Goals as goal

-- the bytes after the name
after_name : (bytes : List ℕ) → take (length bytes - 6) (drop 6 bytes) ≡ drop 6 bytes
after_name bytes = take_all (length bytes - 6) (drop 6 bytes) (omega (arith, length-drop 6 bytes))

pub returns-then-not-is_empty : goal.returns-then-not-is_empty
unfolding reading
returns-then-not-is_empty c =
    let begun : begins_with object_name c.args.bytes.now ≡ true = search rules in
    let found : body.reading (drop 6 c.args.bytes.now) ≡ Ok (seen c.in_ok-rows.rows, c.in_ok-rows.rest.now) = ap body.reading (sym (after_name c.args.bytes.now)) ∙ c.in_ok-rows.ensures in
    rw (c.fault_at-then-not-is_empty.ensures, begun, found) (ends_over (seen c.in_ok-rows.rows) c.in_ok-rows.rest.now (sym c.is_empty.ensures ∙ c.if-not-is_empty.true))

pub returns : goal.returns
unfolding reading
returns c =
    let begun : begins_with object_name c.args.bytes.now ≡ true = search rules in
    let found : body.reading (drop 6 c.args.bytes.now) ≡ Ok (seen c.in_ok-rows.rows, c.in_ok-rows.rest.now) = ap body.reading (sym (after_name c.args.bytes.now)) ∙ c.in_ok-rows.ensures in
    rw (begun, found) (ends_whole (seen c.in_ok-rows.rows) c.in_ok-rows.rest.now (sym c.is_empty.ensures ∙ c.if-not-is_empty.false))
