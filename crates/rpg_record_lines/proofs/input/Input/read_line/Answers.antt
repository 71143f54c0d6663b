use Rattle.std.proofs.Common.{◌≡◌, ◌+◌, ◌-◌, ◌<◌, ◌≤◌, length, arith, rules, sym, ◌∙◌}
use Rattle.rpg_record_lines.proofs.InputLemmas.{first_line, found_by, given_more, grows_by, more_by, within_by}
use Rattle.rpg_records.specs.Sizes.{counted}
use Rattle.rpg_record_lines.specs.Inputs.{given_of, not_given, remaining_in}
use Rattle.rpg_record_lines.proofs.input.Input.read_line.Goals as goal

pub returns-then-branch-clause-front : goal.returns-then-branch-clause-front
returns-then-branch-clause-front g c =
    let k = c.args.n - c.len-in-loop-self.result in
    let left = not_given c.fill.new.self in
    let got = c.loop-self.line.items in
    let new = c.append_line.new.line.items in
    let e : k ≡ c.args.n - length got = omega (arith, c.len-in-loop-self.ensures) in
    let appended = c.in_ok-append_line.ensures.appended in
    let first : given_of c.fill.new.self ≡ counted (given_of c.args.self.now + length got) = omega (arith, c.fill.ensures.given, c.loop-self.invariant.given) in
    let given = given_more (given_of c.args.self.now) (given_of c.fill.new.self) (given_of c.append_line.new.self) got (first_line k left) new first c.in_ok-append_line.ensures.bytes.1 appended in (
      found_by c.args.n k (remaining_in g.R.Read.remaining c.args.self.now) (remaining_in g.R.Read.remaining c.loop-self.self) (g.R.Read.remaining c.fill.new.self.reader) (remaining_in g.R.Read.remaining c.append_line.new.self) left got new e c.loop-self.invariant.front c.in_ok-fill.ensures.kept
          (sym c.in_ok-append_line.ensures.ended ∙ c.if-branch.true) c.in_ok-append_line.ensures.bytes.0 appended,
      given,
    )

pub loop-self-smaller : goal.loop-self-smaller
loop-self-smaller g c =
    let k = c.args.n - c.len-in-loop-self.result in
    let left = not_given c.fill.new.self in
    let got = c.loop-self.line.items in
    let e : k ≡ c.args.n - length got = omega (arith, c.len-in-loop-self.ensures) in
    let few : length got < c.args.n = omega (arith, c.loop-self-test.true, c.len.ensures) in
    let some : 0 < length left = search rules in
    let grows = grows_by c.args.n k left got c.append_line.new.line.items e few some c.in_ok-append_line.ensures.appended in
    omega (arith, grows)

pub loop-self-preserved : goal.loop-self-preserved
loop-self-preserved g c =
    let k = c.args.n - c.len-in-loop-self.result in
    let left = not_given c.fill.new.self in
    let got = c.loop-self.line.items in
    let new = c.append_line.new.line.items in
    let e : k ≡ c.args.n - length got = omega (arith, c.len-in-loop-self.ensures) in
    let appended = c.in_ok-append_line.ensures.appended in
    let first : given_of c.fill.new.self ≡ counted (given_of c.args.self.now + length got) = omega (arith, c.fill.ensures.given, c.loop-self.invariant.given) in
    let given = given_more (given_of c.args.self.now) (given_of c.fill.new.self) (given_of c.append_line.new.self) got (first_line k left) new first c.in_ok-append_line.ensures.bytes.1 appended in
    let short : length got ≤ c.args.n = omega (arith, c.loop-self.invariant.within) in
    let long = within_by c.args.n k left got new e short appended in
    record {
      within = omega (arith, long);
      front = more_by c.args.n k (remaining_in g.R.Read.remaining c.args.self.now) (remaining_in g.R.Read.remaining c.loop-self.self) (remaining_in g.R.Read.remaining c.fill.new.self) (remaining_in g.R.Read.remaining c.append_line.new.self) left got new e c.loop-self.invariant.front c.in_ok-fill.ensures.kept
          (sym c.in_ok-append_line.ensures.ended ∙ c.if-branch.false) c.in_ok-append_line.ensures.bytes.0 appended;
      given = omega (arith, given);
    }
